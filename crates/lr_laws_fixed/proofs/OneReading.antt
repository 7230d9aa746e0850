-- What entries fix of a reading.
use Rattle.std.proofs.Common.{◌≡◌, ◌+◌, ◌⊎◌, inl, inr, ℕ, Bool, true, false, List, [], ◌∷◌, ◌++◌, length, refl, sym, ap, ◌∙◌, subst, append_assoc, Option, Some, None, arith}
use Rattle.std.specs.List.Sorted.{IsPermutation}
use Rattle.lr_rules.specs.declared.path.Path.{Path}
use Rattle.lr_rules.proofs.Heads.{heads, tails}
use Rattle.lr_conf.specs.Meaning.{Meaning}
use Rattle.lr_lex.specs.Items.{Told}
use Rattle.lr_host.specs.declared.thing.Seen.{Seen}
use Rattle.lr_host.specs.declared.entry.Entry.{Entry}
use Rattle.lr_host.specs.declared.entry.Entry.TheVariants as entry
use Rattle.lr_host.specs.Looks.{IsDir, IsNothingOrOther}
use Rattle.lr_host.specs.Reading.{text, ReadsAll}
use Rattle.lr_host.proofs.Reading.{reads_text, reads_one}
use Rattle.lr_include.specs.declared.part.TextEnd.{TextEnd}
use Rattle.lr_include.specs.declared.part.TextEnd.TheVariants as end
use Rattle.lr_include.specs.declared.visit.Visit.{Visit}
use Rattle.lr_include.specs.declared.visit.Visit.TheVariants as visit
use Rattle.lr_include.specs.Visits.{IsKeptFile, IsExposedFile, ReadsPart, ShowsText, told_by, ShowsNames, ShowsBytes, ShowsFile, ShowsDir, ShowsVisit, look_failed, nothing, exposed, directory, file}
use Rattle.lr_include.specs.declared.task.Task.{Task}
use Rattle.lr_include.specs.declared.task.Task.TheVariants as task
use Rattle.lr_host.specs.Counted.{calls_in}
use Rattle.lr_host.proofs.Fronts.{front_same, saw_same, names_same}
use Rattle.lr_include.specs.Allowed.{failed_read, failed_visit, failed_in}
use Rattle.lr_include.specs.Stages.{Stage, settled_stage, visited, at_visits, is_shallow, room_for, ShowsNext, ShowsVisits, begun, visits_mean, Reads}
use Rattle.lr_include.proofs.Calls.{calls_are_failed, failed_first, failed_one}
use Rattle.lr_laws_looks.proofs.OneOrder.{one_order}
use Rattle.lr_laws_looks.proofs.OneWord.{AreOne}

-- ---- entries, taken apart from the front

none_one : {A : Type 0} (a b c : A) (ts us vs ws : List Entry) → a ≡ c → b ≡ c → ts ≡ [] → us ≡ [] → ts ++ vs ≡ us ++ ws → AreOne A a b ts us vs ws
none_one a b c ts us vs ws p q r s e = record { came = p ∙ sym q; left = r ∙ sym s; behind = front_same ts us [] [] vs ws r s e }

-- ---- reads

-- where none failed, all were made
part_all : (x : Path) (room : ℕ) (bytes : List ℕ) (how : TextEnd) (ts : List Entry) → failed_read how ≡ 0 → ReadsPart x room bytes how ts → ReadsAll x (room + 1) bytes ts
part_all x room bytes end.Whole ts z r = r.1
part_all x room bytes end.TooMany ts z r = r.1
part_all x room bytes end.Failed ts z r = absurd (cc z)

-- where none failed, the reads ended in one way
how_one : (x : Path) (room : ℕ) (a b : List ℕ) (h k : TextEnd) (ts us : List Entry) → a ≡ b → ReadsPart x room a h ts → ReadsPart x room b k us → failed_read h ≡ 0 → failed_read k ≡ 0 → h ≡ k
how_one x room a b end.Failed k ts us e r s p q = absurd (cc p)
how_one x room a b h end.Failed ts us e r s p q = absurd (cc q)
how_one x room a b end.Whole end.Whole ts us e r s p q = refl
how_one x room a b end.TooMany end.TooMany ts us e r s p q = refl
how_one x room a b end.Whole end.TooMany ts us e r s p q = absurd (let f = r.0 in let g = s.0 in let l = ap length e in omega (arith, f, g, l))
how_one x room a b end.TooMany end.Whole ts us e r s p q = absurd (let f = r.0 in let g = s.0 in let l = ap length e in omega (arith, f, g, l))

bytes_both : (x : Path) (room : ℕ) (a b : List Told) (m n : ℕ) (h k : TextEnd) (ts us vs ws : List Entry) → ShowsText x room a m h ts → ShowsText x room b n k us → failed_read h ≡ 0 → failed_read k ≡ 0 → ts ++ vs ≡ us ++ ws
    → AreOne Visit (visit.Reads a m h) (visit.Reads b n k) ts us vs ws
bytes_both x room a b m n h k ts us vs ws r s f g e =
    let one = part_all x room r.bytes h ts f r.reads in
    let other = part_all x room s.bytes k us g s.reads in
    let reads = reads_one x x (room + 1) r.bytes s.bytes ts us vs ws one other e in
    let bytes : r.bytes ≡ s.bytes = sym (reads_text x (room + 1) r.bytes ts one) ∙ (ap text reads.0 ∙ reads_text x (room + 1) s.bytes us other) in
    let how = how_one x room r.bytes s.bytes h k ts us bytes r.reads s.reads f g in
    let told : a ≡ b = r.told_are ∙ (ap (λ (bs : List ℕ). told_by room bs h) bytes ∙ (ap (told_by room s.bytes) how ∙ sym s.told_are)) in
    let size : m ≡ n = r.size_is ∙ (ap (λ (bs : List ℕ). length bs) bytes ∙ sym s.size_is) in
    record { came = ap (λ (y : List Told). visit.Reads y m h) told ∙ (ap (λ (y : ℕ). visit.Reads b y h) size ∙ ap (visit.Reads b n) how); left = reads.0; behind = reads.1 }

bytes_one : (x : Path) (room : ℕ) (v w : Visit) (ts us vs ws : List Entry) → ShowsBytes x room v ts → ShowsBytes x room w us → failed_visit v ≡ 0 → failed_visit w ≡ 0 → ts ++ vs ≡ us ++ ws → AreOne Visit v w ts us vs ws
bytes_one x room (visit.Reads a m h) (visit.Reads b n k) ts us vs ws r s f g e = bytes_both x room a b m n h k ts us vs ws r s f g e
bytes_one x room (visit.Reads a m h) _ ts us vs ws r s f g e = absurd s
bytes_one x room _ w ts us vs ws r s f g e = absurd r

file_one : (x : Path) (room : Option ℕ) (v w : Visit) (ts us vs ws : List Entry) → ShowsFile x room v ts → ShowsFile x room w us → failed_visit v ≡ 0 → failed_visit w ≡ 0 → ts ++ vs ≡ us ++ ws → AreOne Visit v w ts us vs ws
file_one x None v w ts us vs ws r s f g e = none_one v w visit.File ts us vs ws r.0 s.0 r.1 s.1 e
file_one x (Some room) v w ts us vs ws r s f g e = bytes_one x room v w ts us vs ws r s f g e

-- ---- names

names_both : (x : Path) (a b : List (List ℕ)) (ts us vs ws : List Entry) → ShowsNames x (visit.Holds a) ts → ShowsNames x (visit.Holds b) us → ts ++ vs ≡ us ++ ws → AreOne Visit (visit.Holds a) (visit.Holds b) ts us vs ws
names_both x a b ts us vs ws r s e =
    let one = r.1 in
    let other = s.1 in
    let split = front_same ts us (entry.List x one.listed ∷ []) (entry.List x other.listed ∷ []) vs ws one.list other.list e in
    let first = heads (entry.List x one.listed) (entry.List x other.listed) vs ws split in
    let listed = names_same x x one.listed other.listed first in
    let names = one_order one.listed a b (record { same = one.same; rising = r.0 }) (record { same = subst (λ (ns : List (List ℕ)). IsPermutation ns b) (sym listed) other.same; rising = s.0 }) in
    record { came = ap visit.Holds names; left = one.list ∙ (ap (λ y. y ∷ []) first ∙ sym other.list); behind = tails (entry.List x one.listed) (entry.List x other.listed) vs ws split }

names_one : (x : Path) (v w : Visit) (ts us vs ws : List Entry) → ShowsNames x v ts → ShowsNames x w us → failed_visit v ≡ 0 → failed_visit w ≡ 0 → ts ++ vs ≡ us ++ ws → AreOne Visit v w ts us vs ws
names_one x (visit.Holds a) (visit.Holds b) ts us vs ws r s f g e = names_both x a b ts us vs ws r s e
names_one x (visit.Holds a) visit.Unlisted ts us vs ws r s f g e = absurd (cc g)
names_one x (visit.Holds a) _ ts us vs ws r s f g e = absurd s
names_one x visit.Unlisted w ts us vs ws r s f g e = absurd (cc f)
names_one x _ w ts us vs ws r s f g e = absurd r

dir_one : (x : Path) (lists : Bool) (v w : Visit) (ts us vs ws : List Entry) → ShowsDir x lists v ts → ShowsDir x lists w us → failed_visit v ≡ 0 → failed_visit w ≡ 0 → ts ++ vs ≡ us ++ ws → AreOne Visit v w ts us vs ws
dir_one x false v w ts us vs ws r s f g e = none_one v w visit.Dir ts us vs ws r.0 s.0 r.1 s.1 e
dir_one x true v w ts us vs ws r s f g e = names_one x v w ts us vs ws r s f g e

-- ---- visits

-- what a visit shows behind its look
abbrev Behind : Path → Bool → Option ℕ → Visit → Option Seen → List Entry → Type 0
Behind x lists room v seen ts = (IsNothingOrOther seen × (v ≡ visit.Nothing) × (ts ≡ []))
    ⊎ ((IsExposedFile seen × (v ≡ visit.Exposed) × (ts ≡ [])) ⊎ ((IsDir seen × ShowsDir x lists v ts) ⊎ (IsKeptFile seen × ShowsFile x room v ts)))

record Looks (x : Path) (lists : Bool) (room : Option ℕ) (v : Visit) (ts : List Entry) : Type 0 where
  seen : Option Seen
  back : List Entry
  are : ts ≡ entry.Look x seen ∷ back
  shown : Behind x lists room v seen back

looks : (x : Path) (lists : Bool) (room : Option ℕ) (v : Visit) (ts : List Entry) → failed_visit v ≡ 0 → ShowsVisit x lists room v ts → Looks x lists room v ts
looks x lists room v ts z (look_failed is e) = absurd (let a : failed_visit v ≡ 1 = ap failed_visit is in omega (arith, a, z))
looks x lists room v ts z (nothing is s) = record { seen = s.seen; back = []; are = s.look; shown = inl (s.is, is, refl) }
looks x lists room v ts z (exposed is s) = record { seen = s.seen; back = []; are = s.look; shown = inr (inl (s.is, is, refl)) }
looks x lists room v ts z (directory r) = record { seen = r.first.seen; back = r.back; are = r.joined ∙ ap (λ es. es ++ r.back) r.first.look; shown = inr (inr (inl (r.first.is, r.second))) }
looks x lists room v ts z (file r) = record { seen = r.first.seen; back = r.back; are = r.joined ∙ ap (λ es. es ++ r.back) r.first.look; shown = inr (inr (inr (r.first.is, r.second))) }

-- what was seen is one of these alone
not_dir : (seen : Option Seen) → IsNothingOrOther seen → IsDir seen → ⊥
not_dir None a b = b
not_dir (Some s) a b = cc (a, b)

not_file : (seen : Option Seen) → IsNothingOrOther seen → IsKeptFile seen → ⊥
not_file None a b = b
not_file (Some s) a b = let k = b.0 in cc (a, k)

not_exposed : (seen : Option Seen) → IsNothingOrOther seen → IsExposedFile seen → ⊥
not_exposed None a b = b
not_exposed (Some s) a b = let k = b.0 in cc (a, k)

dir_or_file : (seen : Option Seen) → IsDir seen → IsKeptFile seen → ⊥
dir_or_file None a b = b
dir_or_file (Some s) a b = let k = b.0 in cc (a, k)

dir_or_exposed : (seen : Option Seen) → IsDir seen → IsExposedFile seen → ⊥
dir_or_exposed None a b = b
dir_or_exposed (Some s) a b = let k = b.0 in cc (a, k)

kept_or_exposed : (seen : Option Seen) → IsKeptFile seen → IsExposedFile seen → ⊥
kept_or_exposed None a b = b
kept_or_exposed (Some s) a b = let k = a.1 in let l = b.1 in cc (k, l)

behind_one : (x : Path) (lists : Bool) (room : Option ℕ) (v w : Visit) (seen : Option Seen) (ts us vs ws : List Entry) → failed_visit v ≡ 0 → failed_visit w ≡ 0 → Behind x lists room v seen ts → Behind x lists room w seen us → ts ++ vs ≡ us ++ ws → AreOne Visit v w ts us vs ws
behind_one x lists room v w seen ts us vs ws f g (inl a) (inl b) e = none_one v w visit.Nothing ts us vs ws a.1 b.1 a.2 b.2 e
behind_one x lists room v w seen ts us vs ws f g (inl a) (inr (inl b)) e = absurd (not_exposed seen a.0 b.0)
behind_one x lists room v w seen ts us vs ws f g (inl a) (inr (inr (inl b))) e = absurd (not_dir seen a.0 b.0)
behind_one x lists room v w seen ts us vs ws f g (inl a) (inr (inr (inr b))) e = absurd (not_file seen a.0 b.0)
behind_one x lists room v w seen ts us vs ws f g (inr (inl a)) (inl b) e = absurd (not_exposed seen b.0 a.0)
behind_one x lists room v w seen ts us vs ws f g (inr (inl a)) (inr (inl b)) e = none_one v w visit.Exposed ts us vs ws a.1 b.1 a.2 b.2 e
behind_one x lists room v w seen ts us vs ws f g (inr (inl a)) (inr (inr (inl b))) e = absurd (dir_or_exposed seen b.0 a.0)
behind_one x lists room v w seen ts us vs ws f g (inr (inl a)) (inr (inr (inr b))) e = absurd (kept_or_exposed seen b.0 a.0)
behind_one x lists room v w seen ts us vs ws f g (inr (inr (inl a))) (inl b) e = absurd (not_dir seen b.0 a.0)
behind_one x lists room v w seen ts us vs ws f g (inr (inr (inl a))) (inr (inl b)) e = absurd (dir_or_exposed seen a.0 b.0)
behind_one x lists room v w seen ts us vs ws f g (inr (inr (inl a))) (inr (inr (inl b))) e = dir_one x lists v w ts us vs ws a.1 b.1 f g e
behind_one x lists room v w seen ts us vs ws f g (inr (inr (inl a))) (inr (inr (inr b))) e = absurd (dir_or_file seen a.0 b.0)
behind_one x lists room v w seen ts us vs ws f g (inr (inr (inr a))) (inl b) e = absurd (not_file seen b.0 a.0)
behind_one x lists room v w seen ts us vs ws f g (inr (inr (inr a))) (inr (inl b)) e = absurd (kept_or_exposed seen a.0 b.0)
behind_one x lists room v w seen ts us vs ws f g (inr (inr (inr a))) (inr (inr (inl b))) e = absurd (dir_or_file seen b.0 a.0)
behind_one x lists room v w seen ts us vs ws f g (inr (inr (inr a))) (inr (inr (inr b))) e = file_one x room v w ts us vs ws a.1 b.1 f g e

visit_one : (x : Path) (lists : Bool) (room : Option ℕ) (v w : Visit) (ts us vs ws : List Entry) → failed_visit v ≡ 0 → failed_visit w ≡ 0 → ShowsVisit x lists room v ts → ShowsVisit x lists room w us → ts ++ vs ≡ us ++ ws → AreOne Visit v w ts us vs ws
visit_one x lists room v w ts us vs ws f g a b e =
    let one = looks x lists room v ts f a in
    let other = looks x lists room w us g b in
    let split = front_same ts us (entry.Look x one.seen ∷ one.back) (entry.Look x other.seen ∷ other.back) vs ws one.are other.are e in
    let first = heads (entry.Look x one.seen) (entry.Look x other.seen) (one.back ++ vs) (other.back ++ ws) split in
    let rest = tails (entry.Look x one.seen) (entry.Look x other.seen) (one.back ++ vs) (other.back ++ ws) split in
    let saw = saw_same x x one.seen other.seen first in
    let same = behind_one x lists room v w one.seen one.back other.back vs ws f g one.shown (subst (λ (s : Option Seen). Behind x lists room w s other.back) (sym saw) other.shown) rest in
    record { came = same.came; left = one.are ∙ (ap (λ y. y ∷ one.back) first ∙ (ap (λ ys. entry.Look x other.seen ∷ ys) same.left ∙ sym other.are)); behind = same.behind }

-- ---- the next visit

next_one : (s : Stage) (todo : List Task) (v w : Option Visit) (ts us vs ws : List Entry) → failed_one v ≡ 0 → failed_one w ≡ 0 → ShowsNext s todo v ts → ShowsNext s todo w us → ts ++ vs ≡ us ++ ws → AreOne (Option Visit) v w ts us vs ws
next_one s (task.Ask a ∷ todo) (Some v) (Some w) ts us vs ws f g h k e = let one = visit_one a.path (is_shallow s) (room_for s) v w ts us vs ws f g h k e in record { came = ap Some one.came; left = one.left; behind = one.behind }
next_one s (task.Name a ∷ todo) (Some v) (Some w) ts us vs ws f g h k e = let one = visit_one a.path false (room_for s) v w ts us vs ws f g h.1 k.1 e in record { came = ap Some one.came; left = one.left; behind = one.behind }
next_one s (task.Name a ∷ todo) (Some v) None ts us vs ws f g h k e = absurd (h.0 k.0)
next_one s (task.Name a ∷ todo) None (Some w) ts us vs ws f g h k e = absurd (k.0 h.0)
next_one s (task.Name a ∷ todo) None None ts us vs ws f g h k e = none_one None None None ts us vs ws refl refl h.1 k.1 e
next_one s (task.Ask a ∷ todo) None w ts us vs ws f g h k e = absurd h
next_one s (task.Ask a ∷ todo) (Some v) None ts us vs ws f g h k e = absurd k
next_one s (task.Line l ∷ todo) v w ts us vs ws f g h k e = absurd h
next_one s [] v w ts us vs ws f g h k e = absurd h

no_next : (s : Stage) (todo : List Task) (v : Option Visit) (ts : List Entry) → todo ≡ [] → ShowsNext s todo v ts → ⊥
no_next s todo v ts e h = subst (λ (t : List Task). ShowsNext s t v ts) e h

-- ---- all visits

visits_one : (s : Stage) (xs ys : List (Option Visit)) (ts us vs ws : List Entry) → (at_visits s xs).todo ≡ [] → (at_visits s ys).todo ≡ [] → failed_in xs ≡ 0 → failed_in ys ≡ 0
    → ShowsVisits s xs ts → ShowsVisits s ys us → ts ++ vs ≡ us ++ ws → AreOne (List (Option Visit)) xs ys ts us vs ws
visits_one s [] [] ts us vs ws m n f g h k e = none_one [] [] [] ts us vs ws refl refl h k e
visits_one s [] (y ∷ ys) ts us vs ws m n f g h k e = absurd (no_next (settled_stage s) (settled_stage s).todo y k.front m k.first)
visits_one s (x ∷ xs) [] ts us vs ws m n f g h k e = absurd (no_next (settled_stage s) (settled_stage s).todo x h.front n h.first)
visits_one s (x ∷ xs) (y ∷ ys) ts us vs ws m n f g h k e =
    let a = failed_first x xs in
    let b = failed_first y ys in
    let fx : failed_in xs ≡ 0 = omega (arith, a, f) in
    let gy : failed_in ys ≡ 0 = omega (arith, b, g) in
    let split = front_same ts us (h.front ++ h.back) (k.front ++ k.back) vs ws h.joined k.joined e in
    let one = next_one (settled_stage s) (settled_stage s).todo x y h.front k.front (h.back ++ vs) (k.back ++ ws) (omega (arith, a, f)) (omega (arith, b, g)) h.first k.first
    (sym (append_assoc h.front h.back vs) ∙ (split ∙ append_assoc k.front k.back ws)) in
    let more = visits_one (visited (settled_stage s) x) xs ys h.back k.back vs ws m (subst (λ (v : Option Visit). (at_visits (visited (settled_stage s) v) ys).todo ≡ []) (sym one.came) n) fx gy h.second
    (subst (λ (v : Option Visit). ShowsVisits (visited (settled_stage s) v) ys k.back) (sym one.came) k.second) one.behind in
    record {
      came = ap (λ v. v ∷ xs) one.came ∙ ap (λ l. y ∷ l) more.came;
      left = h.joined ∙ (ap (λ es. es ++ h.back) one.left ∙ (ap (λ es. k.front ++ es) more.left ∙ sym k.joined));
      behind = more.behind;
    }

pub readings_one : (paths : List Path) (m n : Meaning) (ts us vs ws : List Entry) → Reads paths m ts → Reads paths n us → calls_in m.faults ≡ 0 → calls_in n.faults ≡ 0 → ts ++ vs ≡ us ++ ws
    → (m ≡ n) × (ts ≡ us) × (vs ≡ ws)
readings_one paths m n ts us vs ws r s f g e =
    let a = calls_are_failed paths m ts r in
    let b = calls_are_failed paths n us s in
    let one = visits_one (begun paths) r.visits s.visits ts us vs ws r.all s.all (omega (arith, a, f)) (omega (arith, b, g)) r.shown s.shown e in
    (r.means ∙ (ap (visits_mean paths) one.came ∙ sym s.means), one.left, one.behind)
