-- What comes before a call, and what the call leaves.
use Rattle.std.proofs.Common.{◌≡◌, ◌≢◌, ◌⊎◌, inl, inr, ℕ, zero, suc, ◌+◌, ◌<◌, ◌≤◌, Bool, true, false, List, [], ◌∷◌, ◌++◌, length, take, drop, get_or, Option, Some, None, refl, sym, ap, subst, ◌∙◌, arith, append_assoc}
use Rattle.std.proofs.lemmas.List.{take_more, drop_more, get_or_default, take_all, drop_all, append-nil, take-append-drop}
use Rattle.std.specs.Prelude.{option_to_list, filter, Result, Ok, Err, IfOk, IsOk, IsErr}
use Rattle.lr_rules.specs.declared.path.Path.{Path}
use Rattle.lr_host.specs.declared.thing.Thing.TheVariants as thing
use Rattle.lr_host.specs.declared.entry.Entry.TheVariants as entry
use Rattle.lr_host.specs.declared.journal.Journal.{Journal}
use Rattle.lr_host.specs.declared.entry.Entry.{Entry}
use Rattle.lr_host.specs.World.{Past, ◌▸◌, past, world, names}
use Rattle.lr_host.specs.Fits.{Fits}
use Rattle.lr_host.specs.Steps.{is_naming}
use Rattle.lr_host.specs.Told.{Onward, IsWriters, Can, CanCall, Made, at_first, by_writer, by_tool, Left, is_told, IsTools, Are, DidWhere, DidPart}
use Rattle.lr_host.proofs.Left.{can_stay}
use Rattle.lr_host.proofs.Made.{made_on}
use Rattle.lr_memhost.specs.declared.act.Act.{Act}
use Rattle.lr_disk.specs.State.{with_entry}
use Rattle.lr_memhost.specs.How.{downs}
use Rattle.lr_memhost.specs.Acts.{View, how_at, ActsCame, all, stays, enters, passes, stops, ActComes, Entered, CallTurned, Starved, one_more, counts_of, IsSure, IsMaking, LeftNew}
use Rattle.lr_disk.proofs.JournalLemmas.{past_entry}

pub same_act : (acts : List Act) (at : ℕ) (a b : Act) → at < length acts → a ≡ get_or acts at a → b ≡ get_or acts at b → a ≡ b
same_act acts at a b lt is is' = is ∙ (get_or_default acts at a b lt ∙ sym is')

-- the acts that were looked at so far came, and those before the place stay
abbrev pub SoFar : ℕ → Past → List Act → Past → List Act → ℕ → Type 0
SoFar number p acts q now at = (stopped : Bool) (r : Past) (left : List Act) → ActsCame number stopped q (drop at now) r left → ActsCame number stopped p acts r (take at now ++ left)

pub act_stays : (number : ℕ) (p : Past) (acts : List Act) (q : Past) (now : List Act) (at : ℕ) (a : Act) → a ≡ get_or now at a → at < length now → number < a.before → SoFar number p acts q now at → SoFar number p acts q now (at + 1)
act_stays number p acts q now at a is lt less so_far stopped r left came =
    subst (λ l. ActsCame number stopped p acts r l) (sym (ap (λ l. l ++ left) (take_more now at a lt ∙ ap (λ b. take at now ++ b ∷ []) (sym is)) ∙ append_assoc (take at now) (a ∷ []) left))
    (so_far stopped r (a ∷ left) (subst (λ l. ActsCame number stopped q l r (a ∷ left)) (sym (drop_more now at a lt ∙ ap (λ b. b ∷ drop (at + 1) now) (sym is))) (stays less came)))

came_by : (number : ℕ) (stopped : Bool) (a : Act) (p q r : Past) (acts left : List Act) → a.before ≤ number → ActComes a p q → ActsCame number stopped q acts r left → ActsCame number stopped p (a ∷ acts) r left
came_by number stopped a p q r acts left le (inl f) came = enters le f.0 f.1 (subst (λ m. ActsCame number stopped m acts r left) f.2 came)
came_by number stopped a p q r acts left le (inr f) came = passes le f.0 (subst (λ m. ActsCame number stopped m acts r left) f.1 came)

take_front : (at : ℕ) (now : List Act) (rest : List Act) → at ≤ length now → take at (take at now ++ rest) ≡ take at now
take_front zero now rest le = refl
take_front (suc at) [] rest le = absurd (omega arith)
take_front (suc at) (a ∷ now) rest le = ap (λ l. a ∷ l) (take_front at now rest (omega arith))

drop_front : (at : ℕ) (now : List Act) (rest : List Act) → at ≤ length now → drop at (take at now ++ rest) ≡ rest
drop_front zero now rest le = refl
drop_front (suc at) [] rest le = absurd (omega arith)
drop_front (suc at) (a ∷ now) rest le = drop_front at now rest (omega arith)

pub act_comes : (number : ℕ) (p : Past) (acts : List Act) (q m : Past) (now then : List Act) (at : ℕ) (a : Act) → a ≡ get_or now at a → at < length now → a.before ≤ number → ActComes a q m → then ≡ take at now ++ drop (at + 1) now
    → SoFar number p acts q now at → SoFar number p acts m then at
act_comes number p acts q m now then at a is lt le comes e so_far stopped r left came =
    subst (λ l. ActsCame number stopped p acts r (l ++ left)) (sym (ap (take at) e ∙ take_front at now (drop (at + 1) now) (omega arith)))
    (so_far stopped r left (subst (λ l. ActsCame number stopped q l r left) (sym (drop_more now at a lt ∙ ap (λ b. b ∷ drop (at + 1) now) (sym is)))
    (came_by number stopped a q m r (drop (at + 1) now) left le comes (subst (λ l. ActsCame number stopped m l r left) (ap (drop at) e ∙ drop_front at now (drop (at + 1) now) (omega arith)) came))))

pub all_came : (number : ℕ) (p : Past) (acts : List Act) (q : Past) (now : List Act) (at : ℕ) → length now ≤ at → SoFar number p acts q now at → ActsCame number false p acts q now
all_came number p acts q now at le so_far =
    subst (λ l. ActsCame number false p acts q l) (append-nil (take at now) ∙ take_all at now le)
    (so_far false q [] (subst (λ l. ActsCame number false q l q []) (sym (drop_all at now le)) all))

pub stopped_there : (number : ℕ) (p : Past) (acts : List Act) (q : Past) (now : List Act) (at : ℕ) → SoFar number p acts q now at → ActsCame number true p acts q now
stopped_there number p acts q now at so_far = subst (λ l. ActsCame number true p acts q l) (take-append-drop at now) (so_far true q (drop at now) (stops refl))

-- what writers did
pub came_made : (number : ℕ) (stopped : Bool) (p : Past) (acts : List Act) (q : Past) (left : List Act) → ActsCame number stopped p acts q left → Made p [] q
came_made number stopped p _ _ _ all = at_first
came_made number stopped p _ q _ (stays less came) = came_made number stopped p _ q _ came
came_made number stopped p _ q left (enters {a = a} le w f came) = made_on p (p ▸ a.what) q [] [] (by_writer at_first w f) (came_made number stopped (p ▸ a.what) _ q left came)
came_made number stopped p _ q left (passes le unfit came) = came_made number stopped p _ q left came
came_made number stopped p _ _ _ (stops s) = at_first

-- A call leaves what it says.
pub turned_left : {P : List Entry → Type 0} {v w : View} → CallTurned P v w → Left P (Some v.journal) (Some w.journal)
turned_left {P} {v} {w} t = go t.left t.entered t.has
  where
    made : Made (past v.journal) [] t.between
    made = came_made v.calls t.stopped (past v.journal) v.acts t.between w.acts t.came

    go : (e : Option Entry) → Entered t.between e (past w.journal) → P (option_to_list e) → Left P (Some v.journal) (Some w.journal)
    go None is has = is_told (subst (λ q. Made (past v.journal) [] q) (sym is) made) has
    go (Some e) is has = is_told (subst (λ q. Made (past v.journal) (e ∷ []) q) (sym is.2) (by_tool made is.0 is.1)) has

-- nothing was left yet
first_between : {v m : View} → (t : CallTurned (Are []) v m) → past m.journal ≡ t.between
first_between {v} {m} t = go t.left t.entered t.has
  where
    go : (e : Option Entry) → Entered t.between e (past m.journal) → option_to_list e ≡ [] → past m.journal ≡ t.between
    go None is has = is
    go (Some e) is has = absurd (cc)

-- what comes before a call
pub turned_first : (v m w : View) (stopped : Bool) → m ≡ v → ActsCame m.calls stopped (past m.journal) m.acts (past w.journal) w.acts → (stopped ≡ true → Starved m w) → w.calls ≡ one_more m.calls → w.failing ≡ m.failing → w.down ≡ downs (how_at m) → CallTurned (Are []) v w
turned_first v m w stopped is came starved calls failing down =
    subst (λ x. CallTurned (Are []) x w) is
    (record { between = past w.journal; stopped = stopped; came = came; starved = starved; left = None; entered = refl; has = refl; calls = calls; failing = failing; down = down })

-- the fields that a call leaves alone
pub record Alike (v w : View) : Type 0 where
  pub acts : w.acts ≡ v.acts
  pub failing : w.failing ≡ v.failing
  pub calls : w.calls ≡ v.calls
  pub down : w.down ≡ v.down
  pub starved : v.starved ≤ w.starved

more_starved : (v m w : View) → m.starved ≤ w.starved → Starved v m → Starved v w
more_starved v m w le s = omega arith

-- a call that leaves nothing
pub turned_kept : (P : List Entry → Type 0) {v m w : View} → CallTurned (Are []) v m → Alike m w → w.journal ≡ m.journal → P [] → CallTurned P v w
turned_kept P {v} {m} {w} t alike same has = record {
  between = t.between;
  stopped = t.stopped;
  came = subst (λ l. ActsCame v.calls t.stopped (past v.journal) v.acts t.between l) (sym alike.acts) t.came;
  starved = λ s. more_starved v m w alike.starved (t.starved s);
  left = None;
  entered = ap past same ∙ first_between t;
  has = has;
  calls = alike.calls ∙ t.calls;
  failing = alike.failing ∙ t.failing;
  down = alike.down ∙ t.down;
}

-- a call that leaves its entry
pub turned_entry : (P : List Entry → Type 0) (e : Entry) {v m w : View} → CallTurned (Are []) v m → Alike m w → w.journal ≡ with_entry m.journal e → IsTools e → Fits (world (past m.journal)) e → P (e ∷ []) → CallTurned P v w
turned_entry P e {v} {m} {w} t alike more tools fits has = record {
  between = t.between;
  stopped = t.stopped;
  came = subst (λ l. ActsCame v.calls t.stopped (past v.journal) v.acts t.between l) (sym alike.acts) t.came;
  starved = λ s. more_starved v m w alike.starved (t.starved s);
  left = Some e;
  entered = (tools, subst (λ q. Fits (world q) e) (first_between t) fits, ap past more ∙ (past_entry m.journal e ∙ ap (λ q. q ▸ e) (first_between t)));
  has = has;
  calls = alike.calls ∙ t.calls;
  failing = alike.failing ∙ t.failing;
  down = alike.down ∙ t.down;
}

pub like : (m w x : View) → w ≡ x → m.starved ≤ w.starved → x.acts ≡ m.acts → x.failing ≡ m.failing → x.calls ≡ m.calls → x.down ≡ m.down → Alike m w
like m w x is le acts failing calls down = record { acts = ap (λ v. v.acts) is ∙ acts; failing = ap (λ v. v.failing) is ∙ failing; calls = ap (λ v. v.calls) is ∙ calls; down = ap (λ v. v.down) is ∙ down; starved = le }

pub like_same : (m w x : View) → w ≡ x → x.starved ≡ m.starved → x.acts ≡ m.acts → x.failing ≡ m.failing → x.calls ≡ m.calls → x.down ≡ m.down → Alike m w
like_same m w x is starved acts failing calls down = like m w x is (let e : w.starved ≡ m.starved = ap (λ v. v.starved) is ∙ starved in omega arith) acts failing calls down

-- what fits before the acts fits behind them
pub still_can : {e : Entry} {v m : View} → Can (Some v.journal) e → CallTurned (Are []) v m → CanCall (names (world (past m.journal))) e
still_can can t = (can_stay can (turned_left t) (λ ts is. ap (filter is_naming) is)).can

-- no count fell where the rest is as it was
pub none_fell : (v w : View) → v.faults ≤ w.faults → w.rest ≡ v.rest → Onward (counts_of v) (counts_of w)
none_fell v w le same = ((le, at_least (ap (λ r. r.bad_ends) same), at_least (ap (λ r. r.held) same)), ap (λ r. r.mine) same)
  where
    at_least : {a b : ℕ} → b ≡ a → a ≤ b
    at_least e = omega arith

-- an entry that was made for a call, where there was memory for it
pub sure_if : {E : Type 0} (r : Result Entry E) (e : Entry) (told : Option Journal) → IfOk r (λ x. x ≡ e) → IsSure e → Can told e → IfOk r (λ x. IsSure x × Can told x)
sure_if (Ok x) e told is sure can = subst (λ y. IsSure y × Can told y) (sym is) (sure, can)
sure_if (Err f) e told is sure can = tt

pub making_if : {E : Type 0} (r : Result Entry E) (path : Path) (e : Entry) (told : Option Journal) → IfOk r (λ x. x ≡ e) → IsMaking path e → Can told e → IfOk r (λ x. IsMaking path x × Can told x)
making_if (Ok x) path e told is making can = subst (λ y. IsMaking path y × Can told y) (sym is) (making, can)
making_if (Err f) path e told is making can = tt

pub sure_tools : (e : Entry) → IsSure e → IsTools e
sure_tools (entry.Starts state now rules) s = tt
sure_tools (entry.Renames from to) s = tt
sure_tools (entry.Appends x bytes) s = tt
sure_tools (entry.Truncates x) s = tt
sure_tools (entry.Unlinks x) s = tt
sure_tools (entry.SyncsFile x) s = tt
sure_tools (entry.SyncsDir x) s = tt
sure_tools _ s = absurd s

pub sure_fits : (p : Past) (e : Entry) → IsSure e → CanCall (names (world p)) e → Fits (world p) e
sure_fits p (entry.Starts state now rules) s can = can
sure_fits p (entry.Renames from to) s can = can
sure_fits p (entry.Appends x bytes) s can = can
sure_fits p (entry.Truncates x) s can = can
sure_fits p (entry.Unlinks x) s can = can
sure_fits p (entry.SyncsFile x) s can = can
sure_fits p (entry.SyncsDir x) s can = can
sure_fits p _ s can = absurd s

-- writers leave whether a run stands
came_running : (number : ℕ) (stopped : Bool) (p : Past) (acts : List Act) (q : Past) (left : List Act) → ActsCame number stopped p acts q left → (world q).running ≡ (world p).running
came_running number stopped p _ _ _ all = refl
came_running number stopped p _ q _ (stays less came) = came_running number stopped p _ q _ came
came_running number stopped p _ q left (enters {a = a} le w f came) = came_running number stopped (p ▸ a.what) _ q left came ∙ wrote (a.what) w
  where
    wrote : (e : Entry) → IsWriters e → (world (p ▸ e)).running ≡ (world p).running
    wrote (entry.Attach v x at) i = refl
    wrote (entry.Feed v bytes at) i = refl
    wrote (entry.Flush v) i = refl
    wrote (entry.Detach v) i = refl
    wrote _ i = absurd i
came_running number stopped p _ q left (passes le unfit came) = came_running number stopped p _ q left came
came_running number stopped p _ _ _ (stops s) = refl

pub still_running : {v m : View} → CallTurned (Are []) v m → (world (past v.journal)).running ≡ true → (world (past m.journal)).running ≡ true
still_running {v} {m} t runs = ap (λ q. (world q).running) (first_between t) ∙ (came_running v.calls t.stopped (past v.journal) v.acts t.between m.acts t.came ∙ runs)

-- what a call left, said otherwise
pub turned_as : {P : List Entry → Type 0} (Q : List Entry → Type 0) → ((ts : List Entry) → P ts → Q ts) → {v w : View} → CallTurned P v w → CallTurned Q v w
turned_as Q more t = record { between = t.between; stopped = t.stopped; came = t.came; starved = t.starved; left = t.left; entered = t.entered; has = more (option_to_list t.left) t.has; calls = t.calls; failing = t.failing; down = t.down }

-- what a call left, of a host that is as it was in all that a call tells
pub turned_rest : (P : List Entry → Type 0) {v w x : View} → CallTurned P v w → Alike w x → x.journal ≡ w.journal → CallTurned P v x
turned_rest P {v} {w} {x} t alike same = record {
  between = t.between;
  stopped = t.stopped;
  came = subst (λ l. ActsCame v.calls t.stopped (past v.journal) v.acts t.between l) (sym alike.acts) t.came;
  starved = λ s. more_starved v w x alike.starved (t.starved s);
  left = t.left;
  entered = subst (λ j. Entered t.between t.left (past j)) (sym same) t.entered;
  has = t.has;
  calls = alike.calls ∙ t.calls;
  failing = alike.failing ∙ t.failing;
  down = alike.down ∙ t.down;
}

-- what a call left that failed, of the error that it hands on
pub failed_where : {E : Type 0} (r : Result Bool E) (e : Entry) → IsErr r → (ts : List Entry) → (ts ≡ []) ⊎ (ts ≡ e ∷ []) → DidWhere r e ts
failed_where (Ok x) e err ts has = absurd (cc)
failed_where (Err f) e err ts has = has

pub failed_part : {E : Type 0} (r : Result ℕ E) (x : Path) (piece : List ℕ) (count : ℕ) → IsErr r → count ≤ length piece → (ts : List Entry) → (ts ≡ []) ⊎ (ts ≡ entry.Appends x (take count piece) ∷ []) → DidPart r x piece ts
failed_part (Ok n) x piece count err le ts has = absurd (cc)
failed_part (Err f) x piece count err le ts (inl none) = inl none
failed_part (Err f) x piece count err le ts (inr some) = inr (count, le, some)

-- what holds of an entry that was made
pub of_made : {E : Type 0} (P : Entry → Type 0) (r : Result Entry E) (e : Entry) → IsOk r → IfOk r P → IfOk r (λ x. x ≡ e) → P e
of_made P (Ok x) e ok h is = subst P is h
of_made P (Err f) e ok h is = absurd (cc)

pub still_fits : {E : Type 0} {v m : View} (r : Result Entry E) → IfOk r (λ x. IsSure x × Can (Some v.journal) x) → CallTurned (Are []) v m → IfOk r (λ x. Fits (world (past m.journal)) x)
still_fits {E} {v} {m} (Ok x) h t = sure_fits (past m.journal) x h.0 (still_can h.1 t)
still_fits (Err f) h t = tt

pub still_making : {E : Type 0} {v m : View} (r : Result Entry E) (path : Path) → IfOk r (λ x. IsMaking path x × Can (Some v.journal) x) → CallTurned (Are []) v m → IfOk r (λ x. IsMaking path x × CanCall (names (world (past m.journal))) x)
still_making (Ok x) path h t = (h.0, still_can h.1 t)
still_making (Err f) path h t = tt

-- a call that makes something new, and succeeds
pub turned_new : (path : Path) (made : Bool) (e : Entry) (E : Type 0) {v m w : View} → CallTurned (Are []) v m → Alike m w → LeftNew path made e m.journal w.journal → CallTurned (DidWhere {E = E} (Ok made) e) v w
turned_new path true e E t alike l = turned_entry _ e t alike l.0 l.1 l.2 refl
turned_new path false e E t alike l = turned_kept _ t alike l.0 refl

-- that fails
pub turned_failed : (path : Path) (made : Bool) (e : Entry) (j : Journal) {v m w : View} → CallTurned (Are []) v m → Alike m w → w.journal ≡ j → LeftNew path made e m.journal j → CallTurned (λ ts. (ts ≡ []) ⊎ (ts ≡ e ∷ [])) v w
turned_failed path true e j t alike is l = turned_entry _ e t alike (is ∙ l.0) l.1 l.2 (inr refl)
turned_failed path false e j t alike is l = turned_kept _ t alike (is ∙ l.0) (inl refl)

-- that fails with its effect
pub turned_effect : (path : Path) (made : Bool) (e : Entry) (j : Journal) (S : Type 0) {v m w : View} → CallTurned (Are []) v m → Alike m w → w.journal ≡ j → LeftNew path made e m.journal j → CallTurned (Are (e ∷ [])) v w ⊎ (names (world (past w.journal)) path ≢ thing.Nothing) ⊎ S
turned_effect path true e j S t alike is l = inl (turned_entry _ e t alike (is ∙ l.0) l.1 l.2 refl)
turned_effect path false e j S {v} {m} {w} t alike is l = inr (inl (subst (λ k. names (world (past k)) path ≢ thing.Nothing) (sym (is ∙ l.0)) l.1))

pub named_new : (path : Path) (made : Bool) (e : Entry) (j k : Journal) → made ≡ false → LeftNew path made e j k → names (world (past k)) path ≢ thing.Nothing
named_new path true e j k is l = absurd (cc)
named_new path false e j k is l = subst (λ i. names (world (past i)) path ≢ thing.Nothing) (sym l.0) l.1

-- an entry that it may be
pub some_entry : {E : Type 0} (r : Result Entry E) → (e : Entry) × IfOk r (λ x. x ≡ e)
some_entry (Ok x) = (x, refl)
some_entry (Err f) = (entry.Ends, tt)

pub made_fits : {E : Type 0} (p : Past) (r : Result Entry E) (e : Entry) → IfOk r (λ x. x ≡ e) → Fits (world p) e → IfOk r (λ x. Fits (world p) x)
made_fits p (Ok x) e is fits = subst (Fits (world p)) (sym is) fits
made_fits p (Err f) e is fits = tt
