-- A rotation among a run's entries, whatever brings the log to its target: what becomes of members' paths, of other paths, and of files.
use Rattle.std.proofs.Common.{◌≡◌, ◌≢◌, ◌⊎◌, inl, inr, ⊎_elim, ℕ, refl, sym, ◌∙◌, ap, subst, append_assoc, suc, ◌≤◌, List, [], ◌∷◌, ◌++◌, map, reverse}
use Rattle.std.specs.Prelude.{filter, All}
use Rattle.std.proofs.lemmas.List.{reverse-append, reverse-reverse}
use Rattle.std.proofs.lemmas.List.Elements.{All-head, All-tail, All-cons, All-nil}
use Rattle.lr_rules.specs.declared.path.Path.{Path}
use Rattle.lr_rules.specs.declared.rule.Naming.{Naming}
use Rattle.lr_host.specs.declared.thing.Thing.TheVariants as thing
use Rattle.lr_host.specs.declared.entry.Entry.{Entry}
use Rattle.lr_host.specs.declared.entry.Entry.TheVariants.{Renames}
use Rattle.lr_host.specs.World.{Names, Past, world, names, names_after, put}
use Rattle.lr_host.specs.Fits.{IsFileAt}
use Rattle.lr_host.specs.Lists.{IsIn}
use Rattle.lr_host.specs.Quiet.{is_disk_change, AttachedOnlySince, Quiet}
use Rattle.lr_host.specs.Steps.{changes_of}
use Rattle.lr_host.specs.Opening.{IsJournal}
use Rattle.lr_host.specs.Told.{Each, Made}
use Rattle.lr_host.proofs.Each.{each_append, each_as, each_reverse, filter_reverse}
use Rattle.lr_host.proofs.Left.{changes_split}
use Rattle.lr_host.proofs.Lists.{in_append, in_back}
use Rattle.lr_host.proofs.Names.{put_cases, put_here, put_other}
use Rattle.lr_host.proofs.Quiet.{since_as, made_quiet}
use Rattle.lr_laws.proofs.Disk.{leaves_now}
use Rattle.lr_laws.proofs.Single.{single}
use Rattle.lr_family.specs.declared.stand.Member.{Member}
use Rattle.lr_family.specs.Parts.{IsMember}
use Rattle.lr_family.specs.Places.{IsPlaceOf, AreNamed}
use Rattle.lr_chain.specs.declared.ready.Move.{Move}
use Rattle.lr_chain.specs.Ready.{move_step}
use Rattle.lr_laws.proofs.Lists.{Middle, middle}
use Rattle.lr_laws_family.specs.Beside.{IsOn, IsBeside, IsNeverAt}
use Rattle.lr_laws_family.specs.Made.{IsFar, IsBetween}
use Rattle.lr_laws_family.specs.Members.{IsNoMember, IsNewestOf, AreThere}
use Rattle.lr_laws_family.specs.Rotation.{Rotation, unlinks, steps_before, steps_behind, rotation_steps, part_paths, start_of, way_of, written_paths}
use Rattle.lr_laws_family.specs.Shown.{SawFile, Shown}
use Rattle.lr_laws_family.specs.Turned.{ComesFrom, unless, GoesTo, with_fed, IsOrMade}
use Rattle.lr_laws_family.specs.Weave.{Weave}
use Rattle.lr_laws_family.proofs.Anew.{these_into, these_turn, anew_into, anew_turns, on_more, beside_keeps, beside_on, stays_file}
use Rattle.lr_laws_family.proofs.BehindLooks.{BehindLooks, behind_looks, file_first, never_all}
use Rattle.lr_laws_family.proofs.Bringing.{IsBringing, brings_each, bringing_keeps, bringing_spares, bringing_turns, bringing_into, part_written, written_way, way_cases, start_way, source_way}
use Rattle.lr_laws_family.proofs.Changes.{Changes, changes_both, changes_back}
use Rattle.lr_laws_family.proofs.Fed.{IsTurnOrMake, fed_bytes}
use Rattle.lr_laws_family.proofs.Given.{Given}
use Rattle.lr_family.proofs.Names.{placed_member}
use Rattle.lr_laws_family.proofs.Never.{IsInto, inside_own, never_into, never_less}
use Rattle.lr_laws_family.proofs.OrMade.{Spares, SparesOrMakes, spared_or_anew}
use Rattle.lr_laws_family.proofs.Splitting.{weave_each}
use Rattle.lr_laws_family.proofs.Stood.{quiet_members, stood_before, stand_behind, file_stands}
use Rattle.lr_laws_family.proofs.These.{IsOfThese, AreAlikeAt, these_spare, spared_alone, these_walk}
use Rattle.lr_laws_family.proofs.Walks.{stays_same}
use Rattle.lr_laws_family.proofs.Weaving.{weave_as, weave_back}

-- ---- steps

pub unlinks_each : (Own : Path → Type 0) (xs : List Path) → All Own xs → Each (IsOfThese Own) (unlinks xs)
unlinks_each Own [] h = tt
unlinks_each Own (x ∷ xs) h = (All-head Own x xs h, unlinks_each Own xs (All-tail Own x xs h))

pub moves_each : (Own : Path → Type 0) (ms : List Move) → All (λ m. Own m.from × Own m.to) ms → Each (IsOfThese Own) (map move_step ms)
moves_each Own [] h = tt
moves_each Own (m ∷ ms) h = (All-head (λ (m : Move). Own m.from × Own m.to) m ms h, moves_each Own ms (All-tail (λ (m : Move). Own m.from × Own m.to) m ms h))

files_as : (n : Naming) (m m' : Names) → AreAlikeAt (IsMember n) m m' → (ms : List Member) → AreNamed n ms → All (λ member. IsFileAt m' member.path) ms → All (λ member. IsFileAt m member.path) ms
files_as n m m' alike [] d h = All-nil (λ (member : Member). IsFileAt m member.path)
files_as n m m' alike (y ∷ ys) d h =
    let f = All-head (λ (member : Member). IsFileAt m' member.path) y ys h in
    All-cons (λ (member : Member). IsFileAt m member.path) y ys
    (f.0, sym (alike y.path (placed_member n y.place y.path (All-head (λ (m : Member). IsPlaceOf n m.place m.path) y ys d))) ∙ f.1)
    (files_as n m m' alike ys (All-tail (λ (m : Member). IsPlaceOf n m.place m.path) y ys d) (All-tail (λ (member : Member). IsFileAt m' member.path) y ys h))

from_own : (n : Naming) (x y : Path) → ComesFrom n x y → IsMember n x × IsMember n y
from_own n x y (inl h) = (inl (h.0, (suc h.1, h.3)), inl (h.0, (h.1, h.2)))
from_own n x y (inr h) = (inr h.0, subst (IsMember n) (sym h.1) (inr h.0))

-- the newest is a member
pub newest_own : (n : Naming) (members : List Member) (x : Path) → IsNewestOf n members x → IsMember n x
newest_own n members x (inl h) = inl (h.0, (0, h.1))
newest_own n members x (inr h) = inr h.0

module _ (paths : List Path) (n : Naming) (r : Rotation) (p q : Past) (es : List Entry) (g : Given paths n r p q es) where
  abbrev Own : Path → Type 0
  Own = IsMember n

  abbrev X : Path → Type 0
  X = IsFar n r

  abbrev between : List Path
  between = part_paths r.by ++ paths

  abbrev all_paths : List Path
  all_paths = written_paths r r.by ++ paths

  abbrev front : List Entry
  front = g.over.front

  abbrev early : List Entry
  early = g.over.early

  abbrev brought : List Entry
  brought = g.over.brought

  abbrev late : List Entry
  late = g.over.late

  abbrev rest : List Entry
  rest = g.over.early ++ (g.over.brought ++ g.over.late)

  -- ---- moments

  -- behind the looks, up to which nothing was changed
  pub b : BehindLooks (IsFar n r) p q es g.over.front (g.over.early ++ (g.over.brought ++ g.over.late))
  b = behind_looks X p q es front rest g.made g.journal g.attached g.over.joined g.over.still

  -- just before what brings the source to the target
  pub l : Middle (IsFar n r) b.at q g.over.early (g.over.brought ++ g.over.late)
  l = middle X b.at q early (brought ++ late) b.second b.attached_then

  -- and behind it
  pub k : Middle (IsFar n r) l.mid q g.over.brought g.over.late
  k = middle X l.mid q brought late l.second l.only_second

  none_v : AttachedOnlySince (IsNoMember n) p b.at
  none_v = since_as X (IsNoMember n) p b.at (λ x h. h.0) b.attached_first

  pub quiet : Quiet (IsNoMember n) p b.at
  quiet = made_quiet (IsNoMember n) p b.at (reverse front) none_v b.first b.still

  -- ---- what was seen

  shown : Shown n r.stood (reverse (reverse front))
  shown = subst (Shown n r.stood) (sym (reverse-reverse front)) g.over.seen

  -- the members that were seen stood as the run began
  pub seen_members : AreThere n (names (world p)) r.stood
  seen_members = stood_before r.log n r.stood p b.at (reverse front) g.family g.journal none_v b.first b.still shown

  stands : AreThere n (names (world b.at)) r.stood
  stands = stand_behind r.log n r.stood p b.at (reverse front) g.family g.journal none_v b.first b.still shown

  pub seen_start : IsFileAt (names (world b.at)) (start_of r r.by)
  seen_start = file_stands p b.at (reverse front) b.first b.still (start_of r r.by) (subst (SawFile (start_of r r.by)) (sym (reverse-reverse front)) g.over.start_seen)

  -- ---- paths

  pub own_target : IsMember n r.target
  own_target = newest_own n r.stood r.target g.rotation.members.target

  apart : (x : Path) → Own x → X x → ⊥
  apart x owned far = far.0 owned

  way_own : (x : Path) → IsIn x (way_of r r.by) → Own x → ⊥
  way_own x i owned = ⊎_elim (λ same. g.no_source (subst Own same owned)) (λ same. g.family.apart (subst Own same owned)) (way_cases r.by r x i)

  none_ways : (x : Path) → IsIn x (way_of r r.by ++ (part_paths r.by ++ paths)) → Own x → ⊥
  none_ways x i owned = ⊎_elim (λ i. way_own x i owned) (λ i. (g.outside x i).1 owned) (in_append x (way_of r r.by) (part_paths r.by ++ paths) i)

  none_beside : (x : Path) → IsIn x (r.log ∷ between) → Own x → ⊥
  none_beside x (inl same) owned = g.family.apart (subst Own (sym same) owned)
  none_beside x (inr i) owned = (g.outside x i).1 owned

  pub source_free : IsIn r.source (part_paths r.by ++ paths) → ⊥
  source_free i = (g.outside r.source i).0 (source_way r.by r)

  start_free : IsIn (start_of r r.by) (part_paths r.by ++ paths) → ⊥
  start_free i = (g.outside (start_of r r.by) i).0 (start_way r.by r)

  -- ---- all changes

  old_each : Each (IsOfThese Own) (steps_before r)
  old_each = each_append (IsOfThese Own) (unlinks r.early) (map move_step r.moves) (unlinks_each Own r.early g.rotation.members.early) (moves_each Own r.moves g.rotation.members.moves)

  new_each : Each (IsOfThese Own) (steps_behind r)
  new_each = unlinks_each Own r.gone g.rotation.members.gone

  back_on : (steps ts : List Entry) → Weave (IsBetween paths r) steps (filter is_disk_change ts) → Weave (IsOn (r.log ∷ between)) (reverse steps) (filter is_disk_change (reverse ts))
  back_on steps ts woven = weave_as (IsBetween paths r) (IsOn (r.log ∷ between)) (reverse steps) (filter is_disk_change (reverse ts)) (beside_on between r.log)
      (subst (Weave (IsBetween paths r) (reverse steps)) (sym (filter_reverse is_disk_change ts)) (weave_back (IsBetween paths r) steps (filter is_disk_change ts) woven))

  module _ (P : Entry → Type 0) (own : (e : Entry) → IsOfThese (IsMember n) e → P e) (beside : (e : Entry) → IsBeside (part_paths r.by ++ paths) r.log e → P e) where
    pub early_by : Changes P g.over.early
    early_by = weave_each (IsBetween paths r) P (steps_before r) (filter is_disk_change early) g.over.before_it (each_as (IsOfThese Own) P (steps_before r) own old_each) beside

    pub late_by : Changes P g.over.late
    late_by = weave_each (IsBetween paths r) P (steps_behind r) (filter is_disk_change late) g.over.behind_it (each_as (IsOfThese Own) P (steps_behind r) own new_each) beside

    pub rest_by : ((e : Entry) → IsBringing r.by paths r e → P e) → Changes P (g.over.early ++ (g.over.brought ++ g.over.late))
    rest_by bringing = changes_both P early (brought ++ late) early_by
        (changes_both P brought late (each_as (IsBringing r.by paths r) P (filter is_disk_change brought) bringing (brings_each r.by paths r brought g.over.brings)) late_by)

  -- nothing was changed before the first of them
  pub from_start : (P : Entry → Type 0) → Changes P (g.over.early ++ (g.over.brought ++ g.over.late)) → Changes P es
  from_start P h = subst (Each P) (sym b.changes) (changes_back P rest h)

  -- ---- the log's file

  pub keeps_own : (x : Path) → (IsMember n x → ⊥) → (e : Entry) → IsOfThese (IsMember n) e → SparesOrMakes x e
  keeps_own x none e h = inl (these_spare Own x e none h)

  pub keeps_beside : (x : Path) → (IsIn x (part_paths r.by ++ paths) → ⊥) → (e : Entry) → IsBeside (part_paths r.by ++ paths) r.log e → SparesOrMakes x e
  keeps_beside x free e h = beside_keeps between r.log x e free h

  pub start_then : names (world l.mid) (start_of r r.by) ≡ thing.File seen_start.0
  start_then = stays_file b.at l.mid (start_of r r.by) seen_start.0 (spared_or_anew b.at l.mid (reverse early) (start_of r r.by) l.first (changes_back (SparesOrMakes (start_of r r.by)) early
      (early_by (SparesOrMakes (start_of r r.by)) (keeps_own (start_of r r.by) (way_own (start_of r r.by) (start_way r.by r))) (keeps_beside (start_of r r.by) start_free)))) seen_start.1

  pub start_first : (names (world p) (start_of r r.by) ≡ thing.File seen_start.0) ⊎ ((names (world p) (start_of r r.by) ≡ thing.Nothing) × ((world p).drawn ≤ seen_start.0))
  start_first = file_first X p q es front rest b (start_of r r.by) seen_start.0 seen_start.1

  -- ---- others

  pub others_now : (x : Path) → (IsIn x (way_of r r.by) → ⊥) → IsNoMember n x → (IsIn x (part_paths r.by ++ paths) → ⊥) → IsOrMade p q x
  others_now x other none free = spared_or_anew p q es x g.made (from_start (SparesOrMakes x) (rest_by (SparesOrMakes x)
      (keeps_own x none) (keeps_beside x free) (λ e h. bringing_keeps r.by paths r x e g.job other (λ same. none (subst Own (sym same) own_target)) free h)))

  -- ---- bytes

  abbrev ways : List Path
  ways = way_of r r.by ++ (part_paths r.by ++ paths)

  abbrev IsLeaving : Entry → Type 0
  IsLeaving e = IsTurnOrMake e ⊎ IsOn all_paths e

  abbrev IsInFamily : Entry → Type 0
  IsInFamily e = IsInto Own e ⊎ IsOn ways e

  pub leaving_by : (e : Entry) → IsBeside (part_paths r.by ++ paths) r.log e → IsTurnOrMake e ⊎ IsOn (written_paths r r.by ++ paths) e
  leaving_by e h = ⊎_elim (λ on. inr (on_more between all_paths e (part_written r.by r paths) on)) (λ anew. inl (anew_turns r.log e anew)) h

  pub leaving_bringing : (e : Entry) → IsBringing r.by paths r e → IsTurnOrMake e ⊎ IsOn (written_paths r r.by ++ paths) e
  leaving_bringing e h = bringing_turns r.by paths r e g.job h

  pub family_by : (e : Entry) → IsBeside (part_paths r.by ++ paths) r.log e → IsInto (IsMember n) e ⊎ IsOn (way_of r r.by ++ (part_paths r.by ++ paths)) e
  family_by e h = ⊎_elim (λ on. inr (on_more between ways e (λ x i. in_back x (way_of r r.by) between i) on)) (λ anew. inl (anew_into r.log Own e anew)) h

  pub family_bringing : (e : Entry) → IsBringing r.by paths r e → IsInto (IsMember n) e ⊎ IsOn (way_of r r.by ++ (part_paths r.by ++ paths)) e
  family_bringing e h = bringing_into Own r.by paths r e own_target g.job h

  pub bytes_now : (id : ℕ) → IsNeverAt (written_paths r r.by ++ paths) id p q → ((world q).files id).bytes ≡ with_fed id p q
  bytes_now id never = fed_bytes all_paths id p q es g.journal g.made (from_start IsLeaving (rest_by IsLeaving (λ e h. inl (these_turn Own e h)) leaving_by leaving_bringing)) never

  -- a file that a member names is at none of the other paths, from then on
  pub never_own : (id : ℕ) (x : Path) → IsMember n x → (a : Past) (us : List Entry) → IsJournal a → Made a us q → Changes (λ e. IsInto (IsMember n) e ⊎ IsOn (way_of r r.by ++ (part_paths r.by ++ paths)) e) us → names (world a) x ≡ thing.File id
      → IsNeverAt (written_paths r r.by ++ paths) id a q
  never_own id x owned a us journal made into is = never_less ways all_paths id a q (written_way r.by r paths)
      (never_into ways Own none_ways id a q us made into ((single a journal).fresh (names (world a)) [] (leaves_now (world a)) x id is) (inside_own Own a id x journal owned is))

  pub own_files : (id : ℕ) (x : Path) → IsMember n x → names (world p) x ≡ thing.File id → IsNeverAt (written_paths r r.by ++ paths) id p q
  own_files id x owned is = never_all X p q es front rest b all_paths id (never_own id x owned b.at (reverse rest) b.journal b.second
      (changes_back IsInFamily rest (rest_by IsInFamily (λ e h. inl (these_into Own e h)) family_by family_bringing)) (quiet_members n p b.at quiet x owned ∙ is))

  -- ---- the members, where this file comes to the target

  module _ (new : ℕ) (target_then : names (world k.mid) r.target ≡ thing.File new) where
    -- the names of the first moment, if the source had that file
    abbrev m0 : Names
    m0 = put (names (world b.at)) r.source (thing.File new)

    alike_v : AreAlikeAt (IsMember n) (put (names (world b.at)) r.source (thing.File new)) (names (world b.at))
    alike_v = λ x owned. sym (put_other (names (world b.at)) r.source x (thing.File new) (λ same. g.no_source (subst Own same owned)))

    source_m0 : put (names (world b.at)) r.source (thing.File new) r.source ≡ thing.File new
    source_m0 = put_here (names (world b.at)) r.source r.source (thing.File new) refl

    abbrev older : List Entry
    older = reverse (steps_before r)

    abbrev newer : List Entry
    newer = reverse (steps_behind r)

    abbrev behind_old : Names
    behind_old = names_after m0 (changes_of older)

    abbrev behind_way : Names
    behind_way = names_after m0 (changes_of (Renames r.source r.target ∷ older))

    older_is : Each (IsOfThese Own) (reverse (steps_before r))
    older_is = each_reverse (IsOfThese Own) (steps_before r) old_each

    alike_a : AreAlikeAt Own behind_old (names (world l.mid))
    alike_a = these_walk Own X (r.log ∷ between) m0 b.at l.mid (reverse early) older apart none_beside l.first l.only_first (back_on (steps_before r) early g.over.before_it) older_is alike_v

    source_old : behind_old r.source ≡ thing.File new
    source_old = spared_alone m0 r.source older (each_as (IsOfThese Own) (Spares r.source) older (λ e h. these_spare Own r.source e g.no_source h) older_is) ∙ source_m0

    same_w : (x : Path) → Own x → x ≢ r.target → names (world k.mid) x ≡ names (world l.mid) x
    same_w x owned other = stays_same X l.mid k.mid (reverse brought) x k.first k.only_first (apart x owned)
        (changes_back (Spares x) brought (each_as (IsBringing r.by paths r) (Spares x) (filter is_disk_change brought)
        (λ e h. bringing_spares r.by paths r x e g.job (λ i. way_own x i owned) other (λ i. (g.outside x i).1 owned) (λ same. g.family.apart (subst Own same owned)) h) (brings_each r.by paths r brought g.over.brings)))

    alike_w : AreAlikeAt Own behind_way (names (world k.mid))
    alike_w = λ x owned. ⊎_elim
        (λ here. ap (names (world k.mid)) here.0 ∙ (target_then ∙ (sym source_old ∙ here.1)))
        (λ old. same_w x owned old.0 ∙ (alike_a x owned ∙ (sym (put_other behind_old r.source x thing.Nothing (λ same. g.no_source (subst Own same owned))) ∙ old.1)))
        (put_cases (put behind_old r.source thing.Nothing) r.target (behind_old r.source) x (behind_way x) refl)

    alike_q : AreAlikeAt Own (names_after behind_way (changes_of newer)) (names (world q))
    alike_q = these_walk Own X (r.log ∷ between) behind_way k.mid q (reverse late) newer apart none_beside k.second k.only_second (back_on (steps_behind r) late g.over.behind_it) (each_reverse (IsOfThese Own) (steps_behind r) new_each) alike_w

    backwards : reverse (rotation_steps r) ≡ newer ++ Renames r.source r.target ∷ older
    backwards = reverse-append (steps_before r) (Renames r.source r.target ∷ steps_behind r)
        ∙ (ap (λ xs. xs ++ older) (reverse-append (Renames r.source r.target ∷ []) (steps_behind r)) ∙ append_assoc newer (Renames r.source r.target ∷ []) older)

    parts : names_after behind_way (changes_of newer) ≡ names_after m0 (changes_of (reverse (rotation_steps r)))
    parts = sym (changes_split m0 (Renames r.source r.target ∷ older) newer) ∙ ap (λ xs. names_after m0 (changes_of xs)) (sym backwards)

    there_m0 : AreThere n m0 r.stood
    there_m0 = record {
      newest_first = stands.newest_first;
      named = stands.named;
      files = files_as n m0 (names (world b.at)) alike_v r.stood stands.named stands.files;
      others = λ x is out. sym (alike_v x is) ∙ stands.others x is out;
    }

    alone : GoesTo n r (m0 r.source) m0 (names_after m0 (changes_of (reverse (rotation_steps r))))
    alone = g.rotation.turns m0 (new, source_m0) there_m0

    alike_all : (x : Path) → Own x → names (world q) x ≡ names_after m0 (changes_of (reverse (rotation_steps r))) x
    alike_all x owned = alike_q x owned ∙ ap (λ (m : Names). m x) parts

    alike_first : (x : Path) → Own x → m0 x ≡ names (world p) x
    alike_first x owned = sym (alike_v x owned) ∙ quiet_members n p b.at quiet x owned

    pub members_now : GoesTo n r (thing.File new) (names (world p)) (names (world q))
    members_now = record {
      newest = alike_all r.target own_target ∙ (alone.newest ∙ ap (unless r.gone r.target) source_m0);
      older = λ x y other from. let o = from_own n x y from in alike_all x o.0 ∙ (alone.older x y other from ∙ ap (λ t. unless r.gone x (unless r.early y t)) (alike_first y o.1));
    }
