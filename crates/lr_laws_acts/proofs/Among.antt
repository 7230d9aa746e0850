-- A run that rotates a log by copy: its copy stands whole amid the steps of its rotation, and nothing else empties the log.
use Rattle.std.proofs.Common.{◌≡◌, inl, inr, ⊎_elim, Bool, true, false, cond, refl, sym, ◌∙◌, ap, subst, append_assoc, Some, List, [], ◌∷◌, ◌++◌}
use Rattle.std.specs.Prelude.{filter}
use Rattle.std.proofs.lemmas.List.Elements.{filter-append}
use Rattle.lr_rules.specs.declared.path.Path.{Path}
use Rattle.lr_host.specs.declared.entry.Entry.{Entry}
use Rattle.lr_host.specs.declared.entry.Entry.TheVariants.{Renames, Makes, Truncates, Unlinks, SyncsFile, SyncsDir}
use Rattle.lr_host.specs.Lists.{IsIn}
use Rattle.lr_host.specs.Quiet.{is_disk_change}
use Rattle.lr_host.specs.Steps.{is_change}
use Rattle.lr_host.specs.Told.{Each, Are}
use Rattle.lr_host.proofs.Each.{each_append, each_as, each_first, all_pass, each_last, each_filter}
use Rattle.lr_host.proofs.Quiet.{disk_of_changes}
use Rattle.lr_copy.specs.declared.job.Job.{Job}
use Rattle.lr_copy.specs.Copying.{Copies, clearing, cutting}
use Rattle.lr_copy.proofs.EachOfBytes.{each_all, each_are, each_both}
use Rattle.lr_laws_family.specs.Whole.{Named}
use Rattle.lr_laws_acts.specs.Emptied.{CopiedLast, EmptiesCopied}
use Rattle.lr_laws_rotations.specs.AllTurns.{StandsBetween, paths_beside}
use Rattle.lr_laws_family.specs.Beside.{IsBeside}
use Rattle.lr_laws_rotations.specs.Target.{Target, target_entries}
use Rattle.lr_laws_family.specs.Weave.{Weave}
use Rattle.lr_laws_family.proofs.These.{IsOfThese}
use Rattle.lr_laws_rotations.proofs.Others.{beside_changes}
use Rattle.lr_laws_family.proofs.Splitting.{weave_each}
use Rattle.lr_laws_family.proofs.Weaving.{weave_as}
use Rattle.lr_laws_acts.specs.Copied.{CopyStands, IsSameFor}
use Rattle.lr_laws_acts.proofs.Beside.{IsBesideOrCut, between_beside}
use Rattle.lr_laws_family.proofs.Changes.{CopyParts, copy_parts}
use Rattle.lr_laws_acts.proofs.Weaves.{IsOther, stands_once, all_other, other_unfiltered, weave_at, weave_front, weave_behind, weave_less, weave_drop}

-- a rename or an unlink of certain paths changes the disk
these_change : (Own : Path → Type 0) (e : Entry) → IsOfThese Own e → is_disk_change e ≡ true
these_change Own (Renames from to) h = refl
these_change Own (Unlinks x) h = refl
these_change Own _ h = absurd h

-- The copy of a log stands whole among the acts of a run that rotated it whole, with steps on certain paths before and behind the copy, those of its members: the first steps are then all before the copy, with changes of others between, the last all behind it, and nothing but the copy empties the log.
module _ (state : Path) (x : Target) (targets : List Target) (acts : List Entry) (job : Job) (Own : Path → Type 0) (first last : List Entry) (job_is : x.job ≡ Some job)
    (whole : Weave (StandsBetween state x targets) (target_entries x) (filter is_change acts)) (steps_are : target_entries x ≡ (first ++ clearing job) ++ (Renames job.part job.to ∷ last)) (first_own : Each (IsOfThese Own) first) (last_own : Each (IsOfThese Own) last)
    (own_to : Own job.to) (out : (y : Path) → IsIn y (job.part ∷ paths_beside state x targets) → Own y → ⊥) (stands : CopyStands job acts) (copies : EmptiesCopied (IsSameFor x.log job) acts) where
  abbrev paths : List Path
  paths = job.part ∷ paths_beside state x targets

  -- the rename to the final path, and a truncation of the log
  abbrev r : Entry
  r = Renames job.part job.to

  abbrev s : Entry
  s = SyncsDir job.dir

  abbrev cut : Entry
  cut = Truncates x.log

  no_part : Own job.part → ⊥
  no_part = out job.part (inl refl)

  abbrev old : List Entry
  old = first ++ clearing job

  -- none of the steps is the rename of the part file
  no_step : (e : Entry) → IsOfThese Own e → IsOther r e
  no_step e h same = let i : IsOfThese Own r = subst (IsOfThese Own) same h in no_part i.0

  old_other : Each (IsOther r) old
  old_other = each_append (IsOther r) first (clearing job) (each_as (IsOfThese Own) (IsOther r) first no_step first_own) (go job.stale)
    where
      go : (b : Bool) → Each (IsOther r) (cond b (Unlinks job.part ∷ []) [])
      go true = (λ e. cc, tt)
      go false = tt

  last_other : Each (IsOther r) last
  last_other = each_as (IsOfThese Own) (IsOther r) last no_step last_own

  -- ---- the entries

  parts : CopyParts job stands.count stands.named
  parts = copy_parts job stands.count stands.named stands.is_named

  abbrev filled : List Entry
  filled = clearing job ++ (Makes job.part job.mode ∷ parts.filling)

  -- a copy, cut at its rename
  at_rename : (before filling named rest : List Entry) → named ≡ clearing job ++ (Makes job.part job.mode ∷ (filling ++ (r ∷ (s ∷ [])))) → before ++ (named ++ rest) ≡ (before ++ (clearing job ++ (Makes job.part job.mode ∷ filling))) ++ (r ∷ (s ∷ rest))
  at_rename before filling named rest is =
      ap (λ zs. before ++ (zs ++ rest)) is
      ∙ (ap (λ zs. before ++ zs) (append_assoc (clearing job) (Makes job.part job.mode ∷ (filling ++ (r ∷ (s ∷ [])))) rest
      ∙ (ap (λ zs. clearing job ++ (Makes job.part job.mode ∷ zs)) (append_assoc filling (r ∷ (s ∷ [])) rest) ∙ sym (append_assoc (clearing job) (Makes job.part job.mode ∷ filling) (r ∷ (s ∷ rest)))))
      ∙ sym (append_assoc before (clearing job ++ (Makes job.part job.mode ∷ filling)) (r ∷ (s ∷ rest))))

  abbrev front : List Entry
  front = stands.before ++ filled

  abbrev back : List Entry
  back = s ∷ (cutting job ++ stands.after)

  acts_are : acts ≡ front ++ (r ∷ back)
  acts_are = stands.joined ∙ at_rename stands.before parts.filling stands.named (cutting job ++ stands.after) parts.ts_are

  abbrev Q : Entry → Type 0
  Q = IsBesideOrCut paths x.log

  no_beside : Q r → ⊥
  no_beside (inl (inl on)) = out job.to on.1 own_to
  no_beside (inl (inr anew)) = absurd anew
  no_beside (inr same) = cc

  cut_in_two : Weave Q old (filter is_change front) × Weave Q last (filter is_change back)
  cut_in_two = weave_at Q r old last (filter is_change front) (filter is_change back) no_beside old_other last_other
      (subst (Weave Q (old ++ (r ∷ last))) (ap (filter is_change) acts_are ∙ filter-append is_change front (r ∷ back)) (subst (λ os. Weave Q os (filter is_change acts)) steps_are
      (weave_as (StandsBetween state x targets) Q (target_entries x) (filter is_change acts) (λ e h. between_beside state x targets job e job_is h) whole)))

  -- the rename stands once
  front_other : Each (IsOther r) front
  front_other = other_unfiltered r is_change front refl (weave_each Q (IsOther r) old (filter is_change front) cut_in_two.0 old_other (λ e h same. no_beside (subst Q same h)))

  back_other : Each (IsOther r) back
  back_other = other_unfiltered r is_change back refl (weave_each Q (IsOther r) last (filter is_change back) cut_in_two.1 last_other (λ e h same. no_beside (subst Q same h)))

  -- ---- nothing else empties the log

  -- the copy before a truncation is this one
  abbrev IsThisCopy : List Entry → Type 0
  IsThisCopy prefix = (ahead filling : List Entry) × (job.cut ≡ true) × (prefix ≡ (ahead ++ (clearing job ++ (Makes job.part job.mode ∷ filling))) ++ (r ∷ (s ∷ [])))

  this_copy : (prefix : List Entry) → CopiedLast (IsSameFor x.log job) x.log prefix → IsThisCopy prefix
  this_copy prefix k =
      let same : k.job ≡ job = k.is k.cut k.from_is in
      let named : Named job k.count k.named = subst (λ (j : Job). Named j k.count k.named) same k.is_named in
      let p = copy_parts job k.count k.named named in
      (k.front, p.filling, subst (λ (j : Job). j.cut ≡ true) same k.cut, k.joined ∙ (ap (λ zs. k.front ++ zs) (sym (append-none k.named)) ∙ at_rename k.front p.filling k.named [] p.ts_are))
    where
      append-none : (xs : List Entry) → xs ++ [] ≡ xs
      append-none [] = refl
      append-none (x ∷ xs) = ap (λ ys. x ∷ ys) (append-none xs)

  before_uncut : Each (IsOther cut) stands.before
  before_uncut = all_other cut stands.before (λ fs bs is. other fs bs is (this_copy fs (copies fs x.log (bs ++ (stands.named ++ (cutting job ++ stands.after)))
      (stands.joined ∙ (ap (λ zs. zs ++ (stands.named ++ (cutting job ++ stands.after))) is ∙ append_assoc fs (cut ∷ bs) (stands.named ++ (cutting job ++ stands.after)))))))
    where
      other : (fs bs : List Entry) → stands.before ≡ fs ++ (cut ∷ bs) → IsThisCopy fs → ⊥
      other fs bs is (ahead, filling, asked, prefix) =
          let others : Each (IsOther r) fs = each_first (IsOther r) fs (cut ∷ bs) (subst (Each (IsOther r)) is (each_first (IsOther r) stands.before filled front_other)) in
          (each_last (IsOther r) (ahead ++ (clearing job ++ (Makes job.part job.mode ∷ filling))) (r ∷ (s ∷ [])) (subst (Each (IsOther r)) prefix others)).0 refl

  after_uncut : Each (IsOther cut) stands.after
  after_uncut = all_other cut stands.after (λ fs bs is. other fs bs is (this_copy (stands.before ++ (stands.named ++ (cutting job ++ fs))) (copies (stands.before ++ (stands.named ++ (cutting job ++ fs))) x.log bs (all_joined fs bs is))))
    where
      all_joined : (fs bs : List Entry) → stands.after ≡ fs ++ (cut ∷ bs) → acts ≡ (stands.before ++ (stands.named ++ (cutting job ++ fs))) ++ (cut ∷ bs)
      all_joined fs bs is = stands.joined ∙ (ap (λ zs. stands.before ++ (stands.named ++ (cutting job ++ zs))) is
          ∙ (ap (λ zs. stands.before ++ (stands.named ++ zs)) (sym (append_assoc (cutting job) fs (cut ∷ bs)))
          ∙ (ap (λ zs. stands.before ++ zs) (sym (append_assoc stands.named (cutting job ++ fs) (cut ∷ bs))) ∙ sym (append_assoc stands.before (stands.named ++ (cutting job ++ fs)) (cut ∷ bs)))))

      nothing : (xs : List Entry) → s ∷ xs ≡ s ∷ [] → xs ≡ []
      nothing xs e = cc

      clash : (b : Bool) (fs : List Entry) → b ≡ true → cond b (Truncates job.from ∷ []) [] ++ fs ≡ [] → ⊥
      clash true fs asked e = cc
      clash false fs asked e = cc

      other : (fs bs : List Entry) → stands.after ≡ fs ++ (cut ∷ bs) → IsThisCopy (stands.before ++ (stands.named ++ (cutting job ++ fs))) → ⊥
      other fs bs is (ahead, filling, asked, prefix) =
          let others : Each (IsOther r) (s ∷ (cutting job ++ fs)) = each_first (IsOther r) (s ∷ (cutting job ++ fs)) (cut ∷ bs)
          (subst (λ zs. Each (IsOther r) (s ∷ zs)) (ap (λ zs. cutting job ++ zs) is ∙ sym (append_assoc (cutting job) fs (cut ∷ bs))) back_other) in
          let ends = stands_once r front (s ∷ (cutting job ++ fs)) (ahead ++ (clearing job ++ (Makes job.part job.mode ∷ filling))) (s ∷ []) front_other others
          (sym (at_rename stands.before parts.filling stands.named (cutting job ++ fs) parts.ts_are) ∙ prefix) in
          clash job.cut fs asked (nothing (cutting job ++ fs) ends.1)

  -- ---- what is woven before the copy, and behind it

  -- the changes of the disk are all there are
  disk_woven : (steps ts : List Entry) → Each (IsOfThese Own) steps → Weave (IsBeside paths x.log) steps (filter is_change ts) → Weave (IsBeside paths x.log) steps (filter is_disk_change ts)
  disk_woven steps ts own w = subst (Weave (IsBeside paths x.log) steps) (sym (all_pass is_disk_change (filter is_change ts)
      (weave_each (IsBeside paths x.log) (λ e. is_disk_change e ≡ true) steps (filter is_change ts) w (each_as (IsOfThese Own) (λ e. is_disk_change e ≡ true) steps (these_change Own) own) (beside_changes paths x.log)))
      ∙ disk_of_changes ts) w

  abbrev NoneOfThese : Entry → Type 0
  NoneOfThese e = IsOfThese Own e → ⊥

  filled_apart : Each NoneOfThese filled
  filled_apart = each_append NoneOfThese (clearing job) (Makes job.part job.mode ∷ parts.filling) (go job.stale) (
    (λ h. absurd h),
    each_both NoneOfThese (Copies job stands.count) (Are (SyncsFile job.part ∷ [])) parts.filling
        (λ us c. each_all NoneOfThese job.from job.part (λ k piece short. λ h. absurd h) (λ piece. λ h. absurd h) job.limit stands.count us c)
        (λ us is. each_are NoneOfThese (SyncsFile job.part ∷ []) us ((λ h. absurd h), tt) is) parts.fills,
  )
    where
      go : (b : Bool) → Each NoneOfThese (cond b (Unlinks job.part ∷ []) [])
      go true = (no_part, tt)
      go false = tt

  cutting_apart : Each NoneOfThese (filter is_change (cutting job))
  cutting_apart = each_filter NoneOfThese is_change (cutting job) (go job.cut)
    where
      go : (b : Bool) → Each NoneOfThese (cond b (Truncates job.from ∷ []) [])
      go true = ((λ h. absurd h), tt)
      go false = tt

  clearing_beside : Each Q (clearing job)
  clearing_beside = go job.stale
    where
      go : (b : Bool) → Each Q (cond b (Unlinks job.part ∷ []) [])
      go true = (inl (inl (inl refl)), tt)
      go false = tt

  uncut_beside : (e : Entry) → Q e → IsOther cut e → IsBeside paths x.log e
  uncut_beside e h other = ⊎_elim (λ beside. beside) (λ is. absurd (other is)) h

  -- the steps before the copy, among the changes before it
  pub early_woven : Weave (IsBeside paths x.log) first (filter is_disk_change stands.before)
  early_woven = disk_woven first stands.before first_own
      (weave_less Q (IsBeside paths x.log) (IsOther cut) first (filter is_change stands.before) uncut_beside
      (weave_front Q (IsOfThese Own) first (filter is_change stands.before) (filter is_change filled)
      (subst (Weave Q first) (filter-append is_change stands.before filled) (weave_drop Q old (filter is_change front) first (clearing job) refl cut_in_two.0 clearing_beside)) first_own (each_filter NoneOfThese is_change filled filled_apart))
      (each_filter (IsOther cut) is_change stands.before before_uncut))

  -- and those behind it, among the changes behind it
  pub late_woven : Weave (IsBeside paths x.log) last (filter is_disk_change stands.after)
  late_woven = disk_woven last stands.after last_own
      (weave_less Q (IsBeside paths x.log) (IsOther cut) last (filter is_change stands.after) uncut_beside
      (weave_behind Q (IsOfThese Own) last (filter is_change (cutting job)) (filter is_change stands.after) (subst (Weave Q last) (filter-append is_change (cutting job) stands.after) cut_in_two.1) last_own cutting_apart)
      (each_filter (IsOther cut) is_change stands.after after_uncut))
