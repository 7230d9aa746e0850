-- A copy amid a rotation, from a moment on at which its source stands: its file is new, and whole, and its source keeps its own.
use Rattle.std.proofs.Common.{◌≡◌, ◌≢◌, ◌⊎◌, inl, ℕ, ◌+◌, ◌<◌, ◌≤◌, Bool, true, false, cond, nat_le, leb-true, refl, sym, ◌∙◌, ap, arith, List, [], ◌++◌, length, drop, reverse}
use Rattle.std.specs.Prelude.{filter}
use Rattle.lr_rules.specs.declared.path.Path.{Path}
use Rattle.lr_rules.specs.declared.rule.Naming.{Naming}
use Rattle.lr_host.specs.declared.thing.Thing.TheVariants as thing
use Rattle.lr_host.specs.declared.entry.Entry.{Entry}
use Rattle.lr_host.specs.Opening.{IsJournal}
use Rattle.lr_host.specs.Quiet.{is_disk_change, AttachedOnlySince}
use Rattle.lr_host.specs.Told.{Made}
use Rattle.lr_host.specs.World.{Past, world, names}
use Rattle.lr_host.proofs.Each.{each_as}
use Rattle.lr_host.proofs.Looked.{same_file}
use Rattle.lr_host.proofs.Made.{made_journal}
use Rattle.lr_laws.proofs.Disk.{leaves_now}
use Rattle.lr_laws.proofs.Single.{single}
use Rattle.lr_copy.specs.declared.job.Job.{Job}
use Rattle.lr_laws_family.specs.Whole.{Named, IsCopyWhole}
use Rattle.lr_laws.proofs.Lists.{prefix_on, made_prefix}
use Rattle.lr_laws.proofs.Walks.{made_drawn}
use Rattle.lr_laws_family.specs.Beside.{IsOn, IsNeverAt}
use Rattle.lr_laws_family.specs.Made.{IsJobOf, IsFar}
use Rattle.lr_laws_family.specs.Moments.{fed}
use Rattle.lr_laws_family.specs.Rotation.{Rotation}
use Rattle.lr_laws_family.proofs.Anew.{stays_file}
use Rattle.lr_laws_family.proofs.Bringing.{IsOfCopy, copy_each, copy_spares}
use Rattle.lr_laws_family.proofs.Changes.{Changes, changes_back}
use Rattle.lr_laws_family.proofs.Copy.{whole_copy, copy_new}
use Rattle.lr_laws_family.proofs.Fed.{IsTurnOrMake, fed_bytes}
use Rattle.lr_laws_family.proofs.OrMade.{SparesOrMakes, spared_or_anew}

-- Just before the copy, where the source names this file, and behind it.
pub record CopyAt (n : Naming) (r : Rotation) (job : Job) (p : Past) (file : ℕ) : Type 0 where
  pub of : IsJobOf r job
  pub far : (x : Path) → IsFar n r x → (x ≢ job.part) × (x ≢ job.to)
  pub count : ℕ
  pub named : List Entry
  pub is_named : Named job count named
  pub begins : Past
  pub ends : Past
  pub before : List Entry
  pub to_begin : Made p before begins
  pub copies : Made begins (reverse named) ends
  pub only : AttachedOnlySince (IsFar n r) begins ends
  pub source : names (world begins) r.source ≡ thing.File file

module _ (n : Naming) (r : Rotation) (job : Job) (p : Past) (journal : IsJournal p) (file : ℕ) (c : CopyAt n r job p file) where
  journal_begin : IsJournal c.begins
  journal_begin = made_journal p c.begins c.before c.to_begin journal

  pub journal_end : IsJournal c.ends
  journal_end = made_journal c.begins c.ends (reverse c.named) c.copies journal_begin

  done : IsCopyWhole job.from job.to c.begins c.ends
  done = whole_copy (IsFar n r) job c.count c.begins c.ends c.named c.copies journal_begin c.of.paths c.only c.far c.is_named

  pub whole : IsCopyWhole job.from job.to p c.ends
  whole = record {
    log = done.log;
    copy = done.copy;
    bytes = done.bytes;
    last = done.last;
    since = prefix_on p c.begins done.last (made_prefix p c.begins c.before c.to_begin) done.since;
    read = done.read;
    unread = done.unread;
    log_then = done.log_then;
    later = done.later;
    fed = done.fed;
    log_now = done.log_now;
    copied = done.copied;
    cut = done.cut;
  }

  -- ---- the source

  pub keeps_source : (e : Entry) → IsOfCopy job e → SparesOrMakes r.source e
  keeps_source e h = inl (copy_spares job r.source e (λ same. c.of.paths.part_apart (sym (c.of.from_is ∙ same))) (λ same. c.of.paths.to_apart (sym (c.of.from_is ∙ same))) h)

  pub source_end : names (world c.ends) r.source ≡ thing.File file
  source_end = stays_file c.begins c.ends r.source file (spared_or_anew c.begins c.ends (reverse c.named) r.source c.copies (changes_back (SparesOrMakes r.source) c.named
      (each_as (IsOfCopy job) (SparesOrMakes r.source) (filter is_disk_change c.named) keeps_source (copy_each job c.count c.named c.is_named)))) c.source

  pub file_is : whole.log ≡ file
  file_is = same_file (names (world c.ends) r.source) whole.log file (ap (names (world c.ends)) (sym c.of.from_is) ∙ whole.log_now.named) source_end

  -- ---- the copy's file

  pub is_new : (world p).drawn ≤ whole.copy
  unfolding whole done
  is_new =
      let one : (world c.begins).drawn ≤ done.copy = copy_new (IsFar n r) job c.count c.begins c.ends c.named c.copies journal_begin c.of.paths c.only c.far c.is_named in
      let two : (world p).drawn ≤ (world c.begins).drawn = made_drawn p c.begins c.before c.to_begin in
      omega (arith, one, two)

  pub target_end : names (world c.ends) r.target ≡ thing.File whole.copy
  target_end = ap (names (world c.ends)) (sym c.of.to_is) ∙ whole.copied.named

  there : whole.copy < (world c.ends).drawn
  there = (single c.ends journal_end).fresh (names (world c.ends)) [] (leaves_now (world c.ends)) job.to whole.copy whole.copied.named

  -- a file that is there isn't new
  not_new : (drawn g : ℕ) → g < drawn → nat_le (drawn + 1) (g + 1) ≡ false
  not_new drawn g lt = go (nat_le (drawn + 1) (g + 1)) refl
    where
      go : (b : Bool) → nat_le (drawn + 1) (g + 1) ≡ b → b ≡ false
      go true e = absurd (let le : drawn + 1 ≤ g + 1 = leb-true (drawn + 1) (g + 1) e in omega (arith, le, lt))
      go false e = refl

  -- it has its bytes, and then what writers fed it, where it is never at paths that are written
  pub bytes_later : (paths : List Path) (q : Past) (es : List Entry) → Made c.ends es q → Changes (λ e. IsTurnOrMake e ⊎ IsOn paths e) es → IsNeverAt paths whole.copy c.ends q → ((world q).files whole.copy).bytes ≡ whole.bytes ++ drop (length (fed c.ends whole.copy)) (fed q whole.copy)
  bytes_later paths q es made leaves never = fed_bytes paths whole.copy c.ends q es journal_end made leaves never
      ∙ (ap (λ b. cond b [] ((world c.ends).files whole.copy).bytes ++ drop (length (fed c.ends whole.copy)) (fed q whole.copy)) (not_new (world c.ends).drawn whole.copy there) ∙ ap (λ bs. bs ++ drop (length (fed c.ends whole.copy)) (fed q whole.copy)) whole.copied.bytes_are)
