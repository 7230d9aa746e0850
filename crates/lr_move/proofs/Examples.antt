-- A log that is let go too early.
use Rattle.std.proofs.Common.{◌≡◌, ◌⊎◌, inl, inr, ⊎_elim, ℕ, zero, suc, ◌<◌, ◌≤◌, refl, sym, ◌∙◌, subst, arith, List, [], ◌∷◌, length, codes}
use Rattle.std.specs.Prelude.{slice_index_or, Contains, count_by, ◌==◌}
use Rattle.std.proofs.lemmas.List.Elements.{All-cons}
use Rattle.lr_rules.specs.declared.path.Path.{Path}
use Rattle.lr_rules.specs.Names.{aside_path}
use Rattle.lr_rules.specs.Path.{parent_of}
use Rattle.lr_host.specs.declared.thing.Thing.TheVariants as thing
use Rattle.lr_host.specs.declared.entry.Entry.TheVariants as entry
use Rattle.lr_host.specs.declared.journal.OpenFile.{OpenFile}
use Rattle.lr_host.specs.Fits.{Fits}
use Rattle.lr_host.specs.Opening.{IsValid, IsJournal}
use Rattle.lr_host.specs.Safe.{IsPrefix, whole as all_of, shorter}
use Rattle.lr_host.specs.Sets.{LogSet}
use Rattle.lr_host.specs.World.{Past, ◌▸◌, world, names}
use Rattle.lr_laws.specs.Chain.{log, first, worked_file}
use Rattle.lr_laws_family.specs.Whole.{Has}
use Rattle.lr_laws.proofs.Parts.{named_drawn}
use Rattle.lr_laws.proofs.Example.{none_of}
use Rattle.lr_laws.proofs.DurableExamples.{other}
use Rattle.lr_move.specs.Moved.{IsLetGo, LetsGoWhole}
use Rattle.lr_move.specs.Worked.{tmp, part, waiting, start, filled, bytes_pending, before_file_sync, name_pending, before_dir_sync}

-- ---- the opening is a disk

waiting_valid : IsValid waiting
waiting_valid = record {
  once = ((other tmp (codes "/") refl, (other tmp (codes "/v") refl, tt)), ((other (codes "/") (codes "/v") refl, tt), (tt, tt)));
  root = (0, omega arith, refl);
  inside = All-cons In tmp (codes "/" ∷ codes "/v" ∷ []) in_v (All-cons In (codes "/") (codes "/v" ∷ []) in_root (All-cons In (codes "/v") [] in_root (none_of In)));
  named = one;
  known = All-cons (λ (n : Path × ℕ). n.1 < length waiting.files) (tmp, 0) [] (omega arith) (none_of (λ (n : Path × ℕ). n.1 < length waiting.files));
  held = none_of (λ h. h.1 < length waiting.files);
  hold_once = tt;
  synced = All-cons Synced (worked_file (codes "C")) [] (omega arith) (none_of Synced);
}
  where
    In : Path → Type 0
    In x = Contains waiting.dirs (parent_of x)

    Synced : OpenFile → Type 0
    Synced f = f.synced ≤ length f.bytes

    in_v : (k : ℕ) × (k < length waiting.dirs) × (slice_index_or waiting.dirs k (codes "/v") ≡ codes "/v")
    in_v = (1, omega arith, refl)

    in_root : (k : ℕ) × (k < length waiting.dirs) × (slice_index_or waiting.dirs k (codes "/") ≡ codes "/")
    in_root = (0, omega arith, refl)

    one : (g : ℕ) → g < length waiting.files → count_by (λ n. n.1 == g) waiting.names ≡ 1
    one zero lt = refl
    one (suc g) lt = absurd (omega arith)

-- ---- the entries fit

filled_journal : IsJournal filled
filled_journal = ((((waiting_valid, (refl, refl)), record { part = refl; ended = λ e. absurd (cc) }), (1, refl)), record { part = refl; ended = λ e. omega arith })

bytes_journal : IsJournal bytes_pending
bytes_journal = ((filled_journal, ((1, refl), λ e. cc, λ e. cc, refl, other part first refl)), refl)

pub file_sync_journal : IsJournal before_file_sync
file_sync_journal = ((bytes_journal, (0, refl)), (1, refl))

name_journal : IsJournal name_pending
name_journal = ((filled_journal, (1, refl)), ((1, refl), λ e. cc, λ e. cc, refl, other part first refl))

pub dir_sync_journal : IsJournal before_dir_sync
dir_sync_journal = ((name_journal, (0, refl)), refl)

-- ---- what it needs

-- the file that waits is the first one
first_file : (s : LogSet) (u : Past) (g : ℕ) → s.log ≡ log → names (world u) tmp ≡ thing.File 0 → names (world u) (aside_path s.log) ≡ thing.File g → g ≡ 0
first_file s u g is here named = same (sym here ∙ subst (λ (x : Path). names (world u) (aside_path x) ≡ thing.File g) is named)
  where
    same : thing.File 0 ≡ thing.File g → g ≡ 0
    same e = cc

two : (f : ℕ) → f < 2 → (f ≡ 0) ⊎ (f ≡ 1)
two zero lt = inl refl
two (suc zero) lt = inr refl
two (suc (suc f)) lt = absurd (omega arith)

-- ---- without the sync of the directory

name_goes : (s : LogSet) → s.log ≡ log → IsLetGo s start name_pending → ⊥
name_goes s is l = l.other (none l.whole.copy below ∙ sym (first_file s name_pending l.whole.log is refl l.whole.log_now.named))
  where
    fits : Fits (world name_pending) (entry.Cut [] [])
    fits = record { places = omega arith; closed = ((tt, λ k. absurd (cc)), λ k. absurd (cc)); apart = tt; within = tt }

    -- what a path names behind the cut it named at first
    below : l.whole.copy < 1
    below = named_drawn start l.to l.whole.copy waiting_valid (l.whole.cut (entry.Cut [] []) tt fits).named

    none : (f : ℕ) → f < 1 → f ≡ 0
    none f lt = omega (arith, lt)

pub name_lost : (s : LogSet) → s.log ≡ log → LetsGoWhole s start before_dir_sync → ⊥
name_lost s is h = name_goes s is (h name_pending (shorter (shorter (shorter (shorter (shorter (shorter all_of)))))) unlinked)
  where
    unlinked : IsPrefix (name_pending ▸ entry.Unlinks (aside_path s.log)) before_dir_sync
    unlinked = subst (λ (x : Path). IsPrefix (name_pending ▸ entry.Unlinks (aside_path x)) before_dir_sync) (sym is) (shorter all_of)

-- ---- without the sync of the part file

bytes_go : (s : LogSet) → s.log ≡ log → IsLetGo s start bytes_pending → ⊥
bytes_go s is l =
    ⊎_elim (λ same. l.other (same ∙ sym (first_file s bytes_pending l.whole.log is refl l.whole.log_now.named))) (λ new. emptied l.whole.copy l.whole.bytes new l.whole.copied (l.whole.cut (entry.Cut [] ((1, 0) ∷ [])) tt fits)) (two l.whole.copy below)
  where
    fits : Fits (world bytes_pending) (entry.Cut [] ((1, 0) ∷ []))
    fits = record { places = omega arith; closed = tt; apart = (refl, tt); within = ((first, refl), omega arith, omega arith, tt) }

    below : l.whole.copy < 2
    below = named_drawn bytes_pending l.to l.whole.copy bytes_journal l.whole.copied.named

    emptied : (f : ℕ) (bytes : List ℕ) → f ≡ 1 → Has l.to f bytes bytes_pending → Has l.to f bytes (bytes_pending ▸ entry.Cut [] ((1, 0) ∷ [])) → ⊥
    emptied f bytes new a b =
        let full : codes "C" ≡ bytes = subst (λ (g : ℕ). ((world bytes_pending).files g).bytes ≡ bytes) new a.bytes_are in
        let none : [] ≡ bytes = subst (λ (g : ℕ). ((world (bytes_pending ▸ entry.Cut [] ((1, 0) ∷ []))).files g).bytes ≡ bytes) new b.bytes_are in
        cc

pub bytes_lost : (s : LogSet) → s.log ≡ log → LetsGoWhole s start before_file_sync → ⊥
bytes_lost s is h = bytes_go s is (h bytes_pending (shorter (shorter (shorter (shorter (shorter (shorter all_of)))))) unlinked)
  where
    unlinked : IsPrefix (bytes_pending ▸ entry.Unlinks (aside_path s.log)) before_file_sync
    unlinked = subst (λ (x : Path). IsPrefix (bytes_pending ▸ entry.Unlinks (aside_path x)) before_file_sync) (sym is) (shorter all_of)
