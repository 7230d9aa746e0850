-- A whole dated rotation: it fits, and it turns the family.
use Rattle.std.proofs.Common.{◌≡◌, ℕ, true, cond, refl, sym, ◌∙◌, ap, subst, List, [], ◌∷◌, ◌++◌, map, reverse, ℤ}
use Rattle.std.specs.Prelude.{◌≢◌}
use Rattle.std.proofs.lemmas.List.{reverse-append, reverse-reverse}
use Rattle.std.proofs.lemmas.Slice.Eq.{bytes_eq-Decides}
use Rattle.lr_rules.specs.declared.path.Path.{Path}
use Rattle.lr_rules.specs.declared.rule.Count.{Count}
use Rattle.lr_rules.specs.declared.rule.Naming.{Naming}
use Rattle.lr_rules.specs.Limits.{is_format, or_none}
use Rattle.lr_rules.specs.Dated.{stamp_key, IsDatedAt}
use Rattle.lr_stamps.proofs.Naming.{one_stamp_at}
use Rattle.lr_host.specs.declared.entry.Entry.{Entry}
use Rattle.lr_host.specs.declared.entry.Entry.TheVariants.{Renames}
use Rattle.lr_host.specs.declared.thing.Thing.TheVariants as thing
use Rattle.lr_host.specs.Fits.{IsFileAt, IsDirectoryAt}
use Rattle.lr_rules.specs.Path.{parent_of}
use Rattle.lr_host.specs.Steps.{changes_of, FitAll}
use Rattle.lr_host.specs.World.{Names, put, Moves, changed, names_after}
use Rattle.lr_host.proofs.Looked.{nothing_no_file, nothing_no_other, nothing_no_dir}
use Rattle.lr_host.proofs.Names.{put_other}
use Rattle.lr_chain.specs.DatedRotation.{Ranked, gone, unlink, AreDatedAt, dated_rotation}
use Rattle.lr_chain.specs.DatedTurning.{AreFiles, IsOutside, StandSo, IsDatedTurned}
use Rattle.lr_chain.proofs.DatedFalling.{AreOthers, IsOne, AreKeyed, others_gone, unlinked_same, removals_fit, removals_turn}

-- the steps, the newest first
pub steps_are : (c : Count) (log target : Path) (all : List Ranked) → reverse (dated_rotation c log target all) ≡ map unlink (gone c 0 all) ++ Renames log target ∷ []
steps_are c log target all = reverse-append (Renames log target ∷ []) (reverse (map unlink (gone c 0 all))) ∙ ap (λ xs. xs ++ Renames log target ∷ []) (reverse-reverse (map unlink (gone c 0 all)))

pub moved_other : (n : Names) (log target x : Path) → x ≢ log → x ≢ target → changed (Moves log target) n x ≡ n x
moved_other n log target x a b = put_other (put n log thing.Nothing) target x (n log) b ∙ put_other n log x thing.Nothing a

-- the log has another path than what is free
log_apart : (n : Names) (log target : Path) → IsFileAt n log → n target ≡ thing.Nothing → log ≢ target
log_apart n log target f free same = nothing_no_file (n log) f.0 (ap n same ∙ free) f.1

log_moved : (n : Names) (log target : Path) → log ≢ target → changed (Moves log target) n log ≡ thing.Nothing
log_moved n log target ne = put_other (put n log thing.Nothing) target log (n log) ne ∙ ap (λ b. cond b thing.Nothing (n log)) ((bytes_eq-Decides log log).1 refl)

-- ---- keys by the naming

abbrev pub HasStamp : Naming → Path → ℤ → Type 0
HasStamp n x k = (seconds : ℤ) × (serial : ℕ) × (k ≡ stamp_key seconds serial) × IsDatedAt n seconds serial x

pub one_stamp : (n : Naming) → or_none is_format n.dated ≡ true → IsOne (HasStamp n)
one_stamp n good x a b (t, k, p, at) (u, l, q, bt) = let e = one_stamp_at n t u k l x good at bt in p ∙ (ap (λ v. stamp_key v k) e.0 ∙ (ap (stamp_key u) e.1 ∙ sym q))

pub keyed_by : (n : Naming) (ms : List Ranked) → AreDatedAt n ms → AreKeyed (HasStamp n) ms
keyed_by n [] h = tt
keyed_by n (m ∷ ms) h = ((m.seconds, m.serial, refl, h.0), keyed_by n ms h.1)

-- ---- they fit

pub fits : (n : Naming) (c : Count) (log target : Path) (all : List Ranked) (m : Names) → or_none is_format n.dated ≡ true → IsDirectoryAt m (parent_of target) → StandSo n log target all m → FitAll m (reverse (dated_rotation c log target all))
fits n c log target all m good dir st = subst (FitAll m) (sym (steps_are c log target all)) (removals_fit (HasStamp n) m c (Renames log target ∷ []) (one_stamp n good) (tt, turn) all 0 st.falling (keyed_by n all st.named) st.files)
  where
    turn : IsFileAt m log × (m target ≢ thing.Directory) × (m target ≢ thing.Other) × IsDirectoryAt m (parent_of target) × (log ≢ target)
    turn = (st.log_file, nothing_no_dir (m target) st.free, nothing_no_other (m target) st.free, dir, log_apart m log target st.log_file st.free)

-- ---- they turn the family

others_in : (x : Path) (ms : List Ranked) → IsOutside x ms → AreOthers x ms
others_in x [] h = tt
others_in x (m ∷ ms) h = (h.0, others_in x ms h.1)

-- what names nothing is none of those that name files
others_free : (n : Names) (x : Path) (ms : List Ranked) → n x ≡ thing.Nothing → AreFiles n ms → AreOthers x ms
others_free n x [] free files = tt
others_free n x (m ∷ ms) free files = ((λ same. nothing_no_file (n x) files.0.0 free (ap n same ∙ files.0.1)), others_free n x ms free files.1)

pub turns : (n : Naming) (c : Count) (log target : Path) (all : List Ranked) (m : Names) → or_none is_format n.dated ≡ true → StandSo n log target all m
    → IsDatedTurned n log target c all m (names_after m (changes_of (reverse (dated_rotation c log target all))))
turns n c log target all m good st = subst (λ (es : List Entry). IsDatedTurned n log target c all m (names_after m (changes_of es))) (sym (steps_are c log target all)) (record {
  members = removals_turn (HasStamp n) m c (Renames log target ∷ []) (one_stamp n good) all 0 st.falling (keyed_by n all st.named);
  none_else = λ x t k is out. stays x (others_in x all out) ∙ st.others x t k is out;
  log_gone = stays log (others_free (changed (Moves log target) m) log all gone_there st.files) ∙ gone_there;
  others = λ x a b out. stays x (others_in x all out) ∙ moved_other m log target x a b;
})
  where
    stays : (x : Path) → AreOthers x all → names_after m (changes_of (map unlink (gone c 0 all) ++ Renames log target ∷ [])) x ≡ changed (Moves log target) m x
    stays x h = unlinked_same m (Renames log target ∷ []) x (gone c 0 all) (others_gone c 0 x all h)

    gone_there : changed (Moves log target) m log ≡ thing.Nothing
    gone_there = log_moved m log target (log_apart m log target st.log_file st.free)
