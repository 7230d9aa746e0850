-- What the path names where a log waits while it is set aside, behind entries that give it no file but the log's.
use Rattle.std.proofs.Common.{◌≡◌, ◌⊎◌, inl, inr, ⊎_elim, ℕ, ◌<◌, refl, sym, ◌∙◌, ap, arith, List, [], ◌∷◌}
use Rattle.lr_rules.specs.declared.path.Path.{Path}
use Rattle.lr_host.specs.declared.entry.Entry.{Entry}
use Rattle.lr_host.specs.declared.entry.Entry.TheVariants.{Attach, Feed, Flush, Detach, Starts, Renames, Makes, MakesDir, Appends, Truncates, Unlinks}
use Rattle.lr_host.specs.declared.entry.Entry.TheVariants as entry
use Rattle.lr_host.specs.declared.thing.Thing.{Thing}
use Rattle.lr_host.specs.declared.thing.Thing.TheVariants as thing
use Rattle.lr_host.specs.World.{Names, put, names, names_after, Past, ◌▸◌, world, Puts, Moves, Adds, NameStep, step, changed}
use Rattle.lr_host.specs.Fits.{Fits, IsFileAt}
use Rattle.lr_host.specs.Later.{IsGeneration}
use Rattle.lr_host.specs.Opening.{IsJournal}
use Rattle.lr_host.specs.Safe.{IsToLog, NoneToLog as NoneBefore}
use Rattle.lr_host.specs.Sets.{LogSet, IsAsideOf, in_reach}
use Rattle.lr_host.specs.Steps.{changes_of}
use Rattle.lr_host.specs.Told.{Each, IsTools, IsWriters, Made, at_first, by_writer, by_tool}
use Rattle.lr_host.proofs.Looked.{nothing_no_file}
use Rattle.lr_host.proofs.Made.{made_journal}
use Rattle.lr_host.proofs.More.{IsMoreAt, file_at, put_at, more_at_on, wrote_names, attach_names, names_by}
use Rattle.lr_host.proofs.Names.{put_here, put_other}
use Rattle.lr_host.proofs.Places.{synced_names}
use Rattle.lr_host.proofs.Closed.{same_or_not}
use Rattle.lr_laws.specs.Follow.{NamesNone}
use Rattle.lr_laws.specs.Rotation.{IsAside, LogFits}
use Rattle.lr_laws.proofs.Disk.{KeepsClosed, fits_closed, leaves_now}
use Rattle.lr_laws.proofs.Entries.{split}
use Rattle.lr_laws.proofs.LogPath.{more_moved, NoneToLog, log_walk}
use Rattle.lr_laws.proofs.Reach.{out_unplaced}
use Rattle.lr_laws.proofs.Sound.{IsSound, sound, sound_on}
use Rattle.lr_laws.proofs.Writing.{not_to_log}

-- the entry gives the path no file but the log's
abbrev pub GivesLogAlone : LogSet → Path → Entry → Type 0
GivesLogAlone s x (Renames from to) = to ≡ x → from ≡ s.log
GivesLogAlone s x (Makes y mode) = y ≡ x → ⊥
GivesLogAlone s x _ = Unit {0}

-- what lies aside gives it none
pub aside_gives : (s : LogSet) (x : Path) (e : Entry) → IsAsideOf s x → IsAside s e → GivesLogAlone s x e
aside_gives s x (Renames from to) a out = λ same. absurd (out_unplaced s x (ap (in_reach s) (sym same) ∙ out.1) (inr a))
aside_gives s x (Makes y mode) a out = λ same. out_unplaced s x (ap (in_reach s) (sym same) ∙ out) (inr a)
aside_gives s x _ a out = tt

-- The path names what the plan has there, or a file that was made since; and where the plan has nothing there, it names no generation.
pub record WaitsSo (s : LogSet) (q : Past) (x : Path) (n : Names) : Type 0 where
  pub more : IsMoreAt x n (names (world q))
  pub none : n x ≡ thing.Nothing → NamesNone s q x

-- ---- one entry

module _ (s : LogSet) (q : Past) (e : Entry) (x : Path) (apart : x ≡ s.log → ⊥) (cl : KeepsClosed (world q) e) (h : IsSound s q) (nl : IsToLog s e → ⊥) where
  -- a generation that the path names is an old one
  old_at : (g : ℕ) → IsGeneration s (q ▸ e) g → names (world (q ▸ e)) x ≡ thing.File g → IsGeneration s q g
  old_at g gen is = ⊎_elim (λ old. old) (λ new. absurd (apart ((sound_on s q e cl h nl).unique (names (world (q ▸ e))) [] (leaves_now (world (q ▸ e))) x s.log g is (named new.0)))) (split s q e cl h nl g gen)
    where
      named : step (world q) e ≡ Adds (Puts s.log (thing.File g)) → names (world (q ▸ e)) s.log ≡ thing.File g
      named st = ap (λ (t : NameStep). names_by (world q) t s.log) st ∙ put_here (names (world q)) s.log s.log (thing.File g) refl

  none_kept : names (world (q ▸ e)) x ≡ names (world q) x → NamesNone s q x → NamesNone s (q ▸ e) x
  none_kept same none g gen is = none g (old_at g gen is) (sym same ∙ is)

  none_drawn : names (world (q ▸ e)) x ≡ thing.File (world q).drawn → NamesNone s (q ▸ e) x
  none_drawn new g gen is = let below : g < (world q).drawn = h.known g (old_at g gen is) in let e : (world q).drawn ≡ g = number (sym new ∙ is) in omega (arith, below, e)
    where
      number : {d : ℕ} → thing.File d ≡ thing.File g → d ≡ g
      number e = cc

none_gone : (s : LogSet) (q : Past) (x : Path) → names (world q) x ≡ thing.Nothing → NamesNone s q x
none_gone s q x gone g gen is = nothing_no_file (names (world q) x) g gone is

wrote_so : (s : LogSet) (q : Past) (e : Entry) (x : Path) (n : Names) → (x ≡ s.log → ⊥) → Fits (world q) e → IsWriters e → IsSound s q → WaitsSo s q x n → WaitsSo s (q ▸ e) x n
wrote_so s q e x n apart f i h w = record { more = more_at_on n (names (world q)) (names (world (q ▸ e))) x w.more (wrote_names q e x i); none = λ free. by free (drawn e i) }
  where
    drawn : (e : Entry) → IsWriters e → (names (world (q ▸ e)) x ≡ names (world q) x) ⊎ (names (world (q ▸ e)) x ≡ thing.File (world q).drawn)
    drawn (Attach v y at) i = ⊎_elim (λ same. inl same) (λ new. inr new.2) (attach_names (world q) v y x at)
    drawn (Feed v bytes at) i = inl refl
    drawn (Flush v) i = inl refl
    drawn (Detach v) i = inl refl
    drawn _ i = absurd i

    by : n x ≡ thing.Nothing → (names (world (q ▸ e)) x ≡ names (world q) x) ⊎ (names (world (q ▸ e)) x ≡ thing.File (world q).drawn) → NamesNone s (q ▸ e) x
    by free (inl same) = none_kept s q e x apart (fits_closed (world q) e f) h (not_to_log s e i) same (w.none free)
    by free (inr new) = none_drawn s q e x apart (fits_closed (world q) e f) h (not_to_log s e i) new

-- an entry of the tool that leaves the path
kept_so : (s : LogSet) (q : Past) (e : Entry) (x : Path) (n : Names) → (x ≡ s.log → ⊥) → Fits (world q) e → (IsToLog s e → ⊥) → IsSound s q → names (world (q ▸ e)) x ≡ names (world q) x → WaitsSo s q x n → WaitsSo s (q ▸ e) x n
kept_so s q e x n apart f nl h same w = record {
  more = more_at_on n (names (world q)) (names (world (q ▸ e))) x w.more (inl same);
  none = λ free. none_kept s q e x apart (fits_closed (world q) e f) h nl same (w.none free);
}

put_so : (s : LogSet) (q : Past) (e : Entry) (y x : Path) (t : Thing) (n : Names) → (x ≡ s.log → ⊥) → KeepsClosed (world q) e → (IsToLog s e → ⊥) → IsSound s q → names (world (q ▸ e)) ≡ put (names (world q)) y t → (x ≡ y → put n y t x ≡ thing.Nothing → NamesNone s (q ▸ e) x) → WaitsSo s q x n
    → WaitsSo s (q ▸ e) x (put n y t)
put_so s q e y x t n apart cl nl h is here w = record {
  more = ⊎_elim (λ same. inl (ap (λ (m : Names). m x) is ∙ same)) (λ new. inr (new.0, (new.1.0, ap (λ (m : Names). m x) is ∙ new.1.1))) (put_at n (names (world q)) y t x w.more);
  none = ⊎_elim (λ same. here same) (λ other free. none_kept s q e x apart cl h nl (ap (λ (m : Names). m x) is ∙ put_other (names (world q)) y x t other) (w.none (sym (put_other n y x t other) ∙ free))) (same_or_not x y);
}

renamed_so : (s : LogSet) (q : Past) (from to x : Path) (n : Names) → (x ≡ s.log → ⊥) → (to ≡ s.log → ⊥) → IsSound s q → (to ≡ x → from ≡ s.log) → (from ≡ s.log → IsFileAt n s.log) → IsMoreAt s.log n (names (world q)) → WaitsSo s q x n
    → WaitsSo s (q ▸ Renames from to) x (changed (Moves from to) n)
renamed_so s q from to x n apart nl h only fit log w = ⊎_elim came other (same_or_not to x)
  where
    there : to ≡ x → (m : Names) → changed (Moves from to) m x ≡ m from
    there same m = put_here (put m from thing.Nothing) to x (m from) (sym same)

    came : to ≡ x → WaitsSo s (q ▸ Renames from to) x (changed (Moves from to) n)
    came same = record {
      more = inl (there same (names (world q)) ∙ (ap (names (world q)) at_log ∙ (file_at n (names (world q)) s.log log file ∙ (ap n (sym at_log) ∙ sym (there same n)))));
      none = λ free. absurd (nothing_no_file (n from) file.0 (sym (there same n) ∙ free) (ap n at_log ∙ file.1));
    }
      where
        at_log : from ≡ s.log
        at_log = only same

        file : IsFileAt n s.log
        file = fit at_log

    other : (to ≡ x → ⊥) → WaitsSo s (q ▸ Renames from to) x (changed (Moves from to) n)
    other apart_to = record { more = more_moved from to n (names (world q)) x apart_to w.more; none = λ free. ⊎_elim gone (λ left. still left free) (same_or_not x from) }
      where
        gone : x ≡ from → NamesNone s (q ▸ Renames from to) x
        gone same = none_gone s (q ▸ Renames from to) x (put_other (put (names (world q)) from thing.Nothing) to x (names (world q) from) (λ is. apart_to (sym is)) ∙ put_here (names (world q)) from x thing.Nothing same)

        left_alone : (m : Names) → (x ≡ from → ⊥) → changed (Moves from to) m x ≡ m x
        left_alone m left = put_other (put m from thing.Nothing) to x (m from) (λ is. apart_to (sym is)) ∙ put_other m from x thing.Nothing left

        still : (x ≡ from → ⊥) → changed (Moves from to) n x ≡ thing.Nothing → NamesNone s (q ▸ Renames from to) x
        still left free = none_kept s q (Renames from to) x apart tt h nl (left_alone (names (world q)) left) (w.none (sym (left_alone n left) ∙ free))

-- ---- one after another

none_made : (s : LogSet) (p q : Past) (es : List Entry) → NoneBefore s p → Made p es q → NoneToLog s es → NoneBefore s q
none_made s p _ _ before at_first none = before
none_made s p _ es before (by_writer {q = q} {e = e} m i f) none = (none_made s p q es before m none, not_to_log s e i)
none_made s p _ _ before (by_tool {es = es} {q = q} {e = e} m i f) none = (none_made s p q es before m none.1, none.0)

pub aside_walk : (s : LogSet) (p q : Past) (es : List Entry) (x : Path) → (x ≡ s.log → ⊥) → IsJournal p → NoneBefore s p → Made p es q → NoneToLog s es → Each (GivesLogAlone s x) es → LogFits s (names (world p)) es
    → WaitsSo s q x (names_after (names (world p)) (changes_of es))
aside_walk s p _ _ x apart j before at_first none gives fit = record { more = inl refl; none = λ free g gen is. nothing_no_file (names (world p) x) g free is }
aside_walk s p _ es x apart j before (by_writer {q = q} {e = e} m i f) none gives fit =
    wrote_so s q e x (names_after (names (world p)) (changes_of es)) apart f i (sound s q (made_journal p q es m j) (none_made s p q es before m none)) (aside_walk s p q es x apart j before m none gives fit)
aside_walk s p _ _ x apart j before (by_tool {es = es} {q = q} {e = e} m i f) none gives fit = go e i f none.0 gives.0 fit.1 (aside_walk s p q es x apart j before m none.1 gives.1 fit.0)
  where
    n : Names
    n = names_after (names (world p)) (changes_of es)

    h : IsSound s q
    h = sound s q (made_journal p q es m j) (none_made s p q es before m none.1)

    log : IsMoreAt s.log n (names (world q))
    log = log_walk s p q es m none.1

    go : (e : Entry) → IsTools e → Fits (world q) e → (IsToLog s e → ⊥) → GivesLogAlone s x e → ((to : Path) → e ≡ Renames s.log to → IsFileAt n s.log) → WaitsSo s q x n → WaitsSo s (q ▸ e) x (names_after (names (world p)) (changes_of (e ∷ es)))
    go (Renames from to) i f nl only fit w = renamed_so s q from to x n apart nl h only (λ at_log. fit to (ap (λ (y : Path). Renames y to) at_log)) log w
    go (Unlinks y) i f nl only fit w = put_so s q (Unlinks y) y x thing.Nothing n apart (fits_closed (world q) (Unlinks y) f) nl h refl (λ same free. none_gone s (q ▸ Unlinks y) x (put_here (names (world q)) y x thing.Nothing same)) w
    go (MakesDir y mode) i f nl only fit w =
        put_so s q (MakesDir y mode) y x thing.Directory n apart (fits_closed (world q) (MakesDir y mode) f) nl h refl (λ same free. absurd (let d : thing.Nothing ≡ thing.Directory = sym free ∙ put_here n y x thing.Directory same in cc)) w
    go (Makes y mode) i f nl only fit w = kept_so s q (Makes y mode) x n apart f nl h (put_other (names (world q)) y x (thing.File (world q).drawn) (λ same. only (sym same))) w
    go (Starts state now rules) i f nl only fit w = kept_so s q (Starts state now rules) x n apart f nl h refl w
    go entry.Ends i f nl only fit w = kept_so s q entry.Ends x n apart f nl h refl w
    go (entry.Look y seen) i f nl only fit w = kept_so s q (entry.Look y seen) x n apart f nl h refl w
    go (entry.List dir listed) i f nl only fit w = kept_so s q (entry.List dir listed) x n apart f nl h refl w
    go (entry.Reads y from piece) i f nl only fit w = kept_so s q (entry.Reads y from piece) x n apart f nl h refl w
    go (Appends y bytes) i f nl only fit w = kept_so s q (Appends y bytes) x n apart f nl h refl w
    go (Truncates y) i f nl only fit w = kept_so s q (Truncates y) x n apart f nl h refl w
    go (entry.SyncsFile y) i f nl only fit w = kept_so s q (entry.SyncsFile y) x n apart f nl h refl w
    go (entry.SyncsDir y) i f nl only fit w = kept_so s q (entry.SyncsDir y) x n apart f nl h (synced_names (world q) y x) w
    go (entry.Runs program args input ended) i f nl only fit w = kept_so s q (entry.Runs program args input ended) x n apart f nl h refl w
    go _ i f nl only fit w = absurd i
