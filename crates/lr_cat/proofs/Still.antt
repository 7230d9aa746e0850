-- A call changes no name and no byte.
use Rattle.std.proofs.Common.{◌≡◌, ◌⊎◌, inl, inr, ℕ, ℤ, Bool, List, [], ◌∷◌, ◌++◌, reverse, Option, Some, Result, Ok, refl, sym, subst}
use Rattle.std.proofs.lemmas.Option.{same_Some}
use Rattle.lr_rules.specs.declared.path.Path.{Path}
use Rattle.lr_rules.specs.declared.clock.Clock.{Clock}
use Rattle.lr_rules.specs.declared.rules.Rules.{Rules}
use Rattle.lr_rules.specs.declared.rule.Naming.{Naming}
use Rattle.lr_rules.specs.declared.fault.Fault.{Fault}
use Rattle.lr_rules.specs.declared.fault.Fault.TheVariants as fault
use Rattle.lr_rules.specs.Names.{naming_of}
use Rattle.lr_rules.specs.Path.{parent_of}
use Rattle.lr_host.specs.declared.entry.Entry.{Entry}
use Rattle.lr_host.specs.declared.entry.Entry.TheVariants.{Starts, Ends}
use Rattle.lr_host.specs.declared.journal.Journal.{Journal}
use Rattle.lr_host.specs.Looks.{IsDir, Sees}
use Rattle.lr_host.specs.Opening.{IsJournal}
use Rattle.lr_host.specs.Quiet.{ChangeNothing}
use Rattle.lr_host.specs.Told.{Counts, Left, Rose, not_told, is_told, Maybe, WhereTold}
use Rattle.lr_host.specs.World.{past}
use Rattle.lr_host.proofs.Left.{left_as}
use Rattle.lr_host.proofs.Quiet.{quiet_still, sees_quiet, still_both, then_still, none_still}
use Rattle.lr_clock.specs.Came.{WhereCame}
use Rattle.lr_conf.specs.Meaning.{Meaning}
use Rattle.lr_due.specs.Zone.{IsInRange}
use Rattle.lr_include.proofs.AllQuiet.{reads_quiet, lacking_quiet}
use Rattle.lr_looks.specs.Inside.{Inside}
use Rattle.lr_cat.specs.declared.outcome.CatOutcome.{CatOutcome}
use Rattle.lr_cat.specs.declared.outcome.CatOutcome.TheVariants as outcome
use Rattle.lr_cat.specs.declared.words.Wanted.{Wanted}
use Rattle.lr_cat.specs.Came.{Came, LogEnds, held, short, called, RulesEnd, no_log, lacks, given, ConfsEnd, not_read, read, CatEnds, no_clock, no_memory, behind_clock, CatShows, bad_words, no_words, wants}
use Rattle.lr_cat.specs.Cats.{Cats, no_directory, began, CatIsShort}
use Rattle.lr_cat.specs.Complete.{IsClear, NoRise, PrintsAll}
use Rattle.lr_cat.specs.History.{IsHistory}
use Rattle.lr_cat.specs.Says.{CatSays, HasCounted, HasFault}
use Rattle.lr_host.specs.Looking.{AreSights}
use Rattle.lr_cat.specs.Texts.{FileText}
use Rattle.lr_cat.specs.Words.{wanted}
use Rattle.lr_cat.specs.Internal.{CameSo}
use Rattle.lr_cat.proofs.Complete.{shows_print}
use Rattle.lr_cat.proofs.Sighted.{sights_still, works_sights}
use Rattle.lr_cat.proofs.Whole.{IsWork, shows_work, some_none, whole_history}
use Rattle.lr_host.proofs.Quiet.{still_in_order}
use Rattle.lr_cat.proofs.Keeping.{still_safe}

sees_still : {P : _} (x : Path) (ts : List Entry) → Sees x P ts → ChangeNothing ts
sees_still x ts s = quiet_still ts (sees_quiet x ts s)

inside_still : (w : Wanted) (clock : Clock) (rules : Rules) (P : List Entry → Type 0) (ts : List Entry) → ((us : List Entry) → P us → AreSights us) → Inside w.state clock rules P ts → ChangeNothing ts
inside_still w clock rules P ts f i = subst ChangeNothing (sym i.entries)
    (still_both i.before (Starts w.state clock.now rules ∷ (i.between ++ Ends ∷ [])) (sees_still (parent_of w.state) i.before i.directory) (still_both i.between (Ends ∷ []) (sights_still i.between (f i.between i.within)) refl))

maybe_still : (w : Wanted) (clock : Clock) (rules : Rules) (ts : List Entry) → Maybe (Starts w.state clock.now rules) ts → ChangeNothing ts
maybe_still w clock rules ts (inl e) = none_still ts e
maybe_still w clock rules ts (inr e) = subst ChangeNothing (sym e) refl

cats_still : (w : Wanted) (clock : Clock) (rules : Rules) (n : Naming) (how : Result Bool Fault) (texts : List FileText) (ts : List Entry) → Cats w clock rules n how texts ts → ChangeNothing ts
cats_still w clock rules n how texts ts (no_directory is e h) = sees_still (parent_of w.state) ts h
cats_still w clock rules n how texts ts (Cats.not_seen is e h) = none_still ts h
cats_still w clock rules n how texts ts (Cats.not_begun is e h) = then_still (Sees (parent_of w.state) IsDir) (Maybe (Starts w.state clock.now rules)) ts (λ us s. sees_still (parent_of w.state) us s) (λ us s. maybe_still w clock rules us s) h
cats_still w clock rules n how texts ts (began i) = inside_still w clock rules _ ts (λ us h. works_sights n w.log how texts us h) i

short_still : (w : Wanted) (clock : Clock) (rules : Rules) (ts : List Entry) → CatIsShort w clock rules ts → ChangeNothing ts
short_still w clock rules ts (inl e) = none_still ts e
short_still w clock rules ts (inr i) = inside_still w clock rules AreSights ts (λ us h. h) i

log_still : (w : Wanted) (clock : Clock) (m : Meaning) (rules : Rules) (n : Naming) (out : CatOutcome) (came : Option Came) (ts : List Entry) → LogEnds w clock m rules n out came ts → ChangeNothing ts
log_still w clock m rules n out came ts (held is e h) = sees_still (parent_of w.state) ts h
log_still w clock m rules n out came ts (short is e h) = short_still w clock rules ts h
log_still w clock m rules n out came ts (called how texts is e h) = cats_still w clock rules n how texts ts h

rules_still : (w : Wanted) (clock : Clock) (m : Meaning) (rules : Rules) (out : CatOutcome) (came : Option Came) (ts : List Entry) → RulesEnd w clock m rules out came ts → ChangeNothing ts
rules_still w clock m rules out came ts (no_log is e h k) = none_still ts k
rules_still w clock m rules out came ts (lacks is e h) = none_still ts h
rules_still w clock m rules out came ts (given rule first family h) = log_still w clock m rules (naming_of rule w.log) out came ts h

confs_still : (w : Wanted) (clock : Clock) (out : CatOutcome) (came : Option Came) (ts : List Entry) → ConfsEnd w clock out came ts → ChangeNothing ts
confs_still w clock out came ts (not_read is e h) = quiet_still ts (lacking_quiet w.confs ts h)
confs_still w clock out came ts (ConfsEnd.broke_off m is e some h) = quiet_still ts (reads_quiet w.confs m ts h)
confs_still w clock out came ts (read m rules same calls h) = then_still _ _ ts (λ us r. quiet_still us (reads_quiet w.confs m us r)) (λ us r. rules_still w clock m rules out came us r) h

ends_still : (w : Wanted) (seconds : ℤ) (out : CatOutcome) (came : Option Came) (ts : List Entry) → CatEnds w seconds out came ts → ChangeNothing ts
ends_still w seconds out came ts (no_clock is e h k) = none_still ts k
ends_still w seconds out came ts (no_memory is e h) = none_still ts h
ends_still w seconds out came ts (behind_clock clock range is h) = confs_still w clock out came ts h

pub shows_still : (here : Path) (words : List (List ℕ)) (seconds : ℤ) (out : CatOutcome) (came : Option Came) (ts : List Entry) → CatShows here words seconds out came ts → ChangeNothing ts
shows_still here words seconds out came ts (bad_words is e h k) = none_still ts k
shows_still here words seconds out came ts (no_words is e k) = none_still ts k
shows_still here words seconds out came ts (wants w is h) = ends_still w seconds out came ts h

-- ---- all that is told

whole : (here : Path) (words : List (List ℕ)) (seconds : ℤ) (out : CatOutcome) (came : Option Came) (o n : Option Journal) → Left (CatShows here words seconds out came) o n → WhereTold o IsJournal
    → (w : Wanted) → wanted here words ≡ Some w → WhereCame came o n (λ c j k. (waits : Bool) → c.how ≡ Ok waits → IsHistory w c (past j) (past k))
whole here words seconds out came _ _ not_told disk w want c j k is before after waits none = absurd (some_none j (sym before))
whole here words seconds out came _ _ (is_told {j = i} {k = l} {es = es} made h) disk w want c j k is before after waits none =
    subst (λ (x : Journal). IsHistory w c (past x) (past k)) first (subst (λ (x : Journal). IsHistory w c (past i) (past x)) last
    (whole_history w c (past i) (past l) es disk made (still_in_order es (shows_still here words seconds out came (reverse es) h)) work))
  where
    first : i ≡ j
    first = same_Some i j before

    last : l ≡ k
    last = same_Some l k after

    work : IsWork w c (reverse es)
    work = shows_work w c waits none here words seconds out (reverse es) want (subst (λ (x : Option Came). CatShows here words seconds out x (reverse es)) is h)

complete : (here : Path) (words : List (List ℕ)) (seconds : ℤ) (out : CatOutcome) (came : Option Came) (o n : Option Journal) (counted counts : Counts) (low high : ℕ) → Left (CatShows here words seconds out came) o n → WhereTold o IsJournal → HasCounted out counted counts
    → (HasFault out fault.Out → Rose low high) → (w : Wanted) (j k : Journal) → wanted here words ≡ Some w → IsInRange seconds → o ≡ Some j → n ≡ Some k → NoRise counted counts low high → ((c : Came) → came ≡ Some c → IsClear w c (past j) (past k)) → PrintsAll out came
complete here words seconds out came _ _ counted counts low high not_told disk has has_out w j k want range before after none clear = absurd (some_none j (sym before))
complete here words seconds out came _ _ counted counts low high (is_told {j = i} {k = l} {es = es} made h) disk has has_out w j k want range before after none clear =
    shows_print w seconds out came (past i) (past l) es disk made (still_in_order es (shows_still here words seconds out came (reverse es) h)) range counted counts low high none has has_out clear_there here words want h
  where
    clear_there : (c : Came) → came ≡ Some c → IsClear w c (past i) (past l)
    clear_there c is = subst (λ (x : Journal). IsClear w c (past x) (past l)) (sym (same_Some i j before)) (subst (λ (x : Journal). IsClear w c (past j) (past x)) (sym (same_Some l k after)) (clear c is))

pub says_so : (here : Path) (words : List (List ℕ)) (seconds : ℤ) (out : CatOutcome) {o n : Option Journal} (counted counts : Counts) {x y : Option (List ℕ)} (low high : ℕ) → WhereTold o IsJournal → CameSo (CatShows here words seconds out) o n x y → HasCounted out counted counts → (HasFault out fault.Out → Rose low high)
    → CatSays here words seconds out o n counted counts x y low high
says_so here words seconds out {o = o} {n = n} counted counts low high disk c has has_out = record {
  came = c.came;
  shown = c.shown;
  took = c.took;
  still = left_as c.shown (λ ts h. shows_still here words seconds out c.came ts h);
  safe = still_safe o n (left_as c.shown (λ ts h. shows_still here words seconds out c.came ts h));
  whole = whole here words seconds out c.came o n c.shown disk;
  complete = complete here words seconds out c.came o n counted counts low high c.shown disk has has_out;
}

-- ---- what came to nothing tells no fault

pub says_nothing : (here : Path) (words : List (List ℕ)) (seconds : ℤ) (out : CatOutcome) {o : Option Journal} (counted counts : Counts) {x : Option (List ℕ)} (low high : ℕ) → WhereTold o IsJournal → CameSo (CatShows here words seconds out) o o x x → (out ≡ outcome.BadWords) ⊎ (out ≡ outcome.OutOfMemory)
    → CatSays here words seconds out o o counted counts x x low high
says_nothing here words seconds out counted counts low high disk c (inl e) = says_so here words seconds out counted counts low high disk c (subst (λ (z : CatOutcome). HasCounted z counted counts) (sym e) tt) (λ h. absurd (subst (λ (z : CatOutcome). HasFault z fault.Out) e h))
says_nothing here words seconds out counted counts low high disk c (inr e) = says_so here words seconds out counted counts low high disk c (subst (λ (z : CatOutcome). HasCounted z counted counts) (sym e) tt) (λ h. absurd (subst (λ (z : CatOutcome). HasFault z fault.Out) e h))
