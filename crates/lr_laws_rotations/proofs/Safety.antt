-- The moments of a run at which its looks are behind it, at which it began, and at which it hadn't, of a set that is safe.
use Rattle.std.proofs.Common.{◌≡◌, ◌≢◌, ◌⊎◌, inl, inr, ⊎_elim, Bool, true, false, bytes_eq, refl, sym, ◌∙◌, ap, subst, Option, Some, List, [], ◌∷◌, ◌++◌, reverse, append-nil, ℤ}
use Rattle.std.proofs.lemmas.List.{reverse-append, reverse-reverse}
use Rattle.std.proofs.lemmas.Slice.Eq.{bytes_eq-Decides}
use Rattle.lr_rules.specs.declared.path.Path.{Path}
use Rattle.lr_rules.specs.declared.civil.Moment.{Moment}
use Rattle.lr_rules.specs.declared.rule.Way.{Way}
use Rattle.lr_rules.specs.declared.rules.Rules.{Rules}
use Rattle.lr_host.specs.declared.entry.Entry.{Entry}
use Rattle.lr_host.specs.declared.entry.Entry.TheVariants as entry
use Rattle.lr_host.specs.declared.journal.Journal.{Journal}
use Rattle.lr_host.specs.Lists.{IsIn}
use Rattle.lr_host.specs.World.{Past, ◌▸◌, past, world}
use Rattle.lr_host.specs.Told.{Each, IsWriters, Made, at_first, by_writer, by_tool, Left, not_told, is_told}
use Rattle.lr_host.specs.Opening.{IsJournal}
use Rattle.lr_host.specs.Quiet.{IsQuiet, AreQuiet}
use Rattle.lr_host.specs.Sets.{LogSet}
use Rattle.lr_host.specs.Runs.{rules_of, state_of, has_begun}
use Rattle.lr_host.specs.Safe.{IsSafe, KeepsSafe}
use Rattle.lr_host.specs.Steady.{IsSteadyBy, IsSteadyAtBy, NoneAttached}
use Rattle.lr_host.proofs.Each.{each_reverse}
use Rattle.lr_host.proofs.Made.{Cut, cut, CutAt, cut_one, made_journal, made_on}
use Rattle.lr_host.proofs.Steady.{steady_before_by, steady_at_by, none_attached, none_attached_by}
use Rattle.lr_laws.specs.Stays.{KeepsSafeBy}
use Rattle.lr_laws.proofs.Stated.{quiet_safe}
use Rattle.lr_laws_rotations.specs.Target.{Target}
use Rattle.lr_laws_rotations.proofs.Aged.{looked_run}
use Rattle.lr_laws_rotations.proofs.Still.{IsStill, quiet_safe_on, made_still}

-- ---- the state's path

quiet_state : (p : Past) (e : Entry) → IsQuiet e → state_of (p ▸ e) ≡ state_of p
quiet_state p (entry.Starts state now rules) (i, h) = absurd (cc)
quiet_state p _ i = refl

wrote_state : (p : Past) (e : Entry) → IsWriters e → state_of (p ▸ e) ≡ state_of p
wrote_state p (entry.Starts state now rules) i = absurd i
wrote_state p _ i = refl

state_same : (p q : Past) (es : List Entry) → Made p es q → Each IsQuiet es → state_of q ≡ state_of p
state_same p _ _ at_first a = refl
state_same p _ es (by_writer {q = q} {e = e} m i f) a = wrote_state q e i ∙ state_same p q es m a
state_same p _ _ (by_tool {es = es} {q = q} {e = e} m i f) a = quiet_state q e a.0 ∙ state_same p q es m a.1

-- ---- a moment of a run behind its looks

pub record Here (way : Way) (s : LogSet) (state : Path) (now : ℤ) (rules : Rules) (v : Past) : Type 0 where
  pub journal : IsJournal v
  pub safe : IsSafe s v
  pub steady : IsSteadyAtBy way s v
  pub rules_are : rules_of v ≡ rules.sets
  pub now_is : (world v).now ≡ now
  pub state_is : state_of v ≡ Some state
  pub not_begun : has_begun s v ≡ false

-- ---- the set's own log

true_or_not : (b : Bool) → (b ≡ true) ⊎ (b ≡ false)
true_or_not true = inl refl
true_or_not false = inr refl

-- the set's log is among these, or it isn't
pub find : (s : LogSet) (ts : List Target) → ((t : Target) × IsIn t ts × (t.log ≡ s.log)) ⊎ ((t : Target) → IsIn t ts → t.log ≢ s.log)
find s [] = inr (λ t i. absurd i)
find s (t ∷ ts) = ⊎_elim (λ same. inl (t, inl refl, (bytes_eq-Decides t.log s.log).0 same)) (λ differ. ⊎_elim (λ f. inl (f.0, inr f.1, f.2)) (λ ne. inr (none_of differ ne)) (find s ts)) (true_or_not (bytes_eq t.log s.log))
  where
    none_of : bytes_eq t.log s.log ≡ false → ((x : Target) → IsIn x ts → x.log ≢ s.log) → (x : Target) → IsIn x (t ∷ ts) → x.log ≢ s.log
    none_of differ ne x (inl is) same = let e : bytes_eq t.log s.log ≡ true = (bytes_eq-Decides t.log s.log).1 (ap (λ (y : Target). y.log) is ∙ same) in cc
    none_of differ ne x (inr i) same = ne x i same

-- ---- the whole run

-- the moment behind the looks
pub record Looked (way : Way) (s : LogSet) (state : Path) (now : ℤ) (rules : Rules) (b q : Past) (looks acts : List Entry) : Type 0 where
  pub mid : Past
  pub first : Made b (reverse looks) mid
  pub second : Made mid (reverse acts) q
  pub here : Here way s state now rules mid
  pub none : NoneAttached s mid

pub looked : (way : Way) (s : LogSet) (u q : Past) (state : Path) (now : Moment) (rules : Rules) (tail looks acts : List Entry) → tail ≡ looks ++ acts → AreQuiet looks → Made (u ▸ entry.Starts state now rules) (reverse tail) q
    → IsJournal (u ▸ entry.Starts state now rules) → IsSafe s (u ▸ entry.Starts state now rules) → IsSteadyBy way s q → Looked way s state now.seconds rules (u ▸ entry.Starts state now rules) q looks acts
looked way s u q state now rules tail looks acts joined quiet m journal safe st = record { mid = k.mid; first = k.first; second = k.second; here = here; none = none_mid }
  where
    b : Past
    b = u ▸ entry.Starts state now rules

    k : Cut b q (reverse acts) (reverse looks)
    k = cut b q (reverse tail) (reverse acts) (reverse looks) (ap reverse joined ∙ reverse-append looks acts) m

    steady_mid : IsSteadyBy way s k.mid
    steady_mid = steady_before_by way s k.mid q (reverse acts) k.second st

    none_mid : NoneAttached s k.mid
    none_mid = none_attached_by way s k.mid steady_mid

    quiet_back : Each IsQuiet (reverse looks)
    quiet_back = each_reverse IsQuiet looks quiet

    still : IsStill s b k.mid
    still = made_still s b k.mid (reverse looks) k.first quiet_back

    here : Here way s state now.seconds rules k.mid
    here = record {
      journal = made_journal b k.mid (reverse looks) k.first journal;
      safe = quiet_safe_on s b k.mid looks quiet journal safe k.first none_mid;
      steady = steady_at_by way s u k.mid (entry.Starts state now rules) (reverse looks) k.first steady_mid;
      rules_are = still.rules;
      now_is = (looked_run b k.mid (reverse looks) k.first quiet_back).now;
      state_is = state_same b k.mid (reverse looks) k.first quiet_back;
      not_begun = still.begun refl;
    }

-- the moment as the run begins, behind what was read
pub record Begun (s : LogSet) (p q : Past) (front tail : List Entry) (state : Path) (now : Moment) (rules : Rules) : Type 0 where
  pub at : Past
  pub ahead : Made p (reverse front) at
  pub behind : Made (at ▸ entry.Starts state now rules) (reverse tail) q
  pub journal : IsJournal (at ▸ entry.Starts state now rules)
  pub safe : IsSafe s (at ▸ entry.Starts state now rules)

pub begun : (way : Way) (s : LogSet) (p q : Past) (es front tail : List Entry) (state : Path) (now : Moment) (rules : Rules) → reverse es ≡ front ++ entry.Starts state now rules ∷ tail → AreQuiet front → IsJournal p → IsSafe s p → Made p es q → IsSteadyBy way s q → Begun s p q front tail state now rules
begun way s p q es front tail state now rules joined quiet journal safe m st = record {
  at = a.mid;
  ahead = ahead;
  behind = behind_start;
  journal = (journal_at, a.fits);
  safe = quiet_safe s a.mid start (journal_at, a.fits) (quiet_safe_on s p a.mid front quiet journal safe ahead (none_attached_by way s (a.mid ▸ start) (steady_before_by way s (a.mid ▸ start) q (reverse tail) behind_start st)).0) (tt, refl);
}
  where
    start : Entry
    start = entry.Starts state now rules

    k : Cut p q (reverse (start ∷ tail)) (reverse front)
    k = cut p q es (reverse (start ∷ tail)) (reverse front) (sym (reverse-reverse es) ∙ (ap reverse joined ∙ reverse-append front (start ∷ tail))) m

    c : Cut k.mid q (reverse tail) (start ∷ [])
    c = cut k.mid q (reverse (start ∷ tail)) (reverse tail) (start ∷ []) (reverse-append (start ∷ []) tail) k.second

    a : CutAt k.mid c.mid [] start []
    a = cut_one k.mid c.mid (start ∷ []) [] start refl c.first

    ahead : Made p (reverse front) a.mid
    ahead = made_on p k.mid a.mid (reverse front) [] k.first a.first

    behind_start : Made (a.mid ▸ start) (reverse tail) q
    behind_start = subst (λ (ts : List Entry). Made (a.mid ▸ start) ts q) (append-nil (reverse tail)) (made_on (a.mid ▸ start) c.mid q [] (reverse tail) a.second c.second)

    journal_at : IsJournal a.mid
    journal_at = made_journal p a.mid (reverse front) ahead journal

-- where it didn't begin
pub unbegun_safe : (way : Way) (s : LogSet) (p q : Past) (es front rest : List Entry) → reverse es ≡ front ++ rest → rest ≡ [] → AreQuiet front → IsJournal p → IsSafe s p → Made p es q → IsSteadyBy way s q → IsSafe s q
unbegun_safe way s p q es front rest joined none quiet journal safe m st = quiet_safe_on s p q front quiet journal safe
    (subst (λ (ts : List Entry). Made p ts q) (sym (reverse-reverse es) ∙ ap reverse (joined ∙ (ap (λ (xs : List Entry). front ++ xs) none ∙ append-nil front))) m) (none_attached_by way s q st)

-- a call that only looked keeps each set safe
pub quiet_call_safe : (o n : Option Journal) → Left AreQuiet o n → KeepsSafe o n
quiet_call_safe o n not_told = tt
quiet_call_safe o n (is_told {j = j} {k = k} {es = es} m quiet) = λ s journal safe st.
    quiet_safe_on s (past j) (past k) (reverse es) quiet journal safe (subst (λ (ts : List Entry). Made (past j) ts (past k)) (sym (reverse-reverse es)) m) (none_attached s (past k) st)

-- in whichever way its log is rotated
pub quiet_call_safe_by : (way : Way) (when : LogSet → Past → Type 0) (o n : Option Journal) → Left AreQuiet o n → KeepsSafeBy way when o n
quiet_call_safe_by way when o n not_told = tt
quiet_call_safe_by way when o n (is_told {j = j} {k = k} {es = es} m quiet) = λ s so journal safe st.
    quiet_safe_on s (past j) (past k) (reverse es) quiet journal safe (subst (λ (ts : List Entry). Made (past j) ts (past k)) (sym (reverse-reverse es)) m) (none_attached_by way s (past k) st)
