-- The log of a trial and its members make a family.
use Rattle.std.proofs.Common.{◌≡◌, ◌≤◌, ◌<◌, ◌+◌, ◌^◌, ℕ, suc, false, List, [], ◌∷◌, ◌++◌, length, refl, ap, sym, subst, ◌∙◌, arith, None, All}
use Rattle.std.specs.Prelude.{decimal, codes}
use Rattle.std.specs.List.{list_any}
use Rattle.std.proofs.lemmas.Bool.{or_from}
use Rattle.std.proofs.lemmas.Fmt.{length-decimal-le}
use Rattle.std.proofs.lemmas.List.{length-append, map-append}
use Rattle.std.proofs.lemmas.List.Elements.{All-cons, All-append}
use Rattle.std.proofs.lemmas.List.Folds.{list_any-append}
use Rattle.lr_rules.specs.declared.path.Path.{Path}
use Rattle.lr_rules.specs.declared.rule.Naming.{Naming}
use Rattle.lr_rules.specs.Names.{AreDigits}
use Rattle.lr_rules.proofs.Digits.{decimal_run}
use Rattle.lr_family.specs.Kin.{IsKin, is_barred}
use Rattle.lr_family.specs.declared.family.Family.{Family}
use Rattle.lr_nights.specs.Summary.{logs_of}
use Rattle.lr_nights.specs.Opening.{log_path, log_naming, named_log, named_logs_from}
use Rattle.lr_nights.proofs.Fronts.{moved}

digits_clean : (ds : List ℕ) → AreDigits ds → list_any is_barred ds ≡ false
digits_clean [] all = refl
digits_clean (d ∷ ds) all = or_from (is_barred d) (list_any is_barred ds) (clean d (all 0 d (omega arith)).0) (digits_clean ds (λ k x lt. all (suc k) x (omega arith)))
  where
    clean : (d : ℕ) → 48 ≤ d → is_barred d ≡ false
    clean d le = grind arith

base_clean : (log : ℕ) → log < 2 ^ 32 → list_any is_barred (decimal log ++ codes ".log") ≡ false
base_clean log lt = list_any-append is_barred (decimal log) (codes ".log") ∙ or_from (list_any is_barred (decimal log)) false (digits_clean (decimal log) (decimal_run log (omega arith)).1) refl

longer : (a b c : List ℕ) → codes "/v/" ++ a ≡ codes "/v" ++ (47 ∷ ((a ++ 46 ∷ b) ++ c)) → ⊥
longer a b c e = let l = ap length e in omega (arith, length-append (a ++ 46 ∷ b) c, length-append a (46 ∷ b))

pub kin : (log : ℕ) (path : Path) (n : Naming) → log < 2 ^ 32 → path ≡ log_path log → n ≡ log_naming log → IsKin path n
kin log path n lt e h = subst (λ (p : Path). IsKin p n) (sym e) (subst (λ (m : Naming). IsKin (log_path log) m) (sym h) (one log lt))
  where
    one : (log : ℕ) → log < 2 ^ 32 → IsKin (log_path log) (log_naming log)
    one log lt = record {
      dir = omega arith;
      size = omega (arith, length-decimal-le 10 log (omega arith) (omega arith) (omega arith), length-append (decimal log) (codes ".log"));
      base = base_clean log lt;
      ext = refl;
      apart = λ _ place m. longer (decimal log ++ codes ".log") _ _ m.named;
    }

-- one log more
pub one_more_log : (fs : List Family) (f : Family) (log left : ℕ) (all : List (Path × Naming)) → (f.log ≡ log_path log) × (f.naming ≡ log_naming log) → logs_of fs ++ named_logs_from log (suc left) ≡ all → logs_of (fs ++ f ∷ []) ++ named_logs_from (log + 1) left ≡ all
one_more_log fs f log left all is so_far =
    let one : logs_of (fs ++ f ∷ []) ≡ logs_of fs ++ named_log log ∷ [] = map-append (λ (g : Family). (g.log, g.naming)) fs (f ∷ []) ∙ ap (λ (t : Path × Naming). logs_of fs ++ t ∷ []) (pair f.log (log_path log) f.naming (log_naming log) is.0 is.1) in
    ap (λ (t : List (Path × Naming)). t ++ named_logs_from (log + 1) left) one ∙ moved (logs_of fs) (named_log log ∷ []) (named_logs_from (log + 1) left) all so_far
  where
    pair : (a b : Path) (m n : Naming) → a ≡ b → m ≡ n → ◌≡◌ {A = Path × Naming} (a, m) (b, n)
    pair a b m n e h = cc

pub all_numbered : (fs : List Family) (f : Family) (log : ℕ) → (f.log ≡ log_path log) × (f.naming ≡ log_naming log) → All (λ f. f.naming.dated ≡ None) fs → All (λ f. f.naming.dated ≡ None) (fs ++ f ∷ [])
all_numbered fs f log is so_far = All-append (λ f. f.naming.dated ≡ None) fs (f ∷ []) so_far (All-cons (λ f. f.naming.dated ≡ None) f [] (ap (λ (n : Naming). n.dated) is.1) (λ k d le. absurd (omega arith)))
