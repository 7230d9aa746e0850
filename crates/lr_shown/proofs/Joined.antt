-- How puts are joined.
use native.Mathlib.Omega.{arith}
use Rattle.std.proofs.Common.{◌≡◌, ◌<◌, ◌≤◌, ◌+◌, ◌∙◌, ℕ, List, [], ◌∷◌, ◌++◌, take, length, get_or, Option, Result, Ok, Err, subst, sym, ap}
use Rattle.std.specs.List.{flat_map}
use Rattle.std.proofs.lemmas.List.{take_all, take_more, append-nil, take-append-drop}
use Rattle.std.proofs.lemmas.Grind.{flat_map-append}
use Rattle.std.specs.Prelude.{drop}
use Rattle.lr_host.specs.declared.sink.SinkFault.{SinkFault}
use Rattle.lr_report.proofs.PutLemmas.{took_none, took_on, part_on, part_first, part_whole}
use Rattle.lr_rules.specs.declared.fault.Phase.{Phase}
use Rattle.lr_scripts.specs.declared.command.Command.{Command}
use Rattle.lr_plan.specs.declared.step.Step.{Step}
use Rattle.lr_plan.specs.Steps.{program}
use Rattle.lr_shown.specs.Lines.{lines_of, step_line}
use Rattle.lr_shown.specs.Puts.{Puts}
use Rattle.lr_shown.proofs.Texts.{lines_on}

abbrev pub Put : Type 0
Put = Result (Unit {0}) SinkFault

abbrev pub Taken : Type 0
Taken = Option (List ℕ)

-- nothing was put
pub puts_none : (o : Taken) (a : ℕ) → Puts [] (Ok tt) o o a a
puts_none o a = record {
  whole = took_none o;
  part = part_whole [] o o (took_none o);
  cause = tt;
  counts = omega arith;
}

-- this was put, and then that
pub puts_on : (x y : List ℕ) (r : Put) (o m k : Taken) (a b c : ℕ) → Puts x (Ok tt) o m a b → Puts y r m k b c → Puts (x ++ y) r o k a c
puts_on x y (Ok u) o m k a b c p q = record {
  whole = took_on x y o m k p.whole q.whole;
  part = part_on x y o m k p.whole q.part;
  cause = tt;
  counts = omega (arith, p.counts, q.counts);
}
puts_on x y (Err e) o m k a b c p q = record {
  whole = tt;
  part = part_on x y o m k p.whole q.part;
  cause = omega (arith, p.counts, q.cause);
  counts = omega (arith, p.counts, q.counts);
}

-- this broke off, so that wasn't put
pub puts_stop : (x y : List ℕ) (e f : SinkFault) (r : Put) (o m : Taken) (a b : ℕ) → r ≡ Err f → Puts x (Err e) o m a b → Puts (x ++ y) r o m a b
puts_stop x y e f r o m a b is p = subst (λ (s : Put). Puts (x ++ y) s o m a b) (sym is) (record {
  whole = tt;
  part = part_first x y o m p.part;
  cause = p.cause;
  counts = p.counts;
})

-- the same text in other words
pub puts_as : (x y : List ℕ) (r : Put) (o m : Taken) (a b : ℕ) → x ≡ y → Puts x r o m a b → Puts y r o m a b
puts_as x y r o m a b e p = subst (λ (t : List ℕ). Puts t r o m a b) e p

module _ {X : Type 0} (f : X → List ℕ) (xs : List X) where
  text_next : (i : ℕ) (d : X) → i < length xs → flat_map f (take i xs) ++ f (get_or xs i d) ≡ flat_map f (take (i + 1) xs)
  text_next i d h =
      sym (ap (flat_map f) (take_more xs i d h) ∙ flat_map-append f (take i xs) (get_or xs i d ∷ []) ∙ ap (λ t. flat_map f (take i xs) ++ t) (append-nil (f (get_or xs i d))))

  -- the text of the next value was put
  pub puts_next : (i : ℕ) (d : X) (o m k : Taken) (a b c : ℕ) → d ≡ get_or xs i d → i < length xs → Puts (flat_map f (take i xs)) (Ok tt) o m a b → Puts (f d) (Ok tt) m k b c
      → Puts (flat_map f (take (i + 1) xs)) (Ok tt) o k a c
  puts_next i d o m k a b c is h p q =
      puts_as (flat_map f (take i xs) ++ f (get_or xs i d)) (flat_map f (take (i + 1) xs)) (Ok tt) o k a c (text_next i d h)
      (puts_on (flat_map f (take i xs)) (f (get_or xs i d)) (Ok tt) o m k a b c p (subst (λ (x : X). Puts (f x) (Ok tt) m k b c) is q))

  -- it broke off
  pub puts_broken : (i : ℕ) (d : X) (e g : SinkFault) (r : Put) (o m k : Taken) (a b c : ℕ) → d ≡ get_or xs i d → i < length xs → r ≡ Err g → Puts (flat_map f (take i xs)) (Ok tt) o m a b
      → Puts (f d) (Err e) m k b c → Puts (flat_map f xs) r o k a c
  puts_broken i d e g r o m k a b c is h failed p q =
      puts_as (flat_map f (take (i + 1) xs) ++ flat_map f (drop (i + 1) xs)) (flat_map f xs) r o k a c
      (sym (flat_map-append f (take (i + 1) xs) (drop (i + 1) xs)) ∙ ap (flat_map f) (take-append-drop (i + 1) xs))
      (puts_stop (flat_map f (take (i + 1) xs)) (flat_map f (drop (i + 1) xs)) e g r o k a c failed
      (puts_as (flat_map f (take i xs) ++ f (get_or xs i d)) (flat_map f (take (i + 1) xs)) (Err e) o k a c (text_next i d h)
      (puts_on (flat_map f (take i xs)) (f (get_or xs i d)) (Err e) o m k a b c p (subst (λ (x : X). Puts (f x) (Err e) m k b c) is q))))

  -- all were put
  pub puts_all : (i : ℕ) (o m : Taken) (a b : ℕ) → length xs ≤ i → Puts (flat_map f (take i xs)) (Ok tt) o m a b → Puts (flat_map f xs) (Ok tt) o m a b
  puts_all i o m a b h p = puts_as (flat_map f (take i xs)) (flat_map f xs) (Ok tt) o m a b (ap (flat_map f) (take_all i xs h)) p

-- the line of one step was put
pub line_alone : (step : Step) (r : Put) (o m : Taken) (a b : ℕ) → Puts (step_line step) r o m a b → Puts (lines_of (step ∷ [])) r o m a b
line_alone step r o m a b p = puts_as (step_line step) (lines_of (step ∷ [])) r o m a b (sym (append-nil (step_line step))) p

-- the lines of these steps were put, and then those of those
pub steps_on : (xs ys : List Step) (r : Put) (o m k : Taken) (a b c : ℕ) → Puts (lines_of xs) (Ok tt) o m a b → Puts (lines_of ys) r m k b c → Puts (lines_of (xs ++ ys)) r o k a c
steps_on xs ys r o m k a b c p q = puts_as (lines_of xs ++ lines_of ys) (lines_of (xs ++ ys)) r o k a c (lines_on xs ys) (puts_on (lines_of xs) (lines_of ys) r o m k a b c p q)

-- they broke off
pub steps_stop : (xs ys : List Step) (e f : SinkFault) (r : Put) (o m : Taken) (a b : ℕ) → r ≡ Err f → Puts (lines_of xs) (Err e) o m a b → Puts (lines_of (xs ++ ys)) r o m a b
steps_stop xs ys e f r o m a b is p = puts_as (lines_of xs ++ lines_of ys) (lines_of (xs ++ ys)) r o m a b (lines_on xs ys) (puts_stop (lines_of xs) (lines_of ys) e f r o m a b is p)

-- the line of the same program was put
pub program_as : (p : Phase) (given wanted : Option Command) (r : Put) (o m : Taken) (a b : ℕ) → given ≡ wanted → Puts (lines_of (program p given)) r o m a b → Puts (lines_of (program p wanted)) r o m a b
program_as p given wanted r o m a b e = puts_as (lines_of (program p given)) (lines_of (program p wanted)) r o m a b (ap (λ (q : Option Command). lines_of (program p q)) e)
