-- Paths that were told as taken, over parts of the acts.
use Rattle.std.proofs.Common.{◌≡◌, inl, inr, ⊎_elim, false, refl, sym, subst, List, [], ◌∷◌, ◌++◌, Option}
use Rattle.lr_rules.specs.declared.path.Path.{Path}
use Rattle.lr_rules.specs.declared.fault.Fault.{Fault}
use Rattle.lr_rules.specs.declared.fault.Fault.TheVariants as fault
use Rattle.lr_host.specs.declared.entry.Entry.{Entry}
use Rattle.lr_host.specs.declared.entry.Entry.TheVariants.{Unlinks}
use Rattle.lr_host.specs.declared.journal.Journal.{Journal}
use Rattle.lr_host.specs.World.{past}
use Rattle.lr_host.specs.Told.{Counts, Each, at_first, Left, not_told, is_told}
use Rattle.lr_host.specs.Lists.{IsIn}
use Rattle.lr_host.proofs.Each.{each_append, each_in_order, each_none}
use Rattle.lr_host.proofs.Left.{left_first, left_as, left_then}
use Rattle.lr_host.proofs.Lists.{in_append}
use Rattle.lr_host.proofs.Made.{made_on}
use Rattle.lr_copy.specs.declared.job.BytesStop.TheVariants as broke
use Rattle.lr_plan.specs.declared.step.Step.{Step}
use Rattle.lr_plan.specs.declared.step.Step.TheVariants as step
use Rattle.lr_chain.specs.declared.directory.DirStop.TheVariants as unmade
use Rattle.lr_plan.specs.Outcomes.{Succeeds, Fails, badly, not_run, maybe_run, bytes_fault}
use Rattle.lr_acts.specs.Making.{FaultCause}
use Rattle.lr_acts.specs.Named.{PathIsNamed, WasNamed, untold, at_moment}
use Rattle.lr_acts.specs.Taken.{SparesPath, WasTaken, no_journal, at_last, TakesAt, OneTakes, RemovesAt, NoneRemoves, LastTaken, TakenOnly}
use Rattle.lr_acts.proofs.Naming.{was_wider}
use Rattle.lr_acts.proofs.Unnaming.{unnames, OfUnnaming, left_made, left_failed}

-- ---- at a moment

pub taken_now : {P : List Entry → Type 0} {o n : Option Journal} (x : Path) → Left P o n → PathIsNamed x n → WasTaken x o n
taken_now x not_told named = no_journal
taken_now x (is_told {k = k} m h) named = at_last (past k) m named at_first tt

-- it came behind other calls
pub taken_later : {P : List Entry → Type 0} {a b c : Option Journal} (x : Path) → Left P a b → WasTaken x b c → WasTaken x a c
taken_later x not_told no_journal = no_journal
taken_later x (is_told {j = j} {k = k} {es = es} m h) (at_last {k = l} {es = fs} {fs = gs} p made named rest none) = at_last p (made_on (past j) (past k) p es fs m made) named rest none

-- other calls came behind it
pub taken_before : {a b c : Option Journal} (x : Path) → WasTaken x a b → Left (Each (SparesPath x)) b c → WasTaken x a c
taken_before x no_journal not_told = no_journal
taken_before x (at_last {k = l} {fs = gs} p made named rest none) (is_told {k = z} {es = hs} m h) =
    at_last p made named (made_on p (past l) (past z) gs hs rest m) (each_append (SparesPath x) hs gs (each_in_order (SparesPath x) hs h) none)

was_of : {a b : Option Journal} (x : Path) → WasTaken x a b → WasNamed x a b
was_of x no_journal = untold
was_of x (at_last p made named rest none) = at_moment p made named rest

-- ---- one step

spares_other : (x : Path) (e : Entry) → unnames e ≡ false → SparesPath x e
spares_other x (Unlinks y) h = absurd (cc)
spares_other x _ h = tt

spares_own : (x : Path) (s : Step) → (RemovesAt x s → ⊥) → OfUnnaming (SparesPath x) s
spares_own x (step.Removes path) k = k
spares_own x _ k = tt

-- the step that fails so is the one that takes the path
taker : (x : Path) (s : Step) (f : Fault) (ts : List Entry) → f ≡ fault.Taken x → Fails s f ts → TakesAt x s
taker x (step.Runs phase on command) f ts is (badly end ne same one) = absurd (cc)
taker x (step.Runs phase on command) f ts is (not_run same none) = absurd (cc)
taker x (step.Runs phase on command) f ts is (maybe_run end same one) = absurd (cc)
taker x (step.Removes path) f ts is h = let same = h.0 in absurd (cc)
taker x (step.MakesDir path mode) f ts is (unmade.Make, same, made) = absurd (cc)
taker x (step.MakesDir path mode) f ts is (unmade.Look, same, none) = absurd (cc)
taker x (step.MakesDir path mode) f ts is (unmade.NotDir, same, saw) = absurd (cc)
taker x (step.Renames from to) f ts is h = let same = h.0 in absurd (cc)
taker x (step.Creates path mode) f ts is h = let same = h.0 in absurd (cc)
taker x (step.Takes path mode) f ts is h = ⊎_elim (λ c. let same = c.0 in absurd (cc)) (λ t. let same = t.0 in cc) h
taker x (step.Copies from to limit) f ts is h = no_bytes h.0 h.1
  where
    no_bytes : (why : _) → f ≡ bytes_fault from to why → ⊥
    no_bytes broke.Read same = cc
    no_bytes broke.Append same = cc
    no_bytes broke.TooLong same = cc
taker x (step.Appends path text) f ts is h = let same = h.0 in absurd (cc)
taker x (step.SyncsFile path) f ts is h = let same = h.0 in absurd (cc)
taker x (step.SyncsDir path) f ts is h = let same = h.0 in absurd (cc)
taker x (step.Truncates path) f ts is h = let same = h.0 in absurd (cc)
taker x (step.Rotated log) f ts is h = absurd h

pub made_taken : (s : Step) {o n : Option Journal} → Left (Succeeds s) o n → TakenOnly (s ∷ []) [] o n
made_taken s left = record {
  taken = λ x l i. absurd i;
  named = λ x i. absurd i;
  planned = λ x i. absurd i;
  spared = λ x k. left_as left (λ ts w. left_made (SparesPath x) (spares_other x) s ts (spares_own x s k.0) w);
}

pub failed_taken : (s : Step) (f : Fault) {o n : Option Journal} (a b : Counts) → Left (Fails s f) o n → FaultCause f a b o n → TakenOnly (s ∷ []) (f ∷ []) o n
failed_taken s f {o} {n} a b left cause = record {
  taken = λ x l i. was x i;
  named = λ x i. was_of x (was x i);
  planned = λ x i. left_as left (λ ts h. inl (taker x s f ts (same x i) h));
  spared = λ x k. left_as left (λ ts h. left_failed (SparesPath x) (spares_other x) s f ts (spares_own x s k.0) h);
}
  where
    same : (x : Path) → IsIn (fault.Taken x) (f ∷ []) → f ≡ fault.Taken x
    same x i = ⊎_elim (λ is. is) (λ none. absurd none) i

    was : (x : Path) → IsIn (fault.Taken x) (f ∷ []) → WasTaken x o n
    was x i = subst (λ (g : Fault). FaultCause g a b o n) (same x i) cause

pub nothing_taken : (steps : List Step) {o n : Option Journal} → Left (λ ts. ts ≡ []) o n → TakenOnly steps [] o n
nothing_taken steps left = record {
  taken = λ x l i. absurd i;
  named = λ x i. absurd i;
  planned = λ x i. absurd i;
  spared = λ x k. left_as left (λ ts is. each_none (SparesPath x) is);
}

here : (o : Option Journal) → Left (λ ts. ts ≡ []) o o
here o = left_first (λ ts. ts ≡ []) o refl

pub same_taken : (steps : List Step) (o : Option Journal) → TakenOnly steps [] o o
same_taken steps o = nothing_taken steps (here o)

-- ---- steps

none_first : (x : Path) (xs ys : List Step) → NoneRemoves x (xs ++ ys) → NoneRemoves x xs
none_first x [] ys k = tt
none_first x (s ∷ xs) ys k = (k.0, none_first x xs ys k.1)

none_later : (x : Path) (xs ys : List Step) → NoneRemoves x (xs ++ ys) → NoneRemoves x ys
none_later x [] ys k = k
none_later x (s ∷ xs) ys k = none_later x xs ys k.1

last_first : (x : Path) (xs ys : List Step) → LastTaken x (xs ++ ys) → LastTaken x xs
last_first x [] ys l = tt
last_first x (s ∷ xs) ys l = (λ c. none_first x xs ys (l.0 c), last_first x xs ys l.1)

last_later : (x : Path) (xs ys : List Step) → LastTaken x (xs ++ ys) → LastTaken x ys
last_later x [] ys l = l
last_later x (s ∷ xs) ys l = last_later x xs ys l.1

-- what the first need, the later don't unlink
last_spares : (x : Path) (xs ys : List Step) → LastTaken x (xs ++ ys) → OneTakes x xs → NoneRemoves x ys
last_spares x [] ys l c = absurd c
last_spares x (s ∷ xs) ys l c = ⊎_elim (λ here. none_later x xs ys (l.0 here)) (λ there. last_spares x xs ys l.1 there) c

pub one_first : (x : Path) (xs ys : List Step) → OneTakes x xs → OneTakes x (xs ++ ys)
one_first x [] ys c = absurd c
one_first x (s ∷ xs) ys c = ⊎_elim (λ here. inl here) (λ there. inr (one_first x xs ys there)) c

pub one_later : (x : Path) (xs ys : List Step) → OneTakes x ys → OneTakes x (xs ++ ys)
one_later x [] ys c = c
one_later x (s ∷ xs) ys c = inr (one_later x xs ys c)

-- of a first part of the steps
pub taken_of_more : (xs rest all : List Step) {fs : List Fault} {o n : Option Journal} → all ≡ xs ++ rest → TakenOnly xs fs o n → TakenOnly all fs o n
taken_of_more xs rest all {fs} {o} {n} is h = subst (λ (steps : List Step). TakenOnly steps fs o n) (sym is) (record {
  taken = λ x l i. h.taken x (last_first x xs rest l) i;
  named = λ x i. h.named x i;
  planned = λ x i. left_as (h.planned x i) (λ ts c. one_first x xs rest c);
  spared = λ x k. h.spared x (none_first x xs rest k);
})

kept_taken : (x : Path) (xs ys : List Step) {P : List Entry → Type 0} {o m n : Option Journal} → LastTaken x (xs ++ ys) → Left (λ ts. OneTakes x xs) o m → WasTaken x o m → (NoneRemoves x ys → Left (Each (SparesPath x)) m n) → Left P m n → WasTaken x o n
kept_taken x xs ys l not_told no_journal f not_told = no_journal
kept_taken x xs ys l (is_told made one) was f left = taken_before x was (f (last_spares x xs ys l one))

-- the ones and then the others
pub taken_on : (xs ys : List Step) (fs gs : List Fault) {P Q : List Entry → Type 0} {o m n : Option Journal} → Left P o m → Left Q m n → TakenOnly xs fs o m → TakenOnly ys gs m n → TakenOnly (xs ++ ys) (fs ++ gs) o n
taken_on xs ys fs gs {o = o} {n = n} left left' h k = record {
  taken = λ x l i. ⊎_elim (λ a. kept_taken x xs ys l (h.planned x a) (h.taken x (last_first x xs ys l) a) (k.spared x) left') (λ b. taken_later x left (k.taken x (last_later x xs ys l) b)) (in_append (fault.Taken x) fs gs i);
  named = λ x i. ⊎_elim (λ a. was_wider x (here o) (h.named x a) left') (λ b. was_wider x left (k.named x b) (here n)) (in_append (fault.Taken x) fs gs i);
  planned = λ x i. ⊎_elim (λ a. left_then (h.planned x a) left' (λ ts us c w. one_first x xs ys c)) (λ b. left_then left (k.planned x b) (λ ts us w c. one_later x xs ys c)) (in_append (fault.Taken x) fs gs i);
  spared = λ x none. left_then (h.spared x (none_first x xs ys none)) (k.spared x (none_later x xs ys none)) (λ ts us a b. each_append (SparesPath x) ts us a b);
}
