-- Where more of a file was read than the limit, the file was longer at a moment of the call.
use Rattle.std.proofs.Common.{◌≡◌, ◌≢◌, ◌<◌, ◌≤◌, ◌+◌, ◌-◌, inl, inr, ⊎_elim, ℕ, min, Bool, true, false, refl, sym, ap, ◌∙◌, subst, arith, List, [], ◌∷◌, ◌++◌, length, take, drop, Some, length-append, length-drop}
use Rattle.std.proofs.lemmas.List.{length-take}
use Rattle.lr_rules.specs.declared.path.Path.{Path}
use Rattle.lr_rules.specs.declared.fault.Fault.{Fault}
use Rattle.lr_rules.specs.declared.fault.Fault.TheVariants as fault
use Rattle.lr_host.specs.declared.entry.Entry.{Entry}
use Rattle.lr_host.specs.declared.entry.Entry.TheVariants.{Reads}
use Rattle.lr_host.specs.declared.thing.Thing.{Thing}
use Rattle.lr_host.specs.declared.thing.Thing.TheVariants as thing
use Rattle.lr_host.specs.Fits.{Fits, GivesPiece, IsPiece}
use Rattle.lr_host.specs.Lists.{IsIn}
use Rattle.lr_host.specs.Told.{Made, at_first, by_writer, by_tool}
use Rattle.lr_host.specs.World.{Past, World, world, names}
use Rattle.lr_host.proofs.Lists.{in_front, in_back}
use Rattle.lr_copy.specs.declared.job.BytesStop.{BytesStop}
use Rattle.lr_copy.specs.declared.job.BytesStop.TheVariants as broke
use Rattle.lr_copy.specs.declared.job.Job.{Job}
use Rattle.lr_copy.specs.Bytes.{Copying, none_read, read_more, took_more, BytesBroke}
use Rattle.lr_plan.specs.declared.mark.Mark.{Mark}
use Rattle.lr_plan.specs.declared.plan.LogPlan.{LogPlan}
use Rattle.lr_plan.specs.declared.step.Step.{Step}
use Rattle.lr_plan.specs.declared.step.Step.TheVariants as step
use Rattle.lr_plan.specs.Course.{Course}
use Rattle.lr_chain.specs.declared.directory.DirStop.TheVariants as unmade
use Rattle.lr_plan.specs.Outcomes.{Fails, badly, not_run, maybe_run, bytes_fault}
use Rattle.lr_plan.specs.Steps.{step_if, copy, rotation_of, retirement_of}
use Rattle.lr_run.proofs.Courses.{IsNoCopy, a_rotation, a_retirement}

-- ---- the copies of steps

-- where the step copies a file, C holds of it and of the limit
abbrev pub FitsCopy : (Path → ℕ → Type 0) → Step → Type 0
FitsCopy C (step.Copies from to limit) = C from limit
FitsCopy C _ = Unit {0}

abbrev pub FitCopies : (Path → ℕ → Type 0) → List Step → Type 0
FitCopies C [] = Unit {0}
FitCopies C (s ∷ ss) = FitsCopy C s × FitCopies C ss

module _ (C : Path → ℕ → Type 0) where
  pub fit_on : (xs ys : List Step) → FitCopies C xs → FitCopies C ys → FitCopies C (xs ++ ys)
  fit_on [] ys a b = b
  fit_on (s ∷ xs) ys a b = (a.0, fit_on xs ys a.1 b)

  pub fit_one : (s : Step) → IsNoCopy s → FitCopies C (s ∷ [])
  fit_one (step.Copies from to limit) k = absurd k
  fit_one _ k = (tt, tt)

  fit_copy : (job : Job) → C job.from job.limit → FitCopies C (copy job)
  fit_copy job c = fit_on (step_if job.stale (step.Removes job.part)) _ (cleared job.stale) (tt, (c, (tt, (tt, (tt, cut job.cut)))))
    where
      cleared : (b : Bool) → FitCopies C (step_if b (step.Removes job.part))
      cleared true = (tt, tt)
      cleared false = tt

      cut : (b : Bool) → FitCopies C (step_if b (step.Truncates job.from))
      cut true = (tt, tt)
      cut false = tt

  pub fit_log : (l : LogPlan) → ((job : Job) → l.job ≡ Some job → C job.from job.limit) → FitCopies C (rotation_of l) × FitCopies C (retirement_of l)
  fit_log l c = (a_rotation (FitCopies C) tt fit_on fit_one l (λ job is. fit_copy job (c job is)), a_retirement (FitCopies C) tt fit_on fit_one l (λ job is. fit_copy job (c job is)))

-- ---- the last read

-- a read gave more of the file than the limit leaves
pub record ReadsOver (C : Path → ℕ → Type 0) (x : Path) (ts : List Entry) : Type 0 where
  pub limit : ℕ
  pub fits : C x limit
  pub place : ℕ
  pub piece : List ℕ
  pub some : piece ≢ []
  pub over : limit < place + length piece
  pub read : IsIn (Reads x place piece) ts

record ReadsTo (x : Path) (count : ℕ) (ts : List Entry) : Type 0 where
  place : ℕ
  piece : List ℕ
  some : piece ≢ []
  to : count ≡ place + length piece
  read : IsIn (Reads x place piece) ts

last_read : (from to : Path) (bytes owed : List ℕ) (ts : List Entry) → Copying from to bytes owed ts → 0 < length bytes → ReadsTo from (length bytes) ts
last_read from to _ _ _ none_read lt = absurd (omega (arith, lt))
last_read from to _ _ _ (read_more {bytes = bytes} {ts = ts} c piece some short) lt = record { place = length bytes; piece = piece; some = some; to = length-append bytes piece; read = in_back (Reads from (length bytes) piece) ts _ (inl refl) }
last_read from to bytes _ _ (took_more {ts = ts} piece owed c) lt =
    let r = last_read from to bytes (piece ++ owed) ts c lt in
    record { place = r.place; piece = r.piece; some = r.some; to = r.to; read = in_front (Reads from r.place r.piece) ts _ r.read }

module _ (C : Path → ℕ → Type 0) (x : Path) where
  pub over_in : (xs ys : List Entry) → ReadsOver C x xs → ReadsOver C x (xs ++ ys)
  over_in xs ys r = record { limit = r.limit; fits = r.fits; place = r.place; piece = r.piece; some = r.some; over = r.over; read = in_front (Reads x r.place r.piece) xs ys r.read }

  pub over_back : (xs ys : List Entry) → ReadsOver C x ys → ReadsOver C x (xs ++ ys)
  over_back xs ys r = record { limit = r.limit; fits = r.fits; place = r.place; piece = r.piece; some = r.some; over = r.over; read = in_back (Reads x r.place r.piece) xs ys r.read }

  copied_over : (from to : Path) (limit : ℕ) (ts : List Entry) → from ≡ x → C from limit → BytesBroke from to limit broke.TooLong ts → ReadsOver C x ts
  copied_over from to limit ts same c b =
      let r : ReadsTo from (length b.0) ts = last_read from to b.0 b.1 ts b.3 (omega (arith, b.2)) in
      subst (λ (y : Path). ReadsOver C y ts) same (record { limit = limit; fits = c; place = r.place; piece = r.piece; some = r.some; over = omega (arith, r.to, b.2); read = r.read })

  bytes_over : (from to : Path) (limit : ℕ) (why : BytesStop) (f : Fault) (ts : List Entry) → f ≡ fault.TooLong x → f ≡ bytes_fault from to why → C from limit → BytesBroke from to limit why ts → ReadsOver C x ts
  bytes_over from to limit broke.Read f ts is same c b = absurd (cc)
  bytes_over from to limit broke.Append f ts is same c b = absurd (cc)
  bytes_over from to limit broke.TooLong f ts is same c b = copied_over from to limit ts (let both : fault.TooLong from ≡ fault.TooLong x = sym same ∙ is in cc) c b

  step_over : (s : Step) (f : Fault) (ts : List Entry) → f ≡ fault.TooLong x → FitsCopy C s → Fails s f ts → ReadsOver C x ts
  step_over (step.Runs phase on command) f ts is c (badly end ne same one) = absurd (cc)
  step_over (step.Runs phase on command) f ts is c (not_run same none) = absurd (cc)
  step_over (step.Runs phase on command) f ts is c (maybe_run end same one) = absurd (cc)
  step_over (step.Removes path) f ts is c h = let same = h.0 in absurd (cc)
  step_over (step.MakesDir path mode) f ts is c (unmade.Make, same, made) = absurd (cc)
  step_over (step.MakesDir path mode) f ts is c (unmade.Look, same, none) = absurd (cc)
  step_over (step.MakesDir path mode) f ts is c (unmade.NotDir, same, saw) = absurd (cc)
  step_over (step.Renames from to) f ts is c h = let same = h.0 in absurd (cc)
  step_over (step.Creates path mode) f ts is c h = let same = h.0 in absurd (cc)
  step_over (step.Takes path mode) f ts is c h = ⊎_elim (λ a. let same = a.0 in absurd (cc)) (λ t. let same = t.0 in absurd (cc)) h
  step_over (step.Copies from to limit) f ts is c h = bytes_over from to limit h.0 f ts is h.1 c h.2
  step_over (step.Appends path text) f ts is c h = let same = h.0 in absurd (cc)
  step_over (step.SyncsFile path) f ts is c h = let same = h.0 in absurd (cc)
  step_over (step.SyncsDir path) f ts is c h = let same = h.0 in absurd (cc)
  step_over (step.Truncates path) f ts is c h = let same = h.0 in absurd (cc)
  step_over (step.Rotated log) f ts is c h = absurd h

  -- where a file was too long, such a read tells it
  pub course_over : (steps : List Step) (ms : List Mark) (fs : List Fault) (ts : List Entry) → FitCopies C steps → Course steps ms fs ts → IsIn (fault.TooLong x) fs → ReadsOver C x ts
  course_over [] ms fs ts q c i = absurd (subst (IsIn (fault.TooLong x)) c.1 i)
  course_over (s ∷ ss) ms fs ts q (inl h) i = step_over s h.fault ts (⊎_elim (λ same. same) (λ none. absurd none) (subst (IsIn (fault.TooLong x)) h.told i)) q.0 h.failed
  course_over (s ∷ ss) ms fs ts q (inr g) i = subst (ReadsOver C x) (sym g.entries.joined) (over_back g.entries.front g.entries.back (course_over ss g.later fs g.entries.back q.1 g.entries.second i))

-- ---- the moment of the read

-- the moment of an entry of the tool
pub record At (p q : Past) (e : Entry) : Type 0 where
  pub mid : Past
  pub old : List Entry
  pub new : List Entry
  pub first : Made p old mid
  pub fits : Fits (world mid) e
  pub second : Made mid new q

pub made_at : (p q : Past) (es : List Entry) (e : Entry) → Made p es q → IsIn e es → At p q e
made_at p _ _ e at_first i = absurd i
made_at p _ es e (by_writer {q = q} {e = d} m w f) i = let r = made_at p q es e m i in record { mid = r.mid; old = r.old; new = r.new; first = r.first; fits = r.fits; second = by_writer r.second w f }
made_at p _ _ e (by_tool {es = es} {q = q} {e = d} m w f) i = ⊎_elim
    (λ (same : d ≡ e). record { mid = q; old = es; new = d ∷ []; first = m; fits = subst (Fits (world q)) same f; second = by_tool at_first w f })
    (λ older. let r = made_at p q es e m older in record { mid = r.mid; old = r.old; new = d ∷ r.new; first = r.first; fits = r.fits; second = by_tool r.second w f }) i

piece_within : (bytes : List ℕ) (place : ℕ) (piece : List ℕ) → piece ≢ [] → IsPiece bytes place piece → place + length piece ≤ length bytes
piece_within bytes place [] some p = absurd (some refl)
piece_within bytes place (b ∷ piece) some p =
    let count : length (b ∷ piece) ≡ length (take (length (b ∷ piece)) (drop place bytes)) = ap length p.part in
    let taken : length (take (length (b ∷ piece)) (drop place bytes)) ≡ min (length (b ∷ piece)) (length (drop place bytes)) = length-take (length (b ∷ piece)) (drop place bytes) in
    let left : length (drop place bytes) ≡ length bytes - place = length-drop place bytes in
    let some_left : 0 < length (b ∷ piece) = omega arith in
    omega (arith, count, taken, left, some_left)

-- the file was as long then as what was read of it
record IsLong (w : World) (t : Thing) (count : ℕ) : Type 0 where
  file : ℕ
  is : t ≡ thing.File file
  long : count ≤ length (w.files file).bytes

long_file : (w : World) (t : Thing) (place : ℕ) (piece : List ℕ) → piece ≢ [] → GivesPiece w t place piece → IsLong w t (place + length piece)
long_file w (thing.File g) place piece some p = record { file = g; is = refl; long = piece_within (w.files g).bytes place piece some p }
long_file w thing.Nothing place piece some p = absurd p
long_file w thing.Directory place piece some p = absurd p
long_file w thing.Other place piece some p = absurd p

-- a file that was never longer than the limit wasn't read so
pub never_over : (C : Path → ℕ → Type 0) (x : Path) (p q : Past) (es : List Entry) → Made p es q → ReadsOver C x es
    → ((limit : ℕ) → C x limit → (m : Past) (old new : List Entry) → Made p old m → Made m new q → (g : ℕ) → names (world m) x ≡ thing.File g → length ((world m).files g).bytes ≤ limit) → ⊥
never_over C x p q es made r small =
    let a = made_at p q es (Reads x r.place r.piece) made r.read in
    let l = long_file (world a.mid) (names (world a.mid) x) r.place r.piece r.some a.fits in
    let within = small r.limit r.fits a.mid a.old a.new a.first a.second l.file l.is in
    omega (arith, r.over, l.long, within)
