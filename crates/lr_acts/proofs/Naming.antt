-- Which names stay behind steps, and which are there.
use Rattle.std.proofs.Common.{◌≡◌, ◌≢◌, ◌⊎◌, inl, inr, ⊎_elim, false, refl, sym, ◌∙◌, ap, subst, ℕ, List, [], ◌∷◌, ◌++◌, reverse, Option, Ok}
use Rattle.std.proofs.lemmas.List.{reverse-reverse}
use Rattle.lr_rules.specs.declared.path.Path.{Path}
use Rattle.lr_rules.specs.declared.fault.Fault.{Fault}
use Rattle.lr_host.specs.declared.thing.Thing.TheVariants as thing
use Rattle.lr_host.specs.declared.entry.Entry.{Entry}
use Rattle.lr_host.specs.declared.entry.Entry.TheVariants.{Renames, Makes, Unlinks}
use Rattle.lr_host.specs.declared.journal.Journal.{Journal}
use Rattle.lr_host.specs.World.{Past, ◌▸◌, past, world, names, put}
use Rattle.lr_host.specs.Told.{Each, Made, at_first, by_writer, by_tool, Left, not_told, is_told}
use Rattle.lr_host.proofs.Looked.{nothing_no_file}
use Rattle.lr_host.proofs.Made.{made_on}
use Rattle.lr_host.proofs.Names.{put_here}
use Rattle.lr_host.proofs.Each.{each_none}
use Rattle.lr_plan.specs.declared.mark.Mark.{Mark}
use Rattle.lr_plan.specs.declared.step.Step.{Step}
use Rattle.lr_plan.specs.declared.step.Step.TheVariants as step
use Rattle.lr_plan.specs.Outcomes.{Succeeds, Fails, marks_of}
use Rattle.lr_acts.specs.Making.{StepNames}
use Rattle.lr_acts.specs.Named.{PathIsNamed, WasNamed, untold, at_moment, TakesName, KeepName, CreatesAt, OneCreates, LastsBehind, TellCreated, KeepsNames}
use Rattle.lr_acts.proofs.Keeping.{KeepsName, writer_keeps, left_keeps}
use Rattle.lr_acts.proofs.Unnaming.{unnames, OfUnnaming, left_made, left_failed}

-- ---- a file that was made

made_there : (x : Path) (mode : Option ℕ) (p q : Past) (es : List Entry) → Made p es q → es ≡ Makes x mode ∷ [] → names (world q) x ≢ thing.Nothing
made_there x mode p _ _ at_first e = absurd (cc)
made_there x mode p _ es (by_writer {q = q} {e = w} m i f) e = writer_keeps q x w i (made_there x mode p q es m e)
made_there x mode p _ _ (by_tool {es = es} {q = q} {e = t} m i f) e = subst (λ (s : Entry). names (world (q ▸ s)) x ≢ thing.Nothing) (let same : Makes x mode ≡ t = cc in same) there
  where
    there : names (world (q ▸ Makes x mode)) x ≢ thing.Nothing
    there gone = let is : put (names (world q)) x (thing.File (world q).drawn) x ≡ thing.File (world q).drawn = put_here (names (world q)) x x (thing.File (world q).drawn) refl in
        nothing_no_file (names (world (q ▸ Makes x mode)) x) (world q).drawn gone is

pub file_made : {o n : Option Journal} (x : Path) (mode : Option ℕ) → Left (λ ts. ts ≡ Makes x mode ∷ []) o n → PathIsNamed x n
file_made x mode not_told = tt
file_made x mode (is_told {j = j} {k = k} {es = es} m h) = made_there x mode (past j) (past k) es m (sym (reverse-reverse es) ∙ ap reverse h)

-- ---- at a moment between

pub was_wider : {P Q : List Entry → Type 0} {a b c d : Option Journal} (x : Path) → Left P a b → WasNamed x b c → Left Q c d → WasNamed x a d
was_wider x not_told untold not_told = untold
was_wider x (is_told {j = j} {k = k} {es = es} m h) (at_moment {k = l} {es = fs} {fs = gs} p made named rest) (is_told {k = z} {es = hs} m' h') =
    at_moment p (made_on (past j) (past k) p es fs m made) named (made_on p (past l) (past z) gs hs rest m')

-- ---- one step

keeps_other : (x : Path) (e : Entry) → unnames e ≡ false → KeepsName x e
keeps_other x (Renames from to) h = absurd (cc)
keeps_other x (Unlinks y) h = absurd (cc)
keeps_other x _ h = tt

keeps_own : (x : Path) (s : Step) → (TakesName x s → ⊥) → OfUnnaming (KeepsName x) s
keeps_own x (step.Removes path) k = k
keeps_own x (step.Renames from to) k = k
keeps_own x _ k = tt

succeeds_keep : (x : Path) (s : Step) (ts : List Entry) → (TakesName x s → ⊥) → Succeeds s ts → Each (KeepsName x) ts
succeeds_keep x s ts k w = left_made (KeepsName x) (keeps_other x) s ts (keeps_own x s k) w

fails_keep : (x : Path) (s : Step) (f : Fault) (ts : List Entry) → (TakesName x s → ⊥) → Fails s f ts → Each (KeepsName x) ts
fails_keep x s f ts k h = left_failed (KeepsName x) (keeps_other x) s f ts (keeps_own x s k) h

-- ---- steps

told_is_created : (x : Path) (s : Step) → TellCreated x (marks_of s) → CreatesAt x s
told_is_created x (step.Creates path mode) t = ⊎_elim (λ same. same) (λ gone. absurd gone) t
told_is_created x (step.MakesDir path mode) t = ⊎_elim (λ gone. absurd gone) (λ gone. absurd gone) t
told_is_created x (step.Rotated log) t = ⊎_elim (λ gone. absurd gone) (λ gone. absurd gone) t
told_is_created x _ t = absurd t

-- the step was made
pub made_names : (s : Step) (told : Option Mark) {o n : Option Journal} → Left (Succeeds s) o n → StepNames s (Ok told) n → KeepsNames (s ∷ []) (marks_of s) o n
made_names s told {o} {n} left named = record {
  kept = λ x k was. left_keeps x left (λ ts w. succeeds_keep x s ts k.0 w) was;
  created = λ x last t. there x s (told_is_created x s t) named;
  planned = λ x t. inl (told_is_created x s t);
}
  where
    there : (x : Path) (s : Step) → CreatesAt x s → StepNames s (Ok told) n → PathIsNamed x n
    there x (step.Creates path mode) same named = subst (λ (y : Path). PathIsNamed y n) same named
    there x _ gone named = absurd gone

-- the step failed, or nothing was done
pub failed_names : (s : Step) (f : Fault) {o n : Option Journal} → Left (Fails s f) o n → KeepsNames (s ∷ []) [] o n
failed_names s f left = record {
  kept = λ x k was. left_keeps x left (λ ts h. fails_keep x s f ts k.0 h) was;
  created = λ x last t. absurd t;
  planned = λ x t. absurd t;
}

pub nothing_names : (steps : List Step) {o n : Option Journal} → Left (λ ts. ts ≡ []) o n → KeepsNames steps [] o n
nothing_names steps left = record {
  kept = λ x k was. left_keeps x left (λ ts is. each_none (KeepsName x) is) was;
  created = λ x last t. absurd t;
  planned = λ x t. absurd t;
}

pub same_names : (steps : List Step) (o : Option Journal) → KeepsNames steps [] o o
same_names steps o = record { kept = λ x k was. was; created = λ x last t. absurd t; planned = λ x t. absurd t }

keep_first : (x : Path) (xs ys : List Step) → KeepName x (xs ++ ys) → KeepName x xs
keep_first x [] ys k = tt
keep_first x (s ∷ xs) ys k = (k.0, keep_first x xs ys k.1)

keep_later : (x : Path) (xs ys : List Step) → KeepName x (xs ++ ys) → KeepName x ys
keep_later x [] ys k = k
keep_later x (s ∷ xs) ys k = keep_later x xs ys k.1

last_first : (x : Path) (xs ys : List Step) → LastsBehind x (xs ++ ys) → LastsBehind x xs
last_first x [] ys l = tt
last_first x (s ∷ xs) ys l = (λ c. keep_first x xs ys (l.0 c), last_first x xs ys l.1)

last_later : (x : Path) (xs ys : List Step) → LastsBehind x (xs ++ ys) → LastsBehind x ys
last_later x [] ys l = l
last_later x (s ∷ xs) ys l = last_later x xs ys l.1

-- what the first create, the later keep
last_keep : (x : Path) (xs ys : List Step) → LastsBehind x (xs ++ ys) → OneCreates x xs → KeepName x ys
last_keep x [] ys l c = absurd c
last_keep x (s ∷ xs) ys l c = ⊎_elim (λ here. keep_later x xs ys (l.0 here)) (λ there. last_keep x xs ys l.1 there) c

create_first : (x : Path) (xs ys : List Step) → OneCreates x xs → OneCreates x (xs ++ ys)
create_first x [] ys c = absurd c
create_first x (s ∷ xs) ys c = ⊎_elim (λ here. inl here) (λ there. inr (create_first x xs ys there)) c

create_later : (x : Path) (xs ys : List Step) → OneCreates x ys → OneCreates x (xs ++ ys)
create_later x [] ys c = c
create_later x (s ∷ xs) ys c = inr (create_later x xs ys c)

tell_both : (x : Path) (ms ns : List Mark) → TellCreated x (ms ++ ns) → TellCreated x ms ⊎ TellCreated x ns
tell_both x [] ns t = inr t
tell_both x (m ∷ ms) ns t = ⊎_elim (λ here. inl (inl here)) (λ there. ⊎_elim (λ a. inl (inr a)) (λ b. inr b) (tell_both x ms ns there)) t

-- of a first part of the steps
pub names_of_more : (xs rest all : List Step) {ms : List Mark} {o n : Option Journal} → all ≡ xs ++ rest → KeepsNames xs ms o n → KeepsNames all ms o n
names_of_more xs rest all {ms} {o} {n} is h = subst (λ (steps : List Step). KeepsNames steps ms o n) (sym is) (record {
  kept = λ x k was. h.kept x (keep_first x xs rest k) was;
  created = λ x l t. h.created x (last_first x xs rest l) t;
  planned = λ x t. create_first x xs rest (h.planned x t);
})

-- the ones and then the others
pub names_on : (xs ys : List Step) {ms ns : List Mark} {o m n : Option Journal} → KeepsNames xs ms o m → KeepsNames ys ns m n → KeepsNames (xs ++ ys) (ms ++ ns) o n
names_on xs ys {ms} {ns} {o} {m} {n} h k = record {
  kept = λ x keep was. k.kept x (keep_later x xs ys keep) (h.kept x (keep_first x xs ys keep) was);
  created = λ x l t. ⊎_elim (λ a. k.kept x (last_keep x xs ys l (h.planned x a)) (h.created x (last_first x xs ys l) a)) (λ b. k.created x (last_later x xs ys l) b) (tell_both x ms ns t);
  planned = λ x t. ⊎_elim (λ a. create_first x xs ys (h.planned x a)) (λ b. create_later x xs ys (k.planned x b)) (tell_both x ms ns t);
}
