-- Where files come from, step by step.
use Rattle.std.proofs.Common.{◌≡◌, ◌≢◌, inl, inr, Bool, true, false, cond, bytes_eq, List, [], ◌∷◌, ◌++◌, map, reverse, Option, Some, None, refl, sym, ap, ◌∙◌, subst, append_assoc, ℕ}
use Rattle.std.specs.Prelude.{All, filter}
use Rattle.std.specs.List.{flat_map}
use Rattle.std.specs.Option.{option_to_list}
use Rattle.std.proofs.lemmas.List.{append-nil, reverse-append}
use Rattle.std.proofs.lemmas.List.Elements.{All-head, All-tail}
use Rattle.std.proofs.lemmas.Slice.Eq.{bytes_eq-Decides}
use Rattle.lr_rules.specs.declared.fault.Phase.{Phase}
use Rattle.lr_rules.specs.declared.fault.Phase.TheVariants as phase
use Rattle.lr_rules.specs.declared.path.Path.{Path}
use Rattle.lr_host.specs.Lists.{IsIn, IsNotIn, AreDistinct}
use Rattle.lr_host.proofs.Lists.{in_map}
use Rattle.lr_scripts.specs.declared.command.Command.{Command}
use Rattle.lr_scripts.specs.declared.removal.Removal.{Removal}
use Rattle.lr_chain.specs.declared.ready.Move.{Move}
use Rattle.lr_plan.specs.declared.step.Step.{Step}
use Rattle.lr_plan.specs.declared.step.Step.TheVariants as step
use Rattle.lr_plan.specs.Steps.{program, removal, removals, directory, move}
use Rattle.lr_laws_rotations.specs.Rotation.{removal_paths}
use Rattle.lr_audited.specs.Unlinked.{Origins, without, renamed, behind, unlinks, unlinked}

-- ---- lists

pub apart_in : (x y : Path) (xs : List Path) → IsNotIn x xs → IsIn y xs → y ≢ x
apart_in x y [] h i same = i
apart_in x y (z ∷ zs) h (inl e) same = h.0 (sym same ∙ sym e)
apart_in x y (z ∷ zs) h (inr i) same = apart_in x y zs h.1 i same

pub not_in_from : (x : Path) (xs : List Path) → ((y : Path) → IsIn y xs → x ≢ y) → IsNotIn x xs
not_in_from x [] h = tt
not_in_from x (y ∷ ys) h = (h y (inl refl), not_in_from x ys (λ z i. h z (inr i)))

not_in_push : (x y : Path) (xs : List Path) → IsNotIn x xs → x ≢ y → IsNotIn x (xs ++ y ∷ [])
not_in_push x y [] h e = (e, tt)
not_in_push x y (z ∷ zs) h e = (h.0, not_in_push x y zs h.1 e)

not_in_reverse : (x : Path) (xs : List Path) → IsNotIn x xs → IsNotIn x (reverse xs)
not_in_reverse x [] h = tt
not_in_reverse x (y ∷ ys) h = subst (IsNotIn x) (sym (reverse-append (y ∷ []) ys)) (not_in_push x y (reverse ys) (not_in_reverse x ys h.1) h.0)

distinct_push : (xs : List Path) (x : Path) → AreDistinct xs → IsNotIn x xs → AreDistinct (xs ++ x ∷ [])
distinct_push [] x d h = (tt, tt)
distinct_push (y ∷ ys) x d h = (not_in_push y x ys d.0 (λ e. h.0 (sym e)), distinct_push ys x d.1 h.1)

pub distinct_reverse : (xs : List Path) → AreDistinct xs → AreDistinct (reverse xs)
distinct_reverse [] d = tt
distinct_reverse (x ∷ xs) d = subst AreDistinct (sym (reverse-append (x ∷ []) xs)) (distinct_push (reverse xs) x (distinct_reverse xs d.1) (not_in_reverse x xs d.0))

pub filter_all : (p : Path → Bool) (xs : List Path) → ((x : Path) → IsIn x xs → p x ≡ true) → filter p xs ≡ xs
filter_all p [] h = refl
filter_all p (x ∷ xs) h = ap (λ (b : Bool). cond b (x ∷ filter p xs) (filter p xs)) (h x (inl refl)) ∙ ap (λ (ys : List Path). x ∷ ys) (filter_all p xs (λ y i. h y (inr i)))

-- ---- one path

pub without_it : (came : Origins) (path : Path) → without path came path ≡ None
without_it came path = ap (λ (b : Bool). cond b None (came path)) ((bytes_eq-Decides path path).1 refl)

pub without_other : (came : Origins) (path x : Path) → x ≢ path → without path came x ≡ came x
without_other came path x other = go (bytes_eq path x) refl
  where
    go : (b : Bool) → bytes_eq path x ≡ b → cond b None (came x) ≡ came x
    go true same = absurd (other (sym ((bytes_eq-Decides path x).0 same)))
    go false differ = refl

pub renamed_to : (came : Origins) (from to : Path) → renamed from to came to ≡ came from
renamed_to came from to = ap (λ (b : Bool). cond b (came from) (without from came to)) ((bytes_eq-Decides to to).1 refl)

pub renamed_other : (came : Origins) (from to x : Path) → x ≢ from → x ≢ to → renamed from to came x ≡ came x
renamed_other came from to x a b = go (bytes_eq to x) refl
  where
    go : (c : Bool) → bytes_eq to x ≡ c → cond c (came from) (without from came x) ≡ came x
    go true same = absurd (b (sym ((bytes_eq-Decides to x).0 same)))
    go false differ = without_other came from x a

-- ---- steps

abbrev pub run : Origins → List Step → Origins
run came [] = came
run came (s ∷ steps) = run (behind s came) steps

pub run_both : (came : Origins) (a b : List Step) → run came (a ++ b) ≡ run (run came a) b
run_both came [] b = refl
run_both came (s ∷ a) b = run_both (behind s came) a b

pub unlinked_both : (came : Origins) (a b : List Step) → unlinked came (a ++ b) ≡ unlinked came a ++ unlinked (run came a) b
unlinked_both came [] b = refl
unlinked_both came (s ∷ a) b = ap (λ (xs : List Path). unlinks s came ++ xs) (unlinked_both (behind s came) a b) ∙ sym (append_assoc (unlinks s came) (unlinked (behind s came) a) (unlinked (run (behind s came) a) b))

-- the step changes such paths alone
abbrev pub Touches : (Path → Type 0) → Step → Type 0
Touches P (step.Renames from to) = P from × P to
Touches P (step.Removes path) = P path
Touches P (step.Creates path mode) = P path
Touches P (step.Takes path mode) = P path
Touches P _ = Unit {0}

abbrev pub AllTouch : (Path → Type 0) → List Step → Type 0
AllTouch P [] = Unit {0}
AllTouch P (s ∷ steps) = Touches P s × AllTouch P steps

pub touch_both : (P : Path → Type 0) (a b : List Step) → AllTouch P a → AllTouch P b → AllTouch P (a ++ b)
touch_both P [] b h k = k
touch_both P (s ∷ a) b h k = (h.0, touch_both P a b h.1 k)

touches_as : (P Q : Path → Type 0) (s : Step) → ((x : Path) → P x → Q x) → Touches P s → Touches Q s
touches_as P Q (step.Renames from to) f h = (f from h.0, f to h.1)
touches_as P Q (step.Removes path) f h = f path h
touches_as P Q (step.Creates path mode) f h = f path h
touches_as P Q (step.Takes path mode) f h = f path h
touches_as P Q _ f h = tt

pub touch_as : (P Q : Path → Type 0) (steps : List Step) → ((x : Path) → P x → Q x) → AllTouch P steps → AllTouch Q steps
touch_as P Q [] f h = tt
touch_as P Q (s ∷ steps) f h = (touches_as P Q s f h.0, touch_as P Q steps f h.1)

left_one : (P : Path → Type 0) (s : Step) (came : Origins) (x : Path) → Touches P s → (P x → ⊥) → behind s came x ≡ came x
left_one P (step.Renames from to) came x h out = renamed_other came from to x (λ e. out (subst P (sym e) h.0)) (λ e. out (subst P (sym e) h.1))
left_one P (step.Removes path) came x h out = without_other came path x (λ e. out (subst P (sym e) h))
left_one P (step.Creates path mode) came x h out = without_other came path x (λ e. out (subst P (sym e) h))
left_one P (step.Takes path mode) came x h out = without_other came path x (λ e. out (subst P (sym e) h))
left_one P _ came x h out = refl

-- a path that they don't change keeps its file
pub left_alone : (P : Path → Type 0) (steps : List Step) (came : Origins) (x : Path) → AllTouch P steps → (P x → ⊥) → run came steps x ≡ came x
left_alone P [] came x h out = refl
left_alone P (s ∷ steps) came x h out = left_alone P steps (behind s came) x h.1 out ∙ left_one P s came x h.0 out

behind_alike : (P : Path → Type 0) (s : Step) (a b : Origins) → Touches P s → ((x : Path) → P x → a x ≡ b x) → (x : Path) → P x → behind s a x ≡ behind s b x
behind_alike P (step.Renames from to) a b h same x own =
    ap (λ (o : Option Path). cond (bytes_eq to x) o (without from a x)) (same from h.0) ∙ ap (λ (o : Option Path). cond (bytes_eq to x) (b from) (cond (bytes_eq from x) None o)) (same x own)
behind_alike P (step.Removes path) a b h same x own = ap (λ (o : Option Path). cond (bytes_eq path x) None o) (same x own)
behind_alike P (step.Creates path mode) a b h same x own = ap (λ (o : Option Path). cond (bytes_eq path x) None o) (same x own)
behind_alike P (step.Takes path mode) a b h same x own = ap (λ (o : Option Path). cond (bytes_eq path x) None o) (same x own)
behind_alike P _ a b h same x own = same x own

-- where the same files stand before them at the paths that they change, the same do behind them
pub run_alike : (P : Path → Type 0) (steps : List Step) (a b : Origins) → AllTouch P steps → ((x : Path) → P x → a x ≡ b x) → (x : Path) → P x → run a steps x ≡ run b steps x
run_alike P [] a b h same x own = same x own
run_alike P (s ∷ steps) a b h same x own = run_alike P steps (behind s a) (behind s b) h.1 (λ y mine. behind_alike P s a b h.0 same y mine) x own

-- ---- programs and directories

pub unlinked_program : (p : Phase) (o : Option Command) (steps : List Step) (came : Origins) → unlinked came (program p o ++ steps) ≡ unlinked came steps
unlinked_program p None steps came = refl
unlinked_program p (Some command) steps came = refl

pub unlinked_by_program : (p : Phase) (o : Option Command) (came : Origins) → unlinked came (program p o) ≡ []
unlinked_by_program p None came = refl
unlinked_by_program p (Some command) came = refl

pub touch_program : (P : Path → Type 0) (p : Phase) (o : Option Command) → AllTouch P (program p o)
touch_program P p None = tt
touch_program P p (Some command) = (tt, tt)

pub run_directory : (d : Option (Path × Option ℕ)) (steps : List Step) (came : Origins) → run came (directory d ++ steps) ≡ run came steps
run_directory None steps came = refl
run_directory (Some (path, mode)) steps came = refl

pub unlinked_directory : (d : Option (Path × Option ℕ)) (steps : List Step) (came : Origins) → unlinked came (directory d ++ steps) ≡ unlinked came steps
unlinked_directory None steps came = refl
unlinked_directory (Some (path, mode)) steps came = refl

pub touch_directory : (P : Path → Type 0) (d : Option (Path × Option ℕ)) → AllTouch P (directory d)
touch_directory P None = tt
touch_directory P (Some (path, mode)) = (tt, tt)

-- ---- removals

abbrev pub dropped : Origins → List Path → Origins
dropped came [] = came
dropped came (x ∷ xs) = dropped (without x came) xs

abbrev pub gone : Origins → List Path → List Path
gone came [] = []
gone came (x ∷ xs) = option_to_list (came x) ++ gone (without x came) xs

-- the steps of one, with these programs
abbrev steps_with : Option Command → Option Command → Path → List Step
steps_with pre mail path = program phase.Preremove pre ++ (program phase.Mail mail ++ step.Removes path ∷ [])

run_one : (pre mail : Option Command) (path : Path) (steps : List Step) (came : Origins) → run came (steps_with pre mail path ++ steps) ≡ run (without path came) steps
run_one None None path steps came = refl
run_one None (Some m) path steps came = refl
run_one (Some p) None path steps came = refl
run_one (Some p) (Some m) path steps came = refl

unlinked_one : (pre mail : Option Command) (path : Path) (steps : List Step) (came : Origins) → unlinked came (steps_with pre mail path ++ steps) ≡ option_to_list (came path) ++ unlinked (without path came) steps
unlinked_one None None path steps came = refl
unlinked_one None (Some m) path steps came = refl
unlinked_one (Some p) None path steps came = refl
unlinked_one (Some p) (Some m) path steps came = refl

touch_one : (P : Path → Type 0) (pre mail : Option Command) (path : Path) → P path → AllTouch P (steps_with pre mail path)
touch_one P pre mail path h = touch_both P (program phase.Preremove pre) (program phase.Mail mail ++ step.Removes path ∷ []) (touch_program P phase.Preremove pre) (touch_both P (program phase.Mail mail) (step.Removes path ∷ []) (touch_program P phase.Mail mail) (h, tt))

pub run_removals : (rs : List Removal) (steps : List Step) (came : Origins) → run came (removals rs ++ steps) ≡ run (dropped came (removal_paths rs)) steps
run_removals [] steps came = refl
run_removals (r ∷ rs) steps came = ap (run came) (append_assoc (removal r) (removals rs) steps) ∙ (run_one r.preremove r.mail r.path (removals rs ++ steps) came ∙ run_removals rs steps (without r.path came))

pub unlinked_removals : (rs : List Removal) (steps : List Step) (came : Origins) → unlinked came (removals rs ++ steps) ≡ gone came (removal_paths rs) ++ unlinked (dropped came (removal_paths rs)) steps
unlinked_removals [] steps came = refl
unlinked_removals (r ∷ rs) steps came =
    ap (unlinked came) (append_assoc (removal r) (removals rs) steps)
    ∙ (unlinked_one r.preremove r.mail r.path (removals rs ++ steps) came
    ∙ (ap (λ (xs : List Path). option_to_list (came r.path) ++ xs) (unlinked_removals rs steps (without r.path came))
    ∙ sym (append_assoc (option_to_list (came r.path)) (gone (without r.path came) (removal_paths rs)) (unlinked (dropped (without r.path came) (removal_paths rs)) steps))))

pub unlinked_alone : (rs : List Removal) (came : Origins) → unlinked came (removals rs) ≡ gone came (removal_paths rs)
unlinked_alone rs came = ap (unlinked came) (sym (append-nil (removals rs))) ∙ (unlinked_removals rs [] came ∙ append-nil (gone came (removal_paths rs)))

pub touch_removals : (P : Path → Type 0) (rs : List Removal) → ((x : Path) → IsIn x (removal_paths rs) → P x) → AllTouch P (removals rs)
touch_removals P [] h = tt
touch_removals P (r ∷ rs) h = touch_both P (removal r) (removals rs) (touch_one P r.preremove r.mail r.path (h r.path (inl refl))) (touch_removals P rs (λ x i. h x (inr i)))

pub dropped_other : (came : Origins) (xs : List Path) (x : Path) → IsNotIn x xs → dropped came xs x ≡ came x
dropped_other came [] x h = refl
dropped_other came (y ∷ ys) x h = dropped_other (without y came) ys x h.1 ∙ without_other came y x h.0

-- files that stand at their own names
pub gone_same : (came : Origins) (xs : List Path) → AreDistinct xs → ((x : Path) → IsIn x xs → came x ≡ Some x) → gone came xs ≡ xs
gone_same came [] d h = refl
gone_same came (x ∷ xs) d h =
    ap (λ (o : Option Path). option_to_list o ++ gone (without x came) xs) (h x (inl refl))
    ∙ ap (λ (ys : List Path). x ∷ ys) (gone_same (without x came) xs d.1 (λ y i. without_other came x y (apart_in x y xs d.0 i) ∙ h y (inr i)))

-- files of these names before, at these paths now
abbrev pub firsts : List (Option Path × Path) → List Path
firsts ps = flat_map (λ (p : Option Path × Path). option_to_list p.0) ps

abbrev pub seconds : List (Option Path × Path) → List Path
seconds ps = map (λ (p : Option Path × Path). p.1) ps

pub gone_pairs : (came : Origins) (ps : List (Option Path × Path)) → AreDistinct (seconds ps) → ((p : Option Path × Path) → IsIn p ps → came p.1 ≡ p.0) → gone came (seconds ps) ≡ firsts ps
gone_pairs came [] d h = refl
gone_pairs came (p ∷ ps) d h =
    ap (λ (o : Option Path). option_to_list o ++ gone (without p.1 came) (seconds ps)) (h p (inl refl))
    ∙ ap (λ (ys : List Path). option_to_list p.0 ++ ys)
    (gone_pairs (without p.1 came) ps d.1 (λ q i. without_other came p.1 q.1 (apart_in p.1 q.1 (seconds ps) d.0 (in_map (λ (r : Option Path × Path). r.1) q ps i)) ∙ h q (inr i)))

-- ---- moves

pub unlinked_moves : (ms : List Move) (steps : List Step) (came : Origins) → unlinked came (map move ms ++ steps) ≡ unlinked (run came (map move ms)) steps
unlinked_moves [] steps came = refl
unlinked_moves (m ∷ ms) steps came = unlinked_moves ms steps (renamed m.from m.to came)

pub touch_moves : (P : Path → Type 0) (ms : List Move) → All (λ (m : Move). P m.from × P m.to) ms → AllTouch P (map move ms)
touch_moves P [] h = tt
touch_moves P (m ∷ ms) h = (All-head (λ (x : Move). P x.from × P x.to) m ms h, touch_moves P ms (All-tail (λ (x : Move). P x.from × P x.to) m ms h))
