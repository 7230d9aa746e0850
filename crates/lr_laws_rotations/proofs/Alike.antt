-- Names by the kinds of what they name: calls that fit the first fit the second.
use Rattle.std.proofs.Common.{◌≡◌, ◌≢◌, inl, inr, ℕ, Bool, true, false, cond, bytes_eq, refl, sym, ◌∙◌, ap, subst, Option, Some, None, List, [], ◌∷◌, ◌++◌, reverse}
use Rattle.std.specs.Prelude.{filter}
use Rattle.std.proofs.lemmas.List.{reverse-append, reverse-reverse}
use Rattle.lr_rules.specs.declared.path.Path.{Path}
use Rattle.lr_rules.specs.Path.{parent_of}
use Rattle.lr_host.specs.declared.thing.Thing.{Thing}
use Rattle.lr_host.specs.declared.thing.Thing.TheVariants as thing
use Rattle.lr_host.specs.declared.entry.Entry.{Entry}
use Rattle.lr_host.specs.declared.entry.Entry.TheVariants as entry
use Rattle.lr_host.specs.declared.journal.Journal.{Journal}
use Rattle.lr_host.specs.World.{Past, ◌▸◌, past, world, Names, names, names_after, put}
use Rattle.lr_host.specs.Fits.{Fits, IsFileAt, MaybeFileAt, IsDirectoryAt}
use Rattle.lr_host.specs.Told.{Each, IsTools, Made, at_first, by_writer, by_tool, Left, not_told, is_told, CanCall, WhereTold}
use Rattle.lr_host.specs.Steps.{is_naming, changes_of, FitAll}
use Rattle.lr_host.proofs.Each.{filter_reverse, none_passed}
use Rattle.lr_host.proofs.Left.{later_fit, still_step, fit_split}
use Rattle.lr_host.proofs.Looked.{file_no_dir}
use Rattle.lr_host.proofs.More.{IsMoreAt, wrote_names}
use Rattle.lr_host.proofs.Quiet.{IsAny}
use Rattle.lr_laws_rotations.specs.Calls.{after_call, FitCalls, CanCalls}
use Rattle.lr_laws_family.proofs.Fed.{IsTurn}

-- ---- kinds

-- the second is of the first's kind; where that is nothing, it may be a file
abbrev pub IsLike : Thing → Thing → Type 0
IsLike thing.Nothing u = (u ≢ thing.Directory) × (u ≢ thing.Other)
IsLike (thing.File g) u = (h : ℕ) × (u ≡ thing.File h)
IsLike thing.Directory u = u ≡ thing.Directory
IsLike thing.Other u = Unit {0}

file_no_other : (u : Thing) (h : ℕ) → u ≡ thing.File h → u ≡ thing.Other → ⊥
file_no_other u h a b = cc

pub like_self : (t : Thing) → IsLike t t
like_self thing.Nothing = ((λ e. cc), (λ e. cc))
like_self (thing.File g) = (g, refl)
like_self thing.Directory = refl
like_self thing.Other = tt

pub like_on : (a b c : Thing) → IsLike a b → IsLike b c → IsLike a c
like_on thing.Nothing thing.Nothing c p q = q
like_on thing.Nothing (thing.File g) c p q = ((λ e. file_no_dir c q.0 q.1 e), (λ e. file_no_other c q.0 q.1 e))
like_on thing.Nothing thing.Directory c p q = absurd (p.0 refl)
like_on thing.Nothing thing.Other c p q = absurd (p.1 refl)
like_on (thing.File g) b c p q = subst (λ t. IsLike t c) p.1 q
like_on thing.Directory b c p q = subst (λ t. IsLike t c) p q
like_on thing.Other b c p q = tt

-- neither a directory nor something else
like_no : (t u : Thing) → IsLike t u → t ≢ thing.Directory → t ≢ thing.Other → (u ≢ thing.Directory) × (u ≢ thing.Other)
like_no thing.Nothing u l d o = l
like_no (thing.File g) u l d o = ((λ e. file_no_dir u l.0 l.1 e), (λ e. file_no_other u l.0 l.1 e))
like_no thing.Directory u l d o = absurd (d refl)
like_no thing.Other u l d o = absurd (o refl)

-- ---- names

-- at these paths the second names are of the first's kinds
abbrev pub AreLike : (Path → Type 0) → Names → Names → Type 0
AreLike X n n' = (y : Path) → X y → IsLike (n y) (n' y)

pub more_like : (n n' : Names) (y : Path) → IsMoreAt y n n' → IsLike (n y) (n' y)
more_like n n' y (inl same) = subst (λ t. IsLike (n y) t) (sym same) (like_self (n y))
more_like n n' y (inr new) = subst (λ t. IsLike t (n' y)) (sym new.0) ((λ e. file_no_dir (n' y) new.1.0 new.1.1 e), (λ e. file_no_other (n' y) new.1.0 new.1.1 e))

pub put_like : (n n' : Names) (x : Path) (t u : Thing) (y : Path) → IsLike t u → IsLike (n y) (n' y) → IsLike (put n x t y) (put n' x u y)
put_like n n' x t u y l r = go (bytes_eq x y)
  where
    go : (b : Bool) → IsLike (cond b t (n y)) (cond b u (n' y))
    go true = l
    go false = r

-- ---- calls

abbrev ReadsInput : (Path → Type 0) → Option Path → Type 0
ReadsInput X None = Unit {0}
ReadsInput X (Some x) = X x

-- whether the call fits depends on what such paths name alone
abbrev pub Reads : (Path → Type 0) → Entry → Type 0
Reads X (entry.Starts state now rules) = X (parent_of state)
Reads X (entry.List dir listed) = X dir
Reads X (entry.Reads x from piece) = X x
Reads X (entry.Renames from to) = X from × X to × X (parent_of to)
Reads X (entry.Makes x mode) = X (parent_of x)
Reads X (entry.Appends x piece) = X x
Reads X (entry.Truncates x) = X x
Reads X (entry.Unlinks x) = X x
Reads X (entry.SyncsFile x) = X x
Reads X (entry.SyncsDir x) = X x
Reads X (entry.MakesDir x mode) = X (parent_of x)
Reads X (entry.Runs program args input ended) = ReadsInput X input
Reads X _ = Unit {0}

like_file : (n n' : Names) (x : Path) → IsLike (n x) (n' x) → IsFileAt n x → IsFileAt n' x
like_file n n' x l f = subst (λ t. IsLike t (n' x)) f.1 l

like_dir : (n n' : Names) (x : Path) → IsLike (n x) (n' x) → IsDirectoryAt n x → IsDirectoryAt n' x
like_dir n n' x l d = subst (λ t. IsLike t (n' x)) d l

pub can_like : (X : Path → Type 0) (n n' : Names) (e : Entry) → Reads X e → AreLike X n n' → CanCall n e → CanCall n' e
can_like X n n' (entry.Renames from to) r l can =
    let free : (n' to ≢ thing.Directory) × (n' to ≢ thing.Other) = like_no (n to) (n' to) (l to r.1) can.1 can.2 in
    (like_file n n' from (l from r.0) can.0, free.0, free.1, like_dir n n' (parent_of to) (l (parent_of to) r.2) can.3, can.4)
can_like X n n' (entry.Starts state now rules) r l can = like_dir n n' (parent_of state) (l (parent_of state) r) can
can_like X n n' (entry.List dir listed) r l can = like_dir n n' dir (l dir r) can
can_like X n n' (entry.Reads x from piece) r l can = like_file n n' x (l x r) can
can_like X n n' (entry.Makes x mode) r l can = like_dir n n' (parent_of x) (l (parent_of x) r) can
can_like X n n' (entry.Appends x piece) r l can = like_file n n' x (l x r) can
can_like X n n' (entry.Truncates x) r l can = like_file n n' x (l x r) can
can_like X n n' (entry.Unlinks x) r l can = like_file n n' x (l x r) can
can_like X n n' (entry.SyncsFile x) r l can = like_file n n' x (l x r) can
can_like X n n' (entry.SyncsDir x) r l can = like_dir n n' x (l x r) can
can_like X n n' (entry.MakesDir x mode) r l can = like_dir n n' (parent_of x) (l (parent_of x) r) can
can_like X n n' (entry.Runs program args input ended) r l can = maybe input r can
  where
    maybe : (o : Option Path) → ReadsInput X o → MaybeFileAt n o → MaybeFileAt n' o
    maybe None r f = tt
    maybe (Some x) r f = like_file n n' x (l x r) f
can_like X n n' _ r l can = can

pub after_like : (X : Path → Type 0) (n n' : Names) (e : Entry) → Reads X e → AreLike X n n' → AreLike X (after_call n e) (after_call n' e)
after_like X n n' (entry.Renames from to) r l = λ y i.
    put_like (put n from thing.Nothing) (put n' from thing.Nothing) to (n from) (n' from) y (l from r.0) (put_like n n' from thing.Nothing thing.Nothing y (like_self thing.Nothing) (l y i))
after_like X n n' (entry.Unlinks x) r l = λ y i. put_like n n' x thing.Nothing thing.Nothing y (like_self thing.Nothing) (l y i)
after_like X n n' (entry.Makes x mode) r l = λ y i. put_like n n' x (thing.File 0) (thing.File 0) y (0, refl) (l y i)
after_like X n n' (entry.MakesDir x mode) r l = λ y i. put_like n n' x thing.Directory thing.Directory y refl (l y i)
after_like X n n' _ r l = l

pub fit_like : (X : Path → Type 0) (n n' : Names) (es : List Entry) → Each (Reads X) es → AreLike X n n' → FitCalls n es → FitCalls n' es
fit_like X n n' [] r l fit = tt
fit_like X n n' (e ∷ es) r l fit = (can_like X n n' e r.0 l fit.0, fit_like X (after_call n e) (after_call n' e) es r.1 (after_like X n n' e r.0 l) fit.1)

reads_input : (o : Option Path) → ReadsInput IsAny o
reads_input None = tt
reads_input (Some x) = tt

reads_anywhere : (e : Entry) → Reads IsAny e
reads_anywhere (entry.Renames from to) = (tt, tt, tt)
reads_anywhere (entry.Runs program args input ended) = reads_input input
reads_anywhere _ = tt

pub each_anywhere : (es : List Entry) → Each (Reads IsAny) es
each_anywhere [] = tt
each_anywhere (e ∷ es) = (reads_anywhere e, each_anywhere es)

-- ---- lists of calls

-- the names behind all of them
abbrev pub afters : Names → List Entry → Names
afters n [] = n
afters n (e ∷ es) = afters (after_call n e) es

pub fit_first : (n : Names) (xs ys : List Entry) → FitCalls n (xs ++ ys) → FitCalls n xs
fit_first n [] ys fit = tt
fit_first n (x ∷ xs) ys fit = (fit.0, fit_first (after_call n x) xs ys fit.1)

pub fit_rest : (n : Names) (xs ys : List Entry) → FitCalls n (xs ++ ys) → FitCalls (afters n xs) ys
fit_rest n [] ys fit = fit
fit_rest n (x ∷ xs) ys fit = fit_rest (after_call n x) xs ys fit.1

pub fit_both : (n : Names) (xs ys : List Entry) → FitCalls n xs → FitCalls (afters n xs) ys → FitCalls n (xs ++ ys)
fit_both n [] ys a b = b
fit_both n (x ∷ xs) ys a b = (a.0, fit_both (after_call n x) xs ys a.1 b)

one_after : (n : Names) (e : Entry) → IsTurn e → names_after n (changes_of (e ∷ [])) ≡ after_call n e
one_after n (entry.Renames from to) t = refl
one_after n (entry.Unlinks x) t = refl
one_after n _ t = absurd t

pub fit_calls : (n : Names) (es : List Entry) → Each IsTurn es → FitAll n (reverse es) → FitCalls n es
fit_calls n [] t fit = tt
fit_calls n (e ∷ es) t fit =
    let split : FitAll n (reverse es ++ e ∷ []) = subst (λ (xs : List Entry). FitAll n xs) (reverse-append (e ∷ []) es) fit in
    ((later_fit n (reverse es) (e ∷ []) split).1, fit_calls (after_call n e) es t.1 (subst (λ (m : Names). FitAll m (reverse es)) (one_after n e t.0) (fit_split n (e ∷ []) (reverse es) split)))

-- ---- behind calls that were made

step_like : (q : Past) (e : Entry) → IsTools e → Fits (world q) e → (y : Path) → IsLike (after_call (names (world q)) e y) (names (world (q ▸ e)) y)
step_like q (entry.Renames from to) i f y = like_self (after_call (names (world q)) (entry.Renames from to) y)
step_like q (entry.Unlinks x) i f y = like_self (after_call (names (world q)) (entry.Unlinks x) y)
step_like q (entry.MakesDir x mode) i f y = like_self (after_call (names (world q)) (entry.MakesDir x mode) y)
step_like q (entry.Makes x mode) i f y = put_like (names (world q)) (names (world q)) x (thing.File 0) (thing.File (world q).drawn) y ((world q).drawn, refl) (like_self (names (world q) y))
step_like q e i f y = more_like (names (world q)) (names (world (q ▸ e))) y (still_step q e i f refl y)

still_like : (p q : Past) (es : List Entry) → Made p es q → filter is_naming es ≡ [] → (y : Path) → IsLike (names (world p) y) (names (world q) y)
still_like p _ _ at_first h y = like_self (names (world p) y)
still_like p _ es (by_writer {q = q} {e = e} m i f) h y = like_on (names (world p) y) (names (world q) y) (names (world (q ▸ e)) y) (still_like p q es m h y) (more_like (names (world q)) (names (world (q ▸ e))) y (wrote_names q e y i))
still_like p _ _ (by_tool {es = es} {q = q} {e = e} m i f) h y =
    let s = none_passed is_naming e es h in
    like_on (names (world p) y) (names (world q) y) (names (world (q ▸ e)) y) (still_like p q es m s.1 y) (more_like (names (world q)) (names (world (q ▸ e))) y (still_step q e i f s.0 y))

one_like : (p q : Past) (es : List Entry) (e : Entry) → Made p es q → es ≡ e ∷ [] → (y : Path) → IsLike (after_call (names (world p)) e y) (names (world q) y)
one_like p _ _ e at_first is y = absurd (cc)
one_like p _ es e (by_writer {q = q} {e = w} m i f) is y =
    like_on (after_call (names (world p)) e y) (names (world q) y) (names (world (q ▸ w)) y) (one_like p q es e m is y) (more_like (names (world q)) (names (world (q ▸ w))) y (wrote_names q w y i))
one_like p _ _ e (by_tool {es = es} {q = q} {e = t} m i f) is y =
    let same : t ≡ e = cc in
    let none : es ≡ [] = cc in
    subst (λ (s : Entry). IsLike (after_call (names (world p)) s y) (names (world (q ▸ t)) y)) same
    (like_on (after_call (names (world p)) t y) (after_call (names (world q)) t y) (names (world (q ▸ t)) y)
    (after_like IsAny (names (world p)) (names (world q)) t (reads_anywhere t) (λ z u. still_like p q es m (ap (filter is_naming) none) z) y tt) (step_like q t i f y))

-- one condition for another
pub calls_as : {xs ys : List Entry} {o : Option Journal} → CanCalls o xs → ((n : Names) → FitCalls n xs → FitCalls n ys) → CanCalls o ys
calls_as {xs} {ys} {o} can f = record { can = go o can.can }
  where
    go : (o : Option Journal) → WhereTold o (λ p. FitCalls (names (world p)) xs) → WhereTold o (λ p. FitCalls (names (world p)) ys)
    go None c = tt
    go (Some j) c = f (names (world (past j))) c

-- the first of them was made
pub calls_made : (e : Entry) (es : List Entry) {P : List Entry → Type 0} {o m : Option Journal} → CanCalls o (e ∷ es) → Left P o m → ((ts : List Entry) → P ts → ts ≡ e ∷ []) → CanCalls m es
calls_made e es can not_told f = record { can = tt }
calls_made e es can (is_told {j = j} {k = k} {es = us} m h) f = record {
  can = fit_like IsAny (after_call (names (world (past j))) e) (names (world (past k))) es (each_anywhere es)
      (λ y i. one_like (past j) (past k) us e m (sym (reverse-reverse us) ∙ ap reverse (f (reverse us) h)) y) can.can.1;
}

-- no name went
pub calls_still : (es : List Entry) {P : List Entry → Type 0} {o m : Option Journal} → CanCalls o es → Left P o m → ((ts : List Entry) → P ts → filter is_naming ts ≡ []) → CanCalls m es
calls_still es can not_told f = record { can = tt }
calls_still es can (is_told {j = j} {k = k} {es = us} m h) f = record {
  can = fit_like IsAny (names (world (past j))) (names (world (past k))) es (each_anywhere es) (λ y i. still_like (past j) (past k) us m (none (f (reverse us) h)) y) can.can;
}
  where
    none : filter is_naming (reverse us) ≡ [] → filter is_naming us ≡ []
    none e = sym (reverse-reverse (filter is_naming us)) ∙ (ap reverse (sym (filter_reverse is_naming us) ∙ e))
