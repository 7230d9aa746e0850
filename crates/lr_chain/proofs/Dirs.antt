-- The directory that a rotation makes, or that was there.
use Rattle.std.proofs.Common.{◌≡◌, ◌≢◌, inl, inr, ℕ, Bool, true, false, cond, bytes_eq, refl, sym, ◌∙◌, ap, subst, Option, Some, None, List, [], ◌∷◌, ◌++◌, reverse, append_assoc}
use Rattle.std.specs.Prelude.{filter}
use Rattle.std.proofs.lemmas.List.{append-nil, reverse-append, reverse-reverse}
use Rattle.std.proofs.lemmas.Slice.Eq.{bytes_eq-Decides}
use Rattle.lr_rules.specs.declared.path.Path.{Path}
use Rattle.lr_rules.specs.declared.fault.CallKind.TheVariants as call
use Rattle.lr_host.specs.declared.entry.Entry.{Entry}
use Rattle.lr_host.specs.declared.entry.Entry.TheVariants.{Look, MakesDir}
use Rattle.lr_host.specs.declared.journal.Journal.{Journal}
use Rattle.lr_host.specs.declared.thing.Seen.{Seen}
use Rattle.lr_host.specs.declared.thing.Thing.TheVariants as thing
use Rattle.lr_host.specs.Fits.{Fits, IsDirectoryAt, SeesThing as Shows}
use Rattle.lr_host.specs.Looks.{Sees, IsDir, IsNoDir, is_dir, is_dir_kind}
use Rattle.lr_host.specs.Steps.{FitAll, CanAll, changes_of, is_change}
use Rattle.lr_host.specs.Told.{Made, at_first, by_writer, by_tool, Left, not_told, is_told, Are, CanCall, Can, WhereTold}
use Rattle.lr_host.specs.World.{World, Past, past, world, Names, names, names_after, put}
use Rattle.lr_host.proofs.Left.{left_as, left_then, left_both, can_first, can_rest, changes_split, more_walk, fit_more}
use Rattle.lr_host.proofs.Looked.{seen_dir, seen_none}
use Rattle.lr_host.proofs.More.{IsMore, dir_before, nothing_before}
use Rattle.lr_chain.specs.declared.chain.ChainStop.{ChainStop}
use Rattle.lr_chain.specs.declared.chain.ChainStop.TheVariants as stop
use Rattle.lr_chain.specs.Directory.{DirMade}
use Rattle.lr_chain.specs.Ready.{dir_calls, BehindDir}
use Rattle.lr_chain.specs.Stops.{DirRefused, ChainStopped}

-- ---- what fits behind the directory

-- what the first look shows, and writers don't make so, was so before
looked_first : (P : Names → Type 0) → ((n n' : Names) → IsMore n n' → P n' → P n) → (x : Path) (seen : Option Seen) → ((w : World) → Shows w (names w x) seen → P (names w))
    → (p q : Past) (es ys : List Entry) → Made p es q → es ≡ ys ++ Look x seen ∷ [] → P (names (world p))
looked_first P back x seen at p _ _ [] at_first is = absurd (cc)
looked_first P back x seen at p _ _ (y ∷ ys) at_first is = absurd (cc)
looked_first P back x seen at p _ es ys (by_writer {q = q} m i f) is = looked_first P back x seen at p q es ys m is
looked_first P back x seen at p _ _ (y ∷ ys) (by_tool {es = es} {q = q} m i f) is = looked_first P back x seen at p q es ys m (cc)
looked_first P back x seen at p _ _ [] (by_tool {es = es} {q = q} {e = e} m i f) is =
    let one : e ≡ Look x seen = cc in
    let none : es ≡ [] = cc in
    back (names (world p)) (names (world q)) (more_walk p q [] (subst (λ (ts : List Entry). Made p ts q) none m) tt) (at (world q) (subst (Fits (world q)) one f))

-- to make a directory of one changes no name
there_already : (dir : Path) (n : Names) (es : List Entry) → IsDirectoryAt n dir → FitAll (put n dir thing.Directory) es → FitAll n es
there_already dir n es is fit = fit_more (put n dir thing.Directory) n es (λ y. inl (same y (bytes_eq dir y) refl)) fit
  where
    same : (y : Path) (b : Bool) → bytes_eq dir y ≡ b → n y ≡ cond b thing.Directory (n y)
    same y true e = sym (ap n ((bytes_eq-Decides dir y).0 e)) ∙ is
    same y false e = refl

fit_behind : (n : Names) (e : Entry) (es : List Entry) → FitAll n (es ++ e ∷ []) → FitAll (names_after n (changes_of (e ∷ []))) es
fit_behind n e [] fit = tt
fit_behind n e (f ∷ es) fit = (fit_behind n e es fit.0, subst (λ (m : Names). CanCall m f) (changes_split n (e ∷ []) es) fit.1)

pub behind_can : (d : Option (Path × Option ℕ)) (steps rest : List Entry) {o m : Option Journal} → CanAll o (dir_calls d ++ (steps ++ rest)) → Left (BehindDir d (Are steps)) o m → CanAll m rest
behind_can None steps rest can left = can_rest steps rest can left (λ ts t. ap (filter is_change) t)
behind_can (Some (dir, mode)) steps rest can not_told = record { can = tt }
behind_can (Some (dir, mode)) steps rest can (is_told {j = j} {k = k} {es = es} made h) = go h.first
  where
    go : DirMade dir mode h.front → CanAll (Some k) rest
    go (inl one) = can_rest (MakesDir dir mode ∷ steps) rest can left (λ ts t. ap (filter is_change) t)
      where
        left : Left (Are (MakesDir dir mode ∷ steps)) (Some j) (Some k)
        left = is_told {j = j} {k = k} {es = es} made (h.joined ∙ (ap (λ xs. xs ++ h.back) one ∙ ap (λ xs. MakesDir dir mode ∷ xs) h.second))
    go (inr saw) = there saw.seen saw.is (h.joined ∙ (ap (λ xs. xs ++ h.back) saw.look ∙ ap (λ xs. Look dir saw.seen ∷ xs) h.second))
      where
        there : (o : Option Seen) → IsDir o → reverse es ≡ Look dir o ∷ steps → CanAll (Some k) rest
        there None none are = absurd none
        there (Some seen) is are = can_rest steps rest (record { can = there_already dir (names (world (past j))) (reverse (steps ++ rest)) stood fit }) left (λ ts t. ap (filter is_change) t)
          where
            left : Left (Are (Look dir (Some seen) ∷ steps)) (Some j) (Some k)
            left = is_told {j = j} {k = k} {es = es} made are

            stood : IsDirectoryAt (names (world (past j))) dir
            stood = looked_first (λ n. IsDirectoryAt n dir) (λ n n' more d. dir_before n n' dir more d) dir (Some seen) (λ w shows. seen_dir w (names w dir) seen shows is) (past j) (past k) es (reverse steps) made
                (sym (reverse-reverse es) ∙ (ap reverse are ∙ reverse-append (Look dir (Some seen) ∷ []) steps))

            fit : FitAll (put (names (world (past j))) dir thing.Directory) (reverse (steps ++ rest))
            fit = fit_behind (names (world (past j))) (MakesDir dir mode) (reverse (steps ++ rest)) (subst (FitAll (names (world (past j)))) (reverse-append (MakesDir dir mode ∷ []) (steps ++ rest)) can.can)

-- ---- what is left behind the directory

behind_both : (d : Option (Path × Option ℕ)) (P Q R : List Entry → Type 0) (xs ys : List Entry) → BehindDir d P xs → Q ys → ((zs ws : List Entry) → P zs → Q ws → R (zs ++ ws)) → BehindDir d R (xs ++ ys)
behind_both None P Q R xs ys p q f = f xs ys p q
behind_both (Some (dir, mode)) P Q R xs ys p q f = record { front = p.front; back = p.back ++ ys; joined = ap (λ zs. zs ++ ys) p.joined ∙ append_assoc p.front p.back ys; first = p.first; second = f p.back ys p.second q }

pub behind_then : (d : Option (Path × Option ℕ)) (P Q R : List Entry → Type 0) {o m n : Option Journal} → Left (BehindDir d P) o m → Left Q m n → ((xs ys : List Entry) → P xs → Q ys → R (xs ++ ys)) → Left (BehindDir d R) o n
behind_then d P Q R a b f = left_then a b (λ xs ys p q. behind_both d P Q R xs ys p q f)

pub behind_as : (d : Option (Path × Option ℕ)) (P Q : List Entry → Type 0) (ts : List Entry) → BehindDir d P ts → ((xs : List Entry) → P xs → Q xs) → BehindDir d Q ts
behind_as None P Q ts p f = f ts p
behind_as (Some (dir, mode)) P Q ts p f = record { front = p.front; back = p.back; joined = p.joined; first = p.first; second = f p.back p.second }

-- the directory is done with; then the rest
pub and_behind : (d : Option (Path × Option ℕ)) (dir : Path) (mode : Option ℕ) {P : List Entry → Type 0} {o m n : Option Journal} → d ≡ Some (dir, mode) → Left (DirMade dir mode) o m → Left P m n → Left (BehindDir d P) o n
and_behind d dir mode {P} {o} {m} {n} is a b = subst (λ (z : Option (Path × Option ℕ)). Left (BehindDir z P) o n) (sym is) (left_both a b)

-- so it can be made, and behind it the moves
pub dir_can : (d : Option (Path × Option ℕ)) (dir : Path) (mode : Option ℕ) (steps : List Entry) {o : Option Journal} → d ≡ Some (dir, mode) → CanAll o (dir_calls d ++ steps) → Can o (MakesDir dir mode)
dir_can d dir mode steps {o} is can = can_first (MakesDir dir mode) steps (subst (λ (z : Option (Path × Option ℕ)). CanAll o (dir_calls z ++ steps)) is can)

pub moves_can : (d : Option (Path × Option ℕ)) (dir : Path) (mode : Option ℕ) (steps : List Entry) {o m : Option Journal} → d ≡ Some (dir, mode) → CanAll o (dir_calls d ++ steps) → Left (DirMade dir mode) o m → CanAll m steps
moves_can d dir mode steps {o} {m} is can left =
    behind_can (Some (dir, mode)) [] steps (subst (λ (z : Option (Path × Option ℕ)). CanAll o (dir_calls z ++ steps)) is can)
    (left_as left (λ ts t. record { front = ts; back = []; joined = sym (append-nil ts); first = t; second = refl }))

-- ---- where it stops

refused_at : (dir : Path) (mode : Option ℕ) (steps : List Entry) (why : ChainStop) (ts : List Entry) → DirRefused (Some (dir, mode)) why ts → ChainStopped (Some (dir, mode)) steps why ts
refused_at dir mode steps (stop.Call call.Rename path) ts s = absurd s
refused_at dir mode steps (stop.Call _ path) ts s = s
refused_at dir mode steps (stop.NotFile path) ts s = s

pub dir_refused : (d : Option (Path × Option ℕ)) (dir : Path) (mode : Option ℕ) (steps : List Entry) (why : ChainStop) {o n : Option Journal} → d ≡ Some (dir, mode) → Left (DirRefused (Some (dir, mode)) why) o n → Left (ChainStopped d steps why) o n
dir_refused d dir mode steps why {o} {n} is left = subst (λ (z : Option (Path × Option ℕ)). Left (ChainStopped z steps why) o n) (sym is) (left_as left (λ ts s. refused_at dir mode steps why ts s))

stopped_behind : (dir : Path) (mode : Option ℕ) (steps : List Entry) (why : ChainStop) (xs ys : List Entry) → DirMade dir mode xs → ChainStopped None steps why ys → ChainStopped (Some (dir, mode)) steps why (xs ++ ys)
stopped_behind dir mode steps (stop.Call call.Rename path) xs ys h s = record { front = xs; back = ys; joined = refl; first = h; second = s }
stopped_behind dir mode steps (stop.Call _ path) xs ys h s = absurd s
stopped_behind dir mode steps (stop.NotFile path) xs ys h s = absurd s

pub moves_stopped : (d : Option (Path × Option ℕ)) (dir : Path) (mode : Option ℕ) (steps : List Entry) (why : ChainStop) {o m n : Option Journal} → d ≡ Some (dir, mode) → Left (DirMade dir mode) o m → Left (ChainStopped None steps why) m n → Left (ChainStopped d steps why) o n
moves_stopped d dir mode steps why {o} {m} {n} is a b = subst (λ (z : Option (Path × Option ℕ)). Left (ChainStopped z steps why) o n) (sym is) (left_then a b (λ xs ys h s. stopped_behind dir mode steps why xs ys h s))

-- ---- the looks

pub look_failed : {o m n : Option Journal} → Left (λ ts. ts ≡ []) o m → Left (λ ts. ts ≡ []) m n → Left (λ ts. ts ≡ []) o n
look_failed a b = left_then a b (λ xs ys p q. ap (λ zs. zs ++ ys) p ∙ q)

pub look_saw : (dir : Path) (seen : Option Seen) {P : Option Seen → Type 0} {o m n : Option Journal} → P seen → Left (λ ts. ts ≡ []) o m → Left (λ ts. ts ≡ Look dir seen ∷ []) m n → Left (Sees dir P) o n
look_saw dir seen is a b = left_then a b (λ xs ys p q. record { seen = seen; is = is; look = ap (λ zs. zs ++ ys) p ∙ q })

-- What had the path when the making found it taken has one at the look: meanwhile writers made files alone.
not_gone : {P : List Entry → Type 0} (dir : Path) {o m n : Option Journal} → WhereTold m (λ p. names (world p) dir ≢ thing.Nothing) → Left (λ ts. ts ≡ []) o m → Left (λ ts. ts ≡ Look dir None ∷ []) m n → Left P o n
not_gone dir named not_told not_told = not_told
not_gone dir named (is_told {k = k} made none) (is_told {k = l} {es = es} made' one) =
    absurd (named (looked_first (λ n. n dir ≡ thing.Nothing) (λ n n' more e. nothing_before n n' dir more e) dir None (λ w shows. seen_none w (names w dir) shows) (past k) (past l) es [] made' (sym (reverse-reverse es) ∙ ap reverse one)))

pub look_missed : (dir : Path) (seen : Option Seen) {o m n : Option Journal} → is_dir seen ≡ false → WhereTold m (λ p. names (world p) dir ≢ thing.Nothing) → Left (λ ts. ts ≡ []) o m → Left (λ ts. ts ≡ Look dir seen ∷ []) m n → Left (Sees dir IsNoDir) o n
look_missed dir None h named a b = not_gone dir named a b
look_missed dir (Some seen) h named a b = look_saw dir (Some seen) (λ e. let t : is_dir_kind seen.kind ≡ true = ap is_dir_kind e in cc) a b
