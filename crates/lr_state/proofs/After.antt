-- Tables of a run, entry by entry.
use Rattle.std.proofs.Common.{◌≡◌, ◌∙◌, ap, sym, subst, refl, ℕ, ◌<◌, length, nat_lt, Bool, true, false, not, ◌&&◌, ◌||◌, cond, List, [], ◌∷◌, ◌++◌, map, filter, Some, None, is_some, true≢false, arith, ◌+◌, take, get_or}
use Rattle.std.specs.List.{list_any}
use Rattle.std.specs.Str.{bytes_eq, is_utf8}
use Rattle.std.proofs.lemmas.Bool.{and_parts, and_from, not-true, lt-ltb, ltb-false, le-leb, not-false}
use Rattle.std.proofs.lemmas.List.{map-append, take_more}
use Rattle.std.proofs.lemmas.List.Folds.{list_any-append}
use Rattle.std.proofs.lemmas.Slice.Eq.{bytes_eq-Decides}
use Rattle.lr_rules.specs.declared.civil.Civil.{Civil}
use Rattle.lr_rules.specs.declared.path.Path.{Path}
use Rattle.lr_rules.specs.Path.{path_fault, has_bad_byte, is_absolute}
use Rattle.lr_rules.proofs.PathLemmas.{none_of}
use Rattle.lr_state.specs.Table.{StateEntry, moment_of, put, is_name, is_table}
use Rattle.lr_state.proofs.Views.{put-new, bytes_swapped}
use Rattle.lr_state.specs.After.{is_among, stamped, stays, with_new, after}

-- ---- a path is a name of a log

some_bytes : (bs : List ℕ) → is_absolute bs ≡ true → nat_lt 0 (length bs) ≡ true
some_bytes [] e = absurd (true≢false (sym e))
some_bytes (b ∷ bs) e = lt-ltb 0 (length (b ∷ bs)) (omega arith)

pub path_named : (bs : List ℕ) → path_fault bs ≡ None → is_name bs ≡ true
unfolding path_fault is_name
path_named bs none =
    let text = none_of (not (is_utf8 bs)) _ _ none in
    let bytes = none_of (has_bad_byte bs) _ _ text.1 in
    let size = none_of (nat_lt 4096 (length bs)) _ _ bytes.1 in
    let start = none_of (not (is_absolute bs)) _ _ size.1 in
    and_from _ _ (and_from _ _ (and_from _ _ (some_bytes bs (not-false (is_absolute bs) start.0)) (le-leb (length bs) 4096 (ltb-false 4096 (length bs) size.0))) (not-false (is_utf8 bs) text.0)) (ap not bytes.0)

-- ---- stamps

stamped_name : (r : List Path) (now : Civil) (e : StateEntry) → (stamped r now e).0 ≡ e.0
stamped_name r now e = go (is_among r e.0)
  where
    go : (b : Bool) → (cond b (e.0, now) e).0 ≡ e.0
    go true = refl
    go false = refl

pub none_stamped : (now : Civil) (es : List StateEntry) → map (stamped [] now) es ≡ es
none_stamped now [] = refl
none_stamped now (e ∷ es) = ap (λ xs. e ∷ xs) (none_stamped now es)

-- an empty table has no name
pub none_found : (es : List StateEntry) (q : List ℕ) → es ≡ [] → is_some (moment_of es q) ≡ false
unfolding moment_of
none_found es q e = ap (λ (xs : List StateEntry). is_some (moment_of xs q)) e

-- behind the first entry
pub found_first : (e : StateEntry) (es : List StateEntry) (q : List ℕ) → is_some (moment_of (e ∷ es) q) ≡ (bytes_eq q e.0 || is_some (moment_of es q))
unfolding moment_of
found_first e es q = go (bytes_eq q e.0)
  where
    go : (b : Bool) → is_some (cond b (Some e.1) (moment_of es q)) ≡ (b || is_some (moment_of es q))
    go true = refl
    go false = refl

found_stamped : (r : List Path) (now : Civil) (es : List StateEntry) (q : List ℕ) → is_some (moment_of (map (stamped r now) es) q) ≡ is_some (moment_of es q)
unfolding moment_of
found_stamped r now [] q = refl
found_stamped r now (e ∷ es) q =
    found_first (stamped r now e) (map (stamped r now) es) q
    ∙ (ap (λ n. bytes_eq q n || is_some (moment_of (map (stamped r now) es) q)) (stamped_name r now e)
    ∙ (ap (λ b. bytes_eq q e.0 || b) (found_stamped r now es q) ∙ sym (found_first e es q)))

-- now is now
entry : Path → Civil → StateEntry
entry log now = (log, now)

stamped_new : (r : List Path) (now : Civil) (log : Path) → stamped r now (entry log now) ≡ entry log now
unfolding entry
stamped_new r now log = go (is_among r log)
  where
    own : StateEntry
    own = (log, now)

    go : (b : Bool) → cond b own own ≡ own
    go true = refl
    go false = refl

stamp_with_new : (r : List Path) (ks : List Path) (now : Civil) (es : List StateEntry) → map (stamped r now) (with_new ks now es) ≡ with_new ks now (map (stamped r now) es)
unfolding entry
stamp_with_new r [] now es = refl
stamp_with_new r (k ∷ ks) now es = stamp_with_new r ks now (cond (is_some (moment_of es k)) es (es ++ (k, now) ∷ [])) ∙ ap (with_new ks now) (inner (is_some (moment_of es k)) ∙ ap (λ b. cond b (map (stamped r now) es) (map (stamped r now) es ++ (k, now) ∷ [])) (sym (found_stamped r now es k)))
  where
    inner : (b : Bool) → map (stamped r now) (cond b es (es ++ (k, now) ∷ [])) ≡ cond b (map (stamped r now) es) (map (stamped r now) es ++ (k, now) ∷ [])
    inner true = refl
    inner false = map-append (stamped r now) es ((k, now) ∷ []) ∙ ap (λ e. map (stamped r now) es ++ e ∷ []) (stamped_new r now k)

pub stamps : (table : List StateEntry) (rotated kept : List Path) (now : Civil) → after table rotated kept now ≡ map (stamped rotated now) (after table [] kept now)
stamps table rotated kept now =
    ap (λ (es : List StateEntry). with_new kept now (map (stamped rotated now) es)) (sym (none_stamped now (filter (stays kept now) table)))
    ∙ sym (stamp_with_new rotated kept now (map (stamped [] now) (filter (stays kept now) table)))

-- ---- one stamp

-- a name that the table lacks
pub absent_stamped : (es : List StateEntry) (name : List ℕ) (at : Civil) → is_some (moment_of es name) ≡ false → es ≡ map (stamped (name ∷ []) at) es
absent_stamped [] name at none = refl
absent_stamped (e ∷ es) name at none = go (bytes_eq name e.0) refl (sym (found_first e es name) ∙ none) (absent_stamped es name at)
  where
    go : (b : Bool) → bytes_eq name e.0 ≡ b → (b || is_some (moment_of es name)) ≡ false → (is_some (moment_of es name) ≡ false → es ≡ map (stamped (name ∷ []) at) es) → e ∷ es ≡ stamped (name ∷ []) at e ∷ map (stamped (name ∷ []) at) es
    go true is h next = absurd (true≢false h)
    go false is h next = sym (ap (λ b. cond (b || false) (e.0, at) e ∷ map (stamped (name ∷ []) at) es) (bytes_swapped name e.0 is) ∙ ap (λ xs. e ∷ xs) (sym (next h)))

-- a name that it has
pub put_stamped : (es : List StateEntry) (name : List ℕ) (at : Civil) → is_table es ≡ true → is_some (moment_of es name) ≡ true → put es name at ≡ map (stamped (name ∷ []) at) es
unfolding put is_table moment_of
put_stamped [] name at table some = absurd (true≢false (sym some))
put_stamped (e ∷ es) name at table some = go (bytes_eq name e.0) refl (sym (found_first e es name) ∙ some) (put_stamped es name at parts.1)
  where
    parts : (is_name e.0 && not (is_some (moment_of es e.0)) ≡ true) × (is_table es ≡ true)
    parts = and_parts (is_name e.0 && not (is_some (moment_of es e.0))) (is_table es) table

    alone : is_some (moment_of es e.0) ≡ false
    alone = not-true (is_some (moment_of es e.0)) (and_parts (is_name e.0) (not (is_some (moment_of es e.0))) parts.0).1

    go : (b : Bool) → bytes_eq name e.0 ≡ b → (b || is_some (moment_of es name)) ≡ true → (is_some (moment_of es name) ≡ true → put es name at ≡ map (stamped (name ∷ []) at) es)
        → cond b ((e.0, at) ∷ es) (e ∷ put es name at) ≡ stamped (name ∷ []) at e ∷ map (stamped (name ∷ []) at) es
    go true is h next =
        let same : name ≡ e.0 = (bytes_eq-Decides name e.0).0 is in
        let back : bytes_eq e.0 name ≡ true = (bytes_eq-Decides e.0 name).1 (sym same) in
        sym (ap (λ b. cond (b || false) (e.0, at) e ∷ map (stamped (name ∷ []) at) es) back ∙ ap (λ xs. (e.0, at) ∷ xs) (sym (absent_stamped es name at (subst (λ n. is_some (moment_of es n) ≡ false) (sym same) alone))))
    go false is h next = ap (λ xs. e ∷ xs) (next h) ∙ sym (ap (λ b. cond (b || false) (e.0, at) e ∷ map (stamped (name ∷ []) at) es) (bytes_swapped name e.0 is))

-- ---- new names

-- a name is found where it was put last, or was there
pub found_new : (es : List StateEntry) (name : List ℕ) (at : Civil) (q : List ℕ) → is_some (moment_of (es ++ (name, at) ∷ []) q) ≡ (is_some (moment_of es q) || bytes_eq q name)
unfolding entry moment_of
found_new [] name at q = found_first (entry name at) [] q ∙ or_false (bytes_eq q name)
  where
    or_false : (b : Bool) → (b || false) ≡ b
    or_false true = refl
    or_false false = refl
found_new (e ∷ es) name at q = found_first e (es ++ (name, at) ∷ []) q ∙ (ap (λ b. bytes_eq q e.0 || b) (found_new es name at q) ∙ (assoc (bytes_eq q e.0) (is_some (moment_of es q)) (bytes_eq q name) ∙ ap (λ b. b || bytes_eq q name) (sym (found_first e es q))))
  where
    assoc : (a b c : Bool) → (a || (b || c)) ≡ ((a || b) || c)
    assoc true b c = refl
    assoc false b c = refl

-- put where it is there already, it changes nothing of that
pub found_put : (es : List StateEntry) (name : List ℕ) (at : Civil) (q : List ℕ) → is_table es ≡ true → is_some (moment_of (put es name at) q) ≡ (is_some (moment_of es q) || bytes_eq q name)
found_put es name at q table = go (is_some (moment_of es name)) refl
  where
    go : (b : Bool) → is_some (moment_of es name) ≡ b → is_some (moment_of (put es name at) q) ≡ (is_some (moment_of es q) || bytes_eq q name)
    go true is = ap (λ (xs : List StateEntry). is_some (moment_of xs q)) (put_stamped es name at table is) ∙ (found_stamped (name ∷ []) at es q ∙ there (bytes_eq q name) refl)
      where
        there : (c : Bool) → bytes_eq q name ≡ c → is_some (moment_of es q) ≡ (is_some (moment_of es q) || c)
        there true same = let q_is : q ≡ name = (bytes_eq-Decides q name).0 same in subst (λ (b : Bool). b ≡ (b || true)) (sym (ap (λ n. is_some (moment_of es n)) q_is ∙ is)) refl
        there false same = or_self (is_some (moment_of es q))
          where
            or_self : (b : Bool) → b ≡ (b || false)
            or_self true = refl
            or_self false = refl
    go false is = ap (λ (xs : List StateEntry). is_some (moment_of xs q)) (put-new es name at is) ∙ found_new es name at q

-- ---- logs one behind another

with_new_on : (xs ys : List Path) (now : Civil) (es : List StateEntry) → with_new (xs ++ ys) now es ≡ with_new ys now (with_new xs now es)
with_new_on [] ys now es = refl
with_new_on (x ∷ xs) ys now es = with_new_on xs ys now (cond (is_some (moment_of es x)) es (es ++ (x, now) ∷ []))

-- so many of the logs, and one more
pub one_more_new : (logs : List Path) (at : ℕ) (log : Path) (now : Civil) (es before after_it : List StateEntry) → at < length logs → log ≡ get_or logs at log → before ≡ with_new (take at logs) now es → after_it ≡ with_new (log ∷ []) now before → after_it ≡ with_new (take (at + 1) logs) now es
one_more_new logs at log now es before after_it lt is h g =
    g ∙ (ap (λ (xs : List StateEntry). with_new (log ∷ []) now xs) h
    ∙ (sym (with_new_on (take at logs) (log ∷ []) now es)
    ∙ ap (λ (xs : List Path). with_new xs now es) (ap (λ x. take at logs ++ x ∷ []) is ∙ sym (take_more logs at log lt))))

pub one_new : (es : List StateEntry) (log : Path) (now : Civil) → is_some (moment_of es log) ≡ false → put es log now ≡ with_new (log ∷ []) now es
one_new es log now none = put-new es log now none ∙ ap (λ (b : Bool). cond b es (es ++ (log, now) ∷ [])) (sym none)

-- the names of so many logs, and of one more
pub one_more_name : (logs : List Path) (at : ℕ) (log : Path) (now : Civil) (before after_it : List StateEntry) → is_table before ≡ true → at < length logs → log ≡ get_or logs at log → after_it ≡ put before log now
    → ((q : List ℕ) → is_some (moment_of before q) ≡ is_among (take at logs) q) → (q : List ℕ) → is_some (moment_of after_it q) ≡ is_among (take (at + 1) logs) q
one_more_name logs at log now before after_it table lt is g h q =
    ap (λ (xs : List StateEntry). is_some (moment_of xs q)) g ∙ (found_put before log now q table ∙ (ap (λ b. b || bytes_eq q log) (h q)
    ∙ (sym (list_any-append (bytes_eq q) (take at logs) (log ∷ []) ∙ ap (λ b. list_any (bytes_eq q) (take at logs) || b) (or_none (bytes_eq q log)))
    ∙ ap (λ (xs : List Path). is_among xs q) (ap (λ x. take at logs ++ x ∷ []) is ∙ sym (take_more logs at log lt)))))
  where
    or_none : (b : Bool) → (b || false) ≡ b
    or_none true = refl
    or_none false = refl
