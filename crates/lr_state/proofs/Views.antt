-- The map as clauses see it, and that each call keeps it a table.
use Rattle.std.proofs.Common.{◌≡◌, ◌∙◌, ap, sym, subst, refl, ℕ, zero, suc, ◌≤◌, length, slice_get, nat_lt, nat_le, Bool, true, false, not, ◌&&◌, cond, List, [], ◌∷◌, ◌++◌, map, filter, Option, Some, None, IsSome, is_some, Vec, Global, true≢false}
use Rattle.std.specs.Str.{bytes_eq, is_utf8}
use Rattle.lr_rules.specs.Path.{has_bad_byte}
use Rattle.std.specs.Map.{lookup, set_value}
use Rattle.std.specs.Map.Calls.{RetainsPairs}
use Rattle.std.proofs.lemmas.Bool.{and_parts, and_from, not-true, leb-true}
use Rattle.std.proofs.lemmas.Slice.Eq.{bytes_eq-Decides}
use Rattle.indexmap.specs.IndexMap.{insert_entry}
use Rattle.lr_rules.specs.declared.civil.Civil.{Civil}
use Rattle.lr_state.specs.Table.{StateEntry, moment_of, put, is_name, is_table}

abbrev pub Held : Type 0
Held = Vec ℕ Global × Civil

abbrev pub shown : Held → StateEntry
shown e = (e.0.items, e.1)

abbrev pub names : List ℕ → Vec ℕ Global → Bool
names name k = bytes_eq name k.items

abbrev pub same : Vec ℕ Global → Vec ℕ Global → Bool
same x y = bytes_eq x.items y.items

pub lookup-shown : (name : List ℕ) (es : List Held) → lookup (names name) es ≡ moment_of (map shown es) name
unfolding moment_of
lookup-shown name [] = refl
lookup-shown name (e ∷ es) = ap (λ r. cond (names name e.0) (Some e.1) r) (lookup-shown name es)

set_by : (e : Held) (es : List Held) (at : Civil) (set : List Held) (puts : List StateEntry) (found : Option Civil) (b : Bool) → IsSome (cond b (Some e.1) found)
    → (IsSome found → map shown set ≡ puts)
    → map shown (cond b ((e.0, at) ∷ es) (e ∷ set)) ≡ cond b (shown (e.0, at) ∷ map shown es) (shown e ∷ puts)
set_by e es at set puts found true some next = refl
set_by e es at set puts found false some next = ap (λ r. shown e ∷ r) (next some)

pub set_value-shown : (name : List ℕ) (at : Civil) (es : List Held) → IsSome (lookup (names name) es) → map shown (set_value (names name) es at) ≡ put (map shown es) name at
unfolding put
set_value-shown name at [] some = absurd (true≢false (sym some))
set_value-shown name at (e ∷ es) some =
    set_by e es at (set_value (names name) es at) (put (map shown es) name at) (lookup (names name) es) (names name e.0) some (set_value-shown name at es)

insert_by : (e : Held) (es : List Held) (at : Civil) (inserted : List Held) (puts : List StateEntry) (b : Bool) → map shown inserted ≡ puts
    → map shown (cond b ((e.0, at) ∷ es) (e ∷ inserted)) ≡ cond b (shown (e.0, at) ∷ map shown es) (shown e ∷ puts)
insert_by e es at inserted puts true next = refl
insert_by e es at inserted puts false next = ap (λ r. shown e ∷ r) next

pub insert_entry-shown : (name : List ℕ) (key : Vec ℕ Global) (at : Civil) (es : List Held) → key.items ≡ name → map shown (insert_entry same es key at) ≡ put (map shown es) name at
unfolding put
insert_entry-shown name key at [] is = ap (λ n. (n, at) ∷ []) is
insert_entry-shown name key at (e ∷ es) is =
    insert_by e es at (insert_entry same es key at) (put (map shown es) name at) (same key e.0) (insert_entry-shown name key at es is)
    ∙ ap (λ n. cond (bytes_eq n e.0.items) (shown (e.0, at) ∷ map shown es) (shown e ∷ put (map shown es) name at)) is

filter_by : (e : Held) (kept : List Held) (shows : List StateEntry) (b : Bool) → map shown kept ≡ shows → map shown (cond b (e ∷ kept) kept) ≡ cond b (shown e ∷ shows) shows
filter_by e kept shows true next = ap (λ r. shown e ∷ r) next
filter_by e kept shows false next = next

pub filter-shown_by : (p : StateEntry → Bool) (es : List Held) → map shown (filter (λ e. p (shown e)) es) ≡ filter p (map shown es)
filter-shown_by p [] = refl
filter-shown_by p (e ∷ es) = filter_by e (filter (λ e. p (shown e)) es) (filter p (map shown es)) (p (shown e)) (filter-shown_by p es)

-- a new name goes last
new_by : (e : StateEntry) (es : List StateEntry) (name : List ℕ) (at : Civil) (b : Bool) → is_some (cond b (Some e.1) (moment_of es name)) ≡ false
    → (is_some (moment_of es name) ≡ false → put es name at ≡ es ++ (name, at) ∷ [])
    → cond b ((e.0, at) ∷ es) (e ∷ put es name at) ≡ e ∷ (es ++ (name, at) ∷ [])
new_by e es name at true none next = absurd (true≢false none)
new_by e es name at false none next = ap (λ r. e ∷ r) (next none)

pub put-new : (es : List StateEntry) (name : List ℕ) (at : Civil) → is_some (moment_of es name) ≡ false → put es name at ≡ es ++ (name, at) ∷ []
unfolding put moment_of
put-new [] name at none = refl
put-new (e ∷ es) name at none = new_by e es name at (bytes_eq name e.0) none (put-new es name at)

-- other names are found as before
other_by : (e : StateEntry) (at : Civil) (q : List ℕ) (more puts : Option Civil) (b c : Bool) → is_some puts ≡ is_some more
    → is_some (cond c (Some e.1) (cond b more puts)) ≡ is_some (cond c (Some e.1) more)
other_by e at q more puts true c next = refl
other_by e at q more puts false true next = refl
other_by e at q more puts false false next = next

moment-cond : (b : Bool) (e : StateEntry) (es puts : List StateEntry) (at : Civil) (q : List ℕ)
    → is_some (moment_of (cond b ((e.0, at) ∷ es) (e ∷ puts)) q)
    ≡ is_some (cond (bytes_eq q e.0) (Some e.1) (cond b (moment_of es q) (moment_of puts q)))
unfolding moment_of
moment-cond true e es puts at q = by (bytes_eq q e.0)
  where
    by : (c : Bool) → is_some (cond c (Some at) (moment_of es q)) ≡ is_some (cond c (Some e.1) (moment_of es q))
    by true = refl
    by false = refl
moment-cond false e es puts at q = refl

pub moment-put_other : (es : List StateEntry) (name : List ℕ) (at : Civil) (q : List ℕ) → bytes_eq q name ≡ false → is_some (moment_of (put es name at) q) ≡ is_some (moment_of es q)
unfolding put moment_of
moment-put_other [] name at q other = ap (λ b. is_some (cond b (Some at) None)) other
moment-put_other (e ∷ es) name at q other =
    moment-cond (bytes_eq name e.0) e es (put es name at) at q
    ∙ other_by e at q (moment_of es q) (moment_of (put es name at) q) (bytes_eq name e.0) (bytes_eq q e.0) (moment-put_other es name at q other)

pub bytes_swapped : (a b : List ℕ) → bytes_eq a b ≡ false → bytes_eq b a ≡ false
bytes_swapped a b e = by (bytes_eq b a) refl
  where
    by : (c : Bool) → bytes_eq b a ≡ c → c ≡ false
    by false is = refl
    by true is = absurd (true≢false (sym ((bytes_eq-Decides a b).1 (sym ((bytes_eq-Decides b a).0 is))) ∙ e))

-- a table stays one where a name of a log is put
put_by : (e : StateEntry) (es : List StateEntry) (name : List ℕ) (at : Civil) (b : Bool) → bytes_eq name e.0 ≡ b → is_table (e ∷ es) ≡ true → is_table (put es name at) ≡ true
    → is_table (cond b ((e.0, at) ∷ es) (e ∷ put es name at)) ≡ true
unfolding is_table
put_by e es name at true is table next = table
put_by e es name at false is table next =
    let parts = and_parts (is_name e.0 && not (is_some (moment_of es e.0))) (is_table es) table in
    let own = and_parts (is_name e.0) (not (is_some (moment_of es e.0))) parts.0 in
    let kept : not (is_some (moment_of (put es name at) e.0)) ≡ true =
    ap not (moment-put_other es name at e.0 (bytes_swapped name e.0 is)) ∙ own.1 in
    and_from _ _ (and_from _ _ own.0 kept) next

pub table-put : (es : List StateEntry) (name : List ℕ) (at : Civil) → is_name name ≡ true → is_table es ≡ true → is_table (put es name at) ≡ true
unfolding put is_table moment_of
table-put [] name at good table = and_from _ _ (and_from _ _ good refl) refl
table-put (e ∷ es) name at good table =
    put_by e es name at (bytes_eq name e.0) refl table
    (table-put es name at good (and_parts (is_name e.0 && not (is_some (moment_of es e.0))) (is_table es) table).1)

-- each name of a table is one of a log
pub table-name : (es : List StateEntry) (k : ℕ) (e : StateEntry) → is_table es ≡ true → slice_get es k ≡ Some e → is_name e.0 ≡ true
unfolding is_table
table-name [] k e table at = absurd (cc at)
table-name (x ∷ xs) zero e table at =
    let parts = and_parts (is_name x.0 && not (is_some (moment_of xs x.0))) (is_table xs) table in
    let own = and_parts (is_name x.0) (not (is_some (moment_of xs x.0))) parts.0 in
    let same_entry : x ≡ e = cc at in
    subst (λ (y : StateEntry). is_name y.0 ≡ true) same_entry own.0
table-name (x ∷ xs) (suc k) e table at =
    table-name xs k e (and_parts (is_name x.0 && not (is_some (moment_of xs x.0))) (is_table xs) table).1 at

pub name-short : (name : List ℕ) → is_name name ≡ true → length name ≤ 4096
unfolding is_name
name-short name good =
    let all = and_parts (nat_lt 0 (length name) && nat_le (length name) 4096 && is_utf8 name) (not (has_bad_byte name)) good in
    let three = and_parts (nat_lt 0 (length name) && nat_le (length name) 4096) (is_utf8 name) all.0 in
    leb-true (length name) 4096 (and_parts (nat_lt 0 (length name)) (nat_le (length name) 4096) three.0).1

-- and where entries are left out
module _ {F : Type 0} (T : F → Vec ℕ Global → Civil → Bool → Civil → F → Type 0) where
  absent_by : (e : Held) (w : Civil) (kept : List Held) (q : List ℕ) (more : Option Civil) (b c : Bool)
      → is_some (cond c (Some e.1) more) ≡ false → (is_some more ≡ false → is_some (moment_of (map shown kept) q) ≡ false)
      → bytes_eq q e.0.items ≡ c → is_some (moment_of (map shown (cond b ((e.0, w) ∷ kept) kept)) q) ≡ false
  unfolding moment_of
  absent_by e w kept q more b true none next is = absurd (true≢false none)
  absent_by e w kept q more true false none next is = ap (λ c. is_some (cond c (Some w) (moment_of (map shown kept) q))) is ∙ next none
  absent_by e w kept q more false false none next is = next none

  absent-kept : (f : F) (es kept : List Held) (q : List ℕ) → RetainsPairs T f es kept → is_some (moment_of (map shown es) q) ≡ false → is_some (moment_of (map shown kept) q) ≡ false
  unfolding moment_of
  absent-kept f [] kept q h none = ap (λ (ks : List Held). is_some (moment_of (map shown ks) q)) h
  absent-kept f (e ∷ es) kept q h none =
      ap (λ (ks : List Held). is_some (moment_of (map shown ks) q)) h.6
      ∙ absent_by e h.1 h.3 q (moment_of (map shown es) q) h.0 (bytes_eq q e.0.items) none (absent-kept h.2 es h.3 q h.5) refl

  kept_by : (e : Held) (w : Civil) (kept : List Held) (b : Bool) → is_name e.0.items ≡ true → is_some (moment_of (map shown kept) e.0.items) ≡ false
      → is_table (map shown kept) ≡ true → is_table (map shown (cond b ((e.0, w) ∷ kept) kept)) ≡ true
  unfolding is_table
  kept_by e w kept true good none table = and_from _ _ (and_from _ _ good (ap not none)) table
  kept_by e w kept false good none table = table

  pub table-kept : (f : F) (es kept : List Held) → RetainsPairs T f es kept → is_table (map shown es) ≡ true → is_table (map shown kept) ≡ true
  unfolding is_table
  table-kept f [] kept h table = ap (λ (ks : List Held). is_table (map shown ks)) h
  table-kept f (e ∷ es) kept h table =
      let parts = and_parts (is_name e.0.items && not (is_some (moment_of (map shown es) e.0.items))) (is_table (map shown es)) table in
      let own = and_parts (is_name e.0.items) (not (is_some (moment_of (map shown es) e.0.items))) parts.0 in
      ap (λ (ks : List Held). is_table (map shown ks)) h.6
      ∙ kept_by e h.1 h.3 h.0 own.0 (absent-kept h.2 es h.3 e.0.items h.5 (not-true _ own.1)) (table-kept h.2 es h.3 h.5 parts.1)
