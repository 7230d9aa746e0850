-- A text that is appended in pieces no longer than the buffer.
use Rattle.std.proofs.Common.{refl, sym, ◌∙◌, ap, subst, ℕ, ◌≤◌, arith, List, [], ◌++◌, length, append_assoc, append-nil, Option, Result, Ok, Err, OnOk, OnErr}
use Rattle.lr_rules.specs.declared.path.Path.{Path}
use Rattle.lr_host.specs.declared.entry.Entry.TheVariants.{Appends}
use Rattle.lr_host.specs.declared.journal.Journal.{Journal}
use Rattle.lr_host.specs.Told.{Left, Can}
use Rattle.lr_host.proofs.Left.{left_first, left_then, left_as, can_stay}
use Rattle.lr_host.specs.Appending.{Appended, no_more, AppendBroke}
use Rattle.lr_host.proofs.Each.{each_append}
use Rattle.lr_host.proofs.Appending.{appended_on, append_stops, broke_further, each_appended, each_append_broke, none_named}
use Rattle.lr_writing.specs.Buffer.{Wrote, WriteBroke, HoldsBack}
use Rattle.lr_writing.specs.Writes.{IsShort}

-- pieces are no longer than the text
short : (text : List ℕ) (to : Path) → length text ≤ 65_536 → (piece : List ℕ) → length piece ≤ length text → IsShort (Appends to piece)
short text to le piece within = omega (arith, le, within)

pub wrote : (to : Path) (text : List ℕ) {o n : Option Journal} → length text ≤ 65_536 → Left (Appended to text) o n → Left (Wrote to text) o n
wrote to text le l = left_as l (λ ts a. (a, each_appended IsShort to text ts (short text to le) a))

pub write_broke : (to : Path) (text : List ℕ) {o n : Option Journal} → length text ≤ 65_536 → Left (AppendBroke to text) o n → Left (WriteBroke to text) o n
write_broke to text le l = left_as l (λ ts b. (b, each_append_broke IsShort to text ts (short text to le) b))

-- a first part of a first part
pub broke_more : (to : Path) (text more : List ℕ) {o n : Option Journal} → Left (WriteBroke to text) o n → Left (WriteBroke to (text ++ more)) o n
broke_more to text more l = left_as l (λ ts b. (broke_further to text ts more b.0, b.1))

-- ---- what is held back

pub holds_all : (to : Path) (text : List ℕ) (o : Option Journal) → HoldsBack to text text o o
holds_all to text o = record { front = []; text_is = refl; entries = left_first (Wrote to []) o (no_more, tt) }

pub holds_more : (to : Path) (text held line : List ℕ) {o n : Option Journal} → HoldsBack to text held o n → HoldsBack to (text ++ line) (held ++ line) o n
holds_more to text held line h = record { front = h.front; text_is = ap (λ xs. xs ++ line) h.text_is ∙ append_assoc h.front held line; entries = h.entries }

pub holds_on : (to : Path) (text held left : List ℕ) {o m n : Option Journal} → HoldsBack to text held o m → HoldsBack to held left m n → HoldsBack to text left o n
holds_on to text held left h k = record {
  front = h.front ++ k.front;
  text_is = h.text_is ∙ (ap (λ xs. h.front ++ xs) k.text_is ∙ sym (append_assoc h.front k.front left));
  entries = left_then h.entries k.entries (λ ts us a b. (appended_on to h.front ts k.front us a.0 b.0, each_append IsShort ts us a.1 b.1));
}

pub holds_end : (to : Path) (text held : List ℕ) {o m n : Option Journal} → HoldsBack to text held o m → Left (Wrote to held) m n → Left (Wrote to text) o n
holds_end to text held h l = left_then h.entries l (λ ts us a b. (subst (λ xs. Appended to xs (ts ++ us)) (sym h.text_is) (appended_on to h.front ts held us a.0 b.0), each_append IsShort ts us a.1 b.1))

pub holds_broke : (to : Path) (text held : List ℕ) {o m n : Option Journal} → HoldsBack to text held o m → Left (WriteBroke to held) m n → Left (WriteBroke to text) o n
holds_broke to text held h l = left_then h.entries l (λ ts us a b. (subst (λ xs. AppendBroke to xs (ts ++ us)) (sym h.text_is) (append_stops to h.front ts held us a.0 b.0), each_append IsShort ts us a.1 b.1))

-- all that was held back was appended
pub holds_none : (to : Path) (held : List ℕ) {o n : Option Journal} → length held ≤ 65_536 → Left (Appended to held) o n → HoldsBack to held [] o n
holds_none to held le l = record { front = held; text_is = sym (append-nil held); entries = wrote to held le l }

-- ---- by answers

pub if_ok : {T E : Type 0} (r : Result T E) (P Q : Type 0) → (P → Q) → OnOk r P → OnOk r Q
if_ok (Ok x) P Q f p = f p
if_ok (Err e) P Q f p = tt

pub if_err : {T E : Type 0} (r : Result T E) (P Q : Type 0) → (P → Q) → OnErr r P → OnErr r Q
if_err (Ok x) P Q f p = tt
if_err (Err e) P Q f p = f p

-- ---- what still fits

pub holds_stay : (to : Path) (text held : List ℕ) {o n : Option Journal} → Can o (Appends to []) → HoldsBack to text held o n → Can n (Appends to [])
holds_stay to text held can h = can_stay can h.entries (λ ts a. none_named to h.front ts a.0)
