-- How a reading goes on by one read more.
use Rattle.std.proofs.Common.{◌≡◌, ◌≤◌, ◌<◌, ◌+◌, ◌-◌, inl, inr, ℕ, List, [], ◌∷◌, ◌++◌, length, take, false, refl, sym, ap, ◌∙◌, subst, append_assoc, append-nil, length-append, Option, Some, None, Result, Ok, Err, arith}
use Rattle.std.specs.Prelude.{IfOk, filter}
use Rattle.lr_rules.specs.declared.path.Path.{Path}
use Rattle.lr_rules.specs.Path.{is_empty}
use Rattle.lr_lex.specs.Items.{Told, items}
use Rattle.lr_lex.specs.Streams.{still}
use Rattle.lr_host.specs.declared.entry.Entry.{Entry}
use Rattle.lr_host.specs.declared.entry.Entry.TheVariants.{Reads}
use Rattle.lr_host.specs.declared.journal.Journal.{Journal}
use Rattle.lr_host.specs.Told.{Left, Are, Each}
use Rattle.lr_host.specs.Reading.{to_limit, to_end, IsShortRead}
use Rattle.lr_host.specs.Steps.{is_naming}
use Rattle.lr_host.proofs.Left.{left_first, left_as, left_then}
use Rattle.lr_host.proofs.Each.{each_append}
use Rattle.lr_include.specs.declared.part.TextEnd.{TextEnd}
use Rattle.lr_include.specs.declared.part.TextEnd.TheVariants as end
use Rattle.lr_include.specs.declared.file_taking.Taking.{Taking}
use Rattle.lr_include.specs.Visits.{ShowsText, IsShortReadOf, PartText}
use Rattle.lr_include.specs.Taken.{IsUnclosed, ReadBrings, ShortReads, TookFrom, ReadGoesOn}
use Rattle.lr_include.proofs.Texts.{read_more, reads_so_far}
use Rattle.lr_include.proofs.Telling.{told_whole, take_both}

-- a read failed
pub goes_failed : (path : Path) (room : ℕ) (t : Taking) {before mid after : Option Journal} → IsUnclosed t → t.size ≤ room → TookFrom path t before mid → Left (Are []) mid after → Left (ShowsText path room t.told.items t.size end.Failed) before after
goes_failed path room t ready small took none = left_then took.reads none (λ ts us r e. subst (λ (vs : List Entry). ShowsText path room t.told.items t.size end.Failed vs) (sym (ap (λ (vs : List Entry). ts ++ vs) e ∙ append-nil ts)) (record {
  bytes = took.bytes;
  reads = (omega (arith, small, took.size), r.0);
  short = r.1;
  size_is = took.size;
  told_are = told_whole took.bytes t.told.items t.stream ready.stands ready.none took.told;
}))

some_piece : {old new : ℕ} (piece : List ℕ) → old < new → new ≡ old + length piece → is_empty piece ≡ false
some_piece [] lt e = absurd (omega (arith, lt, e))
some_piece (b ∷ piece) lt e = refl

short_both : (path : Path) (from : ℕ) (piece : List ℕ) (ts us : List Entry) → length piece ≤ 65536 → Each IsShortRead ts → us ≡ Reads path from piece ∷ [] → Each IsShortRead (ts ++ us)
short_both path from piece ts us le short e = each_append IsShortRead ts us short (subst (Each IsShortRead) (sym e) (le, tt))

-- reads, and one more
pub short_more : (path : Path) (bytes piece : List ℕ) {o m n : Option Journal} → is_empty piece ≡ false → length piece ≤ 65536 → Left (ShortReads path bytes) o m → Left (Are (Reads path (length bytes) piece ∷ [])) m n → Left (ShortReads path (bytes ++ piece)) o n
short_more path bytes piece gave le a b = left_then a b (λ ts us r e. (read_more path bytes piece ts us gave r.0 e, short_both path (length bytes) piece ts us le r.1 e))

-- a read gave these bytes
pub goes_on : (path : Path) (room : ℕ) (old new : Taking) (piece : List ℕ) (how : Option TextEnd) {before mid after : Option Journal} → old.size ≤ room → old.size + length piece ≤ room + 1 → length piece ≤ 65536
    → TookFrom path old before mid → Left (Are (Reads path old.size piece ∷ [])) mid after → ReadBrings old new room piece how → ReadGoesOn path room new before after how
goes_on path room old new piece None {before = before} {mid = mid} {after = after} small within le took read b = record {
  bytes = took.bytes ++ piece;
  reads = short_more path took.bytes piece (some_piece piece b.2 b.3) le took.reads (subst (λ (k : ℕ). Left (Are (Reads path k piece ∷ [])) mid after) took.size read);
  told = λ more. ap items (append_assoc took.bytes piece more) ∙ (took.told (piece ++ more) ∙ b.4 more);
  size = omega (arith, b.3, took.size, length-append took.bytes piece);
}
goes_on path room old new piece (Some end.Whole) {before = before} {mid = mid} {after = after} small within le took read b =
    let last : Left (Are (Reads path (length took.bytes) [] ∷ [])) mid after = subst (λ (bs : List ℕ). Left (Are (Reads path (length took.bytes) bs ∷ [])) mid after) b.0 (subst (λ (k : ℕ). Left (Are (Reads path k piece ∷ [])) mid after) took.size read) in
    left_then took.reads last (λ ts us r e. record {
      bytes = took.bytes;
      reads = (omega (arith, small, took.size), to_end (omega (arith, small, took.size)) (record { front = ts; back = us; joined = refl; first = r.0; second = e }));
      short = short_both path (length took.bytes) [] ts us (omega arith) r.1 e;
      size_is = b.1 ∙ took.size;
      told_are = b.2 ∙ (sym (took.told []) ∙ ap items (append-nil took.bytes));
    })
goes_on path room old new piece (Some end.TooMany) {before = before} {mid = mid} {after = after} small within le took read b =
    let l = length-append took.bytes piece in
    left_as (short_more path took.bytes piece (some_piece piece (omega (arith, b.1, small)) b.2) le took.reads (subst (λ (k : ℕ). Left (Are (Reads path k piece ∷ [])) mid after) took.size read)) (λ ts r. record {
      bytes = took.bytes ++ piece;
      reads = (omega (arith, b.1, b.2, took.size, l), to_limit (omega (arith, b.1, b.2, took.size, l, within)) r.0);
      short = r.1;
      size_is = omega (arith, b.2, took.size, l);
      told_are = told_whole (take room (took.bytes ++ piece)) new.told.items new.stream b.0.stands b.0.none (λ more.
          ap (λ (bs : List ℕ). items (bs ++ more)) (take_both room took.bytes piece (omega (arith, small, took.size)))
          ∙ (ap items (append_assoc took.bytes (take (room - length took.bytes) piece) more)
          ∙ (ap (λ (k : ℕ). items (took.bytes ++ (take (room - k) piece ++ more))) (sym took.size)
          ∙ (took.told (take (room - old.size) piece ++ more) ∙ b.3 more))));
    })
goes_on path room old new piece (Some end.Failed) small within le took read b = absurd b

-- the first byte is read next
pub goes_first : (path : Path) (t : Taking) (o : Option Journal) → t.told.items ≡ [] → ((more : List ℕ) → still t.stream more ≡ items more) → t.size ≡ 0 → TookFrom path t o o
goes_first path t o none text size = record {
  bytes = [];
  reads = left_first (ShortReads path []) o (record { only = tt; joined = tt; some = refl; bytes_are = refl }, tt);
  told = λ more. sym (ap (λ (ts : List Told). ts ++ still t.stream more) none ∙ text more);
  size = size;
}

-- ---- without memory

part_of : (path : Path) (room : ℕ) (bytes : List ℕ) (ts : List Entry) → ShortReads path bytes ts → length bytes ≤ room + 1 → PartText path room ts
part_of path room bytes ts r le = record { bytes = bytes; reads = reads_so_far path (room + 1) bytes ts le r.0; short = r.1 }

-- a read gave these bytes, and there is no memory for what they tell
pub goes_lacking : (path : Path) (room : ℕ) (old : Taking) (piece : List ℕ) {before mid after : Option Journal} → old.size ≤ room → old.size + length piece ≤ room + 1 → length piece ≤ 65536
    → TookFrom path old before mid → Left (Are (Reads path old.size piece ∷ [])) mid after → Left (PartText path room) before after
goes_lacking path room old [] {before = before} {mid = mid} {after = after} small within le took read =
    let last : Left (Are (Reads path (length took.bytes) [] ∷ [])) mid after = subst (λ (k : ℕ). Left (Are (Reads path k [] ∷ [])) mid after) took.size read in
    left_then took.reads last (λ ts us r e. record {
      bytes = took.bytes;
      reads = inr (to_end (omega (arith, small, took.size)) (record { front = ts; back = us; joined = refl; first = r.0; second = e }));
      short = short_both path (length took.bytes) [] ts us le r.1 e;
    })
goes_lacking path room old (b ∷ piece) {before = before} {mid = mid} {after = after} small within le took read =
    left_as (short_more path took.bytes (b ∷ piece) refl le took.reads (subst (λ (k : ℕ). Left (Are (Reads path k (b ∷ piece) ∷ [])) mid after) took.size read))
    (λ ts r. part_of path room (took.bytes ++ b ∷ piece) ts r (omega (arith, within, took.size, length-append took.bytes (b ∷ piece))))

-- nothing was read
pub none_read : (path : Path) (room : ℕ) (o : Option Journal) → Left (PartText path room) o o
none_read path room o = left_first (PartText path room) o (record { bytes = []; reads = inl (omega arith, record { only = tt; joined = tt; some = refl; bytes_are = refl }); short = tt })

-- ---- reads of at most 65,536 bytes

pub short_none : (path : Path) {o n : Option Journal} → Left (Are []) o n → Left (Each (IsShortReadOf path)) o n
short_none path l = left_as l (λ ts e. subst (Each (IsShortReadOf path)) (sym e) tt)

pub short_one : (path : Path) (from : ℕ) (piece : List ℕ) {o n : Option Journal} → length piece ≤ 65536 → Left (Are (Reads path from piece ∷ [])) o n → Left (Each (IsShortReadOf path)) o n
short_one path from piece le l = left_as l (λ ts e. subst (Each (IsShortReadOf path)) (sym e) ((refl, le), tt))

-- they name nothing
pub short_unnamed : (path : Path) (ts : List Entry) → Each (IsShortReadOf path) ts → filter is_naming ts ≡ []
short_unnamed path [] each = refl
short_unnamed path (Reads x from piece ∷ ts) each = short_unnamed path ts each.1
short_unnamed path (_ ∷ ts) each = absurd each.0.0

-- a fact of each answer
pub on_ok : {T E : Type 0} {P Q : T → Type 0} (r : Result T E) → IfOk r P → ((x : T) → P x → Q x) → IfOk r Q
on_ok (Ok x) p f = f x p
on_ok (Err e) p f = tt
