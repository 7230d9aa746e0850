-- What was read of a file, and the file's bytes as the call began and at its end.
use Rattle.std.proofs.Common.{◌≡◌, ◌≤◌, inl, ◌⊎◌, ◌<◌, ◌+◌, ℕ, Bool, false, cond, nat_le, List, [], ◌∷◌, ◌++◌, length, take, drop, reverse, refl, sym, ap, ◌∙◌, subst, arith, append_assoc}
use Rattle.std.specs.Prelude.{filter}
use Rattle.std.proofs.lemmas.Bool.{lt-leb}
use Rattle.std.proofs.lemmas.List.{length-append}
use Rattle.lr_rules.specs.declared.path.Path.{Path}
use Rattle.lr_host.specs.declared.entry.Entry.{Entry}
use Rattle.lr_host.specs.declared.entry.Entry.TheVariants.{Reads}
use Rattle.lr_host.specs.declared.thing.Thing.{Thing}
use Rattle.lr_host.specs.declared.thing.Thing.TheVariants as thing
use Rattle.lr_host.specs.Fits.{GivesPiece, IsFileAt, IsPiece}
use Rattle.lr_host.specs.Lists.{IsIn}
use Rattle.lr_host.specs.Opening.{IsJournal}
use Rattle.lr_host.specs.Quiet.{Quiet, here, wrote, looked, is_disk_change, ChangeNothing}
use Rattle.lr_host.specs.Reading.{IsReadOf, ReadsOf, text}
use Rattle.lr_host.specs.Told.{Each, Made, at_first, by_writer, by_tool}
use Rattle.lr_host.specs.World.{Past, world, names}
use Rattle.lr_host.proofs.Lists.{from_reverse, in_front, in_back}
use Rattle.lr_host.proofs.Looked.{same_file}
use Rattle.lr_host.proofs.More.{file_same}
use Rattle.lr_host.proofs.Quiet.{IsAny, Moment, moment, quiet_more, since_any}
use Rattle.lr_laws_family.specs.Whole.{Has}
use Rattle.lr_laws.proofs.Parts.{named_drawn}
use Rattle.lr_laws_family.specs.Beside.{IsNeverAt, IsOn, not_here, nor_then}
use Rattle.lr_laws_family.specs.Moments.{fed}
use Rattle.lr_laws_family.proofs.Fed.{IsTurnOrMake, fed_bytes}
use Rattle.lr_laws_family.proofs.Stood.{quiet_journal}
use Rattle.lr_cat.specs.History.{IsTextRead}
use Rattle.lr_cat.specs.Texts.{FileText, ReadsWhole}
use Rattle.lr_cat.proofs.Pieces.{GivesOf, piece_of_more, pieces_are, longer_has, nothing_more}

-- ---- a quiet stretch leaves each file, with its bytes and more

pub record HasMore (x : Path) (g : ℕ) (bytes : List ℕ) (q : Past) : Type 0 where
  pub later : List ℕ
  pub has : Has x g (bytes ++ later) q

-- the entries of the tool in it, which change nothing
record Stretch (p q : Past) : Type 0 where
  entries : List Entry
  made : Made p entries q
  still : ChangeNothing entries

stretch : (p q : Past) → Quiet IsAny p q → Stretch p q
stretch p _ here = record { entries = []; made = at_first; still = refl }
stretch p _ (wrote {q = q} w i f only) = let s = stretch p q w in record { entries = s.entries; made = by_writer s.made i f; still = s.still }
stretch p _ (looked {q = q} {e = e} w i f h) = let s = stretch p q w in
    record { entries = e ∷ s.entries; made = by_tool s.made i f; still = ap (λ (b : Bool). cond b (e ∷ filter is_disk_change s.entries) (filter is_disk_change s.entries)) h ∙ s.still }

-- of no paths none names a file
never_at : (g : ℕ) (p q : Past) → Quiet IsAny p q → IsNeverAt [] g p q
never_at g p _ here = not_here (λ x i. absurd i)
never_at g p _ (wrote {q = q} w i f only) = nor_then (never_at g p q w) (λ x i. absurd i)
never_at g p _ (looked {q = q} w i f h) = nor_then (never_at g p q w) (λ x i. absurd i)

quiet_bytes : (g : ℕ) (p q : Past) → IsJournal p → Quiet IsAny p q → g < (world p).drawn → (more : List ℕ) × (((world q).files g).bytes ≡ ((world p).files g).bytes ++ more)
quiet_bytes g p q j w lt = (more, fed_bytes [] g p q s.entries j s.made none (never_at g p q w) ∙ ap (λ (b : Bool). cond b [] ((world p).files g).bytes ++ more) old)
  where
    s : Stretch p q
    s = stretch p q w

    more : List ℕ
    more = drop (length (fed p g)) (fed q g)

    none : Each (λ e. IsTurnOrMake e ⊎ IsOn [] e) (filter is_disk_change s.entries)
    none = subst (Each (λ e. IsTurnOrMake e ⊎ IsOn [] e)) (sym s.still) tt

    old : nat_le ((world p).drawn + 1) (g + 1) ≡ false
    old = lt-leb ((world p).drawn + 1) (g + 1) (omega (arith, lt))

quiet_named : (x : Path) (g : ℕ) (p q : Past) → Quiet IsAny p q → names (world p) x ≡ thing.File g → names (world q) x ≡ thing.File g
quiet_named x g p q w n = file_same (names (world p)) (names (world q)) x (quiet_more IsAny p q w) (g, n) ∙ n

pub quiet_has : (x : Path) (g : ℕ) (bytes : List ℕ) (p q : Past) → IsJournal p → Quiet IsAny p q → Has x g bytes p → HasMore x g bytes q
quiet_has x g bytes p q j w h = let r = quiet_bytes g p q j w (named_drawn p x g j h.named) in record { later = r.0; has = record { named = quiet_named x g p q w h.named; bytes_are = r.1 ∙ ap (λ (bs : List ℕ). bs ++ r.0) h.bytes_are } }

-- ---- one read

-- It was made of a file, which had these bytes then, and at the end has more.
record WasRead (x : Path) (from : ℕ) (piece : List ℕ) (p q : Past) : Type 0 where
  file : ℕ
  early : List ℕ
  later : List ℕ
  piece_is : IsPiece early from piece
  now : Has x file (early ++ later) q
  -- what the path named at the beginning is the same file, and these bytes have its own first
  before : (g : ℕ) (bytes : List ℕ) → Has x g bytes p → (g ≡ file) × ((more : List ℕ) × (early ≡ bytes ++ more))

module _ (p q : Past) (es : List Entry) (journal : IsJournal p) (m : Made p es q) (still : ChangeNothing es) where
  was_read : (x : Path) (from : ℕ) (piece : List ℕ) → IsIn (Reads x from piece) (reverse es) → WasRead x from piece p q
  was_read x from piece i = go (names (world at.at) x) refl at.fits
    where
      at : Moment IsAny p q (Reads x from piece)
      at = moment IsAny p q (Reads x from piece) es (since_any p q es m) m still (from_reverse (Reads x from piece) es i)

      go : (t : Thing) → names (world at.at) x ≡ t → GivesPiece (world at.at) t from piece → WasRead x from piece p q
      go thing.Nothing is fits = absurd fits
      go thing.Directory is fits = absurd fits
      go thing.Other is fits = absurd fits
      go (thing.File g) is fits = let r = quiet_has x g ((world at.at).files g).bytes at.at q (quiet_journal IsAny p at.at at.since journal) at.until (record { named = is; bytes_are = refl }) in record {
        file = g;
        early = ((world at.at).files g).bytes;
        later = r.later;
        piece_is = fits;
        now = r.has;
        before = λ f bytes h. let s = quiet_has x f bytes p at.at journal at.since h in
            let same : f ≡ g = same_file (names (world at.at) x) f g s.has.named is in
            (same, (s.later, ap (λ (k : ℕ). ((world at.at).files k).bytes) (sym same) ∙ s.has.bytes_are));
      }

  -- of a file that the path names at the end each read gave what stands at its place among the bytes that the file then has
  gives_now : (x : Path) (g : ℕ) (ts : List Entry) → names (world q) x ≡ thing.File g → ((e : Entry) → IsIn e ts → IsIn e (reverse es)) → GivesOf x ((world q).files g).bytes ts
  gives_now x g ts named in_all from piece i = subst (λ (bs : List ℕ). piece ≡ take (length piece) (drop from bs)) both (piece_of_more from piece r.early r.later r.piece_is.part)
    where
      r : WasRead x from piece p q
      r = was_read x from piece (in_all (Reads x from piece) i)

      both : r.early ++ r.later ≡ ((world q).files g).bytes
      both = sym r.now.bytes_are ∙ ap (λ (k : ℕ). ((world q).files k).bytes) (same_file (names (world q) x) r.file g r.now.named named)

  -- ---- a first part of one file

  -- a path of which some bytes were read names a file
  file_of : (x : Path) (ts : List Entry) → 0 < length (text ts) → Each (IsReadOf x) ts → ((e : Entry) → IsIn e ts → IsIn e (reverse es)) → IsFileAt (names (world q)) x
  file_of x [] some only in_all = absurd (omega (arith, some))
  file_of x (Reads y from piece ∷ ts) some only in_all = let r = was_read y from piece (in_all (Reads y from piece) (inl refl)) in (r.file, subst (λ (z : Path). names (world q) z ≡ thing.File r.file) only.0 r.now.named)
  file_of x (_ ∷ ts) some only in_all = absurd only.0

  -- which has no fewer at the end
  pub read_so_far : (t : FileText) (ts : List Entry) → 0 < length t.bytes → ReadsOf t.path t.bytes ts → ((e : Entry) → IsIn e ts → IsIn e (reverse es)) → (g : ℕ) × (names (world q) t.path ≡ thing.File g) × (length t.bytes ≤ length ((world q).files g).bytes)
  read_so_far t ts some reads in_all = (file.0, file.1, (let l = ap length rest.1 in let n = length-append (text ts) rest.0 in let e = ap length reads.bytes_are in omega (arith, l, n, e)))
    where
      file : IsFileAt (names (world q)) t.path
      file = file_of t.path ts (subst (λ (bs : List ℕ). 0 < length bs) (sym reads.bytes_are) some) reads.only in_all

      rest : (behind : List ℕ) × (((world q).files file.0).bytes ≡ text ts ++ behind)
      rest = pieces_are t.path ((world q).files file.0).bytes 0 ts reads.only reads.joined (gives_now t.path file.0 ts file.1 in_all)

  -- ---- all of one file

  pub text_of : (t : FileText) (ts : List Entry) → ReadsWhole t ts → ((e : Entry) → IsIn e ts → IsIn e (reverse es)) → IsTextRead t p q
  text_of t ts w in_all = record {
    file = last.file;
    later = rest.0;
    now = record { named = last.now.named; bytes_are = last.now.bytes_are ∙ all_is };
    all = λ g bytes h. let b = last.before g bytes h in (
      b.0,
      longer_has bytes (b.1.0 ++ last.later) t.bytes rest.0
          (sym (append_assoc bytes b.1.0 last.later) ∙ (ap (λ (bs : List ℕ). bs ++ last.later) (sym b.1.1) ∙ all_is))
          (let l = ap length b.1.1 in let k = length-append bytes b.1.0 in let e = ended in omega (arith, l, k, e)),
    );
    same = λ bytes h k.
        let b = last.before last.file bytes h in
        let more = longer_has bytes (b.1.0 ++ last.later) t.bytes rest.0
        (sym (append_assoc bytes b.1.0 last.later) ∙ (ap (λ (bs : List ℕ). bs ++ last.later) (sym b.1.1) ∙ all_is))
        (let l = ap length b.1.1 in let n = length-append bytes b.1.0 in let e = ended in omega (arith, l, n, e)) in
        more.1 ∙ nothing_more bytes more.0 rest.0 (ap (λ (bs : List ℕ). bs ++ rest.0) (sym more.1) ∙ (sym all_is ∙ (sym last.now.bytes_are ∙ k.bytes_are)));
  }
    where
      last : WasRead t.path (length t.bytes) [] p q
      last = was_read t.path (length t.bytes) [] (in_all (Reads t.path (length t.bytes) []) (subst (IsIn (Reads t.path (length t.bytes) [])) (sym w.joined) (in_back (Reads t.path (length t.bytes) []) w.front w.back (subst (IsIn (Reads t.path (length t.bytes) [])) (sym w.second) (inl refl)))))

      ended : length last.early ≤ length t.bytes
      ended = last.piece_is.ended refl

      gives : GivesOf t.path (last.early ++ last.later) w.front
      gives = subst (λ (bs : List ℕ). GivesOf t.path bs w.front) last.now.bytes_are
          (gives_now t.path last.file w.front last.now.named (λ e i. in_all e (subst (IsIn e) (sym w.joined) (in_front e w.front w.back i))))

      rest : (behind : List ℕ) × (last.early ++ last.later ≡ t.bytes ++ behind)
      rest = let r = pieces_are t.path (last.early ++ last.later) 0 w.front w.first.only w.first.joined gives in (r.0, r.1 ∙ ap (λ (bs : List ℕ). bs ++ r.0) w.first.bytes_are)

      all_is : last.early ++ last.later ≡ t.bytes ++ rest.0
      all_is = rest.1
