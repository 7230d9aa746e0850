-- Pieces one after another, and the parts of a reading.
use Rattle.std.proofs.Common.{◌≡◌, ◌≤◌, ◌<◌, ◌⊎◌, inl, inr, ℕ, ◌+◌, Bool, true, false, List, [], ◌∷◌, ◌++◌, length, refl, sym, ap, ◌∙◌, subst, append_assoc, arith, length-append, Option, None, Result, Ok, Err, IfOk, IfErr}
use Rattle.std.specs.Prelude.{nat_lt, filter, IsErrAnd}
use Rattle.std.proofs.lemmas.Bool.{ltb-true, ltb-false}
use Rattle.std.proofs.lemmas.List.{append-nil}
use Rattle.lr_rules.specs.declared.path.Path.{Path}
use Rattle.lr_rules.specs.declared.memory.Memory.{Memory}
use Rattle.lr_rules.specs.StatePath.{state_part}
use Rattle.lr_rules.specs.declared.fault.CallKind.TheVariants as call
use Rattle.lr_rules.specs.declared.fault.Fault.TheVariants as fault
use Rattle.lr_host.specs.declared.entry.Entry.{Entry}
use Rattle.lr_host.specs.declared.entry.Entry.TheVariants as entry
use Rattle.lr_host.specs.declared.journal.Journal.{Journal}
use Rattle.lr_host.specs.Steps.{is_naming}
use Rattle.lr_host.specs.Told.{Left, Are, Can}
use Rattle.lr_host.proofs.Left.{left_first, left_as, left_then, can_stay}
use Rattle.lr_state.specs.Answer.{ReaderGives, IsSaidBy}
use Rattle.lr_state.specs.Given.{Given, HasTaken}
use Rattle.lr_state.specs.Grammar.{StateSaid, TextSays}
use Rattle.lr_state.specs.Table as table
use Rattle.lr_state.specs.declared.text.StateStop.{StateStop}
use Rattle.lr_state.specs.declared.text.StateStop.TheVariants as whole
use Rattle.lr_state.specs.declared.look.LookStop.{LookStop}
use Rattle.lr_state.specs.declared.reading_pieces.ReadStop.{ReadStop}
use Rattle.lr_state.specs.declared.reading_pieces.ReadStop.TheVariants as read
use Rattle.lr_state.specs.Known.{Known, IsKnownBy, IsKnownBehind, IsKnownOf, ReadsState, state_look_fault, text_read}
use Rattle.lr_state.specs.Internal.{IsKnownByReader, FindsState, ReadsOn, StopsAtPiece, HandsOnWhole, ReadsSo, IsBroken, Stops, ReadsText, ReadsPartFile}
use Rattle.lr_state.specs.ReadPieces.{Reading, Whole, Broken, AreSome, GoOn, IsLast, bytes_of, reads_from}
use Rattle.lr_state.specs.Sights.{StateSight, Failed, Nothing, Saw, found, state_look, behind_part, behind_state}

-- ---- one piece more

pub bytes_more : (pieces : List (List ℕ)) (piece : List ℕ) → bytes_of (pieces ++ piece ∷ []) ≡ bytes_of pieces ++ piece
bytes_more [] piece = append-nil piece
bytes_more (p ∷ pieces) piece = ap (λ (bs : List ℕ). p ++ bs) (bytes_more pieces piece) ∙ sym (append_assoc p (bytes_of pieces) piece)

pub some_more : (size : ℕ) (pieces : List (List ℕ)) (piece : List ℕ) → AreSome size pieces → 0 < length piece → length piece ≤ size → AreSome size (pieces ++ piece ∷ [])
some_more size [] piece are some short = (some, short, tt)
some_more size (p ∷ pieces) piece are some short = (are.0, are.1, some_more size pieces piece are.2 some short)

pub go_more : (size : ℕ) (pieces : List (List ℕ)) (piece : List ℕ) → GoOn size pieces → 0 < length piece → length piece ≤ size → length (bytes_of pieces) + length piece ≤ 67_108_864 → GoOn size (pieces ++ piece ∷ [])
go_more size pieces piece goes some short within = (some_more size pieces piece goes.0 some short, omega (arith, ap length (bytes_more pieces piece), length-append (bytes_of pieces) piece))

reads_on : (path : Path) (place : ℕ) (pieces : List (List ℕ)) (piece : List ℕ) → reads_from path place pieces ++ entry.Reads path (place + length (bytes_of pieces)) piece ∷ [] ≡ reads_from path place (pieces ++ piece ∷ [])
reads_on path place [] piece = ap (λ (k : ℕ). entry.Reads path k piece ∷ []) (omega arith)
reads_on path place (p ∷ pieces) piece =
    ap (λ (k : ℕ). entry.Reads path place p ∷ (reads_from path (place + length p) pieces ++ entry.Reads path k piece ∷ [])) (omega (arith, length-append p (bytes_of pieces)))
    ∙ ap (λ (ts : List Entry). entry.Reads path place p ∷ ts) (reads_on path (place + length p) pieces piece)

read_behind : (path : Path) (pieces : List (List ℕ)) (piece : List ℕ) → reads_from path 0 pieces ++ entry.Reads path (length (bytes_of pieces)) piece ∷ [] ≡ reads_from path 0 (pieces ++ piece ∷ [])
read_behind path pieces piece = ap (λ (k : ℕ). reads_from path 0 pieces ++ entry.Reads path k piece ∷ []) (omega arith) ∙ reads_on path 0 pieces piece

-- the entries with one read more
pub entries_more : (path : Path) (pieces : List (List ℕ)) (at : ℕ) (piece : List ℕ) {o m n : Option Journal} → at ≡ length (bytes_of pieces) → Left (Are (reads_from path 0 pieces)) o m → Left (Are (entry.Reads path at piece ∷ [])) m n
    → Left (Are (reads_from path 0 (pieces ++ piece ∷ []))) o n
entries_more path pieces at piece e a b = left_then a b (λ ts us p q.
    ap (λ (vs : List Entry). vs ++ us) p ∙ (ap (λ (vs : List Entry). reads_from path 0 pieces ++ vs) (q ∙ ap (λ (k : ℕ). entry.Reads path k piece ∷ []) e) ∙ read_behind path pieces piece))

-- a reading that ends with this piece, or is broken off behind it
last_piece : (piece : List ℕ) → (piece ≡ []) ⊎ (0 < length piece)
last_piece [] = inl refl
last_piece (b ∷ bs) = inr (omega arith)

pub some_reading : (path : Path) (size : ℕ) (pieces : List (List ℕ)) (piece : List ℕ) (ts : List Entry) → GoOn size pieces → length piece ≤ size → ts ≡ reads_from path 0 (pieces ++ piece ∷ []) → ReadsSo path size (Stops read.Memory) ts
some_reading path size pieces piece ts goes short e = go (last_piece piece) (nat_lt 67_108_864 (length (bytes_of pieces) + length piece)) refl
  where
    go : (piece ≡ []) ⊎ (0 < length piece) → (b : Bool) → nat_lt 67_108_864 (length (bytes_of pieces) + length piece) ≡ b → ReadsSo path size (Stops read.Memory) ts
    go (inl none) b is = record { reading = Whole pieces piece; is = (goes, short, inl none); so = tt; entries = e }
    go (inr some) true is = record { reading = Whole pieces piece; is = (goes, short, inr (ltb-true 67_108_864 (length (bytes_of pieces) + length piece) is)); so = tt; entries = e }
    go (inr some) false is = record { reading = Broken (pieces ++ piece ∷ []); is = go_more size pieces piece goes some short (ltb-false 67_108_864 (length (bytes_of pieces) + length piece) is); so = tt; entries = e }

-- it stopped behind these pieces
pub stopped_at : (path : Path) (size : ℕ) (pieces : List (List ℕ)) (at : ℕ) (why : ReadStop) {o m n : Option Journal} → GoOn size pieces → at ≡ length (bytes_of pieces) → Left (Are (reads_from path 0 pieces)) o m → Left (StopsAtPiece path at size why) m n
    → Left (ReadsSo path size (Stops why)) o n
stopped_at path size pieces at read.Call goes e a b = left_then a b (λ ts us p q. record { reading = Broken pieces; is = goes; so = tt; entries = ap (λ (vs : List Entry). ts ++ vs) q ∙ (append-nil ts ∙ p) })
stopped_at path size pieces at read.Memory goes e a b = left_then a b (λ ts us p q. some_reading path size pieces q.piece (ts ++ us) goes q.short
    (ap (λ (vs : List Entry). vs ++ us) p ∙ (ap (λ (vs : List Entry). reads_from path 0 pieces ++ vs) (q.entries ∙ ap (λ (k : ℕ). entry.Reads path k q.piece ∷ []) e) ∙ read_behind path pieces q.piece)))

pub on_stop : (r : Result (Unit {0}) ReadStop) (P : ReadStop → Type 0) (why : ReadStop) → IsErrAnd r (λ e. e ≡ why) → P why → IfErr r P
on_stop (Ok x) P why e p = tt
on_stop (Err x) P why e p = subst P (sym e) p

-- it ended behind them
pub whole_at : (path : Path) (size : ℕ) (pieces : List (List ℕ)) (at read_size : ℕ) (before after : Given) {o m n : Option Journal} → GoOn size pieces → at ≡ length (bytes_of pieces) → read_size ≡ size → HasTaken before (bytes_of pieces)
    → Left (Are (reads_from path 0 pieces)) o m → ReadsOn path at read_size None before after m n → HandsOnWhole path size after o n
whole_at path size pieces at read_size before after goes e same taken l r = record {
  pieces = pieces;
  last = r.piece;
  reading = (goes, omega (arith, r.short), subst (λ (k : ℕ). IsLast k r.piece) e r.follows);
  taken = r.taken (bytes_of pieces) taken;
  entries = entries_more path pieces at r.piece e l r.entries;
}

-- it was made, and there was no memory for its piece
pub stopped_piece : (path : Path) (at size : ℕ) (piece : List ℕ) {o n : Option Journal} → Left (Are (entry.Reads path at piece ∷ [])) o n → length piece ≤ size → Left (StopsAtPiece path at size read.Memory) o n
stopped_piece path at size piece l short = left_as l (λ ts e. record { piece = piece; short = short; entries = e })

-- a read changes no name
pub names_stay : (path : Path) (place : ℕ) (piece : List ℕ) (ts : List Entry) → ts ≡ entry.Reads path place piece ∷ [] → filter is_naming ts ≡ []
names_stay path place piece ts e = ap (filter is_naming) e

-- ---- the answers

-- what the reader says of the text that it took
pub reader_known : (stale : Bool) (bytes : List ℕ) (said : Result (List table.StateEntry) StateStop) (answer : Result Known Memory) → IsSaidBy (TextSays bytes) said → ((other : StateSaid) → TextSays bytes other → ReaderGives said other) → IsKnownByReader stale said answer
    → IfOk answer (IsKnownBy stale (Ok bytes))
reader_known stale bytes (Ok entries) answer says only e = subst (λ (a : Result Known Memory). IfOk a (IsKnownBy stale (Ok bytes))) (sym e) (Ok entries, (says, only), refl)
reader_known stale bytes (Err (whole.Bad line kind)) answer says only e = subst (λ (a : Result Known Memory). IfOk a (IsKnownBy stale (Ok bytes))) (sym e) (Err (line, kind), (says, only), refl)
reader_known stale bytes (Err whole.Memory) (Ok known) says only e = absurd e
reader_known stale bytes (Err whole.Memory) (Err memory) says only e = tt

-- ---- the parts

-- looks change no name
look_names : (path : Path) (s : StateSight) → filter is_naming (state_look path s) ≡ []
look_names path Failed = refl
look_names path Nothing = refl
look_names path (Saw seen) = refl

pub finds_stay : {path : Path} {result : Result Bool LookStop} {e : Entry} {o m : Option Journal} → Left (FindsState path result) o m → Can o e → Can m e
finds_stay {path} l can = can_stay can l (λ ts p. ap (filter is_naming) p.entries ∙ look_names path p.sight)

-- no file stands
pub text_none : (state : Path) (size : ℕ) (stale : Bool) (answer : Result Known Memory) (o : Option Journal) → IfOk answer (IsKnownBy stale (Ok [])) → Left (ReadsText state size false stale answer) o o
text_none state size stale answer o known = left_first _ o (record { reading = Broken []; is = (tt, omega arith); entries = refl; known = known })

pub text_empty : (state : Path) (size : ℕ) (there stale : Bool) (entries : List table.StateEntry) (o : Option Journal) → there ≡ false → entries ≡ [] → Left (ReadsText state size there stale (Ok (Ok (record { table = entries; stale = stale })))) o o
text_empty state size there stale entries o none empty =
    subst (λ (b : Bool). Left (ReadsText state size b stale (Ok (Ok (record { table = entries; stale = stale })))) o o) (sym none)
    (text_none state size stale (Ok (Ok (record { table = entries; stale = stale }))) o (Ok [], (refl, λ other says. says), ap (λ (es : List table.StateEntry). Ok (record { table = es; stale = stale })) empty))

-- its text was read whole
pub text_whole : (state : Path) (size : ℕ) (stale : Bool) (given : Given) (answer : Result Known Memory) {o n : Option Journal} → (r : HandsOnWhole state size given o n) → IfOk answer (IsKnownBy stale (Ok (bytes_of r.pieces ++ r.last)))
    → Left (ReadsText state size true stale answer) o n
text_whole state size stale given answer r known = left_as r.entries (λ ts e. record { reading = Whole r.pieces r.last; is = r.reading; entries = e; known = known })

-- a read failed, or there was no memory
pub text_stopped : (state : Path) (size : ℕ) (stale : Bool) (answer : Result Known Memory) (P : Reading → Type 0) {o n : Option Journal} → Left (ReadsSo state size P) o n
    → ((r : Reading) → P r → IfOk answer (IsKnownBy stale (text_read state true r))) → Left (ReadsText state size true stale answer) o n
text_stopped state size stale answer P l f = left_as l (λ ts r. record { reading = r.reading; is = r.is; entries = r.entries; known = f r.reading r.so })

-- the part file was found so, and the text was read
pub part_found : (state : Path) (part : Path) (size : ℕ) (there stale : Bool) (answer : Result Known Memory) {o m n : Option Journal} → part ≡ state_part state → Left (FindsState part (Ok stale)) o m → Left (ReadsText state size there stale answer) m n
    → Left (ReadsPartFile state size there answer) o n
part_found state part size there stale answer e a b = left_then a b (λ ts us p q. record {
  part = p.sight;
  reading = q.reading;
  is = q.is;
  entries = ap (λ (vs : List Entry). vs ++ us) (p.entries ∙ ap (λ (x : Path). state_look x p.sight) e)
      ∙ (ap (λ (vs : List Entry). state_look (state_part state) p.sight ++ vs) q.entries ∙ ap (λ (f : Result Bool LookStop). state_look (state_part state) p.sight ++ behind_part state there f q.reading) p.found_is);
  known = subst (λ (f : Result Bool LookStop). IfOk answer (IsKnownBehind state there f q.reading)) p.found_is q.known;
})

-- something is wrong with it
pub part_refused : (state : Path) (part : Path) (size : ℕ) (there : Bool) (why : LookStop) (answer : Result Known Memory) {o n : Option Journal} → part ≡ state_part state → Left (FindsState part (Err why)) o n
    → IfOk answer (λ known. known ≡ Err (state_look_fault why part)) → Left (ReadsPartFile state size there answer) o n
part_refused state part size there why answer e a k = left_as a (λ ts p. record {
  part = p.sight;
  reading = Broken [];
  is = (tt, omega arith);
  entries = p.entries ∙ (ap (λ (x : Path). state_look x p.sight) e ∙ (sym (append-nil (state_look (state_part state) p.sight)) ∙ ap (λ (f : Result Bool LookStop). state_look (state_part state) p.sight ++ behind_part state there f (Broken [])) p.found_is));
  known = subst (λ (f : Result Bool LookStop). IfOk answer (IsKnownBehind state there f (Broken []))) p.found_is
      (subst (λ (x : Path). IfOk answer (λ known. known ≡ Err (state_look_fault why x))) e k);
})

-- nothing is known where there was no memory, and a read that failed is told
pub broken_known : (state : Path) (stale : Bool) (answer : Result Known Memory) (r : Reading) → IfOk answer (λ known. known ≡ Err (fault.Call call.Read state)) → IsBroken r → IfOk answer (IsKnownBy stale (text_read state true r))
broken_known state stale answer (Broken pieces) e is = e
broken_known state stale answer (Whole pieces last) e is = absurd is

-- ---- the whole

pub state_found : (state : Path) (size : ℕ) (there : Bool) (answer : Result Known Memory) {o m n : Option Journal} → Left (FindsState state (Ok there)) o m → Left (ReadsPartFile state size there answer) m n → Left (ReadsState state size answer) o n
state_found state size there answer a b = left_then a b (λ ts us p q. record {
  sights = record { state = p.sight; part = q.part; reading = q.reading };
  shown = record {
    reading = q.is;
    entries = ap (λ (vs : List Entry). vs ++ us) p.entries
        ∙ (ap (λ (vs : List Entry). state_look state p.sight ++ vs) q.entries ∙ ap (λ (f : Result Bool LookStop). state_look state p.sight ++ behind_state state f q.part q.reading) p.found_is);
  };
  known = subst (λ (f : Result Bool LookStop). IfOk answer (IsKnownOf state f (found q.part) q.reading)) p.found_is q.known;
})

pub state_refused : (state : Path) (size : ℕ) (why : LookStop) (answer : Result Known Memory) {o n : Option Journal} → Left (FindsState state (Err why)) o n → IfOk answer (λ known. known ≡ Err (state_look_fault why state)) → Left (ReadsState state size answer) o n
state_refused state size why answer a k = left_as a (λ ts p. record {
  sights = record { state = p.sight; part = Failed; reading = Broken [] };
  shown = record {
    reading = (tt, omega arith);
    entries = p.entries ∙ (sym (append-nil (state_look state p.sight)) ∙ ap (λ (f : Result Bool LookStop). state_look state p.sight ++ behind_state state f Failed (Broken [])) p.found_is);
  };
  known = subst (λ (f : Result Bool LookStop). IfOk answer (IsKnownOf state f (found Failed) (Broken []))) p.found_is k;
})
