-- What the limits of a format give.
use Rattle.std.proofs.Common.{◌≡◌, ◌⊎◌, inl, inr, ⊎_elim, ℕ, ◌<◌, ◌≤◌, ◌+◌, Bool, true, false, ◌||◌, ◌&&◌, cond, List, [], ◌∷◌, refl, ap, ◌∙◌, arith, length, nat_le, eqb-true}
use Rattle.std.specs.Prelude.{◌==◌}
use Rattle.std.specs.List.{list_all}
use Rattle.std.specs.Str.{is_utf8}
use Rattle.std.proofs.lemmas.Bool.{and_parts, or_cases, leb-true}
use Rattle.lr_rules.specs.declared.rule.Field.{Field}
use Rattle.lr_rules.specs.declared.rule.Field.TheVariants as field
use Rattle.lr_rules.specs.declared.rule.Format.{Format}
use Rattle.lr_rules.specs.declared.rule.Piece.{Piece}
use Rattle.lr_rules.specs.declared.rule.Piece.TheVariants as piece
use Rattle.lr_rules.specs.Limits.{rank, is_rank, times, is_plain_piece, written, are_first, is_epoch_alone, is_format}
use Rattle.lr_rules.specs.Stamps.{is_in}
use Rattle.lr_stamps.specs.Asked.{are_bytes, FieldsDiffer}

-- ---- counting fields

count_more : (k : ℕ) (p : Piece) (ps : List Piece) → times k ps ≤ times k (p ∷ ps)
count_more k p ps = go (is_rank k p)
  where
    go : (b : Bool) → times k ps ≤ cond b (1 + times k ps) (times k ps)
    go true = omega arith
    go false = omega arith

count_here : (f : Field) (ps : List Piece) → times (rank f) (piece.Field f ∷ ps) ≡ 1 + times (rank f) ps
count_here field.Year ps = refl
count_here field.Month ps = refl
count_here field.Day ps = refl
count_here field.Hour ps = refl
count_here field.Minute ps = refl
count_here field.Second ps = refl
count_here field.Epoch ps = refl

-- a field counts exactly where it stands
abbrev Counts : Bool → ℕ → Type 0
Counts b n = (n ≡ 0 → b ≡ false) × (0 < n → b ≡ true) × (b ≡ true → 0 < n)

counts : (f : Field) (ps : List Piece) → Counts (is_in f ps) (times (rank f) ps)
counts f [] = ((λ e. refl), (λ i. absurd (omega arith)), (λ e. absurd (cc)))
counts f (piece.Byte b ∷ ps) = counts f ps
counts f (piece.Field g ∷ ps) = go (rank f == rank g) (counts f ps)
  where
    go : (b : Bool) → Counts (is_in f ps) (times (rank f) ps) → Counts (b || is_in f ps) (cond b (1 + times (rank f) ps) (times (rank f) ps))
    go true h = ((λ e. absurd (omega arith)), (λ i. refl), (λ e. omega arith))
    go false h = h

-- ---- formats of a date

apart_date : (ps : List Piece) → ((f : Field) → times (rank f) ps ≤ 1) → times 6 ps ≡ 0 → FieldsDiffer ps
apart_date [] h z = tt
apart_date (piece.Byte b ∷ ps) h z = apart_date ps h z
apart_date (piece.Field f ∷ ps) h z = here f (one f) (h f) (apart_date ps (λ g. let i : times (rank g) ps ≤ times (rank g) (piece.Field f ∷ ps) = count_more (rank g) (piece.Field f) ps in let j : times (rank g) (piece.Field f ∷ ps) ≤ 1 = h g in omega arith) (let i : times 6 ps ≤ times 6 (piece.Field f ∷ ps) = count_more 6 (piece.Field f) ps in omega arith)) z
  where
    one : (f : Field) → times (rank f) (piece.Field f ∷ ps) ≡ 1 + times (rank f) ps
    one f = count_here f ps

    out : (g : Field) → times (rank g) (piece.Field g ∷ ps) ≡ 1 + times (rank g) ps → times (rank g) (piece.Field g ∷ ps) ≤ 1 → is_in g ps ≡ false
    out g e i = let n : times (rank g) ps ≡ 0 = omega arith in (counts g ps).0 n

    here : (g : Field) → times (rank g) (piece.Field g ∷ ps) ≡ 1 + times (rank g) ps → times (rank g) (piece.Field g ∷ ps) ≤ 1 → FieldsDiffer ps → times 6 (piece.Field g ∷ ps) ≡ 0 → FieldsDiffer (piece.Field g ∷ ps)
    here field.Year e i a z = (out field.Year e i, a)
    here field.Month e i a z = (out field.Month e i, a)
    here field.Day e i a z = (out field.Day e i, a)
    here field.Hour e i a z = (out field.Hour e i, a)
    here field.Minute e i a z = (out field.Minute e i, a)
    here field.Second e i a z = (out field.Second e i, a)
    here field.Epoch e i a z = absurd (omega arith)

-- ---- formats of the seconds since 1970

none_stand : (ps : List Piece) → ((f : Field) → times (rank f) ps ≡ 0) → are_bytes ps ≡ true
none_stand [] h = refl
none_stand (piece.Byte b ∷ ps) h = none_stand ps h
none_stand (piece.Field f ∷ ps) h = absurd (let e : times (rank f) (piece.Field f ∷ ps) ≡ 1 + times (rank f) ps = count_here f ps in let z : times (rank f) (piece.Field f ∷ ps) ≡ 0 = h f in omega arith)

apart_epoch : (ps : List Piece) → ((f : Field) → rank f < 6 → times (rank f) ps ≡ 0) → times 6 ps ≡ 1 → FieldsDiffer ps
apart_epoch [] h o = tt
apart_epoch (piece.Byte b ∷ ps) h o = apart_epoch ps h o
apart_epoch (piece.Field f ∷ ps) h o = here f (count_here f ps) h o
  where
    rest : (f : Field) → ((g : Field) → rank g < 6 → times (rank g) (piece.Field f ∷ ps) ≡ 0) → times 6 ps ≡ 0 → (g : Field) → (rank g < 6) ⊎ (rank g ≡ 6) → times (rank g) ps ≡ 0
    rest f h z g (inl i) = let j : times (rank g) ps ≤ times (rank g) (piece.Field f ∷ ps) = count_more (rank g) (piece.Field f) ps in let k : times (rank g) (piece.Field f ∷ ps) ≡ 0 = h g i in omega arith
    rest f h z g (inr e) = ap (λ n. times n ps) e ∙ z

    ranks : (g : Field) → (rank g < 6) ⊎ (rank g ≡ 6)
    ranks field.Epoch = inr refl
    ranks field.Year = inl (omega arith)
    ranks field.Month = inl (omega arith)
    ranks field.Day = inl (omega arith)
    ranks field.Hour = inl (omega arith)
    ranks field.Minute = inl (omega arith)
    ranks field.Second = inl (omega arith)

    never : (g : Field) → rank g < 6 → times (rank g) (piece.Field g ∷ ps) ≡ 1 + times (rank g) ps → ((f : Field) → rank f < 6 → times (rank f) (piece.Field g ∷ ps) ≡ 0) → ⊥
    never g i e h = let z : times (rank g) (piece.Field g ∷ ps) ≡ 0 = h g i in omega arith

    here : (g : Field) → times (rank g) (piece.Field g ∷ ps) ≡ 1 + times (rank g) ps → ((f : Field) → rank f < 6 → times (rank f) (piece.Field g ∷ ps) ≡ 0) → times 6 (piece.Field g ∷ ps) ≡ 1 → FieldsDiffer (piece.Field g ∷ ps)
    here field.Epoch e h o = none_stand ps (λ g. rest field.Epoch h (omega arith) g (ranks g))
    here field.Year e h o = absurd (never field.Year (omega arith) e h)
    here field.Month e h o = absurd (never field.Month (omega arith) e h)
    here field.Day e h o = absurd (never field.Day (omega arith) e h)
    here field.Hour e h o = absurd (never field.Hour (omega arith) e h)
    here field.Minute e h o = absurd (never field.Minute (omega arith) e h)
    here field.Second e h o = absurd (never field.Second (omega arith) e h)

-- ---- what the test of a format says

-- how often each field stands in a format of a date
pub record IsDate (ps : List Piece) : Type 0 where
  pub year : times 0 ps ≡ 1
  pub month : times 1 ps ≤ times 0 ps
  pub day : times 2 ps ≤ times 1 ps
  pub hour : times 3 ps ≤ times 2 ps
  pub minute : times 4 ps ≤ times 3 ps
  pub second : times 5 ps ≤ times 4 ps
  pub epoch : times 6 ps ≡ 0

date_of : (ps : List Piece) → are_first ps ≡ true → IsDate ps
date_of ps e =
    let a = and_parts (times 0 ps == 1) (nat_le (times 1 ps) (times 0 ps) && (nat_le (times 2 ps) (times 1 ps) && (nat_le (times 3 ps) (times 2 ps) && (nat_le (times 4 ps) (times 3 ps) && (nat_le (times 5 ps) (times 4 ps) && times 6 ps == 0))))) e in
    let b = and_parts (nat_le (times 1 ps) (times 0 ps)) (nat_le (times 2 ps) (times 1 ps) && (nat_le (times 3 ps) (times 2 ps) && (nat_le (times 4 ps) (times 3 ps) && (nat_le (times 5 ps) (times 4 ps) && times 6 ps == 0)))) a.1 in
    let c = and_parts (nat_le (times 2 ps) (times 1 ps)) (nat_le (times 3 ps) (times 2 ps) && (nat_le (times 4 ps) (times 3 ps) && (nat_le (times 5 ps) (times 4 ps) && times 6 ps == 0))) b.1 in
    let d = and_parts (nat_le (times 3 ps) (times 2 ps)) (nat_le (times 4 ps) (times 3 ps) && (nat_le (times 5 ps) (times 4 ps) && times 6 ps == 0)) c.1 in
    let f = and_parts (nat_le (times 4 ps) (times 3 ps)) (nat_le (times 5 ps) (times 4 ps) && times 6 ps == 0) d.1 in
    let g = and_parts (nat_le (times 5 ps) (times 4 ps)) (times 6 ps == 0) f.1 in
    record {
      year = eqb-true (times 0 ps) 1 a.0;
      month = leb-true (times 1 ps) (times 0 ps) b.0;
      day = leb-true (times 2 ps) (times 1 ps) c.0;
      hour = leb-true (times 3 ps) (times 2 ps) d.0;
      minute = leb-true (times 4 ps) (times 3 ps) f.0;
      second = leb-true (times 5 ps) (times 4 ps) g.0;
      epoch = eqb-true (times 6 ps) 0 g.1;
    }

pub record IsEpoch (ps : List Piece) : Type 0 where
  pub epoch : times 6 ps ≡ 1
  pub year : times 0 ps ≡ 0
  pub month : times 1 ps ≡ 0
  pub day : times 2 ps ≡ 0
  pub hour : times 3 ps ≡ 0
  pub minute : times 4 ps ≡ 0
  pub second : times 5 ps ≡ 0

epoch_of : (ps : List Piece) → is_epoch_alone ps ≡ true → IsEpoch ps
epoch_of ps e =
    let a = and_parts (times 6 ps == 1) (times 0 ps == 0 && (times 1 ps == 0 && (times 2 ps == 0 && (times 3 ps == 0 && (times 4 ps == 0 && times 5 ps == 0))))) e in
    let b = and_parts (times 0 ps == 0) (times 1 ps == 0 && (times 2 ps == 0 && (times 3 ps == 0 && (times 4 ps == 0 && times 5 ps == 0)))) a.1 in
    let c = and_parts (times 1 ps == 0) (times 2 ps == 0 && (times 3 ps == 0 && (times 4 ps == 0 && times 5 ps == 0))) b.1 in
    let d = and_parts (times 2 ps == 0) (times 3 ps == 0 && (times 4 ps == 0 && times 5 ps == 0)) c.1 in
    let f = and_parts (times 3 ps == 0) (times 4 ps == 0 && times 5 ps == 0) d.1 in
    let g = and_parts (times 4 ps == 0) (times 5 ps == 0) f.1 in
    record {
      epoch = eqb-true (times 6 ps) 1 a.0;
      year = eqb-true (times 0 ps) 0 b.0;
      month = eqb-true (times 1 ps) 0 c.0;
      day = eqb-true (times 2 ps) 0 d.0;
      hour = eqb-true (times 3 ps) 0 f.0;
      minute = eqb-true (times 4 ps) 0 g.0;
      second = eqb-true (times 5 ps) 0 g.1;
    }

pub kind_of : (f : Format) → is_format f ≡ true → IsDate f.pieces ⊎ IsEpoch f.pieces
kind_of f e =
    let a = and_parts (list_all is_plain_piece f.pieces) (is_utf8 (written f.pieces) && (nat_le (length (written f.pieces)) 64 && (are_first f.pieces || is_epoch_alone f.pieces))) e in
    let u = and_parts (is_utf8 (written f.pieces)) (nat_le (length (written f.pieces)) 64 && (are_first f.pieces || is_epoch_alone f.pieces)) a.1 in
    let b = and_parts (nat_le (length (written f.pieces)) 64) (are_first f.pieces || is_epoch_alone f.pieces) u.1 in
    ⊎_elim (λ t. inl (date_of f.pieces t)) (λ t. inr (epoch_of f.pieces t)) (or_cases (are_first f.pieces) (is_epoch_alone f.pieces) b.1)

date_apart : (ps : List Piece) → IsDate ps → FieldsDiffer ps
date_apart ps d = apart_date ps most d.epoch
  where
    most : (f : Field) → times (rank f) ps ≤ 1
    most field.Year = omega (arith, d.year)
    most field.Month = omega (arith, d.year, d.month)
    most field.Day = omega (arith, d.year, d.month, d.day)
    most field.Hour = omega (arith, d.year, d.month, d.day, d.hour)
    most field.Minute = omega (arith, d.year, d.month, d.day, d.hour, d.minute)
    most field.Second = omega (arith, d.year, d.month, d.day, d.hour, d.minute, d.second)
    most field.Epoch = omega (arith, d.epoch)

epoch_apart : (ps : List Piece) → IsEpoch ps → FieldsDiffer ps
epoch_apart ps d = apart_epoch ps none d.epoch
  where
    none : (f : Field) → rank f < 6 → times (rank f) ps ≡ 0
    none field.Year i = d.year
    none field.Month i = d.month
    none field.Day i = d.day
    none field.Hour i = d.hour
    none field.Minute i = d.minute
    none field.Second i = d.second
    none field.Epoch i = absurd (omega arith)

-- each field stands once, and behind the seconds since 1970 stands no other
pub format_apart : (f : Format) → is_format f ≡ true → FieldsDiffer f.pieces
format_apart f e = ⊎_elim (λ d. date_apart f.pieces d) (λ d. epoch_apart f.pieces d) (kind_of f e)

-- where the day stands, the month and the year do; where the month stands, the year does
pub with_day : (f : Format) → is_format f ≡ true → is_in field.Day f.pieces ≡ true → (is_in field.Month f.pieces ≡ true) × (is_in field.Year f.pieces ≡ true)
with_day f e i = ⊎_elim date epoch (kind_of f e)
  where
    some : 0 < times 2 f.pieces
    some = (counts field.Day f.pieces).2 i

    date : IsDate f.pieces → (is_in field.Month f.pieces ≡ true) × (is_in field.Year f.pieces ≡ true)
    date d = ((counts field.Month f.pieces).1 (omega (arith, some, d.day)), (counts field.Year f.pieces).1 (omega (arith, d.year)))

    epoch : IsEpoch f.pieces → (is_in field.Month f.pieces ≡ true) × (is_in field.Year f.pieces ≡ true)
    epoch d = absurd (omega (arith, some, d.day))

-- where the seconds since 1970 stand, no other field does
pub epoch_alone : (f : Format) → is_format f ≡ true → is_in field.Epoch f.pieces ≡ true → (g : Field) → (g ≡ field.Epoch → ⊥) → is_in g f.pieces ≡ false
epoch_alone f e i g n = ⊎_elim date (λ d. epoch d g n) (kind_of f e)
  where
    some : 0 < times 6 f.pieces
    some = (counts field.Epoch f.pieces).2 i

    date : IsDate f.pieces → is_in g f.pieces ≡ false
    date d = absurd (omega (arith, some, d.epoch))

    epoch : IsEpoch f.pieces → (g : Field) → (g ≡ field.Epoch → ⊥) → is_in g f.pieces ≡ false
    epoch d field.Year n = (counts field.Year f.pieces).0 d.year
    epoch d field.Month n = (counts field.Month f.pieces).0 d.month
    epoch d field.Day n = (counts field.Day f.pieces).0 d.day
    epoch d field.Hour n = (counts field.Hour f.pieces).0 d.hour
    epoch d field.Minute n = (counts field.Minute f.pieces).0 d.minute
    epoch d field.Second n = (counts field.Second f.pieces).0 d.second
    epoch d field.Epoch n = absurd (n refl)
