-- The part file of a copy stands in the family's directory, and is neither the log nor a member.
use Rattle.std.proofs.Common.{◌≡◌, ◌≢◌, ◌⊎◌, inl, inr, ℕ, suc, ◌+◌, ◌<◌, ◌≤◌, Bool, true, false, cond, refl, sym, ◌∙◌, ap, subst, arith, eqb-true, List, [], ◌∷◌, ◌++◌, length, append_assoc, reverse, Some}
use Rattle.std.specs.Prelude.{decimal, codes, ◌==◌}
use Rattle.std.specs.List.{list_any}
use Rattle.std.proofs.lemmas.Fmt.{length-decimal-le}
use Rattle.std.proofs.lemmas.List.{length-append, reverse-append}
use Rattle.std.proofs.lemmas.List.Elements.{All-head, All-tail}
use Rattle.std.proofs.lemmas.Option.{same_Some}
use Rattle.lr_rules.specs.declared.path.Path.{Path}
use Rattle.lr_rules.specs.declared.rule.Format.{Format}
use Rattle.lr_rules.specs.declared.rule.Naming.{Naming}
use Rattle.lr_rules.specs.declared.rule.Piece.{Piece}
use Rattle.lr_rules.specs.declared.rule.Piece.TheVariants as piece
use Rattle.lr_rules.specs.declared.rule.Rule.{Rule}
use Rattle.lr_rules.specs.Match.{part_end}
use Rattle.lr_rules.specs.Names.{AreDigits, IsStampShape, number_pieces, IsMiddleShape, ext_of, naming_of, aside_path}
use Rattle.lr_rules.specs.Path.{joined, parent_of, last_of, is_slash}
use Rattle.lr_rules.proofs.PathLemmas.{plain_both, parent_joined, last_joined}
use Rattle.lr_rules.specs.Bytes.{is_digit}
use Rattle.lr_rules.proofs.Digits.{IsDigit, digit_is}
use Rattle.lr_stamps.proofs.Members.{joined_same}
use Rattle.lr_stamps.proofs.StampShapes.{numbered_shape}
use Rattle.lr_family.specs.Named.{member_name}
use Rattle.lr_family.specs.Parts.{part_of, IsNumbered, IsDated, IsMember}
use Rattle.lr_family.proofs.Names.{no_format}
use Rattle.lr_copy.specs.declared.job.Job.{Job}
use Rattle.lr_copy.specs.Fits.{ArePaths}
use Rattle.lr_laws.proofs.PlainStamps.{field_digits}
use Rattle.lr_family.proofs.Paths.{name_part as numbered_part}
use Rattle.lr_laws_family.specs.Members.{IsFamily, IsNoMember}
use Rattle.lr_laws_family.proofs.DatedNames.{name_of, name_part, longer, base_long}
use Rattle.lr_laws_rotations.specs.Target.{Target, source_of, IsJob}
use Rattle.lr_laws_rotations.specs.Apart.{HasNames}
use Rattle.lr_laws_rotations.proofs.Way.{IsOnWay, first_by, source_on, source_apart}

-- ---- the names of members

-- The path is that of a name in the directory, which is longer than base and extension together.
record IsLongName (n : Naming) (x : Path) : Type 0 where
  name : List ℕ
  plain : list_any is_slash name ≡ false
  named : x ≡ joined n.dir name
  long : length n.base + length n.ext < length name

number_length : (n : Naming) (number : ℕ) → length (member_name n number) ≡ length n.base + (1 + length (decimal number)) + length n.ext
number_length n number =
    let whole : length (member_name n number) ≡ length (n.base ++ 46 ∷ decimal number) + length n.ext = length-append (n.base ++ 46 ∷ decimal number) n.ext in
    let front : length (n.base ++ 46 ∷ decimal number) ≡ length n.base + length (46 ∷ decimal number) = length-append n.base (46 ∷ decimal number) in
    omega (arith, whole, front)

log_short : (rule : Rule) (log : Path) (n : Naming) → naming_of rule log ≡ n → length (last_of log) ≤ length n.base + length n.ext
log_short rule log n is = subst (λ (m : Naming). length (last_of log) ≤ length m.base + length m.ext) is (base_long (ext_of rule.addextension rule.extension (last_of log)) (last_of log))

-- ---- bytes that are no digits

-- how many of the bytes are none
abbrev marks : List ℕ → ℕ
marks [] = 0
marks (b ∷ bs) = cond (is_digit b) (marks bs) (suc (marks bs))

marks_on : (xs ys : List ℕ) → marks (xs ++ ys) ≡ marks xs + marks ys
marks_on [] ys = omega arith
marks_on (x ∷ xs) ys = go (is_digit x) (marks_on xs ys)
  where
    go : (b : Bool) → marks (xs ++ ys) ≡ marks xs + marks ys → cond b (marks (xs ++ ys)) (suc (marks (xs ++ ys))) ≡ cond b (marks xs) (suc (marks xs)) + marks ys
    go true e = e
    go false e = omega (arith, e)

no_marks : (ds : List ℕ) → AreDigits ds → marks ds ≡ 0
no_marks [] h = refl
no_marks (d ∷ ds) h = ap (λ b. cond b (marks ds) (suc (marks ds))) (digit_is d (All-head IsDigit d ds h)) ∙ no_marks ds (All-tail IsDigit d ds h)

-- ---- those of a stamp

-- a format says how many there are
abbrev marks_in : List Piece → ℕ
marks_in [] = 0
marks_in (piece.Byte b ∷ ps) = marks (b ∷ []) + marks_in ps
marks_in (piece.Field f ∷ ps) = marks_in ps

stamp_marks : (ps : List Piece) (w : List ℕ) → IsStampShape ps w → marks w ≡ marks_in ps
stamp_marks [] w h = ap marks h
stamp_marks (piece.Byte b ∷ ps) w h = ap marks h.1 ∙ (marks_on (b ∷ []) h.0 ∙ ap (λ k. marks (b ∷ []) + k) (stamp_marks ps h.0 h.2))
stamp_marks (piece.Field f ∷ ps) w h =
    let split : marks w ≡ marks h.0 + marks h.1 = ap marks h.2 ∙ marks_on h.0 h.1 in
    let digits : marks h.0 ≡ 0 = no_marks h.0 (field_digits f h.0 h.3) in
    let rest : marks h.1 ≡ marks_in ps = stamp_marks ps h.1 h.4 in
    omega (arith, split, digits, rest)

-- one more stands before a serial number
numbered_marks : (ps : List Piece) → marks_in (ps ++ number_pieces) ≡ marks_in ps + 1
numbered_marks [] = refl
numbered_marks (piece.Byte b ∷ ps) = let l : marks_in (ps ++ number_pieces) ≡ marks_in ps + 1 = numbered_marks ps in omega (arith, l)
numbered_marks (piece.Field f ∷ ps) = numbered_marks ps

middle_marks : (f : Format) (w : List ℕ) → IsMiddleShape (Some f) w → (marks w ≡ marks_in f.pieces) ⊎ (marks w ≡ marks_in f.pieces + 1)
middle_marks f w (inl h) = inl (stamp_marks f.pieces w h)
middle_marks f w (inr h) = inr (stamp_marks (f.pieces ++ number_pieces) w h.1 ∙ numbered_marks f.pieces)

-- so two stamps of a format differ by one at most
near_marks : (f : Format) (v w : List ℕ) → IsMiddleShape (Some f) v → IsMiddleShape (Some f) w → marks v ≤ marks w + 1
near_marks f v w h k = go (middle_marks f v h) (middle_marks f w k)
  where
    go : (marks v ≡ marks_in f.pieces) ⊎ (marks v ≡ marks_in f.pieces + 1) → (marks w ≡ marks_in f.pieces) ⊎ (marks w ≡ marks_in f.pieces + 1) → marks v ≤ marks w + 1
    go (inl a) (inl b) = omega (arith, a, b)
    go (inl a) (inr b) = omega (arith, a, b)
    go (inr a) (inl b) = omega (arith, a, b)
    go (inr a) (inr b) = omega (arith, a, b)

-- ---- paths

-- what stands in a directory isn't that directory
pub joined_no_dir : (dir name : List ℕ) → 0 < length name → joined dir name ≢ dir
joined_no_dir dir name some is = go (length dir == 1) refl
  where
    go : (b : Bool) → (length dir == 1) ≡ b → ⊥
    go true e =
        let lengths : length (cond true [] dir ++ 47 ∷ name) ≡ length dir = ap (λ b. length (cond b [] dir ++ 47 ∷ name)) (sym e) ∙ ap length is in
        let one : length dir ≡ 1 = eqb-true (length dir) 1 e in
        omega (arith, lengths, one, some)
    go false e =
        let lengths : length (cond false [] dir ++ 47 ∷ name) ≡ length dir = ap (λ b. length (cond b [] dir ++ 47 ∷ name)) (sym e) ∙ ap length is in
        let split : length (dir ++ 47 ∷ name) ≡ length dir + length (47 ∷ name) = length-append dir (47 ∷ name) in
        omega (arith, lengths, split)

-- the part file of what stands in a directory stands there too
pub part_joined : (dir name : List ℕ) (x : Path) → x ≡ joined dir name → part_of x ≡ joined dir (name ++ part_end)
part_joined dir name x is = ap part_of is ∙ append_assoc (cond (length dir == 1) [] dir) (47 ∷ name) part_end

module _ (log : Path) (n : Naming) (family : IsFamily log n) where
  long_name : (x : Path) → IsMember n x → IsLongName n x
  long_name x (inl m) = record {
    name = member_name n (n.start + m.1.0);
    plain = (numbered_part log n (n.start + m.1.0) family.kin m.1.1.bound).1;
    named = m.1.1.named;
    long = let l : length (member_name n (n.start + m.1.0)) ≡ length n.base + (1 + length (decimal (n.start + m.1.0))) + length n.ext = number_length n (n.start + m.1.0) in omega (arith, l);
  }
  long_name x (inr d) = record {
    name = name_of n d.0 d.1 x d.2;
    plain = plain;
    named = d.2.named;
    long = subst (λ (k : ℕ). length n.base + length n.ext < k) (ap length (ap last_of d.2.named ∙ last_joined n.dir (name_of n d.0 d.1 x d.2) plain)) (longer log n d.0 d.1 x family.kin family.format d.2);
  }
    where
      plain : list_any is_slash (name_of n d.0 d.1 x d.2) ≡ false
      plain = (name_part log n d.0 d.1 x family.kin family.format d.2).1

  module _ (member : Path) (is : IsMember n member) where
    abbrev here : IsLongName n member
    here = long_name member is

    abbrev name : List ℕ
    name = here.name

    part_is : part_of member ≡ joined n.dir (name ++ part_end)
    part_is = part_joined n.dir name member here.named

    part_plain : list_any is_slash (name ++ part_end) ≡ false
    part_plain = plain_both name part_end here.plain refl

    part_long : length (name ++ part_end) ≡ length name + 15
    part_long = length-append name part_end

    pub member_parent : parent_of member ≡ n.dir
    member_parent = ap parent_of here.named ∙ parent_joined n.dir name family.dir here.plain

    pub part_parent : parent_of (part_of member) ≡ n.dir
    part_parent = ap parent_of part_is ∙ parent_joined n.dir (name ++ part_end) family.dir part_plain

    part_last : last_of (part_of member) ≡ name ++ part_end
    part_last = ap last_of part_is ∙ last_joined n.dir (name ++ part_end) part_plain

    part_no_dir : part_of member ≢ n.dir
    part_no_dir e = joined_no_dir n.dir (name ++ part_end) (let l : length (name ++ part_end) ≡ length name + 15 = part_long in omega (arith, l)) (sym part_is ∙ e)

    pub part_no_log : (rule : Rule) → naming_of rule log ≡ n → part_of member ≢ log
    part_no_log rule naming_is e =
        let lengths : length (name ++ part_end) ≡ length (last_of log) = ap length (sym part_last ∙ ap last_of e) in
        let part : length (name ++ part_end) ≡ length name + 15 = part_long in
        let long : length n.base + length n.ext < length name = here.long in
        let short : length (last_of log) ≤ length n.base + length n.ext = log_short rule log n naming_is in
        omega (arith, lengths, part, long, short)

  -- a numbered member's name has at most ten digits, so it isn't as long
  no_number : (x y : Path) → IsNumbered n x → IsNumbered n y → part_of x ≡ y → ⊥
  unfolding long_name
  no_number x y a b same =
      let named : member_name n (n.start + a.1.0) ++ part_end ≡ member_name n (n.start + b.1.0) = sym (part_last x (inl a)) ∙ (ap last_of same ∙ (ap last_of b.1.1.named ∙ last_joined n.dir (member_name n (n.start + b.1.0)) (long_name y (inl b)).plain)) in
      let lengths : length (member_name n (n.start + a.1.0) ++ part_end) ≡ length (member_name n (n.start + b.1.0)) = ap length named in
      let part : length (member_name n (n.start + a.1.0) ++ part_end) ≡ length (member_name n (n.start + a.1.0)) + 15 = length-append (member_name n (n.start + a.1.0)) part_end in
      let own : length (member_name n (n.start + a.1.0)) ≡ length n.base + (1 + length (decimal (n.start + a.1.0))) + length n.ext = number_length n (n.start + a.1.0) in
      let other : length (member_name n (n.start + b.1.0)) ≡ length n.base + (1 + length (decimal (n.start + b.1.0))) + length n.ext = number_length n (n.start + b.1.0) in
      let bound : n.start + b.1.0 ≤ 4294967295 = b.1.1.bound in
      let digits : length (decimal (n.start + b.1.0)) ≤ 10 = length-decimal-le 10 (n.start + b.1.0) (omega arith) (omega (arith, bound)) (omega (arith, bound)) in
      omega (arith, lengths, part, own, other, digits)

  -- a dated member's has fewer bytes that are no digits
  no_date : (x y : Path) → (a : IsDated n x) (b : IsDated n y) → part_of x ≡ y → ⊥
  no_date x y (t, k, at) (u, l, by) e =
      let same : (n.base ++ at.middle ++ n.ext) ++ part_end ≡ n.base ++ by.middle ++ n.ext = joined_same n.dir ((n.base ++ at.middle ++ n.ext) ++ part_end) (n.base ++ by.middle ++ n.ext) (sym (part_joined n.dir (n.base ++ at.middle ++ n.ext) x at.named) ∙ (e ∙ by.named)) in
      let whole : marks ((n.base ++ at.middle ++ n.ext) ++ part_end) ≡ marks (n.base ++ at.middle ++ n.ext) + 15 = marks_on (n.base ++ at.middle ++ n.ext) part_end in
      let own : marks (n.base ++ at.middle ++ n.ext) ≡ marks (n.base ++ at.middle) + marks n.ext = marks_on (n.base ++ at.middle) n.ext in
      let front : marks (n.base ++ at.middle) ≡ marks n.base + marks at.middle = marks_on n.base at.middle in
      let other : marks (n.base ++ by.middle ++ n.ext) ≡ marks (n.base ++ by.middle) + marks n.ext = marks_on (n.base ++ by.middle) n.ext in
      let other_front : marks (n.base ++ by.middle) ≡ marks n.base + marks by.middle = marks_on n.base by.middle in
      let equal : marks ((n.base ++ at.middle ++ n.ext) ++ part_end) ≡ marks (n.base ++ by.middle ++ n.ext) = ap marks same in
      let near : marks by.middle ≤ marks at.middle + 1 = near_marks at.format by.middle at.middle
      (subst (λ (f : Format). IsMiddleShape (Some f) by.middle) (same_Some by.format at.format (sym by.dated ∙ at.dated)) (numbered_shape by.format u l by.middle by.is)) (numbered_shape at.format t k at.middle at.is) in
      omega (arith, whole, own, front, other, other_front, equal, near)

  pub part_no_member : (member : Path) → IsMember n member → IsNoMember n (part_of member)
  part_no_member member (inl a) (inl b) = no_number member (part_of member) a b refl
  part_no_member member (inl a) (inr b) = no_format n.dated a.0 b.2.dated
  part_no_member member (inr a) (inl b) = no_format n.dated b.0 a.2.dated
  part_no_member member (inr a) (inr b) = no_date member (part_of member) a b refl

-- no part file stands where a log waits that is set aside: their names end with other bytes
abbrev first_byte : List ℕ → ℕ
first_byte [] = 0
first_byte (b ∷ bs) = b

first_differ : (xs ys : List ℕ) → 116 ∷ xs ≡ 112 ∷ ys → ⊥
first_differ xs ys e = let same : 116 ≡ 112 = ap first_byte e in omega (arith, same)

pub part_no_waiting : (x log : Path) → part_of x ≢ aside_path log
part_no_waiting x log e = first_differ _ _ (sym (reverse-append x part_end) ∙ (ap reverse e ∙ reverse-append log (codes ".tmp")))

-- ---- the paths of a job

module _ (t : Target) (job : Job) (family : IsFamily t.log t.naming) (target : IsMember t.naming t.ready.target) (j : IsJob t job) where
  pub job_part : job.part ≡ part_of t.ready.target
  job_part = j.part_is ∙ ap part_of j.to_is

  pub job_no_member : IsNoMember t.naming job.part
  job_no_member = subst (IsNoMember t.naming) (sym job_part) (part_no_member t.log t.naming family t.ready.target target)

  pub job_no_dir : job.part ≢ job.dir
  job_no_dir e = part_no_dir t.log t.naming family t.ready.target target (sym job_part ∙ (e ∙ j.dir_is))

  -- the part file isn't where the log's file stands at first
  pub part_no_first : HasNames t → (rule : Rule) → naming_of rule t.log ≡ t.naming → job.part ≢ t.ready.log
  part_no_first h rule is e = go (first_by t h.way)
    where
      go : IsOnWay t t.ready.log → ⊥
      go (inl same) = part_no_log t.log t.naming family t.ready.target target rule is (sym job_part ∙ (e ∙ same))
      go (inr beside) = part_no_waiting t.ready.target t.log (sym job_part ∙ (e ∙ beside.1))

  pub job_paths : HasNames t → (rule : Rule) → naming_of rule t.log ≡ t.naming → ArePaths job
  job_paths h rule is = record {
    part_apart = λ e. part_no_source (source_on t h.way) (sym job_part ∙ (e ∙ j.from_is));
    to_apart = λ e. source_apart t h (subst (IsMember t.naming) (sym j.to_is ∙ (e ∙ j.from_is)) target);
    part_not_to = λ e. job_no_member (subst (IsMember t.naming) (sym (e ∙ j.to_is)) target);
    dir_is = j.dir_is ∙ sym (ap parent_of j.to_is ∙ member_parent t.log t.naming family t.ready.target target);
    part_in = ap parent_of job_part ∙ (part_parent t.log t.naming family t.ready.target target ∙ sym j.dir_is);
  }
    where
      part_no_source : IsOnWay t (source_of t) → part_of t.ready.target ≢ source_of t
      part_no_source (inl same) e = part_no_log t.log t.naming family t.ready.target target rule is (e ∙ same)
      part_no_source (inr beside) e = part_no_waiting t.ready.target t.log (e ∙ beside.1)
