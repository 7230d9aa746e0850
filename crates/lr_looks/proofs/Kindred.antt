-- A log and the naming that a rule within its limits gives it make a family.
use Rattle.std.proofs.Common.{◌≡◌, ◌≤◌, ◌+◌, ◌-◌, ℕ, zero, suc, Bool, true, false, not, cond, ◌&&◌, List, [], ◌∷◌, ◌++◌, length, take, drop, min, None, Option, Some, refl, ap, ◌∙◌, arith, nat_lt}
use Rattle.std.specs.Prelude.{decimal, filter, nat_le}
use Rattle.std.specs.List.{list_any, list_all, slice_split, onto_first}
use Rattle.std.proofs.lemmas.List.Concat.{flat_map-append}
use Rattle.std.proofs.lemmas.List.{length-take, length-append}
use Rattle.std.specs.Str.{is_utf8}
use Rattle.std.proofs.lemmas.Bool.{and_parts, or_from, or_parts, not-true, leb-true}
use Rattle.lr_rules.specs.declared.path.PathFault.{PathFault}
use Rattle.lr_rules.specs.declared.path.PathFault.TheVariants as fault
use Rattle.lr_rules.specs.declared.path.Path.{Path}
use Rattle.lr_rules.specs.declared.rule.Naming.{Naming}
use Rattle.lr_rules.specs.declared.rule.Rule.{Rule}
use Rattle.lr_rules.specs.Limits.{is_log_word, is_criterion, is_count, is_small, is_size, is_make, is_extension, is_olddir, is_path_text, is_address, is_format, or_none, meets_limits}
use Rattle.lr_rules.specs.Names.{IsMemberAt, is_step, word_parts, path_by, path_from, naming_of, family_dir, ext_of, ends_with, base_of}
use Rattle.lr_rules.specs.Path.{path_fault, parent_of, last_of, last_start_of, is_absolute, is_bad_byte, is_slash, has_bad_byte}
use Rattle.lr_rules.proofs.Digits.{decimal_plain}
use Rattle.lr_rules.proofs.PathLemmas.{last_joined, last_plain, plain_both}
use Rattle.lr_family.specs.Kin.{IsKin, is_barred}
use Rattle.lr_host.specs.declared.thing.Seen.{Seen}
use Rattle.lr_rules.specs.Match.{is_wildcard}
use Rattle.lr_rules.proofs.FromWord.{slashed}
use Rattle.lr_glob.specs.declared.found.Found.{Found as Match}
use Rattle.lr_family.proofs.Paths.{unbarred}
use Rattle.lr_looks.specs.declared.found.Found.{Found}
use Rattle.lr_looks.specs.Asked.{word_of}
use Rattle.lr_looks.specs.Found.{FoundLog, found_in}
use Rattle.lr_looks.specs.Sights.{found_at}

no_bad : (bs : List ℕ) → path_fault bs ≡ None → has_bad_byte bs ≡ false
unfolding path_fault
no_bad bs h = go (is_utf8 bs) (has_bad_byte bs) _ h
  where
    go : (u b : Bool) (rest : Option PathFault) → cond (not u) (Some fault.NotUtf8) (cond b (Some fault.BadByte) rest) ≡ None → b ≡ false
    go false b rest e = absurd (cc)
    go true true rest e = absurd (cc)
    go true false rest e = refl

drop_clean : (f : ℕ → Bool) (k : ℕ) (xs : List ℕ) → list_any f xs ≡ false → list_any f (drop k xs) ≡ false
drop_clean f zero xs h = h
drop_clean f (suc k) [] h = refl
drop_clean f (suc k) (x ∷ xs) h = drop_clean f k xs (or_parts (f x) (list_any f xs) h).1

none_barred : (xs : List ℕ) → list_any is_slash xs ≡ false → list_any is_bad_byte xs ≡ false → list_any is_barred xs ≡ false
none_barred [] s b = refl
none_barred (x ∷ xs) s b =
    let p = or_parts (is_slash x) (list_any is_slash xs) s in
    let q = or_parts (is_bad_byte x) (list_any is_bad_byte xs) b in
    or_from (is_barred x) (list_any is_barred xs) (or_from (is_slash x) (is_bad_byte x) p.0 q.0) (none_barred xs p.1 q.1)

take_within : (k : ℕ) (xs : List ℕ) → length (take k xs) ≤ length xs
take_within k xs = let e : length (take k xs) ≡ min k (length xs) = length-take k xs in omega (arith, e)

parent_within : (log : List ℕ) → length (parent_of log) ≤ length log
parent_within log = go (nat_lt 1 (last_start_of log))
  where
    go : (b : Bool) → length (cond b (take (last_start_of log - 1) log) (take (last_start_of log) log)) ≤ length log
    go true = take_within (last_start_of log - 1) log
    go false = take_within (last_start_of log) log

-- ---- the limits of a rule

abbrev BehindStart : Rule → Bool
BehindStart r = is_small r.start && (or_none is_extension r.extension && (or_none is_extension r.addextension && (or_none is_olddir r.olddir
    && (is_make r.createolddir && (is_make r.create && (or_none is_address r.mail && or_none is_format r.dated))))))

behind_start : (r : Rule) → meets_limits r ≡ true → BehindStart r ≡ true
behind_start r h =
    let a = (and_parts (list_all is_log_word r.words) _ h).1 in
    let b = (and_parts (is_criterion r.criterion) _ a).1 in
    let c = (and_parts (is_count r.count) _ b).1 in
    let d = (and_parts (or_none is_small r.maxage) _ c).1 in
    let e = (and_parts (or_none is_small r.minage) _ d).1 in
    let f = (and_parts (or_none is_size r.minsize) _ e).1 in
    (and_parts (or_none is_size r.maxsize) _ f).1

pub start_fine : (r : Rule) → meets_limits r ≡ true → r.start ≤ 999999
start_fine r h = leb-true r.start 999999 (and_parts (is_small r.start) _ (behind_start r h)).0

extension_fine : (r : Rule) → meets_limits r ≡ true → or_none is_extension r.extension ≡ true
extension_fine r h = (and_parts (or_none is_extension r.extension) _ (and_parts (is_small r.start) _ (behind_start r h)).1).0

behind_extension : (r : Rule) → meets_limits r ≡ true → (or_none is_extension r.addextension && (or_none is_olddir r.olddir && (is_make r.createolddir && (is_make r.create && (or_none is_address r.mail && or_none is_format r.dated))))) ≡ true
behind_extension r h = (and_parts (or_none is_extension r.extension) _ (and_parts (is_small r.start) _ (behind_start r h)).1).1

addextension_fine : (r : Rule) → meets_limits r ≡ true → or_none is_extension r.addextension ≡ true
addextension_fine r h = (and_parts (or_none is_extension r.addextension) _ (behind_extension r h)).0

olddir_fine : (r : Rule) → meets_limits r ≡ true → or_none is_olddir r.olddir ≡ true
olddir_fine r h = (and_parts (or_none is_olddir r.olddir) _ (and_parts (or_none is_extension r.addextension) _ (behind_extension r h)).1).0

pub format_fine : (r : Rule) → meets_limits r ≡ true → or_none is_format r.dated ≡ true
format_fine r h =
    let a = (and_parts (or_none is_extension r.addextension) _ (behind_extension r h)).1 in
    let b = (and_parts (or_none is_olddir r.olddir) _ a).1 in
    let c = (and_parts (is_make r.createolddir) _ b).1 in
    let d = (and_parts (is_make r.create) _ c).1 in
    (and_parts (or_none is_address r.mail) _ d).1

-- ---- the directory

onto_more : (b : ℕ) (ps : List (List ℕ)) (n : ℕ) → length (slashed ps) ≡ n + 1 → length (slashed (onto_first b ps)) ≡ suc n + 1
onto_more b [] n h = absurd (omega (arith, h))
onto_more b (p ∷ ps) n h = omega (arith, h)

-- the parts of a word, each behind a slash, have a byte more than the word
split_length : (bs : List ℕ) → length (slashed (slice_split is_slash bs)) ≡ length bs + 1
split_length [] = refl
split_length (b ∷ bs) = go (is_slash b) (split_length bs)
  where
    go : (s : Bool) → length (slashed (slice_split is_slash bs)) ≡ length bs + 1 → length (slashed (cond s ([] ∷ slice_split is_slash bs) (onto_first b (slice_split is_slash bs)))) ≡ suc (length bs) + 1
    go true h = omega (arith, h)
    go false h = onto_more b (slice_split is_slash bs) (length bs) h

filter_within : (ps : List (List ℕ)) → length (slashed (filter is_step ps)) ≤ length (slashed ps)
filter_within [] = omega arith
filter_within (p ∷ ps) = go (is_step p) (filter_within ps)
  where
    more : length (slashed (p ∷ ps)) ≡ length (47 ∷ p) + length (slashed ps)
    more = length-append (47 ∷ p) (slashed ps)

    go : (b : Bool) → length (slashed (filter is_step ps)) ≤ length (slashed ps) → length (slashed (cond b (p ∷ filter is_step ps) (filter is_step ps))) ≤ length (slashed (p ∷ ps))
    go true h = let kept : length (slashed (p ∷ filter is_step ps)) ≡ length (47 ∷ p) + length (slashed (filter is_step ps)) = length-append (47 ∷ p) (slashed (filter is_step ps)) in omega (arith, h, more, kept)
    go false h = omega (arith, h, more)

steps_within : (word : List ℕ) → length (slashed (word_parts word)) ≤ length word + 1
steps_within word = let a = filter_within (slice_split is_slash word) in let b = split_length word in omega (arith, a, b)

by_within : (parts : List (List ℕ)) → length (path_by parts) ≤ length (slashed parts) + 1
by_within [] = omega arith
by_within (p ∷ ps) = omega arith

-- a path by a word from a directory on
from_within : (here word : List ℕ) → length (path_from here word) ≤ length here + length word + 3
from_within here word = go (is_absolute word)
  where
    a : length (slashed (word_parts word)) ≤ length word + 1
    a = steps_within word

    h : length (slashed (word_parts here)) ≤ length here + 1
    h = steps_within here

    both : length (slashed (word_parts here ++ word_parts word)) ≡ length (slashed (word_parts here)) + length (slashed (word_parts word))
    both = ap length (flat_map-append (λ name. 47 ∷ name) (word_parts here) (word_parts word)) ∙ length-append (slashed (word_parts here)) (slashed (word_parts word))

    go : (b : Bool) → length (cond b (path_by (word_parts word)) (path_by (word_parts here ++ word_parts word))) ≤ length here + length word + 3
    go true = let c = by_within (word_parts word) in omega (arith, a, c)
    go false = let c = by_within (word_parts here ++ word_parts word) in omega (arith, a, h, both, c)

dir_within : (log : List ℕ) (o : Option (List ℕ)) → length log ≤ 2048 → or_none is_olddir o ≡ true → length (family_dir (parent_of log) o) ≤ 2600
dir_within log None short h = let w = parent_within log in omega (arith, w, short)
dir_within log (Some word) short h =
    let w = parent_within log in
    let f = from_within (parent_of log) word in
    let l : length word ≤ 512 = leb-true (length word) 512 (and_parts (is_path_text (path_from (47 ∷ []) word)) (nat_le (length word) 512) h).1 in
    omega (arith, w, f, short, l)

-- ---- base and extension

-- An extension is short, and has no byte that names haven't.
record IsPlainEnd (ext : List ℕ) : Type 0 where
  short : length ext ≤ 128
  clean : list_any is_barred ext ≡ false

none_end : IsPlainEnd []
none_end = record { short = omega arith; clean = refl }

end_plain : (ext : List ℕ) → is_extension ext ≡ true → IsPlainEnd ext
end_plain ext h =
    let one = (and_parts (nat_le 1 (length ext)) _ h).1 in
    let two = and_parts (nat_le (length ext) 128) _ one in
    let three = and_parts (not (list_any is_slash ext)) _ two.1 in
    let four = and_parts (not (has_bad_byte ext)) _ three.1 in
    record { short = leb-true (length ext) 128 two.0; clean = none_barred ext (not-true (list_any is_slash ext) three.0) (not-true (list_any is_bad_byte ext) four.0) }

own_end : (ext name : List ℕ) → IsPlainEnd ext → IsPlainEnd (cond (ends_with ext name) ext [])
own_end ext name h = go (ends_with ext name)
  where
    go : (b : Bool) → IsPlainEnd (cond b ext [])
    go true = h
    go false = none_end

ext_plain : (added extension : Option (List ℕ)) (name : List ℕ) → or_none is_extension added ≡ true → or_none is_extension extension ≡ true → IsPlainEnd (ext_of added extension name)
ext_plain (Some ext) extension name a e = end_plain ext a
ext_plain None (Some ext) name a e = own_end ext name (end_plain ext e)
ext_plain None None name a e = none_end

take_clean : (f : ℕ → Bool) (k : ℕ) (xs : List ℕ) → list_any f xs ≡ false → list_any f (take k xs) ≡ false
take_clean f zero xs h = refl
take_clean f (suc k) [] h = refl
take_clean f (suc k) (x ∷ xs) h = let p = or_parts (f x) (list_any f xs) h in or_from (f x) (list_any f (take k xs)) p.0 (take_clean f k xs p.1)

-- The base is the name, or what stands before the extension at its end.
record IsBase (base ext name : List ℕ) : Type 0 where
  within : length base ≤ length name
  all : length name ≤ length base + length ext
  clean : list_any is_barred base ≡ false

base_is : (ext name : List ℕ) → list_any is_barred name ≡ false → IsBase (base_of ext name) ext name
base_is ext name h = go (ends_with ext name)
  where
    cut : length (take (length name - length ext) name) ≡ min (length name - length ext) (length name)
    cut = length-take (length name - length ext) name

    go : (b : Bool) → IsBase (cond b (take (length name - length ext) name) name) ext name
    go true = record { within = omega (arith, cut); all = omega (arith, cut); clean = take_clean is_barred (length name - length ext) name h }
    go false = record { within = omega arith; all = omega arith; clean = h }

-- ---- no member is the log

-- its name is longer than the log's
apart : (n : Naming) (log : List ℕ) (place : ℕ) → IsPlainEnd n.ext → IsBase n.base n.ext (last_of log) → IsMemberAt n place log → ⊥
apart n log place e b m = longer same
  where
    number : ℕ
    number = n.start + place

    plain : list_any is_slash (n.base ++ 46 ∷ decimal number ++ n.ext) ≡ false
    plain = let bound : number ≤ 4294967295 = m.bound in
        plain_both (n.base ++ 46 ∷ decimal number) n.ext (plain_both n.base (46 ∷ decimal number) (unbarred n.base b.clean) (decimal_plain number (omega (arith, bound)))) (unbarred n.ext e.clean)

    same : last_of log ≡ n.base ++ 46 ∷ decimal number ++ n.ext
    same = ap (λ (x : List ℕ). last_of x) m.named ∙ last_joined n.dir (n.base ++ 46 ∷ decimal number ++ n.ext) plain

    longer : last_of log ≡ n.base ++ 46 ∷ decimal number ++ n.ext → ⊥
    longer is =
        let l : length (last_of log) ≡ length (n.base ++ 46 ∷ decimal number) + length n.ext = ap length is ∙ length-append (n.base ++ 46 ∷ decimal number) n.ext in
        let k : length (n.base ++ 46 ∷ decimal number) ≡ length n.base + length (46 ∷ decimal number) = length-append n.base (46 ∷ decimal number) in
        let j : length (last_of log) ≤ length n.base + length n.ext = b.all in
        absurd (omega (arith, l, k, j))

-- ---- the naming that a rule within its limits gives a log

pub kin_of : (rule : Rule) (log : List ℕ) → meets_limits rule ≡ true → path_fault log ≡ None → length log ≤ 2048 → length (last_of log) ≤ 255 → IsKin log (naming_of rule log)
kin_of rule log limits p a b = record {
  dir = dir_within log rule.olddir a (olddir_fine rule limits);
  size = let x = ext.short in let y = base.within in omega (arith, x, y, b);
  base = base.clean;
  ext = ext.clean;
  apart = λ numbered place m. apart (naming_of rule log) log place ext base m;
}
  where
    name : List ℕ
    name = last_of log

    clean : list_any is_barred (last_of log) ≡ false
    clean = none_barred (last_of log) (last_plain log p) (drop_clean is_bad_byte (last_start_of log) log (no_bad log p))

    ext : IsPlainEnd (ext_of rule.addextension rule.extension (last_of log))
    ext = ext_plain rule.addextension rule.extension (last_of log) (addextension_fine rule limits) (extension_fine rule limits)

    base : IsBase (base_of (ext_of rule.addextension rule.extension (last_of log)) (last_of log)) (ext_of rule.addextension rule.extension (last_of log)) (last_of log)
    base = base_is (ext_of rule.addextension rule.extension (last_of log)) (last_of log) clean

-- a log as the code makes it of a match is the one that the word gives
pub found_same : (set : ℕ) (rule : Rule) (word : List ℕ) (at : Match) (f : Found) → f.set ≡ set → f.family.log ≡ at.path → f.family.naming ≡ naming_of rule at.path → f.ignore_duplicates ≡ rule.ignore_duplicates → f.wild ≡ is_wildcard word → f.seen ≡ at.seen
    → found_in f ≡ found_at (word_of set rule word) at
found_same set rule word at f a b c d e g =
    ap (λ n. made n f.family.log f.family.naming f.ignore_duplicates f.wild f.seen) a
    ∙ (ap (λ (p : Path). made set p f.family.naming f.ignore_duplicates f.wild f.seen) b
    ∙ (ap (λ (n : Naming). made set at.path n f.ignore_duplicates f.wild f.seen) c
    ∙ (ap (λ x. made set at.path (naming_of rule at.path) x f.wild f.seen) d
    ∙ (ap (λ x. made set at.path (naming_of rule at.path) rule.ignore_duplicates x f.seen) e
    ∙ ap (λ (s : Seen). made set at.path (naming_of rule at.path) rule.ignore_duplicates (is_wildcard word) s) g))))
  where
    made : ℕ → Path → Naming → Bool → Bool → Seen → FoundLog
    made n p m i w s = record { log = record { set = n; path = p; naming = m; ignore = i; wild = w }; seen = s }
