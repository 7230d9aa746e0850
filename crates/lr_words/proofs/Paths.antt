-- What names a path is a path.
use Rattle.std.proofs.Common.{◌≡◌, ℕ, Bool, true, false, cond, not, ◌&&◌, List, [], ◌++◌, Option, Some, None, is_none, nat_lt, length, refl, ap}
use Rattle.std.specs.Str.{is_utf8}
use Rattle.std.proofs.lemmas.Bool.{and_parts}
use Rattle.lr_rules.specs.declared.path.PathFault.{PathFault}
use Rattle.lr_rules.specs.declared.path.PathFault.TheVariants as fault
use Rattle.lr_rules.specs.Limits.{is_path_text}
use Rattle.lr_rules.specs.Path.{path_fault, word_fault, is_absolute, is_empty, has_bad_byte, has_empty_part, has_dot_part, kept_parts, or_root, cleaned, root}
use Rattle.lr_words.specs.Names.{names_path}

-- a path has none of the faults of its text
pub path_text : (bytes : List ℕ) → path_fault bytes ≡ None → is_path_text bytes ≡ true
unfolding path_fault
path_text bytes h = by (is_utf8 bytes) (has_bad_byte bytes) (nat_lt 4096 (length bytes)) (is_absolute bytes) (has_empty_part bytes) (has_dot_part bytes) h
  where
    by : (utf8 bad long absolute empty dot : Bool)
        → cond (not utf8) (Some fault.NotUtf8) (cond bad (Some fault.BadByte) (cond long (Some fault.TooLong) (cond (not absolute) (Some fault.Relative) (cond empty (Some fault.EmptyPart) (cond dot (Some fault.DotPart) None))))) ≡ None
        → (not bad && (absolute && (not empty && not dot))) ≡ true
    by false bad long absolute empty dot h = absurd (cc)
    by true true long absolute empty dot h = absurd (cc)
    by true false true absolute empty dot h = absurd (cc)
    by true false false false empty dot h = absurd (cc)
    by true false false true true dot h = absurd (cc)
    by true false false true false true h = absurd (cc)
    by true false false true false false h = refl

none_of : (b : Bool) (o : Option PathFault) → is_none (cond b (Some fault.Relative) o) ≡ true → o ≡ None
none_of true o h = absurd (cc)
none_of false None h = refl
none_of false (Some f) h = absurd (cc)

-- the path of an absolute word is made of its parts
pub cleaned_parts : (word : List ℕ) → is_absolute word ≡ true → cleaned root word ≡ or_root (kept_parts word)
cleaned_parts word absolute = ap (λ c. or_root (cond c [] (kept_parts root) ++ kept_parts word)) absolute

pub absolute : (word : List ℕ) → names_path word ≡ true → is_absolute word ≡ true
absolute word h = (and_parts (is_absolute word) (is_none (word_fault root word)) h).0

-- what an absolute word names is a path
pub is_path : (word : List ℕ) → names_path word ≡ true → path_fault (cleaned root word) ≡ None
is_path word h = none_of (is_empty word) (path_fault (cleaned root word)) (and_parts (is_absolute word) (is_none (word_fault root word)) h).1
