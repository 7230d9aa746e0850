-- The words come to one thing alone, where no call failed.
use Rattle.std.proofs.Common.{◌≡◌, inl, inr, ◌+◌, ◌-◌, ℕ, false, List, [], ◌∷◌, ◌++◌, length, None, Ok, Err, refl, sym, ap, ◌∙◌, subst, arith}
use Rattle.lr_rules.specs.Match.{is_wildcard, literal_path}
use Rattle.lr_rules.specs.Path.{path_fault}
use Rattle.lr_host.specs.declared.entry.Entry.{Entry}
use Rattle.lr_glob.specs.declared.found.GlobStop.TheVariants as stop
use Rattle.lr_glob.specs.Words.{Comes}
use Rattle.lr_laws_looks.proofs.OneWord.{comes_one}
use Rattle.lr_host.specs.Counted.{calls_in}
use Rattle.lr_host.proofs.Counts.{calls_on}
use Rattle.lr_host.proofs.Fronts.{front_same}
use Rattle.lr_looks.specs.Asked.{AskedWord}
use Rattle.lr_looks.specs.Sights.{WordSight, found_by, sight_faults, all_sight_faults, ShowsWord, ShowWords, WordHadMemory, WordsHadMemory}
use Rattle.lr_laws_fixed.proofs.LiteralPaths.{HavePaths}
use Rattle.lr_laws_fixed.proofs.Peeled.{then_same, joined_same}

-- What two sights of a word have in common: the sight, its entries, and what comes behind.
abbrev SameSight : WordSight → WordSight → List Entry → List Entry → List Entry → List Entry → Type 0
SameSight s t ts us vs ws = (s ≡ t) × (ts ≡ us) × (vs ≡ ws)

-- where the sight wasn't cut off and no call failed, it is what the word came to
came : (w : AskedWord) (room : ℕ) (s : WordSight) (ts : List Entry) → WordHadMemory s → calls_in (sight_faults w s) ≡ 0 → ShowsWord w room s ts → Comes w.text room s ts
came w room (Ok found) ts m c h = h
came w room (Err (stop.Call kind path)) ts m c h = absurd (cc)
came w room (Err stop.LongName) ts m c h = h
came w room (Err stop.TooMany) ts m c h = h
came w room (Err stop.Memory) ts m c h = absurd m

-- two sights of one word, of which none was cut off and no call failed, are one
sight_one : (w : AskedWord) (room : ℕ) (s t : WordSight) (ts us vs ws : List Entry) → (is_wildcard w.text ≡ false → path_fault (literal_path w.text) ≡ None) → WordHadMemory s → WordHadMemory t → calls_in (sight_faults w s) ≡ 0 → calls_in (sight_faults w t) ≡ 0
    → ShowsWord w room s ts → ShowsWord w room t us → ts ++ vs ≡ us ++ ws → SameSight s t ts us vs ws
sight_one w room s t ts us vs ws valid m n c d h g e = comes_one w.text room s t ts us vs ws valid (came w room s ts m c h) (came w room t us n d g) e

-- no call failed at the first
no_call_first : (w : AskedWord) (words : List AskedWord) (s : WordSight) (ss : List WordSight) → calls_in (all_sight_faults (w ∷ words) (s ∷ ss)) ≡ 0 → calls_in (sight_faults w s) ≡ 0
no_call_first w words s ss e = let a = calls_on (sight_faults w s) (all_sight_faults words ss) in omega (arith, a, e)

-- nor at the others
no_call_rest : (w : AskedWord) (words : List AskedWord) (s : WordSight) (ss : List WordSight) → calls_in (all_sight_faults (w ∷ words) (s ∷ ss)) ≡ 0 → calls_in (all_sight_faults words ss) ≡ 0
no_call_rest w words s ss e = let a = calls_on (sight_faults w s) (all_sight_faults words ss) in omega (arith, a, e)

-- What two sights of the same words have in common.
pub record OneWords (ss ts : List WordSight) (xs ys vs ws : List Entry) : Type 0 where
  pub sights_are : ss ≡ ts
  pub looks_are : xs ≡ ys
  pub rest_is : vs ≡ ws

pub words_one : (before : ℕ) (words : List AskedWord) (ss ts : List WordSight) (xs ys vs ws : List Entry) → HavePaths words → WordsHadMemory ss → WordsHadMemory ts → calls_in (all_sight_faults words ss) ≡ 0 → calls_in (all_sight_faults words ts) ≡ 0 → ShowWords before words ss xs → ShowWords before words ts ys → xs ++ vs ≡ ys ++ ws → OneWords ss ts xs ys vs ws
words_one before [] [] [] xs ys vs ws f m n c d h g e = record { sights_are = refl; looks_are = h ∙ sym g; rest_is = front_same xs ys [] [] vs ws h g e }
words_one before [] [] (t ∷ ts) xs ys vs ws f m n c d h g e = absurd g
words_one before [] (s ∷ ss) ts xs ys vs ws f m n c d h g e = absurd h
words_one before (w ∷ words) [] ts xs ys vs ws f m n c d h g e = absurd h
words_one before (w ∷ words) (s ∷ ss) [] xs ys vs ws f m n c d h g e = absurd g
words_one before (w ∷ words) (s ∷ ss) (t ∷ ts) xs ys vs ws f m n c d h g e =
    let one = sight_one w (16_384 - before) s t h.front g.front (h.back ++ vs) (g.back ++ ws) (f w (inl refl)) m.0 n.0 (no_call_first w words s ss c) (no_call_first w words t ts d) h.first g.first (then_same xs ys vs ws h g e) in
    let r = words_one (before + length (found_by w s)) words ss ts h.back g.back vs ws (λ v i. f v (inr i)) m.1 n.1 (no_call_rest w words s ss c) (no_call_rest w words t ts d) h.second
    (subst (λ (u : WordSight). ShowWords (before + length (found_by w u)) words ts g.back) (sym one.0) g.second) one.2 in
    record { sights_are = ap (λ x. x ∷ ss) one.0 ∙ ap (λ qs. t ∷ qs) r.sights_are; looks_are = joined_same xs ys h g one.1 r.looks_are; rest_is = r.rest_is }
