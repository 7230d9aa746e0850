-- Signs that are taken one by one give the words.
use Rattle.std.proofs.Common.{◌≡◌, ◌≢◌, ℕ, ◌+◌, Bool, true, false, cond, not, List, [], ◌∷◌, ◌++◌, refl, ap, sym, ◌∙◌, append_assoc, append-nil, add_assoc}
use Rattle.lr_lex.specs.declared.word.Word.{Word}
use Rattle.lr_lex.specs.declared.sign.Sign.{Sign}
use Rattle.lr_lex.specs.declared.sign.Sign.TheVariants.{Blank, Mark, Plain, Quoted}
use Rattle.lr_lex.specs.declared.scan.Scan.{Scan}
use Rattle.lr_lex.specs.Words.{words, onto, joined_words, one, goes_on, is_gap, sign_text}
use Rattle.lr_lex.specs.Scanning.{ahead, to_come, draft, draft_bytes, with_draft, extended, behind_sign, Extends}

-- ---- parts of a state: words, whether a word is being read, and the word

abbrev pub so_far : List Word → Bool → Word → ℕ → List Sign → List Word
so_far ws inside w at ss = ws ++ ahead inside w at ss

-- at a sign that doesn't go on with the word
stops : (ws : List Word) (inside : Bool) (w : Word) (at : ℕ) (ss : List Sign) → goes_on ss ≡ false → so_far ws inside w at ss ≡ with_draft inside ws w ++ words at ss
stops ws false w at ss stop = refl
stops ws true w at ss stop =
    ap (λ b. ws ++ (cond b (onto w (words at ss)) (w ∷ words at ss))) stop ∙ sym (append_assoc ws (w ∷ []) (words at ss))

-- a sign that goes on with a word
plain-one : (at : ℕ) (s : Sign) (ss : List Sign) → is_gap s ≡ false → words at (s ∷ ss) ≡ ahead true (one at s) (at + 1) ss
plain-one at s ss gap =
    ap (λ g. cond g (words (at + 1) ss) (cond (goes_on ss) (onto (one at s) (words (at + 1) ss)) (one at s ∷ words (at + 1) ss))) gap

onto-onto : (w v : Word) (us : List Word) → onto w (onto v us) ≡ onto (joined_words w v) us
onto-onto w v [] = refl
onto-onto w v (u ∷ us) =
    ap (λ t. record { text = t; at = w.at; len = w.len + (v.len + u.len) } ∷ us) (sym (append_assoc w.text v.text u.text))
    ∙ ap (λ n. record { text = (w.text ++ v.text) ++ u.text; at = w.at; len = n } ∷ us) (sym (add_assoc w.len v.len u.len))

onto-ahead : (w v : Word) (at : ℕ) (ss : List Sign) → onto w (ahead true v at ss) ≡ ahead true (joined_words w v) at ss
onto-ahead w v at ss = by_test (goes_on ss)
  where
    by_test : (b : Bool) → onto w (cond b (onto v (words at ss)) (v ∷ words at ss)) ≡ cond b (onto (joined_words w v) (words at ss)) (joined_words w v ∷ words at ss)
    by_test true = onto-onto w v (words at ss)
    by_test false = refl

plain-law : (ws : List Word) (inside : Bool) (w : Word) (at : ℕ) (s : Sign) (ss : List Sign) → is_gap s ≡ false
    → so_far ws inside w at (s ∷ ss) ≡ so_far ws true (extended inside w (one at s)) (at + 1) ss
plain-law ws false w at s ss gap = ap (λ x. ws ++ x) (plain-one at s ss gap)
plain-law ws true w at s ss gap =
    ap (λ g. ws ++ (cond (not g) (onto w (words at (s ∷ ss))) (w ∷ words at (s ∷ ss)))) gap
    ∙ ap (λ x. ws ++ onto w x) (plain-one at s ss gap)
    ∙ ap (λ x. ws ++ x) (onto-ahead w (one at s) (at + 1) ss)

-- ---- the same of states

come-is : (s : Scan) (ws : List Word) (inside : Bool) (w : Word) (at : ℕ) (ss : List Sign) → s.words ≡ ws → s.inside ≡ inside → draft s ≡ w → to_come s at ss ≡ so_far ws inside w at ss
come-is s ws inside w at ss a b c =
    ap (λ x. so_far x s.inside (draft s) at ss) a ∙ ap (λ x. so_far ws x (draft s) at ss) b ∙ ap (λ x. so_far ws inside x at ss) c

pub at_ink : (old new : Scan) (at : ℕ) (s : Sign) → is_gap s ≡ false → Extends old new at s → (ss : List Sign) → to_come old at (s ∷ ss) ≡ to_come new (at + 1) ss
at_ink old new at s gap e ss = plain-law old.words old.inside (draft old) at s ss gap ∙ sym (come-is new _ true _ (at + 1) ss e.words e.inside e.word)

pub not_gap : (s : Sign) → s ≢ Blank → is_gap s ≡ false
not_gap Blank other = absurd (other refl)
not_gap Mark other = refl
not_gap (Plain b) other = refl
not_gap (Quoted b) other = refl

-- a scan that has taken nothing
pub fresh : (s : Scan) (at : ℕ) (ss : List Sign) → s.words ≡ [] → s.inside ≡ false → to_come s at ss ≡ words at ss
fresh s at ss a b = come-is s [] false (draft s) at ss a b refl

-- ---- the bytes of the word that is being read

pub no_bytes : (s : Scan) → s.inside ≡ false → draft_bytes s ≡ []
no_bytes s e = ap (λ b. cond b s.bytes.items []) e

more-text : (inside : Bool) (w : Word) (at : ℕ) (s : Sign) → (extended inside w (one at s)).text ≡ cond inside w.text [] ++ sign_text s
more-text true w at s = refl
more-text false w at s = refl

behind-ink : (bytes : List ℕ) (s : Sign) → is_gap s ≡ false → bytes ++ sign_text s ≡ behind_sign bytes s
behind-ink bytes Blank gap = absurd (cc)
behind-ink bytes Mark gap = refl
behind-ink bytes (Plain b) gap = refl
behind-ink bytes (Quoted b) gap = refl

pub bytes_at_ink : (old new : Scan) (at : ℕ) (s : Sign) → is_gap s ≡ false → Extends old new at s → draft_bytes new ≡ behind_sign (draft_bytes old) s
bytes_at_ink old new at s gap e =
    ap (λ b. cond b new.bytes.items []) e.inside
    ∙ ap (λ w. w.text) e.word
    ∙ more-text old.inside (draft old) at s
    ∙ behind-ink (draft_bytes old) s gap

-- behind the last sign
pub at_end : (s : Scan) (at : ℕ) → with_draft s.inside s.words (draft s) ≡ to_come s at []
at_end s at = sym (append-nil (with_draft s.inside s.words (draft s))) ∙ sym (stops s.words s.inside (draft s) at [] refl)
