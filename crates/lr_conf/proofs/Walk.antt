-- What holds of each rule, whichever lines come, where it follows from what holds of each line.
use Rattle.std.proofs.Common.{◌≡◌, ℕ, Bool, true, false, cond, List, [], ◌∷◌, ◌++◌, reverse, Option, Some, None, refl, subst, sym}
use Rattle.std.specs.List.{AllByRecursion as Each, filter_map, flat_map, list_any, find}
use Rattle.lr_lex.specs.declared.item.Item.{Item}
use Rattle.lr_rules.specs.declared.path.Path.{Path}
use Rattle.lr_rules.specs.declared.fault.Phase.{Phase}
use Rattle.lr_rules.specs.declared.rule.Rule.{Rule}
use Rattle.lr_forms.specs.declared.set.Set.{Set}
use Rattle.lr_forms.specs.declared.said.LineSaid.{LineSaid}
use Rattle.lr_forms.specs.declared.said.LineSaid.TheVariants as says
use Rattle.lr_forms.specs.Says.{item_says}
use Rattle.lr_conf.specs.Fields.{fields_of, last_set}
use Rattle.lr_conf.specs.Rules.{rule_of}
use Rattle.lr_conf.specs.Scripts.{script_fault}
use Rattle.lr_conf.specs.Meaning.{ConfLine, Read, Spoiled, End, Cut, OutsideLine, stands, spoiled, file_ends, breaks_off, Meaning, nothing, only_faults, set_of, set_past, settings, names_past, settles, pending, first_line, words_pending, first_pending, words_with, opened_at, opens_definition, outside_line, before, behind, ends, scripts_in, script_sets, said_behind, within, body_of, drops, set_in, broken_fault, of_end, of_body, of_opening, meaning}
use Rattle.lr_conf.proofs.Each.{append, backwards, front, Given, one_more, mapped, last}

-- what a line sets, and the names that it has, are such
abbrev pub OkSaid : (Set → Type 0) → (List (List ℕ) → Type 0) → LineSaid → Type 0
OkSaid S N (says.Sets v) = S v
OkSaid S N (says.OwnerPassed v) = S v
OkSaid S N (says.Names ws) = N ws
OkSaid S N s = Unit {0}

-- so is what each line says, and then a rule is such
pub record Walk (S : Set → Type 0) (N : List (List ℕ) → Type 0) (R : Rule → Type 0) : Type 0 where
  pub line : (inside : Bool) (i : Item) → OkSaid S N (item_says inside i)
  pub script : (earlier : List Phase) (p : Phase) (text : List ℕ) (stray : Bool) → OkSaid S N (script_sets (script_fault earlier p stray) p text)
  pub more : (xs ys : List (List ℕ)) → N xs → N ys → N (xs ++ ys)
  pub rule : (file : Path) (at : ℕ) (words : List (List ℕ)) (vs : List Set) → N words → Each S vs → R (rule_of file at words (fields_of vs))

-- ---- lines

abbrev OkPast : (Set → Type 0) → (List (List ℕ) → Type 0) → OutsideLine → Type 0
OkPast S N (stands at brace v) = OkSaid S N v
OkPast S N p = Unit {0}

past_ok : {S : Set → Type 0} {N : List (List ℕ) → Type 0} {R : Rule → Type 0} (w : Walk S N R) (e : ConfLine) → OkPast S N (outside_line e)
past_ok w (Read file i) = w.line false i
past_ok w (Spoiled f) = tt
past_ok w (End file) = tt
past_ok w Cut = tt

set_ok : (S : Set → Type 0) (N : List (List ℕ) → Type 0) (v : LineSaid) → OkSaid S N v → Given S (set_of v)
set_ok S N (says.Sets v) ok = ok
set_ok S N (says.OwnerPassed v) ok = ok
set_ok S N v ok = tt

set_past_ok : (S : Set → Type 0) (N : List (List ℕ) → Type 0) (p : OutsideLine) → OkPast S N p → Given S (set_past p)
set_past_ok S N (stands at brace v) ok = set_ok S N v ok
set_past_ok S N (spoiled f) ok = tt
set_past_ok S N file_ends ok = tt
set_past_ok S N breaks_off ok = tt

behind_ok : {S : Set → Type 0} {N : List (List ℕ) → Type 0} {R : Rule → Type 0} (w : Walk S N R) (earlier : List Phase) (v : LineSaid) → OkSaid S N v → OkSaid S N (said_behind earlier v)
behind_ok w earlier (says.Script p text stray) ok = w.script earlier p text stray
behind_ok w earlier v ok = ok

set_in_ok : {S : Set → Type 0} {N : List (List ℕ) → Type 0} {R : Rule → Type 0} (w : Walk S N R) (earlier : List ConfLine) (e : ConfLine) → Given S (set_in (within earlier e))
set_in_ok {S} {N} w earlier (Read file i) = set_ok S N (said_behind (scripts_in earlier) (item_says true i)) (behind_ok w (scripts_in earlier) (item_says true i) (w.line true i))
set_in_ok w earlier (Spoiled f) = tt
set_in_ok w earlier (End file) = tt
set_in_ok w earlier Cut = tt

body_ok : {S : Set → Type 0} {N : List (List ℕ) → Type 0} {R : Rule → Type 0} (w : Walk S N R) (earlier es : List ConfLine) → Each S (filter_map set_in (body_of earlier es))
body_ok w earlier [] = tt
body_ok {S} w earlier (e ∷ es) = one_more S (set_in (within earlier e)) (filter_map set_in (body_of (earlier ++ e ∷ []) es)) (set_in_ok w earlier e) (body_ok w (earlier ++ e ∷ []) es)

-- ---- names

abbrev OkNames : (List (List ℕ) → Type 0) → (ℕ × List (List ℕ)) → Type 0
OkNames N n = N n.1

names_past_ok : (S : Set → Type 0) (N : List (List ℕ) → Type 0) (p : OutsideLine) → OkPast S N p → Given (OkNames N) (names_past p)
names_past_ok S N (stands at brace (says.Names ws)) ok = ok
names_past_ok S N p ok = tt

pending_ok : (S : Set → Type 0) (N : List (List ℕ) → Type 0) (out : List OutsideLine) → Each (OkPast S N) out → Each (OkNames N) (pending out)
pending_ok S N out ok =
    mapped (OkPast S N) (OkNames N) names_past (names_past_ok S N) (reverse (before settles (reverse out)))
    (backwards (OkPast S N) (before settles (reverse out)) (front (OkPast S N) settles (reverse out) (backwards (OkPast S N) out ok)))

-- the words behind a first name, where there is one
abbrev HasWords : (List (List ℕ) → Type 0) → Option ℕ → List (List ℕ) → Type 0
HasWords N None ws = ws ≡ []
HasWords N (Some at) ws = N ws

abbrev Opened : (List (List ℕ) → Type 0) → Option ℕ → List (List ℕ) → Type 0
Opened N None ws = Unit {0}
Opened N (Some at) ws = N ws

joined_ok : {S : Set → Type 0} {N : List (List ℕ) → Type 0} {R : Rule → Type 0} (w : Walk S N R) (ns : List (ℕ × List (List ℕ))) → Each (OkNames N) ns → HasWords N (first_line ns) (flat_map (λ n. n.1) ns)
joined_ok w [] ok = refl
joined_ok {S} {N} w (n ∷ ns) ok = by (first_line ns) (flat_map (λ m. m.1) ns) (joined_ok w ns ok.1)
  where
    nil : (xs : List (List ℕ)) → xs ++ [] ≡ xs
    nil [] = refl
    nil (x ∷ xs) = rw (nil xs) refl

    by : (o : Option ℕ) (ws : List (List ℕ)) → HasWords N o ws → N (n.1 ++ ws)
    by None ws none = subst (λ rest. N (n.1 ++ rest)) (sym none) (subst N (sym (nil n.1)) ok.0)
    by (Some at) ws some = w.more n.1 ws ok.0 some

opened_ok : {S : Set → Type 0} {N : List (List ℕ) → Type 0} {R : Rule → Type 0} (w : Walk S N R) (first : Option ℕ) (words : List (List ℕ)) (p : OutsideLine) → HasWords N first words → OkPast S N p → Opened N (opened_at first p) (words_with words p)
opened_ok {S} {N} w None words (stands at brace (says.Names ws)) h ok = subst (λ front. N (front ++ ws)) (sym h) ok
opened_ok w (Some n) words (stands at brace (says.Names ws)) h ok = w.more words ws h ok
opened_ok w None words (stands at brace says.Open) h ok = tt
opened_ok w (Some n) words (stands at brace says.Open) h ok = h
opened_ok w first words p h ok = tt

-- ---- meanings

abbrev Rules : (Rule → Type 0) → Meaning → Type 0
Rules R m = Each R m.rules

end_ok : {S : Set → Type 0} {N : List (List ℕ) → Type 0} {R : Rule → Type 0} (w : Walk S N R) (at : ℕ) (words : List (List ℕ)) (vs : List Set) (o : Option ConfLine) → N words → Each S vs → Rules R (of_end at words (fields_of vs) o)
end_ok w at words vs None n ok = tt
end_ok w at words vs (Some (Read file i)) n ok = (w.rule file at words vs n ok, tt)
end_ok w at words vs (Some (Spoiled e)) n ok = tt
end_ok w at words vs (Some (End file)) n ok = tt
end_ok w at words vs (Some Cut) n ok = tt

either : (R : Rule → Type 0) (c : Bool) (m n : Meaning) → Rules R m → Rules R n → Rules R (cond c m n)
either R true m n x y = x
either R false m n x y = y

body_means_ok : {S : Set → Type 0} {N : List (List ℕ) → Type 0} {R : Rule → Type 0} (w : Walk S N R) (o : Option ℕ) (words : List (List ℕ)) (vs : List Set) (es : List ConfLine) → Opened N o words → Each S vs → Rules R (of_body o words vs es)
body_means_ok w None words vs es n ok = tt
body_means_ok {S} {N} {R} w (Some at) words vs es n ok =
    let body = body_of [] (before ends es) in
    let all = vs ++ filter_map set_in body in
    either R (list_any drops body) (only_faults (filter_map broken_fault (behind drops body))) (of_end at words (fields_of all) (find ends es)) tt
    (end_ok w at words all (find ends es) n (append S vs (filter_map set_in body) ok (body_ok w [] (before ends es))))

opening_ok : {S : Set → Type 0} {N : List (List ℕ) → Type 0} {R : Rule → Type 0} (w : Walk S N R) (out : List OutsideLine) (p : OutsideLine) (es : List ConfLine) → Each (OkPast S N) out → OkPast S N p → Rules R (of_opening out p es)
opening_ok {S} {N} {R} w out p es ok here =
    either R (opens_definition p) (of_body (opened_at (first_pending out) p) (words_with (words_pending out) p) (settings (out ++ p ∷ [])) es) nothing
    (body_means_ok w (opened_at (first_pending out) p) (words_with (words_pending out) p) (settings (out ++ p ∷ [])) es
    (opened_ok w (first_pending out) (words_pending out) p (joined_ok w (pending out) (pending_ok S N out ok)) here)
    (mapped (OkPast S N) S set_past (set_past_ok S N) (out ++ p ∷ []) (append (OkPast S N) out (p ∷ []) ok (here, tt))))
    tt

meaning_ok : {S : Set → Type 0} {N : List (List ℕ) → Type 0} {R : Rule → Type 0} (w : Walk S N R) (es : List ConfLine) (inside : Bool) (out : List OutsideLine) → Each (OkPast S N) out → Rules R (meaning inside out es)
meaning_ok w [] true out ok = tt
meaning_ok w [] false out ok = tt
meaning_ok {S} {N} {R} w (e ∷ es) true out ok =
    either R (ends e) (meaning false (out ++ outside_line e ∷ []) es) (meaning true out es)
    (meaning_ok w es false (out ++ outside_line e ∷ []) (append (OkPast S N) out (outside_line e ∷ []) ok (past_ok w e, tt)))
    (meaning_ok w es true out ok)
meaning_ok {S} {N} {R} w (e ∷ es) false out ok =
    append R (of_opening out (outside_line e) es).rules (meaning (opens_definition (outside_line e)) (out ++ outside_line e ∷ []) es).rules
    (opening_ok w out (outside_line e) es ok (past_ok w e))
    (meaning_ok w es (opens_definition (outside_line e)) (out ++ outside_line e ∷ []) (append (OkPast S N) out (outside_line e ∷ []) ok (past_ok w e, tt)))

pub each_rule : {S : Set → Type 0} {N : List (List ℕ) → Type 0} {R : Rule → Type 0} (w : Walk S N R) (lines : List ConfLine) → Each R (meaning false [] lines).rules
each_rule w lines = meaning_ok w lines false [] tt

-- ---- fields

-- what holds of the default and of each value that a setting sets holds of the last one
pub last_given : {A : Type 0} (S : Set → Type 0) (P : A → Type 0) (sets : Set → Option A) (d : A) → P d → ((v : Set) → S v → Given P (sets v)) → (vs : List Set) → Each S vs → P (last_set sets d vs)
last_given S P sets d h given vs ok = last P d (filter_map sets vs) h (mapped S P sets given vs ok)
