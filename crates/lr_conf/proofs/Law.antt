-- Taking lines in one after another gives what the whole list means.
use Rattle.std.proofs.Common.{◌≡◌, ℕ, Bool, true, false, cond, ◌||◌, List, [], ◌∷◌, ◌++◌, reverse, Option, Some, None, refl, ap, sym, ◌∙◌, append_assoc}
use Rattle.std.specs.List.{filter_map, list_any, find, flat_map, cons_option}
use Rattle.std.proofs.lemmas.List.Elements.{filter_map-append}
use Rattle.std.proofs.lemmas.List.{append-nil, reverse-append}
use Rattle.std.specs.Prelude.{option_to_list}
use Rattle.lr_lex.specs.declared.item.Item.TheVariants as item
use Rattle.lr_rules.specs.declared.path.Path.{Path}
use Rattle.lr_rules.specs.declared.fault.ConfKind.TheVariants as kind
use Rattle.lr_conf.specs.declared.fields.Fields.{Fields}
use Rattle.lr_conf.specs.declared.place.Place.{Place}
use Rattle.lr_conf.specs.declared.place.Place.TheVariants.{Outside, Good, Dropped}
use Rattle.lr_forms.specs.declared.set.Set.{Set}
use Rattle.lr_forms.specs.declared.said.LineSaid.{LineSaid}
use Rattle.lr_forms.specs.declared.said.LineSaid.TheVariants as says
use Rattle.lr_forms.specs.declared.set.Set.TheVariants as set
use Rattle.lr_rules.specs.declared.fault.ConfKind.{ConfKind}
use Rattle.lr_rules.specs.declared.fault.Phase.{Phase}
use Rattle.lr_forms.specs.Says.{item_says}
use Rattle.lr_conf.specs.Fields.{fields_of}
use Rattle.lr_conf.specs.Rules.{rule_of}
use Rattle.lr_conf.specs.Scripts.{script_fault}
use Rattle.lr_conf.specs.Meaning.{ConfLine, Read, Spoiled, End, Cut, OutsideLine, stands, spoiled, file_ends, breaks_off, Meaning, ◌and◌, only_faults, conf, before, through, behind as behind_first, set_of, set_past, settings, names_past, settles, pending, first_line, first_pending, words_pending, outside_line, notice_of, line_fault, script_of, line_script, scripts_in, script_sets, said_behind, within, body_of, drops, is_bad_line, set_in, notice_in, fault_in, broken_fault, spoilt_fault, ends, opens_definition, of_end, of_definition, of_body, of_opening, of_line, of_spoilt, meaning, line_file, or_line}
use Rattle.lr_conf.specs.Setting.{with_set, default_fields}
use Rattle.lr_conf.specs.Internal.Draft.{State, run, with_said, scripted, said_inside, outside, turned}
use Rattle.lr_conf.proofs.Settings.{fields-push}

-- ---- one more line outside definitions

abbrev with_option : Option Set → Fields → Fields
with_option None f = f
with_option (Some v) f = with_set f v

defaults-push : (out : List OutsideLine) (p : OutsideLine) → fields_of (settings (out ++ p ∷ [])) ≡ with_option (set_past p) (fields_of (settings out))
defaults-push out p = ap fields_of (filter_map-append set_past out (p ∷ [])) ∙ by (set_past p)
  where
    by : (o : Option Set) → fields_of (settings out ++ cons_option o []) ≡ with_option o (fields_of (settings out))
    by None = ap fields_of (append-nil (settings out))
    by (Some v) = fields-push (settings out) v

pending-push : (out : List OutsideLine) (p : OutsideLine) → pending (out ++ p ∷ []) ≡ (cond (settles p) [] (pending out ++ option_to_list (names_past p)))
pending-push out p =
    ap (λ back. filter_map names_past (reverse (before settles back))) (reverse-append out (p ∷ [])) ∙ by_test (settles p) refl
  where
    last : (o : Option (ℕ × List (List ℕ))) → cons_option o [] ≡ option_to_list o
    last None = refl
    last (Some x) = refl

    by_test : (b : Bool) → settles p ≡ b → filter_map names_past (reverse (cond b [] (p ∷ before settles (reverse out)))) ≡ cond b [] (pending out ++ option_to_list (names_past p))
    by_test true is = refl
    by_test false is =
        ap (filter_map names_past) (reverse-append (p ∷ []) (before settles (reverse out))) ∙ filter_map-append names_past (reverse (before settles (reverse out))) (p ∷ []) ∙ ap (λ x. pending out ++ x) (last (names_past p))

abbrev first_with : Option ℕ → Option (ℕ × List (List ℕ)) → Option ℕ
first_with None None = None
first_with None (Some n) = Some n.0
first_with (Some first) o = Some first

first_none : (o : Option ℕ) → first_with o None ≡ o
first_none None = refl
first_none (Some first) = refl

first_some : (o : Option ℕ) (at : ℕ) (ws : List (List ℕ)) → first_with o (Some (at, ws)) ≡ Some (or_line o at)
first_some None at ws = refl
first_some (Some first) at ws = refl

first-append : (ns : List (ℕ × List (List ℕ))) (o : Option (ℕ × List (List ℕ))) → first_line (ns ++ option_to_list o) ≡ first_with (first_line ns) o
first-append [] None = refl
first-append [] (Some n) = refl
first-append (m ∷ ns) o = refl

first-push : (out : List OutsideLine) (p : OutsideLine) → first_pending (out ++ p ∷ []) ≡ cond (settles p) None (first_with (first_pending out) (names_past p))
first-push out p = ap first_line (pending-push out p) ∙ by (settles p)
  where
    by : (b : Bool) → first_line (cond b [] (pending out ++ option_to_list (names_past p))) ≡ cond b None (first_with (first_pending out) (names_past p))
    by true = refl
    by false = first-append (pending out) (names_past p)

abbrev words_in : Option (ℕ × List (List ℕ)) → List (List ℕ)
words_in None = []
words_in (Some n) = n.1

words-append : (ns : List (ℕ × List (List ℕ))) (o : Option (ℕ × List (List ℕ))) → flat_map (λ n. n.1) (ns ++ option_to_list o) ≡ flat_map (λ n. n.1) ns ++ words_in o
words-append [] None = refl
words-append [] (Some n) = append-nil n.1
words-append (m ∷ ns) o = ap (λ x. m.1 ++ x) (words-append ns o) ∙ sym (append_assoc m.1 (flat_map (λ n. n.1) ns) (words_in o))

words-push : (out : List OutsideLine) (p : OutsideLine) → words_pending (out ++ p ∷ []) ≡ cond (settles p) [] (words_pending out ++ words_in (names_past p))
words-push out p = ap (flat_map (λ n. n.1)) (pending-push out p) ∙ by (settles p)
  where
    by : (b : Bool) → flat_map (λ n. n.1) (cond b [] (pending out ++ option_to_list (names_past p))) ≡ cond b [] (words_pending out ++ words_in (names_past p))
    by true = refl
    by false = words-append (pending out) (names_past p)

-- ---- states

abbrev st : Place → Fields → List (List ℕ) → Option ℕ → Fields → List Phase → State
st place d ws first f ps = record { place = place; defaults = d; words = ws; first = first; fields = f; scripts = ps }

-- the state outside definitions, behind these lines
abbrev behind : List OutsideLine → Fields → List Phase → State
behind out f ps = st Outside (fields_of (settings out)) (words_pending out) (first_pending out) f ps

abbrev pub OutsideLaw : List ConfLine → Type 0
OutsideLaw es = (out : List OutsideLine) (f : Fields) (ps : List Phase) → run (behind out f ps) es ≡ meaning false out es

-- the meaning of a definition from its lines on that stand behind these
abbrev rest_of : List ConfLine → ℕ → List (List ℕ) → List Set → List ConfLine → Meaning
rest_of earlier at ws vs es =
    record {
      rules = [];
      notices = filter_map notice_in (through drops (body_of earlier (before ends es)));
      faults = filter_map fault_in (through drops (body_of earlier (before ends es)));
    }
    and (cond (list_any drops (body_of earlier (before ends es))) (only_faults (filter_map broken_fault (behind_first drops (body_of earlier (before ends es))))) (of_end at ws (fields_of (vs ++ filter_map set_in (body_of earlier (before ends es)))) (find ends es)))

abbrev pub GoodLaw : List ConfLine → Type 0
GoodLaw es = (out : List OutsideLine) (vs : List Set) (at : ℕ) (ws : List (List ℕ)) (earlier : List ConfLine)
    → run (st Good (fields_of (settings out)) ws (Some at) (fields_of vs) (scripts_in earlier)) es ≡ (rest_of earlier at ws vs es and meaning true out es)

abbrev pub DroppedLaw : List ConfLine → Type 0
DroppedLaw es = (out : List OutsideLine) (ws : List (List ℕ)) (first : Option ℕ) (f : Fields) (ps : List Phase) → run (st Dropped (fields_of (settings out)) ws first f ps) es ≡ (of_spoilt (before ends es) and meaning true out es)

pub record Laws (es : List ConfLine) : Type 0 where
  pub out : OutsideLaw es
  pub good : GoodLaw es
  pub drop : DroppedLaw es

-- outside, behind one more line
next : (es : List ConfLine) (out : List OutsideLine) (p : OutsideLine) (d : Fields) (ws : List (List ℕ)) (first : Option ℕ) (f : Fields) (ps : List Phase) → OutsideLaw es
    → with_option (set_past p) (fields_of (settings out)) ≡ d
    → cond (settles p) [] (words_pending out ++ words_in (names_past p)) ≡ ws
    → cond (settles p) None (first_with (first_pending out) (names_past p)) ≡ first
    → run (st Outside d ws first f ps) es ≡ meaning false (out ++ p ∷ []) es
next es out p d ws first f ps law de we fe =
    ap (λ x. run (st Outside x ws first f ps) es) (sym de ∙ sym (defaults-push out p))
    ∙ ap (λ x. run (st Outside (fields_of (settings (out ++ p ∷ []))) x first f ps) es) (sym we ∙ sym (words-push out p))
    ∙ ap (λ x. run (st Outside (fields_of (settings (out ++ p ∷ []))) (words_pending (out ++ p ∷ [])) x f ps) es) (sym fe ∙ sym (first-push out p))
    ∙ law (out ++ p ∷ []) f ps

-- in a definition that this line drops
next_dropped : (es : List ConfLine) (out : List OutsideLine) (p : OutsideLine) (d : Fields) (f : Fields) (ps : List Phase) → DroppedLaw es
    → with_option (set_past p) (fields_of (settings out)) ≡ d
    → run (st Dropped d [] None f ps) es ≡ (of_spoilt (before ends es) and meaning true (out ++ p ∷ []) es)
next_dropped es out p d f ps law de =
    ap (λ x. run (st Dropped x [] None f ps) es) (sym de ∙ sym (defaults-push out p)) ∙ law (out ++ p ∷ []) [] None f ps

-- in a definition that this line opens
next_good : (es : List ConfLine) (out : List OutsideLine) (p : OutsideLine) (d : Fields) (ws : List (List ℕ)) (at : ℕ) → GoodLaw es
    → with_option (set_past p) (fields_of (settings out)) ≡ d
    → run (st Good d ws (Some at) d []) es ≡ (of_definition at ws (settings (out ++ p ∷ [])) es and meaning true (out ++ p ∷ []) es)
next_good es out p d ws at law de =
    ap (λ x. run (st Good x ws (Some at) x []) es) (sym de ∙ sym (defaults-push out p)) ∙ law (out ++ p ∷ []) (settings (out ++ p ∷ [])) at ws []

-- ---- outside definitions

-- what follows a line
abbrev follows : List OutsideLine → OutsideLine → List ConfLine → Meaning
follows out p es = of_opening out p es and meaning (opens_definition p) (out ++ p ∷ []) es

-- a line that leaves pending names, without a brace
stays : (p : OutsideLine) (es : List ConfLine) → Laws es → (out : List OutsideLine) (f : Fields) (ps : List Phase) → settles p ≡ false → names_past p ≡ None → set_past p ≡ None
    → run (behind out f ps) es ≡ meaning false (out ++ p ∷ []) es
stays p es l out f ps no_end no_names no_set =
    next es out p (fields_of (settings out)) (words_pending out) (first_pending out) f ps l.out
    (ap (λ o. with_option o (fields_of (settings out))) no_set)
    (ap (λ b. cond b [] (words_pending out ++ words_in (names_past p))) no_end ∙ ap (λ o. words_pending out ++ words_in o) no_names ∙ append-nil (words_pending out))
    (ap (λ b. cond b None (first_with (first_pending out) (names_past p))) no_end ∙ ap (first_with (first_pending out)) no_names ∙ first_none (first_pending out))

-- a line that ends with no brace
plain-law : (at : ℕ) (v : LineSaid) (es : List ConfLine) → Laws es → (out : List OutsideLine) (f : Fields) (ps : List Phase)
    → run (outside (behind out f ps) (stands at false v)) es ≡ meaning false (out ++ stands at false v ∷ []) es
plain-law at (says.Sets v) es l out f ps = next es out (stands at false (says.Sets v)) _ [] None f ps l.out refl refl refl
plain-law at says.Quiet es l out f ps = next es out (stands at false says.Quiet) _ [] None f ps l.out refl refl refl
plain-law at (says.OwnerPassed v) es l out f ps = next es out (stands at false (says.OwnerPassed v)) _ [] None f ps l.out refl refl refl
plain-law at (says.Script phase text stray) es l out f ps = next es out (stands at false (says.Script phase text stray)) _ [] None f ps l.out refl refl refl
plain-law at (says.Include path) es l out f ps = next es out (stands at false (says.Include path)) _ [] None f ps l.out refl refl refl
plain-law at (says.Taboo patterns items) es l out f ps = next es out (stands at false (says.Taboo patterns items)) _ [] None f ps l.out refl refl refl
plain-law at (says.Passed word) es l out f ps = next es out (stands at false (says.Passed word)) _ [] None f ps l.out refl refl refl
plain-law at (says.Names ws) es l out f ps =
    next es out (stands at false (says.Names ws)) _ _ _ f ps l.out refl refl (first_some (first_pending out) at ws)
plain-law at says.Open es l out f ps = stays (stands at false says.Open) es l out f ps refl refl refl
plain-law at says.Close es l out f ps = next es out (stands at false says.Close) _ [] None f ps l.out refl refl refl
plain-law at says.Unknown es l out f ps = stays (stands at false says.Unknown) es l out f ps refl refl refl
plain-law at (says.Bad k) es l out f ps = next es out (stands at false (says.Bad k)) _ [] None f ps l.out refl refl refl
plain-law at (says.BadNames k) es l out f ps = stays (stands at false (says.BadNames k)) es l out f ps refl refl refl

-- a line that ends with a brace
brace-law : (at : ℕ) (v : LineSaid) (es : List ConfLine) → Laws es → (out : List OutsideLine) (f : Fields) (ps : List Phase)
    → run (outside (behind out f ps) (stands at true v)) es ≡ follows out (stands at true v) es
brace-law at (says.Sets v) es l out f ps = next_dropped es out (stands at true (says.Sets v)) _ f ps l.drop refl
brace-law at says.Quiet es l out f ps = next_dropped es out (stands at true says.Quiet) _ f ps l.drop refl
brace-law at (says.OwnerPassed v) es l out f ps = next_dropped es out (stands at true (says.OwnerPassed v)) _ f ps l.drop refl
brace-law at (says.Script phase text stray) es l out f ps = next_dropped es out (stands at true (says.Script phase text stray)) _ f ps l.drop refl
brace-law at (says.Include path) es l out f ps = next_dropped es out (stands at true (says.Include path)) _ f ps l.drop refl
brace-law at (says.Taboo patterns items) es l out f ps = next_dropped es out (stands at true (says.Taboo patterns items)) _ f ps l.drop refl
brace-law at (says.Passed word) es l out f ps = next_dropped es out (stands at true (says.Passed word)) _ f ps l.drop refl
brace-law at (says.Names ws) es l out f ps = next_good es out (stands at true (says.Names ws)) _ _ _ l.good refl
brace-law at says.Open es l out f ps = by (first_pending out)
  where
    by : (o : Option ℕ) → run (turned true o (st Outside (fields_of (settings out)) (words_pending out) o f ps)) es
        ≡ (of_body o (words_pending out) (settings (out ++ stands at true says.Open ∷ [])) es and meaning true (out ++ stands at true says.Open ∷ []) es)
    by None = next_dropped es out (stands at true says.Open) _ f ps l.drop refl
    by (Some n) = next_good es out (stands at true says.Open) _ (words_pending out) n l.good refl
brace-law at says.Close es l out f ps = next_dropped es out (stands at true says.Close) _ f ps l.drop refl
brace-law at says.Unknown es l out f ps = next_dropped es out (stands at true says.Unknown) _ f ps l.drop refl
brace-law at (says.Bad k) es l out f ps = next_dropped es out (stands at true (says.Bad k)) _ f ps l.drop refl
brace-law at (says.BadNames k) es l out f ps = next_dropped es out (stands at true (says.BadNames k)) _ f ps l.drop refl

step-law : (p : OutsideLine) (es : List ConfLine) → Laws es → (out : List OutsideLine) (f : Fields) (ps : List Phase) → run (outside (behind out f ps) p) es ≡ follows out p es
step-law (stands at false v) es l out f ps = plain-law at v es l out f ps
step-law (stands at true v) es l out f ps = brace-law at v es l out f ps
step-law (spoiled e) es l out f ps = stays (spoiled e) es l out f ps refl refl refl
step-law file_ends es l out f ps = next es out file_ends _ [] None f ps l.out refl refl refl
step-law breaks_off es l out f ps = next es out breaks_off _ [] None f ps l.out refl refl refl

outside-law : (e : ConfLine) (es : List ConfLine) → Laws es → OutsideLaw (e ∷ es)
outside-law e es l out f ps = ap (λ m. of_line (line_file e) (first_pending out) (outside_line e) and m) (step-law (outside_line e) es l out f ps)

-- ---- dropped definitions

dropped-law : (e : ConfLine) (es : List ConfLine) → Laws es → DroppedLaw (e ∷ es)
dropped-law (Read file (item.Close line)) es l out ws first f ps = next es out (stands line false says.Close) _ [] None f ps l.out refl refl refl
dropped-law (Read file (item.Line words names brace stray line)) es l out ws first f ps = l.drop out ws first f ps
dropped-law (Read file (item.Script word text brace stray line)) es l out ws first f ps = l.drop out ws first f ps
dropped-law (Spoiled e) es l out ws first f ps = ap (λ m. only_faults (e ∷ []) and m) (l.drop out ws first f ps)
dropped-law (End file) es l out ws first f ps = next es out file_ends _ [] None f ps l.out refl refl refl
dropped-law Cut es l out ws first f ps = next es out breaks_off _ [] None f ps l.out refl refl refl

-- ---- definitions that no line dropped so far

-- the lines of a body whose reading told a fault
broken-one : (earlier : List ConfLine) (e : ConfLine) → broken_fault (within earlier e) ≡ spoilt_fault e
broken-one earlier (Read file i) = refl
broken-one earlier (Spoiled f) = refl
broken-one earlier (End file) = refl
broken-one earlier Cut = refl

broken-are : (earlier es : List ConfLine) → filter_map broken_fault (body_of earlier es) ≡ filter_map spoilt_fault es
broken-are earlier [] = refl
broken-are earlier (e ∷ es) =
    ap (λ o. cons_option o (filter_map broken_fault (body_of (earlier ++ e ∷ []) es))) (broken-one earlier e)
    ∙ ap (cons_option (spoilt_fault e)) (broken-are (earlier ++ e ∷ []) es)

-- the scripts with one more line
abbrev with_phase : Option Phase → List Phase → List Phase
with_phase None ps = ps
with_phase (Some p) ps = ps ++ p ∷ []

scripts-push : (earlier : List ConfLine) (e : ConfLine) → scripts_in (earlier ++ e ∷ []) ≡ with_phase (line_script e) (scripts_in earlier)
scripts-push earlier e = filter_map-append (line_script) earlier (e ∷ []) ∙ by (line_script e)
  where
    by : (o : Option Phase) → scripts_in earlier ++ cons_option o [] ≡ with_phase o (scripts_in earlier)
    by None = append-nil (scripts_in earlier)
    by (Some p) = refl

-- the meaning of a definition from a line on that says v
abbrev from_line : List ConfLine → Path → ℕ → LineSaid → ℕ → List (List ℕ) → List Set → List ConfLine → Meaning
from_line more file line v at ws vs es =
    record {
      rules = [];
      notices = cons_option (notice_of file line v) (filter_map notice_in (cond (is_bad_line v) [] (through drops (body_of more (before ends es)))));
      faults = cons_option (line_fault file line v) (filter_map fault_in (cond (is_bad_line v) [] (through drops (body_of more (before ends es)))));
    }
    and (cond (is_bad_line v || list_any drops (body_of more (before ends es)))
    (only_faults (filter_map broken_fault (cond (is_bad_line v) (body_of more (before ends es)) (behind_first drops (body_of more (before ends es))))))
    (of_end at ws (fields_of (vs ++ cons_option (set_of v) (filter_map set_in (body_of more (before ends es))))) (find ends es)))

-- the same, with the fields told
abbrev ended : List ConfLine → ℕ → List (List ℕ) → List ConfLine → Fields → Meaning
ended more at ws es f =
    record {
      rules = [];
      notices = filter_map notice_in (through drops (body_of more (before ends es)));
      faults = filter_map fault_in (through drops (body_of more (before ends es)));
    }
    and (cond (list_any drops (body_of more (before ends es))) (only_faults (filter_map broken_fault (behind_first drops (body_of more (before ends es))))) (of_end at ws f (find ends es)))

abbrev good_state : List OutsideLine → List Set → ℕ → List (List ℕ) → List Phase → State
good_state out vs at ws ps = st Good (fields_of (settings out)) ws (Some at) (fields_of vs) ps

-- behind a line that says nothing here
plain_on : (es : List ConfLine) → Laws es → (out : List OutsideLine) (vs : List Set) (at : ℕ) (ws : List (List ℕ)) (more : List ConfLine) (ps : List Phase) → scripts_in more ≡ ps
    → run (good_state out vs at ws ps) es ≡ (rest_of more at ws vs es and meaning true out es)
plain_on es l out vs at ws more ps is = ap (λ x. run (good_state out vs at ws x) es) (sym is) ∙ l.good out vs at ws more

-- behind one that sets a field
set_on : (es : List ConfLine) → Laws es → (out : List OutsideLine) (vs : List Set) (at : ℕ) (ws : List (List ℕ)) (v : Set) (more : List ConfLine) (ps : List Phase) → scripts_in more ≡ ps
    → run (st Good (fields_of (settings out)) ws (Some at) (with_set (fields_of vs) v) ps) es
    ≡ (ended more at ws es (fields_of (vs ++ v ∷ filter_map set_in (body_of more (before ends es)))) and meaning true out es)
set_on es l out vs at ws v more ps is =
    ap (λ x. run (st Good (fields_of (settings out)) ws (Some at) x ps) es) (sym (fields-push vs v))
    ∙ plain_on es l out (vs ++ v ∷ []) at ws more ps is
    ∙ ap (λ x. ended more at ws es (fields_of x) and meaning true out es) (append_assoc vs (v ∷ []) (filter_map set_in (body_of more (before ends es))))

-- behind one that drops the definition
drop_on : (es : List ConfLine) → Laws es → (out : List OutsideLine) (vs : List Set) (at : ℕ) (ws : List (List ℕ)) (more : List ConfLine) (ps : List Phase)
    → run (st Dropped (fields_of (settings out)) ws (Some at) (fields_of vs) ps) es
    ≡ (only_faults (filter_map broken_fault (body_of more (before ends es))) and meaning true out es)
drop_on es l out vs at ws more ps =
    l.drop out ws (Some at) (fields_of vs) ps ∙ ap (λ fs. only_faults fs and meaning true out es) (sym (broken-are more (before ends es)))

inside-law : (file : Path) (line : ℕ) (v : LineSaid) (es : List ConfLine) → Laws es → (out : List OutsideLine) (vs : List Set) (at : ℕ) (ws : List (List ℕ)) (ps : List Phase) (more : List ConfLine)
    → scripts_in more ≡ with_phase (script_of v) ps
    → (said_inside file line (said_behind ps v) and run (with_said (good_state out vs at ws ps) v) es) ≡ (from_line more file line (said_behind ps v) at ws vs es and meaning true out es)
inside-law file line (says.Sets v) es l out vs at ws ps more is = set_on es l out vs at ws v more ps is
inside-law file line says.Quiet es l out vs at ws ps more is = plain_on es l out vs at ws more ps is
inside-law file line (says.OwnerPassed v) es l out vs at ws ps more is =
    ap (λ m. record { rules = []; notices = record { file = file; line = line; word = None } ∷ []; faults = [] } and m) (set_on es l out vs at ws v more ps is)
inside-law file line (says.Script p text stray) es l out vs at ws ps more is = by (script_fault ps p stray)
  where
    by : (o : Option ConfKind) → (said_inside file line (script_sets o p text) and run (scripted (good_state out vs at ws ps) p text o) es) ≡ (from_line more file line (script_sets o p text) at ws vs es and meaning true out es)
    by None = set_on es l out vs at ws (set.Script p text) more (ps ++ p ∷ []) is
    by (Some k) = ap (λ m. only_faults (conf file k line ∷ []) and m) (drop_on es l out vs at ws more ps)
inside-law file line (says.Include path) es l out vs at ws ps more is = plain_on es l out vs at ws more ps is
inside-law file line (says.Taboo patterns items) es l out vs at ws ps more is = plain_on es l out vs at ws more ps is
inside-law file line (says.Passed word) es l out vs at ws ps more is =
    ap (λ m. record { rules = []; notices = record { file = file; line = line; word = Some word } ∷ []; faults = [] } and m) (plain_on es l out vs at ws more ps is)
inside-law file line (says.Names names) es l out vs at ws ps more is = plain_on es l out vs at ws more ps is
inside-law file line says.Open es l out vs at ws ps more is = plain_on es l out vs at ws more ps is
inside-law file line says.Close es l out vs at ws ps more is = plain_on es l out vs at ws more ps is
inside-law file line says.Unknown es l out vs at ws ps more is = ap (λ m. only_faults (conf file kind.Unknown line ∷ []) and m) (plain_on es l out vs at ws more ps is)
inside-law file line (says.Bad k) es l out vs at ws ps more is = ap (λ m. only_faults (conf file k line ∷ []) and m) (drop_on es l out vs at ws more ps)
inside-law file line (says.BadNames k) es l out vs at ws ps more is = plain_on es l out vs at ws more ps is

good-law : (e : ConfLine) (es : List ConfLine) → Laws es → GoodLaw (e ∷ es)
good-law (Read file (item.Close line)) es l out vs at ws earlier =
    ap (λ m. record { rules = rule_of file at ws (fields_of vs) ∷ []; notices = []; faults = [] } and m) (next es out (stands line false says.Close) _ [] None default_fields (scripts_in earlier) l.out refl refl refl)
    ∙ ap (λ s. record { rules = rule_of file at ws (fields_of s) ∷ []; notices = []; faults = [] } and meaning false (out ++ stands line false says.Close ∷ []) es) (sym (append-nil vs))
good-law (Read file (item.Line words names brace stray line)) es l out vs at ws earlier =
    let i = item.Line words names brace stray line in
    inside-law file line (item_says true i) es l out vs at ws (scripts_in earlier) (earlier ++ Read file i ∷ []) (scripts-push earlier (Read file i))
good-law (Read file (item.Script word text brace stray line)) es l out vs at ws earlier =
    let i = item.Script word text brace stray line in
    inside-law file line (item_says true i) es l out vs at ws (scripts_in earlier) (earlier ++ Read file i ∷ []) (scripts-push earlier (Read file i))
good-law (Spoiled e) es l out vs at ws earlier = ap (λ m. only_faults (e ∷ []) and m) (drop_on es l out vs at ws (earlier ++ Spoiled e ∷ []) (scripts_in earlier))
good-law (End file) es l out vs at ws earlier =
    ap (λ m. only_faults (conf file kind.NoBrace at ∷ []) and m) (next es out file_ends _ [] None (fields_of vs) (scripts_in earlier) l.out refl refl refl)
good-law Cut es l out vs at ws earlier = next es out breaks_off _ [] None (fields_of vs) (scripts_in earlier) l.out refl refl refl

pub laws : (es : List ConfLine) → Laws es
laws [] = record { out = λ out f ps. refl; good = λ out vs at ws earlier. refl; drop = λ out ws first f ps. refl }
laws (e ∷ es) = record { out = outside-law e es (laws es); good = good-law e es (laws es); drop = dropped-law e es (laws es) }

-- what a layer that took no line gives
pub from_start : (lines : List ConfLine) → run (st Outside default_fields [] None default_fields []) lines ≡ meaning false [] lines
from_start lines = (laws lines).out [] default_fields []
