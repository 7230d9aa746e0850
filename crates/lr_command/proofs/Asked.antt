-- What was found asks for a request, or for none.
use Rattle.std.proofs.Common.{◌≡◌, ◌∙◌, ◌&&◌, ℕ, Bool, true, false, List, Some, None, refl, sym, ap, subst, IfOk, Result, Ok, Err}
use Rattle.std.specs.Prelude.{if◌then◌else◌}
use Rattle.std.proofs.Math.Bool.{Bool-set}
use Rattle.clap.specs.Words.{Row}
use Rattle.lr_rules.specs.declared.path.Path.{Path}
use Rattle.lr_rules.specs.StatePath.{can_be_state}
use Rattle.lr_command.specs.declared.request.Request.{Request}
use Rattle.lr_command.specs.Command.{are_taken, found_in}
use Rattle.lr_command.specs.Words.{are_paths, asked_request, confs_in, has_confs, has_mailer, has_state, mailer_in, may_be_path, request_if, request_in, request_where, settings_with, state_in, state_value}

-- the request with the settings of this state file is the one of what was found
pub request_is : (here : Path) (found : List Row) (state mailer : Path) (confs : List Path) (fits : can_be_state state ≡ true) → state ≡ state_in here found → mailer ≡ mailer_in here found → confs ≡ confs_in here found
    → (h : can_be_state (state_in here found) ≡ true) × (record { settings = settings_with state mailer found fits; confs = confs } ≡ request_in here found h)
request_is here found state mailer confs fits s m c =
    subst (λ (x : Path). (f : can_be_state x ≡ true) → (h : can_be_state (state_in here found) ≡ true) × (record { settings = settings_with x mailer found f; confs = confs } ≡ request_in here found h)) (sym s)
    (λ f. (f, ap (λ (x : Path). record { settings = settings_with (state_in here found) x found f; confs = confs }) m ∙ ap (λ (cs : List Path). record { settings = settings_with (state_in here found) (mailer_in here found) found f; confs = cs }) c)) fits

some_if : (here : Path) (found : List Row) (b p : Bool) (is : can_be_state (state_in here found) ≡ b) (fits : can_be_state (state_in here found) ≡ true) → p ≡ true → request_if here found b p is ≡ Some (request_in here found fits)
some_if here found true true is fits e = ap (λ (f : can_be_state (state_in here found) ≡ true). Some (request_in here found f)) (Bool-set _ _ is fits)
some_if here found true false is fits e = absurd (cc)
some_if here found false p is fits e = absurd (let no : false ≡ true = sym is ∙ fits in cc)

all_true : (a b c d : Bool) → (a && b) ≡ true → c ≡ true → d ≡ true → (a && (c && d)) ≡ true
all_true true true true true x y z = refl
all_true true true true false x y z = absurd (cc)
all_true true true false d x y z = absurd (cc)
all_true true false c d x y z = absurd (cc)
all_true false b c d x y z = absurd (cc)

-- each path is one and the state file can have its own: it asks for the request of it
pub asks : (here : Path) (found : List Row) (fits : can_be_state (state_in here found) ≡ true) → has_state here (state_value found) ≡ true → has_mailer here found ≡ true → has_confs here found ≡ true → request_where here found ≡ Some (request_in here found fits)
asks here found fits s m c = some_if here found (can_be_state (state_in here found)) (are_paths here found) refl fits (all_true (may_be_path here (state_value found)) (can_be_state (state_in here found)) _ _ s m c)

none_if : (here : Path) (found : List Row) (b p : Bool) (is : can_be_state (state_in here found) ≡ b) → (b && p) ≡ false → request_if here found b p is ≡ None
none_if here found true true is e = absurd (cc)
none_if here found true false is e = refl
none_if here found false p is e = refl

no_state : (a b p : Bool) → (a && b) ≡ false → (b && (a && p)) ≡ false
no_state true b p e = subst (λ (x : Bool). (x && p) ≡ false) (sym e) refl
no_state false true p e = refl
no_state false false p e = refl

no_path : (a b p : Bool) → p ≡ false → (b && (a && p)) ≡ false
no_path true true p e = e
no_path true false p e = refl
no_path false true p e = refl
no_path false false p e = refl

-- the state file can't: it asks for none
pub asks_none : (here : Path) (found : List Row) → has_state here (state_value found) ≡ false → request_where here found ≡ None
asks_none here found s = none_if here found (can_be_state (state_in here found)) (are_paths here found) refl (no_state (may_be_path here (state_value found)) _ _ s)

-- another path is none
pub asks_no_path : (here : Path) (found : List Row) → (has_mailer here found && has_confs here found) ≡ false → request_where here found ≡ None
asks_no_path here found p = none_if here found (can_be_state (state_in here found)) (are_paths here found) refl (no_path (may_be_path here (state_value found)) (can_be_state (state_in here found)) _ p)

-- what comes of a first part of the request is the request, where each path of it is one
pub asks_so : {E : Type 0} (r : Result Request E) (here : Path) (found : List Row) → has_state here (state_value found) ≡ true → IfOk r (λ request. (fits : can_be_state (state_in here found) ≡ true) × (request ≡ request_in here found fits)) → IfOk r (λ request. has_mailer here found ≡ true) → IfOk r (λ request. has_confs here found ≡ true)
    → IfOk r (λ request. request_where here found ≡ Some request)
asks_so (Ok request) here found s h m c = asks here found h.0 s m c ∙ ap Some (sym h.1)
asks_so (Err e) here found s h m c = tt

-- so it is of words that `clap` takes
pub asks_words : {E : Type 0} (r : Result Request E) (here : Path) (words : List (List ℕ)) (found : List Row) → are_taken words ≡ true → found ≡ found_in words → IfOk r (λ request. request_where here found ≡ Some request) → IfOk r (λ request. asked_request here words ≡ Some request)
unfolding asked_request
asks_words (Ok request) here words found taken same h = ap (λ (b : Bool). if b then request_where here (found_in words) else None) taken ∙ subst (λ (rows : List Row). request_where here rows ≡ Some request) same h
asks_words (Err e) here words found taken same h = tt
