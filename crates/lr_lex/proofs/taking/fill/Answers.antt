use Rattle.std.proofs.Common.{◌∙◌, sym, ap, subst, ◌+◌, ◌-◌, ℕ, List, ◌++◌, length, take, drop, arith}
use Rattle.std.proofs.lemmas.List.{append-nil}
use Rattle.lr_lex.specs.Pieces.{has_line}
use Rattle.lr_lex.specs.Newlines.{IsNewline}
use Rattle.lr_lex.proofs.Filling.{grown_few, grown_held, some_in, some_parts, some_found, grown_filled}
use Rattle.lr_lex.proofs.Finding.{rest_whole}
use Rattle.lr_lex.proofs.taking.fill.Goals as goal

pub returns-in_default-clause-held : goal.returns-in_default-clause-held
returns-in_default-clause-held c =
    let all = ap (λ (l : List ℕ). take (length l - c.args.held.now.from) (drop c.args.held.now.from l)) c.deref-in_default.ensures.value ∙ rest_whole c.args.held.now.rest.items c.args.held.now.from in
    let same = ap (λ (l : List ℕ). take (length l - c.args.held.now.from) (drop c.args.held.now.from l)) (c.deref-in_default.ensures.value ∙ sym c.deref.ensures.value) in
    grown_held c.args.held.now c.requires c.extend_from_slice.new.self c.clear.new.self 0 (take (length c.deref-in_default.result.now - c.args.held.now.from) (drop c.args.held.now.from c.deref-in_default.result.now)) c.in_ok-extend_from_slice.ensures.items
    (ap has_line same ∙ c.in_default.ensures) (omega arith)
    (sym all ∙ (sym (append-nil (take (length c.deref-in_default.result.now - c.args.held.now.from) (drop c.args.held.now.from c.deref-in_default.result.now)))
    ∙ ap (λ (l : List ℕ). take (length c.deref-in_default.result.now - c.args.held.now.from) (drop c.args.held.now.from c.deref-in_default.result.now) ++ l) (sym c.clear.ensures.items)))

pub returns-clause-held : goal.returns-clause-held
returns-clause-held c =
    let is = subst (λ (l : List ℕ). IsNewline l c.in-Some.size) (ap (λ (l : List ℕ). take (length l - c.args.held.now.from) (drop c.args.held.now.from l)) c.deref.ensures.value ∙ rest_whole c.args.held.now.rest.items c.args.held.now.from) c.in-Some.ensures in
    grown_held c.args.held.now c.requires c.extend_from_slice-2.new.self c.args.held.now.rest (c.args.held.now.from + c.in-Some.size) (take c.in-Some.size (drop c.args.held.now.from c.args.held.now.rest.items))
    (c.in_ok-extend_from_slice-2.ensures.items
    ∙ (ap (λ (l : List ℕ). c.args.held.now.bytes.items ++ take (c.args.held.now.from + c.in-Some.size - c.args.held.now.from) (drop c.args.held.now.from l)) c.deref-2.ensures.value
    ∙ ap (λ n. c.args.held.now.bytes.items ++ take n (drop c.args.held.now.from c.args.held.now.rest.items)) (omega arith)))
    is.before (some_in c.args.held.now c.in-Some.size c.requires is) (some_parts c.args.held.now c.in-Some.size)

pub returns-clause-filled : goal.returns-clause-filled
returns-clause-filled c =
    let is = subst (λ (l : List ℕ). IsNewline l c.in-Some.size) (ap (λ (l : List ℕ). take (length l - c.args.held.now.from) (drop c.args.held.now.from l)) c.deref.ensures.value ∙ rest_whole c.args.held.now.rest.items c.args.held.now.from) c.in-Some.ensures in
    grown_filled c.args.held.now c.requires c.extend_from_slice-2.new.self c.args.held.now.rest (c.args.held.now.from + c.in-Some.size) (take c.in-Some.size (drop c.args.held.now.from c.args.held.now.rest.items))
    (c.in_ok-extend_from_slice-2.ensures.items
    ∙ (ap (λ (l : List ℕ). c.args.held.now.bytes.items ++ take (c.args.held.now.from + c.in-Some.size - c.args.held.now.from) (drop c.args.held.now.from l)) c.deref-2.ensures.value
    ∙ ap (λ n. c.args.held.now.bytes.items ++ take n (drop c.args.held.now.from c.args.held.now.rest.items)) (omega arith)))
    is.before (some_in c.args.held.now c.in-Some.size c.requires is) (some_parts c.args.held.now c.in-Some.size)

pub returns-clause-found : goal.returns-clause-found
returns-clause-found c =
    let is = subst (λ (l : List ℕ). IsNewline l c.in-Some.size) (ap (λ (l : List ℕ). take (length l - c.args.held.now.from) (drop c.args.held.now.from l)) c.deref.ensures.value ∙ rest_whole c.args.held.now.rest.items c.args.held.now.from) c.in-Some.ensures in
    some_found c.args.held.now c.in-Some.size is

pub returns-in_default-clause-few : goal.returns-in_default-clause-few
returns-in_default-clause-few c =
    let all = ap (λ (l : List ℕ). take (length l - c.args.held.now.from) (drop c.args.held.now.from l)) c.deref-in_default.ensures.value ∙ rest_whole c.args.held.now.rest.items c.args.held.now.from in
    let same = ap (λ (l : List ℕ). take (length l - c.args.held.now.from) (drop c.args.held.now.from l)) (c.deref-in_default.ensures.value ∙ sym c.deref.ensures.value) in
    grown_few c.args.held.now c.requires c.extend_from_slice.new.self c.clear.new.self 0 (take (length c.deref-in_default.result.now - c.args.held.now.from) (drop c.args.held.now.from c.deref-in_default.result.now)) c.in_ok-extend_from_slice.ensures.items
    (ap has_line same ∙ c.in_default.ensures) (omega arith)
    (sym all ∙ (sym (append-nil (take (length c.deref-in_default.result.now - c.args.held.now.from) (drop c.args.held.now.from c.deref-in_default.result.now)))
    ∙ ap (λ (l : List ℕ). take (length c.deref-in_default.result.now - c.args.held.now.from) (drop c.args.held.now.from c.deref-in_default.result.now) ++ l) (sym c.clear.ensures.items)))

pub returns-clause-few : goal.returns-clause-few
returns-clause-few c =
    let is = subst (λ (l : List ℕ). IsNewline l c.in-Some.size) (ap (λ (l : List ℕ). take (length l - c.args.held.now.from) (drop c.args.held.now.from l)) c.deref.ensures.value ∙ rest_whole c.args.held.now.rest.items c.args.held.now.from) c.in-Some.ensures in
    grown_few c.args.held.now c.requires c.extend_from_slice-2.new.self c.args.held.now.rest (c.args.held.now.from + c.in-Some.size) (take c.in-Some.size (drop c.args.held.now.from c.args.held.now.rest.items))
    (c.in_ok-extend_from_slice-2.ensures.items
    ∙ (ap (λ (l : List ℕ). c.args.held.now.bytes.items ++ take (c.args.held.now.from + c.in-Some.size - c.args.held.now.from) (drop c.args.held.now.from l)) c.deref-2.ensures.value
    ∙ ap (λ n. c.args.held.now.bytes.items ++ take n (drop c.args.held.now.from c.args.held.now.rest.items)) (omega arith)))
    is.before (some_in c.args.held.now c.in-Some.size c.requires is) (some_parts c.args.held.now c.in-Some.size)
