use Rattle.std.proofs.Common.{rules, ap, sym, ◌∙◌, map}
use Rattle.lr_command.specs.Command.{are_taken, found_in}
use Rattle.lr_command.specs.Words.{asked_request}
use Rattle.lr_command.proofs.Asked.{asks_words}
use Rattle.lr_command.proofs.request.request_of.Goals as goal

pub returns-clause-request : goal.returns-clause-request
returns-clause-request c =
    let words_are = ap (λ xs. map (λ s. s.now) xs) c.as_slice.ensures.value ∙ c.in_ok-texts.ensures.texts in
    asks_words c.request_of_found.result c.args.here.now c.args.words.now _ (ap are_taken (sym words_are) ∙ c.in_ok-found.ensures.taken) (c.in_ok-found.ensures.found ∙ ap found_in words_are) c.request_of_found.ensures.request

pub returns-clause-refused : goal.returns-clause-refused
unfolding asked_request
returns-clause-refused c = search rules
