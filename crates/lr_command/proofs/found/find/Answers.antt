use Rattle.std.proofs.Common.{◌≡◌, ◌∙◌, ap, sym, subst, map}
use Rattle.clap.specs.Words.{App, app_of, fault_of, is_simple, is_simple_and_free, matches_of, HasKind}
use Rattle.lr_command.specs.Command.{command}
use Rattle.lr_command.proofs.Simple.{command_is_simple, command_is_free, taken_where_no_fault, refused_where_fault, found_is}
use Rattle.lr_command.proofs.found.find.Goals as goal

pub returns-in-Ok-try_get_matches_from-clause-taken : goal.returns-in-Ok-try_get_matches_from-clause-taken
returns-in-Ok-try_get_matches_from-clause-taken c =
    let made : app_of c.in-Ok.command ≡ command = c.in-Ok.ensures in
    let none = c.in-Ok-try_get_matches_from.ensures.kinds (ap is_simple_and_free made ∙ command_is_free) in
    taken_where_no_fault (map (λ s. s.now) c.args.words.now) (sym (ap (λ (a : App). fault_of a (map (λ s. s.now) c.args.words.now)) made) ∙ none)

pub returns-in-Ok-try_get_matches_from-clause-found : goal.returns-in-Ok-try_get_matches_from-clause-found
returns-in-Ok-try_get_matches_from-clause-found c =
    let made : app_of c.in-Ok.command ≡ command = c.in-Ok.ensures in
    (c.in-Ok-try_get_matches_from.ensures.matches (ap is_simple made ∙ command_is_simple)).0 ∙ ap (λ (a : App). matches_of a (map (λ s. s.now) c.args.words.now)) made
    ∙ found_is (map (λ s. s.now) c.args.words.now)

pub returns-clause-refused : goal.returns-clause-refused
returns-clause-refused c is =
    let made : app_of c.in-Ok.command ≡ command = c.in-Ok.ensures in
    let kinds = c.in-Err-try_get_matches_from.ensures.kinds (ap is_simple_and_free made ∙ command_is_free) in
    let one = subst (λ (a : App). HasKind (fault_of a (map (λ s. s.now) c.args.words.now)) c.in-Err-try_get_matches_from.e) made kinds in
    refused_where_fault (map (λ s. s.now) c.args.words.now) c.in-Err-try_get_matches_from.e one
    (λ memory. let same = rw (c.kind.ensures ∙ memory) at c.eq.ensures in absurd (cc (sym c.if-eq.false ∙ same)))
