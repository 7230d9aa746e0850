use Rattle.std.proofs.Common.{rules, ◌≡◌, ◌∙◌, Err, Bor, List, ℕ}
use Rattle.std.proofs.lemmas.List.Folds.{list_all_at, list_all-map}
use Rattle.lr_command.specs.Words.{is_path}
use Rattle.lr_command.proofs.paths.paths_of.Goals as goal

pub returns-in_err-add_path-clause-refused : goal.returns-in_err-add_path-clause-refused
returns-in_err-add_path-clause-refused c = λ e.
    let is : c.from_residual.result ≡ Err c.in_err-add_path.field-0.0 = search rules in
    list_all-map (is_path c.args.here.now) (λ (s : Bor (List ℕ)). s.now) c.args.words.now
    ∙ list_all_at (λ (s : Bor (List ℕ)). is_path c.args.here.now s.now) c.args.words.now c.loop-word.word-index _ c.loop-word-test.true (c.in_err-add_path.ensures.refused (cc (is, e)))
