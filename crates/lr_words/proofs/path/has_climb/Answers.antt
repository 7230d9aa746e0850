use Rattle.std.proofs.Common.{rules, tests}
use Rattle.std.proofs.lemmas.Iterator.Search.{any_from_yields_List}
use Rattle.std.proofs.lemmas.Iterator.Splits.{YieldsList-from_slice_split}
use Rattle.lr_rules.specs.Path.{is_slash}
use Rattle.lr_words.specs.Words.{is_climb}
use Rattle.lr_words.proofs.path.has_climb.Goals as goal

pub returns : goal.returns
returns c =
    any_from_yields_List is_climb _ _ _ c.any.ensures.ran
    (YieldsList-from_slice_split _ is_slash c.args.word.now c.split.ensures.rest c.split.ensures.done c.split.ensures.closure (λ x b q k. search (rules, tests)))
    (λ x b q k. search (rules, tests))
