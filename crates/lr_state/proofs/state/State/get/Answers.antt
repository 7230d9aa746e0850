use Rattle.std.proofs.Common.{◌∙◌, ap, List}
use Rattle.lr_state.specs.Table.{StateEntry, moment_of}
use Rattle.lr_state.proofs.Views.{lookup-shown}
use Rattle.lr_state.proofs.state.State.get.Goals as goal

pub returns : goal.returns
returns c =
    c.copied.ensures ∙ c.get.ensures.value ∙ lookup-shown c.args.name.now c.self.inside.entries.entries
    ∙ ap (λ (es : List StateEntry). moment_of es c.args.name.now) c.self.view_is
