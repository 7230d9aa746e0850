use Rattle.std.proofs.Common.{◌≡◌, subst, List, true}
use Rattle.lr_state.specs.Table.{StateEntry, is_table}
use Rattle.lr_state.proofs.Texts.{text-says}
use Rattle.lr_state.proofs.state.written_text_is_read.Goals as goal

pub returns : goal.returns
returns c small =
    let table : is_table c.args.state.now ≡ true = subst (λ (t : List StateEntry). is_table t ≡ true) c.state.view_is c.state.invariant in
    text-says c.args.state.now table small
