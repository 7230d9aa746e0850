use Rattle.std.proofs.Common.{List, [], false, sym, ap, ◌∙◌, append-nil}
use Rattle.lr_rules.specs.Path.{last_of}
use Rattle.lr_match.specs.Taboos.{first_taboo}
use Rattle.lr_conf.specs.Meaning.{ConfLine, banned}
use Rattle.lr_include.proofs.Stages.{barred}
use Rattle.lr_include.proofs.course.Course.is_barred.Goals as goal

pub returns : goal.returns
returns c = λ s st.
    barred c.bars.result c.taboo.result.now (banned false first_taboo s.lines) c.as_str.result.now (last_of c.args.path.now)
    (c.taboo.ensures ∙ (sym (st.knows.bans []) ∙ ap (λ (ls : List ConfLine). banned false first_taboo ls) (append-nil s.lines)))
    (c.as_str.ensures ∙ c.in_ok-name.ensures) c.bars.ensures
