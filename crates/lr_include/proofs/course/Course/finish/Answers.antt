use Rattle.std.proofs.Common.{List, [], false, ap, ◌∙◌, append-nil}
use Rattle.lr_conf.specs.Meaning.{ConfLine, meaning}
use Rattle.lr_include.proofs.Stages.{finished}
use Rattle.lr_include.proofs.course.Course.finish.Goals as goal

pub returns : goal.returns
returns c = λ s st. finished c.args.self.layer c.args.self.faults.items c.from_vec-2.result c.finish-rules.result.0.sets c.from_vec.result c.finish-rules.ensures.rules (c.from_vec.ensures ∙ c.finish-rules.ensures.notices) c.from_vec-2.ensures ∙ (st.knows.means [] ∙ ap (λ (ls : List ConfLine). meaning false [] ls) (append-nil s.lines))
