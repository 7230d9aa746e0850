use Rattle.std.proofs.Common.{None, Some}
use Rattle.std.proofs.lemmas.Bool.Decides.{Decides-eqb}
use Rattle.std.proofs.lemmas.Slice.Eq.{strip_suffix_is}
use Rattle.lr_rules.specs.Match.{part_end}
use Rattle.lr_family.proofs.PartNames.{part_named, no_part_named}
use Rattle.lr_family.proofs.parts.is_part.Goals as goal

pub returns-in-Some : goal.returns-in-Some
returns-in-Some c = part_named c.args.naming.now c.args.name.now c.in-Some.member.now c.is_member.result (strip_suffix_is Decides-eqb c.args.name.now part_end (Some c.in-Some.member) c.in-Some.ensures.cases) c.is_member.ensures

pub returns-in-None : goal.returns-in-None
returns-in-None c = no_part_named c.args.naming.now c.args.name.now (strip_suffix_is Decides-eqb c.args.name.now part_end None c.in-None.ensures.cases)
