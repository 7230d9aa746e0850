use Rattle.std.proofs.Common.{rules, tests}
use Rattle.lr_rules.proofs.Joined.{fault_is}
use Rattle.lr_rules.proofs.form.joined_fault.Goals as goal

pub returns-then-has_bad_byte : goal.returns-then-has_bad_byte
returns-then-has_bad_byte c = fault_is c.args.dir.now c.args.last.now _ c.requires.path c.requires.text (search (rules, tests))

pub returns-then-joined_len-gt4096 : goal.returns-then-joined_len-gt4096
returns-then-joined_len-gt4096 c = fault_is c.args.dir.now c.args.last.now _ c.requires.path c.requires.text (search (rules, tests))

pub returns-then-joined_empty : goal.returns-then-joined_empty
returns-then-joined_empty c = fault_is c.args.dir.now c.args.last.now _ c.requires.path c.requires.text (search (rules, tests))

pub returns-then-any_dots : goal.returns-then-any_dots
returns-then-any_dots c = fault_is c.args.dir.now c.args.last.now _ c.requires.path c.requires.text (search (rules, tests))

pub returns-else-any_dots : goal.returns-else-any_dots
returns-else-any_dots c = fault_is c.args.dir.now c.args.last.now _ c.requires.path c.requires.text (search (rules, tests))
