use Rattle.lr_glob.proofs.Giving.{literal_told, literal_stopped, literal_none, halted_none}
use Rattle.lr_glob.proofs.word.literal_found.Goals as goal

pub returns-in-Ok-Some-clause-told : goal.returns-in-Ok-Some-clause-told
returns-in-Ok-Some-clause-told g c = literal_told (λ l. l.items) c.args.word.now c.in-Ok-Some.path c.look_at_literal.result _ _ c.requires.plain (rw c.in-Ok-Some.field-0-is at c.in-Ok-Some.ensures) c.look_at_literal.ensures.told

pub returns-in-Ok-Some-clause-stopped : goal.returns-in-Ok-Some-clause-stopped
returns-in-Ok-Some-clause-stopped g c = literal_stopped c.args.word.now c.in-Ok-Some.path c.look_at_literal.result _ _ c.requires.plain (rw c.in-Ok-Some.field-0-is at c.in-Ok-Some.ensures) c.look_at_literal.ensures.stopped

pub returns-in-Ok-None-clause-told : goal.returns-in-Ok-None-clause-told
returns-in-Ok-None-clause-told g c = literal_none c.args.word.now c.new.result.items _ c.requires.plain (rw c.in-Ok-None.field-0-is at c.in-Ok-None.ensures) c.new.ensures.items

pub returns-in-Err-clause-stopped : goal.returns-in-Err-clause-stopped
returns-in-Err-clause-stopped g c = halted_none c.args.word.now _
