use Rattle.lr_glob.specs.Words.{WordGave, Halted}
use Rattle.lr_glob.proofs.Giving.{comes, comes_stopped, stopped_short, word_as}
use Rattle.lr_glob.proofs.word.expand.Goals as goal

pub returns-in-Ok-clause-told : goal.returns-in-Ok-clause-told
returns-in-Ok-clause-told g c = comes (λ l. l.items) c.args.word.now c.args.room c.in-Ok.found.items c.judge.result _ _
    (word_as (λ w ts. WordGave w c.in-Ok.found.items ts) c.bytes.result.now c.args.word.now c.bytes.ensures.bytes c.in-Ok.ensures.told) c.judge.ensures.ok

pub returns-in-Ok-clause-stopped : goal.returns-in-Ok-clause-stopped
returns-in-Ok-clause-stopped g c = comes_stopped c.args.word.now c.args.room c.in-Ok.found.items c.judge.result _ _
    (word_as (λ w ts. WordGave w c.in-Ok.found.items ts) c.bytes.result.now c.args.word.now c.bytes.ensures.bytes c.in-Ok.ensures.told) c.judge.ensures.stopped c.judge.ensures.no_call

pub returns-in-Err-clause-stopped : goal.returns-in-Err-clause-stopped
returns-in-Err-clause-stopped g c = stopped_short c.args.word.now c.args.room c.in-Err.stop (word_as (λ w ts. Halted w c.in-Err.stop ts) c.bytes.result.now c.args.word.now c.bytes.ensures.bytes c.in-Err.ensures.stopped)
