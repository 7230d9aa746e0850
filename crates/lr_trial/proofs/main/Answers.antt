use Rattle.lr_trial.proofs.main.Goals as goal

pub run-requires : goal.run-requires
run-requires c = let asked = (c.trial_words.ensures c.in-Some.logs).0 c.in-Some.is in (asked.1, asked.2)
