use Rattle.lr_copy.proofs.Stopping.{whole, stops_open, stops_fill, stops_close}
use Rattle.lr_copy.proofs.copy.copy_out.Goals as goal

pub returns-in-Err-clause-refused : goal.returns-in-Err-clause-refused
returns-in-Err-clause-refused g c = stops_open c.args.job.now c.in-Err.stop c.in-Err.ensures.refused

pub returns-in-Ok-close_copy-clause-told : goal.returns-in-Ok-close_copy-clause-told
returns-in-Ok-close_copy-clause-told g c = whole c.args.job.now c.in-Ok.copied c.in_default.ensures.told c.in-Ok.ensures.told c.in-Ok-close_copy.ensures.told

pub returns-in-Err-close_copy-clause-refused : goal.returns-in-Err-close_copy-clause-refused
returns-in-Err-close_copy-clause-refused g c = stops_close c.args.job.now c.in-Ok.copied c.in-Err-close_copy.stop c.in_default.ensures.told c.in-Ok.ensures.told c.in-Err-close_copy.ensures.refused

pub returns-in-Err-fill_part-clause-refused : goal.returns-in-Err-fill_part-clause-refused
returns-in-Err-fill_part-clause-refused g c = stops_fill c.args.job.now c.in-Err-fill_part.stop c.in_default.ensures.told c.in-Err-fill_part.ensures.refused
