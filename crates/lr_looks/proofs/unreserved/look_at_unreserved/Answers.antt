use Rattle.std.proofs.Common.{sym}
use Rattle.lr_looks.specs.Found.{all_found_in}
use Rattle.lr_looks.proofs.Holding.{kept_bounds, kept_paths, kept_within}
use Rattle.lr_looks.proofs.Whole.{all_ok, all_many, all_went, all_at_words, all_at_kept, all_at_families}
use Rattle.lr_looks.proofs.unreserved.look_at_unreserved.Goals as goal

pub look_at_families-requires-clause-sets : goal.look_at_families-requires-clause-sets
look_at_families-requires-clause-sets g c = kept_within c.args.rules.now.sets c.len.result (all_found_in c.in_ok-found.found.items) (all_found_in c.in_ok-kept.kept.items) _ _ (sym c.len.ensures) c.in_ok-found.ensures.found c.in_ok-kept.ensures

pub look_at_families-requires-clause-bounds : goal.look_at_families-requires-clause-bounds
look_at_families-requires-clause-bounds g c = kept_bounds c.args.rules.now.sets (all_found_in c.in_ok-found.found.items) (all_found_in c.in_ok-kept.kept.items) _ _ c.requires c.in_ok-found.ensures.found c.in_ok-kept.ensures

pub look_at_families-requires-clause-paths : goal.look_at_families-requires-clause-paths
look_at_families-requires-clause-paths g c = kept_paths (all_found_in c.in_ok-found.found.items) (all_found_in c.in_ok-kept.kept.items) _ _ c.in_ok-found.ensures.paths c.in_ok-kept.ensures

pub returns-clause-told : goal.returns-clause-told
returns-clause-told g c = all_ok c.look_at_families.result c.args.reserved.now c.args.rules.now.sets (all_found_in c.in_ok-found.found.items) (all_found_in c.in_ok-kept.kept.items) c.args.faults.now.items c.look_at_words.new.faults.items c.keep.new.faults.items c.look_at_families.new.faults.items c.len.result _
    c.in_ok-found.ensures.texts c.in_ok-found.ensures.paths c.in_ok-found.ensures.told c.in_ok-kept.ensures c.look_at_families.ensures.told c.look_at_families.ensures.kept c.look_at_families.ensures.many c.len.ensures

pub returns-clause-went : goal.returns-clause-went
returns-clause-went g c = all_went c.look_at_families.result c.args.reserved.now
    (all_found_in c.in_ok-found.found.items) (all_found_in c.in_ok-kept.kept.items) c.args.faults.now.items
    c.look_at_words.new.faults.items c.keep.new.faults.items c.look_at_families.new.faults.items _ _ _
    c.in_ok-found.ensures.went c.in_ok-kept.ensures c.look_at_families.ensures.went

pub returns-clause-some : goal.returns-clause-some
returns-clause-some g c = all_at_families c.look_at_families.result c.args.reserved.now c.args.rules.now.sets (all_found_in c.in_ok-found.found.items) (all_found_in c.in_ok-kept.kept.items) c.args.faults.now.items c.look_at_words.new.faults.items c.keep.new.faults.items _
    c.in_ok-found.ensures.told c.in_ok-kept.ensures c.look_at_families.ensures.some

pub returns-in_err-found-clause-some : goal.returns-in_err-found-clause-some
returns-in_err-found-clause-some g c = all_at_words c.from_residual.result c.args.reserved.now c.args.rules.now.sets c.in_err-found.ensures.some

pub returns-in_err-kept-clause-some : goal.returns-in_err-kept-clause-some
returns-in_err-kept-clause-some g c = all_at_kept c.from_residual-in_err-kept.result c.args.reserved.now c.args.rules.now.sets c.args.faults.now.items c.look_at_words.new.faults.items (all_found_in c.in_ok-found.found.items) c.in_ok-found.ensures.told

pub returns-clause-many : goal.returns-clause-many
returns-clause-many g c = all_many c.look_at_families.result c.args.rules.now.sets c.len.result c.look_at_families.ensures.many c.len.ensures
