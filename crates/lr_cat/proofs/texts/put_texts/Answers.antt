use Rattle.std.proofs.Common.{arith, rules}
use Rattle.lr_cat.proofs.Putting.{can_read, can_read_on, putting_first, putting_more, putting_all, putting_stops}
use Rattle.lr_cat.proofs.texts.put_texts.Goals as goal

pub loop-file-init : goal.loop-file-init
loop-file-init g c = record { putting = putting_first c.args.files.items _ _; can = c.requires.files; room = c.requires.room; short = c.requires.short; counts = search rules; puts = omega arith }

pub put_text-requires-clause-file : goal.put_text-requires-clause-file
put_text-requires-clause-file g c = can_read c.loop-file.files.items c.pop.new.self.items c.in-Some.file _ (search rules) c.loop-file.invariant.can

pub returns-in-Err-clause-stopped : goal.returns-in-Err-clause-stopped
returns-in-Err-clause-stopped g c = putting_stops c.args.files.items c.loop-file.files.items c.pop.new.self.items c.in-Some.file c.in-Err.why c.fault_of.result (search rules) c.fault_of.ensures c.loop-file.invariant.putting c.in-Err.ensures.stopped

pub loop-file-preserved : goal.loop-file-preserved
loop-file-preserved g c = record {
  putting = putting_more c.args.files.items c.loop-file.files.items c.pop.new.self.items c.in-Some.file (search rules) c.loop-file.invariant.putting c.in-Ok.ensures.told;
  can = can_read_on c.loop-file.files.items c.pop.new.self.items c.in-Some.file (search rules) c.loop-file.invariant.can c.in-Ok.ensures.told;
  room = omega (arith, c.put_text.ensures.room, c.loop-file.invariant.room);
  short = omega (arith, c.put_text.ensures.room, c.loop-file.invariant.short);
  counts = search rules;
  puts = omega (arith, c.loop-file.invariant.puts, c.put_text.ensures.puts);
}

pub returns-clause-told : goal.returns-clause-told
returns-clause-told g c = putting_all c.args.files.items c.loop-file.files.items (search rules) c.loop-file.invariant.putting
