use Rattle.std.proofs.Common.{◌≡◌, [], ◌≤◌, length, take}
use Rattle.lr_host.specs.declared.entry.Entry.TheVariants.{Appends}
use Rattle.lr_host.specs.Told.{Can, Onward}
use Rattle.lr_state.specs.Written.{table_text}
use Rattle.lr_writing.specs.Buffer.{HoldsBack}
use Rattle.lr_writing.proofs.text.append_table.Given as goal

abbrev pub invariant-loop-k : goal.invariant-loop-k
invariant-loop-k g l = record {
  size : length l.buffer ≡ 65_536;
  bound : l.held ≤ 65_536;
  told : HoldsBack l.path (table_text (take l.k l.table)) (take l.held l.buffer) (g.H.Host.told l.initial.host) (g.H.Host.told l.host);
  can : Can (g.H.Host.told l.host) (Appends l.path []);
  counts : Onward (g.H.Host.counts l.initial.host) (g.H.Host.counts l.host);
}
