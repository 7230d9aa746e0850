use Rattle.std.proofs.Common.{List, refl, ap, ◌∙◌}
use Rattle.lr_host.specs.declared.entry.Entry.{Entry}
use Rattle.lr_host.specs.World.{Opens, then, past}
use Rattle.lr_nights.specs.Summary.{starts_in, begun_in}
use Rattle.lr_nights.proofs.Sets.{sets_exist}
use Rattle.lr_nights.proofs.tallying.tally.Goals as goal

pub returns : goal.returns
returns c =
    let j = c.args.journal.now in
    let all = sets_exist c.args.logs.now c.requires.numbered c.look_at_paths.ensures in
    let walk = c.in_ok-walk.ensures all.0 all.1 in
    let end = c.in_ok-end.ensures all.0 (past j) all.1 walk in
    let entries = c.as_slice-entries.ensures in
    record {
      summary = record {
        sets = all.0;
        of_logs = all.1;
        nights = refl;
        runs = c.in_ok-runs.ensures j.opening ∙ ap (λ (es : List Entry). starts_in (then (Opens j.opening) es)) entries;
        begun = c.in_ok-begun.ensures j.opening all.0 all.1 ∙ ap (λ (es : List Entry). begun_in all.0 (then (Opens j.opening) es)) entries;
        paths = end.0.paths;
        are_files = end.0.are;
        files = end.0.files;
        bytes = end.0.bytes;
        gone = end.1.gone;
        are_gone = end.1.are;
        released = end.1.count_is;
      };
    }
