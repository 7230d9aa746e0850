use Rattle.std.proofs.Common.{List, sym, subst, ◌∙◌, take}
use Rattle.std.proofs.lemmas.List.{take_all}
use Rattle.lr_host.specs.declared.entry.Entry.{Entry}
use Rattle.lr_host.specs.World.{Past, Opens, then}
use Rattle.lr_nights.specs.Walk.{IsWalk}
use Rattle.lr_nights.proofs.Entries.{then_more, journal_before}
use Rattle.lr_nights.proofs.walking.walk_through.Goals as goal

pub begin-requires-clause-valid : goal.begin-requires-clause-valid
begin-requires-clause-valid c = journal_before (Opens c.args.journal.now.opening) c.args.journal.now.entries c.requires.journal

pub loop-entry-preserved : goal.loop-entry-preserved
loop-entry-preserved c = λ sets are.
    let o = c.args.journal.now.opening in
    let es = c.as_slice-entries.result.now in
    let i = c.loop-entry.entry-index in
    subst (λ (q : Past). IsWalk sets q c.follow.new.walk) (sym (then_more (Opens o) es i c.entry-item.result c.loop-entry-test.true c.entry-item.is)) (c.in_ok-follow.ensures sets (then (Opens o) (take i es)) are (c.loop-entry.invariant sets are))

pub returns : goal.returns
returns c = λ sets are.
    let o = c.args.journal.now.opening in
    let es = c.as_slice-entries.result.now in
    let all = take_all c.loop-entry.entry-index es c.loop-entry-test.false ∙ c.as_slice-entries.ensures in
    subst (λ (xs : List Entry). IsWalk sets (then (Opens o) xs) c.loop-entry.walk) all (c.loop-entry.invariant sets are)
