use Rattle.std.proofs.Common.{◌≡◌, List, ℕ, length, drop, sym, ap, subst, ◌∙◌}
use Rattle.std.proofs.Math.Seq.{drop-append_seam}
use Rattle.std.proofs.lemmas.List.{take_rest}
use Rattle.lr_host.specs.declared.entry.Entry.TheVariants as entry
use Rattle.lr_host.specs.Fits.{Fits, AreNamesIn}
use Rattle.lr_disk.specs.State.{with_entry}
use Rattle.lr_host.specs.World.{world, past, names}
use Rattle.lr_disk.specs.Names.{named_in, listed_in}
use Rattle.lr_disk.proofs.JournalLemmas.{on_match}
use Rattle.lr_disk.proofs.ListingLemmas.{agreeing_are}
use Rattle.lr_disk.proofs.disk.Disk.list.Goals as goal

pub leave-requires : goal.leave-requires
leave-requires c =
    let listed : List (List ℕ) = listed_in c.args.dir.now c.deref.result.now in
    let all : drop (length c.args.into.now.items) c.add_names.new.into.items ≡ listed = ap (drop (length c.args.into.now.items)) c.in_ok-add_names.ensures.ok ∙ drop-append_seam c.args.into.now.items listed in
    let told = take_rest c.deref-2.result.now c.len-start.result ∙ (ap (drop c.len-start.result) c.deref-2.ensures.value ∙ ap (λ n. drop n c.add_names.new.into.items) (c.len-start.ensures ∙ c.args.into.now.ok.0)) in
    let is = c.in_ok-entry.ensures ∙ ap (λ ns. entry.List c.args.dir.now ns) told in
    let are : AreNamesIn (names (world (past c.args.self.now))) c.args.dir.now listed =
    agreeing_are (named_in c.deref.result.now) (names (world (past c.args.self.now))) c.args.dir.now listed (λ x. let n = c.self.invariant.shows.named x in cc) c.in_ok-add_names.ensures.all in
    subst (Fits (world (past c.args.self.now))) (sym is) (c.requires, subst (AreNamesIn (names (world (past c.args.self.now))) c.args.dir.now) (sym all) are)

pub returns-clause-ok : goal.returns-clause-ok
returns-clause-ok c =
    let listed : List (List ℕ) = listed_in c.args.dir.now c.deref.result.now in
    let all : drop (length c.args.into.now.items) c.add_names.new.into.items ≡ listed = ap (drop (length c.args.into.now.items)) c.in_ok-add_names.ensures.ok ∙ drop-append_seam c.args.into.now.items listed in
    let told = take_rest c.deref-2.result.now c.len-start.result ∙ (ap (drop c.len-start.result) c.deref-2.ensures.value ∙ ap (λ n. drop n c.add_names.new.into.items) (c.len-start.ensures ∙ c.args.into.now.ok.0)) in
    let is = c.in_ok-entry.ensures ∙ ap (λ ns. entry.List c.args.dir.now ns) told in
    let are : AreNamesIn (names (world (past c.args.self.now))) c.args.dir.now listed =
    agreeing_are (named_in c.deref.result.now) (names (world (past c.args.self.now))) c.args.dir.now listed (λ x. let n = c.self.invariant.shows.named x in cc) c.in_ok-add_names.ensures.all in
    on_match _ _ _ c.leave.result c.leave.ensures (λ l. (l ∙ ap (with_entry c.args.self.now) is, (c.requires, subst (AreNamesIn (names (world (past c.args.self.now))) c.args.dir.now) (sym all) are)))
