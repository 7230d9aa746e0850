use Rattle.std.proofs.Common.{rules, ◌≡◌, to_z, of_z, w64, refl, sym, ap, subst, ◌∙◌}
use Rattle.lr_host.specs.declared.entry.Entry.TheVariants as entry
use Rattle.lr_host.specs.World.{effect}
use Rattle.lr_disk.specs.State.{ShowsWorld, made_world}
use Rattle.lr_disk.proofs.StateLemmas.{renames_is, unlinks_is, directory_is, settles_is, starts_is, makes_is, shows_rest}
use Rattle.lr_disk.proofs.apply.apply_call.Goals as goal

pub returns-in-Renames : goal.returns-in-Renames
returns-in-Renames c = λ w shows. renames_is c.args.state.now _ w _ c.in-Renames.from c.in-Renames.to c.in-Renames.is shows c.requires.ready c.change.ensures refl refl refl

pub returns-in-Unlinks : goal.returns-in-Unlinks
returns-in-Unlinks c = λ w shows. unlinks_is c.args.state.now _ w _ c.in-Unlinks.path c.in-Unlinks.is shows c.requires.ready c.change-in-Unlinks.ensures refl refl refl

pub returns-in-MakesDir : goal.returns-in-MakesDir
returns-in-MakesDir c = λ w shows. directory_is c.args.state.now _ w _ c.in-MakesDir.path c.in-MakesDir.mode c.in-MakesDir.is shows c.requires.ready c.change-in-MakesDir.ensures refl refl refl

pub returns-in-SyncsDir : goal.returns-in-SyncsDir
returns-in-SyncsDir c = λ w shows. settles_is c.args.state.now _ w _ c.in-SyncsDir.path c.in-SyncsDir.is shows c.sync_names.ensures refl refl refl

pub returns-in-Starts : goal.returns-in-Starts
returns-in-Starts c = λ w shows.
    let at : to_z w64 (of_z w64 c.in-Starts.now.seconds) ≡ c.in-Starts.now.seconds = search rules in
    starts_is c.args.state.now _ w _ c.in-Starts.state c.in-Starts.now c.in-Starts.rules c.in-Starts.is shows refl refl refl at

pub returns-in-Makes : goal.returns-in-Makes
returns-in-Makes c = λ w shows.
    let at : to_z w64 (of_z w64 c.args.state.now.moment) ≡ c.args.state.now.moment = search rules in
    makes_is c.args.state.now c.draw.new.state w _ c.in-Makes.path c.in-Makes.mode c.in-Makes.is shows c.requires.ready (λ v x can s. subst (λ z. ShowsWorld c.draw.new.state (made_world v x z c.in-Makes.mode)) at (c.draw.ensures.made v x can s))

pub returns-in-Appends : goal.returns-in-Appends
returns-in-Appends c = λ w shows. subst (λ e. ShowsWorld c.append.new.state (effect w e)) (sym (c.in-Appends.is ∙ ap (λ b. entry.Appends c.in-Appends.path b) (sym c.as_slice.ensures))) (c.append.ensures w shows)

pub returns-in-Truncates : goal.returns-in-Truncates
returns-in-Truncates c = λ w shows. subst (λ e. ShowsWorld c.truncate.new.state (effect w e)) (sym c.in-Truncates.is) (c.truncate.ensures w shows)

pub returns-in-SyncsFile : goal.returns-in-SyncsFile
returns-in-SyncsFile c = λ w shows. subst (λ e. ShowsWorld c.sync_file.new.state (effect w e)) (sym c.in-SyncsFile.is) (c.sync_file.ensures w shows)

pub returns-in_default : goal.returns-in_default
returns-in_default c = λ w shows.
    shows_rest c.args.state.now w _ c.requires.tools shows c.in_default.not-Starts c.in_default.not-Renames c.in_default.not-Makes c.in_default.not-Appends c.in_default.not-Truncates c.in_default.not-Unlinks c.in_default.not-SyncsFile c.in_default.not-SyncsDir c.in_default.not-MakesDir
