use Rattle.std.proofs.Common.{◌-◌, ap, ◌∙◌, List, length, Ok}
use Rattle.lr_looks.specs.declared.found.Found.{Found}
use Rattle.lr_looks.specs.Asked.{word_of}
use Rattle.lr_looks.specs.Found.{all_found_in}
use Rattle.lr_looks.proofs.Looking.{given_told, given_some, given_found, given_went, stopped_told, stopped_some, stopped_found, stopped_went}
use Rattle.lr_looks.proofs.words.look_at_word.Goals as goal

pub returns-in-Ok-clause-told : goal.returns-in-Ok-clause-told
returns-in-Ok-clause-told g c = given_told c.add_matches.result (word_of c.args.set c.args.rule.now c.args.word.now) c.room_behind-room.result c.in-Ok.matches.items c.args.faults.now.items c.add_matches.new.faults.items c.args.found.now.items (all_found_in c.add_matches.new.found.items)
    (c.room_behind-room.ensures ∙ ap (λ (fs : List Found). 16_384 - length fs) c.as_slice.ensures.value) c.in-Ok.ensures.told c.add_matches.ensures.faults c.add_matches.ensures.found

pub returns-in-Ok-clause-some : goal.returns-in-Ok-clause-some
returns-in-Ok-clause-some g c = given_some c.add_matches.result (word_of c.args.set c.args.rule.now c.args.word.now) c.room_behind-room.result c.in-Ok.matches.items c.args.found.now.items
    (c.room_behind-room.ensures ∙ ap (λ (fs : List Found). 16_384 - length fs) c.as_slice.ensures.value) c.in-Ok.ensures.told

pub returns-in-Ok-clause-found : goal.returns-in-Ok-clause-found
returns-in-Ok-clause-found g c = given_found c.add_matches.result (word_of c.args.set c.args.rule.now c.args.word.now) (Ok c.in-Ok.matches.items) (all_found_in c.args.found.now.items) (all_found_in c.add_matches.new.found.items) c.add_matches.ensures.found

pub returns-in-Ok-clause-went : goal.returns-in-Ok-clause-went
returns-in-Ok-clause-went g c = given_went c.add_matches.result (word_of c.args.set c.args.rule.now c.args.word.now)
    c.in-Ok.matches.items c.args.faults.now.items c.add_matches.new.faults.items _ _
    c.in-Ok.ensures.counts c.add_matches.ensures.faults

pub returns-in-Err-clause-told : goal.returns-in-Err-clause-told
returns-in-Err-clause-told g c = stopped_told c.add_stop.result (word_of c.args.set c.args.rule.now c.args.word.now) c.room_behind-room.result c.in-Err.why c.args.faults.now.items c.add_stop.new.faults.items c.args.found.now.items
    (c.room_behind-room.ensures ∙ ap (λ (fs : List Found). 16_384 - length fs) c.as_slice.ensures.value) c.in-Err.ensures.stopped c.add_stop.ensures.known c.add_stop.ensures.faults

pub returns-in-Err-clause-some : goal.returns-in-Err-clause-some
returns-in-Err-clause-some g c = stopped_some c.add_stop.result (word_of c.args.set c.args.rule.now c.args.word.now) c.room_behind-room.result c.in-Err.why c.args.found.now.items
    (c.room_behind-room.ensures ∙ ap (λ (fs : List Found). 16_384 - length fs) c.as_slice.ensures.value) c.in-Err.ensures.stopped

pub returns-in-Err-clause-found : goal.returns-in-Err-clause-found
returns-in-Err-clause-found g c = stopped_found c.add_stop.result (word_of c.args.set c.args.rule.now c.args.word.now) c.in-Err.why (all_found_in c.args.found.now.items)

pub returns-in-Err-clause-went : goal.returns-in-Err-clause-went
returns-in-Err-clause-went g c = stopped_went c.add_stop.result (word_of c.args.set c.args.rule.now c.args.word.now)
    c.in-Err.why c.args.faults.now.items c.add_stop.new.faults.items _ _
    c.in-Err.ensures.cause c.in-Err.ensures.counts c.add_stop.ensures.faults
