use Rattle.std.proofs.Common.{◌≡◌, List, ℕ, ◌++◌, ◌∙◌, ap, append_assoc, Result, Ok, Err}
use Rattle.std.specs.Prelude.{OnOk}
use Rattle.lr_rules.specs.declared.rule.Piece.{Piece}
use Rattle.lr_rules.specs.declared.stamp_parts.StampParts.{StampParts}
use Rattle.lr_rules.specs.Stamps.{stamp_text}
use Rattle.lr_rules.specs.Dated.{serial_text}
use Rattle.lr_stamps.specs.Clocks.{moment_by, parts_of, stamp_of}
use Rattle.lr_stamps.proofs.member.add_stamp.Goals as goal

joined : {T E : Type 0} (r : Result T E) (old stamp serial mid new : List ℕ) → mid ≡ old ++ stamp → OnOk r (new ≡ mid ++ serial) → OnOk r (new ≡ old ++ (stamp ++ serial))
joined (Ok x) old stamp serial mid new e f = f ∙ (ap (λ (m : List ℕ). m ++ serial) e ∙ append_assoc old stamp serial)
joined (Err x) old stamp serial mid new e f = tt

pub returns : goal.returns
returns c =
    let parts : c.parts_of-parts.result ≡ parts_of (moment_by c.args.format.now.back c.args.clock.now) = c.parts_of-parts.ensures.parts ∙ ap parts_of c.moment_by.ensures.moment in
    let stamp : stamp_text c.parts_of-parts.result c.as_slice.result.now ≡ stamp_of c.args.format.now c.args.clock.now = ap (λ (p : StampParts). stamp_text p c.as_slice.result.now) parts ∙ ap (λ (ps : List Piece). stamp_text (parts_of (moment_by c.args.format.now.back c.args.clock.now)) ps) c.as_slice.ensures in
    joined c.add_serial.result c.args.name.now.items (stamp_of c.args.format.now c.args.clock.now) (serial_text c.args.serial) c.push_stamp.new.bytes.items c.add_serial.new.name.items
    (c.in_ok-push_stamp.ensures ∙ ap (λ (s : List ℕ). c.args.name.now.items ++ s) stamp) c.add_serial.ensures
