use Rattle.std.proofs.Common.{◌≡◌, true, false, sym, subst}
use Rattle.std.specs.Str.{chars}
use Rattle.lr_rules.specs.Match.{Matches}
use Rattle.lr_glob.specs.Gathers.{AddsPaths}
use Rattle.lr_glob.specs.Parts.{JoinOf}
use Rattle.lr_glob.proofs.Gathering.{match_added, other_added, on_ok_as}
use Rattle.lr_glob.proofs.picking.add_match.Goals as goal

pub returns-then-matches : goal.returns-then-matches
returns-then-matches c =
    let m : Matches true (chars c.as_str.result.now) (chars c.as_str-2.result.now) = c.matches.ensures.0 c.if-matches.true in
    let n = subst (λ p. Matches true (chars p) (chars c.as_str-2.result.now)) c.as_str.ensures m in
    let o = subst (λ p. Matches true (chars c.args.part.now) (chars p)) c.as_str-2.ensures n in
    on_ok_as c.add_join.result c.add_join.ensures (λ a. match_added c.args.part.now c.args.dir.now c.args.name.now c.args.into.now.items c.add_join.new.into.items o (subst (λ b. AddsPaths (JoinOf c.args.dir.now b) c.args.into.now.items c.add_join.new.into.items) c.bytes.ensures.bytes a))

pub returns-else-matches : goal.returns-else-matches
returns-else-matches c = other_added c.args.part.now c.args.dir.now c.args.name.now c.args.into.now.items (λ o.
    let n = subst (λ p. Matches true (chars c.args.part.now) (chars p)) (sym c.as_str-2.ensures) o in
    let m = subst (λ p. Matches true (chars p) (chars c.as_str-2.result.now)) (sym c.as_str.ensures) n in
    let yes : c.matches.result ≡ true = c.matches.ensures.1 m in
    let no_one : c.matches.result ≡ false = c.if-matches.false in
    absurd (cc))
