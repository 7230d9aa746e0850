use Rattle.std.proofs.Common.{◌≡◌, ◌+◌, ◌-◌, ◌++◌, ℕ, map, min, take, drop, sym, ap, ◌∙◌, subst, arith}
use Rattle.lr_audited.specs.Gaps.{gap_at, places_between}
use Rattle.lr_audited.proofs.Between.{gaps_more, gaps_end}
use Rattle.lr_audited.proofs.gaps.add_between.Goals as goal

pub add_places-requires : goal.add_places-requires
add_places-requires c =
    let bound = c.place_of-place.ensures.bound in
    let many = c.count_between-count.ensures in
    let from = c.loop-member.invariant.from in
    omega (arith, bound, many, from)

pub loop-member-preserved : goal.loop-member-preserved
loop-member-preserved c = record {
  gaps = subst (λ (p : ℕ). c.add_places.new.gaps.items ++ map (gap_at c.args.log.now) (take (c.loop-member.left - c.count_between-count.result) (places_between (p + 1) (drop (c.loop-member.member-index + 1) c.args.members.now))) ≡ c.args.gaps.now.items ++ map (gap_at c.args.log.now) (take 1000 (places_between 0 c.args.members.now))) (sym c.place_of-place.ensures.place)
      (gaps_more c.args.log.now c.args.members.now c.loop-member.member-index c.member-item.result c.loop-member.from c.loop-member.left c.count_between-count.result c.loop-member.gaps.items c.add_places.new.gaps.items _ c.member-item.is c.loop-member-test.true
      (c.count_between-count.ensures ∙ ap (λ (p : ℕ). min (p - c.loop-member.from) c.loop-member.left) c.place_of-place.ensures.place) c.in_ok-add_places.ensures c.loop-member.invariant.gaps);
  from = (let bound = c.place_of-place.ensures.bound in omega (arith, bound));
}

pub returns : goal.returns
returns c = gaps_end c.args.log.now c.args.members.now c.loop-member.member-index c.loop-member.from c.loop-member.left c.loop-member.gaps.items _ c.loop-member-test.false c.loop-member.invariant.gaps
