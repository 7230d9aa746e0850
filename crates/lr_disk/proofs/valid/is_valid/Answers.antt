use Rattle.std.proofs.Common.{◌≡◌, ◌<◌, ◌≤◌, ◌==◌, [], ◌∷◌, length, count_by, sym, ap, subst, ◌∙◌, Contains, All}
use Rattle.lr_rules.specs.Path.{parent_of}
use Rattle.lr_host.specs.Lists.{AreDistinct}
use Rattle.lr_host.specs.Opening.{opening_paths}
use Rattle.lr_disk.specs.Pairs.{keys}
use Rattle.lr_disk.proofs.OpenedLemmas.{keys_names}
use Rattle.lr_disk.proofs.ValidLemmas.{all_keys}
use Rattle.lr_disk.proofs.valid.is_valid.Goals as goal

pub returns-then-not-are_once : goal.returns-then-not-are_once
returns-then-not-are_once c = (
  (λ t. absurd (cc)),
  (λ v. sym c.if-not-are_once.true ∙ c.are_once.ensures.1 (subst AreDistinct (sym (ap keys c.requires ∙ keys_names c.args.opening.now)) v.once)),
)

pub returns-then-not-are_inside : goal.returns-then-not-are_inside
returns-then-not-are_inside c = (
  (λ t. absurd (cc)),
  (λ v.
      let paths : keys c.args.names.now ≡ opening_paths c.args.opening.now = ap keys c.requires ∙ keys_names c.args.opening.now in
      sym c.if-not-are_inside.true
      ∙ c.are_inside.ensures.1 ((all_keys (λ x. Contains c.as_slice-dirs.result.now (parent_of x)) c.args.names.now).1
      (subst (λ ds. All (λ x. Contains ds (parent_of x)) (keys c.args.names.now)) (sym c.as_slice-dirs.ensures)
      (subst (λ xs. All (λ x. Contains c.args.opening.now.dirs (parent_of x)) xs) (sym paths) v.inside)))),
)

pub returns-then-not-are_named : goal.returns-then-not-are_named
returns-then-not-are_named c = (
  (λ t. absurd (cc)),
  (λ v. sym c.if-not-are_named.true
      ∙ c.are_named.ensures.1 (λ g lt. subst (λ ns. count_by (λ n. n.1 == g) ns ≡ 1) (sym c.as_slice-named.ensures) (v.named g (subst (λ n. g < n) c.len-files.ensures lt)))),
)

pub returns : goal.returns
returns c =
    let paths : keys c.args.names.now ≡ opening_paths c.args.opening.now = ap keys c.requires ∙ keys_names c.args.opening.now in (
      (λ t. record {
        once = subst AreDistinct paths (c.are_once.ensures.0 c.if-not-are_once.false);
        root = subst (λ ds. Contains ds (47 ∷ [])) c.as_slice-dirs.ensures (c.has.ensures.0 c.if-not-has.false);
        inside = subst (λ xs. All (λ x. Contains c.args.opening.now.dirs (parent_of x)) xs) paths
            (subst (λ ds. All (λ x. Contains ds (parent_of x)) (keys c.args.names.now)) c.as_slice-dirs.ensures
            ((all_keys (λ x. Contains c.as_slice-dirs.result.now (parent_of x)) c.args.names.now).0 (c.are_inside.ensures.0 c.if-not-are_inside.false)));
        named = λ g lt. subst (λ ns. count_by (λ n. n.1 == g) ns ≡ 1) c.as_slice-named.ensures (c.are_named.ensures.0 c.if-not-are_named.false g (subst (λ n. g < n) (sym c.len-files.ensures) lt));
        known = subst (λ ns. All (λ n. n.1 < length c.args.opening.now.files) ns) c.as_slice-named.ensures
            (subst (λ k. All (λ n. n.1 < k) c.as_slice-named.result.now) c.len-files.ensures (c.are_known.ensures.0 c.if-not-are_known.false));
        held = subst (λ hs. All (λ h. h.1 < length c.args.opening.now.files) hs) c.as_slice-holds.ensures
            (subst (λ k. All (λ h. h.1 < k) c.as_slice-holds.result.now) c.len-files.ensures (c.are_held.ensures.0 c.if-not-are_held.false));
        hold_once = subst (λ hs. AreDistinct (keys hs)) c.as_slice-holds.ensures (c.hold_once.ensures.0 c.if-not-hold_once.false);
        synced = subst (λ fs. All (λ f. f.synced ≤ length f.bytes) fs) c.as_slice.ensures (c.are_synced.ensures.0 t);
      }),
      (λ v. c.are_synced.ensures.1 (subst (λ fs. All (λ f. f.synced ≤ length f.bytes) fs) (sym c.as_slice.ensures) v.synced)),
    )
