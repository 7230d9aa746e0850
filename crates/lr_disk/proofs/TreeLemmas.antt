-- What names in memory keep of one another.
use Rattle.std.proofs.Common.{◌≡◌, ◌≤◌, true, length, refl, sym, ◌∙◌, ap, subst}
use Rattle.std.specs.Prelude.{vec_capacity}
use Rattle.lr_rules.specs.declared.path.Path.{Path}
use Rattle.lr_host.specs.Lists.{AreDistinct}
use Rattle.lr_disk.specs.declared.tree.Tree.{Tree}
use Rattle.lr_disk.specs.Pairs.{keys}
use Rattle.lr_disk.specs.Names.{named_in, has_path}
use Rattle.lr_disk.specs.Pending.{pending_of, AreKnown}
use Rattle.lr_disk.specs.Tree.{IsTree, IsSameTree}
use Rattle.lr_disk.proofs.StepLemmas.{known_more}

pub same_self : (t : Tree) → IsTree t → IsSameTree t t
same_self t i = record { tree = i; named = λ x. refl; durable = λ x. refl; changes = refl }

-- tables that have more paths
pub same_wider : (s t : Tree) → IsTree s → ((x : Path) → named_in t.names.items x ≡ named_in s.names.items x) → AreDistinct (keys t.names.items)
    → ((x : Path) → named_in t.durable.items x ≡ named_in s.durable.items x) → AreDistinct (keys t.durable.items) → ((x : Path) → has_path s.durable.items x ≡ true → has_path t.durable.items x ≡ true)
    → ((x : Path) → has_path t.durable.items x ≡ true → has_path t.names.items x ≡ true) → t.changes ≡ s.changes → t.bound ≡ s.bound → t.rest ≡ s.rest → IsSameTree s t
same_wider s t i named once durable durable_once more within changes bound rest = record {
  tree = record {
    once = once;
    durable_once = durable_once;
    within = within;
    known = subst (λ v. AreKnown t.durable.items (pending_of v.items)) (sym changes) (known_more s.durable.items t.durable.items (pending_of s.changes.items) more i.known);
    no_bound = ap (λ v. v.items) bound ∙ i.no_bound;
    no_rest = ap (λ v. v.items) rest ∙ i.no_rest;
    bound_room = subst (λ v. length v.items ≤ vec_capacity t.bound) (sym changes) (subst (λ v. length s.changes.items ≤ vec_capacity v) (sym bound) i.bound_room);
    rest_room = subst (λ v. length v.items ≤ vec_capacity t.rest) (sym changes) (subst (λ v. length s.changes.items ≤ vec_capacity v) (sym rest) i.rest_room);
  };
  named = named;
  durable = durable;
  changes = ap (λ v. v.items) changes;
}
