-- What looks show of a numbered family by its members' places they show of it as of any family.
use Rattle.std.proofs.Common.{◌≡◌, inl, inr, ℕ, ◌+◌, sym, ◌∙◌, ap, subst, List, None}
use Rattle.std.specs.Prelude.{All, Contains}
use Rattle.lr_rules.specs.declared.path.Path.{Path}
use Rattle.lr_rules.specs.declared.rule.Naming.{Naming}
use Rattle.lr_rules.specs.Names.{IsMemberAt}
use Rattle.lr_stamps.proofs.Members.{joined_same}
use Rattle.lr_host.specs.declared.entry.Entry.{Entry}
use Rattle.lr_host.specs.declared.entry.Entry.TheVariants as entry
use Rattle.lr_host.specs.Lists.{IsIn}
use Rattle.lr_family.specs.declared.stand.Member.{Member}
use Rattle.lr_family.specs.Named.{member_name}
use Rattle.lr_family.specs.Parts.{IsMember}
use Rattle.lr_family.specs.Spots.{path_at}
use Rattle.lr_family.specs.Stands.{AreNewestFirst}
use Rattle.lr_family.specs.Places.{AreNamed}
use Rattle.lr_family.proofs.Names.{no_format}
use Rattle.lr_family.proofs.Shown.{not_none}
use Rattle.lr_family.specs.Looks.{WasSeen}
use Rattle.lr_chain.specs.Rotation.{places_of}
use Rattle.lr_laws_rotations.proofs.Places as places
use Rattle.lr_laws_family.specs.Members.{NoMemberHas}
use Rattle.lr_laws_family.specs.Shown.{IsUnseen, unlisted, gone, no_dir, Shown}
use Rattle.lr_laws_family.proofs.Picking.{named_all}
use Rattle.lr_laws_family.proofs.Numbers.{at_number, member_at}

module _ (n : Naming) (none : n.dated ≡ None) where
  -- what is known of the members by their places, and of each that a look saw it, is what looks show of a family
  module _ (members : List Member) (ts : List Entry) (named : AreNamed n members) (old : places.Shown n (places_of members) ts) where
    unseen : (x : Path) → IsMember n x → NoMemberHas members x → IsUnseen n.dir x ts
    unseen x is out = by_old (old.others k.0 k.1.bound absent)
      where
        numbered : IsMember n x → (place : ℕ) × IsMemberAt n place x
        numbered (inl m) = m.1
        numbered (inr d) = absurd (no_format n.dated none d.2.dated)

        k : (place : ℕ) × IsMemberAt n place x
        k = numbered is

        absent : Contains (places_of members) k.0 → ⊥
        absent c =
            let m = member_at n none members k.0 c in
            let a = at_number n none m.0.place m.0.path (named_all n members m.0 named m.1) in
            not_none x m.0 members out m.1 (a.1 ∙ (ap (path_at n) m.2 ∙ sym k.1.named))

        by_old : places.IsUnseen n k.0 ts → IsUnseen n.dir x ts
        by_old (places.unlisted listed look absent) = unlisted listed look (λ name c same. absent (subst (Contains listed) (joined_same n.dir name (member_name n (n.start + k.0)) (sym same ∙ k.1.named)) c))
        by_old (places.gone h) = gone (subst (λ (y : Path). IsIn (entry.Look y None) ts) (sym k.1.named) h)
        by_old (places.no_dir h) = no_dir h

    pub shown_so : AreNewestFirst members → All (WasSeen ts) members → Shown n members ts
    shown_so newest_first files = record {
      newest_first = newest_first;
      named = named;
      files = files;
      others = unseen;
    }
