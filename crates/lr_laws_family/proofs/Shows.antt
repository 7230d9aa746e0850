-- What the looks of a stand show, wherever they stand among others.
use Rattle.std.proofs.Common.{inl, ⊎_elim, ℕ, Bool, true, refl, sym, subst, List}
use Rattle.std.specs.List.Sorted.{IsPermutation}
use Rattle.std.proofs.lemmas.List.Sorted.{Contains-permutation}
use Rattle.lr_rules.specs.declared.rule.Naming.{Naming}
use Rattle.lr_host.specs.declared.entry.Entry.{Entry}
use Rattle.lr_host.specs.declared.entry.Entry.TheVariants as entry
use Rattle.lr_host.specs.Listing.{HasListed}
use Rattle.lr_host.specs.Lists.{IsIn}
use Rattle.lr_host.specs.Looks.{Sees, IsDir}
use Rattle.lr_host.specs.Told.{Then}
use Rattle.lr_host.proofs.Lists.{in_back}
use Rattle.lr_family.specs.declared.stand.Member.{Member}
use Rattle.lr_family.specs.Among.{ShowsMembers}
use Rattle.lr_family.specs.Listed.{ShowsListing}
use Rattle.lr_family.proofs.Shown.{members_named, members_seen, others_unseen}
use Rattle.lr_laws_family.specs.Shown.{unlisted, gone, Shown}

-- where the directory was listed anywhere
pub members_shown : (n : Naming) (listed names : List (List ℕ)) (members : List Member) (ts all : List Entry) → IsPermutation listed names → IsIn (entry.List n.dir listed) all → ((e : Entry) → IsIn e ts → IsIn e all) → ShowsMembers n true names members ts → Shown n members all
members_shown n listed names members ts all same list more s = record {
  newest_first = s.newest_first;
  named = members_named n names members ts all more s;
  files = members_seen n names members ts all more s;
  others = λ x is none. ⊎_elim gone (λ never. unlisted listed list (λ name c. never name (Contains-permutation listed names name same c))) (others_unseen n names members ts all more s x is none);
}

pub stand_shown : (n : Naming) (parent : Bool) (names : List (List ℕ)) (members : List Member) (us ts all : List Entry) → ((e : Entry) → IsIn e us → IsIn e all) → ((e : Entry) → IsIn e ts → IsIn e all) → ShowsListing n.dir true parent names us → ShowsMembers n true names members ts → Shown n members all
stand_shown n parent names members us ts all before behind h s = members_shown n t.second.listed names members ts all t.second.same
    (before _ (subst (IsIn (entry.List n.dir t.second.listed)) (sym t.joined) (in_back _ t.front t.back (subst (IsIn (entry.List n.dir t.second.listed)) (sym t.second.list) (inl refl))))) behind s
  where
    t : Then (Sees n.dir IsDir) (HasListed n.dir names) us
    t = h.1
