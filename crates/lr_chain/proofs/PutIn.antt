-- A ready rotation with the members' parts put in.
use Rattle.std.proofs.Common.{◌≡◌, ℕ, List, map}
use Rattle.lr_rules.specs.declared.rule.Count.{Count}
use Rattle.lr_rules.specs.declared.rule.Naming.{Naming}
use Rattle.lr_scripts.specs.declared.removal.Removal.{Removal}
use Rattle.lr_chain.specs.declared.ready.Move.{Move}
use Rattle.lr_chain.specs.declared.ready.Ready.{Ready}
use Rattle.lr_chain.specs.Ready.{removal_at, move_from, with_members}
use Rattle.lr_chain.specs.Rotation.{leftovers as left_over, kept, retired}

-- the same rotation, with these parts
abbrev pub with_parts : Ready → List Removal → List Move → List Removal → Ready
with_parts ready leftovers moves retire = record { leftovers = leftovers; dir = ready.dir; moves = moves; log = ready.log; target = ready.target; make = ready.make; retire = retire }

same_parts : (ready : Ready) (l k : List Removal) (m o : List Move) (r s : List Removal) → l ≡ k → m ≡ o → r ≡ s → with_parts ready l m r ≡ with_parts ready k o s
same_parts ready l k m o r s a b c = cc

pub put_in : (n : Naming) (c : Count) (places from : List ℕ) (ready : Ready) (l : List Removal) (m : List Move) (r : List Removal) → l ≡ map (removal_at n) (left_over c places) → m ≡ map (move_from n) (kept c places) → r ≡ map (removal_at n) (retired c from)
    → with_parts ready l m r ≡ with_members n c places from ready
put_in n c places from ready l m r a b d = same_parts ready l _ m _ r _ a b d
