-- A list that is made from its front on: what is still to come gives up its first part.
use Rattle.std.proofs.Common.{◌≡◌, List, ◌++◌, ◌∙◌, append_assoc}

pub moved : {X : Type 0} (front more rest all : List X) → front ++ (more ++ rest) ≡ all → (front ++ more) ++ rest ≡ all
moved front more rest all e = append_assoc front more rest ∙ e
