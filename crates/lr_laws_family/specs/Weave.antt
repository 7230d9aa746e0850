-- Lists of entries within others.
use Rattle.std.specs.Prelude.{◌≡◌, List, [], ◌∷◌, ◌++◌}
use Rattle.lr_host.specs.declared.entry.Entry.{Entry}

-- P holds of some of these entries that stand together
pub record Among (P : List Entry → Type 0) (ts : List Entry) : Type 0 where
  pub before : List Entry
  pub part : List Entry
  pub after : List Entry
  pub joined : ts ≡ before ++ (part ++ after)
  pub is : P part

-- these entries are the first of the steps
abbrev pub IsFirstOf : List Entry → List Entry → Type 0
IsFirstOf steps ts = (after : List Entry) × (steps ≡ ts ++ after)

-- These entries in order, and between them entries of which P holds.
pub data Weave (P : Entry → Type 0) : List Entry → List Entry → Type 0 where
  none : Weave P [] []
  own : {steps all : List Entry} (e : Entry) → Weave P steps all → Weave P (e ∷ steps) (e ∷ all)
  other : {steps all : List Entry} (e : Entry) → P e → Weave P steps all → Weave P steps (e ∷ all)

-- A first part of the steps in order, and between them entries of which P holds.
pub record FirstWoven (P : Entry → Type 0) (steps : List Entry) (all : List Entry) : Type 0 where
  pub made : List Entry
  pub first : IsFirstOf steps made
  pub woven : Weave P made all
