-- Two lists that begin the same entries.
use Rattle.std.proofs.Common.{◌≡◌, List, ◌++◌, sym, ap, ◌∙◌, Option, ℕ}
use Rattle.lr_rules.specs.declared.path.Path.{Path}
use Rattle.lr_host.specs.declared.entry.Entry.{Entry}
use Rattle.lr_host.specs.declared.thing.Seen.{Seen}
use Rattle.lr_host.specs.declared.entry.Entry.TheVariants as entry

-- what stands at the front of the same entries, in its own words
pub front_same : (ts us fs gs vs ws : List Entry) → ts ≡ fs → us ≡ gs → ts ++ vs ≡ us ++ ws → fs ++ vs ≡ gs ++ ws
front_same ts us fs gs vs ws p q e = sym (ap (λ l. l ++ vs) p) ∙ (e ∙ ap (λ l. l ++ ws) q)

-- two looks that are one entry saw one thing
pub saw_same : (x y : Path) (s t : Option Seen) → entry.Look x s ≡ entry.Look y t → s ≡ t
saw_same x y s t e = cc

-- two listings that are one entry told the same names
pub names_same : (x y : Path) (s t : List (List ℕ)) → entry.List x s ≡ entry.List y t → s ≡ t
names_same x y s t e = cc
