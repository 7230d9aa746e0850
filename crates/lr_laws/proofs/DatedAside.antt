-- What lies aside of a set does nothing to it.
use Rattle.std.proofs.Common.{◌≡◌, Bool, ◌||◌, refl, ap, List, ◌∷◌}
use Rattle.lr_host.specs.declared.entry.Entry.{Entry}
use Rattle.lr_host.specs.declared.entry.Entry.TheVariants.{Starts, Renames}
use Rattle.lr_host.specs.Safe.{IsToLog}
use Rattle.lr_host.specs.Sets.{LogSet}
use Rattle.lr_laws.specs.Rotation.{IsAside}
use Rattle.lr_laws.proofs.Rising.{IsStarts}
use Rattle.lr_laws.proofs.Reach.{reach_keyless, out_log}
use Rattle.lr_laws.specs.DatedRotation.{turned_behind}

pub aside_starts : (s : LogSet) (e : Entry) → IsAside s e → IsStarts e → ⊥
aside_starts s (Starts state now rules) out st = out
aside_starts s _ out st = st

pub aside_log : (s : LogSet) (e : Entry) → IsAside s e → IsToLog s e → ⊥
aside_log s (Renames from to) out same = out_log s to out.1 same
aside_log s _ out same = same

-- what lies aside turns nothing
pub aside_turned : (s : LogSet) (turned : Bool) (e : Entry) (es : List Entry) → IsAside s e → turned_behind s turned (e ∷ es) ≡ turned_behind s turned es
aside_turned s turned (Renames from to) es out = ap (λ b. b || turned_behind s turned es) (reach_keyless s to out.1)
aside_turned s turned _ es out = refl
