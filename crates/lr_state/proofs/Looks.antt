-- What one look finds.
use Rattle.std.proofs.Common.{◌≡◌, false, refl, sym, ap, ◌∙◌, [], ◌∷◌, Option, Some, None, Ok, Err}
use Rattle.lr_rules.specs.declared.path.Path.{Path}
use Rattle.lr_host.specs.declared.thing.Kind.{Kind}
use Rattle.lr_host.specs.declared.thing.Seen.{Seen}
use Rattle.lr_host.specs.declared.entry.Entry.TheVariants as entry
use Rattle.lr_host.specs.declared.journal.Journal.{Journal}
use Rattle.lr_host.specs.Told.{Left}
use Rattle.lr_host.proofs.Left.{left_as}
use Rattle.lr_state.specs.declared.look.LookStop.TheVariants as stop
use Rattle.lr_state.specs.Internal.{FindsState}
use Rattle.lr_state.specs.Sights.{Failed, Nothing, Saw, found_kind}

-- it failed
pub finds_failed : (path : Path) {o n : Option Journal} → Left (λ ts. ts ≡ []) o n → Left (FindsState path (Err stop.Call)) o n
finds_failed path l = left_as l (λ ts e. record { sight = Failed; entries = e; found_is = refl })

-- it saw nothing
pub finds_nothing : (path : Path) (look : Option Seen) {o n : Option Journal} → Left (λ ts. ts ≡ entry.Look path look ∷ []) o n → look ≡ None → Left (FindsState path (Ok false)) o n
finds_nothing path look l e = left_as l (λ ts t. record { sight = Nothing; entries = t ∙ ap (λ s. entry.Look path s ∷ []) e; found_is = refl })

-- it saw a thing of this kind
pub finds_kind : (path : Path) (look : Option Seen) (seen : Seen) (kind : Kind) {o n : Option Journal} → Left (λ ts. ts ≡ entry.Look path look ∷ []) o n → look ≡ Some seen → seen.kind ≡ kind → Left (FindsState path (found_kind kind)) o n
finds_kind path look seen kind l e k = left_as l (λ ts t. record { sight = Saw seen; entries = t ∙ ap (λ s. entry.Look path s ∷ []) e; found_is = sym (ap found_kind k) })
