-- Where entries with others between are split at one of their own.
use Rattle.std.proofs.Common.{◌≡◌, refl, List, []}
use Rattle.lr_host.specs.declared.entry.Entry.{Entry}
use Rattle.lr_host.specs.Told.{Each}
use Rattle.lr_laws_family.specs.Weave.{Weave, none, own, other}

pub weave_nil : (P : Entry → Type 0) (steps all : List Entry) → Weave P steps all → all ≡ [] → steps ≡ []
weave_nil P _ _ none e = refl
weave_nil P _ _ (own {steps = os} {all = es} x w) e = absurd (cc)
weave_nil P steps _ (other {all = es} x p w) e = absurd (cc)

-- what holds of each own and of each other entry holds of all
pub weave_each : (P Q : Entry → Type 0) (steps all : List Entry) → Weave P steps all → Each Q steps → ((e : Entry) → P e → Q e) → Each Q all
weave_each P Q _ _ none a f = tt
weave_each P Q _ _ (own {steps = os} {all = es} x w) a f = (a.0, weave_each P Q os es w a.1 f)
weave_each P Q steps _ (other {all = es} x p w) a f = (f x p, weave_each P Q steps es w a f)
