-- What is so of a call that came to something: to its plan, its audit, or the files of its log.
use Rattle.std.specs.Prelude.{◌≡◌, Option, Some}
use Rattle.lr_host.specs.declared.journal.Journal.{Journal}

-- where it came to something, and the host tells its journals, this holds of it, between the two
abbrev pub WhereCame : {A : Type 0} → Option A → Option Journal → Option Journal → (A → Journal → Journal → Type 0) → Type 0
WhereCame {A = A} came told later P = (c : A) (before after : Journal) → came ≡ Some c → told ≡ Some before → later ≡ Some after
    → P c before after
