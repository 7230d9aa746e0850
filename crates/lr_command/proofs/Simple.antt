-- The command is one that the definitions of `clap` describe whole.
use Rattle.std.proofs.Common.{◌≡◌, List, [], ◌∷◌, true, false, refl, ap, inl, inr}
use Rattle.clap.specs.Words.{Kinds, HasKind, Text, fault_of, matches_of, is_simple, is_simple_and_free, kind_of}
use Rattle.clap.specs.declared.error.Error.{Error}
use Rattle.clap.specs.declared.error.kind.ErrorKind.TheVariants.{OutOfMemory}
use Rattle.clap.proofs.OnLiterals.{clap_on_literals}
use Rattle.lr_command.specs.Command.{command, are_taken, found_in, has_no_fault}

pub command_is_simple : is_simple command ≡ true
unfolding clap_on_literals command
command_is_simple = refl

pub command_is_free : is_simple_and_free command ≡ true
unfolding clap_on_literals command
command_is_free = refl

pub taken_where_no_fault : (words : List Text) → fault_of command words ≡ [] → are_taken words ≡ true
unfolding are_taken
taken_where_no_fault words e = ap has_no_fault e

-- an error that isn't want of memory is one of some kind
some_kind : (kinds : Kinds) (e : Error) → HasKind kinds e → (kind_of e ≡ OutOfMemory → ⊥) → has_no_fault kinds ≡ false
some_kind [] e (inl memory) h = absurd (h memory)
some_kind [] e (inr none) h = absurd none
some_kind (k ∷ ks) e one h = refl

pub refused_where_fault : (words : List Text) (e : Error) → HasKind (fault_of command words) e → (kind_of e ≡ OutOfMemory → ⊥) → are_taken words ≡ false
unfolding are_taken
refused_where_fault words e one h = some_kind (fault_of command words) e one h

pub found_is : (words : List Text) → matches_of command words ≡ found_in words
unfolding found_in
found_is words = refl
