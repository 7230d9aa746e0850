-- The words of an argument, from what `clap` answers for it.
use Rattle.std.proofs.Common.{◌≡◌, ◌∙◌, ap, refl, List, [], map, Option, Some, None, option_map, unwrap_or, Bor}
use Rattle.clap.specs.Words.{Text, matched_of, raw_values, rows_of}
use Rattle.clap.specs.declared.parser.matches.Found.{Found}
use Rattle.clap.proofs.WalkLemmas.{raw_values-rows}
use Rattle.lr_command.specs.Command.{words_of}

abbrev Lent : Type 0
Lent = Bor (List (Bor Text))

abbrev lent_words : Lent → List Text
lent_words s = map (λ v. v.now) s.now

unwrap_or-map : {A B : Type 0} (f : A → B) (o : Option A) (d : A) → f (unwrap_or o d) ≡ unwrap_or (option_map f o) (f d)
unwrap_or-map f None d = refl
unwrap_or-map f (Some x) d = refl

pub words_are : (f : Found) (name : Text) (o : Option Lent) (s d : Lent) → s ≡ unwrap_or o d → lent_words d ≡ [] → option_map lent_words o ≡ option_map raw_values (matched_of f name) → lent_words s ≡ words_of name (rows_of f)
words_are f name o s d is none found =
    ap lent_words is ∙ unwrap_or-map lent_words o d ∙ ap (unwrap_or (option_map lent_words o)) none ∙ ap (λ (p : Option (List Text)). unwrap_or p []) (found ∙ raw_values-rows f name)
