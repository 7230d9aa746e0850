use Rattle.std.proofs.Common.{◌≡◌, List, ℕ, ◌+◌, ◌∷◌, ◌++◌, length}
use Rattle.std.specs.List.{list_any}
use Rattle.std.specs.Str.{chars}
use denote.Shadow.{shadow}
use denote.Text.{Utf8}
use Rattle.lr_rules.specs.Match.{is_close}
use Rattle.lr_match.specs.Classes.{before_close}
use Rattle.lr_match.proofs.class.behind_close.Given as goal

abbrev pub invariant-loop-c : goal.invariant-loop-c
invariant-loop-c g l = record {
  text : shadow (Utf8 l.left);
  any : list_any is_close (chars l.text) ≡ list_any is_close (chars l.left);
  back : (rest : List ℕ) → chars l.left ≡ before_close (chars l.left) ++ 93 ∷ rest → chars l.text ≡ before_close (chars l.text) ++ 93 ∷ rest;
  counted : l.steps + length (chars l.left) ≡ l.fn.steps + length (chars l.text);
}

abbrev pub decreases-loop-c : goal.decreases-loop-c
decreases-loop-c g l = length (chars l.left)
