-- What a call asks of its plan.
use Rattle.std.specs.Prelude.{Bool}
use Rattle.lr_rules.specs.declared.path.Path.{Path}

-- whether logs are rotated that aren't due by their rules, and the program that mails files
pub record Asked : Type 0 where
  pub force : Bool
  pub mailer : Path

abbrev pub asking : Bool → Path → Asked
asking force mailer = record { force = force; mailer = mailer }
