-- A run that has begun.
use Rattle.std.proofs.Common.{◌≡◌, List, [], ◌∷◌, refl, sym, subst, reverse, Option, ap, ◌∙◌, Bool, Ok}
use Rattle.std.specs.Prelude.{true}
use Rattle.std.proofs.lemmas.List.{reverse-reverse}
use Rattle.lr_rules.specs.declared.path.Path.{Path}
use Rattle.lr_rules.specs.declared.clock.Clock.{Clock}
use Rattle.lr_rules.specs.declared.rules.Rules.{Rules}
use Rattle.lr_host.specs.World.{Past, world, ◌▸◌, past}
use Rattle.lr_host.specs.declared.entry.Entry.{Entry}
use Rattle.lr_host.specs.Told.{IsWriters, Made, at_first, by_writer, by_tool, Are, Left, not_told, is_told, WhereTold, DidWhere}
use Rattle.lr_host.specs.declared.entry.Entry.TheVariants as entry
use Rattle.lr_host.specs.declared.journal.Journal.{Journal}
use Rattle.lr_host.specs.declared.entry.Entry.TheVariants.{Starts}
use Rattle.lr_host.specs.declared.host.CallFault.{CallFault}
use Rattle.lr_host.proofs.Left.{left_as}

-- a run goes on
abbrev pub IsOn : Past → Type 0
IsOn p = (world p).running ≡ true

pub writes_on : (p : Past) (e : Entry) → IsWriters e → IsOn p → IsOn (p ▸ e)
writes_on p (entry.Attach writer x at) i r = r
writes_on p (entry.Feed writer bytes at) i r = r
writes_on p (entry.Flush writer) i r = r
writes_on p (entry.Detach writer) i r = r
writes_on p _ i r = absurd i

pub started : (p q : Past) (state : Path) (clock : Clock) (rules : Rules) (es : List Entry) → es ≡ entry.Starts state clock.now rules ∷ [] → Made p es q → IsOn q
started p _ state clock rules _ e at_first = absurd (cc)
started p _ state clock rules es e (by_writer {q = q} {e = d} m i f) = writes_on q d i (started p q state clock rules es e m)
started p _ state clock rules _ e (by_tool {es = es} {q = q} {e = d} m i f) = subst (λ (x : Entry). IsOn (q ▸ x)) (sym same) refl
  where
    same : d ≡ entry.Starts state clock.now rules
    same = cc

pub is_on : (state : Path) (clock : Clock) (rules : Rules) {o n : Option Journal} → Left (Are (entry.Starts state clock.now rules ∷ [])) o n → WhereTold n IsOn
is_on state clock rules not_told = tt
is_on state clock rules (is_told {j = j} {k = k} {es = es} m h) = started (past j) (past k) state clock rules es (sym (reverse-reverse es) ∙ ap reverse h) m

-- the begin answered so
pub did_begin : (state : Path) (clock : Clock) (rules : Rules) (b : Bool) {o n : Option Journal} → b ≡ true → Left (DidWhere {E = CallFault} (Ok b) (Starts state clock.now rules)) o n → Left (Are (Starts state clock.now rules ∷ [])) o n
did_begin state clock rules b e l = left_as l (λ ts h. subst (λ (x : Bool). DidWhere {E = CallFault} (Ok x) (Starts state clock.now rules) ts) e h)
