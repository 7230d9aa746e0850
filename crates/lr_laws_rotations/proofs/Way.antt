-- Where the file of a log stands on its way to its final path: at the log's path, or at the one beside it.
use Rattle.std.proofs.Common.{◌≡◌, ◌⊎◌, inl, inr, sym, ◌∙◌, ap, subst, Option, Some, None}
use Rattle.lr_rules.specs.declared.path.Path.{Path}
use Rattle.lr_rules.specs.declared.rule.Naming.{Naming}
use Rattle.lr_rules.specs.declared.rule.Way.{Way}
use Rattle.lr_rules.specs.declared.rule.Way.TheVariants as way
use Rattle.lr_rules.specs.Names.{aside_path, IsBesideLog}
use Rattle.lr_family.specs.Parts.{IsMember}
use Rattle.lr_laws_family.specs.Members.{IsFamily, IsNoMember}
use Rattle.lr_laws_rotations.specs.Apart.{HasNames}
use Rattle.lr_laws_rotations.specs.Own.{IsOfFamily}
use Rattle.lr_laws_rotations.specs.Target.{Target, source_by, source_of, HasWay, GoesBy}

-- each way of a rule is one of the three
pub has_way : (w : Way) (t : Target) → GoesBy w t → HasWay t
has_way way.Rename t g = inl g.0
has_way way.Copy t g = inl g.0
has_way way.CopyTruncate t g = inl g.0
has_way way.RenameCopy t g = inr g

-- the rule renames the log: to its final path, or aside
abbrev pub IsRenaming : Way → Type 0
IsRenaming way.Rename = Unit {0}
IsRenaming way.RenameCopy = Unit {0}
IsRenaming _ = ⊥

-- the log's path, or the one beside it
abbrev pub IsOnWay : Target → Path → Type 0
IsOnWay t x = (x ≡ t.log) ⊎ IsBesideLog t.log t.naming x

-- the file stands there at first
pub first_by : (t : Target) → HasWay t → IsOnWay t t.ready.log
first_by t (inl stays) = inl stays.first_is
first_by t (inr (asked, inl aside)) = inl aside.first_is
first_by t (inr (asked, inr taken)) = inr (asked, taken.first_is)

-- and there as it comes to its final path
pub source_on : (t : Target) → HasWay t → IsOnWay t (source_of t)
source_on t (inl stays) = inl (ap (λ (a : Option Path). source_by a t.ready.log) stays.aside_is ∙ stays.first_is)
source_on t (inr (asked, inl aside)) = inr (asked, ap (λ (a : Option Path). source_by a t.ready.log) aside.aside_is)
source_on t (inr (asked, inr taken)) = inr (asked, ap (λ (a : Option Path). source_by a t.ready.log) taken.aside_is ∙ taken.first_is)

-- a log that is set aside is copied
pub not_aside : (t : Target) → HasWay t → t.job ≡ None → t.aside ≡ None
not_aside t (inl stays) none = stays.aside_is
not_aside t (inr (asked, inl aside)) none = absurd (let job : None ≡ Some aside.job = sym none ∙ aside.job_is in cc)
not_aside t (inr (asked, inr taken)) none = taken.aside_is

-- where it is set aside, the path is the one beside it
pub aside_is : (t : Target) (path : Path) → HasWay t → t.aside ≡ Some path → IsBesideLog t.log t.naming path
aside_is t path (inl stays) is = absurd (let none : Some path ≡ None = sym is ∙ stays.aside_is in cc)
aside_is t path (inr (asked, inl aside)) is = (asked, (let same : Some path ≡ Some (aside_path t.log) = sym is ∙ aside.aside_is in cc))
aside_is t path (inr (asked, inr taken)) is = absurd (let none : Some path ≡ None = sym is ∙ taken.aside_is in cc)

-- and it stood at the log's before
pub stays_first : (t : Target) (path : Path) → HasWay t → t.aside ≡ Some path → t.ready.log ≡ t.log
stays_first t path (inl stays) is = stays.first_is
stays_first t path (inr (asked, inl aside)) is = aside.first_is
stays_first t path (inr (asked, inr taken)) is = absurd (let none : Some path ≡ None = sym is ∙ taken.aside_is in cc)

-- ---- none of them is a member's

module _ (t : Target) (h : HasNames t) where
  way_apart : (x : Path) → IsOnWay t x → IsNoMember t.naming x
  way_apart x (inl same) member = h.family.apart (subst (IsMember t.naming) same member)
  way_apart x (inr beside) member = h.beside beside.0 (subst (IsMember t.naming) beside.1 member)

  way_own : (x : Path) → IsOnWay t x → IsOfFamily t.log t.naming x
  way_own x (inl same) = inl same
  way_own x (inr beside) = inr (inr (inr beside))

  pub first_apart : IsNoMember t.naming t.ready.log
  first_apart = way_apart t.ready.log (first_by t h.way)

  pub source_apart : IsNoMember t.naming (source_of t)
  source_apart = way_apart (source_of t) (source_on t h.way)

  pub aside_apart : (path : Path) → t.aside ≡ Some path → IsNoMember t.naming path
  aside_apart path is = way_apart path (inr (aside_is t path h.way is))

  -- each is a name of the family
  pub first_own : IsOfFamily t.log t.naming t.ready.log
  first_own = way_own t.ready.log (first_by t h.way)

  pub source_own : IsOfFamily t.log t.naming (source_of t)
  source_own = way_own (source_of t) (source_on t h.way)

  pub aside_own : (path : Path) → t.aside ≡ Some path → IsOfFamily t.log t.naming path
  aside_own path is = way_own path (inr (aside_is t path h.way is))

-- what isn't a member's path may stand for the log's
pub family_at : (log : Path) (n : Naming) (x : Path) → IsFamily log n → IsNoMember n x → IsFamily x n
family_at log n x f away = record {
  kin = record {
    dir = f.kin.dir;
    size = f.kin.size;
    base = f.kin.base;
    ext = f.kin.ext;
    apart = λ none place at. away (inl (none, (place, at)));
  };
  format = f.format;
  dir = f.dir;
  apart = away;
}
