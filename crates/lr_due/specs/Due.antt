-- When a log is due: the table of its cases, and the words of their conditions.
use Rattle.std.specs.Prelude.{ℕ, ◌+◌, ◌/◌, ◌%◌, ◌==◌, ℤ, pos, negsuc, ◌-ℤ◌, Bool, true, false, not, ◌&&◌, ◌||◌, List, [], ◌∷◌}
use Rattle.std.specs.Prelude.{Option, Some, None, nat_lt, nat_le, int_lt, int_le, if◌then◌else◌, is_some}
use Rattle.std.specs.Ordering.{int_eq}
use Rattle.jiff_core.specs.Calendar.{days_from_civil, weekday_number}
use Rattle.lr_rules.specs.Between.{seconds_between}
use Rattle.lr_rules.specs.declared.civil.Civil.{Civil}
use Rattle.lr_rules.specs.declared.civil.Moment.{Moment}
use Rattle.lr_rules.specs.declared.rule.Rule.{Rule}
use Rattle.lr_rules.specs.declared.rule.Criterion.{Criterion}
use Rattle.lr_rules.specs.declared.rule.Criterion.TheVariants.{Hourly, Daily, Weekly, Monthly, Yearly, Size}
use Rattle.lr_due.specs.declared.answer.Due.{Due}
use Rattle.lr_due.specs.declared.answer.Due.TheVariants.{Yes, No}
use Rattle.lr_due.specs.declared.answer.Why.TheVariants as why
use Rattle.lr_due.specs.declared.answer.WhyNot.TheVariants as why_not

-- the whole days in so many seconds, 0 where they are below 0
abbrev pub whole_days : ℤ → ℕ
whole_days (pos seconds) = seconds / 86_400
whole_days (negsuc seconds) = 0

-- the age of a log in days
abbrev pub age_days : ℤ → ℤ → ℕ
age_days mtime now = whole_days (now -ℤ mtime)

-- an empty log, of which the rule rotates none
abbrev pub is_spared_empty : Rule → ℕ → Bool
is_spared_empty rule size = (size == 0) && not rule.ifempty

-- younger than the directive asks
abbrev pub is_young : Option ℕ → ℕ → Bool
is_young None age = false
is_young (Some days) age = nat_lt age days

-- above the size of a directive
abbrev pub is_above : Option ℕ → ℕ → Bool
is_above None size = false
is_above (Some limit) size = nat_lt limit size

-- not above the size of a directive
abbrev pub is_within : Option ℕ → ℕ → Bool
is_within None size = false
is_within (Some limit) size = nat_le size limit

-- the size of a criterion by size
abbrev pub size_limit : Criterion → Option ℕ
size_limit (Size limit) = Some limit
size_limit Hourly = None
size_limit Daily = None
size_limit (Weekly day) = None
size_limit Monthly = None
size_limit Yearly = None

-- the number of the day, where 1970-01-01 is 0
abbrev pub day_of : Civil → ℤ
day_of c = days_from_civil c.year c.month c.day

-- the day of the week, with 0 for Sunday
abbrev pub weekday_of : Civil → ℕ
weekday_of c = (weekday_number (day_of c) + 1) % 7

abbrev pub is_same_month : Civil → Civil → Bool
is_same_month a b = int_eq a.year b.year && (a.month == b.month)

abbrev pub is_same_date : Civil → Civil → Bool
is_same_date a b = is_same_month a b && (a.day == b.day)

-- how many dates a moment is past another
abbrev pub days_past : Civil → Civil → ℤ
days_past now last = day_of now -ℤ day_of last

-- the day of the week is this one; 7 is none
abbrev pub is_on_day : ℕ → Civil → Bool
is_on_day day now = nat_lt day 7 && (weekday_of now == day)

-- the hour, day, week, month or year of a criterion has passed
abbrev pub has_passed : Criterion → Civil → Civil → Bool
has_passed Hourly last now = not (is_same_date now last && (now.hour == last.hour))
has_passed Daily last now = not (is_same_date now last)
has_passed (Weekly day) last now =
    int_le (pos 7) (days_past now last)
    || (is_on_day day now && int_le (pos 1) (days_past now last))
has_passed Monthly last now = not (is_same_month now last)
has_passed Yearly last now = not (int_eq now.year last.year)
has_passed (Size limit) last now = false

-- the state has no moment for the log
abbrev pub is_unknown : Option Civil → Bool
is_unknown None = true
is_unknown (Some last) = false

-- the state's moment is more than so many civil seconds ahead
abbrev pub is_ahead : ℤ → Option Civil → Civil → Bool
is_ahead seconds None now = false
is_ahead seconds (Some last) now = int_lt seconds (seconds_between now last)

-- the criterion has turned since the state's moment
abbrev pub has_turned_since : Criterion → Option Civil → Civil → Bool
has_turned_since criterion None now = false
has_turned_since criterion (Some last) now = has_passed criterion last now

-- a case of the table: whether it applies, and its answer
abbrev pub Case : Type 0
Case = Bool × Due

-- the answer of the first case that applies
abbrev pub first_answer : List Case → Due → Due
first_answer [] otherwise = otherwise
first_answer (c ∷ cs) otherwise = if c.0 then c.1 else first_answer cs otherwise

-- the table
abbrev pub cases_of : Rule → ℕ → ℤ → Option Civil → Moment → Bool → List Case
cases_of rule size mtime last now force =
    (is_spared_empty rule size, No why_not.Empty)
    ∷ (is_young rule.minage (age_days mtime now.seconds), No why_not.Young)
    ∷ (force, Yes why.Forced)
    ∷ (is_above rule.maxsize size, Yes why.MaxSize)
    ∷ (is_above (size_limit rule.criterion) size, Yes why.Size)
    ∷ (is_some (size_limit rule.criterion), No why_not.Small)
    ∷ (is_unknown last, No why_not.Early)
    ∷ (is_ahead (pos 90_000) last now.civil, Yes why.Future)
    ∷ (is_ahead (pos 0) last now.civil, No why_not.Early)
    ∷ (not (has_turned_since rule.criterion last now.civil), No why_not.Early)
    ∷ (is_within rule.minsize size, No why_not.Small)
    ∷ []

-- whether a log is due: by the calendar where no case of the table applies
unfoldable pub due_of : Rule → ℕ → ℤ → Option Civil → Moment → Bool → Due
due_of rule size mtime last now force = first_answer (cases_of rule size mtime last now force) (Yes why.Calendar)
