-- What hinders the rotation of a log: nothing, or one fault.
use Rattle.std.proofs.Common.{◌≡◌, ℕ, ◌&&◌, Bool, true, false, cond, List, [], ◌∷◌, Option, Some, None, refl}
use Rattle.std.specs.Prelude.{ℤ, if◌then◌else◌}
use Rattle.std.specs.List.{list_any}
use Rattle.lr_rules.specs.declared.clock.Clock.{Clock}
use Rattle.lr_rules.specs.declared.fault.Fault.{Fault}
use Rattle.lr_rules.specs.declared.fault.Fault.TheVariants as fault
use Rattle.lr_rules.specs.declared.path.Path.{Path}
use Rattle.lr_rules.specs.declared.rule.Count.{Count}
use Rattle.lr_rules.specs.declared.rule.Format.{Format}
use Rattle.lr_rules.specs.declared.rule.Naming.{Naming}
use Rattle.lr_rules.specs.declared.rule.Rule.{Rule}
use Rattle.lr_rules.specs.declared.rule.Way.{Way}
use Rattle.lr_rules.specs.declared.rule.Way.TheVariants as way
use Rattle.lr_rules.specs.Names.{aside_path}
use Rattle.lr_host.specs.declared.thing.Kind.{Kind}
use Rattle.lr_host.specs.declared.thing.Kind.TheVariants as kind
use Rattle.lr_host.specs.declared.thing.Seen.{Seen}
use Rattle.lr_host.specs.Listing.{is_file_kind}
use Rattle.lr_family.specs.declared.stand.Member.{Member}
use Rattle.lr_family.specs.declared.stand.Stand.{Stand}
use Rattle.lr_chain.specs.Hindrances.{is_stamp, fault_at, too_high, taken_fault, stamp_hindrances, keeps_all, number_hindrances, name_hindrances, what_hinders}
use Rattle.lr_chain.specs.Ready.{is_highest, highest_path}
use Rattle.lr_plan.specs.declared.looks.LogLook.{LogLook}
use Rattle.lr_plan.specs.Planned.{is_seen_file, other_thing, or_else, takes_up, aside_by, aside_hinders, stand_for, hindrances, unfinished, due_faults}

-- the directory is there where nothing hinders
pub there_of : (n : Naming) (c : Count) (clock : Clock) (stand : Stand) → what_hinders n c clock stand ≡ [] → stand.there ≡ true
there_of n c clock stand free = go stand.there free
  where
    go : (b : Bool) → cond b (name_hindrances n.dated n c clock stand.members) (fault.NoDir n.dir ∷ []) ≡ [] → b ≡ true
    go true e = refl
    go false e = absurd (cc)

-- of numbers a path that is too high, of dates one that is too high or taken, of both the directory that isn't there
module _ (P : List Fault → Type 0) (none : P []) (high : (path : Path) → P (fault.TooHigh path ∷ [])) (had : (path : Path) → P (fault.Taken path ∷ [])) where
  at_stamp : (why : Path → Fault) → ((path : Path) → P (why path ∷ [])) → (seconds : ℤ) (serial : ℕ) (ms : List Member) → P (fault_at why seconds serial ms)
  at_stamp why one seconds serial [] = none
  at_stamp why one seconds serial (m ∷ ms) = go (is_stamp seconds serial m.place) (at_stamp why one seconds serial ms)
    where
      go : (b : Bool) → P (fault_at why seconds serial ms) → P (cond b (why m.path ∷ []) (fault_at why seconds serial ms))
      go true later = one m.path
      go false later = later

  by_numbers : (n : Naming) (c : Count) (ms : List Member) → P (number_hindrances n c ms)
  by_numbers n c ms = go (keeps_all c && list_any (is_highest n) ms)
    where
      go : (b : Bool) → P (cond b (fault.TooHigh (highest_path n) ∷ []) [])
      go true = high (highest_path n)
      go false = none

  by_stamps : (format : Format) (seconds : ℤ) (ms : List Member) → P (stamp_hindrances format seconds ms)
  by_stamps format seconds ms = go format.serial
    where
      go : (b : Bool) → P (cond b (fault_at too_high seconds 4294967295 ms) (fault_at taken_fault seconds 0 ms))
      go true = at_stamp too_high high seconds 4294967295 ms
      go false = at_stamp taken_fault had seconds 0 ms

  by_names : (d : Option Format) (n : Naming) (c : Count) (clock : Clock) (ms : List Member) → P (name_hindrances d n c clock ms)
  by_names None n c clock ms = by_numbers n c ms
  by_names (Some format) n c clock ms = by_stamps format _ ms

  pub each_hindrance : (n : Naming) (c : Count) (clock : Clock) (stand : Stand) → (stand.there ≡ false → P (fault.NoDir n.dir ∷ [])) → P (what_hinders n c clock stand)
  each_hindrance n c clock stand gone = go stand.there gone
    where
      go : (b : Bool) → (b ≡ false → P (fault.NoDir n.dir ∷ [])) → P (cond b (name_hindrances n.dated n c clock stand.members) (fault.NoDir n.dir ∷ []))
      go true missing = by_names n.dated n c clock stand.members
      go false missing = missing refl

-- ---- of a look: what hinders by the members, by what stands where the log is set aside to, and that it is taken up

pub or_else_so : (P : List Fault → Type 0) (xs ys : List Fault) → P xs → P ys → P (or_else xs ys)
or_else_so P [] ys a b = b
or_else_so P (x ∷ xs) ys a b = a

pub or_else_none : (xs ys : List Fault) → or_else xs ys ≡ [] → (xs ≡ []) × (ys ≡ [])
or_else_none [] ys e = (refl, e)
or_else_none (x ∷ xs) ys e = absurd (cc)

-- P of no fault, of another thing than a file where the log is set aside to, and of a log that is taken up
module _ (P : List Fault → Type 0) (log : Path) (none : P []) where
  thing_so : (tmp : Option Seen) → ((seen : Seen) → tmp ≡ Some seen → P (fault.NotFile (aside_path log) ∷ [])) → P (other_thing (aside_path log) tmp)
  thing_so None other = none
  thing_so (Some seen) other = go (is_file_kind seen.kind)
    where
      go : (b : Bool) → P (if b then [] else fault.NotFile (aside_path log) ∷ [])
      go true = none
      go false = other seen refl

  pub aside_so : (w : Way) (tmp : Option Seen) → ((seen : Seen) → tmp ≡ Some seen → P (fault.NotFile (aside_path log) ∷ [])) → P (aside_hinders w log tmp)
  aside_so way.Rename tmp other = none
  aside_so way.Copy tmp other = none
  aside_so way.CopyTruncate tmp other = none
  aside_so way.RenameCopy tmp other = thing_so tmp other

  pub unfinished_so : (w : Way) (tmp : Option Seen) → P (fault.Unfinished log ∷ []) → P (unfinished w log tmp)
  unfinished_so w tmp again = go (takes_up w tmp)
    where
      go : (b : Bool) → P (if b then fault.Unfinished log ∷ [] else [])
      go true = again
      go false = none

-- so of all faults of a look, where it holds of those by the members
pub faults_so : (P : List Fault → Type 0) (clock : Clock) (rule : Rule) (look : LogLook) → P [] → ((seen : Seen) → look.tmp ≡ Some seen → P (fault.NotFile (aside_path look.path) ∷ [])) → P (fault.Unfinished look.path ∷ [])
    → P (what_hinders look.family.naming rule.count clock (stand_for rule look)) → P (due_faults clock rule look)
faults_so P clock rule look none other again members =
    or_else_so P (hindrances clock rule look) _
    (or_else_so P (what_hinders look.family.naming rule.count clock (stand_for rule look)) _ members (aside_so P look.path none rule.way look.tmp other))
    (unfinished_so P look.path none rule.way look.tmp again)

-- where nothing hinders, nothing does by the members; and where a log is set aside that isn't taken up, nothing was seen there
pub free_of_members : (clock : Clock) (rule : Rule) (look : LogLook) → hindrances clock rule look ≡ [] → what_hinders look.family.naming rule.count clock (stand_for rule look) ≡ []
free_of_members clock rule look free = (or_else_none (what_hinders look.family.naming rule.count clock (stand_for rule look)) (aside_hinders rule.way look.path look.tmp) free).0

pub nothing_aside : (clock : Clock) (rule : Rule) (look : LogLook) (path : Path) → hindrances clock rule look ≡ [] → aside_by rule.way look.path look.tmp ≡ Some path → (look.tmp ≡ None) × (path ≡ aside_path look.path)
nothing_aside clock rule look path free is = by rule.way is (or_else_none (what_hinders look.family.naming rule.count clock (stand_for rule look)) (aside_hinders rule.way look.path look.tmp) free).1
  where
    by_file : (tmp : Option Seen) → (if is_seen_file tmp then None else Some (aside_path look.path)) ≡ Some path → other_thing (aside_path look.path) tmp ≡ [] → (tmp ≡ None) × (path ≡ aside_path look.path)
    by_file None e h = (refl, (let same : Some (aside_path look.path) ≡ Some path = e in cc))
    by_file (Some seen) e h = go (is_file_kind seen.kind) e h
      where
        go : (b : Bool) → (if b then None else Some (aside_path look.path)) ≡ Some path → (if b then [] else fault.NotFile (aside_path look.path) ∷ []) ≡ [] → (Some seen ≡ None) × (path ≡ aside_path look.path)
        go true e h = absurd (cc)
        go false e h = absurd (cc)

    by : (w : Way) → aside_by w look.path look.tmp ≡ Some path → aside_hinders w look.path look.tmp ≡ [] → (look.tmp ≡ None) × (path ≡ aside_path look.path)
    by way.Rename e h = absurd (cc)
    by way.Copy e h = absurd (cc)
    by way.CopyTruncate e h = absurd (cc)
    by way.RenameCopy e h = by_file look.tmp e h

-- where it is taken up, a file was seen there
pub file_aside : (rule : Rule) (look : LogLook) → takes_up rule.way look.tmp ≡ true → (rule.way ≡ way.RenameCopy) × ((seen : Seen) × (look.tmp ≡ Some seen) × (seen.kind ≡ kind.File))
file_aside rule look up = by rule.way refl up
  where
    file_kind : (k : Kind) → is_file_kind k ≡ true → k ≡ kind.File
    file_kind kind.File e = refl
    file_kind kind.Dir e = absurd (cc)
    file_kind kind.Other e = absurd (cc)

    by_file : (tmp : Option Seen) → look.tmp ≡ tmp → is_seen_file tmp ≡ true → (seen : Seen) × (look.tmp ≡ Some seen) × (seen.kind ≡ kind.File)
    by_file None same e = absurd (cc)
    by_file (Some seen) same e = (seen, same, file_kind seen.kind e)

    by : (w : Way) → rule.way ≡ w → takes_up w look.tmp ≡ true → (rule.way ≡ way.RenameCopy) × ((seen : Seen) × (look.tmp ≡ Some seen) × (seen.kind ≡ kind.File))
    by way.Rename same e = absurd (cc)
    by way.Copy same e = absurd (cc)
    by way.CopyTruncate same e = absurd (cc)
    by way.RenameCopy same e = (same, by_file look.tmp refl e)
