-- What is given of a zone fixes its offset at each instant.
use Rattle.std.proofs.Common.{◌≡◌, ◌+◌, ◌-◌, ◌==◌, pos, vec_len, Result, ℕ, ℤ, Bool, true, false, List, [], ◌∷◌, map, length, get_or, Option, None, Some, Ok, option_map, cond, if◌then◌else◌, refl, sym, ap, ◌∙◌}
use Rattle.std.specs.Prelude.{int_le}
use Rattle.std.specs.List.{prefix_len}
use Rattle.std.proofs.Math.ListN.{get_or-map}
use Rattle.std.proofs.lemmas.List.{length-map}
use Rattle.std.proofs.lemmas.Option.{same_Some}
use Rattle.jiff_core.specs.declared.Offset.{Offset}
use Rattle.jiff_tz.specs.declared.posix.Day.{Day}
use Rattle.jiff_tz.specs.declared.posix.DayTime.{DayTime}
use Rattle.jiff_tz.specs.declared.posix.Dst.{Dst}
use Rattle.jiff_tz.specs.declared.posix.TimeZone.{TimeZone as PosixTimeZone}
use Rattle.jiff_tz.specs.declared.timezone.TimeZone.{TimeZone}
use Rattle.jiff_tz.specs.declared.timezone.TimeZone.TheVariants.{Posix, Tzif}
use Rattle.jiff_tz.specs.declared.tzif.Tzif.{Tzif as Table}
use Rattle.jiff_tz.specs.declared.tzif.transition.Transition.{Transition}
use Rattle.jiff_tz.specs.PosixRule.{match_some, rule_nanos, utc_window, in_window, dst_at_by}
use Rattle.jiff_tz.specs.PosixRule as PosixRule
use Rattle.jiff_tz.specs.PosixText.{DstText, TzText, day_time_view, dst_view, tz_view}
use Rattle.jiff_tz.specs.Tzif.{floor_second, count_at, no_transition, transition_at, type_after, tzif_view}
use Rattle.jiff_tz.specs.Tzif as TableRule
use Rattle.jiff_tz.specs.TzifReader.{TzifText, read_tzif}
use Rattle.jiff_tz.specs.TzifText.{TypeText, TransitionText, type_view, transition_text}
use Rattle.jiff_tz.specs.Year.{year_of_nanos}
use Rattle.jiff_tz.specs.Zone.{offset_at}
use Rattle.lr_due.specs.declared.zone.ZoneText.{ZoneText}
use Rattle.lr_due.specs.declared.zone.ZoneText.TheVariants.{Utc, Rule, Bytes}
use Rattle.lr_due.specs.Zone.{IsZoneOf}

-- ---- rules

-- the same day and time are the same moment of each year
nanos_same : (y : ℤ) (d e : DayTime) (s t : ℤ) → day_time_view d ≡ day_time_view e → s ≡ t → rule_nanos y d s ≡ rule_nanos y e t
unfolding rule_nanos
nanos_same y d e s t h k = rw (ap (λ (v : Day × ℤ). v.0) h, ap (λ (v : Day × ℤ). v.1) h, k) refl

-- so a year has the same window of daylight saving time
window_same : (y : ℤ) (d f : Dst) (a b : Offset) → dst_view d ≡ dst_view f → a.seconds ≡ b.seconds → utc_window d y a ≡ utc_window f y b
unfolding utc_window
window_same y d f a b v h =
    rw (nanos_same y d.rule.start f.rule.start a.seconds b.seconds (ap (λ (t : DstText). t.start) v) h, nanos_same y d.rule.end f.rule.end d.offset.seconds f.offset.seconds (ap (λ (t : DstText). t.finish) v) (ap (λ (t : DstText). t.seconds) v), h) refl

-- the offset where daylight saving time is in force, or isn't
in_force : (w : Bool) (a b : Offset) (d f : Dst) → a.seconds ≡ b.seconds → d.offset.seconds ≡ f.offset.seconds
    → (match_some (if w then Some d else None) a (λ (x : Dst). x.offset)).seconds ≡ (match_some (if w then Some f else None) b (λ (x : Dst). x.offset)).seconds
in_force true a b d f h k = k
in_force false a b d f h k = h

by_dst : (a b : Offset) (x y : Option Dst) (n : ℤ) → a.seconds ≡ b.seconds → option_map dst_view x ≡ option_map dst_view y
    → (match_some (dst_at_by a x n) a (λ (d : Dst). d.offset)).seconds ≡ (match_some (dst_at_by b y n) b (λ (d : Dst). d.offset)).seconds
by_dst a b None None n h e = h
by_dst a b None (Some d) n h e = absurd (cc)
by_dst a b (Some d) None n h e = absurd (cc)
by_dst a b (Some d) (Some f) n h e =
    ap (λ (w : ℤ × ℤ). (match_some (if in_window w n then Some d else None) a (λ (x : Dst). x.offset)).seconds) (window_same (year_of_nanos n) d f a b (same_Some (dst_view d) (dst_view f) e) h)
    ∙ in_force (in_window (utc_window f (year_of_nanos n) b) n) a b d f h (ap (λ (t : DstText). t.seconds) (same_Some (dst_view d) (dst_view f) e))

-- two rules that say the same have the same offset
rules_same : (p q : PosixTimeZone) (n : ℤ) → tz_view p ≡ tz_view q → (PosixRule.offset_at p n).seconds ≡ (PosixRule.offset_at q n).seconds
rules_same p q n e = by_dst p.std_offset q.std_offset p.dst q.dst n (ap (λ (t : TzText). t.std_seconds) e) (ap (λ (t : TzText). t.dst) e)

-- ---- tables

-- how many transitions lie before is told by what they say
count_told : (ts : List Transition) (s : ℤ) → prefix_len (λ (t : Transition). int_le t.second s) ts ≡ prefix_len (λ (t : TransitionText). int_le t.second s) (map transition_text ts)
count_told [] s = refl
count_told (t ∷ ts) s = ap (λ n. cond (int_le t.second s) (1 + n) 0) (count_told ts s)

-- what stands for a row past the end of a table
abbrev past_end : TypeText → TransitionText
past_end first = record { second = pos 0; before = first.seconds; after = first }

-- the offset behind so many rows of a table
abbrev seconds_after : List TransitionText → TypeText → ℕ → ℤ
seconds_after rows first n = (if n == 0 then first else (get_or rows (n - 1) (past_end first)).after).seconds

after_told : (z : Table) (n : ℕ) → (type_after z n).offset.seconds ≡ seconds_after (map transition_text z.transitions.items) (type_view z.first) n
after_told z n = go (n == 0)
  where
    go : (b : Bool) → (if b then z.first else (transition_at z (n - 1)).after).offset.seconds ≡ (if b then type_view z.first else (get_or (map transition_text z.transitions.items) (n - 1) (past_end (type_view z.first))).after).seconds
    go true = refl
    go false = ap (λ (t : TransitionText). t.after.seconds) (sym (get_or-map transition_text z.transitions.items (n - 1) (no_transition z)))

-- the offset by the rule behind the table, where that is passed, or by the table
by_rule : (w : Bool) (o p : Option PosixTimeZone) (a b : Offset) (n : ℤ) → option_map tz_view o ≡ option_map tz_view p → a.seconds ≡ b.seconds
    → (match_some (if w then o else None) a (λ (z : PosixTimeZone). PosixRule.offset_at z n)).seconds ≡ (match_some (if w then p else None) b (λ (z : PosixTimeZone). PosixRule.offset_at z n)).seconds
by_rule false o p a b n e h = h
by_rule true None None a b n e h = h
by_rule true None (Some q) a b n e h = absurd (cc)
by_rule true (Some r) None a b n e h = absurd (cc)
by_rule true (Some r) (Some q) a b n e h = rules_same r q n (same_Some (tz_view r) (tz_view q) e)

-- two tables that say the same have the same offset
tables_same : (z w : Table) (n : ℤ) → tzif_view z ≡ tzif_view w → (TableRule.offset_at z n).seconds ≡ (TableRule.offset_at w n).seconds
tables_same z w n e =
    ap (λ (b : Bool). (match_some (if b then z.posix_tz else None) (type_after z (count_at z (floor_second n))).offset (λ (r : PosixTimeZone). PosixRule.offset_at r n)).seconds) passed
    ∙ by_rule (count_at w (floor_second n) == vec_len w.transitions) z.posix_tz w.posix_tz (type_after z (count_at z (floor_second n))).offset (type_after w (count_at w (floor_second n))).offset n (ap (λ (t : TzifText). t.rule) e) held
  where
    rows : map transition_text z.transitions.items ≡ map transition_text w.transitions.items
    rows = ap (λ (t : TzifText). t.transitions) e

    first : type_view z.first ≡ type_view w.first
    first = ap (λ (t : TzifText). t.first) e

    counted : count_at z (floor_second n) ≡ count_at w (floor_second n)
    counted = count_told z.transitions.items (floor_second n) ∙ (ap (λ (ts : List TransitionText). prefix_len (λ (t : TransitionText). int_le t.second (floor_second n)) ts) rows ∙ sym (count_told w.transitions.items (floor_second n)))

    long : vec_len z.transitions ≡ vec_len w.transitions
    long = z.transitions.ok.0 ∙ (sym (length-map z.transitions.items transition_text) ∙ (ap (λ (ts : List TransitionText). length ts) rows ∙ (length-map w.transitions.items transition_text ∙ sym w.transitions.ok.0)))

    passed : (count_at z (floor_second n) == vec_len z.transitions) ≡ (count_at w (floor_second n) == vec_len w.transitions)
    passed = rw (counted, long) refl

    held : (type_after z (count_at z (floor_second n))).offset.seconds ≡ (type_after w (count_at w (floor_second n))).offset.seconds
    held =
        after_told z (count_at z (floor_second n))
        ∙ (ap (λ (ts : List TransitionText). seconds_after ts (type_view z.first) (count_at z (floor_second n))) rows
        ∙ (ap (λ (t : TypeText). seconds_after (map transition_text w.transitions.items) t (count_at z (floor_second n))) first
        ∙ (ap (λ (k : ℕ). seconds_after (map transition_text w.transitions.items) (type_view w.first) k) counted
        ∙ sym (after_told w (count_at w (floor_second n))))))

-- ---- zones

ok_same : {E : Type 0} (r : Result TzifText E) (a b : TzifText) → r ≡ Ok a → r ≡ Ok b → a ≡ b
ok_same r a b e f = cc

-- two zones of what was given have the same offset at each instant
pub offsets_same : (text : ZoneText) (tz other : TimeZone) (n : ℤ) → IsZoneOf text tz → IsZoneOf text other → offset_at tz n ≡ offset_at other n
unfolding offset_at
offsets_same Utc tz other n a b = ap (λ (z : TimeZone). offset_at z n) (a ∙ sym b)
offsets_same (Rule text) (Posix p) (Posix q) n a b = rules_same p q n (same_Some (tz_view p) (tz_view q) (sym a ∙ b))
offsets_same (Rule text) (Posix p) _ n a b = absurd b
offsets_same (Rule text) _ other n a b = absurd a
offsets_same (Bytes bytes) (Tzif z) (Tzif w) n a b = tables_same z.now w.now n (ok_same (read_tzif bytes) (tzif_view z.now) (tzif_view w.now) a.0 b.0)
offsets_same (Bytes bytes) (Tzif z) _ n a b = absurd b
offsets_same (Bytes bytes) _ other n a b = absurd a
