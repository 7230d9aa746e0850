-- What the reading of a state shows of it, where a table is known of it and where none is.
use Rattle.std.proofs.Common.{◌≡◌, ◌≢◌, ◌⊎◌, inl, inr, ⊎_elim, ◌+◌, ◌<◌, ℕ, Bool, true, false, List, [], ◌∷◌, ◌++◌, length, Option, Some, None, Result, Ok, Err, refl, sym, ap, ◌∙◌, subst, arith}
use Rattle.std.specs.Prelude.{codes}
use Rattle.std.proofs.lemmas.Bool.{lt-ltb}
use Rattle.std.proofs.lemmas.List.{length-append}
use Rattle.lr_rules.specs.declared.fault.CallKind.TheVariants as call
use Rattle.lr_rules.specs.declared.fault.Fault.{Fault}
use Rattle.lr_rules.specs.declared.fault.Fault.TheVariants as fault
use Rattle.lr_rules.specs.declared.fault.StateKind.TheVariants as state_kind
use Rattle.lr_rules.specs.declared.path.Path.{Path}
use Rattle.lr_rules.specs.StatePath.{state_part}
use Rattle.lr_host.specs.declared.thing.Kind.{Kind}
use Rattle.lr_host.specs.declared.thing.Kind.TheVariants as kind
use Rattle.lr_host.specs.declared.thing.Seen.{Seen}
use Rattle.lr_host.specs.declared.entry.Entry.{Entry}
use Rattle.lr_host.specs.declared.entry.Entry.TheVariants as entry
use Rattle.lr_host.specs.Lists.{IsIn}
use Rattle.lr_host.proofs.Lists.{in_front, in_back, in_append}
use Rattle.lr_state.specs.Grammar.{StateSaid, TextSays, SizedTextSays}
use Rattle.lr_state.specs.declared.look.LookStop.{LookStop}
use Rattle.lr_state.specs.declared.look.LookStop.TheVariants as stop
use Rattle.lr_state.specs.declared.remembered.Remembered.{Remembered}
use Rattle.lr_state.specs.Known.{Known, state_look_fault, known_of, text_read, IsKnownBy, IsKnownOf, IsKnown}
use Rattle.lr_state.specs.ReadPieces.{Reading, Whole, Broken, bytes_of, AreSome, IsLast, IsReading, reads_from}
use Rattle.lr_state.specs.Sights.{StateSight, Failed, Nothing, Saw, StateSights, ShowsState, found, found_kind, state_look, text_entries, behind_part, part_entries, behind_state}
use Rattle.lr_laws_plan.specs.Ending.{EndsRun, MayEnd}
use Rattle.lr_laws_plan.specs.Looked.{WasLookedAt, WasReadToEnd, SawState}

-- ---- lists that have more

looked_in : (path : Path) (us ts : List Entry) → ((e : Entry) → IsIn e us → IsIn e ts) → WasLookedAt path us → WasLookedAt path ts
looked_in path us ts more w = (w.0, more (entry.Look path w.0) w.1)

text_in : (path : Path) (us ts : List Entry) → ((e : Entry) → IsIn e us → IsIn e ts) → IsIn (entry.Look path None) us ⊎ WasReadToEnd path us → IsIn (entry.Look path None) ts ⊎ WasReadToEnd path ts
text_in path us ts more (inl i) = inl (more (entry.Look path None) i)
text_in path us ts more (inr r) = inr (r.0, more (entry.Reads path r.0 []) r.1)

pub saw_in : (state : Path) (us ts : List Entry) → ((e : Entry) → IsIn e us → IsIn e ts) → SawState state us → SawState state ts
saw_in state us ts more s = record { part = looked_in (state_part state) us ts more s.part; text = text_in state us ts more s.text }

-- ---- one look

part_other : (state : Path) → state ≢ state_part state
part_other state e =
    let long : length (state ++ codes ".tmp") ≡ length state + 4 = length-append state (codes ".tmp") in
    let same : length state ≡ length (state ++ codes ".tmp") = ap length e in
    absurd (omega (arith, long, same))

-- the look of another path isn't that of this one
other_look : (x y : Path) (o : Option Seen) → x ≢ y → WasLookedAt y (entry.Look x o ∷ []) → ⊥
other_look x y o other (seen, inl e) = other (cc)
other_look x y o other (seen, inr none) = none

other_sight : (x y : Path) (s : StateSight) → x ≢ y → WasLookedAt y (state_look x s) → ⊥
other_sight x y Failed other w = w.1
other_sight x y Nothing other w = other_look x y None other w
other_sight x y (Saw seen) other w = other_look x y (Some seen) other w

-- one that found something or nothing was made
found_looked : (x : Path) (s : StateSight) (b : Bool) → found s ≡ Ok b → WasLookedAt x (state_look x s)
found_looked x Failed b e = absurd (cc)
found_looked x Nothing b e = (None, inl refl)
found_looked x (Saw seen) b e = (Some seen, inl refl)

not_gone : (k : Kind) → found_kind k ≡ Ok false → ⊥
not_gone kind.File e = absurd (cc)
not_gone kind.Dir e = absurd (cc)
not_gone kind.Other e = absurd (cc)

not_kind : (k : Kind) → found_kind k ≡ Err stop.Call → ⊥
not_kind kind.File e = absurd (cc)
not_kind kind.Dir e = absurd (cc)
not_kind kind.Other e = absurd (cc)

-- one that found nothing saw nothing, and one that found a file saw something
found_nothing : (x : Path) (s : StateSight) → found s ≡ Ok false → IsIn (entry.Look x None) (state_look x s)
found_nothing x Failed e = absurd (cc)
found_nothing x Nothing e = inl refl
found_nothing x (Saw seen) e = absurd (not_gone seen.kind e)

found_there : (x : Path) (s : StateSight) → found s ≡ Ok true → IsIn (entry.Look x None) (state_look x s) → ⊥
found_there x Failed e i = i
found_there x Nothing e i = absurd (cc)
found_there x (Saw seen) e (inl i) = absurd (cc)
found_there x (Saw seen) e (inr none) = none

-- one that failed left nothing
none_failed : (x : Path) (s : StateSight) (e : Entry) → found s ≡ Err stop.Call → IsIn e (state_look x s) → ⊥
none_failed x Failed e is i = i
none_failed x Nothing e is i = absurd (cc)
none_failed x (Saw seen) e is i = not_kind seen.kind is

-- it reads nothing
no_read : (x y : Path) (s : StateSight) (place : ℕ) (piece : List ℕ) → IsIn (entry.Reads y place piece) (state_look x s) → ⊥
no_read x y Failed place piece i = i
no_read x y Nothing place piece (inl e) = absurd (cc)
no_read x y Nothing place piece (inr none) = none
no_read x y (Saw seen) place piece (inl e) = absurd (cc)
no_read x y (Saw seen) place piece (inr none) = none

-- ---- reads

-- reads look at nothing
no_look : (x y : Path) (o : Option Seen) (place : ℕ) (pieces : List (List ℕ)) → IsIn (entry.Look y o) (reads_from x place pieces) → ⊥
no_look x y o place [] i = i
no_look x y o place (piece ∷ pieces) (inl e) = absurd (cc)
no_look x y o place (piece ∷ pieces) (inr i) = no_look x y o (place + length piece) pieces i

-- those that gave something found no end
no_end : (x : Path) (size at place : ℕ) (pieces : List (List ℕ)) → AreSome size pieces → IsIn (entry.Reads x at []) (reads_from x place pieces) → ⊥
no_end x size at place [] some i = i
no_end x size at place (piece ∷ pieces) some (inl e) =
    let empty : piece ≡ [] = cc in
    let none : length piece ≡ 0 = ap length empty in
    let long = some.0 in
    absurd (omega (arith, none, long))
no_end x size at place (piece ∷ pieces) some (inr i) = no_end x size at (place + length piece) pieces some.2 i

-- the last of them
last_read : (x : Path) (place : ℕ) (pieces : List (List ℕ)) (last : List ℕ) → (at : ℕ) × IsIn (entry.Reads x at last) (reads_from x place (pieces ++ last ∷ []))
last_read x place [] last = (place, inl refl)
last_read x place (piece ∷ pieces) last = let r = last_read x (place + length piece) pieces last in (r.0, inr r.1)

-- a text that says a table isn't too big
too_big_says : (text : List ℕ) (said : StateSaid) → 67_108_864 < length text → TextSays text said → said ≡ Err (0, state_kind.TooBig)
too_big_says [] said long says = absurd (omega (arith, long))
too_big_says (b ∷ bs) said long says = subst (λ (big : Bool). SizedTextSays big (b ∷ bs) said) (lt-ltb 67_108_864 (length (b ∷ bs)) long) says

-- so its last read found the end
said_last : (stale : Bool) (m : Remembered) (pieces : List (List ℕ)) (last : List ℕ) (said : StateSaid) → IsLast (length (bytes_of pieces)) last → TextSays (bytes_of pieces ++ last) said → Ok m ≡ known_of stale said → last ≡ []
said_last stale m pieces last said (inl e) says known = e
said_last stale m pieces last said (inr long) says known =
    let both : length (bytes_of pieces ++ last) ≡ length (bytes_of pieces) + length last = length-append (bytes_of pieces) last in
    let big : said ≡ Err (0, state_kind.TooBig) = too_big_says (bytes_of pieces ++ last) said (omega (arith, both, long)) says in
    let none : Ok m ≡ known_of stale (Err (0, state_kind.TooBig)) = known ∙ ap (known_of stale) big in
    absurd (cc)

-- ---- where a table is known

text_saw : (state : Path) (size : ℕ) (stale there : Bool) (a : StateSight) (r : Reading) (m : Remembered) → found a ≡ Ok there → IsReading size r → IsKnownBy stale (text_read state there r) (Ok m) → IsIn (entry.Look state None) (state_look state a) ⊎ WasReadToEnd state (text_entries state there r)
text_saw state size stale false a r m e i k = inl (found_nothing state a e)
text_saw state size stale true a (Whole pieces last) m e i k =
    let l = last_read state 0 pieces last in
    inr (l.0, subst (λ (piece : List ℕ). IsIn (entry.Reads state l.0 piece) (reads_from state 0 (pieces ++ last ∷ []))) (said_last stale m pieces last k.0 i.2 k.1.0 k.2) l.1)
text_saw state size stale true a (Broken pieces) m e i k = absurd (cc)

known_saw : (state : Path) (size : ℕ) (a b : StateSight) (r : Reading) (m : Remembered) (f g : Result Bool LookStop) → found a ≡ f → found b ≡ g → IsReading size r → IsKnownOf state f g r (Ok m) → SawState state (state_look state a ++ behind_state state f b r)
known_saw state size a b r m (Err why) g e d i k = absurd (cc)
known_saw state size a b r m (Ok there) (Err why) e d i k = absurd (cc)
known_saw state size a b r m (Ok there) (Ok stale) e d i k = record {
  part = looked_in (state_part state) (state_look (state_part state) b) whole
      (λ x j. in_back x (state_look state a) (behind_state state (Ok there) b r) (in_front x (state_look (state_part state) b) (behind_part state there (found b) r) j))
      (found_looked (state_part state) b stale d);
  text = by (text_saw state size stale there a r m e i k);
}
  where
    whole : List Entry
    whole = state_look state a ++ behind_state state (Ok there) b r

    read : (x : Entry) → IsIn x (text_entries state there r) → IsIn x (behind_part state there (found b) r)
    read x j = subst (λ (h : Result Bool LookStop). IsIn x (behind_part state there h r)) (sym d) j

    by : IsIn (entry.Look state None) (state_look state a) ⊎ WasReadToEnd state (text_entries state there r) → IsIn (entry.Look state None) whole ⊎ WasReadToEnd state whole
    by (inl j) = inl (in_front (entry.Look state None) (state_look state a) (behind_state state (Ok there) b r) j)
    by (inr w) = inr (
      w.0,
      in_back (entry.Reads state w.0 []) (state_look state a) (behind_state state (Ok there) b r)
          (in_back (entry.Reads state w.0 []) (state_look (state_part state) b) (behind_part state there (found b) r) (read (entry.Reads state w.0 []) w.1)),
    )

pub state_saw : (state : Path) (size : ℕ) (s : StateSights) (m : Remembered) (ts : List Entry) → IsKnown state s (Ok m) → ShowsState state size s ts → SawState state ts
state_saw state size s m ts k h = subst (SawState state) (sym h.entries) (known_saw state size s.state s.part s.reading m (found s.state) (found s.part) refl refl h.reading k)

-- ---- where nothing is known, why

-- The fault ends a run; or a look or a read failed, and the state wasn't seen.
abbrev pub IsWhy : Path → Fault → List Entry → Type 0
IsWhy state f ts = EndsRun state f ⊎ (MayEnd state f × (SawState state ts → ⊥))

same_fault : (k : Known) (f g : Fault) → k ≡ Err f → k ≡ Err g → f ≡ g
same_fault k f g a b = cc

known_or_not : (k : Known) (f : Fault) (r : Remembered) → k ≡ Err f → k ≡ Ok r → ⊥
known_or_not k f r a b = absurd (cc)

pub ends_as : (state : Path) (f g : Fault) → f ≡ g → EndsRun state g → EndsRun state f
ends_as state f g is h = subst (EndsRun state) (sym is) h

said_why : (state : Path) (stale : Bool) (said : StateSaid) (f : Fault) (k : Known) → k ≡ Err f → k ≡ known_of stale said → EndsRun state f
said_why state stale (Ok table) f k is e = absurd (known_or_not k f (record { table = table; stale = stale }) is e)
said_why state stale (Err bad) f k is e = ends_as state f (fault.State bad.0 bad.1) (same_fault k f (fault.State bad.0 bad.1) is e) tt

-- a read failed: none found the end, and a file stood there
broken_saw : (state : Path) (size : ℕ) (a b : StateSight) (pieces : List (List ℕ)) → found a ≡ Ok true → AreSome size pieces → SawState state (state_look state a ++ (state_look (state_part state) b ++ reads_from state 0 pieces)) → ⊥
broken_saw state size a b pieces e some s = ⊎_elim gone read s.text
  where
    gone_part : IsIn (entry.Look state None) (state_look (state_part state) b) → ⊥
    gone_part i = other_sight (state_part state) state b (λ same. part_other state (sym same)) (None, i)

    gone : IsIn (entry.Look state None) (state_look state a ++ (state_look (state_part state) b ++ reads_from state 0 pieces)) → ⊥
    gone i = ⊎_elim (λ j. found_there state a e j)
        (λ j. ⊎_elim gone_part (λ k. no_look state state None 0 pieces k) (in_append (entry.Look state None) (state_look (state_part state) b) (reads_from state 0 pieces) j))
        (in_append (entry.Look state None) (state_look state a) (state_look (state_part state) b ++ reads_from state 0 pieces) i)

    read : WasReadToEnd state (state_look state a ++ (state_look (state_part state) b ++ reads_from state 0 pieces)) → ⊥
    read w = ⊎_elim (λ j. no_read state state a w.0 [] j)
        (λ j. ⊎_elim (λ k. no_read (state_part state) state b w.0 [] k) (λ k. no_end state size w.0 0 pieces some k) (in_append (entry.Reads state w.0 []) (state_look (state_part state) b) (reads_from state 0 pieces) j))
        (in_append (entry.Reads state w.0 []) (state_look state a) (state_look (state_part state) b ++ reads_from state 0 pieces) w.1)

text_why : (state : Path) (size : ℕ) (stale there : Bool) (a b : StateSight) (r : Reading) (f : Fault) (known : Known) → found a ≡ Ok there → IsReading size r → known ≡ Err f → IsKnownBy stale (text_read state there r) known → IsWhy state f (state_look state a ++ (state_look (state_part state) b ++ text_entries state there r))
text_why state size stale false a b r f known e i is k = inl (said_why state stale k.0 f known is k.2)
text_why state size stale true a b (Whole pieces last) f known e i is k = inl (said_why state stale k.0 f known is k.2)
text_why state size stale true a b (Broken pieces) f known e i is k = inr (inr (same_fault known f (fault.Call call.Read state) is k), λ s. broken_saw state size a b pieces e i.0 s)

-- a look at the part file stopped: it failed, or saw no file
stop_part : (state : Path) (a b : StateSight) (r : Reading) (there : Bool) (why : LookStop) (f : Fault) → found b ≡ Err why → f ≡ state_look_fault why (state_part state) → IsWhy state f (state_look state a ++ part_entries state there b r)
stop_part state a b r there stop.NotFile f e is = inl (ends_as state f (fault.NotFile (state_part state)) is (inr refl))
stop_part state a b r there stop.Call f e is = inr (
  inl (state_part state, inr (inr (inl refl)), is),
  λ s. ⊎_elim
      (λ i. other_sight state (state_part state) a (part_other state) (s.part.0, i))
      (λ i. none s.part.0 i)
      (in_append (entry.Look (state_part state) s.part.0) (state_look state a) (part_entries state there b r) s.part.1),
)
  where
    -- nothing is read behind it
    nothing : (x : Entry) (h : Result Bool LookStop) → h ≡ Err stop.Call → IsIn x (behind_part state there h r) → ⊥
    nothing x (Ok stale) h i = absurd (cc)
    nothing x (Err why) h i = i

    none : (seen : Option Seen) → IsIn (entry.Look (state_part state) seen) (part_entries state there b r) → ⊥
    none seen i = ⊎_elim (λ j. none_failed (state_part state) b (entry.Look (state_part state) seen) e j) (λ j. nothing (entry.Look (state_part state) seen) (found b) e j)
        (in_append (entry.Look (state_part state) seen) (state_look (state_part state) b) (behind_part state there (found b) r) i)

-- so did one at the state's path
stop_state : (state : Path) (a b : StateSight) (r : Reading) (why : LookStop) (f : Fault) → found a ≡ Err why → f ≡ state_look_fault why state → IsWhy state f (state_look state a ++ behind_state state (Err why) b r)
stop_state state a b r stop.NotFile f e is = inl (ends_as state f (fault.NotFile state) is (inl refl))
stop_state state a b r stop.Call f e is = inr (
  inl (state, inr (inl refl), is),
  λ s. ⊎_elim
      (λ i. other_sight state (state_part state) a (part_other state) (s.part.0, i))
      (λ i. i)
      (in_append (entry.Look (state_part state) s.part.0) (state_look state a) [] s.part.1),
)

known_why : (state : Path) (size : ℕ) (a b : StateSight) (r : Reading) (f : Fault) (g h : Result Bool LookStop) → found a ≡ g → found b ≡ h → IsReading size r → IsKnownOf state g h r (Err f) → IsWhy state f (state_look state a ++ behind_state state g b r)
known_why state size a b r f (Err why) h e d i k = stop_state state a b r why f e (same_fault (Err f) f (state_look_fault why state) refl k)
known_why state size a b r f (Ok there) (Err why) e d i k = stop_part state a b r there why f d (same_fault (Err f) f (state_look_fault why (state_part state)) refl k)
known_why state size a b r f (Ok there) (Ok stale) e d i k = subst (λ (h : Result Bool LookStop). IsWhy state f (state_look state a ++ (state_look (state_part state) b ++ behind_part state there h r))) (sym d) (text_why state size stale there a b r f (Err f) e i refl k)

pub state_why : (state : Path) (size : ℕ) (s : StateSights) (f : Fault) (ts : List Entry) → IsKnown state s (Err f) → ShowsState state size s ts → IsWhy state f ts
state_why state size s f ts k h = subst (IsWhy state f) (sym h.entries) (known_why state size s.state s.part s.reading f (found s.state) (found s.part) refl refl h.reading k)
