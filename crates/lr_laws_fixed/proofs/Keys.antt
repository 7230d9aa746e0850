-- What a step alone may do: that a file is made at a path, and that a file is read to its end. A fault that denies it is told of no acts that show it.
use Rattle.std.proofs.Common.{◌≡◌, ◌≢◌, ◌⊎◌, inl, inr, ⊎_elim, pos, ℕ, Bool, true, false, cond, List, [], ◌∷◌, ◌++◌, Option, refl, sym, ap, ◌∙◌, subst}
use Rattle.std.specs.List.{flat_map, list_any}
use Rattle.std.proofs.lemmas.Grind.{flat_map-append}
use Rattle.lr_rules.specs.declared.fault.CallKind.TheVariants as call
use Rattle.lr_rules.specs.declared.fault.Ended.TheVariants as ended
use Rattle.lr_rules.specs.declared.fault.Fault.{Fault}
use Rattle.lr_rules.specs.declared.fault.Fault.TheVariants as fault
use Rattle.lr_rules.specs.declared.fault.Phase.{Phase}
use Rattle.lr_rules.specs.declared.path.Path.{Path}
use Rattle.lr_host.specs.declared.entry.Entry.{Entry}
use Rattle.lr_host.specs.declared.entry.Entry.TheVariants as entry
use Rattle.lr_host.specs.Lists.{IsNotIn, AreDistinct, IsIn}
use Rattle.lr_host.specs.Told.{Each, Maybe}
use Rattle.lr_host.proofs.Lists.{in_front, in_back, in_append}
use Rattle.lr_scripts.specs.declared.command.Command.{Command}
use Rattle.lr_scripts.specs.Programs.{runs}
use Rattle.lr_copy.specs.declared.job.BytesStop.{BytesStop}
use Rattle.lr_copy.specs.declared.job.BytesStop.TheVariants as broke
use Rattle.lr_copy.specs.Bytes.{Copying, none_read, read_more, took_more, AllBytes, BytesBroke}
use Rattle.lr_copy.proofs.EachOfBytes.{each_all, each_broke}
use Rattle.lr_plan.specs.declared.mark.Mark.{Mark}
use Rattle.lr_plan.specs.declared.step.SetSteps.{SetSteps}
use Rattle.lr_plan.specs.declared.step.Step.{Step}
use Rattle.lr_plan.specs.declared.step.Step.TheVariants.{Runs, Removes, MakesDir, Renames, Creates, Takes, Copies, SyncsFile, SyncsDir, Truncates, Rotated}
use Rattle.lr_plan.specs.Course.{Course}
use Rattle.lr_plan.specs.Done.{EachDone, LogsDone, SetDone, broke_off, went_on, SetsDone, is_rotated}
use Rattle.lr_chain.specs.declared.directory.DirStop.TheVariants as unmade
use Rattle.lr_plan.specs.Outcomes.{bytes_fault, Succeeds, Fails, ProgramFailed, badly, not_run, maybe_run}
use Rattle.lr_acts.specs.Making.{all_of_each, all_of_set, all_of_sets}
use Rattle.lr_run.proofs.Simple.{IsSimple, AreSimple, simple_split}

-- ---- what is done by one step alone

-- a file is made at this path; the file there is read to its end
pub data Key : Type 0 where
  Made : Path → Key
  WasRead : Path → Key

-- what the step may do of these
abbrev pub keys : Step → List Key
keys (Creates path mode) = Made path ∷ []
keys (Takes path mode) = Made path ∷ []
keys (Copies from to limit) = WasRead from ∷ []
keys _ = []

abbrev pub keys_of : List Step → List Key
keys_of steps = flat_map keys steps

-- what the fault denies: its path was taken, so no file was made there; the file was too long, so it wasn't read to its end
abbrev pub denied_by : Fault → List Key
denied_by (fault.Taken path) = Made path ∷ []
denied_by (fault.TooLong path) = WasRead path ∷ []
denied_by _ = []

abbrev pub denied : List Fault → List Key
denied fs = flat_map denied_by fs

abbrev pub read_by : Path → List ℕ → List Key
read_by path [] = WasRead path ∷ []
read_by path (b ∷ bs) = []

-- what the entry shows
abbrev pub shown_by : Entry → List Key
shown_by (entry.Makes path mode) = Made path ∷ []
shown_by (entry.Reads path place piece) = read_by path piece
shown_by _ = []

abbrev pub shown : List Entry → List Key
shown ts = flat_map shown_by ts

pub shown_joined : (ts xs ys : List Entry) → ts ≡ xs ++ ys → shown ts ≡ shown xs ++ shown ys
shown_joined ts xs ys e = ap shown e ∙ flat_map-append shown_by xs ys

pub denied_joined : (fs gs hs : List Fault) → fs ≡ gs ++ hs → denied fs ≡ denied gs ++ denied hs
denied_joined fs gs hs e = ap denied e ∙ flat_map-append denied_by gs hs

-- ---- each once

-- no key of the one is one of the other
abbrev pub HaveNoneOf : List Key → List Key → Type 0
HaveNoneOf xs ys = (k : Key) → IsIn k xs → IsIn k ys → ⊥

-- what isn't in a list doesn't stand there
not_there : (k : Key) (ys : List Key) → IsNotIn k ys → IsIn k ys → ⊥
not_there k [] n i = i
not_there k (y ∷ ys) n (inl e) = n.0 (sym e)
not_there k (y ∷ ys) n (inr i) = not_there k ys n.1 i

none_there : (k : Key) (ys : List Key) → (IsIn k ys → ⊥) → IsNotIn k ys
none_there k [] f = tt
none_there k (y ∷ ys) f = ((λ e. f (inl (sym e))), none_there k ys (λ i. f (inr i)))

once_first : (xs ys : List Key) → AreDistinct (xs ++ ys) → AreDistinct xs
once_first [] ys o = tt
once_first (x ∷ xs) ys o = (none_there x xs (λ i. not_there x (xs ++ ys) o.0 (in_front x xs ys i)), once_first xs ys o.1)

once_second : (xs ys : List Key) → AreDistinct (xs ++ ys) → AreDistinct ys
once_second [] ys o = o
once_second (x ∷ xs) ys o = once_second xs ys o.1

once_cross : (xs ys : List Key) → AreDistinct (xs ++ ys) → HaveNoneOf xs ys
once_cross [] ys o k i j = i
once_cross (x ∷ xs) ys o k (inl e) j = not_there x (xs ++ ys) o.0 (in_back x xs ys (subst (λ (y : Key). IsIn y ys) (sym e) j))
once_cross (x ∷ xs) ys o k (inr i) j = once_cross xs ys o.1 k i j

pub once_both : (xs ys : List Key) → AreDistinct xs → AreDistinct ys → HaveNoneOf xs ys → AreDistinct (xs ++ ys)
once_both [] ys a b none = b
once_both (x ∷ xs) ys a b none = (
  none_there x (xs ++ ys) (λ i. ⊎_elim (λ j. not_there x xs a.0 j) (λ j. none x (inl refl) j) (in_append x xs ys i)),
  once_both xs ys a.1 b (λ k i j. none k (inr i) j),
)

-- ---- acts by steps that do no more than this

-- What the faults deny and the entries show are of these, and nothing is both denied and shown.
pub record Keep (ks : List Key) (fs : List Fault) (ts : List Entry) : Type 0 where
  pub told : (k : Key) → IsIn k (denied fs) → IsIn k ks
  pub left : (k : Key) → IsIn k (shown ts) → IsIn k ks
  pub apart : (k : Key) → IsIn k (denied fs) → IsIn k (shown ts) → ⊥

-- by no fault nothing is denied
left_keep : (ks : List Key) (ts : List Entry) → ((k : Key) → IsIn k (shown ts) → IsIn k ks) → Keep ks [] ts
left_keep ks ts f = record { told = λ k i. absurd i; left = f; apart = λ k i j. i }

-- nor by these
none_denied : (ks : List Key) (fs : List Fault) (ts : List Entry) → denied fs ≡ [] → ((k : Key) → IsIn k (shown ts) → IsIn k ks) → Keep ks fs ts
none_denied ks fs ts e f = record { told = λ k i. absurd (subst (IsIn k) e i); left = f; apart = λ k i j. subst (IsIn k) e i }

-- where nothing is shown
none_shown : (ks : List Key) (fs : List Fault) (ts : List Entry) → shown ts ≡ [] → ((k : Key) → IsIn k (denied fs) → IsIn k ks) → Keep ks fs ts
none_shown ks fs ts e f = record { told = f; left = λ k i. absurd (subst (IsIn k) e i); apart = λ k i j. subst (IsIn k) e j }

-- in other words
keep_as : (ks ls : List Key) (fs gs : List Fault) (ts us : List Entry) → ks ≡ ls → fs ≡ gs → ts ≡ us → Keep ls gs us → Keep ks fs ts
keep_as ks ls fs gs ts us p q r h = subst (λ (xs : List Key). Keep xs fs ts) (sym p) (subst (λ (xs : List Fault). Keep ls xs ts) (sym q) (subst (λ (xs : List Entry). Keep ls gs xs) (sym r) h))

-- with more steps behind them, or before
keep_more : (ks ls : List Key) (fs : List Fault) (ts : List Entry) → Keep ks fs ts → Keep (ks ++ ls) fs ts
keep_more ks ls fs ts h = record { told = λ k i. in_front k ks ls (h.told k i); left = λ k i. in_front k ks ls (h.left k i); apart = h.apart }

-- two parts, where what the one may do is nothing that the other may
keep_both : (ks ls : List Key) (fs gs : List Fault) (ts us : List Entry) → HaveNoneOf ks ls → Keep ks fs ts → Keep ls gs us → Keep (ks ++ ls) (fs ++ gs) (ts ++ us)
keep_both ks ls fs gs ts us none h g = record {
  told = λ k i. ⊎_elim (λ a. in_front k ks ls (h.told k a)) (λ b. in_back k ks ls (g.told k b)) (denied_of k i);
  left = λ k i. ⊎_elim (λ a. in_front k ks ls (h.left k a)) (λ b. in_back k ks ls (g.left k b)) (shown_of k i);
  apart = λ k i j. ⊎_elim
      (λ a. ⊎_elim (λ c. h.apart k a c) (λ d. none k (h.told k a) (g.left k d)) (shown_of k j))
      (λ b. ⊎_elim (λ c. none k (h.left k c) (g.told k b)) (λ d. g.apart k b d) (shown_of k j))
      (denied_of k i);
}
  where
    denied_of : (k : Key) → IsIn k (denied (fs ++ gs)) → IsIn k (denied fs) ⊎ IsIn k (denied gs)
    denied_of k i = in_append k (denied fs) (denied gs) (subst (IsIn k) (flat_map-append denied_by fs gs) i)

    shown_of : (k : Key) → IsIn k (shown (ts ++ us)) → IsIn k (shown ts) ⊎ IsIn k (shown us)
    shown_of k i = in_append k (shown ts) (shown us) (subst (IsIn k) (flat_map-append shown_by ts us) i)

-- ---- the entries of a copy of bytes

-- each of them shows no more than this
abbrev ShowsOnly : List Key → Entry → Type 0
ShowsOnly ks e = (k : Key) → IsIn k (shown_by e) → IsIn k ks

each_shown : (ks : List Key) (ts : List Entry) → Each (ShowsOnly ks) ts → (k : Key) → IsIn k (shown ts) → IsIn k ks
each_shown ks [] a k i = absurd i
each_shown ks (e ∷ es) a k i = ⊎_elim (λ x. a.0 k x) (λ y. each_shown ks es a.1 k y) (in_append k (shown_by e) (shown es) i)

read_only : (from : Path) (place : ℕ) (piece : List ℕ) → ShowsOnly (WasRead from ∷ []) (entry.Reads from place piece)
read_only from place [] k i = i
read_only from place (b ∷ bs) k i = absurd i

append_only : (from to : Path) (piece : List ℕ) → ShowsOnly (WasRead from ∷ []) (entry.Appends to piece)
append_only from to piece k i = absurd i

all_left : (from to : Path) (limit count : ℕ) (ts : List Entry) → AllBytes from to limit count ts → (k : Key) → IsIn k (shown ts) → IsIn k (WasRead from ∷ [])
all_left from to limit count ts w = each_shown (WasRead from ∷ []) ts (each_all (ShowsOnly (WasRead from ∷ [])) from to (λ k piece short. read_only from k piece) (append_only from to) limit count ts w)

broke_left : (from to : Path) (limit : ℕ) (why : BytesStop) (ts : List Entry) → BytesBroke from to limit why ts → (k : Key) → IsIn k (shown ts) → IsIn k (WasRead from ∷ [])
broke_left from to limit why ts w = each_shown (WasRead from ∷ []) ts (each_broke (ShowsOnly (WasRead from ∷ [])) from to (λ k piece short. read_only from k piece) (append_only from to) limit why ts w)

-- a read that gave something didn't find the end
some_read : (from : Path) (piece : List ℕ) → piece ≢ [] → read_by from piece ≡ []
some_read from [] some = absurd (some refl)
some_read from (b ∷ bs) some = refl

-- while bytes come, none did
copying_none : (from to : Path) (bytes owed : List ℕ) (ts : List Entry) → Copying from to bytes owed ts → shown ts ≡ []
copying_none from to _ _ _ none_read = refl
copying_none from to _ _ _ (read_more {bytes = bytes} {ts = ts} c piece some short) =
    flat_map-append shown_by ts (entry.Reads from _ piece ∷ []) ∙ (ap (λ ks. ks ++ shown (entry.Reads from 0 piece ∷ [])) (copying_none from to bytes [] ts c) ∙ ap (λ (ks : List Key). ks ++ []) (some_read from piece some))
copying_none from to bytes owed _ (took_more {ts = ts} piece _ c) =
    flat_map-append shown_by ts (entry.Appends to piece ∷ []) ∙ ap (λ (ks : List Key). ks ++ []) (copying_none from to bytes (piece ++ owed) ts c)

-- all bytes were read to the end
pub all_shown : (from to : Path) (limit count : ℕ) (ts : List Entry) → AllBytes from to limit count ts → IsIn (WasRead from) (shown ts)
all_shown from to limit count ts w = subst (IsIn (WasRead from)) (sym (shown_joined ts w.entries.front w.entries.back w.entries.joined))
    (in_back (WasRead from) (shown w.entries.front) (shown w.entries.back) (subst (λ (us : List Entry). IsIn (WasRead from) (shown us)) (sym w.entries.second) (inl refl)))

bytes_keep : (from to : Path) (limit : ℕ) (why : BytesStop) (f : Fault) (ts : List Entry) → f ≡ bytes_fault from to why → BytesBroke from to limit why ts → Keep (WasRead from ∷ []) (f ∷ []) ts
bytes_keep from to limit broke.Read f ts e w = none_denied (WasRead from ∷ []) (f ∷ []) ts (ap (λ (x : Fault). denied (x ∷ [])) e) (broke_left from to limit broke.Read ts w)
bytes_keep from to limit broke.Append f ts e w = none_denied (WasRead from ∷ []) (f ∷ []) ts (ap (λ (x : Fault). denied (x ∷ [])) e) (broke_left from to limit broke.Append ts w)
bytes_keep from to limit broke.TooLong f ts e w = none_shown (WasRead from ∷ []) (f ∷ []) ts (copying_none from to w.0 w.1 ts w.3) (λ k i. subst (λ (x : Fault). IsIn k (denied (x ∷ []))) e i)

-- ---- one step

one_left : (ks : List Key) (e : Entry) (ts : List Entry) → ShowsOnly ks e → ts ≡ e ∷ [] → (k : Key) → IsIn k (shown ts) → IsIn k ks
one_left ks e ts o is = each_shown ks ts (subst (Each (ShowsOnly ks)) (sym is) (o, tt))

empty_left : (ks : List Key) (ts : List Entry) → ts ≡ [] → (k : Key) → IsIn k (shown ts) → IsIn k ks
empty_left ks ts is = each_shown ks ts (subst (Each (ShowsOnly ks)) (sym is) tt)

maybe_left : (ks : List Key) (e : Entry) (ts : List Entry) → ShowsOnly ks e → Maybe e ts → (k : Key) → IsIn k (shown ts) → IsIn k ks
maybe_left ks e ts o (inl none) = empty_left ks ts none
maybe_left ks e ts o (inr one) = one_left ks e ts o one

-- a directory that is made, or is there, shows none of these
dir_left : (path : Path) (mode : Option ℕ) (ts : List Entry) → Succeeds (MakesDir path mode) ts → (k : Key) → IsIn k (shown ts) → IsIn k []
dir_left path mode ts (inl one) = one_left [] (entry.MakesDir path mode) ts (λ k x. x) one
dir_left path mode ts (inr saw) = one_left [] (entry.Look path saw.seen) ts (λ k x. x) saw.look

made_keep : (s : Step) (ts : List Entry) → IsSimple s → Succeeds s ts → Keep (keys s) [] ts
made_keep (Runs p on c) ts i h = left_keep [] ts (one_left [] (runs c (ended.Exit (pos 0))) ts (λ k x. x) h)
made_keep (Removes path) ts i h = left_keep [] ts (one_left [] (entry.Unlinks path) ts (λ k x. x) h)
made_keep (MakesDir path mode) ts i h = left_keep [] ts (dir_left path mode ts h)
made_keep (Renames from to) ts i h = left_keep [] ts (one_left [] (entry.Renames from to) ts (λ k x. x) h)
made_keep (Creates path mode) ts i h = left_keep (Made path ∷ []) ts (maybe_left (Made path ∷ []) (entry.Makes path mode) ts (λ k x. x) h)
made_keep (Takes path mode) ts i h = left_keep (Made path ∷ []) ts (one_left (Made path ∷ []) (entry.Makes path mode) ts (λ k x. x) h)
made_keep (Copies from to limit) ts i h = left_keep (WasRead from ∷ []) ts (all_left from to limit h.0 ts h.1)
made_keep (SyncsFile path) ts i h = left_keep [] ts (one_left [] (entry.SyncsFile path) ts (λ k x. x) h)
made_keep (SyncsDir path) ts i h = left_keep [] ts (one_left [] (entry.SyncsDir path) ts (λ k x. x) h)
made_keep (Truncates path) ts i h = left_keep [] ts (one_left [] (entry.Truncates path) ts (λ k x. x) h)
made_keep (Rotated log) ts i h = left_keep [] ts (empty_left [] ts h)
made_keep _ ts i h = absurd i

-- a fault that denies nothing
plain : (ks : List Key) (f g : Fault) (ts : List Entry) → f ≡ g → denied (g ∷ []) ≡ [] → ((k : Key) → IsIn k (shown ts) → IsIn k ks) → Keep ks (f ∷ []) ts
plain ks f g ts e none left = none_denied ks (f ∷ []) ts (ap (λ (x : Fault). denied (x ∷ [])) e ∙ none) left

program_keep : (p : Phase) (on : List ℕ) (c : Command) (f : Fault) (ts : List Entry) → ProgramFailed p on c f ts → Keep [] (f ∷ []) ts
program_keep p on c f ts (badly end bad e o) = plain [] f (fault.Script p on end) ts e refl (one_left [] (runs c end) ts (λ k x. x) o)
program_keep p on c f ts (not_run e o) = plain [] f (fault.Call call.Run c.program) ts e refl (empty_left [] ts o)
program_keep p on c f ts (maybe_run end e o) = plain [] f (fault.Call call.Run c.program) ts e refl (one_left [] (runs c end) ts (λ k x. x) o)

dir_keep : (path : Path) (mode : Option ℕ) (f : Fault) (ts : List Entry) → Fails (MakesDir path mode) f ts → Keep [] (f ∷ []) ts
dir_keep path mode f ts (unmade.Make, is, made) = plain [] f (fault.Call call.MakeDir path) ts is refl (maybe_left [] (entry.MakesDir path mode) ts (λ k x. x) made)
dir_keep path mode f ts (unmade.Look, e, o) = plain [] f (fault.Call call.Look path) ts e refl (empty_left [] ts o)
dir_keep path mode f ts (unmade.NotDir, e, saw) = plain [] f (fault.NotFile path) ts e refl (one_left [] (entry.Look path saw.seen) ts (λ k x. x) saw.look)

take_keep : (path : Path) (mode : Option ℕ) (f : Fault) (ts : List Entry) → Fails (Takes path mode) f ts → Keep (Made path ∷ []) (f ∷ []) ts
take_keep path mode f ts (inl h) = plain (Made path ∷ []) f (fault.Call call.Make path) ts h.0 refl (maybe_left (Made path ∷ []) (entry.Makes path mode) ts (λ k x. x) h.1)
take_keep path mode f ts (inr h) = none_shown (Made path ∷ []) (f ∷ []) ts (ap shown h.1) (λ k i. subst (λ (x : Fault). IsIn k (denied (x ∷ []))) h.0 i)

failed_keep : (s : Step) (f : Fault) (ts : List Entry) → IsSimple s → Fails s f ts → Keep (keys s) (f ∷ []) ts
failed_keep (Runs p on c) f ts i h = program_keep p on c f ts h
failed_keep (Removes path) f ts i h = plain [] f (fault.Call call.Unlink path) ts h.0 refl (maybe_left [] (entry.Unlinks path) ts (λ k x. x) h.1)
failed_keep (MakesDir path mode) f ts i h = dir_keep path mode f ts h
failed_keep (Renames from to) f ts i h = plain [] f (fault.Call call.Rename from) ts h.0 refl (maybe_left [] (entry.Renames from to) ts (λ k x. x) h.1)
failed_keep (Creates path mode) f ts i h = plain (Made path ∷ []) f (fault.Call call.Make path) ts h.0 refl (maybe_left (Made path ∷ []) (entry.Makes path mode) ts (λ k x. x) h.1)
failed_keep (Takes path mode) f ts i h = take_keep path mode f ts h
failed_keep (Copies from to limit) f ts i h = bytes_keep from to limit h.0 f ts h.1 h.2
failed_keep (SyncsFile path) f ts i h = plain [] f (fault.Call call.Sync path) ts h.0 refl (maybe_left [] (entry.SyncsFile path) ts (λ k x. x) h.1)
failed_keep (SyncsDir path) f ts i h = plain [] f (fault.Call call.Sync path) ts h.0 refl (maybe_left [] (entry.SyncsDir path) ts (λ k x. x) h.1)
failed_keep (Truncates path) f ts i h = plain [] f (fault.Call call.Truncate path) ts h.0 refl (maybe_left [] (entry.Truncates path) ts (λ k x. x) h.1)
failed_keep (Rotated log) f ts i h = absurd h
failed_keep _ f ts i h = absurd i

-- ---- all acts, of which each may do what no other may

empty_keep : (fs : List Fault) (ts : List Entry) → fs ≡ [] → ts ≡ [] → Keep [] fs ts
empty_keep fs ts e d = keep_as [] [] fs [] ts [] refl e d (left_keep [] [] (λ k i. i))

course_keep : (steps : List Step) (ms : List Mark) (fs : List Fault) (ts : List Entry) → AreSimple steps → AreDistinct (keys_of steps) → Course steps ms fs ts → Keep (keys_of steps) fs ts
course_keep [] ms fs ts i o h = empty_keep fs ts h.1 h.2
course_keep (s ∷ ss) ms fs ts i o (inl h) = subst (λ (xs : List Fault). Keep (keys s ++ keys_of ss) xs ts) (sym h.told) (keep_more (keys s) (keys_of ss) (h.fault ∷ []) ts (failed_keep s h.fault ts i.0 h.failed))
course_keep (s ∷ ss) ms fs ts i o (inr h) = subst (λ (xs : List Entry). Keep (keys s ++ keys_of ss) fs xs) (sym h.entries.joined)
    (keep_both (keys s) (keys_of ss) [] fs h.entries.front h.entries.back (once_cross (keys s) (keys_of ss) o) (made_keep s h.entries.front i.0 h.entries.first)
    (course_keep ss h.later fs h.entries.back i.1 (once_second (keys s) (keys_of ss) o) h.entries.second))

-- what two lists of steps may do
keys_joined : (xs ys : List Step) → keys_of (xs ++ ys) ≡ keys_of xs ++ keys_of ys
keys_joined xs ys = flat_map-append keys xs ys

once_joined : (xs ys : List Step) → AreDistinct (keys_of (xs ++ ys)) → AreDistinct (keys_of xs ++ keys_of ys)
once_joined xs ys o = subst AreDistinct (keys_joined xs ys) o

-- two parts that follow each other
parts_keep : (xs ys : List Step) (fs gs hs : List Fault) (ts us vs : List Entry) → AreDistinct (keys_of (xs ++ ys)) → fs ≡ gs ++ hs → ts ≡ us ++ vs → Keep (keys_of xs) gs us → Keep (keys_of ys) hs vs → Keep (keys_of (xs ++ ys)) fs ts
parts_keep xs ys fs gs hs ts us vs o e d h g = keep_as (keys_of (xs ++ ys)) (keys_of xs ++ keys_of ys) fs (gs ++ hs) ts (us ++ vs) (keys_joined xs ys) e d
    (keep_both (keys_of xs) (keys_of ys) gs hs us vs (once_cross (keys_of xs) (keys_of ys) (once_joined xs ys o)) h g)

first_once : (xs ys : List Step) → AreDistinct (keys_of (xs ++ ys)) → AreDistinct (keys_of xs)
first_once xs ys o = once_first (keys_of xs) (keys_of ys) (once_joined xs ys o)

second_once : (xs ys : List Step) → AreDistinct (keys_of (xs ++ ys)) → AreDistinct (keys_of ys)
second_once xs ys o = once_second (keys_of xs) (keys_of ys) (once_joined xs ys o)

each_keep : (each : List (List Step)) (ms : List Mark) (fs : List Fault) (ts : List Entry) → AreSimple (all_of_each each) → AreDistinct (keys_of (all_of_each each)) → EachDone each ms fs ts → Keep (keys_of (all_of_each each)) fs ts
each_keep [] ms fs ts i o h = empty_keep fs ts h.1 h.2
each_keep (s ∷ ss) ms fs ts i o h = let r = simple_split s (all_of_each ss) i in
    parts_keep s (all_of_each ss) fs h.first_faults h.second_faults ts h.entries.front h.entries.back o h.faults_are h.entries.joined
    (course_keep s h.first_marks h.first_faults h.entries.front r.0 (first_once s (all_of_each ss) o) h.entries.first)
    (each_keep ss h.second_marks h.second_faults h.entries.back r.1 (second_once s (all_of_each ss) o) h.entries.second)

last_keep : (b : Bool) (last : List Step) (ms : List Mark) (fs : List Fault) (ts : List Entry) → AreSimple last → AreDistinct (keys_of last) → Course (cond b last []) ms fs ts → Keep (keys_of last) fs ts
last_keep true last ms fs ts i o h = course_keep last ms fs ts i o h
last_keep false last ms fs ts i o h = keep_as (keys_of last) (keys_of last) fs [] ts [] refl h.1 h.2 (left_keep (keys_of last) [] (λ k x. absurd x))

logs_keep : (each : List (List Step)) (last : List Step) (ms : List Mark) (fs : List Fault) (ts : List Entry) → AreSimple (all_of_each each ++ last) → AreDistinct (keys_of (all_of_each each ++ last)) → LogsDone each last ms fs ts → Keep (keys_of (all_of_each each ++ last)) fs ts
logs_keep each last ms fs ts i o h = let r = simple_split (all_of_each each) last i in
    parts_keep (all_of_each each) last fs h.of_each h.of_last ts h.entries.front h.entries.back o h.faults_are h.entries.joined
    (each_keep each h.by_each h.of_each h.entries.front r.0 (first_once (all_of_each each) last o) h.entries.first)
    (last_keep (list_any is_rotated h.by_each) last h.by_last h.of_last h.entries.back r.1 (second_once (all_of_each each) last o) h.entries.second)

set_keep : (set : SetSteps) (ms : List Mark) (fs : List Fault) (ts : List Entry) → AreSimple (all_of_set set) → AreDistinct (keys_of (all_of_set set)) → SetDone set ms fs ts → Keep (keys_of (all_of_set set)) fs ts
set_keep set ms fs ts i o (broke_off h) =
    let rest : List Step = all_of_each set.each ++ set.last in
    subst (λ (ks : List Key). Keep ks fs ts) (sym (keys_joined set.first rest)) (keep_more (keys_of set.first) (keys_of rest) fs ts (course_keep set.first ms fs ts (simple_split set.first rest i).0 (first_once set.first rest o) h.part))
set_keep set ms fs ts i o (went_on h) =
    let rest : List Step = all_of_each set.each ++ set.last in
    let r = simple_split set.first rest i in
    parts_keep set.first rest fs h.first_faults h.second_faults ts h.entries.front h.entries.back o h.faults_are h.entries.joined
    (course_keep set.first h.first_marks h.first_faults h.entries.front r.0 (first_once set.first rest o) h.entries.first.1)
    (logs_keep set.each set.last h.second_marks h.second_faults h.entries.back r.1 (second_once set.first rest o) h.entries.second)

pub sets_keep : (sets : List SetSteps) (ms : List Mark) (fs : List Fault) (ts : List Entry) → AreSimple (all_of_sets sets) → AreDistinct (keys_of (all_of_sets sets)) → SetsDone sets ms fs ts → Keep (keys_of (all_of_sets sets)) fs ts
sets_keep [] ms fs ts i o h = empty_keep fs ts h.1 h.2
sets_keep (s ∷ ss) ms fs ts i o h = let r = simple_split (all_of_set s) (all_of_sets ss) i in
    parts_keep (all_of_set s) (all_of_sets ss) fs h.first_faults h.second_faults ts h.entries.front h.entries.back o h.faults_are h.entries.joined
    (set_keep s h.first_marks h.first_faults h.entries.front r.0 (first_once (all_of_set s) (all_of_sets ss) o) h.entries.first)
    (sets_keep ss h.second_marks h.second_faults h.entries.back r.1 (second_once (all_of_set s) (all_of_sets ss) o) h.entries.second)

-- ---- faults and entries that are of a whole

-- Nothing that the faults deny is among these, and all that the entries show is.
pub record Agree (all : List Key) (fs : List Fault) (ts : List Entry) : Type 0 where
  pub not : (k : Key) → IsIn k (denied fs) → IsIn k all → ⊥
  pub has : (k : Key) → IsIn k (shown ts) → IsIn k all

pub agree_first : (all : List Key) (fs gs hs : List Fault) (ts us vs : List Entry) → fs ≡ gs ++ hs → ts ≡ us ++ vs → Agree all fs ts → Agree all gs us
agree_first all fs gs hs ts us vs e d a = record {
  not = λ k i. a.not k (subst (IsIn k) (sym (denied_joined fs gs hs e)) (in_front k (denied gs) (denied hs) i));
  has = λ k i. a.has k (subst (IsIn k) (sym (shown_joined ts us vs d)) (in_front k (shown us) (shown vs) i));
}

pub agree_second : (all : List Key) (fs gs hs : List Fault) (ts us vs : List Entry) → fs ≡ gs ++ hs → ts ≡ us ++ vs → Agree all fs ts → Agree all hs vs
agree_second all fs gs hs ts us vs e d a = record {
  not = λ k i. a.not k (subst (IsIn k) (sym (denied_joined fs gs hs e)) (in_back k (denied gs) (denied hs) i));
  has = λ k i. a.has k (subst (IsIn k) (sym (shown_joined ts us vs d)) (in_back k (shown us) (shown vs) i));
}
