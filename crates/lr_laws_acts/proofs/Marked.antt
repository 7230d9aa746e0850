-- A directory that the acts tell of stands behind them.
use Rattle.std.proofs.Common.{◌≡◌, ◌⊎◌, inl, inr, ⊎_elim, refl, sym, ◌∙◌, ap, subst, Option, Some, None, List, [], ◌∷◌, ◌++◌, reverse}
use Rattle.lr_rules.specs.declared.fault.Fault.{Fault}
use Rattle.lr_rules.specs.declared.path.Path.{Path}
use Rattle.lr_host.specs.declared.entry.Entry.{Entry}
use Rattle.lr_host.specs.declared.entry.Entry.TheVariants as entry
use Rattle.lr_host.specs.declared.journal.Journal.{Journal}
use Rattle.lr_host.specs.declared.thing.Thing.TheVariants as thing
use Rattle.lr_host.specs.Fits.{Fits, IsDirectoryAt}
use Rattle.lr_host.specs.Lists.{IsIn}
use Rattle.lr_host.specs.Looks.{IsDir}
use Rattle.lr_host.specs.Told.{Made, at_first, by_writer, by_tool, Left, not_told, is_told, WhereTold}
use Rattle.lr_host.specs.World.{Past, ◌▸◌, past, world, names}
use Rattle.lr_host.proofs.Lists.{in_append, in_front, in_back, from_reverse}
use Rattle.lr_host.proofs.Looked.{seen_dir}
use Rattle.lr_host.proofs.Names.{put_here}
use Rattle.lr_plan.specs.declared.mark.Mark.{Mark}
use Rattle.lr_plan.specs.declared.mark.Mark.TheVariants as mark
use Rattle.lr_plan.specs.declared.step.SetSteps.{SetSteps}
use Rattle.lr_plan.specs.declared.step.Step.{Step}
use Rattle.lr_plan.specs.declared.step.Step.TheVariants as step
use Rattle.lr_plan.specs.Course.{Course}
use Rattle.lr_plan.specs.Done.{EachDone, SetDone, broke_off, went_on, SetsDone, if_rotated}
use Rattle.lr_plan.specs.Outcomes.{Succeeds, marks_of}
use Rattle.lr_laws_acts.proofs.Lasting.{dir_walk}

-- the entry makes the directory, or a look saw one at its path
abbrev pub ShowsDir : Path → Entry → Type 0
ShowsDir dir (entry.MakesDir x mode) = x ≡ dir
ShowsDir dir (entry.Look x seen) = (x ≡ dir) × IsDir seen
ShowsDir dir _ = ⊥

-- one of these entries is such a one
abbrev pub SomeShowsDir : Path → List Entry → Type 0
SomeShowsDir dir ts = (e : Entry) × IsIn e ts × ShowsDir dir e

shows_front : (dir : Path) (ts front back : List Entry) → ts ≡ front ++ back → SomeShowsDir dir front → SomeShowsDir dir ts
shows_front dir ts front back joined s = (s.0, subst (IsIn s.0) (sym joined) (in_front s.0 front back s.1), s.2)

shows_back : (dir : Path) (ts front back : List Entry) → ts ≡ front ++ back → SomeShowsDir dir back → SomeShowsDir dir ts
shows_back dir ts front back joined s = (s.0, subst (IsIn s.0) (sym joined) (in_back s.0 front back s.1), s.2)

shows_one : (dir : Path) (e : Entry) (ts : List Entry) → ShowsDir dir e → ts ≡ e ∷ [] → SomeShowsDir dir ts
shows_one dir e ts s is = (e, subst (IsIn e) (sym is) (inl refl), s)

-- ---- the marks of steps

step_shows : (dir : Path) (s : Step) (ts : List Entry) → IsIn (mark.Directory dir) (marks_of s) → Succeeds s ts → SomeShowsDir dir ts
step_shows dir (step.MakesDir path mode) ts (inl is) w = let same : path ≡ dir = cc in ⊎_elim (λ one. shows_one dir (entry.MakesDir path mode) ts same one) (λ saw. shows_one dir (entry.Look path saw.seen) ts (same, saw.is) saw.look) w
step_shows dir (step.MakesDir path mode) ts (inr none) w = absurd none
step_shows dir (step.Rotated log) ts (inl is) w = absurd (cc)
step_shows dir (step.Rotated log) ts (inr none) w = absurd none
step_shows dir (step.Creates path mode) ts (inl is) w = absurd (cc)
step_shows dir (step.Creates path mode) ts (inr none) w = absurd none
step_shows dir _ ts i w = absurd i

-- none of none
none_in : (dir : Path) (marks : List Mark) → marks ≡ [] → IsIn (mark.Directory dir) marks → ⊥
none_in dir marks e i = subst (IsIn (mark.Directory dir)) e i

course_shows : (dir : Path) (ss : List Step) (marks : List Mark) (faults : List Fault) (ts : List Entry) → IsIn (mark.Directory dir) marks → Course ss marks faults ts → SomeShowsDir dir ts
course_shows dir [] marks faults ts i c = absurd (none_in dir marks c.0 i)
course_shows dir (s ∷ ss) marks faults ts i (inl h) = absurd (none_in dir marks h.none i)
course_shows dir (s ∷ ss) marks faults ts i (inr g) = ⊎_elim
    (λ own. shows_front dir ts g.entries.front g.entries.back g.entries.joined (step_shows dir s g.entries.front own g.entries.first))
    (λ later. shows_back dir ts g.entries.front g.entries.back g.entries.joined (course_shows dir ss g.later faults g.entries.back later g.entries.second))
    (in_append (mark.Directory dir) (marks_of s) g.later (subst (IsIn (mark.Directory dir)) g.marks_are i))

each_shows : (dir : Path) (each : List (List Step)) (marks : List Mark) (faults : List Fault) (ts : List Entry) → IsIn (mark.Directory dir) marks → EachDone each marks faults ts → SomeShowsDir dir ts
each_shows dir [] marks faults ts i d = absurd (none_in dir marks d.0 i)
each_shows dir (ss ∷ each) marks faults ts i d = ⊎_elim
    (λ a. shows_front dir ts d.entries.front d.entries.back d.entries.joined (course_shows dir ss d.first_marks d.first_faults d.entries.front a d.entries.first))
    (λ b. shows_back dir ts d.entries.front d.entries.back d.entries.joined (each_shows dir each d.second_marks d.second_faults d.entries.back b d.entries.second))
    (in_append (mark.Directory dir) d.first_marks d.second_marks (subst (IsIn (mark.Directory dir)) d.marks_are i))

set_shows : (dir : Path) (s : SetSteps) (marks : List Mark) (faults : List Fault) (ts : List Entry) → IsIn (mark.Directory dir) marks → SetDone s marks faults ts → SomeShowsDir dir ts
set_shows dir s marks faults ts i (broke_off b) = course_shows dir s.first marks faults ts i b.part
set_shows dir s marks faults ts i (went_on b) = ⊎_elim
    (λ a. shows_front dir ts b.entries.front b.entries.back b.entries.joined (course_shows dir s.first b.first_marks b.first_faults b.entries.front a b.entries.first.1))
    (λ c. shows_back dir ts b.entries.front b.entries.back b.entries.joined (logs c))
    (in_append (mark.Directory dir) b.first_marks b.second_marks (subst (IsIn (mark.Directory dir)) b.marks_are i))
  where
    logs : IsIn (mark.Directory dir) b.second_marks → SomeShowsDir dir b.entries.back
    logs j = let d = b.entries.second in ⊎_elim
        (λ a. shows_front dir b.entries.back d.entries.front d.entries.back d.entries.joined (each_shows dir s.each d.by_each d.of_each d.entries.front a d.entries.first))
        (λ c. shows_back dir b.entries.back d.entries.front d.entries.back d.entries.joined (course_shows dir (if_rotated d.by_each s.last) d.by_last d.of_last d.entries.back c d.entries.second))
        (in_append (mark.Directory dir) d.by_each d.by_last (subst (IsIn (mark.Directory dir)) d.marks_are j))

sets_show : (dir : Path) (sets : List SetSteps) (marks : List Mark) (faults : List Fault) (ts : List Entry) → IsIn (mark.Directory dir) marks → SetsDone sets marks faults ts → SomeShowsDir dir ts
sets_show dir [] marks faults ts i d = absurd (none_in dir marks d.0 i)
sets_show dir (s ∷ sets) marks faults ts i d = ⊎_elim
    (λ a. shows_front dir ts d.entries.front d.entries.back d.entries.joined (set_shows dir s d.first_marks d.first_faults d.entries.front a d.entries.first))
    (λ b. shows_back dir ts d.entries.front d.entries.back d.entries.joined (sets_show dir sets d.second_marks d.second_faults d.entries.back b d.entries.second))
    (in_append (mark.Directory dir) d.first_marks d.second_marks (subst (IsIn (mark.Directory dir)) d.marks_are i))

-- ---- it stands

says_dir : (dir : Path) (q : Past) (e : Entry) → Fits (world q) e → ShowsDir dir e → IsDirectoryAt (names (world (q ▸ e))) dir
says_dir dir q (entry.MakesDir x mode) f is = put_here (names (world q)) x dir thing.Directory (sym is)
says_dir dir q (entry.Look x None) f s = absurd s.1
says_dir dir q (entry.Look x (Some seen)) f s = ap (names (world q)) (sym s.0) ∙ seen_dir (world q) (names (world q) x) seen f s.1
says_dir dir q _ f s = absurd s

shown_stands : (dir : Path) (p q : Past) (es : List Entry) (e : Entry) → Made p es q → IsIn e es → ShowsDir dir e → IsDirectoryAt (names (world q)) dir
shown_stands dir p _ _ e at_first i s = absurd i
shown_stands dir p _ es e (by_writer {q = q} {e = w} m wrote f) i s = dir_walk q (q ▸ w) [] dir (by_writer at_first wrote f) (shown_stands dir p q es e m i s)
shown_stands dir p _ _ e (by_tool {es = es} {q = q} {e = t} m tools f) i s = go (λ there. shown_stands dir p q es e m there s) i
  where
    go : (IsIn e es → IsDirectoryAt (names (world q)) dir) → (t ≡ e) ⊎ IsIn e es → IsDirectoryAt (names (world (q ▸ t))) dir
    go further (inl same) = says_dir dir q t f (subst (ShowsDir dir) (sym same) s)
    go further (inr there) = dir_walk q (q ▸ t) (t ∷ []) dir (by_tool at_first tools f) (further there)

pub marked_stands : (sets : List SetSteps) (marks : List Mark) (faults : List Fault) (dir : Path) (o m : Option Journal) → IsIn (mark.Directory dir) marks → Left (SetsDone sets marks faults) o m → WhereTold m (λ p. IsDirectoryAt (names (world p)) dir)
marked_stands sets marks faults dir o m i not_told = tt
marked_stands sets marks faults dir o m i (is_told {j = j} {k = k} {es = es} made d) = let s = sets_show dir sets marks faults (reverse es) i d in shown_stands dir (past j) (past k) es s.0 made (from_reverse s.0 es s.1) s.2
