-- As many failed calls are told as visits have.
use Rattle.std.proofs.Common.{◌≡◌, ◌≤◌, ◌+◌, ◌-◌, ◌^◌, min, ℕ, zero, suc, get_or, Bool, true, false, cond, ◌||◌, List, [], ◌∷◌, ◌++◌, map, take, length, refl, sym, ap, ◌∙◌, Option, Some, None, Ok, Err, is_none, arith}
use Rattle.std.specs.Prelude.{Contains, find}
use Rattle.std.specs.List.{filter_map, cons_option, list_any}
use Rattle.std.specs.Str.{bytes_eq}
use Rattle.std.proofs.lemmas.List.{length-take, length-append}
use Rattle.lr_rules.specs.declared.path.Path.{Path}
use Rattle.lr_rules.specs.declared.fault.CallKind.{CallKind}
use Rattle.lr_rules.specs.declared.fault.ConfKind.{ConfKind}
use Rattle.lr_rules.specs.declared.fault.ConfKind.TheVariants as kind
use Rattle.lr_rules.specs.declared.fault.Fault.{Fault}
use Rattle.lr_rules.specs.declared.fault.Fault.TheVariants as fault
use Rattle.lr_rules.specs.Path.{path_fault, joined}
use Rattle.lr_lex.specs.Items.{Told}
use Rattle.lr_forms.specs.declared.said.LineSaid.{LineSaid}
use Rattle.lr_forms.specs.declared.said.LineSaid.TheVariants as says
use Rattle.lr_forms.specs.declared.set.Set.{Set}
use Rattle.lr_conf.specs.declared.fields.Fields.{Fields}
use Rattle.lr_conf.specs.Fields.{fields_of, last_or}
use Rattle.lr_conf.specs.declared.stop.Include.{Include}
use Rattle.lr_conf.specs.Meaning.{ConfLine, Read, Spoiled, End, Cut, OutsideLine, stands, spoiled, Meaning, conf, nothing, line_file, first_pending, words_pending, words_with, settings, opened_at, opens_definition, outside_line, before, through, behind, ends, InsideLine, states, broken, left_open, within, body_of, drops, set_in, line_fault, fault_in, broken_fault, spoilt_fault, only_faults, at_line, left_names, stray_at, own_fault, line_faults, of_end, of_body, of_opening, meaning}
use Rattle.lr_host.specs.declared.entry.Entry.{Entry}
use Rattle.lr_include.specs.declared.part.TextEnd.{TextEnd}
use Rattle.lr_include.specs.declared.part.TextEnd.TheVariants as end
use Rattle.lr_include.specs.declared.visit.Visit.{Visit}
use Rattle.lr_include.specs.declared.visit.Visit.TheVariants as visit
use Rattle.lr_include.specs.Visits.{ShowsVisit, look_failed as unseen, nothing as saw_nothing, exposed as saw_exposed, directory as saw_dir, file as saw_file}
use Rattle.lr_include.specs.declared.task.Ask.{Ask}
use Rattle.lr_include.specs.declared.task.ReadPiece.{ReadPiece}
use Rattle.lr_include.specs.declared.task.ReadPiece.TheVariants as piece
use Rattle.lr_include.specs.declared.task.Task.{Task}
use Rattle.lr_include.specs.declared.task.Task.TheVariants as task
use Rattle.lr_include.specs.Lines.{conf_kind}
use Rattle.lr_host.specs.Counted.{call_in, calls_in, RoseBy}
use Rattle.lr_host.proofs.Counts.{calls_on}
use Rattle.lr_include.specs.Allowed.{failed_read, failed_visit, failed_in}
use Rattle.lr_include.specs.Stages.{Stage, lines_now, open_behind, ask_of, asked_at, asks_now, past_piece, before_asks, settled_from, settled_stage, room_for, kind_piece, piece_of, last_piece, line_tasks, entering, name_tasks, telling_exposed, behind_names, visited, visited_by, at_visits, ShowsNext, ShowsVisits, begun, line_ask, visits_mean, Reads}

-- ---- sums over lists

abbrev total : {A : Type 0} → (A → ℕ) → List A → ℕ
total w [] = 0
total w (x ∷ xs) = w x + total w xs

abbrev given : {A : Type 0} → (A → ℕ) → Option A → ℕ
given w None = 0
given w (Some x) = w x

total_both : {A : Type 0} (w : A → ℕ) (xs ys : List A) → total w (xs ++ ys) ≡ total w xs + total w ys
total_both w [] ys = omega arith
total_both w (x ∷ xs) ys = let more = total_both w xs ys in omega (arith, more)

total_option : {A : Type 0} (w : A → ℕ) (o : Option A) (xs : List A) → total w (cons_option o xs) ≡ given w o + total w xs
total_option w None xs = omega arith
total_option w (Some x) xs = refl

total_mapped : {A B : Type 0} (v : A → ℕ) (w : B → ℕ) (f : A → Option B) → ((x : A) → given w (f x) ≡ v x) → (xs : List A) → total w (filter_map f xs) ≡ total v xs
total_mapped v w f h [] = refl
total_mapped v w f h (x ∷ xs) = let a = total_option w (f x) (filter_map f xs) in let b = h x in let more = total_mapped v w f h xs in omega (arith, a, b, more)

calls_total : (fs : List Fault) → calls_in fs ≡ total call_in fs
calls_total [] = refl
calls_total (f ∷ fs) = ap (λ n. call_in f + n) (calls_total fs)

-- ---- lines

abbrev calls_line : ConfLine → ℕ
calls_line (Spoiled f) = call_in f
calls_line e = 0

abbrev calls_past : OutsideLine → ℕ
calls_past (spoiled f) = call_in f
calls_past p = 0

abbrev calls_within : InsideLine → ℕ
calls_within (broken f) = call_in f
calls_within w = 0

past_calls : (e : ConfLine) → calls_past (outside_line e) ≡ calls_line e
past_calls (Read file i) = refl
past_calls (Spoiled f) = refl
past_calls (End file) = refl
past_calls Cut = refl

within_calls : (earlier : List ConfLine) (e : ConfLine) → calls_within (within earlier e) ≡ calls_line e
within_calls earlier (Read file i) = refl
within_calls earlier (Spoiled f) = refl
within_calls earlier (End file) = refl
within_calls earlier Cut = refl

body_total : (earlier es : List ConfLine) → total calls_within (body_of earlier es) ≡ total calls_line es
body_total earlier [] = refl
body_total earlier (e ∷ es) = let a = within_calls earlier e in let more = body_total (earlier ++ e ∷ []) es in omega (arith, a, more)

said_calls : (file : Path) (at : ℕ) (v : LineSaid) → given call_in (line_fault file at v) ≡ 0
said_calls file at says.Unknown = refl
said_calls file at (says.Bad k) = refl
said_calls file at v = refl

in_calls : (w : InsideLine) → given call_in (fault_in w) ≡ calls_within w
in_calls (states file at v) = said_calls file at v
in_calls (broken f) = refl
in_calls left_open = refl

broken_calls : (w : InsideLine) → given call_in (broken_fault w) ≡ calls_within w
broken_calls (states file at v) = refl
broken_calls (broken f) = refl
broken_calls left_open = refl

spoilt_calls : (e : ConfLine) → given call_in (spoilt_fault e) ≡ calls_line e
spoilt_calls (Read file i) = refl
spoilt_calls (Spoiled f) = refl
spoilt_calls (End file) = refl
spoilt_calls Cut = refl

at_calls : (file : Path) (k : ConfKind) (o : Option ℕ) → calls_in (at_line file k o) ≡ 0
at_calls file k None = refl
at_calls file k (Some at) = refl

stray_calls : (file : Path) (o : Option ℕ) (at : ℕ) → calls_in (stray_at file o at) ≡ 0
stray_calls file None at = refl
stray_calls file (Some first) at = refl

own_calls : (file : Path) (first : Option ℕ) (p : OutsideLine) → calls_in (own_fault file first p) ≡ calls_past p
own_calls file first (stands at brace says.Close) = stray_calls file first at
own_calls file first (stands at brace says.Open) = stray_calls file first at
own_calls file first (stands at brace says.Unknown) = refl
own_calls file first (stands at brace (says.Bad k)) = refl
own_calls file first (stands at brace (says.BadNames k)) = refl
own_calls file first (spoiled f) = omega arith
own_calls file first p = refl

line_calls : (file : Path) (first : Option ℕ) (e : ConfLine) → calls_in (line_faults file first (outside_line e)) ≡ calls_line e
line_calls file first e =
    let p = outside_line e in
    let a = calls_on (at_line file kind.NoBrace (left_names first p)) (own_fault file first p) in
    let b = at_calls file kind.NoBrace (left_names first p) in
    let c = own_calls file first p in
    let d = past_calls e in
    omega (arith, a, b, c, d)

-- ---- definitions

through_behind : {A : Type 0} (w : A → ℕ) (p : A → Bool) (xs : List A) → total w (through p xs) + total w (behind p xs) ≡ total w xs
through_behind w p [] = refl
through_behind w p (x ∷ xs) = by (p x) (through_behind w p xs)
  where
    by : (b : Bool) → total w (through p xs) + total w (behind p xs) ≡ total w xs → (w x + total w (cond b [] (through p xs))) + total w (cond b xs (behind p xs)) ≡ w x + total w xs
    by true h = omega arith
    by false h = omega (arith, h)

none_behind : {A : Type 0} (p : A → Bool) (xs : List A) → list_any p xs ≡ false → behind p xs ≡ []
none_behind p [] h = refl
none_behind p (x ∷ xs) h = by (p x) h (none_behind p xs)
  where
    by : (b : Bool) → (b || list_any p xs) ≡ false → (list_any p xs ≡ false → behind p xs ≡ []) → cond b xs (behind p xs) ≡ []
    by true h f = absurd (cc)
    by false h f = f h

end_calls : (at : ℕ) (words : List (List ℕ)) (f : Fields) (o : Option ConfLine) → calls_in (of_end at words f o).faults ≡ 0
end_calls at words f None = refl
end_calls at words f (Some (Read file i)) = refl
end_calls at words f (Some (Spoiled e)) = refl
end_calls at words f (Some (End file)) = refl
end_calls at words f (Some Cut) = refl

mapped_calls : {A : Type 0} (v : A → ℕ) (f : A → Option Fault) → ((x : A) → given call_in (f x) ≡ v x) → (xs : List A) → calls_in (filter_map f xs) ≡ total v xs
mapped_calls v f h xs = calls_total (filter_map f xs) ∙ total_mapped v call_in f h xs

abbrev rest_of : List InsideLine → Meaning
rest_of body = only_faults (filter_map broken_fault (behind drops body))

closed_calls : (at : ℕ) (words : List (List ℕ)) (f : Fields) (o : Option ConfLine) (body : List InsideLine) (b : Bool) → list_any drops body ≡ b → calls_in (cond b (rest_of body) (of_end at words f o)).faults ≡ total calls_within (behind drops body)
closed_calls at words f o body true e = mapped_calls calls_within broken_fault broken_calls (behind drops body)
closed_calls at words f o body false e = end_calls at words f o ∙ sym (ap (total calls_within) (none_behind drops body e))

body_calls : (o : Option ℕ) (words : List (List ℕ)) (vs : List Set) (es : List ConfLine) → calls_in (of_body o words vs es).faults ≡ total calls_line (before ends es)
body_calls None words vs es = mapped_calls calls_line spoilt_fault spoilt_calls (before ends es)
body_calls (Some at) words vs es =
    let body = body_of [] (before ends es) in
    let f = fields_of (vs ++ filter_map set_in body) in
    let a = calls_on (filter_map fault_in (through drops body)) (cond (list_any drops body) (rest_of body) (of_end at words f (find ends es))).faults in
    let b = mapped_calls calls_within fault_in in_calls (through drops body) in
    let c = closed_calls at words f (find ends es) body (list_any drops body) refl in
    let d = through_behind calls_within drops body in
    let e = body_total [] (before ends es) in
    omega (arith, a, b, c, d, e)

-- ---- meanings

ends_none : (e : ConfLine) → ends e ≡ true → calls_line e ≡ 0
ends_none (Read file i) h = refl
ends_none (Spoiled f) h = absurd (cc)
ends_none (End file) h = refl
ends_none Cut h = refl

-- Of lines outside definitions all are told; in one, those up to its end are told where it begins.
abbrev Outside : List OutsideLine → List ConfLine → Type 0
Outside out es = calls_in (meaning false out es).faults ≡ total calls_line es

abbrev Inside : List OutsideLine → List ConfLine → Type 0
Inside out es = total calls_line (before ends es) + calls_in (meaning true out es).faults ≡ total calls_line es

opened_calls : (p : OutsideLine) (es : List ConfLine) (out : List OutsideLine) → Outside (out ++ p ∷ []) es → Inside (out ++ p ∷ []) es → (b : Bool)
    → calls_in (cond b (of_body (opened_at (first_pending out) p) (words_with (words_pending out) p) (settings (out ++ p ∷ [])) es) nothing).faults + calls_in (meaning b (out ++ p ∷ []) es).faults ≡ total calls_line es
opened_calls p es out f g true = let k = body_calls (opened_at (first_pending out) p) (words_with (words_pending out) p) (settings (out ++ p ∷ [])) es in omega (arith, k, g)
opened_calls p es out f g false = omega (arith, f)

outside_on : (e : ConfLine) (es : List ConfLine) (out : List OutsideLine) → Outside (out ++ outside_line e ∷ []) es → Inside (out ++ outside_line e ∷ []) es → Outside out (e ∷ es)
outside_on e es out f g =
    let p = outside_line e in
    let a = calls_on (line_faults (line_file e) (first_pending out) p) ((of_opening out p es).faults ++ (meaning (opens_definition p) (out ++ p ∷ []) es).faults) in
    let b = calls_on (of_opening out p es).faults (meaning (opens_definition p) (out ++ p ∷ []) es).faults in
    let c = line_calls (line_file e) (first_pending out) e in
    let d = opened_calls p es out f g (opens_definition p) in
    omega (arith, a, b, c, d)

inside_on : (e : ConfLine) (es : List ConfLine) (out : List OutsideLine) → Outside (out ++ outside_line e ∷ []) es → Inside out es → Inside out (e ∷ es)
inside_on e es out f g = by (ends e) refl
  where
    by : (b : Bool) → ends e ≡ b → total calls_line (cond b [] (e ∷ before ends es)) + calls_in (cond b (meaning false (out ++ outside_line e ∷ []) es) (meaning true out es)).faults ≡ calls_line e + total calls_line es
    by true h = let z = ends_none e h in omega (arith, z, f)
    by false h = omega (arith, g)

sides : (es : List ConfLine) (out : List OutsideLine) → Outside out es × Inside out es
sides [] out = (refl, refl)
sides (e ∷ es) out =
    let here = sides es out in
    let later = sides es (out ++ outside_line e ∷ []) in
    (outside_on e es out later.0 later.1, inside_on e es out later.0 here.1)

meaning_calls : (es : List ConfLine) → calls_in (meaning false [] es).faults ≡ total calls_line es
meaning_calls es = (sides es []).0

-- ---- stages

abbrev calls_piece : ReadPiece → ℕ
calls_piece (piece.Break f) = call_in f
calls_piece p = 0

abbrev calls_task : Task → ℕ
calls_task (task.Line p) = calls_piece p
calls_task t = 0

-- how many files it ends
abbrev ends_piece : ReadPiece → ℕ
ends_piece piece.End = 1
ends_piece (piece.Break f) = 1
ends_piece p = 0

abbrev ends_task : Task → ℕ
ends_task (task.Line p) = ends_piece p
ends_task t = 0

-- So many failed calls are told, or still to be told, and each file that is read has its end still to be read.
record Sums (n : ℕ) (s : Stage) : Type 0 where
  calls : total calls_line s.lines + total calls_task s.todo ≡ n
  ends_are : total ends_task s.todo ≡ length s.inside

lines_calls : (inside : List Path) (p : ReadPiece) → ends_piece p ≤ length inside → total calls_line (lines_now inside p) ≡ calls_piece p
lines_calls [] (piece.Item i) le = refl
lines_calls [] (piece.Fault at k) le = refl
lines_calls [] piece.End le = refl
lines_calls [] (piece.Break f) le = absurd (omega (arith, le))
lines_calls (file ∷ files) (piece.Item i) le = refl
lines_calls (file ∷ files) (piece.Fault at k) le = refl
lines_calls (file ∷ files) piece.End le = refl
lines_calls (file ∷ files) (piece.Break f) le = omega arith

one_less : (xs : List Path) → 1 ≤ length xs → length (take (length xs - 1) xs) + 1 ≡ length xs
one_less xs le = let a = length-take (length xs - 1) xs in omega (arith, a, le)

open_calls : (inside : List Path) (p : ReadPiece) → ends_piece p ≤ length inside → length (open_behind inside p) + ends_piece p ≡ length inside
open_calls inside (piece.Item i) le = omega arith
open_calls inside (piece.Fault at k) le = omega arith
open_calls inside piece.End le = one_less inside le
open_calls inside (piece.Break f) le = one_less inside le

map_none : (w : Task → ℕ) → ((a : Ask) → w (task.Ask a) ≡ 0) → (file : Path) (is : List Include) → total w (map (ask_of file) is) ≡ 0
map_none w h file [] = refl
map_none w h file (i ∷ is) = let a = h (record { file = file; line = i.line; path = i.path }) in let more = map_none w h file is in omega (arith, a, more)

asks_none : (w : Task → ℕ) → ((a : Ask) → w (task.Ask a) ≡ 0) → (inside : List Path) (lines : List ConfLine) (p : ReadPiece) → total w (asks_now inside lines p) ≡ 0
asks_none w h [] lines p = refl
asks_none w h (file ∷ files) lines (piece.Item i) = map_none w h (last_or [] (file ∷ files)) (asked_at lines (Read (last_or [] (file ∷ files)) i))
asks_none w h (file ∷ files) lines (piece.Fault at k) = refl
asks_none w h (file ∷ files) lines piece.End = refl
asks_none w h (file ∷ files) lines (piece.Break f) = refl

before_sums : (n : ℕ) (asks : List Task) (here next : Stage) → Sums n here → Sums n next → Sums n (before_asks asks here next)
before_sums n [] here next h k = k
before_sums n (t ∷ ts) here next h k = h

settled_sums : (n : ℕ) (s : Stage) (todo : List Task) → total calls_line s.lines + total calls_task todo ≡ n → total ends_task todo ≡ length s.inside → Sums n (settled_from s todo)
settled_sums n s [] e f = record { calls = e; ends_are = f }
settled_sums n s (task.Line p ∷ todo) e f =
    let le : ends_piece p ≤ length s.inside = omega (arith, f) in
    let a = total_both calls_line s.lines (lines_now s.inside p) in
    let b = lines_calls s.inside p le in
    let c = open_calls s.inside p le in
    let d = total_both calls_task (asks_now s.inside s.lines p) todo in
    let z = asks_none calls_task (λ x. refl) s.inside s.lines p in
    let g = total_both ends_task (asks_now s.inside s.lines p) todo in
    let y = asks_none ends_task (λ x. refl) s.inside s.lines p in
    before_sums n (asks_now s.inside s.lines p) (record (past_piece s p) { todo = asks_now s.inside s.lines p ++ todo }) (settled_from (past_piece s p) todo)
    (record { calls = omega (arith, a, b, d, z, e); ends_are = omega (arith, g, y, c, f) })
    (settled_sums n (past_piece s p) todo (omega (arith, a, b, e)) (omega (arith, c, f)))
settled_sums n s (task.Ask a ∷ todo) e f = record { calls = e; ends_are = f }
settled_sums n s (task.Name a ∷ todo) e f = record { calls = e; ends_are = f }

-- ---- visits

option_none : (w : Task → ℕ) → ((p : ReadPiece) → ends_piece p ≡ 0 → calls_piece p ≡ 0 → w (task.Line p) ≡ 0) → (ts : List Told) → total w (map task.Line (filter_map piece_of ts)) ≡ 0
option_none w h [] = refl
option_none w h (Ok i ∷ ts) = let a = h (piece.Item i) refl refl in let more = option_none w h ts in omega (arith, a, more)
option_none w h (Err f ∷ ts) = by (conf_kind f.kind) (option_none w h ts)
  where
    by : (o : Option ConfKind) → total w (map task.Line (filter_map piece_of ts)) ≡ 0 → total w (map task.Line (cons_option (kind_piece f.line o) (filter_map piece_of ts))) ≡ 0
    by None more = more
    by (Some k) more = let a = h (piece.Fault f.line k) refl refl in omega (arith, a, more)

last_calls : (file : Path) (how : TextEnd) → calls_piece (last_piece file how) ≡ failed_read how
last_calls file end.Whole = refl
last_calls file end.TooMany = refl
last_calls file end.Failed = refl

last_ends : (file : Path) (how : TextEnd) → ends_piece (last_piece file how) ≡ 1
last_ends file end.Whole = refl
last_ends file end.TooMany = refl
last_ends file end.Failed = refl

names_none : (w : Task → ℕ) → ((a : Ask) → w (task.Name a) ≡ 0) → (a : Ask) (names : List (List ℕ)) → total w (name_tasks a names) ≡ 0
names_none w h a [] = refl
names_none w h a (n ∷ ns) = by (is_none (path_fault (joined a.path n))) (names_none w h a ns)
  where
    by : (b : Bool) → total w (name_tasks a ns) ≡ 0 → total w (cons_option (cond b (Some (task.Name (record { file = a.file; line = a.line; path = joined a.path n }))) None) (name_tasks a ns)) ≡ 0
    by true more = let k = h (record { file = a.file; line = a.line; path = joined a.path n }) in omega (arith, k, more)
    by false more = more

behind_none : (w : Task → ℕ) → ((a : Ask) → w (task.Name a) ≡ 0) → (todo : List Task) → total w (behind_names todo) ≡ total w todo
behind_none w h [] = refl
behind_none w h (task.Line p ∷ todo) = refl
behind_none w h (task.Ask a ∷ todo) = refl
behind_none w h (task.Name a ∷ todo) = let k = h a in let more = behind_none w h todo in omega (arith, k, more)

entering_sums : (n : ℕ) (s : Stage) (file : Path) (told : List Told) (size : ℕ) (how : TextEnd) (todo : List Task) → total calls_line s.lines + total calls_task todo ≡ n → total ends_task todo ≡ length s.inside → Sums (n + failed_read how) (entering s file told size how todo)
entering_sums n s file told size how todo e f =
    let a = total_both calls_task (line_tasks told) (task.Line (last_piece file how) ∷ todo) in
    let b = option_none calls_task (λ p e c. c) told in
    let c = total_both ends_task (line_tasks told) (task.Line (last_piece file how) ∷ todo) in
    let d = option_none ends_task (λ p e c. e) told in
    let k = last_calls file how in
    let l = last_ends file how in
    let g = length-append s.inside (file ∷ []) in
    record { calls = omega (arith, a, b, k, e); ends_are = omega (arith, c, d, l, f, g) }

told_sums : (n : ℕ) (s : Stage) (f : Fault) (todo : List Task) → total calls_line s.lines + total calls_task todo ≡ n → total ends_task todo ≡ length s.inside → Sums (n + call_in f) (record s { lines = s.lines ++ Spoiled f ∷ []; todo = todo })
told_sums n s f todo e g = let a = total_both calls_line s.lines (Spoiled f ∷ []) in record { calls = omega (arith, a, e); ends_are = g }

-- that others may write a file is no failed call
exposed_sums : (n : ℕ) (s : Stage) (file : Path) (todo : List Task) → total calls_line s.lines + total calls_task todo ≡ n → total ends_task todo ≡ length s.inside → Sums (n + 0) (telling_exposed s file todo)
exposed_sums n s file todo e f = by (list_any (bytes_eq file) s.exposed)
  where
    by : (b : Bool) → Sums (n + 0) (cond b (record s { todo = todo }) (record s { lines = s.lines ++ Spoiled (conf file kind.Writable 0) ∷ []; exposed = s.exposed ++ file ∷ []; todo = todo }))
    by true = record { calls = omega (arith, e); ends_are = f }
    by false = let h = told_sums n s (conf file kind.Writable 0) todo e f in record { calls = h.calls; ends_are = h.ends_are }

-- a visit that the entries show tells its failed call
abbrev pub failed_one : Option Visit → ℕ
failed_one None = 0
failed_one (Some v) = failed_visit v

record Tells (n : ℕ) (s : Stage) (todo : List Task) (v : Option Visit) : Type 0 where
  told_are : ℕ
  sums : Sums told_are (visited_by s todo v)
  most : told_are ≤ n + failed_one v
  shown : (ts : List Entry) → ShowsNext s todo v ts → told_are ≡ n + failed_one v

tells_all : (n k : ℕ) (s : Stage) (todo : List Task) (v : Option Visit) → Sums k (visited_by s todo v) → k ≡ n + failed_one v → Tells n s todo v
tells_all n k s todo v h e = record { told_are = k; sums = h; most = omega (arith, e); shown = λ ts x. e }

tells_never : (n : ℕ) (s : Stage) (todo : List Task) (v : Option Visit) → Sums n (visited_by s todo v) → ((ts : List Entry) → ShowsNext s todo v ts → ⊥) → Tells n s todo v
tells_never n s todo v h never = record { told_are = n; sums = h; most = omega arith; shown = λ ts x. absurd (never ts x) }

ask_tells : (n : ℕ) (s : Stage) (a : Ask) (v : Visit) (todo : List Task) → total calls_line s.lines + total calls_task todo ≡ n → total ends_task todo ≡ length s.inside → Tells n s (task.Ask a ∷ todo) (Some v)
ask_tells n s a visit.Unseen todo e f = tells_all n (n + 1) s (task.Ask a ∷ todo) (Some visit.Unseen) (told_sums n s _ todo e f) refl
ask_tells n s a visit.Nothing todo e f = tells_all n (n + 0) s (task.Ask a ∷ todo) (Some visit.Nothing) (told_sums n s _ todo e f) refl
ask_tells n s a visit.File todo e f = tells_all n (n + 0) s (task.Ask a ∷ todo) (Some visit.File) (told_sums n s _ todo e f) refl
ask_tells n s a visit.Exposed todo e f = tells_all n (n + 0) s (task.Ask a ∷ todo) (Some visit.Exposed) (exposed_sums n s a.path todo e f) refl
ask_tells n s a visit.Dir todo e f = tells_all n (n + 0) s (task.Ask a ∷ todo) (Some visit.Dir) (told_sums n s _ todo e f) refl
ask_tells n s a visit.Unlisted todo e f = tells_all n (n + 1) s (task.Ask a ∷ todo) (Some visit.Unlisted) (told_sums n s _ todo e f) refl
ask_tells n s a (visit.Holds names) todo e f =
    let b = total_both calls_task (name_tasks a names) todo in
    let c = names_none calls_task (λ x. refl) a names in
    let d = total_both ends_task (name_tasks a names) todo in
    let g = names_none ends_task (λ x. refl) a names in
    tells_all n n s (task.Ask a ∷ todo) (Some (visit.Holds names)) (record { calls = omega (arith, b, c, e); ends_are = omega (arith, d, g, f) }) (omega arith)
ask_tells n s a (visit.Reads told size how) todo e f = tells_all n (n + failed_read how) s (task.Ask a ∷ todo) (Some (visit.Reads told size how)) (entering_sums n s a.path told size how todo e f) refl

-- no name is listed
not_unlisted : (x : Path) (room : Option ℕ) (ts : List Entry) → ShowsVisit x false room visit.Unlisted ts → ⊥
not_unlisted x room ts (unseen is e) = cc
not_unlisted x room ts (saw_nothing is s) = cc
not_unlisted x room ts (saw_exposed is s) = cc
not_unlisted x room ts (saw_dir r) = let odd : visit.Unlisted ≡ visit.Dir = r.second.0 in cc
not_unlisted x None ts (saw_file r) = let odd : visit.Unlisted ≡ visit.File = r.second.0 in cc
not_unlisted x (Some room) ts (saw_file r) = r.second

name_tells : (n : ℕ) (s : Stage) (a : Ask) (v : Visit) (todo : List Task) → total calls_line s.lines + total calls_task todo ≡ n → total ends_task todo ≡ length s.inside → Tells n s (task.Name a ∷ todo) (Some v)
name_tells n s a visit.Unseen todo e f = tells_all n (n + 1) s (task.Name a ∷ todo) (Some visit.Unseen) (told_sums n s _ todo e f) refl
name_tells n s a visit.Nothing todo e f = tells_all n n s (task.Name a ∷ todo) (Some visit.Nothing) (record { calls = e; ends_are = f }) (omega arith)
name_tells n s a visit.File todo e f =
    let b = behind_none calls_task (λ x. refl) todo in
    let c = behind_none ends_task (λ x. refl) todo in
    tells_all n (n + 0) s (task.Name a ∷ todo) (Some visit.File) (told_sums n s _ (behind_names todo) (omega (arith, b, e)) (omega (arith, c, f))) refl
name_tells n s a visit.Exposed todo e f = tells_all n (n + 0) s (task.Name a ∷ todo) (Some visit.Exposed) (exposed_sums n s a.path todo e f) refl
name_tells n s a visit.Dir todo e f = tells_all n n s (task.Name a ∷ todo) (Some visit.Dir) (record { calls = e; ends_are = f }) (omega arith)
name_tells n s a visit.Unlisted todo e f = tells_never n s (task.Name a ∷ todo) (Some visit.Unlisted) (record { calls = e; ends_are = f }) (λ ts h. not_unlisted a.path (room_for s) ts h.1)
name_tells n s a (visit.Holds names) todo e f = tells_all n n s (task.Name a ∷ todo) (Some (visit.Holds names)) (record { calls = e; ends_are = f }) (omega arith)
name_tells n s a (visit.Reads told size how) todo e f = tells_all n (n + failed_read how) s (task.Name a ∷ todo) (Some (visit.Reads told size how)) (entering_sums n s a.path told size how todo e f) refl

next_tells : (n : ℕ) (s : Stage) (todo : List Task) (v : Option Visit) → Sums n s → total calls_line s.lines + total calls_task todo ≡ n → total ends_task todo ≡ length s.inside → Tells n s todo v
next_tells n s (task.Ask a ∷ todo) (Some v) h e f = ask_tells n s a v todo (omega (arith, e)) (omega (arith, f))
next_tells n s (task.Name a ∷ todo) (Some v) h e f = name_tells n s a v todo (omega (arith, e)) (omega (arith, f))
next_tells n s (task.Name a ∷ todo) None h e f = tells_all n n s (task.Name a ∷ todo) None (record { calls = omega (arith, e); ends_are = omega (arith, f) }) (omega arith)
next_tells n s (task.Ask a ∷ todo) None h e f = tells_never n s (task.Ask a ∷ todo) None h (λ ts x. x)
next_tells n s [] v h e f = tells_never n s [] v h (λ ts x. x)
next_tells n s (task.Line p ∷ todo) v h e f = tells_never n s (task.Line p ∷ todo) v h (λ ts x. x)

pub failed_first : (v : Option Visit) (vs : List (Option Visit)) → failed_in (v ∷ vs) ≡ failed_one v + failed_in vs
failed_first None vs = omega arith
failed_first (Some v) vs = refl

record TellsAll (n : ℕ) (s : Stage) (vs : List (Option Visit)) : Type 0 where
  told_are : ℕ
  sums : Sums told_are (at_visits s vs)
  most : told_are ≤ n + failed_in vs
  shown : (ts : List Entry) → ShowsVisits s vs ts → told_are ≡ n + failed_in vs

visits_tell : (n : ℕ) (s : Stage) (vs : List (Option Visit)) → Sums n s → TellsAll n s vs
visits_tell n s [] h = record { told_are = n; sums = settled_sums n s s.todo h.calls h.ends_are; most = omega arith; shown = λ ts x. omega arith }
visits_tell n s (v ∷ vs) h =
    let here = settled_sums n s s.todo h.calls h.ends_are in
    let one = next_tells n (settled_stage s) (settled_stage s).todo v here here.calls here.ends_are in
    let more = visits_tell one.told_are (visited (settled_stage s) v) vs one.sums in
    let k = failed_first v vs in
    record {
      told_are = more.told_are;
      sums = more.sums;
      most = (let a = one.most in let b = more.most in omega (arith, a, b, k));
      shown = λ ts x. (let a = one.shown x.front x.first in let b = more.shown x.back x.second in omega (arith, a, b, k));
    }

line_asks_none : (w : Task → ℕ) → ((a : Ask) → w (task.Ask a) ≡ 0) → (paths : List Path) → total w (map line_ask paths) ≡ 0
line_asks_none w h [] = refl
line_asks_none w h (x ∷ xs) = let a = h (record { file = x; line = 0; path = x }) in let more = line_asks_none w h xs in omega (arith, a, more)

begun_sums : (paths : List Path) → Sums 0 (begun paths)
begun_sums paths = record { calls = (let a = line_asks_none calls_task (λ x. refl) paths in omega (arith, a)); ends_are = line_asks_none ends_task (λ x. refl) paths }

-- no more are told than failed
pub calls_at_most : (paths : List Path) (vs : List (Option Visit)) → calls_in (visits_mean paths vs).faults ≤ failed_in vs
calls_at_most paths vs =
    let t = visits_tell 0 (begun paths) vs (begun_sums paths) in
    let a = meaning_calls (at_visits (begun paths) vs).lines in
    let b = t.sums.calls in
    let c = t.most in
    omega (arith, a, b, c)

-- each that failed is told
pub calls_are_failed : (paths : List Path) (m : Meaning) (ts : List Entry) → (r : Reads paths m ts) → calls_in m.faults ≡ failed_in r.visits
calls_are_failed paths m ts r =
    let t = visits_tell 0 (begun paths) r.visits (begun_sums paths) in
    let a = meaning_calls (at_visits (begun paths) r.visits).lines in
    let b = t.sums.calls in
    let c = t.shown ts r.shown in
    let d = ap (total calls_task) r.all in
    let e = ap (λ (n : Meaning). calls_in n.faults) r.means in
    omega (arith, a, b, c, d, e)

-- one that is among them counts
pub contained_call : (fs : List Fault) (kind : CallKind) (path : Path) → Contains fs (fault.Call kind path) → 1 ≤ calls_in fs
contained_call fs kind path h = go fs h.0 h.1 h.2
  where
    go : (fs : List Fault) (k : ℕ) → suc k ≤ length fs → get_or fs k (fault.Call kind path) ≡ fault.Call kind path → 1 ≤ calls_in fs
    go [] k le e = absurd (omega (arith, le))
    go (f ∷ fs) zero le e = let a : call_in f ≡ 1 = ap call_in e in omega (arith, a)
    go (f ∷ fs) (suc k) le e = let more = go fs k (let l : suc (suc k) ≤ suc (length fs) = le in omega (arith, l)) e in omega (arith, more)

-- ---- what the count rose by

-- no more are told than the count rose by
pub told_rose_by : (paths : List Path) (m : Meaning) (vs : List (Option Visit)) (b a : ℕ) → m ≡ visits_mean paths vs → RoseBy (failed_in vs) b a → RoseBy (calls_in m.faults) b a
told_rose_by paths m vs b a is r =
    let k = calls_at_most paths vs in
    let e = ap (λ (n : Meaning). calls_in n.faults) is in
    omega (arith, k, e, r)

pub told_rose : (fs : List Fault) (b a : ℕ) (kind : CallKind) (path : Path) → RoseBy (calls_in fs) b a → Contains fs (fault.Call kind path) → min (b + 1) (2 ^ 64 - 1) ≤ a
told_rose fs b a kind path r h = let k = contained_call fs kind path h in omega (arith, k, r)
