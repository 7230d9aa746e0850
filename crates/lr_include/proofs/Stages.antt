-- How a reading goes on from one stage to another.
use Rattle.std.specs.Prelude.{◌≡◌, ◌+◌, ◌≤◌, ◌^◌, min, option_to_list}
use Rattle.std.proofs.Common.{◌-◌, ◌<◌, ◌⊎◌, inl, inr, arith, ℕ, Bool, true, false, cond, List, [], ◌∷◌, ◌++◌, map, filter_map, reverse, length, take, drop, refl, sym, ap, ◌∙◌, subst, append-nil, append_assoc, Option, Some, None, Result, Ok, Err, OnOk}
use Rattle.std.specs.List.{list_any}
use Rattle.std.specs.Str.{bytes_eq}
use Rattle.std.proofs.Math.Seq.{drop-append_seam}
use Rattle.std.proofs.lemmas.List.{reverse-append, map-append}
use Rattle.std.proofs.lemmas.List.Elements.{filter_map-append}
use Rattle.lr_rules.specs.declared.path.Path.{Path}
use Rattle.lr_rules.specs.declared.fault.ConfKind.{ConfKind}
use Rattle.lr_rules.specs.declared.fault.ConfKind.TheVariants as kind
use Rattle.lr_rules.specs.declared.fault.Fault.{Fault}
use Rattle.lr_rules.specs.declared.fault.Notice.{Notice}
use Rattle.lr_rules.specs.declared.rule.Rule.{Rule}
use Rattle.lr_match.specs.declared.taboo.Taboo.{Taboo}
use Rattle.lr_match.specs.Taboos.{Bars, first_taboo}
use Rattle.lr_conf.specs.declared.layer.Layer.{Layer}
use Rattle.lr_conf.specs.declared.stop.Include.{Include}
use Rattle.lr_conf.specs.declared.stop.LayerStop.{LayerStop}
use Rattle.lr_conf.specs.declared.stop.LayerStop.TheVariants as stop
use Rattle.lr_conf.specs.Stops.{layer_faults}
use Rattle.lr_lex.specs.declared.item.Item.{Item}
use Rattle.lr_lex.specs.Items.{Told}
use Rattle.lr_conf.specs.Meaning.{ConfLine, Read, Spoiled, End, Cut, Meaning, meaning, ◌and◌, only_faults, conf, asked, banned}
use Rattle.lr_conf.specs.Fold.{coming, asking, banning, entered, file_of_layer, LayerTook, Asks, Bans, Alike, LayerPasses}
use Rattle.lr_conf.specs.Fields.{last_or}
use Rattle.lr_host.specs.declared.entry.Entry.{Entry}
use Rattle.lr_host.specs.declared.journal.Journal.{Journal}
use Rattle.lr_host.specs.Told.{Left, Then}
use Rattle.lr_host.proofs.Left.{left_first, left_as, left_then}
use Rattle.lr_include.specs.declared.visit.Visit.{Visit}
use Rattle.lr_include.specs.declared.visit.Visit.TheVariants as visit
use Rattle.lr_include.specs.declared.part.TextEnd.TheVariants as end
use Rattle.lr_include.specs.Visits.{ShowsVisit, HasFailed}
use Rattle.lr_host.specs.Counted.{RoseBy}
use Rattle.lr_include.specs.Allowed.{failed_in}
use Rattle.lr_include.specs.declared.course.Course.{Course}
use Rattle.lr_include.specs.declared.task.Ask.{Ask}
use Rattle.lr_include.specs.declared.task.ReadPiece.{ReadPiece}
use Rattle.lr_include.specs.declared.task.ReadPiece.TheVariants as piece
use Rattle.lr_include.specs.declared.task.Task.{Task}
use Rattle.lr_include.specs.declared.task.Task.TheVariants as task
use Rattle.lr_include.specs.Stages.{Stage, piece_of, line_tasks, ask_of, asked_at, lines_in, lines_now, open_behind, asks_in, asks_now, past_piece, before_asks, settled_from, settled_stage, is_shallow, room_for, telling, telling_exposed, name_task, name_tasks, behind_names, after_ask, after_name, IsTaboo, visited, at_visits, ShowsNext, ShowsVisits, begun, visits_mean, Reads}
use Rattle.lr_include.specs.Course.{Knows, StandsAt, SameRest, SameButTodo, CourseTells, TellsAnswer, TookPiece, TakesPiece, ToldFault, ClosesFile, WentOn, GoesOn}

-- ---- one more line

abbrev SameLines : Layer → Layer → List Fault → List Include → ConfLine → Type 0
SameLines old new faults includes e =
    ((more : List ConfLine) → coming old (e ∷ more) ≡ (only_faults faults and coming new more))
    × ((more : List ConfLine) → asking old (e ∷ more) ≡ includes ++ asking new more)
    × ((more : List ConfLine) → banning old (e ∷ more) ≡ banning new more)

one_line : (old new : Layer) (before after faults : List Fault) (includes : List Include) (lines : List ConfLine) (inside : List Path) (e : ConfLine)
    → SameLines old new faults includes e → entered new ≡ entered old → after ≡ before ++ faults → Knows old before lines inside
    → Knows new after (lines ++ e ∷ []) inside × (asked_at lines e ≡ includes)
one_line old new before after faults includes lines inside e same files_are is k = (
  record {
    means = λ more.
        ap (λ (fs : List Fault). only_faults fs and coming new more) is
        ∙ (ap (λ (fs : List Fault). record { rules = (coming new more).rules; notices = (coming new more).notices; faults = fs }) (append_assoc before faults (coming new more).faults)
        ∙ (ap (λ (m : Meaning). only_faults before and m) (sym (same.0 more))
        ∙ (k.means (e ∷ more) ∙ ap (meaning false []) (sym (append_assoc lines (e ∷ []) more)))));
    asks = λ more.
        ap (asked false) (append_assoc lines (e ∷ []) more)
        ∙ (k.asks (e ∷ more)
        ∙ (ap (λ (is : List Include). asked false lines ++ is) (same.1 more)
        ∙ (sym (append_assoc (asked false lines) includes (asking new more))
        ∙ ap (λ (is : List Include). is ++ asking new more) (sym one))));
    bans = λ more. ap (banned false first_taboo) (append_assoc lines (e ∷ []) more) ∙ (k.bans (e ∷ more) ∙ same.2 more);
    files = files_are ∙ k.files;
  },
  ap (drop (length (asked false lines))) one ∙ drop-append_seam (asked false lines) includes,
)
  where
    one : asked false (lines ++ e ∷ []) ≡ asked false lines ++ includes
    one = k.asks (e ∷ []) ∙ ap (λ (is : List Include). asked false lines ++ is) (same.1 [] ∙ append-nil includes)

pub passed_line : (old new : Layer) (before after faults : List Fault) (lines : List ConfLine) (inside : List Path) (e : ConfLine)
    → ((more : List ConfLine) → coming old (e ∷ more) ≡ (only_faults faults and coming new more)) → ((more : List ConfLine) → asking old (e ∷ more) ≡ asking new more) → ((more : List ConfLine) → banning old (e ∷ more) ≡ banning new more)
    → entered new ≡ entered old → after ≡ before ++ faults → Knows old before lines inside → Knows new after (lines ++ e ∷ []) inside
passed_line old new before after faults lines inside e c a b files is k = (one_line old new before after faults [] lines inside e (c, a, b) files is k).0

-- a layer that is alike
pub alike_layer : (old new : Layer) (faults : List Fault) (lines : List ConfLine) (inside files : List Path)
    → ((more : List ConfLine) → coming new more ≡ coming old more) → ((more : List ConfLine) → asking new more ≡ asking old more) → ((more : List ConfLine) → banning new more ≡ banning old more)
    → entered new ≡ files → Knows old faults lines inside → Knows new faults lines files
alike_layer old new faults lines inside files c a b is k = record {
  means = λ more. ap (λ (m : Meaning). only_faults faults and m) (c more) ∙ k.means more;
  asks = λ more. k.asks more ∙ ap (λ (is : List Include). asked false lines ++ is) (sym (a more));
  bans = λ more. k.bans more ∙ sym (b more);
  files = is;
}

-- ---- items

of_answer : (a b : Course) (old new : Layer) (file : Path) (e : ConfLine) (r : Result (Option Include) LayerStop) → LayerTook old new file e r → Asks old new e r → Bans old new e r → TellsAnswer a b file r
    → (faults : List Fault) × (includes : List Include) × SameLines old new faults includes e × CourseTells a b file faults includes × (o : Option Include) × (includes ≡ option_to_list o)
of_answer a b old new file e (Ok o) t q n s = ([], option_to_list o, (t, q, n), s, o, refl)
of_answer a b old new file e (Err stop.Memory) t q n s = absurd s
of_answer a b old new file e (Err (stop.Conf at k)) t q n s = (layer_faults file (stop.Conf at k), [], (t, q, n), s, None, refl)
of_answer a b old new file e (Err (stop.NoBraceAnd first at k)) t q n s = (layer_faults file (stop.NoBraceAnd first at k), [], (t, q, n), s, None, refl)
of_answer a b old new file e (Err (stop.NoBraceThen first i)) t q n s = (layer_faults file (stop.NoBraceThen first i), i ∷ [], (t, q, n), s, Some i, refl)

-- tasks that are put on top
one_on_top : (file : Path) (o : Option Include) (old : List Task) → reverse (old ++ map (ask_of file) (option_to_list o)) ≡ map (ask_of file) (option_to_list o) ++ reverse old
one_on_top file None old = ap reverse (append-nil old)
one_on_top file (Some i) old = reverse-append old (ask_of file i ∷ [])

on_top : (file : Path) (includes : List Include) (o : Option Include) (old new : List Task) → includes ≡ option_to_list o → new ≡ old ++ map (ask_of file) includes → reverse new ≡ map (ask_of file) includes ++ reverse old
on_top file includes o old new is e = ap reverse e ∙ subst (λ (xs : List Include). reverse (old ++ map (ask_of file) xs) ≡ map (ask_of file) xs ++ reverse old) (sym is) (one_on_top file o old)

-- the file that is read now
lines_of_open : (inside : List Path) (p : ReadPiece) → ((inside ≡ []) → ⊥) → lines_now inside p ≡ lines_in (last_or [] inside) p
lines_of_open [] p some = absurd (some refl)
lines_of_open (f ∷ fs) p some = refl

asks_of_open : (inside : List Path) (lines : List ConfLine) (p : ReadPiece) → ((inside ≡ []) → ⊥) → asks_now inside lines p ≡ asks_in (last_or [] inside) lines p
asks_of_open [] lines p some = absurd (some refl)
asks_of_open (f ∷ fs) lines p some = refl

-- ---- pieces

-- Nothing but the layer, and what is told, is another.
abbrev Beside : Course → Course → Type 0
Beside old new = (new.faults.items ≡ old.faults.items) × (new.files ≡ old.files) × (new.bytes ≡ old.bytes) × (new.todo.items ≡ old.todo.items) × (new.exposed ≡ old.exposed)

some_file : (L : Layer) → 0 < length (entered L) → (entered L ≡ []) → ⊥
some_file L pos e = let none : length (entered L) ≡ 0 = ap length e in absurd (omega (arith, none, pos))

-- it is enough to know it of the files that are entered
by_entered : (old new : Course) (p : ReadPiece) → ((lines : List ConfLine) → Knows old.layer old.faults.items lines (entered old.layer) → TookPiece old new p lines (entered old.layer)) → TakesPiece old new p
by_entered old new p f lines inside k =
    subst (λ (files : List Path). TookPiece old new p lines files) k.files (f lines (subst (λ (files : List Path). Knows old.layer old.faults.items lines files) (sym k.files) k))

pub took_item : (old mid new : Course) (item : Item) (r : Result (Option Include) LayerStop) → Beside old mid → entered mid.layer ≡ entered old.layer → 0 < length (entered old.layer)
    → LayerTook old.layer mid.layer (file_of_layer old.layer) (Read (file_of_layer old.layer) item) r → Asks old.layer mid.layer (Read (file_of_layer old.layer) item) r → Bans old.layer mid.layer (Read (file_of_layer old.layer) item) r
    → TellsAnswer mid new (file_of_layer mid.layer) r → TakesPiece old new (piece.Item item)
took_item old mid new item r same files pos took asks bans tells = by_entered old new (piece.Item item) (λ lines k.
    let file = file_of_layer old.layer in
    let told_here = subst (λ (x : Path). TellsAnswer mid new x r) (ap (last_or []) files) tells in
    let a = of_answer mid new old.layer mid.layer file (Read file item) r took asks bans told_here in
    let t = a.3 in
    let one = one_line old.layer mid.layer old.faults.items new.faults.items a.0 a.1 lines (entered old.layer) (Read file item) a.2 files
    (t.faults_are ∙ ap (λ (fs : List Fault). fs ++ a.0) same.0) k in
    record {
      knows = subst (λ (ls : List ConfLine). Knows new.layer new.faults.items (lines ++ ls) (entered old.layer)) (sym (lines_of_open (entered old.layer) (piece.Item item) (some_file old.layer pos)))
          (subst (λ (x : Layer). Knows x new.faults.items (lines ++ Read file item ∷ []) (entered old.layer)) (sym t.layer) one.0);
      files = t.files ∙ same.1;
      bytes = t.bytes ∙ same.2;
      exposed = t.exposed ∙ same.4;
      todo = on_top file a.1 a.4 mid.todo.items new.todo.items a.5 t.todo
          ∙ (ap (λ (ts : List Task). map (ask_of file) a.1 ++ reverse ts) same.3
          ∙ ap (λ (ts : List Task). ts ++ reverse old.todo.items) (sym (asks_of_open (entered old.layer) lines (piece.Item item) (some_file old.layer pos) ∙ ap (map (ask_of file)) one.1)));
    })

pub told_fault : (old mid new : Course) (f : Fault) → Beside old mid → ((g : Fault) (more : List ConfLine) → coming old.layer (Spoiled g ∷ more) ≡ (only_faults (g ∷ []) and coming mid.layer more)) → ((g : Fault) → LayerPasses old.layer mid.layer (Spoiled g))
    → entered mid.layer ≡ entered old.layer → new.layer ≡ mid.layer → new.faults.items ≡ mid.faults.items ++ f ∷ [] → SameRest mid new → ToldFault old new f
told_fault old mid new f same means passes files layer told_it rest = record {
  knows = λ lines inside k. subst (λ (x : Layer). Knows x new.faults.items (lines ++ Spoiled f ∷ []) inside) (sym layer)
      (passed_line old.layer mid.layer old.faults.items new.faults.items (f ∷ []) lines inside (Spoiled f) (means f) (passes f).asks (passes f).bans files (told_it ∙ ap (λ (fs : List Fault). fs ++ f ∷ []) same.0) k);
  entered_are = ap entered layer ∙ files;
  rest = record { files = rest.files ∙ same.1; bytes = rest.bytes ∙ same.2; exposed = rest.exposed ∙ same.4; todo = rest.todo ∙ same.3 };
}

took_fault : (old new : Course) (line : ℕ) (kind : ConfKind) → ToldFault old new (conf (file_of_layer old.layer) kind line) → 0 < length (entered old.layer) → TakesPiece old new (piece.Fault line kind)
took_fault old new line kind t pos = by_entered old new (piece.Fault line kind) (λ lines k. record {
  knows = subst (λ (ls : List ConfLine). Knows new.layer new.faults.items (lines ++ ls) (entered old.layer)) (sym (lines_of_open (entered old.layer) (piece.Fault line kind) (some_file old.layer pos))) (t.knows lines (entered old.layer) k);
  files = t.rest.files;
  bytes = t.rest.bytes;
  exposed = t.rest.exposed;
  todo = ap reverse t.rest.todo ∙ ap (λ (ts : List Task). ts ++ reverse old.todo.items) (sym (asks_of_open (entered old.layer) lines (piece.Fault line kind) (some_file old.layer pos)));
})

pub took_spoilt : (old mid new : Course) (line : ℕ) (kind : ConfKind) → Beside old mid → ((g : Fault) (more : List ConfLine) → coming old.layer (Spoiled g ∷ more) ≡ (only_faults (g ∷ []) and coming mid.layer more)) → ((g : Fault) → LayerPasses old.layer mid.layer (Spoiled g))
    → entered mid.layer ≡ entered old.layer → 0 < length (entered old.layer) → new.layer ≡ mid.layer → new.faults.items ≡ mid.faults.items ++ conf (file_of_layer mid.layer) kind line ∷ [] → SameRest mid new → TakesPiece old new (piece.Fault line kind)
took_spoilt old mid new line kind same means passes files pos layer told_it rest = took_fault old new line kind
    (told_fault old mid new (conf (file_of_layer old.layer) kind line) same means passes files layer (told_it ∙ ap (λ (x : Path). mid.faults.items ++ conf x kind line ∷ []) (ap (last_or []) files)) rest) pos

-- the file is left
left_layer : (mid new : Layer) (faults : List Fault) (lines : List ConfLine) (inside : List Path) → ((more : List ConfLine) → coming new more ≡ coming mid more) → Alike mid new → entered new ≡ take (length (entered mid) - 1) (entered mid) → Knows mid faults lines inside
    → Knows new faults lines (take (length inside - 1) inside)
left_layer mid new faults lines inside c a e k = alike_layer mid new faults lines inside (take (length inside - 1) inside) c a.asks a.bans (e ∙ ap (λ (files : List Path). take (length files - 1) files) k.files) k

pub took_end : (old mid new : Course) → ClosesFile old mid → Beside mid new → ((more : List ConfLine) → coming new.layer more ≡ coming mid.layer more) → Alike mid.layer new.layer → entered new.layer ≡ take (length (entered mid.layer) - 1) (entered mid.layer)
    → 0 < length (entered old.layer) → TakesPiece old new piece.End
took_end old mid new t same c a e pos = by_entered old new piece.End (λ lines k. record {
  knows = subst (λ (fs : List Fault). Knows new.layer fs (lines ++ lines_now (entered old.layer) piece.End) (open_behind (entered old.layer) piece.End)) (sym same.0)
      (subst (λ (ls : List ConfLine). Knows new.layer mid.faults.items (lines ++ ls) (open_behind (entered old.layer) piece.End)) (sym (lines_of_open (entered old.layer) piece.End (some_file old.layer pos)))
      (left_layer mid.layer new.layer mid.faults.items (lines ++ End (file_of_layer old.layer) ∷ []) (entered old.layer) c a e (t.knows lines (entered old.layer) k)));
  files = same.1 ∙ t.rest.files;
  bytes = same.2 ∙ t.rest.bytes;
  exposed = same.4 ∙ t.rest.exposed;
  todo = ap reverse (same.3 ∙ t.rest.todo) ∙ ap (λ (ts : List Task). ts ++ reverse old.todo.items) (sym (asks_of_open (entered old.layer) lines piece.End (some_file old.layer pos)));
})

pub took_break : (old mid new : Course) (cut : Layer) (f : Fault) → ToldFault old mid f → ((more : List ConfLine) → coming mid.layer (Cut ∷ more) ≡ coming cut more) → LayerPasses mid.layer cut Cut → entered cut ≡ entered mid.layer
    → Beside mid new → ((more : List ConfLine) → coming new.layer more ≡ coming cut more) → Alike cut new.layer → entered new.layer ≡ take (length (entered cut) - 1) (entered cut)
    → 0 < length (entered old.layer) → TakesPiece old new (piece.Break f)
took_break old mid new cut f t means passes files same c a e pos = by_entered old new (piece.Break f) (λ lines k.
    let behind = passed_line mid.layer cut mid.faults.items mid.faults.items [] (lines ++ Spoiled f ∷ []) (entered old.layer) Cut means passes.asks passes.bans files (sym (append-nil mid.faults.items)) (t.knows lines (entered old.layer) k) in
    record {
      knows = subst (λ (fs : List Fault). Knows new.layer fs (lines ++ lines_now (entered old.layer) (piece.Break f)) (open_behind (entered old.layer) (piece.Break f))) (sym same.0)
          (subst (λ (ls : List ConfLine). Knows new.layer mid.faults.items (lines ++ ls) (open_behind (entered old.layer) (piece.Break f))) (sym (lines_of_open (entered old.layer) (piece.Break f) (some_file old.layer pos)))
          (subst (λ (ls : List ConfLine). Knows new.layer mid.faults.items ls (open_behind (entered old.layer) (piece.Break f))) (append_assoc lines (Spoiled f ∷ []) (Cut ∷ []))
          (left_layer cut new.layer mid.faults.items ((lines ++ Spoiled f ∷ []) ++ Cut ∷ []) (entered old.layer) c a e behind)));
      files = same.1 ∙ t.rest.files;
      bytes = same.2 ∙ t.rest.bytes;
      exposed = same.4 ∙ t.rest.exposed;
      todo = ap reverse (same.3 ∙ t.rest.todo) ∙ ap (λ (ts : List Task). ts ++ reverse old.todo.items) (sym (asks_of_open (entered old.layer) lines (piece.Break f) (some_file old.layer pos)));
    })

-- ---- stages

at_same : (s t : Stage) → settled_stage s ≡ settled_stage t → (more : List (Option Visit)) → at_visits s more ≡ at_visits t more
at_same s t e [] = e
at_same s t e (v ∷ vs) = ap (λ (x : Stage). at_visits (visited x v) vs) e

shows_same : (s t : Stage) → settled_stage s ≡ settled_stage t → (more : List (Option Visit)) (us : List Entry) → ShowsVisits t more us → ShowsVisits s more us
shows_same s t e [] us h = h
shows_same s t e (v ∷ vs) us h = subst (λ (x : Stage). Then (ShowsNext x x.todo v) (ShowsVisits (visited x v) vs) us) (sym e) h

pub went_same : (s t : Stage) (o : Option Journal) (b : ℕ) → settled_stage s ≡ settled_stage t → WentOn s t o o b b
went_same s t o b e = record { visits = []; leads = at_same s t e; shown = left_first _ o (shows_same s t e); counted = omega arith }

pub went_by : (s t : Stage) (v : Option Visit) {o n : Option Journal} (b a : ℕ) → RoseBy (failed_in (v ∷ [])) b a → visited (settled_stage s) v ≡ t → Left (ShowsNext (settled_stage s) (settled_stage s).todo v) o n → WentOn s t o n b a
went_by s t v b a c e l = record {
  counted = c;
  visits = v ∷ [];
  leads = λ more. ap (λ (x : Stage). at_visits x more) e;
  shown = left_as l (λ ts h more us k. record { front = ts; back = us; joined = refl; first = h; second = subst (λ (x : Stage). ShowsVisits x more us) (sym e) k });
}

failed_more : (vs ws : List (Option Visit)) → failed_in (vs ++ ws) ≡ failed_in vs + failed_in ws
failed_more [] ws = omega arith
failed_more (Some v ∷ vs) ws = let more = failed_more vs ws in omega (arith, more)
failed_more (None ∷ vs) ws = failed_more vs ws

rose_both : (a b c m n k : ℕ) → k ≡ m + n → RoseBy m a b → RoseBy n b c → RoseBy k a c
rose_both a b c m n k e f g = omega (arith, e, f, g)

pub went_then : (r s t : Stage) {o m n : Option Journal} (i j k : ℕ) → WentOn r s o m i j → WentOn s t m n j k → WentOn r t o n i k
went_then r s t i j k a b = record {
  counted = rose_both i j k (failed_in a.visits) (failed_in b.visits) (failed_in (a.visits ++ b.visits)) (failed_more a.visits b.visits) a.counted b.counted;
  visits = a.visits ++ b.visits;
  leads = λ more. ap (at_visits r) (append_assoc a.visits b.visits more) ∙ (a.leads (b.visits ++ more) ∙ b.leads more);
  shown = left_then a.shown b.shown (λ xs ys p q more us h.
      subst (λ (es : List Entry). ShowsVisits r ((a.visits ++ b.visits) ++ more) es) (sym (append_assoc xs ys us))
      (subst (λ (vs : List (Option Visit)). ShowsVisits r vs (xs ++ (ys ++ us))) (sym (append_assoc a.visits b.visits more))
      (p (b.visits ++ more) (ys ++ us) (q more us h))));
}

-- what is still to be read makes no difference before it comes
settled_any : (s : Stage) (x todo : List Task) → settled_from (record s { todo = x }) todo ≡ settled_from s todo
settled_any s x [] = refl
settled_any s x (task.Line p ∷ todo) = ap (before_asks (asks_now s.inside s.lines p) (record (past_piece s p) { todo = asks_now s.inside s.lines p ++ todo })) (settled_any (past_piece s p) x todo)
settled_any s x (task.Ask a ∷ todo) = refl
settled_any s x (task.Name a ∷ todo) = refl

-- behind a piece
piece_settled : (t : Stage) (asks todo : List Task) → ((asks ≡ []) ⊎ ((a : Ask) × (rest : List Task) × (asks ≡ task.Ask a ∷ rest))) → before_asks asks (record t { todo = asks ++ todo }) (settled_from t todo) ≡ settled_stage (record t { todo = asks ++ todo })
piece_settled t asks todo (inl none) = subst (λ (front : List Task). before_asks front (record t { todo = front ++ todo }) (settled_from t todo) ≡ settled_stage (record t { todo = front ++ todo })) (sym none) (sym (settled_any t todo todo))
piece_settled t asks todo (inr (a, rest, some)) = subst (λ (front : List Task). before_asks front (record t { todo = front ++ todo }) (settled_from t todo) ≡ settled_stage (record t { todo = front ++ todo })) (sym some) refl

are_asks : (file : Path) (includes : List Include) → (map (ask_of file) includes ≡ []) ⊎ ((a : Ask) × (rest : List Task) × (map (ask_of file) includes ≡ task.Ask a ∷ rest))
are_asks file [] = inl refl
are_asks file (i ∷ is) = inr (record { file = file; line = i.line; path = i.path }, map (ask_of file) is, refl)

asks_are : (inside : List Path) (lines : List ConfLine) (p : ReadPiece) → (asks_now inside lines p ≡ []) ⊎ ((a : Ask) × (rest : List Task) × (asks_now inside lines p ≡ task.Ask a ∷ rest))
asks_are [] lines p = inl refl
asks_are (f ∷ fs) lines (piece.Item i) = are_asks (last_or [] (f ∷ fs)) (asked_at lines (Read (last_or [] (f ∷ fs)) i))
asks_are (f ∷ fs) lines (piece.Fault at kind) = inl refl
asks_are (f ∷ fs) lines piece.End = inl refl
asks_are (f ∷ fs) lines (piece.Break e) = inl refl

behind_piece : (s : Stage) (p : ReadPiece) → settled_stage (record s { todo = task.Line p ∷ s.todo }) ≡ settled_stage (record (past_piece s p) { todo = asks_now s.inside s.lines p ++ s.todo })
behind_piece s p =
    ap (before_asks (asks_now s.inside s.lines p) (record (past_piece s p) { todo = asks_now s.inside s.lines p ++ s.todo })) (settled_any (past_piece s p) (task.Line p ∷ s.todo) s.todo)
    ∙ piece_settled (past_piece s p) (asks_now s.inside s.lines p) s.todo (asks_are s.inside s.lines p)

-- a piece was taken in
pub line_turned : (old new : Course) (p : ReadPiece) (s : Stage) (o : Option Journal) (b : ℕ) → TakesPiece old new p → StandsAt old s → GoesOn (record s { todo = task.Line p ∷ s.todo }) new o o b b
line_turned old new p s o b t st =
    let k = t s.lines s.inside st.knows in
    record {
      stage = record (past_piece s p) { todo = asks_now s.inside s.lines p ++ s.todo };
      stands = record { knows = k.knows; files = k.files ∙ st.files; bytes = k.bytes ∙ st.bytes; exposed = k.exposed ∙ st.exposed; todo = k.todo ∙ ap (λ (ts : List Task). asks_now s.inside s.lines p ++ ts) st.todo };
      went = went_same _ _ o b (behind_piece s p);
    }

-- ---- visits

after_ask_any : (s : Stage) (x : List Task) (a : Ask) (v : Visit) (todo : List Task) → after_ask (record s { todo = x }) a v todo ≡ after_ask s a v todo
after_ask_any s x a visit.Unseen todo = refl
after_ask_any s x a visit.Nothing todo = refl
after_ask_any s x a visit.File todo = refl
after_ask_any s x a visit.Exposed todo = refl
after_ask_any s x a visit.Dir todo = refl
after_ask_any s x a visit.Unlisted todo = refl
after_ask_any s x a (visit.Holds names) todo = refl
after_ask_any s x a (visit.Reads told size how) todo = refl

after_name_any : (s : Stage) (x : List Task) (a : Ask) (v : Visit) (todo : List Task) → after_name (record s { todo = x }) a v todo ≡ after_name s a v todo
after_name_any s x a visit.Unseen todo = refl
after_name_any s x a visit.Nothing todo = refl
after_name_any s x a visit.File todo = refl
after_name_any s x a visit.Exposed todo = refl
after_name_any s x a visit.Dir todo = refl
after_name_any s x a visit.Unlisted todo = refl
after_name_any s x a (visit.Holds names) todo = refl
after_name_any s x a (visit.Reads told size how) todo = refl

one_failed : (v : Visit) (b a : ℕ) → b ≤ a → (HasFailed v → min (b + 1) (2 ^ 64 - 1) ≤ a) → RoseBy (failed_in (Some v ∷ [])) b a
one_failed visit.Unseen b a le h = let f = h tt in omega (arith, f)
one_failed visit.Nothing b a le h = omega (arith, le)
one_failed visit.File b a le h = omega (arith, le)
one_failed visit.Exposed b a le h = omega (arith, le)
one_failed visit.Dir b a le h = omega (arith, le)
one_failed visit.Unlisted b a le h = let f = h tt in omega (arith, f)
one_failed (visit.Holds names) b a le h = omega (arith, le)
one_failed (visit.Reads told size end.Whole) b a le h = omega (arith, le)
one_failed (visit.Reads told size end.TooMany) b a le h = omega (arith, le)
one_failed (visit.Reads told size end.Failed) b a le h = let f = h refl in omega (arith, f)

pub ask_turned : (s : Stage) (new : Course) (a : Ask) (v : Visit) {o n : Option Journal} (i j : ℕ) → i ≤ j → (HasFailed v → min (i + 1) (2 ^ 64 - 1) ≤ j) → Left (ShowsVisit a.path (is_shallow s) (room_for s) v) o n → StandsAt new (after_ask s a v s.todo) → GoesOn (record s { todo = task.Ask a ∷ s.todo }) new o n i j
ask_turned s new a v i j le c l st = record {
  stage = after_ask s a v s.todo;
  stands = st;
  went = went_by (record s { todo = task.Ask a ∷ s.todo }) (after_ask s a v s.todo) (Some v) i j (one_failed v i j le c) (after_ask_any s (task.Ask a ∷ s.todo) a v s.todo) l;
}

pub name_turned : (s : Stage) (new : Course) (a : Ask) (v : Visit) {o n : Option Journal} (i j : ℕ) → i ≤ j → (HasFailed v → min (i + 1) (2 ^ 64 - 1) ≤ j) → (IsTaboo s.lines a.path → ⊥) → Left (ShowsVisit a.path false (room_for s) v) o n → StandsAt new (after_name s a v s.todo) → GoesOn (record s { todo = task.Name a ∷ s.todo }) new o n i j
name_turned s new a v i j le c free l st = record {
  stage = after_name s a v s.todo;
  stands = st;
  went = went_by (record s { todo = task.Name a ∷ s.todo }) (after_name s a v s.todo) (Some v) i j (one_failed v i j le c) (after_name_any s (task.Name a ∷ s.todo) a v s.todo) (left_as l (λ ts h. (free, h)));
}

pub name_barred : (s : Stage) (c : Course) (a : Ask) (o : Option Journal) (i : ℕ) → IsTaboo s.lines a.path → StandsAt c s → GoesOn (record s { todo = task.Name a ∷ s.todo }) c o o i i
name_barred s c a o i bars st = record {
  stage = s;
  stands = st;
  went = went_by (record s { todo = task.Name a ∷ s.todo }) s None i i (omega arith) refl (left_first _ o (bars, refl));
}

-- ---- answers

pub on_ok_three : {T E : Type 0} (r : Result T E) {A B C D : Type 0} → OnOk r A → OnOk r B → OnOk r C → (A → B → C → D) → OnOk r D
on_ok_three (Ok x) a b c f = f a b c
on_ok_three (Err x) a b c f = tt

pub still_some : (old new : List Path) → new ≡ old → 0 < length old → 0 < length new
still_some old new e pos = omega (arith, ap length e, pos)

pub barred : (b : Bool) (t u : Taboo) (n m : List ℕ) → t ≡ u → n ≡ m → (b ≡ true → Bars t n) × (Bars t n → b ≡ true) → (b ≡ true → Bars u m) × (Bars u m → b ≡ true)
barred b t u n m e f h = subst (λ (x : List ℕ). (b ≡ true → Bars u x) × (Bars u x → b ≡ true)) f (subst (λ (x : Taboo). (b ≡ true → Bars x n) × (Bars x n → b ≡ true)) e h)

-- the last of the names
pub name_last : (a : Ask) (names : List (List ℕ)) (name : List ℕ) → name_tasks a (names ++ name ∷ []) ≡ name_tasks a names ++ name_tasks a (name ∷ [])
name_last a names name = filter_map-append (name_task a) names (name ∷ [])

-- the last that a file told
pub line_last : (told : List Told) (one : Told) → line_tasks (told ++ one ∷ []) ≡ line_tasks told ++ line_tasks (one ∷ [])
line_last told one = ap (map task.Line) (filter_map-append piece_of told (one ∷ [])) ∙ map-append task.Line (filter_map piece_of told) (filter_map piece_of (one ∷ []))

-- a fault of a visit was told
pub told_stands : (old new : Course) (f : Fault) (s : Stage) → ToldFault old new f → StandsAt old s → StandsAt new (telling s f s.todo)
told_stands old new f s t st = record {
  knows = t.knows s.lines s.inside st.knows;
  files = t.rest.files ∙ st.files;
  bytes = t.rest.bytes ∙ st.bytes;
  exposed = t.rest.exposed ∙ st.exposed;
  todo = ap reverse t.rest.todo ∙ st.todo;
}

-- it was told before that others may write the file
pub exposed_again : (c : Course) (file : Path) (s : Stage) → list_any (bytes_eq file) c.exposed ≡ true → StandsAt c s → StandsAt c (telling_exposed s file s.todo)
exposed_again c file s again st = subst (λ (b : Bool). StandsAt c (cond b s (record (telling s (conf file kind.Writable 0) s.todo) { exposed = s.exposed ++ file ∷ [] }))) (sym again ∙ ap (list_any (bytes_eq file)) st.exposed) st

-- it is told now
pub exposed_first : (old mid new : Course) (file : Path) (s : Stage) → ToldFault mid new (conf file kind.Writable 0) → list_any (bytes_eq file) old.exposed ≡ false → mid.layer ≡ old.layer → mid.faults.items ≡ old.faults.items → mid.files ≡ old.files → mid.bytes ≡ old.bytes → mid.todo.items ≡ old.todo.items
    → mid.exposed ≡ old.exposed ++ file ∷ [] → StandsAt old s → StandsAt new (telling_exposed s file s.todo)
exposed_first old mid new file s t first layer faults files bytes todo exposed st =
    subst (λ (b : Bool). StandsAt new (cond b s (record (telling s (conf file kind.Writable 0) s.todo) { exposed = s.exposed ++ file ∷ [] }))) (sym first ∙ ap (list_any (bytes_eq file)) st.exposed)
    (told_stands mid new (conf file kind.Writable 0) (record s { exposed = s.exposed ++ file ∷ [] }) t (record {
      knows = subst (λ (x : Layer). Knows x mid.faults.items s.lines s.inside) (sym layer) (subst (λ (fs : List Fault). Knows old.layer fs s.lines s.inside) (sym faults) st.knows);
      files = files ∙ st.files;
      bytes = bytes ∙ st.bytes;
      exposed = exposed ∙ ap (λ (xs : List Path). xs ++ file ∷ []) st.exposed;
      todo = ap reverse todo ∙ st.todo;
    }))

-- the rest of the directory was passed over
pub passed_stands : (old new : Course) (s : Stage) → SameButTodo old new → reverse new.todo.items ≡ behind_names (reverse old.todo.items) → StandsAt old s → StandsAt new (record s { todo = behind_names s.todo })
passed_stands old new s same todo st = record {
  knows = subst (λ (x : Layer). Knows x new.faults.items s.lines s.inside) (sym same.layer) (subst (λ (fs : List Fault). Knows old.layer fs s.lines s.inside) (sym same.faults) st.knows);
  files = same.files ∙ st.files;
  bytes = same.bytes ∙ st.bytes;
  exposed = same.exposed ∙ st.exposed;
  todo = todo ∙ ap behind_names st.todo;
}

pub shown_at : (x : Path) (lists lists' : Bool) (room room' : Option ℕ) (v : Visit) {o n : Option Journal} → lists ≡ lists' → room ≡ room' → Left (ShowsVisit x lists room v) o n → Left (ShowsVisit x lists' room' v) o n
shown_at x lists lists' room room' v e f l = left_as l (λ ts h. subst (λ (b : Bool). ShowsVisit x b room' v ts) e (subst (λ (k : Option ℕ). ShowsVisit x lists k v ts) f h))

-- ---- the whole

settled_end : (s : Stage) → s.todo ≡ [] → settled_stage s ≡ record s { todo = [] }
settled_end s e = ap (settled_from s) e

pub all_read : (paths : List Path) (s : Stage) {o n : Option Journal} {i j : ℕ} → (w : WentOn (begun paths) s o n i j) → s.todo ≡ [] → at_visits (begun paths) w.visits ≡ record s { todo = [] }
all_read paths s w none = ap (at_visits (begun paths)) (sym (append-nil w.visits)) ∙ (w.leads [] ∙ settled_end s none)

pub all_mean : (paths : List Path) (m : Meaning) (s : Stage) {o n : Option Journal} {i j : ℕ} → (w : WentOn (begun paths) s o n i j) → s.todo ≡ [] → m ≡ meaning false [] s.lines → m ≡ visits_mean paths w.visits
all_mean paths m s w none is = is ∙ sym (ap (λ (x : Stage). meaning false [] x.lines) (all_read paths s w none))

pub reads_all : (paths : List Path) (m : Meaning) (s : Stage) {o n : Option Journal} {i j : ℕ} → (w : WentOn (begun paths) s o n i j) → s.todo ≡ [] → m ≡ meaning false [] s.lines → Left (Reads paths m) o n
reads_all paths m s w none is = left_as w.shown (λ ts h. record {
  visits = w.visits;
  shown = subst (λ (vs : List (Option Visit)). ShowsVisits (begun paths) vs ts) (append-nil w.visits) (subst (λ (es : List Entry). ShowsVisits (begun paths) (w.visits ++ []) es) (append-nil ts) (h [] [] refl));
  all = ap (λ (x : Stage). x.todo) (all_read paths s w none);
  means = all_mean paths m s w none is;
})

abbrev made : List Rule → List Notice → List Fault → Meaning
made rules notices faults = record { rules = rules; notices = notices; faults = faults }

-- what a layer that is finished gave, with the faults that were told
pub finished : (layer : Layer) (faults kept : List Fault) (rules : List Rule) (notices : List Notice) → rules ≡ (coming layer []).rules → notices ≡ (coming layer []).notices → kept ≡ faults → made rules notices kept ≡ (only_faults faults and coming layer [])
finished layer faults kept rules notices r n f =
    ap (λ (xs : List Rule). made xs notices kept) r
    ∙ (ap (λ (xs : List Notice). made (coming layer []).rules xs kept) n
    ∙ ap (λ (fs : List Fault). made (coming layer []).rules (coming layer []).notices fs) (f ∙ sym (append-nil faults)))

pub same_then : (a b c : Course) → SameButTodo a b → SameButTodo b c → SameButTodo a c
same_then a b c x y = record { layer = y.layer ∙ x.layer; faults = y.faults ∙ x.faults; files = y.files ∙ x.files; bytes = y.bytes ∙ x.bytes; exposed = y.exposed ∙ x.exposed }

-- ---- turns

-- what was next was taken off
pub popped_stands : (old popped : Course) (s : Stage) → popped.layer ≡ old.layer → popped.faults.items ≡ old.faults.items → popped.files ≡ old.files → popped.bytes ≡ old.bytes → popped.exposed ≡ old.exposed → StandsAt old s → StandsAt popped (record s { todo = reverse popped.todo.items })
popped_stands old popped s layer faults files bytes exposed st = record {
  knows = subst (λ (x : Layer). Knows x popped.faults.items s.lines s.inside) (sym layer) (subst (λ (fs : List Fault). Knows old.layer fs s.lines s.inside) (sym faults) st.knows);
  files = files ∙ st.files;
  bytes = bytes ∙ st.bytes;
  exposed = exposed ∙ st.exposed;
  todo = refl;
}

pub next_was : (old popped : Course) (t : Task) (s : Stage) → old.todo.items ≡ popped.todo.items ++ t ∷ [] → StandsAt old s → t ∷ reverse popped.todo.items ≡ s.todo
next_was old popped t s todo st = sym (reverse-append popped.todo.items (t ∷ [])) ∙ (sym (ap reverse todo) ∙ st.todo)

-- and read on by
pub stepped : (old popped new : Course) (t : Task) (s : Stage) (o n : Option Journal) (i j : ℕ) → popped.layer ≡ old.layer → popped.faults.items ≡ old.faults.items → popped.files ≡ old.files → popped.bytes ≡ old.bytes → popped.exposed ≡ old.exposed → old.todo.items ≡ popped.todo.items ++ t ∷ []
    → ((m : Stage) → StandsAt popped m → GoesOn (record m { todo = t ∷ m.todo }) new o n i j) → StandsAt old s → GoesOn s new o n i j
stepped old popped new t s o n i j layer faults files bytes exposed todo f st =
    let g = f (record s { todo = reverse popped.todo.items }) (popped_stands old popped s layer faults files bytes exposed st) in
    subst (λ (ts : List Task). GoesOn (record s { todo = ts }) new o n i j) (next_was old popped t s todo st) g

pub stayed : (c : Course) (s : Stage) (o : Option Journal) (i : ℕ) → StandsAt c s → GoesOn s c o o i i
stayed c s o i st = record { stage = s; stands = st; went = went_same s s o i refl }

pub popped_none : (old new : Course) (s : Stage) (o : Option Journal) (i : ℕ) → new.layer ≡ old.layer → new.faults.items ≡ old.faults.items → new.files ≡ old.files → new.bytes ≡ old.bytes → new.exposed ≡ old.exposed → old.todo.items ≡ new.todo.items ++ [] → StandsAt old s → GoesOn s new o o i i
popped_none old new s o i layer faults files bytes exposed todo st = stayed new s o i (record {
  knows = subst (λ (x : Layer). Knows x new.faults.items s.lines s.inside) (sym layer) (subst (λ (fs : List Fault). Knows old.layer fs s.lines s.inside) (sym faults) st.knows);
  files = files ∙ st.files;
  bytes = bytes ∙ st.bytes;
  exposed = exposed ∙ st.exposed;
  todo = ap reverse (sym (todo ∙ append-nil new.todo.items)) ∙ st.todo;
})

pub goes_on : (s : Stage) (a b : Course) {o m n : Option Journal} (i j k : ℕ) → GoesOn s a o m i j → ((t : Stage) → StandsAt a t → GoesOn t b m n j k) → GoesOn s b o n i k
goes_on s a b i j k g f = let h = f g.stage g.stands in record { stage = h.stage; stands = h.stands; went = went_then s g.stage h.stage i j k g.went h.went }

pub no_todo : (c : Course) (s : Stage) → StandsAt c s → c.todo.items ≡ [] → s.todo ≡ []
no_todo c s st e = sym st.todo ∙ ap reverse e
