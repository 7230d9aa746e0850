-- Two reports that were told of the same entries are one.
use Rattle.std.proofs.Common.{◌≡◌, ◌<◌, ◌≤◌, ◌+◌, inl, inr, ℕ, ℤ, Bool, true, false, List, [], ◌∷◌, ◌++◌, Option, None, Some, length, refl, sym, ap, ◌∙◌, subst, arith, append-nil, append_assoc, length-append}
use Rattle.std.proofs.Math.Bool.{Bool-set}
use Rattle.std.proofs.lemmas.Option.{same_Some}
use Rattle.std.specs.List.{list_all}
use Rattle.lr_rules.specs.Limits.{meets_limits}
use Rattle.lr_rules.specs.Path.{parent_of}
use Rattle.lr_rules.specs.declared.clock.Clock.{Clock}
use Rattle.lr_rules.specs.declared.fault.Fault.{Fault}
use Rattle.lr_rules.specs.declared.fault.Notice.{Notice}
use Rattle.lr_rules.specs.declared.path.Path.{Path}
use Rattle.lr_rules.specs.declared.rule.Rule.{Rule}
use Rattle.lr_rules.specs.declared.rules.Rules.{Rules}
use Rattle.lr_host.specs.declared.entry.Entry.{Entry}
use Rattle.lr_host.specs.declared.entry.Entry.TheVariants as entry
use Rattle.lr_host.specs.declared.thing.Kind.{Kind}
use Rattle.lr_host.specs.declared.thing.Seen.{Seen}
use Rattle.lr_host.specs.Looks.{Sees, IsFile}
use Rattle.lr_host.specs.Reading.{text, ReadsAll}
use Rattle.lr_host.specs.Told.{Then}
use Rattle.lr_host.proofs.Reading.{reads_text, reads_one}
use Rattle.lr_conf.specs.Meaning.{Meaning}
use Rattle.lr_due.specs.declared.tz.Zone.{Zone}
use Rattle.lr_due.specs.declared.tz.Zone.TheVariants.{Utc, Rule as RuleZone, File}
use Rattle.lr_due.specs.declared.zone.ZoneText.{ZoneText}
use Rattle.lr_due.specs.declared.zone.ZoneText.TheVariants.{Bytes}
use Rattle.lr_due.specs.Zone.{IsClockIn}
use Rattle.lr_host.specs.Counted.{call_in, calls_in}
use Rattle.lr_host.proofs.Fronts.{front_same}
use Rattle.lr_plan.specs.Asked.{Asked, asking}
use Rattle.lr_plan.specs.declared.plan.Plan.{Plan}
use Rattle.lr_run.specs.InternalAnswers.{RunLeaves}
use Rattle.lr_run.specs.InternalRuns.{Runs, no_directory, not_seen, not_begun, began}
use Rattle.lr_report.specs.declared.outcome.Outcome.TheVariants.{Done}
use Rattle.lr_report.specs.declared.outcome.Report.{Report}
use Rattle.lr_command.specs.declared.request.Request.{Request}
use Rattle.lr_cli.specs.Called.{Came, CallShows}
use Rattle.lr_laws_fixed.proofs.Answer.{Reports, AnswersAt, no_clock, no_memory, called, Answered, not_read, read, shown_answers}
use Rattle.lr_clock.specs.Clock.{ShowsClock, LacksClock, out_of_range, no_text, refused}
use Rattle.lr_cli.specs.Asked.{AskFor}
use Rattle.lr_clock.specs.Zone.{IsNotFile, ShowsZone, GivesBytes, LacksText, not_file, too_big, look_failed, read_failed}
use Rattle.lr_run.proofs.Called.{none_before, none_behind}
use Rattle.lr_cli.proofs.Result.{same_report}
use Rattle.lr_laws_fixed.proofs.Called.{one_called, one_uncalled, no_call}
use Rattle.lr_laws_fixed.proofs.Peeled.{then_same, joined_same, one_look}
use Rattle.lr_laws_fixed.proofs.Clocks.{one_clock}
use Rattle.lr_laws_fixed.proofs.Run.{runs_one}
use Rattle.lr_laws_fixed.proofs.OneReading.{readings_one}

-- ---- a run begins with a look

-- where none of its calls failed, it begins with a look
run_look : (state : Path) (asked : Asked) (clock : Clock) (rules : Rules) (plan : Option Plan) (own : List Fault) (ts : List Entry) → Runs state asked clock rules plan own ts → calls_in own ≡ 0 → (seen : Option Seen) × (rest : List Entry) × (ts ≡ entry.Look (parent_of state) seen ∷ rest)
run_look state asked clock rules plan own ts (no_directory lost e s) z = (s.seen, [], s.look)
run_look state asked clock rules plan own ts (not_seen lost e none) z = absurd (one_called own _ e refl z)
run_look state asked clock rules plan own ts (not_begun lost e t) z = (t.first.seen, t.back, t.joined ∙ ap (λ vs. vs ++ t.back) t.first.look)
run_look state asked clock rules plan own ts (began i) z = (i.directory.seen, entry.Starts state clock.now rules ∷ (i.between ++ entry.Ends ∷ []), i.entries ∙ ap (λ vs. vs ++ (entry.Starts state clock.now rules ∷ (i.between ++ entry.Ends ∷ []))) i.directory.look)

-- ---- records with the same parts

abbrev rules_with : (sets : List Rule) → list_all meets_limits sets ≡ true → Rules
rules_with sets p = record { sets = sets; limits = p }

rules_same : (a b : Rules) → a.sets ≡ b.sets → a ≡ b
rules_same a b e = go a.sets b.sets a.limits b.limits e
  where
    go : (xs ys : List Rule) (p : list_all meets_limits xs ≡ true) (q : list_all meets_limits ys ≡ true) → xs ≡ ys → rules_with xs p ≡ rules_with ys q
    go xs ys p q h = subst (λ zs. (l : list_all meets_limits zs ≡ true) → rules_with xs p ≡ rules_with zs l) h (λ l. ap (rules_with xs) (Bool-set (list_all meets_limits xs) true p l)) q

-- ---- a reading and the run behind it

-- where a report tells no failed call, the reading tells none
read_none : (request : Request) (clock : Clock) (plan : Option Plan) (notices : List Notice) (faults : List Fault) (ts : List Entry) (p : Reports request clock plan notices faults ts) → calls_in faults ≡ 0 → calls_in p.meaning.faults ≡ 0
read_none request clock plan notices faults ts p c = none_before faults p.meaning.faults p.own p.faults_are c

module _ (request : Request) (dry : request.settings.debug ≡ false) (clock : Clock) (plan another : Option Plan) (notices others : List Notice) (faults more : List Fault) (ts us : List Entry) (same : ts ≡ us) (p : Reports request clock plan notices faults ts) (q : Reports request clock another others more us) (c : calls_in faults ≡ 0) (d : calls_in more ≡ 0) where
  both_read : (p.meaning ≡ q.meaning) × (p.entries.front ≡ q.entries.front) × (p.entries.back ≡ q.entries.back)
  both_read = readings_one request.confs p.meaning q.meaning p.entries.front q.entries.front p.entries.back q.entries.back p.entries.first q.entries.first
      (read_none request clock plan notices faults ts p c) (read_none request clock another others more us q d)
      (sym p.entries.joined ∙ (same ∙ q.entries.joined))

  back_is : p.entries.back ≡ q.entries.back
  back_is = both_read.2

  meaning_is : p.meaning ≡ q.meaning
  meaning_is = both_read.0

  rules_is : p.rules ≡ q.rules
  rules_is = rules_same p.rules q.rules (p.rules_are ∙ (ap (λ (m : Meaning). m.rules) meaning_is ∙ sym q.rules_are))

  -- the one run, and the other, over the rules and the entries of the one
  one_run : Runs request.settings.state (asking request.settings.force request.settings.mailer) clock p.rules plan p.own p.entries.back
  one_run = subst (λ (b : Bool). RunLeaves b request.settings.state (asking request.settings.force request.settings.mailer) clock p.rules plan p.own p.entries.back) dry p.entries.second

  as_run : Runs request.settings.state (asking request.settings.force request.settings.mailer) clock p.rules another q.own p.entries.back
  as_run = subst (λ (r : Rules). Runs request.settings.state (asking request.settings.force request.settings.mailer) clock r another q.own p.entries.back) (sym rules_is) (subst (λ vs. Runs request.settings.state (asking request.settings.force request.settings.mailer) clock q.rules another q.own vs) (sym back_is)
      (subst (λ (b : Bool). RunLeaves b request.settings.state (asking request.settings.force request.settings.mailer) clock q.rules another q.own q.entries.back) dry q.entries.second))

  own_is : p.own ≡ q.own
  own_is = runs_one request.settings.state (asking request.settings.force request.settings.mailer) clock p.rules plan another p.own q.own p.entries.back one_run as_run
      (none_behind faults p.meaning.faults p.own p.faults_are c) (none_behind more q.meaning.faults q.own q.faults_are d)

  told_one : (notices ≡ others) × (faults ≡ more)
  told_one = (
    p.notices_are ∙ (ap (λ (m : Meaning). m.notices) meaning_is ∙ sym q.notices_are),
    p.faults_are ∙ (ap (λ (m : Meaning). m.faults ++ p.own) meaning_is ∙ (ap (λ xs. q.meaning.faults ++ xs) own_is ∙ sym q.faults_are)),
  )

-- ---- a report has entries

reports_some : (request : Request) → request.settings.debug ≡ false → (clock : Clock) (plan : Option Plan) (notices : List Notice) (faults : List Fault) (ts : List Entry) → Reports request clock plan notices faults ts → calls_in faults ≡ 0 → ts ≡ [] → ⊥
reports_some request dry clock plan notices faults ts p c none =
    let l = run_look request.settings.state (asking request.settings.force request.settings.mailer) clock p.rules plan p.own p.entries.back (subst (λ (b : Bool). RunLeaves b request.settings.state (asking request.settings.force request.settings.mailer) clock p.rules plan p.own p.entries.back) dry p.entries.second) (none_behind faults p.meaning.faults p.own p.faults_are c) in
    let n : length ts ≡ 0 = ap (λ (l : List Entry). length l) none in
    let j : length ts ≡ length (p.entries.front ++ p.entries.back) = ap (λ (l : List Entry). length l) p.entries.joined in
    let m : length (p.entries.front ++ p.entries.back) ≡ length p.entries.front + length p.entries.back = length-append p.entries.front p.entries.back in
    let k : length p.entries.back ≡ length l.1 + 1 = ap (λ (l : List Entry). length l) l.2 ∙ (omega arith) in
    omega (arith, n, j, m, k)

-- ---- the entries of the zone

file_not_file : (s t : Option Seen) → IsNotFile s → IsFile t → s ≡ t → ⊥
file_not_file None None n i e = i
file_not_file None (Some t) n i e = absurd (cc)
file_not_file (Some s) None n i e = i
file_not_file (Some s) (Some t) n i e = n (ap kind_of (same_Some s t e) ∙ i)
  where
    kind_of : Seen → Kind
    kind_of x = x.kind

seen_otherwise : (path other : Path) (Q : List Entry → Type 0) (ts us vs ws : List Entry) → Sees path IsNotFile ts → Then (Sees other IsFile) Q us → ts ++ vs ≡ us ++ ws → ⊥
seen_otherwise path other Q ts us vs ws s t e =
    let o = one_look path other ts t.front vs (t.back ++ ws) s t.first (e ∙ (ap (λ (l : List Entry). l ++ ws) t.joined ∙ append_assoc t.front t.back ws)) in
    file_not_file s.seen t.first.seen s.is t.first.is o.seen_is

-- what was read of a file that was looked at
record OneFile (bytes more : List ℕ) (ts us vs ws : List Entry) : Type 0 where
  bytes_are : bytes ≡ more
  files_are : ts ≡ us
  rest_is : vs ≡ ws

one_file : (path other : Path) (bytes more : List ℕ) (ts us vs ws : List Entry) → Then (Sees path IsFile) (ReadsAll path 1048577 bytes) ts → Then (Sees other IsFile) (ReadsAll other 1048577 more) us → ts ++ vs ≡ us ++ ws → OneFile bytes more ts us vs ws
one_file path other bytes more ts us vs ws t u e =
    let o = one_look path other t.front u.front (t.back ++ vs) (u.back ++ ws) t.first u.first (then_same ts us vs ws t u e) in
    let r = reads_one path other 1048577 bytes more t.back u.back vs ws t.second u.second o.rest_is in
    record {
      bytes_are = sym (reads_text path 1048577 bytes t.back t.second) ∙ (ap text r.0 ∙ reads_text other 1048577 more u.back u.second);
      files_are = joined_same ts us t u o.looks_are r.0;
      rest_is = r.1;
    }

all_of : (path : Path) (bytes : List ℕ) (ts : List Entry) → Then (Sees path IsFile) (GivesBytes path bytes) ts → Then (Sees path IsFile) (ReadsAll path 1048577 bytes) ts
all_of path bytes ts t = record { front = t.front; back = t.back; joined = t.joined; first = t.first; second = t.second.1 }

-- of two zones that are one the texts are the same, the entries, and what comes behind them
record OneZone (a b : ZoneText) (ts us vs ws : List Entry) : Type 0 where
  text_is : a ≡ b
  looks_are : ts ≡ us
  rest_is : vs ≡ ws

zone_one : (zone : Zone) (a b : ZoneText) (ts us vs ws : List Entry) → ShowsZone zone a ts → ShowsZone zone b us → ts ++ vs ≡ us ++ ws → OneZone a b ts us vs ws
zone_one Utc a b ts us vs ws h g e = record { text_is = h.0 ∙ sym g.0; looks_are = h.1 ∙ sym g.1; rest_is = front_same ts us [] [] vs ws h.1 g.1 e }
zone_one (RuleZone rule) a b ts us vs ws h g e = record { text_is = h.0 ∙ sym g.0; looks_are = h.1 ∙ sym g.1; rest_is = front_same ts us [] [] vs ws h.1 g.1 e }
zone_one (File path) a b ts us vs ws h g e =
    let o = one_file path path h.0 g.0 ts us vs ws (all_of path h.0 ts h.2) (all_of path g.0 us g.2) e in
    record { text_is = h.1 ∙ (ap Bytes o.bytes_are ∙ sym g.1); looks_are = o.files_are; rest_is = o.rest_is }

too_long : (path other : Path) (bytes more : List ℕ) (ts us vs ws : List Entry) → 1048576 < length bytes → Then (Sees path IsFile) (ReadsAll path 1048577 bytes) ts → Then (Sees other IsFile) (GivesBytes other more) us → ts ++ vs ≡ us ++ ws → ⊥
too_long path other bytes more ts us vs ws big t u e =
    let o = one_file path other bytes more ts us vs ws t (all_of other more us u) e in
    let same : length bytes ≡ length more = ap (λ (bs : List ℕ). length bs) o.bytes_are in
    let le : length more ≤ 1048576 = u.second.0 in
    omega (arith, big, same, le)

file_shown : (zone : Zone) (path : Path) (text : ZoneText) (ts : List Entry) → zone ≡ File path → ShowsZone zone text ts → (bytes : List ℕ) × Then (Sees path IsFile) (GivesBytes path bytes) ts
file_shown zone path text ts z s = let h = subst (λ (y : Zone). ShowsZone y text ts) z s in (h.0, h.2)

text_or_not : (zone : Zone) (f : Fault) (text : ZoneText) (ts us vs ws : List Entry) → LacksText zone f ts → call_in f ≡ 0 → ShowsZone zone text us → ts ++ vs ≡ us ++ ws → ⊥
text_or_not zone f text ts us vs ws (not_file path z e s) n h same = let g = file_shown zone path text us z h in seen_otherwise path path (GivesBytes path g.0) ts us vs ws s g.1 same
text_or_not zone f text ts us vs ws (too_big path bytes z e big t) n h same = let g = file_shown zone path text us z h in too_long path path bytes g.0 ts us vs ws big t g.1 same
text_or_not zone f text ts us vs ws (look_failed path z e none) n h same = no_call f _ e refl n
text_or_not zone f text ts us vs ws (read_failed path z e t) n h same = no_call f _ e refl n

-- where there is no clock, no report comes behind
clocked_or_not : (request : Request) → request.settings.debug ≡ false → (zone : Zone) (seconds : ℤ) (clock : Clock) (plan : Option Plan) (notices : List Notice) (faults : List Fault) (f : Fault) (ts : List Entry) → Then (ShowsClock zone seconds clock) (Reports request clock plan notices faults) ts → calls_in faults ≡ 0
    → LacksClock zone seconds f ts → call_in f ≡ 0 → ⊥
clocked_or_not request dry zone seconds clock plan notices faults f ts t c (out_of_range out e none) n = out t.first.in_range
clocked_or_not request dry zone seconds clock plan notices faults f ts t c (no_text range l) n = text_or_not zone f t.first.text ts t.front [] t.back l n t.first.shows (append-nil ts ∙ t.joined)
clocked_or_not request dry zone seconds clock plan notices faults f ts t c (refused text range e r s) n =
    reports_some request dry clock plan notices faults t.back t.second c (sym (zone_one zone text t.first.text ts t.front [] t.back s t.first.shows (append-nil ts ∙ t.joined)).rest_is)

text_one : (zone : Zone) (f g : Fault) (ts : List Entry) → LacksText zone f ts → LacksText zone g ts → call_in f ≡ 0 → call_in g ≡ 0 → f ≡ g
text_one zone f g ts (look_failed path z e none) m c d = absurd (no_call f _ e refl c)
text_one zone f g ts (read_failed path z e t) m c d = absurd (no_call f _ e refl c)
text_one zone f g ts (not_file path z e s) (look_failed other y h none) c d = absurd (no_call g _ h refl d)
text_one zone f g ts (not_file path z e s) (read_failed other y h t) c d = absurd (no_call g _ h refl d)
text_one zone f g ts (not_file path z e s) (not_file other y h t) c d = e ∙ sym h
text_one zone f g ts (not_file path z e s) (too_big other bytes y h big t) c d = absurd (seen_otherwise path other (ReadsAll other 1048577 bytes) ts ts [] [] s t refl)
text_one zone f g ts (too_big path bytes z e big t) (look_failed other y h none) c d = absurd (no_call g _ h refl d)
text_one zone f g ts (too_big path bytes z e big t) (read_failed other y h u) c d = absurd (no_call g _ h refl d)
text_one zone f g ts (too_big path bytes z e big t) (not_file other y h s) c d = absurd (seen_otherwise other path (ReadsAll path 1048577 bytes) ts ts [] [] s t refl)
text_one zone f g ts (too_big path bytes z e big t) (too_big other more y h more_big u) c d = e ∙ sym h

clock_one : (zone : Zone) (seconds : ℤ) (f g : Fault) (ts : List Entry) → LacksClock zone seconds f ts → LacksClock zone seconds g ts → call_in f ≡ 0 → call_in g ≡ 0 → f ≡ g
clock_one zone seconds f g ts (out_of_range out e none) (out_of_range never h blank) c d = e ∙ sym h
clock_one zone seconds f g ts (out_of_range out e none) (no_text range l) c d = absurd (out range)
clock_one zone seconds f g ts (out_of_range out e none) (refused text range h r s) c d = absurd (out range)
clock_one zone seconds f g ts (no_text range l) (out_of_range out h none) c d = absurd (out range)
clock_one zone seconds f g ts (no_text range l) (no_text there m) c d = text_one zone f g ts l m c d
clock_one zone seconds f g ts (no_text range l) (refused text there h r s) c d = absurd (text_or_not zone f text ts ts [] [] l c s refl)
clock_one zone seconds f g ts (refused text range e r s) (out_of_range out h none) c d = absurd (out range)
clock_one zone seconds f g ts (refused text range e r s) (no_text there m) c d = absurd (text_or_not zone g text ts ts [] [] m d s refl)
clock_one zone seconds f g ts (refused text range e r s) (refused other there h q u) c d = e ∙ sym h

-- ---- the call

abbrev alone : Fault → Report
alone f = record { notices = []; faults = f ∷ [] }

alone_faults : (a : Report) (f : Fault) → Done a ≡ Done (alone f) → a.faults ≡ f ∷ []
alone_faults a f e = ap (λ (r : Report). r.faults) (same_report a (alone f) e)

both_same : (a b : Report) → a ≡ b → (a.notices ≡ b.notices) × (a.faults ≡ b.faults)
both_same a b e = (ap (λ (r : Report). r.notices) e, ap (λ (r : Report). r.faults) e)

both_clocked : (request : Request) → request.settings.debug ≡ false → (zone : Zone) (seconds : ℤ) (clock other : Clock) (plan another : Option Plan) (one two : Report) (ts : List Entry) → Then (ShowsClock zone seconds clock) (Reports request clock plan one.notices one.faults) ts
    → Then (ShowsClock zone seconds other) (Reports request other another two.notices two.faults) ts → calls_in one.faults ≡ 0 → calls_in two.faults ≡ 0 → (one.notices ≡ two.notices) × (one.faults ≡ two.faults)
both_clocked request dry zone seconds clock other plan another one two ts t u c d =
    told_one request dry clock plan another one.notices two.notices one.faults two.faults t.back u.back same.rest_is t.second (subst (λ (k : Clock). Reports request k another two.notices two.faults u.back) (sym clock_is) u.second) c d
  where
    same : OneZone t.first.text u.first.text t.front u.front t.back u.back
    same = zone_one zone t.first.text u.first.text t.front u.front t.back u.back t.first.shows u.first.shows (sym t.joined ∙ u.joined)

    -- the zone's text has one clock at these seconds
    clock_is : clock ≡ other
    clock_is = one_clock t.first.text seconds clock other t.first.clock_is (subst (λ (x : ZoneText). IsClockIn x seconds other) (sym same.text_is) u.first.clock_is)

at_one : (request : Request) → request.settings.debug ≡ false → (zone : Zone) (seconds : ℤ) (plan another : Option Plan) (one other : Report) (ts : List Entry) → AnswersAt request zone seconds plan (Done one) ts → AnswersAt request zone seconds another (Done other) ts → calls_in one.faults ≡ 0 → calls_in other.faults ≡ 0
    → (one.notices ≡ other.notices) × (one.faults ≡ other.faults)
at_one request dry zone seconds plan another one other ts (no_memory lost e none) b c d = absurd (cc)
at_one request dry zone seconds plan another one other ts (no_clock f lost e l) (no_memory gone h none) c d = absurd (cc)
at_one request dry zone seconds plan another one other ts (no_clock f lost e l) (no_clock g gone h m) c d =
    let same = clock_one zone seconds f g ts l m (one_uncalled one.faults f (alone_faults one f e) c) (one_uncalled other.faults g (alone_faults other g h) d) in
    both_same one other (same_report one (alone f) e ∙ (ap alone same ∙ sym (same_report other (alone g) h)))
at_one request dry zone seconds plan another one other ts (no_clock f lost e l) (called clock t) c d = absurd (clocked_or_not request dry zone seconds clock another other.notices other.faults f ts t d l (one_uncalled one.faults f (alone_faults one f e) c))
at_one request dry zone seconds plan another one other ts (called clock t) (no_memory gone h none) c d = absurd (cc)
at_one request dry zone seconds plan another one other ts (called clock t) (no_clock g gone h m) c d = absurd (clocked_or_not request dry zone seconds clock plan one.notices one.faults g ts t c m (one_uncalled other.faults g (alone_faults other g h) d))
at_one request dry zone seconds plan another one other ts (called clock t) (called clocked u) c d = both_clocked request dry zone seconds clock clocked plan another one other ts t u c d

-- ---- the words

pub answers_one : (here : Path) (words : List (List ℕ)) (request : Request) (zone : Zone) (seconds : ℤ) (plan another : Option Plan) (one other : Report) (ts : List Entry) → AskFor here words request → request.settings.debug ≡ false → Answered here words zone seconds plan (Done one) ts → Answered here words zone seconds another (Done other) ts → calls_in one.faults ≡ 0 → calls_in other.faults ≡ 0
    → (one.notices ≡ other.notices) × (one.faults ≡ other.faults)
answers_one here words request zone seconds plan another one other ts asks dry (not_read lost (inl e) none) b c d = absurd (cc)
answers_one here words request zone seconds plan another one other ts asks dry (not_read lost (inr e) none) b c d = absurd (cc)
answers_one here words request zone seconds plan another one other ts asks dry (read r w h) (not_read gone (inl e) none) c d = absurd (cc)
answers_one here words request zone seconds plan another one other ts asks dry (read r w h) (not_read gone (inr e) none) c d = absurd (cc)
answers_one here words request zone seconds plan another one other ts asks dry (read r w h) (read s v g) c d = at_one request dry zone seconds plan another one other ts
    (subst (λ (x : Request). AnswersAt x zone seconds plan (Done one) ts) (same_Some r request (sym w ∙ asks)) h) (subst (λ (x : Request). AnswersAt x zone seconds another (Done other) ts) (same_Some s request (sym v ∙ asks)) g) c d

-- by what the calls came to
pub reports_one : (here : Path) (words : List (List ℕ)) (request : Request) (zone : Zone) (seconds : ℤ) (plan another : Option Plan) (came others : Option Came) (one other : Report) (ts : List Entry) → AskFor here words request → request.settings.debug ≡ false
    → CallShows here words zone seconds plan (Done one) came ts → CallShows here words zone seconds another (Done other) others ts → calls_in one.faults ≡ 0 → calls_in other.faults ≡ 0 → (one.notices ≡ other.notices) × (one.faults ≡ other.faults)
reports_one here words request zone seconds plan another came others one other ts asks dry a b c d = answers_one here words request zone seconds plan another one other ts asks dry (shown_answers here words zone seconds plan one came ts a) (shown_answers here words zone seconds another other others ts b) c d
