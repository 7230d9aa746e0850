-- Where no count rose and nothing is in the way of a call, no fault of its own ends it.
use Rattle.std.proofs.Common.{◌≡◌, ◌≢◌, ◌<◌, inl, inr, ⊎_elim, ℕ, ℤ, Bool, true, false, List, [], ◌∷◌, ◌++◌, length, map, reverse, Option, Some, None, Result, Ok, Err, refl, sym, ap, ◌∙◌, subst, arith}
use Rattle.std.proofs.lemmas.Option.{same_Some}
use Rattle.lr_rules.specs.declared.path.Path.{Path}
use Rattle.lr_rules.specs.declared.clock.Clock.{Clock}
use Rattle.lr_rules.specs.declared.rules.Rules.{Rules}
use Rattle.lr_rules.specs.declared.rule.Naming.{Naming}
use Rattle.lr_rules.specs.declared.fault.CallKind.TheVariants as call
use Rattle.lr_rules.specs.declared.fault.Fault.{Fault}
use Rattle.lr_rules.specs.declared.fault.Fault.TheVariants as fault
use Rattle.lr_rules.specs.Names.{aside_path, naming_of}
use Rattle.lr_rules.specs.Path.{parent_of}
use Rattle.lr_host.specs.declared.entry.Entry.{Entry}
use Rattle.lr_host.specs.declared.entry.Entry.TheVariants as entry
use Rattle.lr_host.specs.declared.thing.Seen.{Seen}
use Rattle.lr_host.specs.declared.thing.Thing.{Thing}
use Rattle.lr_host.specs.declared.thing.Thing.TheVariants as thing
use Rattle.lr_host.specs.Counted.{calls_in, RoseBy}
use Rattle.lr_host.specs.Fits.{SeesThing as IsSeenAs}
use Rattle.lr_host.specs.Lists.{IsIn}
use Rattle.lr_host.specs.Looks.{Sees, IsNoDir, IsNoFile, IsNotDir}
use Rattle.lr_host.specs.Opening.{IsJournal}
use Rattle.lr_host.specs.Quiet.{ChangeNothing}
use Rattle.lr_host.specs.Reading.{ReadsOf}
use Rattle.lr_host.specs.Told.{Counts, Made, Rose}
use Rattle.lr_host.specs.World.{Names, Past, World, world, names}
use Rattle.lr_host.proofs.Counts.{calls_on}
use Rattle.lr_host.proofs.Lists.{in_front, in_back, in_to, from_reverse}
use Rattle.lr_host.proofs.More.{IsMore, directory_more}
use Rattle.lr_host.proofs.Quiet.{IsAny, Moment, moment, quiet_more, quiet_same, since_any}
use Rattle.lr_conf.specs.Meaning.{Meaning}
use Rattle.lr_due.specs.Zone.{IsInRange}
use Rattle.lr_family.specs.declared.stand.StandStop.{StandStop}
use Rattle.lr_family.specs.declared.stand.StandStop.TheVariants as stands
use Rattle.lr_family.specs.Among.{ShowsNoneIn, StopsAmong}
use Rattle.lr_family.specs.Looks.{MemberSight}
use Rattle.lr_family.specs.Parts.{IsMember, ShowsNoParts, StopsBefore}
use Rattle.lr_family.specs.Standing.{ShowsStop}
use Rattle.lr_looks.specs.Families.{stop_fault}
use Rattle.lr_looks.specs.Inside.{Inside}
use Rattle.lr_cat.specs.declared.outcome.CatOutcome.{CatOutcome}
use Rattle.lr_cat.specs.declared.outcome.CatOutcome.TheVariants as outcome
use Rattle.lr_cat.specs.declared.texts.TextStop.{TextStop}
use Rattle.lr_cat.specs.declared.texts.TextStop.TheVariants as stop
use Rattle.lr_cat.specs.declared.words.Wanted.{Wanted}
use Rattle.lr_cat.specs.Came.{Came, report_by, done_by, own_of, LogEnds, held, called, RulesEnd, given, ConfsEnd, not_read, read, CatEnds, no_clock, no_memory, behind_clock, CatShows, bad_words, wants}
use Rattle.lr_cat.specs.Cats.{Cats, no_directory, began}
use Rattle.lr_cat.specs.Complete.{IsClear, IsDirOrNone, IsFileOrNone, NoRise, PrintsAll, printed}
use Rattle.lr_cat.specs.Saw.{Works, FindsNone, FindsNot, not_looked, no_file, SeesNone, not_stood, not_found, read_all, aside_of, files_of}
use Rattle.lr_cat.specs.Says.{HasCounted, HasFault}
use Rattle.lr_cat.specs.Texts.{FileText, TextBreaksOff, ReadsTextPart, text_fault}
use Rattle.lr_cat.specs.Words.{wanted}
use Rattle.lr_cat.proofs.Lasting.{read_so_far}
use Rattle.lr_cat.proofs.Whole.{some_none}

-- ---- what a look sees

no_file_seen : (v : World) (t : Thing) (o : Option Seen) → IsFileOrNone t → IsSeenAs v t o → IsNoFile o → ⊥
no_file_seen v thing.Nothing o free s other = subst IsNoFile s other
no_file_seen v (thing.File g) None free s other = other
no_file_seen v (thing.File g) (Some seen) free s other = other s.0
no_file_seen v thing.Directory o free s other = free
no_file_seen v thing.Other o free s other = free

no_dir_seen : (v : World) (t : Thing) (o : Option Seen) → IsDirOrNone t → IsSeenAs v t o → IsNoDir o → ⊥
no_dir_seen v thing.Nothing o free s other = subst IsNoDir s other
no_dir_seen v thing.Directory None free s other = other
no_dir_seen v thing.Directory (Some seen) free s other = other s
no_dir_seen v (thing.File g) o free s other = free
no_dir_seen v thing.Other o free s other = free

dir_seen : (v : World) (t : Thing) (o : Option Seen) → t ≡ thing.Directory → IsSeenAs v t o → IsNotDir o → ⊥
dir_seen v t o is s other = go o (subst (λ (u : Thing). IsSeenAs v u o) is s) other
  where
    go : (o : Option Seen) → IsSeenAs v thing.Directory o → IsNotDir o → ⊥
    go None seen none = seen
    go (Some it) seen none = none seen

-- a path that names a file or nothing does so where writers made files
still_free : (n n' : Names) (x : Path) → IsMore n n' → IsFileOrNone (n x) → IsFileOrNone (n' x)
still_free n n' x more free = ⊎_elim (λ same. subst IsFileOrNone (sym same) free) (λ new. subst IsFileOrNone (sym new.1.1) tt) (more x)

-- ---- the call's own fault

-- it is one that a count tells of
abbrev IsCounted : Fault → Type 0
IsCounted (fault.Call kind path) = Unit {0}
IsCounted fault.Out = Unit {0}
IsCounted _ = ⊥

no_look_failed : (paths : List Path) (x : Path) → StopsBefore paths (stands.NotFile x) → ⊥
no_look_failed [] x is = absurd (cc)
no_look_failed (y ∷ ys) x (inl is) = absurd (cc)
no_look_failed (y ∷ ys) x (inr is) = absurd (cc)

module _ (w : Wanted) (c : Came) (p q : Past) (es : List Entry) (journal : IsJournal p) (m : Made p es q) (still : ChangeNothing es) (clear : IsClear w c p q) where
  abbrev Within : List Entry → Type 0
  Within us = (e : Entry) → IsIn e us → IsIn e (reverse es)

  -- just before one of the entries
  then_ : (e : Entry) → IsIn e (reverse es) → Moment IsAny p q e
  then_ e i = moment IsAny p q e es (since_any p q es m) m still (from_reverse e es i)

  its_look : (x : Path) (P : Option Seen → Type 0) (us : List Entry) (s : Sees x P us) → Within us → IsIn (entry.Look x s.seen) (reverse es)
  its_look x P us s in_all = in_all (entry.Look x s.seen) (subst (IsIn (entry.Look x s.seen)) (sym s.look) (inl refl))

  sees_file : (x : Path) (us : List Entry) → Sees x IsNoFile us → Within us → IsFileOrNone (names (world p) x) → ⊥
  sees_file x us s in_all free =
      let t = then_ (entry.Look x s.seen) (its_look x IsNoFile us s in_all) in
      no_file_seen (world t.at) (names (world t.at) x) s.seen (still_free (names (world p)) (names (world t.at)) x (quiet_more IsAny p t.at t.since) free) t.fits s.is

  sees_state : (us : List Entry) → Sees (parent_of w.state) IsNotDir us → Within us → ⊥
  sees_state us s in_all =
      let x = parent_of w.state in
      let t = then_ (entry.Look x s.seen) (its_look x IsNotDir us s in_all) in
      dir_seen (world t.at) (names (world t.at) x) s.seen (directory_more (names (world p)) (names (world t.at)) x (quiet_more IsAny p t.at t.since) clear.state) t.fits s.is

  sees_dir : (us : List Entry) → Sees c.naming.dir IsNoDir us → Within us → ⊥
  sees_dir us s in_all =
      let x = c.naming.dir in
      let t = moment (λ (y : Path). y ≢ x) p q (entry.Look x s.seen) es clear.spared m still (from_reverse (entry.Look x s.seen) es (its_look x IsNoDir us s in_all)) in
      no_dir_seen (world t.at) (names (world t.at) x) s.seen (subst IsDirOrNone (sym (quiet_same (λ (y : Path). y ≢ x) p t.at x t.since (λ other. other refl))) clear.dir) t.fits s.is

  -- ---- what stands

  among_files : (x : Path) (listed : List (List ℕ)) (us : List Entry) → StopsAmong c.naming listed (stands.NotFile x) us → Within us → ⊥
  among_files x listed us a in_all = sees_file x a.looks.looks.back a.looks.looks.second
      (λ e i. in_all e (subst (IsIn e) (sym a.looks.looks.joined) (in_back e a.looks.looks.front a.looks.looks.back i))) (clear.members x member)
    where
      there : IsIn a.looks.spot a.spots
      there = subst (IsIn a.looks.spot) (sym a.looks.each) (in_back a.looks.spot (map (λ (sight : MemberSight). sight.spot) a.looks.before) (a.looks.spot ∷ a.looks.after) (inl refl))

      member : IsMember c.naming x
      member = ((a.spots_are.has.all x).0 (a.looks.spot, in_to a.looks.spot a.spots there, a.looks.is)).member

  none_in_files : (there : Bool) (x : Path) (listed : List (List ℕ)) (us : List Entry) → ShowsNoneIn c.naming there listed (stands.NotFile x) us → Within us → ⊥
  none_in_files true x listed us (inl h) in_all = let e = h.0 in absurd (cc)
  none_in_files true x listed us (inr (inl a)) in_all = among_files x listed us a in_all
  none_in_files true x listed us (inr (inr b)) in_all = parts b.1.second
    where
      parts : ShowsNoParts c.naming listed (stands.NotFile x) b.1.back → ⊥
      parts (inl h) = let e = h.0 in absurd (cc)
      parts (inr s) = no_look_failed s.after x s.stopped
  none_in_files false x listed us h in_all = h

  stands_files : (x : Path) (us : List Entry) → ShowsStop c.naming (stands.NotFile x) us → Within us → ⊥
  stands_files x us (inl h) in_all = sees_dir us h.1 in_all
  stands_files x us (inr h) in_all = none_in_files h.0 x h.2 h.3.back h.3.second (λ e i. in_all e (subst (IsIn e) (sym h.3.joined) (in_back e h.3.front h.3.back i)))

  -- beside the members
  find_counted : (path : Option Path) (f : Fault) (us : List Entry) → FindsNot path f us → Within us → ((x : Path) → path ≡ Some x → IsFileOrNone (names (world p) x)) → IsCounted f
  find_counted path f us (not_looked x some is none) in_all free = subst IsCounted (sym is) tt
  find_counted path f us (no_file x some is s) in_all free = absurd (sees_file x us s in_all (free x some))

  free_at : (path x : Path) → IsFileOrNone (names (world p) path) → Some path ≡ Some x → IsFileOrNone (names (world p) x)
  free_at path x free some = subst (λ (y : Path). IsFileOrNone (names (world p) y)) (same_Some path x some) free

  free_aside : (b : Bool) (x : Path) → c.naming.aside ≡ b → aside_of b w.log ≡ Some x → IsFileOrNone (names (world p) x)
  free_aside true x is some = free_at (aside_path w.log) x (clear.aside is) some
  free_aside false x is some = absurd (some_none x (sym some))

  both_counted : (f : Fault) (us : List Entry) → FindsNone (aside_of c.naming.aside w.log) w.log f us → Within us → IsCounted f
  both_counted f us (inl h) in_all = find_counted (aside_of c.naming.aside w.log) f us h in_all (λ x some. free_aside c.naming.aside x refl some)
  both_counted f us (inr h) in_all = find_counted (Some w.log) f h.1.back h.1.second (λ e i. in_all e (subst (IsIn e) (sym h.1.joined) (in_back e h.1.front h.1.back i))) (λ x some. free_at w.log x clear.log some)

  none_counted : (f : Fault) (us : List Entry) → SeesNone c.naming w.log f us → Within us → IsCounted f
  none_counted f us (not_stood why is h) in_all = by why is h
    where
      by : (why : StandStop) → stop_fault why ≡ f ∷ [] → ShowsStop c.naming why us → IsCounted f
      by (stands.Call kind path) is h = let same : fault.Call kind path ≡ f = cc in subst IsCounted same tt
      by (stands.NotFile path) is h = absurd (stands_files path us h in_all)
      by stands.Memory is h = absurd (cc)
  none_counted f us (not_found stand h) in_all = both_counted f h.back h.second (λ e i. in_all e (subst (IsIn e) (sym h.joined) (in_back e h.front h.back i)))

  -- ---- the reads

  too_long : (t : FileText) (us : List Entry) → IsIn t c.texts → 1_099_511_627_776 < length t.bytes → ReadsOf t.path t.bytes us → Within us → ⊥
  too_long t us among long reads in_all =
      let file = read_so_far p q es journal m still t us (omega (arith, long)) reads in_all in
      let short = clear.short t file.0 among file.1 in
      let more = file.2 in
      omega (arith, long, short, more)

  broken_counted : (f : Fault) (files : List Path) (us : List Entry) → TextBreaksOff files f c.texts us → Within us → IsCounted f
  broken_counted f files us b in_all = by b.why b.fault_is b.reads.second
    where
      among : IsIn b.last c.texts
      among = subst (IsIn b.last) (sym b.texts_are) (in_back b.last b.before (b.last ∷ []) (inl refl))

      by : (why : TextStop) → f ≡ text_fault why b.last.path → ReadsTextPart why b.last b.reads.back → IsCounted f
      by stop.Read is r = subst IsCounted (sym is) tt
      by stop.Out is r = subst IsCounted (sym is) tt
      by stop.TooLong is r = absurd (too_long b.last b.reads.back among r.0 r.1 (λ e i. in_all e (subst (IsIn e) (sym b.reads.joined) (in_back e b.reads.front b.reads.back i))))

  -- ---- all of it

  works_counted : (f : Fault) (us : List Entry) → Works c.naming w.log (Err f) c.texts us → Within us → IsCounted f
  works_counted f us (Works.not_seen g is e h) in_all = none_counted f us (subst (λ (k : Fault). SeesNone c.naming w.log k us) (same_Some g f (sym (ap own_of is))) h) in_all
  works_counted f us (Works.broke_off saw g is h) in_all = broken_counted f (files_of saw) h.back (subst (λ (k : Fault). TextBreaksOff (files_of saw) k c.texts h.back) (same_Some g f (sym (ap own_of is))) h.second)
      (λ e i. in_all e (subst (IsIn e) (sym h.joined) (in_back e h.front h.back i)))
  works_counted f us (read_all saw is h) in_all = absurd (some_none f (ap own_of is))

  inside_counted : (f : Fault) (clock : Clock) (rules : Rules) (us : List Entry) → Inside w.state clock rules (Works c.naming w.log (Err f) c.texts) us → Within us → IsCounted f
  inside_counted f clock rules us i in_all = works_counted f i.between i.within
      (λ e j. in_all e (subst (IsIn e) (sym i.entries) (in_back e i.before (entry.Starts w.state clock.now rules ∷ (i.between ++ entry.Ends ∷ [])) (inr (in_front e i.between (entry.Ends ∷ []) j)))))

  own_counted : (f : Fault) (clock : Clock) (rules : Rules) (us : List Entry) → Cats w clock rules c.naming (Err f) c.texts us → Within us → IsCounted f
  own_counted f clock rules us (no_directory is e h) in_all = absurd (sees_state us h in_all)
  own_counted f clock rules us (Cats.not_seen is e h) in_all = subst IsCounted (same_Some (fault.Call call.Look (parent_of w.state)) f (sym (ap own_of is))) tt
  own_counted f clock rules us (Cats.not_begun is e h) in_all = subst IsCounted (same_Some (fault.Call call.Begin w.state) f (sym (ap own_of is))) tt
  own_counted f clock rules us (began i) in_all = inside_counted f clock rules us i in_all

-- ---- no count rose

-- a report that tells a failed call has it counted
some_rose : (n a b : ℕ) → 0 < n → RoseBy n a b → Rose a b
some_rose n a b some h = omega (arith, some, h)

module _ (m : Meaning) (counted counts : Counts) (low high : ℕ) (none : NoRise counted counts low high) where
  no_own : (f : Fault) (out : CatOutcome) → IsCounted f → out ≡ outcome.Done (report_by m (Some f)) false → HasCounted out counted counts → (HasFault out fault.Out → Rose low high) → ⊥
  no_own (fault.Call kind path) out i is h o = none.0 (some_rose (calls_in (m.faults ++ fault.Call kind path ∷ [])) counted.faults counts.faults
      (let e = calls_on m.faults (fault.Call kind path ∷ []) in omega (arith, e)) (subst (λ (z : CatOutcome). HasCounted z counted counts) is h))
  no_own fault.Out out i is h o = none.2 (o (subst (λ (z : CatOutcome). HasFault z fault.Out) (sym is) (in_to fault.Out (m.faults ++ fault.Out ∷ []) (in_back fault.Out m.faults (fault.Out ∷ []) (inl refl)))))
  no_own _ out i is h o = absurd i

module _ (w : Wanted) (seconds : ℤ) (out : CatOutcome) (came : Option Came) (p q : Past) (es : List Entry) (journal : IsJournal p) (m : Made p es q) (still : ChangeNothing es) (range : IsInRange seconds) (counted counts : Counts) (low high : ℕ) (none : NoRise counted counts low high)
    (has : HasCounted out counted counts) (has_out : HasFault out fault.Out → Rose low high) (clear : (c : Came) → came ≡ Some c → IsClear w c p q) where
  files_print : (clock : Clock) (n : Meaning) (rules : Rules) (naming : Naming) (how : Result Bool Fault) (texts : List FileText) (us : List Entry) → out ≡ done_by n how
      → came ≡ Some (record { clock = clock; meaning = n; rules = rules; naming = naming; how = how; texts = texts }) → Cats w clock rules naming how texts us → ((e : Entry) → IsIn e us → IsIn e (reverse es)) → PrintsAll out came
  files_print clock n rules naming (Ok waits) texts us is some h in_all = printed (record { clock = clock; meaning = n; rules = rules; naming = naming; how = Ok waits; texts = texts }) waits some refl is
  files_print clock n rules naming (Err f) texts us is some h in_all = absurd (no_own n counted counts low high none f out
      (own_counted w (record { clock = clock; meaning = n; rules = rules; naming = naming; how = Err f; texts = texts }) p q es journal m still (clear (record { clock = clock; meaning = n; rules = rules; naming = naming; how = Err f; texts = texts }) some) f clock rules us h in_all)
      is has has_out)

  log_prints : (clock : Clock) (n : Meaning) (rules : Rules) (naming : Naming) (us : List Entry) → LogEnds w clock n rules naming out came us → ((e : Entry) → IsIn e us → IsIn e (reverse es)) → PrintsAll out came
  log_prints clock n rules naming us (held is e h) in_all = absurd (none.1 (subst (λ (z : CatOutcome). HasCounted z counted counts) is has))
  log_prints clock n rules naming us (LogEnds.short is e h) in_all = PrintsAll.short is
  log_prints clock n rules naming us (called how texts is e h) in_all = files_print clock n rules naming how texts us is e h in_all

  rules_print : (clock : Clock) (n : Meaning) (rules : Rules) (us : List Entry) → RulesEnd w clock n rules out came us → ((e : Entry) → IsIn e us → IsIn e (reverse es)) → PrintsAll out came
  rules_print clock n rules us (RulesEnd.no_log is e h k) in_all = PrintsAll.no_log is
  rules_print clock n rules us (RulesEnd.lacks is e h) in_all = PrintsAll.short is
  rules_print clock n rules us (given rule first family h) in_all = log_prints clock n rules (naming_of rule w.log) us h in_all

  confs_print : (clock : Clock) → ConfsEnd w clock out came (reverse es) → PrintsAll out came
  confs_print clock (not_read is e h) = PrintsAll.short is
  confs_print clock (ConfsEnd.broke_off n is e some h) = absurd (none.0 (some_rose (calls_in n.faults) counted.faults counts.faults some (subst (λ (z : CatOutcome). HasCounted z counted counts) is has)))
  confs_print clock (read n rules same calls h) = rules_print clock n rules h.back h.second (λ e i. subst (IsIn e) (sym h.joined) (in_back e h.front h.back i))

  ends_print : CatEnds w seconds out came (reverse es) → PrintsAll out came
  ends_print (no_clock is e other h) = absurd (other range)
  ends_print (no_memory is e h) = PrintsAll.short is
  ends_print (behind_clock clock r is h) = confs_print clock h

  pub shows_print : (here : Path) (words : List (List ℕ)) → wanted here words ≡ Some w → CatShows here words seconds out came (reverse es) → PrintsAll out came
  shows_print here words want (bad_words is e other h) = absurd (some_none w (sym want ∙ other))
  shows_print here words want (CatShows.no_words is e h) = PrintsAll.short is
  shows_print here words want (wants v is h) = ends_print (subst (λ (u : Wanted). CatEnds u seconds out came (reverse es)) (same_Some v w (sym is ∙ want)) h)
