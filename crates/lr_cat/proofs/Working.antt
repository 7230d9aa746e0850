-- A call under the lock, part by part.
use Rattle.std.proofs.Common.{◌≡◌, inr, ℕ, Bool, true, false, List, [], ◌∷◌, ◌++◌, reverse, Option, Some, None, Result, Ok, Err, refl, sym, ap, ◌∙◌, subst, append-nil}
use Rattle.std.specs.Prelude.{IfErr}
use Rattle.lr_rules.specs.declared.path.Path.{Path}
use Rattle.lr_rules.specs.declared.clock.Clock.{Clock}
use Rattle.lr_rules.specs.declared.rules.Rules.{Rules}
use Rattle.lr_rules.specs.declared.rule.Naming.{Naming}
use Rattle.lr_rules.specs.declared.fault.CallKind.TheVariants as call
use Rattle.lr_rules.specs.declared.fault.Fault.{Fault}
use Rattle.lr_rules.specs.declared.fault.Fault.TheVariants as fault
use Rattle.lr_rules.specs.Path.{parent_of}
use Rattle.lr_host.specs.declared.entry.Entry.{Entry}
use Rattle.lr_host.specs.declared.entry.Entry.TheVariants.{Starts, Ends}
use Rattle.lr_host.specs.declared.host.CallFault.{CallFault}
use Rattle.lr_host.specs.declared.journal.Journal.{Journal}
use Rattle.lr_host.specs.declared.thing.Seen.{Seen}
use Rattle.lr_host.specs.Looks.{Sees, IsDir, IsNoDir, IsNotDir, IsNothing}
use Rattle.lr_host.specs.Told.{Are, Left, Maybe, DidWhere}
use Rattle.lr_host.proofs.Left.{left_as, left_both, left_then}
use Rattle.lr_family.specs.declared.directory.DirStop.{DirStop}
use Rattle.lr_family.specs.declared.directory.DirStop.TheVariants as seen
use Rattle.lr_family.specs.Directory.{DirSeen, DirLookStopped, dir_fault_of}
use Rattle.lr_looks.specs.Inside.{Inside}
use Rattle.lr_report.proofs.PutLemmas.{took_none}
use Rattle.lr_cat.specs.declared.stop.CatStop.{CatStop}
use Rattle.lr_cat.specs.declared.stop.CatStop.TheVariants as stop
use Rattle.lr_cat.specs.declared.words.Wanted.{Wanted}
use Rattle.lr_cat.specs.Cats.{Cats, no_directory, began, StopsSo}
use Rattle.lr_cat.specs.InternalCats.{EndsWork, BeginsAndEnds, Goes, begun, GoesShort}
use Rattle.lr_cat.specs.InternalSaw.{SeesAll, SeesNot}
use Rattle.lr_cat.specs.Saw.{Works, read_all, broke_off}
use Rattle.lr_host.specs.Looking.{AreSights}
use Rattle.lr_cat.specs.Stops.{CameTo}
use Rattle.lr_cat.specs.Texts.{FileText, TextBreaksOff, ReadsAllOf, TookBy, PassesTexts}
use Rattle.lr_cat.proofs.Sighted.{saw_sights, none_sights, all_sights, broken_sights, sights_both}

-- ---- what stands, put out

pub took_nothing : (own : Option Fault) (x : Option (List ℕ)) → TookBy own [] x x
took_nothing None x = took_none x
took_nothing (Some fault.Out) x = (0, took_none x)
took_nothing (Some _) x = took_none x

-- nothing was read for this fault, which isn't the output's
pub nothing_read : (P : List FileText → List Entry → Type 0) (f : Fault) {o m : Option Journal} (x : Option (List ℕ)) → Left (P []) o m → PassesTexts P (Some f) o m x x
nothing_read P f x l = record { texts = []; left = l; took = took_nothing (Some f) x }

pub saw_not : (n : Naming) (log : Path) (why : CatStop) (o m : Option Journal) (x : Option (List ℕ)) → SeesNot n log why o m → CameTo (λ how texts ts. Works n log how texts ts) (Err why) o m x x
saw_not n log (stop.Fault f) o m x l = nothing_read (Works n log (Err f)) f x (left_as l (λ ts s. Works.not_seen f refl refl s))
saw_not n log stop.Held o m x l = absurd l
saw_not n log stop.Memory o m x l = refl

pub sights_not : (n : Naming) (log : Path) (why : CatStop) (o m : Option Journal) → SeesNot n log why o m → Left AreSights o m
sights_not n log (stop.Fault f) o m l = left_as l (λ ts s. none_sights n log f ts s)
sights_not n log stop.Held o m l = absurd l
sights_not n log stop.Memory o m l = l

pub put_all : (n : Naming) (log : Path) (files : List Path) (waits : Bool) {o m k : Option Journal} {x y : Option (List ℕ)} → SeesAll n log files waits o m → PassesTexts (ReadsAllOf (reverse files)) None m k x y → PassesTexts (Works n log (Ok waits)) None o k x y
put_all n log files waits s p = record {
  texts = p.texts;
  left = left_then s.shows p.left (λ ts us a r. read_all s.saw (ap Ok s.waits_is) (record { front = ts; back = us; joined = refl; first = a; second = subst (λ (fs : List Path). ReadsAllOf fs p.texts us) s.files_are r }));
  took = p.took;
}

pub put_some : (n : Naming) (log : Path) (files : List Path) (waits : Bool) (f : Fault) {o m k : Option Journal} {x y : Option (List ℕ)} → SeesAll n log files waits o m → PassesTexts (TextBreaksOff (reverse files) f) (Some f) m k x y → PassesTexts (Works n log (Err f)) (Some f) o k x y
put_some n log files waits f s p = record {
  texts = p.texts;
  left = left_then s.shows p.left (λ ts us a b. broke_off s.saw f refl (record { front = ts; back = us; joined = refl; first = a; second = subst (λ (fs : List Path). TextBreaksOff fs f p.texts us) s.files_are b }));
  took = p.took;
}

pub sights_all : (n : Naming) (log : Path) (files : List Path) (waits : Bool) {o m k : Option Journal} {x y : Option (List ℕ)} → SeesAll n log files waits o m → PassesTexts (ReadsAllOf (reverse files)) None m k x y → Left AreSights o k
sights_all n log files waits s p = left_as (left_both s.shows p.left) (λ ts t. sights_both ts (λ us h. saw_sights n log s.saw us h) (λ us r. all_sights (reverse files) p.texts us r) t)

pub sights_some : (n : Naming) (log : Path) (files : List Path) (waits : Bool) (f : Fault) {o m k : Option Journal} {x y : Option (List ℕ)} → SeesAll n log files waits o m → PassesTexts (TextBreaksOff (reverse files) f) (Some f) m k x y → Left AreSights o k
sights_some n log files waits f s p = left_as (left_both s.shows p.left) (λ ts t. sights_both ts (λ us h. saw_sights n log s.saw us h) (λ us b. broken_sights (reverse files) f p.texts us b) t)

-- ---- and the end

ended_passes : (P : List FileText → List Entry → Type 0) (own : Option Fault) {o m k : Option Journal} {x y : Option (List ℕ)} → PassesTexts P own o m x y → Left (Are (Ends ∷ [])) m k → PassesTexts (λ texts ts. EndsWork (P texts) ts) own o k x y
ended_passes P own p l = record { texts = p.texts; left = left_both p.left l; took = p.took }

pub ended_so : (P : Result Bool Fault → List FileText → List Entry → Type 0) (r : Result Bool CatStop) (o m k : Option Journal) (x y : Option (List ℕ)) → CameTo P r o m x y → Left (Are (Ends ∷ [])) m k → CameTo (λ how texts ts. EndsWork (P how texts) ts) r o k x y
ended_so P (Ok waits) o m k x y p l = ended_passes (P (Ok waits)) None p l
ended_so P (Err (stop.Fault f)) o m k x y p l = ended_passes (P (Err f)) (Some f) p l
ended_so P (Err stop.Held) o m k x y p l = p
ended_so P (Err stop.Memory) o m k x y p l = p

-- ---- from the begin on

pub did_nothing : (state : Path) (clock : Clock) (rules : Rules) (b : Bool) {o n : Option Journal} → b ≡ false → Left (DidWhere {E = CallFault} (Ok b) (Starts state clock.now rules)) o n → Left (Are []) o n
did_nothing state clock rules b e l = left_as l (λ ts h. subst (λ (x : Bool). DidWhere {E = CallFault} (Ok x) (Starts state clock.now rules) ts) e h)

module _ (w : Wanted) (clock : Clock) (rules : Rules) (n : Naming) where
  begun_passes : (how : Result Bool Fault) (own : Option Fault) {o m k : Option Journal} {x y : Option (List ℕ)} → Left (Are (Starts w.state clock.now rules ∷ [])) o m → PassesTexts (λ texts ts. EndsWork (Works n w.log how texts) ts) own m k x y → PassesTexts (Goes w clock rules n how) own o k x y
  begun_passes how own l p = record { texts = p.texts; left = left_as (left_both l p.left) (λ ts t. begun t); took = p.took }

  pub begun_so : (r : Result Bool CatStop) (o m k : Option Journal) (x y : Option (List ℕ)) → Left (Are (Starts w.state clock.now rules ∷ [])) o m → CameTo (λ how texts ts. EndsWork (Works n w.log how texts) ts) r m k x y → CameTo (λ how texts ts. Goes w clock rules n how texts ts) r o k x y
  begun_so (Ok waits) o m k x y l p = begun_passes (Ok waits) None l p
  begun_so (Err (stop.Fault f)) o m k x y l p = begun_passes (Err f) (Some f) l p
  begun_so (Err stop.Held) o m k x y l p = p
  begun_so (Err stop.Memory) o m k x y l p = p

  -- where it wasn't carried through
  pub begun_stops : (r : Result Bool CatStop) (o m k : Option Journal) (x y : Option (List ℕ)) → Left (Are (Starts w.state clock.now rules ∷ [])) o m → (r ≡ Err stop.Held → ⊥) → (r ≡ Err stop.Memory → Left (EndsWork AreSights) m k)
      → CameTo (λ how texts ts. EndsWork (Works n w.log how texts) ts) r m k x y → IfErr r (λ why. Left (GoesShort w clock rules why) o k)
  begun_stops (Ok waits) o m k x y l never s came = tt
  begun_stops (Err (stop.Fault f)) o m k x y l never s came = left_then l came.left (λ ts us a b. tt)
  begun_stops (Err stop.Held) o m k x y l never s came = absurd (never refl)
  begun_stops (Err stop.Memory) o m k x y l never s came = left_both l (s refl)

  pub begin_held : (b : Bool) {o m : Option Journal} → b ≡ false → Left (DidWhere {E = CallFault} (Ok b) (Starts w.state clock.now rules)) o m → Left (GoesShort w clock rules stop.Held) o m
  begin_held b is l = left_as (did_nothing w.state clock rules b is l) (λ ts e. e)

  pub begin_short : (f : Fault) {P : List Entry → Type 0} {o m : Option Journal} → Left P o m → Left (GoesShort w clock rules (stop.Fault f)) o m
  begin_short f l = left_as l (λ ts h. tt)

  pub begin_failed : (state : Path) {o m : Option Journal} (x : Option (List ℕ)) → state ≡ w.state → Left (Maybe (Starts w.state clock.now rules)) o m → CameTo (λ how texts ts. Goes w clock rules n how texts ts) (Err (stop.Fault (fault.Call call.Begin state))) o m x x
  begin_failed state x is l = nothing_read (Goes w clock rules n (Err (fault.Call call.Begin state))) (fault.Call call.Begin state) x (left_as l (λ ts h. Goes.not_begun (ap (λ (p : Path). Err (fault.Call call.Begin p)) is) refl h))

  -- ---- behind the look at the state's directory

  inside : (P : List Entry → Type 0) (ts us : List Entry) → Sees (parent_of w.state) IsDir ts → BeginsAndEnds w clock rules P us → Inside w.state clock rules P (ts ++ us)
  inside P ts us s b = record {
    before = ts;
    between = b.second.front;
    entries = ap (λ (vs : List Entry). ts ++ vs) (b.joined ∙ (ap (λ (vs : List Entry). vs ++ b.back) b.first ∙ ap (λ (vs : List Entry). Starts w.state clock.now rules ∷ vs) (b.second.joined ∙ ap (λ (vs : List Entry). b.second.front ++ vs) b.second.second)));
    directory = s;
    within = b.second.first;
  }

  cats_by : (how : Result Bool Fault) (texts : List FileText) (ts us : List Entry) → Sees (parent_of w.state) IsDir ts → Goes w clock rules n how texts us → Cats w clock rules n how texts (ts ++ us)
  cats_by how texts ts us s (begun b) = began (inside (Works n w.log how texts) ts us s b)
  cats_by how texts ts us s (Goes.not_begun is none h) = Cats.not_begun is none (record { front = ts; back = us; joined = refl; first = s; second = h })

  seen_dir : (dir : Path) (ts : List Entry) → dir ≡ parent_of w.state → DirSeen dir true ts → Sees (parent_of w.state) IsDir ts
  seen_dir dir ts is s = subst (λ (d : Path). Sees d IsDir ts) is s

  cats_passes : (dir : Path) (how : Result Bool Fault) (own : Option Fault) {o m k : Option Journal} {x y : Option (List ℕ)} → dir ≡ parent_of w.state → Left (DirSeen dir true) o m → PassesTexts (Goes w clock rules n how) own m k x y → PassesTexts (Cats w clock rules n how) own o k x y
  cats_passes dir how own is l p = record { texts = p.texts; left = left_then l p.left (λ ts us s g. cats_by how p.texts ts us (seen_dir dir ts is s) g); took = p.took }

  pub cats_so : (dir : Path) (r : Result Bool CatStop) (o m k : Option Journal) (x y : Option (List ℕ)) → dir ≡ parent_of w.state → Left (DirSeen dir true) o m → CameTo (λ how texts ts. Goes w clock rules n how texts ts) r m k x y → CameTo (λ how texts ts. Cats w clock rules n how texts ts) r o k x y
  cats_so dir (Ok waits) o m k x y is l p = cats_passes dir (Ok waits) None is l p
  cats_so dir (Err (stop.Fault f)) o m k x y is l p = cats_passes dir (Err f) (Some f) is l p
  cats_so dir (Err stop.Held) o m k x y is l p = p
  cats_so dir (Err stop.Memory) o m k x y is l p = p

  pub cats_short : (dir : Path) (why : CatStop) {o m k : Option Journal} → dir ≡ parent_of w.state → Left (DirSeen dir true) o m → Left (GoesShort w clock rules why) m k → Left (StopsSo w clock rules why) o k
  cats_short dir (stop.Fault f) is l s = left_then l s (λ ts us a b. tt)
  cats_short dir stop.Held is l s = left_then l s (λ ts us a e. subst (λ (vs : List Entry). Sees (parent_of w.state) IsDir (ts ++ vs)) (sym e) (subst (Sees (parent_of w.state) IsDir) (sym (append-nil ts)) (seen_dir dir ts is a)))
  cats_short dir stop.Memory is l s = left_then l s (λ ts us a b. inr (inside AreSights ts us (seen_dir dir ts is a) b))

  pub cats_stops : (dir : Path) (r : Result Bool CatStop) (o m k : Option Journal) → dir ≡ parent_of w.state → Left (DirSeen dir true) o m → IfErr r (λ why. Left (GoesShort w clock rules why) m k) → IfErr r (λ why. Left (StopsSo w clock rules why) o k)
  cats_stops dir (Ok waits) o m k is l s = tt
  cats_stops dir (Err why) o m k is l s = cats_short dir why is l s

  -- it wasn't seen as one
  nothing_is_no_dir : (o : Option Seen) → IsNothing o → IsNotDir o
  nothing_is_no_dir None e = tt
  nothing_is_no_dir (Some s) e = absurd (cc)

  other_is_no_dir : (o : Option Seen) → IsNoDir o → IsNotDir o
  other_is_no_dir None e = absurd e
  other_is_no_dir (Some s) e = e

  pub dir_missing : (dir : Path) {o m : Option Journal} (x : Option (List ℕ)) → dir ≡ parent_of w.state → Left (DirSeen dir false) o m → CameTo (λ how texts ts. Cats w clock rules n how texts ts) (Err (stop.Fault (fault.NoDir dir))) o m x x
  dir_missing dir x is l = nothing_read (Cats w clock rules n (Err (fault.NoDir dir))) (fault.NoDir dir) x
      (left_as l (λ ts s. no_directory (ap (λ (d : Path). Err (fault.NoDir d)) is) refl (subst (λ (d : Path). Sees d IsNotDir ts) is (record { seen = s.seen; is = nothing_is_no_dir s.seen s.is; look = s.look }))))

  pub dir_stopped : (dir : Path) (why : DirStop) {o m : Option Journal} (x : Option (List ℕ)) → dir ≡ parent_of w.state → Left (DirLookStopped dir why) o m → CameTo (λ how texts ts. Cats w clock rules n how texts ts) (Err (stop.Fault (dir_fault_of why dir))) o m x x
  dir_stopped dir seen.NotDir x is l = nothing_read (Cats w clock rules n (Err (fault.NoDir dir))) (fault.NoDir dir) x
      (left_as l (λ ts s. no_directory (ap (λ (d : Path). Err (fault.NoDir d)) is) refl (subst (λ (d : Path). Sees d IsNotDir ts) is (record { seen = s.seen; is = other_is_no_dir s.seen s.is; look = s.look }))))
  dir_stopped dir seen.Call x is l = nothing_read (Cats w clock rules n (Err (fault.Call call.Look dir))) (fault.Call call.Look dir) x
      (left_as l (λ ts e. Cats.not_seen (ap (λ (d : Path). Err (fault.Call call.Look d)) is) refl e))

  pub dir_short : (f : Fault) {P : List Entry → Type 0} {o m : Option Journal} → Left P o m → Left (StopsSo w clock rules (stop.Fault f)) o m
  dir_short f l = left_as l (λ ts p. tt)

pub stop_is : (P : Result Bool Fault → List FileText → List Entry → Type 0) (s t : CatStop) (o m : Option Journal) (x y : Option (List ℕ)) → s ≡ t → CameTo P (Err t) o m x y → CameTo P (Err s) o m x y
stop_is P s t o m x y is c = subst (λ (z : CatStop). CameTo P (Err z) o m x y) (sym is) c

pub stops_is : (w : Wanted) (clock : Clock) (rules : Rules) (s t : CatStop) {o m : Option Journal} → s ≡ t → Left (StopsSo w clock rules t) o m → Left (StopsSo w clock rules s) o m
stops_is w clock rules s t {o = o} {m = m} is l = subst (λ (z : CatStop). Left (StopsSo w clock rules z) o m) (sym is) l
