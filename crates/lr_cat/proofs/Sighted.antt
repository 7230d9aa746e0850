-- What a call leaves between its begin and its end: looks, listings and reads.
use Rattle.std.proofs.Common.{List, [], ◌∷◌, Bool, Option, Result, sym, subst}
use Rattle.lr_rules.specs.declared.path.Path.{Path}
use Rattle.lr_rules.specs.declared.rule.Naming.{Naming}
use Rattle.lr_rules.specs.declared.fault.Fault.{Fault}
use Rattle.lr_host.specs.declared.entry.Entry.{Entry}
use Rattle.lr_host.specs.declared.entry.Entry.TheVariants as entry
use Rattle.lr_host.specs.declared.journal.Journal.{Journal}
use Rattle.lr_host.specs.Quiet.{ChangeNothing}
use Rattle.lr_host.specs.Reading.{IsReadOf}
use Rattle.lr_host.specs.Told.{Each, Left, not_told, is_told, Made, at_first, by_writer, by_tool, Then, WhereTold}
use Rattle.lr_host.specs.World.{Past, ◌▸◌, past}
use Rattle.lr_host.proofs.Each.{each_append, each_as, each_in_order}
use Rattle.lr_host.proofs.Quiet.{quiet_still}
use Rattle.lr_cat.specs.declared.texts.TextStop.{TextStop}
use Rattle.lr_cat.specs.declared.texts.TextStop.TheVariants as stop
use Rattle.lr_cat.specs.Saw.{FamilySaw, ShowsFamilySaw, SeesNone, not_stood, not_found, Works, not_seen, broke_off, read_all, aside_of, files_of}
use Rattle.lr_host.specs.Looking.{IsSight, AreSights, AreLooking}
use Rattle.lr_host.proofs.Running.{IsOn, writes_on}
use Rattle.lr_host.proofs.Looking.{looking_both, sights_quiet}
use Rattle.lr_cat.specs.Texts.{FileText, ReadsTexts, ReadsTextPart, TextBreaksOff, ReadsAllOf}
use Rattle.lr_cat.proofs.Putting.{whole_only}
use Rattle.lr_cat.proofs.Standing.{both_looks, looks_sights, none_looks, stand_looks, stop_looks}

-- ---- which they are

read_sight : (path : Path) (e : Entry) → IsReadOf path e → IsSight e
read_sight path (entry.Reads x from piece) i = tt
read_sight path _ i = absurd i

reads_sights : (path : Path) (ts : List Entry) → Each (IsReadOf path) ts → AreSights ts
reads_sights path ts a = each_as (IsReadOf path) IsSight ts (read_sight path) a

pub sights_both : {P Q : List Entry → Type 0} (ts : List Entry) → ((us : List Entry) → P us → AreSights us) → ((us : List Entry) → Q us → AreSights us) → Then P Q ts → AreSights ts
sights_both ts f g t = subst AreSights (sym t.joined) (each_append IsSight t.front t.back (f t.front t.first) (g t.back t.second))

texts_sights : (texts : List FileText) (ts : List Entry) → ReadsTexts texts ts → AreSights ts
texts_sights [] ts r = subst AreSights (sym r) tt
texts_sights (t ∷ texts) ts r = sights_both ts (λ us w. reads_sights t.path us (whole_only t us w)) (λ us w. texts_sights texts us w) r

some_sights : (why : TextStop) (t : FileText) (ts : List Entry) → ReadsTextPart why t ts → AreSights ts
some_sights stop.TooLong t ts r = reads_sights t.path ts r.1.only
some_sights stop.Read t ts r = reads_sights t.path ts r.only
some_sights stop.Out t ts r = reads_sights t.path ts r.only

pub broken_sights : (files : List Path) (f : Fault) (texts : List FileText) (ts : List Entry) → TextBreaksOff files f texts ts → AreSights ts
broken_sights files f texts ts b = sights_both ts (λ us r. texts_sights b.before us r) (λ us r. some_sights b.why b.last us r) b.reads

pub all_sights : (files : List Path) (texts : List FileText) (ts : List Entry) → ReadsAllOf files texts ts → AreSights ts
all_sights files texts ts r = texts_sights texts ts r.reads

saw_looks : (n : Naming) (log : Path) (saw : FamilySaw) (ts : List Entry) → ShowsFamilySaw n log saw ts → AreLooking ts
saw_looks n log saw ts s = looking_both ts (λ us h. stand_looks n saw.stand us h) (λ us h. both_looks (aside_of n.aside log) log saw.aside saw.log us h) s

pub saw_sights : (n : Naming) (log : Path) (saw : FamilySaw) (ts : List Entry) → ShowsFamilySaw n log saw ts → AreSights ts
saw_sights n log saw ts s = looks_sights ts (saw_looks n log saw ts s)

pub none_sights : (n : Naming) (log : Path) (f : Fault) (ts : List Entry) → SeesNone n log f ts → AreSights ts
none_sights n log f ts (not_stood why is h) = looks_sights ts (stop_looks n why ts h)
none_sights n log f ts (not_found stand h) = looks_sights ts (looking_both ts (λ us s. stand_looks n stand us s) (λ us s. none_looks (aside_of n.aside log) log f us s) h)

pub works_sights : (n : Naming) (log : Path) (how : Result Bool Fault) (texts : List FileText) (ts : List Entry) → Works n log how texts ts → AreSights ts
works_sights n log how texts ts (not_seen f is none h) = none_sights n log f ts h
works_sights n log how texts ts (broke_off saw f is h) = sights_both ts (λ us s. saw_sights n log saw us s) (λ us b. broken_sights (files_of saw) f texts us b) h
works_sights n log how texts ts (read_all saw is h) = sights_both ts (λ us s. saw_sights n log saw us s) (λ us r. all_sights (files_of saw) texts us r) h

-- ---- what they leave

pub sights_still : (ts : List Entry) → AreSights ts → ChangeNothing ts
sights_still ts a = quiet_still ts (sights_quiet ts a)

-- ---- the run goes on

looks_on : (p : Past) (e : Entry) → IsSight e → IsOn p → IsOn (p ▸ e)
looks_on p (entry.Look x seen) i r = r
looks_on p (entry.List dir listed) i r = r
looks_on p (entry.Reads x at piece) i r = r
looks_on p _ i r = absurd i

made_on : (p q : Past) (es : List Entry) → Made p es q → AreSights es → IsOn p → IsOn q
made_on p _ _ at_first a r = r
made_on p _ es (by_writer {q = q} {e = e} m i f) a r = writes_on q e i (made_on p q es m a r)
made_on p _ _ (by_tool {es = es} {q = q} {e = e} m i f) a r = looks_on q e a.0 (made_on p q es m a.1 r)

pub stays_on : {o n : Option Journal} → Left AreSights o n → WhereTold o IsOn → WhereTold n IsOn
stays_on not_told r = tt
stays_on (is_told {j = j} {k = k} {es = es} m h) r = made_on (past j) (past k) es m (each_in_order IsSight es h) r
