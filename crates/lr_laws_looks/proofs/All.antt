-- All looks of a run.
use Rattle.std.proofs.Common.{◌≡◌, ◌+◌, ℕ, true, List, [], ◌++◌, reverse, Some, Ok, slice_get, sym, ap, ◌∙◌, subst, append_assoc}
use Rattle.lr_rules.specs.declared.fault.Fault.{Fault}
use Rattle.lr_rules.specs.declared.path.Path.{Path}
use Rattle.lr_rules.specs.declared.rules.Rules.{Rules}
use Rattle.lr_host.specs.declared.entry.Entry.{Entry}
use Rattle.lr_host.specs.Lists.{IsIn}
use Rattle.lr_host.specs.Opening.{IsJournal}
use Rattle.lr_host.specs.Quiet.{AreQuiet, ChangeNothing}
use Rattle.lr_host.specs.Told.{Made}
use Rattle.lr_host.specs.World.{Past}
use Rattle.lr_host.proofs.Lists.{in_back}
use Rattle.lr_host.proofs.Quiet.{quiet_both, quiet_still, still_in_order}
use Rattle.lr_glob.specs.declared.found.Found.{Found as Match}
use Rattle.lr_plan.specs.declared.looks.LogLook.{LogLook}
use Rattle.lr_plan.specs.declared.looks.SetLooks.{SetLooks}
use Rattle.lr_looks.specs.Asked.{AskedWord, asked_by}
use Rattle.lr_looks.specs.Families.{LookedLog, looked_of, LooksAtFamilies}
use Rattle.lr_looks.specs.Sets.{looked_in}
use Rattle.lr_looks.specs.Shown.{ShowsLooks}
use Rattle.lr_laws_looks.proofs.Aside.{SawAside, all_aside}
use Rattle.lr_laws_looks.proofs.Coming.{was_looked}
use Rattle.lr_laws_looks.proofs.Free.{place_in}
use Rattle.lr_laws_looks.proofs.SeenListed.{all_shown}
use Rattle.lr_laws_looks.proofs.Quiet.{whole_quiet}
use Rattle.lr_laws_looks.proofs.Seen.{looked_family}
use Rattle.lr_laws_looks.specs.True.{IsTrueWord, IsTrueFamily, IsTrueAside, AreTrue}
use Rattle.lr_laws_looks.proofs.Families.{true_aside, true_family}
use Rattle.lr_laws_looks.proofs.Sought.{all_sought}
use Rattle.lr_laws_looks.proofs.Words.{WasShown, word_shown, text_at, true_word}

module _ {reserved : List Path} (rules : Rules) (sets : List SetLooks) (faults : List Fault) (front ts es : List Entry) (p q : Past) (s : ShowsLooks reserved rules.sets sets faults ts) (journal : IsJournal p) (made : Made p es q) (joined : reverse es ≡ front ++ ts)
    (quiet : AreQuiet front) where
  all_quiet : AreQuiet (reverse es)
  all_quiet = subst AreQuiet (sym joined) (quiet_both front ts quiet (whole_quiet rules.sets sets faults ts s))

  still : ChangeNothing es
  still = still_in_order es (quiet_still (reverse es) all_quiet)

  in_looks : (e : Entry) → IsIn e ts → IsIn e (reverse es)
  in_looks e i = subst (IsIn e) (sym joined) (in_back e front ts i)

  in_families : (e : Entry) → IsIn e s.entries.back → IsIn e (reverse es)
  in_families e i = in_looks e (subst (IsIn e) (sym s.entries.joined) (in_back e s.entries.front s.entries.back i))

  one_word : (place : ℕ) (w : AskedWord) (matches : List Match) → slice_get (asked_by rules.sets) place ≡ Some w → slice_get s.entries.first.sights place ≡ Some (Ok matches) → IsTrueWord w matches p q
  one_word place w matches at is = true_word w matches p q es made journal all_quiet (text_at (asked_by rules.sets) place w s.texts at) (record {
    room = shown.room;
    among = record {
      before = front ++ shown.among.before;
      part = shown.among.part;
      after = shown.among.after ++ s.entries.back;
      joined = joined ∙ (ap (λ (xs : List Entry). front ++ xs) (s.entries.joined ∙ (ap (λ (xs : List Entry). xs ++ s.entries.back) shown.among.joined
          ∙ (append_assoc shown.among.before (shown.among.part ++ shown.among.after) s.entries.back ∙ ap (λ (xs : List Entry). shown.among.before ++ xs) (append_assoc shown.among.part shown.among.after s.entries.back))))
          ∙ sym (append_assoc front shown.among.before (shown.among.part ++ (shown.among.after ++ s.entries.back))));
      is = shown.among.is;
    };
  })
    where
      shown : WasShown w matches s.entries.front
      shown = word_shown 0 (asked_by rules.sets) s.entries.first.sights s.entries.front place w matches s.entries.first.shown at is

  -- ---- the logs that were looked at whole

  f : LooksAtFamilies s.kept s.of_kept faults s.looked s.entries.back
  f = s.entries.second

  of_sights : (x : LookedLog) → IsIn x s.looked → IsIn x (looked_of s.kept f.families.sights)
  of_sights x i = subst (IsIn x) f.families.looked_are i

  one_family : (x : LookedLog) → IsIn x s.looked → IsTrueFamily x.naming x.stand p q
  one_family x i = true_family x.path x.naming x.stand p q es (looked_family rules sets faults ts x s i) made journal still
      (all_shown (reverse es) s.kept f.listings f.families.sights s.entries.back in_families f.families.shown x (of_sights x i))
      (all_sought (reverse es) s.kept f.listings f.families.sights s.entries.back in_families f.families.shown x (of_sights x i))

  one_aside : (x : LookedLog) → IsIn x s.looked → x.naming.aside ≡ true → IsTrueAside x.path x.tmp p q
  one_aside x i is = true_aside p q es made still x.path x.tmp
      (subst (λ b. SawAside b x.path x.tmp (reverse es)) is (all_aside (reverse es) [] s.kept f.listings f.families.sights s.entries.back in_families f.families.shown x (of_sights x i)))

  -- where its definition has it
  in_definition : (set : SetLooks) (look : LogLook) → IsIn set sets → IsIn look set.logs → (k : ℕ) × IsIn (looked_in k look) s.looked
  in_definition set look among i = let at = place_in sets set among in (0 + at.0, was_looked 0 at.0 s.looked sets set look s.by_sets at.1 i)

  pub looks_true : AreTrue rules.sets s.entries.first.sights sets p q
  looks_true = record {
    words = one_word;
    families = λ set look among i. let l = in_definition set look among i in one_family (looked_in l.0 look) l.1;
    aside = λ set look among i is. let l = in_definition set look among i in one_aside (looked_in l.0 look) l.1 is;
  }
