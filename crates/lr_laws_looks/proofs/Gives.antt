-- What the looks tell of a log that is kept, where they are true: a word of its rule gives it, and it is no member of another log that the word gives too.
use Rattle.std.proofs.Common.{◌≡◌, ◌≢◌, ◌⊎◌, inl, inr, ℕ, zero, suc, ◌<◌, Bool, true, false, not, cond, List, [], ◌∷◌, map, reverse, Some, None, Ok, slice_get, bytes_eq, Contains, refl, sym, ap, ◌∙◌, subst, arith}
use Rattle.std.specs.Prelude.{IsUtf8}
use Rattle.std.specs.Borrow.{Bor}
use Rattle.std.specs.List.{list_all}
use Rattle.std.proofs.lemmas.Bool.{and_parts, not-true}
use Rattle.std.proofs.lemmas.List.{reverse-reverse}
use Rattle.std.proofs.lemmas.Slice.Eq.{bytes_eq-Decides}
use Rattle.lr_rules.specs.declared.fault.Fault.{Fault}
use Rattle.lr_rules.specs.declared.path.Path.{Path}
use Rattle.lr_rules.specs.declared.rule.Naming.{Naming}
use Rattle.lr_rules.specs.declared.rules.Rules.{Rules}
use Rattle.lr_rules.specs.Limits.{meets_limits, is_log_word, is_pattern_word, is_literal_word, is_path_text}
use Rattle.lr_rules.specs.Match.{WordGives, is_wildcard}
use Rattle.lr_rules.specs.Names.{naming_of}
use Rattle.lr_rules.specs.Path.{path_fault, has_empty_part, is_absolute, has_bad_byte, has_dot_part}
use Rattle.lr_rules.proofs.Bools.{first_true}
use Rattle.lr_host.specs.declared.entry.Entry.{Entry}
use Rattle.lr_host.specs.Fits.{IsFileAt}
use Rattle.lr_host.specs.Lists.{IsIn}
use Rattle.lr_host.specs.Quiet.{AreQuiet}
use Rattle.lr_host.specs.Runs.{SomeRule}
use Rattle.lr_host.specs.Told.{Made}
use Rattle.lr_host.specs.World.{Past, world, names}
use Rattle.lr_host.specs.Opening.{IsJournal}
use Rattle.lr_host.proofs.Lists.{in_to}
use Rattle.lr_host.proofs.Made.{made_journal}
use Rattle.lr_host.proofs.Looking.{looks_quiet}
use Rattle.lr_family.specs.declared.family.Family.{Family}
use Rattle.lr_family.specs.Parts.{IsMember}
use Rattle.lr_glob.specs.Words.{Comes}
use Rattle.lr_glob.proofs.Seeking.{wildcards_seek, literals_give}
use Rattle.lr_kept.specs.declared.choice.Choice.{Choice}
use Rattle.lr_kept.specs.declared.choice.Choice.TheVariants.{Kept}
use Rattle.lr_kept.specs.Chosen.{IsLogKept}
use Rattle.lr_plan.specs.declared.looks.SetLooks.{SetLooks}
use Rattle.lr_looks.specs.Asked.{AskedWord, asked_by, AreTexts, CanAsk}
use Rattle.lr_looks.specs.Choices.{chosen_names, found_names, is_wild, IsChoiceAmong}
use Rattle.lr_looks.specs.Found.{FoundLog}
use Rattle.lr_looks.specs.Shown.{ShowsLooks}
use Rattle.lr_looks.specs.Sights.{found_at}
use Rattle.lr_laws_looks.specs.Finds.{FindsFile}
use Rattle.lr_laws_looks.proofs.Stood.{stood_is_found}
use Rattle.lr_laws_rotations.specs.Target.{GivesLog}
use Rattle.lr_laws_rotations.proofs.Given.{Stretch, stretch, still_file}
use Rattle.lr_laws_looks.proofs.Coming.{IsFoundBy, found_word, IsAsked, was_asked}
use Rattle.lr_laws_looks.proofs.Elements.{in_list, map_at, unmap_at}
use Rattle.lr_laws_looks.proofs.Quiet.{looking_words}

-- ---- words of rules that meet their limits

pub all_in : {A : Type 0} (f : A → Bool) (xs : List A) (x : A) → list_all f xs ≡ true → IsIn x xs → f x ≡ true
all_in f [] x h i = absurd i
all_in f (y ∷ ys) x h (inl e) = subst (λ z. f z ≡ true) e (and_parts (f y) (list_all f ys) h).0
all_in f (y ∷ ys) x h (inr i) = all_in f ys x (and_parts (f y) (list_all f ys) h).1 i

-- a pattern has no empty part
full_pattern : (word : List ℕ) → is_log_word word ≡ true → is_wildcard word ≡ true → has_empty_part word ≡ false
full_pattern word h wild =
    let pattern : is_pattern_word word ≡ true = subst (λ b. cond b (is_pattern_word word) (is_literal_word word) ≡ true) wild h in
    let text : is_path_text word ≡ true = first_true (is_path_text word) _ pattern in
    let behind = (and_parts (not (has_bad_byte word)) _ text).1 in
    let parts = (and_parts (is_absolute word) _ behind).1 in
    not-true (has_empty_part word) (and_parts (not (has_empty_part word)) (not (has_dot_part word)) parts).0

pub text_in : (words : List AskedWord) (w : AskedWord) → AreTexts words → IsIn w words → IsUtf8 w.text
text_in [] w h i = absurd i
text_in (v ∷ ws) w h (inl e) = subst (λ (x : AskedWord). IsUtf8 x.text) e h.0
text_in (v ∷ ws) w h (inr i) = text_in ws w h.1 i

-- ---- the log that was found first with a path

record First (found : List FoundLog) (x : Path) : Type 0 where
  place : ℕ
  log : FoundLog
  at : slice_get found place ≡ Some log
  path : log.log.path ≡ x
  new : (j : ℕ) (h : FoundLog) → j < place → slice_get found j ≡ Some h → h.log.path ≡ x → ⊥

first_found : (found : List FoundLog) (g : FoundLog) (x : Path) → IsIn g found → g.log.path ≡ x → First found x
first_found [] g x i e = absurd i
first_found (f ∷ fs) g x i e = by (bytes_eq f.log.path x) refl (λ (j : IsIn g fs). first_found fs g x j e)
  where
    here : bytes_eq f.log.path x ≡ true → First (f ∷ fs) x
    here h = record { place = 0; log = f; at = refl; path = (bytes_eq-Decides f.log.path x).0 h; new = λ j k lt. absurd (omega (arith, lt)) }

    differ : bytes_eq f.log.path x ≡ false → f.log.path ≡ x → ⊥
    differ h same = let t = (bytes_eq-Decides f.log.path x).1 same in cc

    rest : bytes_eq f.log.path x ≡ false → (f ≡ g) ⊎ IsIn g fs → IsIn g fs
    rest h (inl same) = absurd (differ h (ap (λ (k : FoundLog). k.log.path) same ∙ e))
    rest h (inr j) = j

    further : bytes_eq f.log.path x ≡ false → First fs x → First (f ∷ fs) x
    further h r = record { place = suc r.place; log = r.log; at = r.at; path = r.path; new = new }
      where
        new : (j : ℕ) (k : FoundLog) → j < suc r.place → slice_get (f ∷ fs) j ≡ Some k → k.log.path ≡ x → ⊥
        new zero k lt at same = differ h (let one : f ≡ k = cc at in ap (λ (z : FoundLog). z.log.path) one ∙ same)
        new (suc j) k lt at same = r.new j k (omega (arith, lt)) at same

    by : (b : Bool) → bytes_eq f.log.path x ≡ b → (IsIn g fs → First fs x) → First (f ∷ fs) x
    by true h k = here h
    by false h k = further h (k (rest h i))

-- ---- a log that is kept is no member of another that was found first with its path

some_same : {A : Type 0} (o : _) (a b : A) → o ≡ Some a → o ≡ Some b → a ≡ b
some_same o a b e f = cc

no_member : {reserved : List Path} (found : List FoundLog) (choices : List Choice) (c : IsChoiceAmong reserved found choices) (k : ℕ) (f : FoundLog) → slice_get found k ≡ Some f → slice_get choices k ≡ Some Kept → f.log.wild ≡ true
    → (x : Path) (first : First found x) → x ≢ f.log.path → IsMember first.log.log.naming f.log.path → ⊥
no_member {reserved} found choices c k f at_f kept wild x first other member = is_kept.no_member first.place (record {
  matched = map_at is_wild found k f at_f ∙ ap (λ b. Some b) wild;
  other = λ same. other (sym first.path ∙ ap (λ (g : FoundLog). g.log.path) (some_same (slice_get found k) first.log f (subst (λ n. slice_get found n ≡ Some first.log) same first.at) at_f));
  new = λ j lt both. (let g = named j both.one both.at_one in first.new j g.0 lt g.1 (ap (λ (p : Path × Naming). p.0) g.2 ∙ (both.holds ∙ (same_log first.place first.log first.at both.other both.at_other ∙ first.path))));
  member = record {
    one = one.0;
    other = it.0;
    at_one = one.1;
    at_other = it.1;
    holds = subst (λ (p : Path × Naming). IsMember p.1 it.0.now.log) (sym one.2) (subst (λ (p : Path × Naming). IsMember first.log.log.naming p.0) (sym it.2) member);
  };
})
  where
    is_kept : IsLogKept c.logs (map is_wild found) reserved choices k
    is_kept = c.chosen.each k Kept kept

    -- the log of the list at a place
    its_log : (i : ℕ) (g : FoundLog) → slice_get found i ≡ Some g → (b : Bor Family) × (slice_get c.logs i ≡ Some b) × (chosen_names b ≡ found_names g)
    its_log i g at = unmap_at chosen_names c.logs i (found_names g) (ap (λ (xs : List (Path × Naming)). slice_get xs i) c.same ∙ map_at found_names found i g at)

    named : (i : ℕ) (b : Bor Family) → slice_get c.logs i ≡ Some b → (g : FoundLog) × (slice_get found i ≡ Some g) × (found_names g ≡ chosen_names b)
    named i b at = unmap_at found_names found i (chosen_names b) (ap (λ (xs : List (Path × Naming)). slice_get xs i) (sym c.same) ∙ map_at chosen_names c.logs i b at)

    same_log : (i : ℕ) (g : FoundLog) → slice_get found i ≡ Some g → (b : Bor Family) → slice_get c.logs i ≡ Some b → b.now.log ≡ g.log.path
    same_log i g at b at_b = let h = named i b at_b in sym (ap (λ (p : Path × Naming). p.0) h.2) ∙ ap (λ (z : FoundLog). z.log.path) (some_same (slice_get found i) h.0 g h.1 at)

    one : (b : Bor Family) × (slice_get c.logs first.place ≡ Some b) × (chosen_names b ≡ found_names first.log)
    one = its_log first.place first.log first.at

    it : (b : Bor Family) × (slice_get c.logs k ≡ Some b) × (chosen_names b ≡ found_names f)
    it = its_log k f at_f

-- ---- what the looks tell

module _ {reserved : List Path} (rules : Rules) (sets : List SetLooks) (faults : List Fault) (ts : List Entry) (s : ShowsLooks reserved rules.sets sets faults ts) where
  quiet : AreQuiet s.entries.front
  quiet = looks_quiet s.entries.front (looking_words 0 (asked_by rules.sets) s.entries.first.sights s.entries.front s.entries.first.shown)

  -- the word is one of its rule
  asked : (w : AskedWord) → IsIn w (asked_by rules.sets) → IsAsked 0 rules.sets w
  asked w i = was_asked 0 rules.sets w i

  rule_in : (w : AskedWord) → (a : IsAsked 0 rules.sets w) → IsIn w.rule rules.sets
  rule_in w a = in_list rules.sets a.place w.rule a.at

  can : (w : AskedWord) → IsAsked 0 rules.sets w → CanAsk w.rule
  can w a = all_in meets_limits rules.sets w.rule rules.limits (rule_in w a)

  full : (w : AskedWord) → IsIn w (asked_by rules.sets) → is_wildcard w.text ≡ true → has_empty_part w.text ≡ false
  full w i wild =
      let a = asked w i in
      full_pattern w.text (all_in is_log_word w.rule.words w.text (first_true (list_all is_log_word w.rule.words) _ (all_in meets_limits rules.sets w.rule rules.limits (rule_in w a))) a.has) wild

  -- each log that was found is given by its word
  word_given : (u v : Past) (es : List Entry) → Made u es v → s.entries.front ≡ reverse es → (f : FoundLog) (b : IsFoundBy (asked_by rules.sets) s.entries.front s.found f) → WordGives b.word.text f.log.path
  word_given u v es m e f b = subst (WordGives b.word.text) (sym (ap (λ (g : FoundLog). g.log.path) b.is)) (by (is_wildcard b.word.text) refl)
    where
      t : Stretch u (Comes b.word.text b.room (Ok b.matches))
      t = stretch u v s.entries.front (Comes b.word.text b.room (Ok b.matches)) quiet (subst (λ xs. Made u xs v) (sym (reverse-reverse es) ∙ ap reverse (sym e)) m) b.shown

      by : (c : Bool) → is_wildcard b.word.text ≡ c → WordGives b.word.text b.one.path
      by true wild = (wildcards_seek t.from t.to (reverse t.part) b.word.text b.room b.matches (text_in (asked_by rules.sets) b.word s.texts b.among) wild (full b.word b.among wild) t.made
          (subst (Comes b.word.text b.room (Ok b.matches)) (sym (reverse-reverse t.part)) t.is) b.one b.has).given
      by false plain = literals_give b.word.text b.room b.matches t.part plain t.is b.one b.has

  -- a log that is kept
  module _ (k : ℕ) (f : FoundLog) (at : slice_get s.found k ≡ Some f) (kept : slice_get s.keeps.choices k ≡ Some Kept) (b : IsFoundBy (asked_by rules.sets) s.entries.front s.found f) where
    -- it is no member, by numbers or dates, of another that its wildcard gives and that named a file, by the naming of a rule that gives that one
    kept_alone : (p q : Past) (es : List Entry) → Made p es q → IsJournal p → s.entries.front ≡ reverse es → is_wildcard b.word.text ≡ true
        → (x : Path) → x ≢ f.log.path → path_fault x ≡ None → WordGives b.word.text x → IsFileAt (names (world p)) x
        → SomeRule rules.sets x (λ r. IsMember (naming_of r x) f.log.path → ⊥)
    kept_alone p q es m journal e wild x other valid gives file = (c.0, w.word.rule, c.1, c.2, ((d.0, w.word.text, d.1, d.2, subst (WordGives w.word.text) first.path (word_given p q es m e first.log w)), none))
      where
        t : Stretch p (Comes b.word.text b.room (Ok b.matches))
        t = stretch p q s.entries.front (Comes b.word.text b.room (Ok b.matches)) quiet (subst (λ xs. Made p xs q) (sym (reverse-reverse es) ∙ ap reverse (sym e)) m) b.shown

        shown : Comes b.word.text b.room (Ok b.matches) (reverse (reverse t.part))
        shown = subst (Comes b.word.text b.room (Ok b.matches)) (sym (reverse-reverse t.part)) t.is

        -- the other log was found too
        too : FindsFile x b.matches
        too = stood_is_found t.from t.to (reverse t.part) b.word.text b.room b.matches (text_in (asked_by rules.sets) b.word s.texts b.among) (made_journal p t.from (reverse t.before) t.ahead journal) t.made shown
            x valid (still_file p t.from t.before x t.quiet t.ahead file) gives

        first : First s.found x
        first = first_found s.found (found_at b.word too.0) x (b.others too.0 too.1) too.2

        -- by this word first
        w : IsFoundBy (asked_by rules.sets) s.entries.front s.found first.log
        w = found_word rules.sets sets faults ts s first.log (in_list s.found first.place first.log first.at)

        a : IsAsked 0 rules.sets w.word
        a = asked w.word w.among

        c : Contains rules.sets w.word.rule
        c = in_to w.word.rule rules.sets (rule_in w.word a)

        d : Contains w.word.rule.words w.word.text
        d = in_to w.word.text w.word.rule.words a.has

        naming : first.log.log.naming ≡ naming_of w.word.rule x
        naming = ap (λ (g : FoundLog). g.log.naming) w.is ∙ ap (naming_of w.word.rule) (sym (ap (λ (g : FoundLog). g.log.path) w.is) ∙ first.path)

        none : IsMember (naming_of w.word.rule x) f.log.path → ⊥
        none h = no_member s.found s.keeps.choices s.keeps.chosen k f at kept (ap (λ (g : FoundLog). g.log.wild) b.is ∙ wild) x first other (subst (λ (n : Naming). IsMember n f.log.path) (sym naming) h)

    pub gives_kept : GivesLog rules.sets b.word.rule b.word.text f.log.path s.entries.front
    gives_kept = record {
      gives = λ p q es m e. word_given p q es m e f b;
      alone = λ p q es m journal e wild x other valid gives file member. kept_alone p q es m journal e wild x other valid gives file;
    }
