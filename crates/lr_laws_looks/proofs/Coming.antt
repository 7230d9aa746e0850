-- Where a target comes from: a look of the plan that nothing hinders, a log that was looked at whole, and a word of its rule that found it.
use Rattle.std.proofs.Common.{◌≡◌, inl, inr, ⊎_elim, ℕ, zero, suc, ◌+◌, ◌-◌, Bool, true, false, cond, eqb, List, [], ◌∷◌, ◌++◌, length, map, Some, Ok, Err, slice_get, refl, sym, ap, ◌∙◌, subst, append_assoc, arith}
use Rattle.std.specs.List.{flat_map}
use Rattle.lr_rules.specs.declared.clock.Clock.{Clock}
use Rattle.lr_rules.specs.declared.fault.Fault.{Fault}
use Rattle.lr_rules.specs.declared.path.Path.{Path}
use Rattle.lr_rules.specs.declared.rule.Naming.{Naming}
use Rattle.lr_rules.specs.declared.rule.Rule.{Rule}
use Rattle.lr_rules.specs.Names.{is_aside}
use Rattle.lr_due.specs.declared.answer.Due.{Due}
use Rattle.lr_due.specs.declared.answer.Due.TheVariants as due
use Rattle.lr_host.specs.declared.entry.Entry.{Entry}
use Rattle.lr_host.specs.declared.thing.Kind.{Kind}
use Rattle.lr_host.specs.declared.thing.Kind.TheVariants as kind
use Rattle.lr_host.specs.Listing.{is_file_kind}
use Rattle.lr_host.specs.Lists.{IsIn}
use Rattle.lr_host.proofs.Lists.{in_map, in_unmap, in_front, in_back, in_append, of_flat}
use Rattle.lr_glob.specs.declared.found.Found.{Found as Match}
use Rattle.lr_glob.specs.Words.{Comes as WordComes}
use Rattle.lr_kept.specs.declared.choice.Choice.{Choice}
use Rattle.lr_kept.specs.declared.choice.Choice.TheVariants.{Kept, Again, MemberOf, Reserved, Meets}
use Rattle.lr_kept.proofs.Elements.{same_read}
use Rattle.lr_plan.specs.declared.looks.LogLook.{LogLook}
use Rattle.lr_plan.specs.declared.looks.SetLooks.{SetLooks}
use Rattle.lr_plan.specs.Planned.{hindrances, where_due}
use Rattle.lr_looks.specs.declared.standing.Standing.{Standing}
use Rattle.lr_looks.specs.Asked.{AskedWord, word_of, rule_words, words_from, asked_by}
use Rattle.lr_looks.specs.Choices.{kept_of, where_file}
use Rattle.lr_looks.specs.Families.{FamilySight, Stood, Stopped, LookedLog, looked_at, looked_of}
use Rattle.lr_looks.specs.Found.{FoundLog}
use Rattle.lr_looks.specs.Sets.{where_in, of_set, looked_in, HaveLooksFrom}
use Rattle.lr_looks.specs.Shown.{ShowsLooks}
use Rattle.lr_looks.specs.Sights.{WordSight, found_at, found_by, found_of, ShowsWord, ShowWords}
use Rattle.lr_laws_rotations.specs.Target.{Target}
use Rattle.lr_laws_family.specs.Weave.{Among}
use Rattle.lr_laws_looks.specs.Targets.{target_of, where_free, targets_of, all_targets}

-- ---- a look of the plan

pub in_due : (d : Due) (ts : List Target) (t : Target) → IsIn t (where_due d ts) → IsIn t ts
in_due (due.Yes why) ts t h = h
in_due (due.No why) ts t h = absurd h

pub in_free : (fs : List Fault) (u t : Target) → IsIn t (where_free fs u) → (fs ≡ []) × (t ≡ u)
in_free [] u t (inl e) = (refl, sym e)
in_free [] u t (inr none) = absurd none
in_free (f ∷ fs) u t h = absurd h

-- The target is that of one of these looks, which nothing hinders.
pub record IsOfLook (clock : Clock) (rule : Rule) (looks : List LogLook) (t : Target) : Type 0 where
  pub look : LogLook
  pub among : IsIn look looks
  pub free : hindrances clock rule look ≡ []
  pub is : t ≡ target_of clock rule look

pub of_look : (clock : Clock) (rule : Rule) (decide : LogLook → Due) (looks : List LogLook) (t : Target) → IsIn t (targets_of clock rule decide looks) → IsOfLook clock rule looks t
of_look clock rule decide looks t i =
    let r = of_flat (λ (look : LogLook). where_due (decide look) (where_free (hindrances clock rule look) (target_of clock rule look))) looks t i in
    let f = in_free (hindrances clock rule r.0) (target_of clock rule r.0) t (in_due (decide r.0) (where_free (hindrances clock rule r.0) (target_of clock rule r.0)) t r.2) in
    record { look = r.0; among = r.1; free = f.0; is = f.1 }

-- The target is one of the definition at this place, of a log that nothing hinders.
pub record Comes (clock : Clock) (rules : List Rule) (sets : List SetLooks) (t : Target) : Type 0 where
  pub place : ℕ
  pub rule : Rule
  pub set : SetLooks
  pub look : LogLook
  pub at_rule : slice_get rules place ≡ Some rule
  pub at_set : slice_get sets place ≡ Some set
  pub among : IsIn look set.logs
  pub free : hindrances clock rule look ≡ []
  pub is : t ≡ target_of clock rule look

pub comes_from : (clock : Clock) (decide : Rule → LogLook → Due) (rules : List Rule) (sets : List SetLooks) (t : Target) → IsIn t (all_targets clock decide rules sets) → Comes clock rules sets t
comes_from clock decide [] [] t h = absurd h
comes_from clock decide [] (set ∷ sets) t h = absurd h
comes_from clock decide (rule ∷ rules) [] t h = absurd h
comes_from clock decide (rule ∷ rules) (set ∷ sets) t h = ⊎_elim own (λ b. further (comes_from clock decide rules sets t b)) (in_append t (targets_of clock rule (decide rule) set.logs) (all_targets clock decide rules sets) h)
  where
    own : IsIn t (targets_of clock rule (decide rule) set.logs) → Comes clock (rule ∷ rules) (set ∷ sets) t
    own a = let o = of_look clock rule (decide rule) set.logs t a in record { place = 0; rule = rule; set = set; look = o.look; at_rule = refl; at_set = refl; among = o.among; free = o.free; is = o.is }

    further : Comes clock rules sets t → Comes clock (rule ∷ rules) (set ∷ sets) t
    further c = record { place = suc c.place; rule = c.rule; set = c.set; look = c.look; at_rule = c.at_rule; at_set = c.at_set; among = c.among; free = c.free; is = c.is }

-- ---- a log that was looked at whole

pub in_where : (k : ℕ) (l x : LookedLog) → IsIn x (where_in k l) → l ≡ x
in_where k l x h = go (eqb k l.set) h
  where
    go : (b : Bool) → IsIn x (cond b (l ∷ []) []) → l ≡ x
    go true (inl e) = e
    go true (inr none) = absurd none
    go false none = absurd none

pub in_set : (k : ℕ) (logs : List LookedLog) (x : LookedLog) → IsIn x (of_set k logs) → IsIn x logs
in_set k logs x h = let r = of_flat (where_in k) logs x h in subst (λ (y : LookedLog). IsIn y logs) (in_where k r.0 x r.2) r.1

-- the looks of the definition at a place are the logs of it that were looked at whole
pub at_set : (k j : ℕ) (logs : List LookedLog) (sets : List SetLooks) (set : SetLooks) → HaveLooksFrom k logs sets → slice_get sets j ≡ Some set → map (looked_in (k + j)) set.logs ≡ of_set (k + j) logs
at_set k zero logs [] set h e = absurd (cc)
at_set k (suc j) logs [] set h e = absurd (cc)
at_set k zero logs (s ∷ ss) set h e =
    let same : s ≡ set = cc in
    subst (λ (n : ℕ). map (looked_in n) set.logs ≡ of_set n logs) (plus_none k) (subst (λ (x : SetLooks). map (looked_in k) x.logs ≡ of_set k logs) same h.0)
  where
    plus_none : (n : ℕ) → n ≡ n + 0
    plus_none n = omega arith
at_set k (suc j) logs (s ∷ ss) set h e = subst (λ (n : ℕ). map (looked_in n) set.logs ≡ of_set n logs) (moved k j) (at_set (k + 1) j logs ss set h.1 e)
  where
    moved : (a b : ℕ) → a + 1 + b ≡ a + suc b
    moved a b = omega arith

-- the look is one of those logs
pub was_looked : (k j : ℕ) (logs : List LookedLog) (sets : List SetLooks) (set : SetLooks) (look : LogLook) → HaveLooksFrom k logs sets → slice_get sets j ≡ Some set → IsIn look set.logs → IsIn (looked_in (k + j) look) logs
was_looked k j logs sets set look h e i = in_set (k + j) logs (looked_in (k + j) look) (subst (IsIn (looked_in (k + j) look)) (at_set k j logs sets set h e) (in_map (looked_in (k + j)) look set.logs i))

-- such a log is one that was kept, and what stands of it
pub in_looked : (fs : List FoundLog) (ss : List FamilySight) (x : LookedLog) → IsIn x (looked_of fs ss) → (f : FoundLog) × IsIn f fs × ((w : Standing) × (x ≡ looked_at f w.stand w.tmp))
in_looked [] [] x h = absurd h
in_looked [] (s ∷ ss) x h = absurd h
in_looked (f ∷ fs) [] x h = absurd h
in_looked (f ∷ fs) (Stood stand tmp ∷ ss) x (inl e) = (f, inl refl, (record { stand = stand; tmp = tmp }, sym e))
in_looked (f ∷ fs) (Stood stand tmp ∷ ss) x (inr i) = let r = in_looked fs ss x i in (r.0, inr r.1, r.2)
in_looked (f ∷ fs) (Stopped why ∷ ss) x i = let r = in_looked fs ss x i in (r.0, inr r.1, r.2)

-- ---- a log that was found and kept

file_is : (k : Kind) → is_file_kind k ≡ true → k ≡ kind.File
file_is kind.File e = refl
file_is kind.Dir e = absurd (cc)
file_is kind.Other e = absurd (cc)

pub in_file : (f g : FoundLog) → IsIn g (where_file f) → (f ≡ g) × (f.seen.kind ≡ kind.File)
in_file f g h = go (is_file_kind f.seen.kind) refl h
  where
    go : (b : Bool) → is_file_kind f.seen.kind ≡ b → IsIn g (cond b (f ∷ []) []) → (f ≡ g) × (f.seen.kind ≡ kind.File)
    go true e (inl same) = (same, file_is f.seen.kind e)
    go true e (inr none) = absurd none
    go false e none = absurd none

pub in_files : (fs : List FoundLog) (g : FoundLog) → IsIn g (flat_map where_file fs) → IsIn g fs × (g.seen.kind ≡ kind.File)
in_files fs g h =
    let r = of_flat where_file fs g h in
    let f = in_file r.0 g r.2 in
    (subst (λ (x : FoundLog). IsIn x fs) f.0 r.1, subst (λ (x : FoundLog). x.seen.kind ≡ kind.File) f.0 f.1)

pub in_kept : (fs : List FoundLog) (cs : List Choice) (g : FoundLog) → IsIn g (kept_of fs cs) → IsIn g fs
in_kept [] [] g h = absurd h
in_kept [] (c ∷ cs) g h = absurd h
in_kept (f ∷ fs) [] g h = absurd h
in_kept (f ∷ fs) (Kept ∷ cs) g (inl e) = inl e
in_kept (f ∷ fs) (Kept ∷ cs) g (inr i) = inr (in_kept fs cs g i)
in_kept (f ∷ fs) (Again k ∷ cs) g i = inr (in_kept fs cs g i)
in_kept (f ∷ fs) (MemberOf k ∷ cs) g i = inr (in_kept fs cs g i)
in_kept (f ∷ fs) (Reserved k ∷ cs) g i = inr (in_kept fs cs g i)
in_kept (f ∷ fs) (Meets k ∷ cs) g i = inr (in_kept fs cs g i)

-- ---- a word that gives it

-- The log was found by one of these words, whose looks and listings stand among these entries; all that the word gives was found with it.
pub record IsFoundBy (words : List AskedWord) (ts : List Entry) (all : List FoundLog) (f : FoundLog) : Type 0 where
  pub word : AskedWord
  pub among : IsIn word words
  pub room : ℕ
  pub matches : List Match
  pub one : Match
  pub has : IsIn one matches
  pub is : f ≡ found_at word one
  pub shown : Among (WordComes word.text room (Ok matches)) ts
  pub others : (m : Match) → IsIn m matches → IsIn (found_at word m) all

pub found_by_word : (n : ℕ) (words : List AskedWord) (ss : List WordSight) (ts : List Entry) → ShowWords n words ss ts → (f : FoundLog) → IsIn f (found_of words ss) → IsFoundBy words ts (found_of words ss) f
found_by_word n [] [] ts h f i = absurd i
found_by_word n [] (s ∷ ss) ts h f i = absurd i
found_by_word n (w ∷ ws) [] ts h f i = absurd i
found_by_word n (w ∷ ws) (s ∷ ss) ts h f i = ⊎_elim (λ (a : IsIn f (found_by w s)). own s refl a) (λ (b : IsIn f (found_of ws ss)). further (found_by_word (n + length (found_by w s)) ws ss h.back h.second f b)) (in_append f (found_by w s) (found_of ws ss) i)
  where
    own : (r : WordSight) → s ≡ r → IsIn f (found_by w r) → IsFoundBy (w ∷ ws) ts (found_of (w ∷ ws) (s ∷ ss)) f
    own (Ok matches) e a =
        let r = in_unmap (found_at w) f matches a in
        record {
          word = w;
          among = inl refl;
          room = 16_384 - n;
          matches = matches;
          one = r.0;
          has = r.1;
          is = sym r.2;
          shown = record { before = []; part = h.front; after = h.back; joined = h.joined; is = subst (λ (x : WordSight). ShowsWord w (16_384 - n) x h.front) e h.first };
          others = λ m j. in_front (found_at w m) (found_by w s) (found_of ws ss) (subst (λ (x : WordSight). IsIn (found_at w m) (found_by w x)) (sym e) (in_map (found_at w) m matches j));
        }
    own (Err why) e a = absurd a

    further : IsFoundBy ws h.back (found_of ws ss) f → IsFoundBy (w ∷ ws) ts (found_of (w ∷ ws) (s ∷ ss)) f
    further r = record {
      word = r.word;
      among = inr r.among;
      room = r.room;
      matches = r.matches;
      one = r.one;
      has = r.has;
      is = r.is;
      shown = record { before = h.front ++ r.shown.before; part = r.shown.part; after = r.shown.after; joined = h.joined ∙ (ap (λ es. h.front ++ es) r.shown.joined ∙ sym (append_assoc h.front r.shown.before (r.shown.part ++ r.shown.after))); is = r.shown.is };
      others = λ m j. in_back (found_at r.word m) (found_by w s) (found_of ws ss) (r.others m j);
    }

-- The word is one of the rule at this place, where the first of the rules has place k.
pub record IsAsked (k : ℕ) (rules : List Rule) (w : AskedWord) : Type 0 where
  pub place : ℕ
  pub at : slice_get rules place ≡ Some w.rule
  pub has : IsIn w.text w.rule.words
  pub set : w.set ≡ k + place

pub was_asked : (k : ℕ) (rules : List Rule) (w : AskedWord) → IsIn w (words_from k rules) → IsAsked k rules w
was_asked k [] w h = absurd h
was_asked k (rule ∷ rules) w h = ⊎_elim own (λ b. further (was_asked (k + 1) rules w b)) (in_append w (rule_words k rule) (words_from (k + 1) rules) h)
  where
    plus_none : (n : ℕ) → n ≡ n + 0
    plus_none n = omega arith

    moved : (a b : ℕ) → a + 1 + b ≡ a + suc b
    moved a b = omega arith

    own : IsIn w (rule_words k rule) → IsAsked k (rule ∷ rules) w
    own a =
        let r = in_unmap (word_of k rule) w rule.words a in
        subst (λ (v : AskedWord). IsAsked k (rule ∷ rules) v) r.2 (record { place = 0; at = refl; has = r.1; set = plus_none k })

    further : IsAsked (k + 1) rules w → IsAsked k (rule ∷ rules) w
    further a = record { place = suc a.place; at = a.at; has = a.has; set = a.set ∙ moved k a.place }

-- each log that was found was found by a word
pub found_word : {reserved : List Path} (rules : List Rule) (sets : List SetLooks) (faults : List Fault) (ts : List Entry) (s : ShowsLooks reserved rules sets faults ts) (f : FoundLog) → IsIn f s.found → IsFoundBy (asked_by rules) s.entries.front s.found f
found_word rules sets faults ts s f i = subst (λ (all : List FoundLog). IsFoundBy (asked_by rules) s.entries.front all f) (sym found_is)
    (found_by_word 0 (asked_by rules) s.entries.first.sights s.entries.front s.entries.first.shown f (subst (IsIn f) found_is i))
  where
    found_is : s.found ≡ found_of (asked_by rules) s.entries.first.sights
    found_is = s.entries.first.found_are

-- The log was found, its word is one of the rule at the place of its definition, and it was seen as a regular file.
pub record IsFrom (rules : List Rule) (ts : List Entry) (all : List FoundLog) (x : LookedLog) : Type 0 where
  pub found : FoundLog
  pub by_word : IsFoundBy (asked_by rules) ts all found
  pub path_is : found.log.path ≡ x.path
  pub naming_is : found.log.naming ≡ x.naming
  pub at : slice_get rules x.set ≡ Some by_word.word.rule
  pub has : IsIn by_word.word.text by_word.word.rule.words
  pub file : found.seen.kind ≡ kind.File

pub came_from : {reserved : List Path} (rules : List Rule) (sets : List SetLooks) (faults : List Fault) (ts : List Entry) (s : ShowsLooks reserved rules sets faults ts) (x : LookedLog) → IsIn x s.looked → (o : IsFrom rules s.entries.front s.found x) × IsIn o.found (kept_of s.found s.keeps.choices)
came_from rules sets faults ts s x i = (
  record {
    found = f.0;
    by_word = w;
    path_is = sym (ap (λ (y : LookedLog). y.path) f.2.1);
    naming_is = sym (ap (λ (y : LookedLog). y.naming) f.2.1);
    at = subst (λ (n : ℕ). slice_get rules n ≡ Some w.word.rule) (sym set_is) a.at;
    has = a.has;
    file = kept.1;
  },
  kept.0,
)
  where
    f : (g : FoundLog) × IsIn g s.kept × ((w : Standing) × (x ≡ looked_at g w.stand w.tmp))
    f = in_looked s.kept s.entries.second.families.sights x (subst (IsIn x) s.entries.second.families.looked_are i)

    kept : IsIn f.0 (kept_of s.found s.keeps.choices) × (f.0.seen.kind ≡ kind.File)
    kept = in_files (kept_of s.found s.keeps.choices) f.0 (subst (IsIn f.0) s.keeps.left_are f.1)

    w : IsFoundBy (asked_by rules) s.entries.front s.found f.0
    w = found_word rules sets faults ts s f.0 (in_kept s.found s.keeps.choices f.0 kept.0)

    a : IsAsked 0 rules w.word
    a = was_asked 0 rules w.word w.among

    set_is : x.set ≡ a.place
    set_is = ap (λ (y : LookedLog). y.set) f.2.1 ∙ (ap (λ (g : FoundLog). g.log.set) w.is ∙ (a.set ∙ none_more a.place))
      where
        none_more : (n : ℕ) → 0 + n ≡ n
        none_more n = omega arith

-- ---- the naming of a look

-- Each look of a definition is at a log whose naming is by the way of its rule.
abbrev pub AskSo : List Rule → List SetLooks → Type 0
AskSo rules sets = (k : ℕ) (rule : Rule) (set : SetLooks) (look : LogLook) → slice_get rules k ≡ Some rule → slice_get sets k ≡ Some set → IsIn look set.logs → look.family.naming.aside ≡ is_aside rule.way

pub asks_so : {reserved : List Path} (rules : List Rule) (sets : List SetLooks) (faults : List Fault) (ts : List Entry) → ShowsLooks reserved rules sets faults ts → AskSo rules sets
asks_so rules sets faults ts s k rule set look at_rule at i =
    sym (ap (λ (n : Naming). n.aside) o.naming_is) ∙ (ap (λ (g : FoundLog). g.log.naming.aside) o.by_word.is ∙ ap (λ (r : Rule). is_aside r.way) (sym same))
  where
    o : IsFrom rules s.entries.front s.found (looked_in (0 + k) look)
    o = (came_from rules sets faults ts s (looked_in (0 + k) look) (was_looked 0 k s.looked sets set look s.by_sets at i)).0

    none_more : (n : ℕ) → 0 + n ≡ n
    none_more n = omega arith

    same : rule ≡ o.by_word.word.rule
    same = same_read rules k rule o.by_word.word.rule at_rule (subst (λ (n : ℕ). slice_get rules n ≡ Some o.by_word.word.rule) (none_more k) o.at)
