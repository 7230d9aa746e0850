-- What a rule says of a log that a word of it gives.
use Rattle.std.proofs.Common.{◌≡◌, ◌≢◌, ℕ, ◌≤◌, Bool, true, false, ◌&&◌, refl, sym, ◌∙◌, ap, subst, arith, Option, Some, None, List, [], ◌∷◌, ◌++◌, reverse, All, Contains, inl, inr}
use Rattle.std.specs.Prelude.{ℤ}
use Rattle.std.proofs.lemmas.List.{reverse-append, reverse-reverse}
use Rattle.std.specs.List.{list_all}
use Rattle.std.proofs.lemmas.Bool.Decides.{nat_tests}
use Rattle.std.proofs.lemmas.Bool.{and_parts, both_ways}
use Rattle.lr_rules.specs.declared.path.Path.{Path}
use Rattle.lr_rules.specs.declared.rule.Count.{Count}
use Rattle.lr_rules.specs.declared.rule.Count.TheVariants as count
use Rattle.lr_rules.specs.declared.rule.Naming.{Naming}
use Rattle.lr_rules.specs.declared.rule.Rule.{Rule}
use Rattle.lr_rules.specs.declared.rule.Way.{Way}
use Rattle.lr_rules.specs.declared.rules.Rules.{Rules}
use Rattle.lr_rules.specs.Limits.{meets_limits, is_count, is_small, is_criterion, is_log_word, or_none, is_size, IsCount}
use Rattle.lr_rules.specs.declared.rule.Format.{Format}
use Rattle.lr_rules.specs.Match.{WordGives, literal, RuleGives, is_wildcard, literal_path}
use Rattle.lr_rules.specs.Names.{IsMemberAt, aside_path, naming_of, Meet}
use Rattle.lr_rules.specs.Path.{path_fault}
use Rattle.lr_host.specs.declared.entry.Entry.{Entry}
use Rattle.lr_host.specs.declared.entry.Entry.TheVariants as entry
use Rattle.lr_host.specs.World.{Past, ◌▸◌, world, names}
use Rattle.lr_host.specs.Fits.{IsFileAt}
use Rattle.lr_host.specs.Quiet.{IsQuiet, AreQuiet}
use Rattle.lr_host.specs.Sets.{LogSet, Order, Numbered, Dated, order, IsKeyBy, order_of}
use Rattle.lr_host.specs.Runs.{rules_of, SomeRule, StoodAtStart}
use Rattle.lr_host.specs.Steady.{IsSteadyAtBy, IsPassedOver}
use Rattle.lr_host.specs.Told.{Each, IsWriters, Made, at_first, by_writer, by_tool}
use Rattle.lr_host.specs.Lists.{IsIn}
use Rattle.lr_host.proofs.Each.{each_first, each_reverse}
use Rattle.lr_host.specs.Opening.{IsJournal}
use Rattle.lr_host.proofs.Made.{Cut, cut, made_journal}
use Rattle.lr_host.proofs.More.{file_more}
use Rattle.lr_host.proofs.Quiet.{IsAny, quiet_more, made_quiet, since_any, quiet_still, still_reverse}
use Rattle.lr_host.proofs.Lists.{in_from}
use Rattle.lr_family.specs.Parts.{IsDated, IsMember}
use Rattle.lr_laws.proofs.AsideName.{no_numbered, no_dated}
use Rattle.lr_laws_family.specs.Members.{IsNoMember}
use Rattle.lr_laws_rotations.specs.Target.{GivesLog, IsGiven, Target, GoesBy}
use Rattle.lr_laws_family.specs.Weave.{Among}

-- what holds of all holds of each of them
all_in : {A : Type 0} (P : A → Type 0) (xs : List A) (x : A) → All P xs → Contains xs x → P x
all_in P xs x a c = subst P c.2 (a c.0 x c.1)

-- ---- a literal word

-- it gives its one path, whatever was seen
pub literal_gives : (rules : List Rule) (rule : Rule) (word : List ℕ) (log : Path) (ts : List Entry) → is_wildcard word ≡ false → log ≡ literal_path word → GivesLog rules rule word log ts
literal_gives rules rule word log ts plain is = record { gives = λ p q es m e. literal plain is; alone = λ p q es m journal e wild. absurd (both_ways (is_wildcard word) plain wild) }

-- ---- what the looks tell

-- The moments before and behind some of the looks, of which P holds.
pub record Stretch (u : Past) (P : List Entry → Type 0) : Type 0 where
  pub from : Past
  pub to : Past
  pub before : List Entry
  pub part : List Entry
  pub quiet : AreQuiet before
  pub ahead : Made u (reverse before) from
  pub made : Made from (reverse part) to
  pub is : P part

pub stretch : (u v : Past) (looks : List Entry) (P : List Entry → Type 0) → AreQuiet looks → Made u (reverse looks) v → Among P looks → Stretch u P
stretch u v looks P quiet m a = record {
  from = first.mid;
  to = second.mid;
  before = a.before;
  part = a.part;
  quiet = each_first IsQuiet a.before (a.part ++ a.after) (subst AreQuiet a.joined quiet);
  ahead = first.first;
  made = second.first;
  is = a.is;
}
  where
    first : Cut u v (reverse (a.part ++ a.after)) (reverse a.before)
    first = cut u v (reverse looks) (reverse (a.part ++ a.after)) (reverse a.before) (ap reverse a.joined ∙ reverse-append a.before (a.part ++ a.after)) m

    second : Cut first.mid v (reverse a.after) (reverse a.part)
    second = cut first.mid v (reverse (a.part ++ a.after)) (reverse a.after) (reverse a.part) (reverse-append a.part a.after) first.second

-- a file from before the looks still is one
pub still_file : (u v : Past) (before : List Entry) (x : Path) → AreQuiet before → Made u (reverse before) v → IsFileAt (names (world u)) x → IsFileAt (names (world v)) x
still_file u v before x quiet m file = file_more (names (world u)) (names (world v)) x
    (quiet_more IsAny u v (made_quiet IsAny u v (reverse before) (since_any u v (reverse before) m) m (still_reverse before (quiet_still before quiet)))) file

pub gives : (u v : Past) (rules : List Rule) (looks : List Entry) (x : Target) → AreQuiet looks → Made u (reverse looks) v → (g : IsGiven rules looks x) → RuleGives g.rule x.log
gives u v rules looks x quiet m g =
    let t = stretch u v looks (GivesLog rules g.rule g.word x.log) quiet m g.given in
    (g.has.0, g.word, g.has.1, g.has.2, t.is.gives t.from t.to (reverse t.part) t.made (sym (reverse-reverse t.part)))

-- ---- a log that the run passes over

-- a member of a numbered set has a place
place_in : (s : LogSet) (x : Path) → order s ≡ Numbered → (s.key x ≡ None → ⊥) → (place : ℕ) × IsMemberAt s.naming place x
place_in s x numbered some = go (s.key x) refl
  where
    keys : IsKeyBy Numbered s.naming s.key
    keys = subst (λ (o : Order). IsKeyBy o s.naming s.key) numbered s.keys

    go : (o : Option ℤ) → s.key x ≡ o → (place : ℕ) × IsMemberAt s.naming place x
    go None e = absurd (some e)
    go (Some k) e = let h = (keys x k).0 e in (h.0, h.2)

-- and one of a dated set a stamp
stamp_in : (s : LogSet) (x : Path) → order s ≡ Dated → (s.key x ≡ None → ⊥) → IsDated s.naming x
stamp_in s x dated some = go (s.key x) refl
  where
    keys : IsKeyBy Dated s.naming s.key
    keys = subst (λ (o : Order). IsKeyBy o s.naming s.key) dated s.keys

    go : (o : Option ℤ) → s.key x ≡ o → IsDated s.naming x
    go None e = absurd (some e)
    go (Some k) e = let h = (keys x k).0 e in (h.0, h.1, h.3)

pub member_in : (s : LogSet) (x : Path) → (s.key x ≡ None → ⊥) → IsMember s.naming x
member_in s x some = go s.naming.dated refl
  where
    go : (d : Option Format) → s.naming.dated ≡ d → IsMember s.naming x
    go None is = inl (is, place_in s x (ap order_of is) some)
    go (Some format) is = inr (stamp_in s x (ap order_of is) some)

-- what stood as the run began stood before its looks
quiet_stood : (x : Path) (p : Past) (e : Entry) → IsQuiet e → StoodAtStart x (p ▸ e) → StoodAtStart x p
quiet_stood x p (entry.Starts state now rules) (i, h) s = absurd (cc)
quiet_stood x p _ i s = s

wrote_stood : (x : Path) (p : Past) (e : Entry) → IsWriters e → StoodAtStart x (p ▸ e) → StoodAtStart x p
wrote_stood x p (entry.Starts state now rules) i s = absurd i
wrote_stood x p _ i s = s

stood_before : (x : Path) (p q : Past) (es : List Entry) → Made p es q → Each IsQuiet es → StoodAtStart x q → StoodAtStart x p
stood_before x p _ _ at_first a s = s
stood_before x p _ es (by_writer {q = q} {e = e} m i f) a s = stood_before x p q es m a (wrote_stood x q e i s)
stood_before x p _ _ (by_tool {es = es} {q = q} {e = e} m i f) a s = stood_before x p q es m a.1 (quiet_stood x q e a.0 s)

-- what the journal of a disk begins with is one
pub journal_before : (p q : Past) (es : List Entry) → Made p es q → IsJournal q → IsJournal p
journal_before p _ _ at_first j = j
journal_before p _ es (by_writer {q = q} m i f) j = journal_before p q es m j.0
journal_before p _ _ (by_tool {es = es} {q = q} m i f) j = journal_before p q es m j.0

-- a set of another log, that is steady where the log names a file, doesn't meet the log's
pub no_meet : (way : Way) (s : LogSet) (u v : Past) (rules : List Rule) (looks : List Entry) (x : Target) → AreQuiet looks → Made u (reverse looks) v → ((y : Path) → StoodAtStart y u → IsFileAt (names (world u)) y)
    → IsJournal v → IsSteadyAtBy way s v → rules_of v ≡ rules → IsGiven rules looks x → IsFileAt (names (world v)) x.log → x.log ≢ s.log → Meet s.log s.naming x.log x.naming → ⊥
no_meet way s u v rules looks x quiet m begun journal steady is g file other meet =
    none.4.1 (subst (λ (k : Naming). IsMember k x.log) (sym (named none.1 (none.0, none.2, none.3) none.4.0)) member)
  where
    t : Stretch u (GivesLog rules g.rule g.word x.log)
    t = stretch u v looks (GivesLog rules g.rule g.word x.log) quiet m g.given

    word_gives : WordGives g.word x.log
    word_gives = t.is.gives t.from t.to (reverse t.part) t.made (sym (reverse-reverse t.part))

    over : IsPassedOver s v x.log
    over = all_in (λ (r : Rule). RuleGives r x.log → Meet s.log s.naming x.log (naming_of r x.log) → IsPassedOver s v x.log) rules g.rule
        (subst (All (λ (r : Rule). RuleGives r x.log → Meet s.log s.naming x.log (naming_of r x.log) → IsPassedOver s v x.log)) is (steady.apart x.log other file)) g.among
        (g.has.0, g.word, g.has.1, g.has.2, word_gives) (subst (λ (k : Naming). Meet s.log s.naming x.log k) (sym g.naming_is) meet)

    -- the word is a wildcard, and gives the set's log too
    wild : (is_wildcard g.word ≡ true) × WordGives g.word s.log
    wild = all_in (λ (word : List ℕ). WordGives word x.log → (is_wildcard word ≡ true) × WordGives word s.log) g.rule.words g.word
        (all_in (λ (r : Rule). All (λ word. WordGives word x.log → (is_wildcard word ≡ true) × WordGives word s.log) r.words) rules g.rule
        (subst (All (λ (r : Rule). All (λ word. WordGives word x.log → (is_wildcard word ≡ true) × WordGives word s.log) r.words)) is over.wildcards) g.among) g.has word_gives

    -- each rule that gives the set's log names its members as the set does
    named : (r : Rule) → Contains rules r → RuleGives r s.log → naming_of r s.log ≡ s.naming
    named r among gives_it = (all_in (λ (q : Rule). RuleGives q s.log → (q.way ≡ way) × (naming_of q s.log ≡ s.naming)) rules r
        (subst (All (λ (q : Rule). RuleGives q s.log → (q.way ≡ way) × (naming_of q s.log ≡ s.naming))) is steady.rules) among gives_it).1

    naming : naming_of g.rule s.log ≡ s.naming
    naming = named g.rule g.among (g.has.0, g.word, g.has.1, g.has.2, wild.1)

    member : IsMember s.naming x.log
    member = member_in s x.log over.member

    stood : IsFileAt (names (world t.from)) s.log
    stood = still_file u t.from t.before s.log t.quiet t.ahead (begun s.log (stood_before s.log u v (reverse looks) m (each_reverse IsQuiet looks quiet) over.log_stood))

    none : SomeRule rules s.log (λ r. IsMember (naming_of r s.log) x.log → ⊥)
    none = t.is.alone t.from t.to (reverse t.part) t.made (made_journal u t.from (reverse t.before) t.ahead (journal_before u v (reverse looks) m journal)) (sym (reverse-reverse t.part)) wild.0 s.log (λ e. other (sym e)) s.log_path wild.1 stood
        (subst (λ (k : Naming). IsMember k x.log) (sym naming) member)

-- where the set is steady, the rule that gives its log rotates it in this way and gives it the set's naming
of_steady : (way : Way) (s : LogSet) (v : Past) (rules : List Rule) (looks : List Entry) (x : Target) → IsSteadyAtBy way s v → rules_of v ≡ rules → (g : IsGiven rules looks x) → RuleGives g.rule x.log → s.log ≡ x.log
    → (g.rule.way ≡ way) × (naming_of g.rule s.log ≡ s.naming)
of_steady way s v rules looks x steady is g h same =
    all_in (λ (r : Rule). RuleGives r s.log → (r.way ≡ way) × (naming_of r s.log ≡ s.naming)) rules g.rule
    (subst (All (λ (r : Rule). RuleGives r s.log → (r.way ≡ way) × (naming_of r s.log ≡ s.naming))) is steady.rules) g.among
    (subst (λ (y : Path). RuleGives g.rule y) (sym same) h)

-- the rule gives the set of its log the naming that the set has
pub naming_same : (way : Way) (s : LogSet) (v : Past) (rules : List Rule) (looks : List Entry) (x : Target) → IsSteadyAtBy way s v → rules_of v ≡ rules → (g : IsGiven rules looks x) → RuleGives g.rule x.log → s.log ≡ x.log → s.naming ≡ x.naming
naming_same way s v rules looks x steady is g h same = sym (of_steady way s v rules looks x steady is g h same).1 ∙ (ap (naming_of g.rule) same ∙ g.naming_is)

-- and its log goes this way
pub goes_by : (way : Way) (s : LogSet) (v : Past) (rules : List Rule) (looks : List Entry) (x : Target) → IsSteadyAtBy way s v → rules_of v ≡ rules → (g : IsGiven rules looks x) → RuleGives g.rule x.log → s.log ≡ x.log → GoesBy way x
goes_by way s v rules looks x steady is g h same = subst (λ (w : Way). GoesBy w x) (of_steady way s v rules looks x steady is g h same).0 g.way_is

-- what the rule says of the log, some rule of the run does
pub by_rule : (P : Rule → Type 0) (v : Past) (rules : List Rule) (looks : List Entry) (x : Target) → rules_of v ≡ rules → (g : IsGiven rules looks x) → RuleGives g.rule x.log → P g.rule → SomeRule (rules_of v) x.log P
by_rule P v rules looks x is g h so = subst (λ (rs : List Rule). SomeRule rs x.log P) (sym is) (g.among.0, g.rule, g.among.1, g.among.2, (h, so))

-- ---- the numbers of places

record Limits (r : Rule) : Type 0 where
  count : is_count r.count ≡ true
  start : is_small r.start ≡ true

third_and_eighth : (a b c d e f g h i : Bool) → (a && (b && (c && (d && (e && (f && (g && (h && i)))))))) ≡ true → (c ≡ true) × (h ≡ true)
third_and_eighth a b c d e f g h i t =
    let from_third = (and_parts b (c && (d && (e && (f && (g && (h && i)))))) ((and_parts a (b && (c && (d && (e && (f && (g && (h && i))))))) t).1)).1 in (
      (and_parts c (d && (e && (f && (g && (h && i))))) from_third).0,
      (and_parts h i ((and_parts g (h && i) ((and_parts f (g && (h && i)) ((and_parts e (f && (g && (h && i))) ((and_parts d (e && (f && (g && (h && i)))) ((and_parts c (d && (e && (f && (g && (h && i))))) from_third).1)).1)).1)).1)).1)).0,
    )

each_meets : (rules : List Rule) (r : Rule) → list_all meets_limits rules ≡ true → IsIn r rules → meets_limits r ≡ true
each_meets [] r h i = absurd i
each_meets (q ∷ qs) r h (inl e) = subst (λ (x : Rule). meets_limits x ≡ true) e ((and_parts (meets_limits q) (list_all meets_limits qs) h).0)
each_meets (q ∷ qs) r h (inr i) = each_meets qs r ((and_parts (meets_limits q) (list_all meets_limits qs) h).1) i

limits : (rules : List Rule) (r : Rule) → list_all meets_limits rules ≡ true → Contains rules r → Limits r
limits rules r h e = record { count = both.0; start = both.1 }
  where
    all : meets_limits r ≡ true
    all = each_meets rules r h (in_from r rules e)

    both : (is_count r.count ≡ true) × (is_small r.start ≡ true)
    both = third_and_eighth (list_all is_log_word r.words) (is_criterion r.criterion) (is_count r.count) (or_none is_small r.maxage) (or_none is_small r.minage) (or_none is_size r.minsize) (or_none is_size r.maxsize) (is_small r.start) _ all

-- the count and the first number are within their limits
pub given_limits : (rules : Rules) (looks : List Entry) (x : Target) → IsGiven rules.sets looks x → IsCount x.count × (x.naming.start ≤ 999999)
given_limits rules looks x one = (subst IsCount one.count_is (count_small one.rule.count l.count), subst (λ (m : Naming). m.start ≤ 999999) one.naming_is (small one.rule.start l.start))
  where
    l : Limits one.rule
    l = limits rules.sets one.rule rules.limits one.among

    small : (k : ℕ) → is_small k ≡ true → k ≤ 999999
    small k h = grind (arith, nat_tests)

    count_small : (d : Count) → is_count d ≡ true → IsCount d
    count_small (count.Keep k) h = small k h
    count_small count.Always h = tt

-- the path where the log waits that is set aside is no member's
pub beside_apart : (rules : Rules) (looks : List Entry) (x : Target) → IsGiven rules.sets looks x → path_fault x.log ≡ None → IsNoMember x.naming (aside_path x.log)
beside_apart rules looks x one path member = go (subst (λ (n : Naming). IsMember n (aside_path x.log)) (sym one.naming_is) member)
  where
    good : meets_limits one.rule ≡ true
    good = each_meets rules.sets one.rule rules.limits (in_from one.rule rules.sets one.among)

    go : IsMember (naming_of one.rule x.log) (aside_path x.log) → ⊥
    go (inl (none, (place, at))) = no_numbered one.rule x.log place path good at
    go (inr (seconds, serial, at)) = no_dated one.rule x.log seconds serial path good at
