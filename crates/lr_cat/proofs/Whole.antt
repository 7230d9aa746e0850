-- A call that no fault of its own ended put out the log's whole history.
use Rattle.std.proofs.Common.{◌≡◌, inl, inr, ℕ, ℤ, Bool, List, [], ◌∷◌, ◌++◌, map, reverse, Option, Some, None, is_some, Result, Ok, refl, sym, ap, ◌∙◌, subst, append_assoc}
use Rattle.std.proofs.lemmas.List.{reverse-reverse}
use Rattle.std.proofs.lemmas.Option.{same_Some}
use Rattle.std.specs.Prelude.{option_to_list}
use Rattle.lr_rules.specs.declared.path.Path.{Path}
use Rattle.lr_rules.specs.declared.clock.Clock.{Clock}
use Rattle.lr_rules.specs.declared.rules.Rules.{Rules}
use Rattle.lr_rules.specs.declared.rule.Naming.{Naming}
use Rattle.lr_rules.specs.declared.fault.Fault.{Fault}
use Rattle.lr_rules.specs.Names.{aside_path, naming_of}
use Rattle.lr_host.specs.declared.entry.Entry.{Entry}
use Rattle.lr_host.specs.declared.entry.Entry.TheVariants.{Starts, Ends}
use Rattle.lr_host.specs.Lists.{IsIn}
use Rattle.lr_host.specs.Opening.{IsJournal}
use Rattle.lr_host.specs.Quiet.{ChangeNothing}
use Rattle.lr_host.specs.Told.{Made, Then}
use Rattle.lr_host.specs.World.{Past, ◌▸◌}
use Rattle.lr_host.proofs.Lists.{in_map, in_unmap, in_front, in_back, in_reverse}
use Rattle.lr_host.proofs.Made.{made_journal}
use Rattle.lr_host.proofs.Quiet.{IsAny, since_any, still_both, still_reverse}
use Rattle.lr_laws.proofs.Lists.{At, at, made_prefix}
use Rattle.lr_conf.specs.Meaning.{Meaning}
use Rattle.lr_family.specs.declared.stand.Member.{Member}
use Rattle.lr_laws_family.specs.Members.{IsFamily}
use Rattle.lr_looks.specs.Inside.{Inside}
use Rattle.lr_laws_looks.specs.True.{HasMember}
use Rattle.lr_cat.specs.declared.outcome.CatOutcome.{CatOutcome}
use Rattle.lr_cat.specs.declared.words.Wanted.{Wanted}
use Rattle.lr_cat.specs.Came.{Came, own_of, LogEnds, held, short, called, RulesEnd, no_log, lacks, given, ConfsEnd, not_read, broke_off, read, CatEnds, no_clock, no_memory, behind_clock, CatShows, bad_words, no_words, wants}
use Rattle.lr_cat.specs.Cats.{Cats, no_directory, began}
use Rattle.lr_cat.specs.History.{HasTextOf, IsHistory}
use Rattle.lr_cat.specs.Saw.{Finds, FamilySaw, ShowsFamilySaw, Works, read_all, aside_of, files_behind, files_of}
use Rattle.lr_cat.specs.Texts.{FileText, text_paths, ReadsWhole, ReadsTexts, ReadsAllOf}
use Rattle.lr_cat.specs.Words.{wanted}
use Rattle.lr_cat.proofs.Lasting.{text_of}
use Rattle.lr_cat.proofs.Sighted.{saw_sights, all_sights, sights_both, sights_still}
use Rattle.lr_cat.proofs.Stood.{file_stood, member_stood}

pub some_none : {A : Type 0} (x : A) → Some x ≡ None → ⊥
some_none x e = absurd (cc)

-- ---- the entries between its begin and its end

pub record IsWork (w : Wanted) (c : Came) (ts : List Entry) : Type 0 where
  pub front : List Entry
  pub between : List Entry
  pub is : ts ≡ front ++ (Starts w.state c.clock.now c.rules ∷ (between ++ Ends ∷ []))
  pub family : IsFamily w.log c.naming
  pub saw : FamilySaw
  pub ended : c.how ≡ Ok (is_some saw.aside)
  pub works : Then (ShowsFamilySaw c.naming w.log saw) (ReadsAllOf (files_of saw) c.texts) between

module _ (w : Wanted) (clock : Clock) (m : Meaning) (rules : Rules) (n : Naming) (how : Result Bool Fault) (texts : List FileText) where
  abbrev it : Came
  it = record { clock = clock; meaning = m; rules = rules; naming = n; how = how; texts = texts }

  inside_work : (ts us : List Entry) (waits : Bool) → how ≡ Ok waits → IsFamily w.log n → (i : Inside w.state clock rules (Works n w.log how texts) us) → Works n w.log how texts i.between → IsWork w it (ts ++ us)
  inside_work ts us waits none family i (Works.not_seen f is e h) = absurd (some_none _ (ap own_of (sym is ∙ none)))
  inside_work ts us waits none family i (Works.broke_off saw f is h) = absurd (some_none _ (ap own_of (sym is ∙ none)))
  inside_work ts us waits none family i (read_all saw is h) = record {
    front = ts ++ i.before;
    between = i.between;
    is = ap (λ (vs : List Entry). ts ++ vs) i.entries ∙ sym (append_assoc ts i.before (Starts w.state clock.now rules ∷ (i.between ++ Ends ∷ [])));
    family = family;
    saw = saw;
    ended = is;
    works = h;
  }

  cats_work : (ts us : List Entry) (waits : Bool) → how ≡ Ok waits → IsFamily w.log n → Cats w clock rules n how texts us → IsWork w it (ts ++ us)
  cats_work ts us waits none family (no_directory is e h) = absurd (some_none _ (ap own_of (sym is ∙ none)))
  cats_work ts us waits none family (Cats.not_seen is e h) = absurd (some_none _ (ap own_of (sym is ∙ none)))
  cats_work ts us waits none family (Cats.not_begun is e h) = absurd (some_none _ (ap own_of (sym is ∙ none)))
  cats_work ts us waits none family (began i) = inside_work ts us waits none family i i.within

module _ (w : Wanted) (c : Came) (waits : Bool) (none : c.how ≡ Ok waits) where
  log_work : (clock : Clock) (m : Meaning) (rules : Rules) (n : Naming) (out : CatOutcome) (ts us : List Entry) → IsFamily w.log n → LogEnds w clock m rules n out (Some c) us → IsWork w c (ts ++ us)
  log_work clock m rules n out ts us family (held is e h) = absurd (some_none c e)
  log_work clock m rules n out ts us family (short is e h) = absurd (some_none c e)
  log_work clock m rules n out ts us family (called how texts is e h) = subst (λ (d : Came). IsWork w d (ts ++ us)) (sym same) (cats_work w clock m rules n how texts ts us waits (ap (λ (d : Came). d.how) (sym same) ∙ none) family h)
    where
      same : c ≡ record { clock = clock; meaning = m; rules = rules; naming = n; how = how; texts = texts }
      same = same_Some c (record { clock = clock; meaning = m; rules = rules; naming = n; how = how; texts = texts }) e

  rules_work : (clock : Clock) (m : Meaning) (rules : Rules) (out : CatOutcome) (ts us : List Entry) → RulesEnd w clock m rules out (Some c) us → IsWork w c (ts ++ us)
  rules_work clock m rules out ts us (no_log is e h k) = absurd (some_none c e)
  rules_work clock m rules out ts us (lacks is e h) = absurd (some_none c e)
  rules_work clock m rules out ts us (given rule first family h) = log_work clock m rules (naming_of rule w.log) out ts us family h

  confs_work : (clock : Clock) (out : CatOutcome) (ts : List Entry) → ConfsEnd w clock out (Some c) ts → IsWork w c ts
  confs_work clock out ts (not_read is e h) = absurd (some_none c e)
  confs_work clock out ts (ConfsEnd.broke_off m is e some h) = absurd (some_none c e)
  confs_work clock out ts (read m rules same calls h) = subst (IsWork w c) (sym h.joined) (rules_work clock m rules out h.front h.back h.second)

  ends_work : (seconds : ℤ) (out : CatOutcome) (ts : List Entry) → CatEnds w seconds out (Some c) ts → IsWork w c ts
  ends_work seconds out ts (no_clock is e h k) = absurd (some_none c e)
  ends_work seconds out ts (no_memory is e h) = absurd (some_none c e)
  ends_work seconds out ts (behind_clock clock range is h) = confs_work clock out ts h

  pub shows_work : (here : Path) (words : List (List ℕ)) (seconds : ℤ) (out : CatOutcome) (ts : List Entry) → wanted here words ≡ Some w → CatShows here words seconds out (Some c) ts → IsWork w c ts
  shows_work here words seconds out ts want (bad_words is e h k) = absurd (some_none c e)
  shows_work here words seconds out ts want (no_words is e k) = absurd (some_none c e)
  shows_work here words seconds out ts want (wants v is h) = ends_work seconds out ts (subst (λ (u : Wanted). CatEnds u seconds out (Some c) ts) same h)
    where
      same : v ≡ w
      same = same_Some v w (sym is ∙ want)

-- ---- the files and their texts

-- one of the texts, with its reads
one_text : (texts : List FileText) (ts : List Entry) → ReadsTexts texts ts → (t : FileText) → IsIn t texts → (us : List Entry) × ReadsWhole t us × ((e : Entry) → IsIn e us → IsIn e ts)
one_text [] ts r t i = absurd i
one_text (u ∷ texts) ts r t (inl is) = (r.front, subst (λ (v : FileText). ReadsWhole v r.front) is r.first, λ e j. subst (IsIn e) (sym r.joined) (in_front e r.front r.back j))
one_text (u ∷ texts) ts r t (inr i) = let s = one_text texts r.back r.second t i in (s.0, s.1, λ e j. subst (IsIn e) (sym r.joined) (in_back e r.front r.back (s.2 e j)))

has_text : (files : List Path) (texts : List FileText) (x : Path) → files ≡ text_paths texts → IsIn x files → HasTextOf texts x
has_text files texts x is i = in_unmap (λ (t : FileText). t.path) x texts (subst (IsIn x) is i)

-- the log, what was set aside, and each member, is one of the files
in_listed : (x : Path) (found : Option Path) → found ≡ Some x → IsIn x (option_to_list found)
in_listed x found is = subst (λ (o : Option Path). IsIn x (option_to_list o)) (sym is) (inl refl)

module _ (saw : FamilySaw) where
  abbrev members : List Path
  members = map (λ (m : Member). m.path) saw.stand.members

  log_file : (x : Path) → saw.log ≡ Some x → IsIn x (files_of saw)
  log_file x is = in_reverse x (files_behind saw.log saw.aside saw.stand.members) (in_front x (option_to_list saw.log) (option_to_list saw.aside ++ members) (in_listed x saw.log is))

  aside_file : (x : Path) → saw.aside ≡ Some x → IsIn x (files_of saw)
  aside_file x is = in_reverse x (files_behind saw.log saw.aside saw.stand.members) (in_back x (option_to_list saw.log) (option_to_list saw.aside ++ members) (in_front x (option_to_list saw.aside) members (in_listed x saw.aside is)))

  member_file : (x : Path) → HasMember saw.stand.members x → IsIn x (files_of saw)
  member_file x h = in_reverse x (files_behind saw.log saw.aside saw.stand.members) (in_back x (option_to_list saw.log) (option_to_list saw.aside ++ members) (in_back x (option_to_list saw.aside) members among))
    where
      among : IsIn x members
      among = subst (λ (y : Path). IsIn y members) h.2 (in_map (λ (m : Member). m.path) h.0 saw.stand.members h.1)

module _ (w : Wanted) (c : Came) (p q : Past) (es : List Entry) (journal : IsJournal p) (m : Made p es q) (still : ChangeNothing es) (k : IsWork w c (reverse es)) where
  abbrev begin : Entry
  begin = Starts w.state c.clock.now c.rules

  abbrev behind : List Entry
  behind = k.between ++ Ends ∷ []

  in_order : Made p (reverse (k.front ++ (begin ∷ behind))) q
  in_order = subst (λ (xs : List Entry). Made p xs q) (sym (reverse-reverse es) ∙ ap reverse k.is) m

  a : At IsAny p q k.front begin behind
  a = at IsAny p q k.front begin behind tt in_order (since_any p q (reverse (k.front ++ (begin ∷ behind))) in_order)

  later : IsJournal (a.mid ▸ begin)
  later = (made_journal p a.mid (reverse k.front) a.first journal, a.fits)

  quiet : ChangeNothing (reverse behind)
  quiet = still_reverse behind (still_both k.between (Ends ∷ [])
      (sights_still k.between (sights_both k.between (λ us s. saw_sights c.naming w.log k.saw us s) (λ us r. all_sights (files_of k.saw) c.texts us r) k.works)) refl)

  -- the entries of the looks, and those of the reads
  looked : (e : Entry) → IsIn e k.works.front → IsIn e (reverse (reverse behind))
  looked e i = subst (IsIn e) (sym (reverse-reverse behind)) (in_front e k.between (Ends ∷ []) (subst (IsIn e) (sym k.works.joined) (in_front e k.works.front k.works.back i)))

  in_stand : (e : Entry) → IsIn e k.works.first.front → IsIn e (reverse (reverse behind))
  in_stand e i = looked e (subst (IsIn e) (sym k.works.first.joined) (in_front e k.works.first.front k.works.first.back i))

  in_beside : (e : Entry) → IsIn e k.works.first.back → IsIn e (reverse (reverse behind))
  in_beside e i = looked e (subst (IsIn e) (sym k.works.first.joined) (in_back e k.works.first.front k.works.first.back i))

  in_aside : (e : Entry) → IsIn e k.works.first.second.front → IsIn e (reverse (reverse behind))
  in_aside e i = in_beside e (subst (IsIn e) (sym k.works.first.second.joined) (in_front e k.works.first.second.front k.works.first.second.back i))

  in_log : (e : Entry) → IsIn e k.works.first.second.back → IsIn e (reverse (reverse behind))
  in_log e i = in_beside e (subst (IsIn e) (sym k.works.first.second.joined) (in_back e k.works.first.second.front k.works.first.second.back i))

  in_reads : (e : Entry) → IsIn e k.works.back → IsIn e (reverse es)
  in_reads e i = subst (IsIn e) (sym k.is) (in_back e k.front (begin ∷ behind) (inr (in_front e k.between (Ends ∷ []) (subst (IsIn e) (sym k.works.joined) (in_back e k.works.front k.works.back i)))))

  pub whole_history : IsHistory w c p q
  whole_history = record {
    at = a.mid;
    since = made_prefix p a.mid (reverse k.front) a.first;
    begun = made_prefix (a.mid ▸ begin) q (reverse behind) a.second;
    members = λ x member file. has_text (files_of k.saw) c.texts x k.works.second.files_are (member_file k.saw x
        (member_stood (a.mid ▸ begin) q (reverse behind) later a.second quiet w.log c.naming k.family k.saw.stand k.works.first.front k.works.first.first in_stand x member file));
    aside = λ is file. let stood = file_stood (a.mid ▸ begin) q (reverse behind) later a.second quiet (aside_path w.log) k.saw.aside k.works.first.second.front
        (subst (λ (b : Bool). Finds (aside_of b w.log) k.saw.aside k.works.first.second.front) is k.works.first.second.first) in_aside file in (
          has_text (files_of k.saw) c.texts (aside_path w.log) k.works.second.files_are (aside_file k.saw (aside_path w.log) stood),
          k.ended ∙ ap (λ (o : Option Path). Ok (is_some o)) stood,
        );
    log = λ file. has_text (files_of k.saw) c.texts w.log k.works.second.files_are (log_file k.saw w.log
        (file_stood (a.mid ▸ begin) q (reverse behind) later a.second quiet w.log k.saw.log k.works.first.second.back k.works.first.second.second in_log file));
    texts = λ t i. let r = one_text c.texts k.works.back k.works.second.reads t i in
        text_of p q es journal m still t r.0 r.1 (λ e j. in_reads e (r.2 e j));
  }
