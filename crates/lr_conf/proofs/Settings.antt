-- One more setting.
use Rattle.std.proofs.Common.{◌≡◌, ℕ, Bool, true, false, cond, ◌||◌, List, [], ◌∷◌, ◌++◌, Option, Some, None, refl, ap, sym, ◌∙◌}
use Rattle.std.specs.List.{filter_map, list_any, cons_option}
use Rattle.std.proofs.lemmas.List.Elements.{filter_map-append}
use Rattle.std.specs.Prelude.{unwrap_or}
use Rattle.lr_rules.specs.declared.fault.Phase.TheVariants as phase
use Rattle.lr_rules.specs.declared.rule.Back.{Back}
use Rattle.lr_rules.specs.declared.rule.Back.TheVariants as back
use Rattle.lr_rules.specs.declared.rule.Criterion.{Criterion}
use Rattle.lr_rules.specs.declared.rule.Count.{Count}
use Rattle.lr_rules.specs.declared.rule.Make.{Make}
use Rattle.lr_rules.specs.declared.rule.Format.{Format}
use Rattle.lr_rules.specs.declared.rule.Piece.{Piece}
use Rattle.lr_rules.specs.declared.rule.Rule.{Rule}
use Rattle.lr_rules.specs.declared.rule.Scripts.{Scripts}
use Rattle.lr_rules.specs.declared.rule.Criterion.TheVariants as criterion
use Rattle.lr_rules.specs.declared.rule.Count.TheVariants as count
use Rattle.lr_rules.specs.declared.rule.Make.TheVariants as make
use Rattle.lr_rules.specs.declared.rule.Way.{Way}
use Rattle.lr_rules.specs.declared.rule.Way.TheVariants as way
use Rattle.lr_conf.specs.declared.fields.Fields.{Fields}
use Rattle.lr_forms.specs.declared.set.Set.{Set}
use Rattle.lr_forms.specs.declared.set.Set.TheVariants as set
use Rattle.lr_conf.specs.Fields.{fields_of, last_or, last_set, criterion_set, count_set, maxage_set, minage_set, minsize_set, maxsize_set, ifempty_set, missingok_set, ignore_set, start_set, extension_set, addextension_set, olddir_set, createolddir_set, create_set, mail_set, mailfirst_set, shared_set, first_set, pre_set, post_set, last_script_set, preremove_set, dated_set, pieces_set, back_set, serial_set, names_way, unsets_way, last_way}
use Rattle.lr_conf.specs.Setting.{with_set, without}

last-push : {A : Type 0} (d : A) (xs : List A) (o : Option A) → last_or d (xs ++ cons_option o []) ≡ unwrap_or o (last_or d xs)
last-push d [] None = refl
last-push d [] (Some v) = refl
last-push d (x ∷ xs) o = last-push x xs o

last_set-push : {A : Type 0} (sets : Set → Option A) (d : A) (vs : List Set) (v : Set) → last_set sets d (vs ++ v ∷ []) ≡ unwrap_or (sets v) (last_set sets d vs)
last_set-push sets d vs v = ap (last_or d) (filter_map-append sets vs (v ∷ [])) ∙ last-push d (filter_map sets vs) (sets v)

-- ---- the way

abbrev way_behind : Set → Way → Way
way_behind (set.Way w) x = w
way_behind (set.NotWay n) x = without n x
way_behind v x = x

any-push : {A : Type 0} (p : A → Bool) (xs : List A) (x : A) → list_any p (xs ++ x ∷ []) ≡ (list_any p xs || p x)
any-push p [] x = by (p x)
  where
    by : (b : Bool) → (b || false) ≡ (false || b)
    by true = refl
    by false = refl
any-push p (y ∷ ys) x = by (p y) (any-push p ys x)
  where
    by : (b : Bool) → list_any p (ys ++ x ∷ []) ≡ (list_any p ys || p x) → (b || list_any p (ys ++ x ∷ [])) ≡ ((b || list_any p ys) || p x)
    by true h = refl
    by false h = h

still_rename : (v : Set) → names_way v ≡ false → way_behind v way.Rename ≡ way.Rename
still_rename (set.Way w) h = absurd (cc)
still_rename (set.NotWay way.Rename) h = refl
still_rename (set.NotWay way.Copy) h = refl
still_rename (set.NotWay way.CopyTruncate) h = refl
still_rename (set.NotWay way.RenameCopy) h = refl
still_rename (set.Criterion c) h = refl
still_rename (set.Count n) h = refl
still_rename (set.IfEmpty b) h = refl
still_rename (set.MissingOk b) h = refl
still_rename (set.Olddir dir) h = refl
still_rename (set.CreateOlddir m) h = refl
still_rename (set.Create m) h = refl
still_rename (set.Mail address) h = refl
still_rename (set.MailFirst b) h = refl
still_rename (set.Shared b) h = refl
still_rename (set.Dated b) h = refl
still_rename (set.MaxAge n) h = refl
still_rename (set.MinAge n) h = refl
still_rename (set.MinSize n) h = refl
still_rename (set.MaxSize n) h = refl
still_rename set.IgnoreDuplicates h = refl
still_rename (set.Start n) h = refl
still_rename (set.Extension t) h = refl
still_rename (set.AddExtension t) h = refl
still_rename (set.DateFormat ps) h = refl
still_rename (set.Back b) h = refl
still_rename (set.Serial b) h = refl
still_rename (set.Script phase t) h = refl

undone : (w : Way) (v : Set) → names_way v ≡ false → cond (unsets_way w v) way.Rename w ≡ way_behind v w
undone w (set.Way x) h = absurd (cc)
undone way.Rename (set.NotWay way.Rename) h = refl
undone way.Rename (set.NotWay way.Copy) h = refl
undone way.Rename (set.NotWay way.CopyTruncate) h = refl
undone way.Rename (set.NotWay way.RenameCopy) h = refl
undone way.Copy (set.NotWay way.Rename) h = refl
undone way.Copy (set.NotWay way.Copy) h = refl
undone way.Copy (set.NotWay way.CopyTruncate) h = refl
undone way.Copy (set.NotWay way.RenameCopy) h = refl
undone way.CopyTruncate (set.NotWay way.Rename) h = refl
undone way.CopyTruncate (set.NotWay way.Copy) h = refl
undone way.CopyTruncate (set.NotWay way.CopyTruncate) h = refl
undone way.CopyTruncate (set.NotWay way.RenameCopy) h = refl
undone way.RenameCopy (set.NotWay way.Rename) h = refl
undone way.RenameCopy (set.NotWay way.Copy) h = refl
undone way.RenameCopy (set.NotWay way.CopyTruncate) h = refl
undone way.RenameCopy (set.NotWay way.RenameCopy) h = refl
undone way.Rename v h = still_rename v h
undone way.Copy v h = plain v h
  where
    plain : (v : Set) → names_way v ≡ false → cond (unsets_way way.Copy v) way.Rename way.Copy ≡ way_behind v way.Copy
    plain (set.Way w) h = absurd (cc)
    plain (set.NotWay way.Rename) h = refl
    plain (set.NotWay way.Copy) h = refl
    plain (set.NotWay way.CopyTruncate) h = refl
    plain (set.NotWay way.RenameCopy) h = refl
    plain v h = refl
undone way.CopyTruncate v h = plain v h
  where
    plain : (v : Set) → names_way v ≡ false → cond (unsets_way way.CopyTruncate v) way.Rename way.CopyTruncate ≡ way_behind v way.CopyTruncate
    plain (set.Way w) h = absurd (cc)
    plain (set.NotWay way.Rename) h = refl
    plain (set.NotWay way.Copy) h = refl
    plain (set.NotWay way.CopyTruncate) h = refl
    plain (set.NotWay way.RenameCopy) h = refl
    plain v h = refl
undone way.RenameCopy v h = plain v h
  where
    plain : (v : Set) → names_way v ≡ false → cond (unsets_way way.RenameCopy v) way.Rename way.RenameCopy ≡ way_behind v way.RenameCopy
    plain (set.Way w) h = absurd (cc)
    plain (set.NotWay way.Rename) h = refl
    plain (set.NotWay way.Copy) h = refl
    plain (set.NotWay way.CopyTruncate) h = refl
    plain (set.NotWay way.RenameCopy) h = refl
    plain v h = refl

-- the way of a setting and what stands behind it
abbrev by_more : Way → Bool → Way → Bool → Way
by_more w named rest gone = cond named rest (cond gone way.Rename w)

only_way : (v : Set) → names_way v ≡ true → (w : Way) × (v ≡ set.Way w)
only_way (set.Way w) h = (w, refl)
only_way (set.NotWay n) h = absurd (cc)
only_way (set.Criterion c) h = absurd (cc)
only_way (set.Count n) h = absurd (cc)
only_way (set.IfEmpty b) h = absurd (cc)
only_way (set.MissingOk b) h = absurd (cc)
only_way (set.Olddir dir) h = absurd (cc)
only_way (set.CreateOlddir m) h = absurd (cc)
only_way (set.Create m) h = absurd (cc)
only_way (set.Mail address) h = absurd (cc)
only_way (set.MailFirst b) h = absurd (cc)
only_way (set.Shared b) h = absurd (cc)
only_way (set.Dated b) h = absurd (cc)
only_way (set.MaxAge n) h = absurd (cc)
only_way (set.MinAge n) h = absurd (cc)
only_way (set.MinSize n) h = absurd (cc)
only_way (set.MaxSize n) h = absurd (cc)
only_way set.IgnoreDuplicates h = absurd (cc)
only_way (set.Start n) h = absurd (cc)
only_way (set.Extension t) h = absurd (cc)
only_way (set.AddExtension t) h = absurd (cc)
only_way (set.DateFormat ps) h = absurd (cc)
only_way (set.Back b) h = absurd (cc)
only_way (set.Serial b) h = absurd (cc)
only_way (set.Script phase t) h = absurd (cc)

-- behind a setting that names a way
way-step : (w : Way) (us : List Set) (v : Set) → last_way (us ++ v ∷ []) ≡ way_behind v (last_way us) → last_way (set.Way w ∷ us ++ v ∷ []) ≡ way_behind v (last_way (set.Way w ∷ us))
way-step w us v rest =
    ap (λ b. by_more w b (last_way (us ++ v ∷ [])) (list_any (unsets_way w) (us ++ v ∷ []))) (any-push names_way us v)
    ∙ ap (λ b. by_more w (list_any names_way us || names_way v) (last_way (us ++ v ∷ [])) b) (any-push (unsets_way w) us v)
    ∙ ap (λ r. by_more w (list_any names_way us || names_way v) r (list_any (unsets_way w) us || unsets_way w v)) rest
    ∙ by_tests (list_any names_way us) (names_way v) refl (list_any (unsets_way w) us)
  where
    as_way : (w : Way) (x y : Way) → way_behind (set.Way w) x ≡ way_behind (set.Way w) y
    as_way w x y = refl

    same : (v : Set) → names_way v ≡ true → (x y : Way) → way_behind v x ≡ way_behind v y
    same v h x y = let o = only_way v h in ap (λ s. way_behind s x) o.1 ∙ sym (ap (λ s. way_behind s y) o.1)

    by_tests : (n m : Bool) → names_way v ≡ m → (g : Bool) → by_more w (n || m) (way_behind v (last_way us)) (g || unsets_way w v) ≡ way_behind v (by_more w n (last_way us) g)
    by_tests true m is g = refl
    by_tests false true is g = same v is (last_way us) (cond g way.Rename w)
    by_tests false false is true = sym (still_rename v is)
    by_tests false false is false = undone w v is

way-push : (vs : List Set) (v : Set) → last_way (vs ++ v ∷ []) ≡ way_behind v (last_way vs)
way-push [] (set.Way w) = refl
way-push [] (set.NotWay way.Rename) = refl
way-push [] (set.NotWay way.Copy) = refl
way-push [] (set.NotWay way.CopyTruncate) = refl
way-push [] (set.NotWay way.RenameCopy) = refl
way-push [] v = refl
way-push (set.Way w ∷ us) v = way-step w us v (way-push us v)
way-push (u ∷ us) v = way-push us v

-- ---- all fields

abbrev scripts_behind : Set → Scripts → Scripts
scripts_behind v s = record {
  first = unwrap_or (first_set v) s.first;
  pre = unwrap_or (pre_set v) s.pre;
  post = unwrap_or (post_set v) s.post;
  last = unwrap_or (last_script_set v) s.last;
  preremove = unwrap_or (preremove_set v) s.preremove;
}

abbrev rule_behind : Set → Rule → Rule
rule_behind v r = record {
  file = r.file;
  line = r.line;
  words = r.words;
  criterion = unwrap_or (criterion_set v) r.criterion;
  count = unwrap_or (count_set v) r.count;
  maxage = unwrap_or (maxage_set v) r.maxage;
  minage = unwrap_or (minage_set v) r.minage;
  minsize = unwrap_or (minsize_set v) r.minsize;
  maxsize = unwrap_or (maxsize_set v) r.maxsize;
  ifempty = unwrap_or (ifempty_set v) r.ifempty;
  missingok = unwrap_or (missingok_set v) r.missingok;
  ignore_duplicates = unwrap_or (ignore_set v) r.ignore_duplicates;
  start = unwrap_or (start_set v) r.start;
  extension = unwrap_or (extension_set v) r.extension;
  addextension = unwrap_or (addextension_set v) r.addextension;
  olddir = unwrap_or (olddir_set v) r.olddir;
  createolddir = unwrap_or (createolddir_set v) r.createolddir;
  way = way_behind v r.way;
  create = unwrap_or (create_set v) r.create;
  mail = unwrap_or (mail_set v) r.mail;
  mailfirst = unwrap_or (mailfirst_set v) r.mailfirst;
  shared = unwrap_or (shared_set v) r.shared;
  scripts = scripts_behind v r.scripts;
  dated = r.dated;
}

abbrev fields_behind : Set → Fields → Fields
fields_behind v f = record {
  rule = rule_behind v f.rule;
  dated = unwrap_or (dated_set v) f.dated;
  pieces = unwrap_or (pieces_set v) f.pieces;
  back = unwrap_or (back_set v) f.back;
  serial = unwrap_or (serial_set v) f.serial;
}

behind_is : (v : Set) (f : Fields) → fields_behind v f ≡ with_set f v
behind_is (set.Criterion c) f = refl
behind_is (set.Count n) f = refl
behind_is (set.MaxAge n) f = refl
behind_is (set.MinAge n) f = refl
behind_is (set.MinSize n) f = refl
behind_is (set.MaxSize n) f = refl
behind_is (set.IfEmpty b) f = refl
behind_is (set.MissingOk b) f = refl
behind_is set.IgnoreDuplicates f = refl
behind_is (set.Start n) f = refl
behind_is (set.Extension t) f = refl
behind_is (set.AddExtension t) f = refl
behind_is (set.Olddir dir) f = refl
behind_is (set.CreateOlddir m) f = refl
behind_is (set.Way w) f = refl
behind_is (set.NotWay n) f = refl
behind_is (set.Create m) f = refl
behind_is (set.Mail address) f = refl
behind_is (set.MailFirst b) f = refl
behind_is (set.Shared b) f = refl
behind_is (set.Script phase.First t) f = refl
behind_is (set.Script phase.Pre t) f = refl
behind_is (set.Script phase.Post t) f = refl
behind_is (set.Script phase.Last t) f = refl
behind_is (set.Script phase.Preremove t) f = refl
behind_is (set.Script phase.Mail t) f = refl
behind_is (set.Dated b) f = refl
behind_is (set.DateFormat ps) f = refl
behind_is (set.Back b) f = refl
behind_is (set.Serial b) f = refl

-- records with the same fields are the same
abbrev scripts_made : Option (List ℕ) → Option (List ℕ) → Option (List ℕ) → Option (List ℕ) → Option (List ℕ) → Scripts
scripts_made x0 x1 x2 x3 x4 = record { first = x0; pre = x1; post = x2; last = x3; preremove = x4 }

same_scripts : {x0 y0 : Option (List ℕ)} {x1 y1 : Option (List ℕ)} {x2 y2 : Option (List ℕ)} {x3 y3 : Option (List ℕ)} {x4 y4 : Option (List ℕ)} → x0 ≡ y0 → x1 ≡ y1 → x2 ≡ y2 → x3 ≡ y3 → x4 ≡ y4
    → scripts_made x0 x1 x2 x3 x4 ≡ scripts_made y0 y1 y2 y3 y4
same_scripts e0 e1 e2 e3 e4 = cc (e0, e1, e2, e3, e4)

abbrev rule_made : List ℕ → ℕ → List (List ℕ) → Criterion → Count → Option ℕ → Option ℕ → Option ℕ → Option ℕ → Bool → Bool → Bool → ℕ → Option (List ℕ) → Option (List ℕ) → Option (List ℕ) → Make → Way → Make → Option (List ℕ) → Bool → Bool → Scripts → Option Format → Rule
rule_made x0 x1 x2 x3 x4 x5 x6 x7 x8 x9 x10 x11 x12 x13 x14 x15 x16 x17 x18 x19 x20 x21 x22 x23 = record { file = x0; line = x1; words = x2; criterion = x3; count = x4; maxage = x5; minage = x6; minsize = x7; maxsize = x8; ifempty = x9; missingok = x10; ignore_duplicates = x11; start = x12; extension = x13; addextension = x14; olddir = x15; createolddir = x16; way = x17; create = x18; mail = x19; mailfirst = x20; shared = x21; scripts = x22; dated = x23 }

same_rule : {x0 y0 : List ℕ} {x1 y1 : ℕ} {x2 y2 : List (List ℕ)} {x3 y3 : Criterion} {x4 y4 : Count} {x5 y5 : Option ℕ} {x6 y6 : Option ℕ} {x7 y7 : Option ℕ} {x8 y8 : Option ℕ} {x9 y9 : Bool} {x10 y10 : Bool} {x11 y11 : Bool} {x12 y12 : ℕ} {x13 y13 : Option (List ℕ)} {x14 y14 : Option (List ℕ)} {x15 y15 : Option (List ℕ)} {x16 y16 : Make} {x17 y17 : Way} {x18 y18 : Make} {x19 y19 : Option (List ℕ)} {x20 y20 : Bool} {x21 y21 : Bool} {x22 y22 : Scripts} {x23 y23 : Option Format} → x0 ≡ y0 → x1 ≡ y1 → x2 ≡ y2 → x3 ≡ y3 → x4 ≡ y4 → x5 ≡ y5 → x6 ≡ y6 → x7 ≡ y7 → x8 ≡ y8 → x9 ≡ y9 → x10 ≡ y10 → x11 ≡ y11 → x12 ≡ y12 → x13 ≡ y13 → x14 ≡ y14 → x15 ≡ y15 → x16 ≡ y16 → x17 ≡ y17 → x18 ≡ y18 → x19 ≡ y19 → x20 ≡ y20 → x21 ≡ y21 → x22 ≡ y22 → x23 ≡ y23
    → rule_made x0 x1 x2 x3 x4 x5 x6 x7 x8 x9 x10 x11 x12 x13 x14 x15 x16 x17 x18 x19 x20 x21 x22 x23 ≡ rule_made y0 y1 y2 y3 y4 y5 y6 y7 y8 y9 y10 y11 y12 y13 y14 y15 y16 y17 y18 y19 y20 y21 y22 y23
same_rule e0 e1 e2 e3 e4 e5 e6 e7 e8 e9 e10 e11 e12 e13 e14 e15 e16 e17 e18 e19 e20 e21 e22 e23 = cc (e0, e1, e2, e3, e4, e5, e6, e7, e8, e9, e10, e11, e12, e13, e14, e15, e16, e17, e18, e19, e20, e21, e22, e23)

abbrev fields_made : Rule → Bool → Option (List Piece) → Back → Bool → Fields
fields_made x0 x1 x2 x3 x4 = record { rule = x0; dated = x1; pieces = x2; back = x3; serial = x4 }

same_fields : {x0 y0 : Rule} {x1 y1 : Bool} {x2 y2 : Option (List Piece)} {x3 y3 : Back} {x4 y4 : Bool} → x0 ≡ y0 → x1 ≡ y1 → x2 ≡ y2 → x3 ≡ y3 → x4 ≡ y4
    → fields_made x0 x1 x2 x3 x4 ≡ fields_made y0 y1 y2 y3 y4
same_fields e0 e1 e2 e3 e4 = cc (e0, e1, e2, e3, e4)

scripts-push : (vs : List Set) (v : Set) → (fields_of (vs ++ v ∷ [])).rule.scripts ≡ scripts_behind v (fields_of vs).rule.scripts
scripts-push vs v =
    let e1 = last_set-push first_set None vs v in
    let e2 = last_set-push pre_set None vs v in
    let e3 = last_set-push post_set None vs v in
    let e4 = last_set-push last_script_set None vs v in
    let e5 = last_set-push preremove_set None vs v in
    same_scripts e1 e2 e3 e4 e5

rule-push : (vs : List Set) (v : Set) → (fields_of (vs ++ v ∷ [])).rule ≡ rule_behind v (fields_of vs).rule
rule-push vs v =
    let e1 = last_set-push criterion_set (criterion.Size 1048576) vs v in
    let e2 = last_set-push count_set (count.Keep 0) vs v in
    let e3 = last_set-push maxage_set None vs v in
    let e4 = last_set-push minage_set None vs v in
    let e5 = last_set-push minsize_set None vs v in
    let e6 = last_set-push maxsize_set None vs v in
    let e7 = last_set-push ifempty_set true vs v in
    let e8 = last_set-push missingok_set false vs v in
    let e9 = last_set-push ignore_set false vs v in
    let e10 = last_set-push start_set 1 vs v in
    let e11 = last_set-push extension_set None vs v in
    let e12 = last_set-push addextension_set None vs v in
    let e13 = last_set-push olddir_set None vs v in
    let e14 = last_set-push createolddir_set make.No vs v in
    let e15 = way-push vs v in
    let e16 = last_set-push create_set make.No vs v in
    let e17 = last_set-push mail_set None vs v in
    let e18 = last_set-push mailfirst_set false vs v in
    let e19 = last_set-push shared_set false vs v in
    let e20 = scripts-push vs v in
    same_rule refl refl refl e1 e2 e3 e4 e5 e6 e7 e8 e9 e10 e11 e12 e13 e14 e15 e16 e17 e18 e19 e20 refl

-- what settings set with one more behind them
pub fields-push : (vs : List Set) (v : Set) → fields_of (vs ++ v ∷ []) ≡ with_set (fields_of vs) v
fields-push vs v =
    let e1 = rule-push vs v in
    let e2 = last_set-push dated_set false vs v in
    let e3 = last_set-push pieces_set None vs v in
    let e4 = last_set-push back_set back.Now vs v in
    let e5 = last_set-push serial_set false vs v in
    let all : fields_of (vs ++ v ∷ []) ≡ fields_behind v (fields_of vs) = same_fields e1 e2 e3 e4 e5 in
    all ∙ behind_is v (fields_of vs)
