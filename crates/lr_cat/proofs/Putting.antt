-- The files of a call, as they are read and put out.
use Rattle.std.proofs.Common.{◌≡◌, ◌≢◌, ◌≤◌, ◌<◌, ℕ, ◌+◌, false, List, [], ◌∷◌, ◌++◌, reverse, take, length, refl, sym, ap, ◌∙◌, subst, append_assoc, append-nil, Option, Some, None}
use Rattle.std.specs.Prelude.{filter}
use Rattle.std.proofs.lemmas.List.{length-append, length-take-le, reverse-append, map-append}
use Rattle.std.proofs.lemmas.List.Concat.{flat_map-append}
use Rattle.lr_rules.specs.declared.path.Path.{Path}
use Rattle.lr_rules.specs.declared.fault.Fault.{Fault}
use Rattle.lr_rules.specs.Path.{is_empty}
use Rattle.lr_host.specs.declared.entry.Entry.{Entry}
use Rattle.lr_host.specs.declared.entry.Entry.TheVariants.{Reads}
use Rattle.lr_host.specs.declared.journal.Journal.{Journal}
use Rattle.lr_host.specs.Reading.{IsReadOf, ReadsOf}
use Rattle.lr_host.specs.Steps.{is_naming}
use Rattle.lr_host.specs.Told.{Each, Left, Can}
use Rattle.lr_host.proofs.Each.{each_append}
use Rattle.lr_host.proofs.Left.{left_first, left_as, left_then, can_stay}
use Rattle.lr_include.proofs.Texts.{reads_first, reads_more}
use Rattle.lr_report.specs.Puts.{Took, TookPart}
use Rattle.lr_report.proofs.PutLemmas.{took_none, took_on, part_on}
use Rattle.lr_cat.specs.declared.texts.TextStop.{TextStop}
use Rattle.lr_cat.specs.declared.texts.TextStop.TheVariants as stop
use Rattle.lr_cat.specs.InternalTexts.{PassesOne, PassesSome, PassesTo}
use Rattle.lr_cat.specs.Texts.{FileText, text_paths, joined_texts, ReadsWhole, ReadsTexts, TextBreaksOff, ReadsAllOf, TookBy, PassesTexts, CanReadAll, text_fault}

-- ---- one file

pub passes_first : (path : Path) (o : Option Journal) (x : Option (List ℕ)) → PassesTo path 0 o o x x
passes_first path o x = record { bytes = []; place_is = refl; reads = reads_first path [] o refl; took = took_none x }

some_bytes : (bytes : List ℕ) → length bytes ≢ 0 → is_empty bytes ≡ false
some_bytes [] some = absurd (some refl)
some_bytes (b ∷ bs) some = refl

-- a read at this place, as one behind the bytes that were read
behind : (path : Path) (place : ℕ) (bytes piece : List ℕ) {m n : Option Journal} → length bytes ≡ place → Left (λ ts. ts ≡ Reads path place piece ∷ []) m n → Left (λ ts. ts ≡ Reads path (length bytes) piece ∷ []) m n
behind path place bytes piece {m = m} {n = n} is l = subst (λ (k : ℕ). Left (λ (ts : List Entry). ts ≡ Reads path k piece ∷ []) m n) (sym is) l

reads_on : (path : Path) (place count : ℕ) (bytes into : List ℕ) {o m n : Option Journal} → length bytes ≡ place → count ≤ length into → count ≢ 0 → Left (ReadsOf path bytes) o m
    → Left (λ ts. ts ≡ Reads path place (take count into) ∷ []) m n → Left (ReadsOf path (bytes ++ take count into)) o n
reads_on path place count bytes into is le some l r =
    reads_more path bytes (take count into) (bytes ++ take count into) (some_bytes (take count into) (λ none. some (sym (length-take-le count into le) ∙ none))) l (behind path place bytes (take count into) is r) refl

pub passes_more : (path : Path) (place count : ℕ) (into : List ℕ) {o m n : Option Journal} {x y z : Option (List ℕ)} → count ≤ length into → count ≢ 0 → PassesTo path place o m x y
    → Left (λ ts. ts ≡ Reads path place (take count into) ∷ []) m n → Took (take count into) y z → PassesTo path (place + count) o n x z
passes_more path place count into {x = x} {y = y} {z = z} le some p r t = record {
  bytes = p.bytes ++ take count into;
  place_is = length-append p.bytes (take count into) ∙ (ap (λ (k : ℕ). k + length (take count into)) p.place_is ∙ ap (λ (k : ℕ). place + k) (length-take-le count into le));
  reads = reads_on path place count p.bytes into p.place_is le some p.reads r;
  took = took_on p.bytes (take count into) x y z p.took t;
}

pub passes_end : (path : Path) (place count : ℕ) (into : List ℕ) {o m n : Option Journal} {x y : Option (List ℕ)} → count ≡ 0 → PassesTo path place o m x y
    → Left (λ ts. ts ≡ Reads path place (take count into) ∷ []) m n → PassesOne path o n x y
passes_end path place count into none p r = record {
  bytes = p.bytes;
  reads = left_then p.reads (behind path place p.bytes (take count into) p.place_is r) (λ ts us a e. record {
    front = ts;
    back = us;
    joined = refl;
    first = a;
    second = e ∙ ap (λ (k : ℕ). Reads path (length p.bytes) (take k into) ∷ []) none;
  });
  took = p.took;
}

pub passes_failed : (path : Path) (place : ℕ) {o m n : Option Journal} {x y : Option (List ℕ)} → PassesTo path place o m x y → Left (λ ts. ts ≡ []) m n → PassesSome path stop.Read o n x y
passes_failed path place p l = record {
  bytes = p.bytes;
  reads = left_then p.reads l (λ ts us a e. subst (λ (vs : List Entry). ReadsOf path p.bytes (ts ++ vs)) (sym e) (subst (ReadsOf path p.bytes) (sym (append-nil ts)) a));
  took = p.took;
}

pub passes_out : (path : Path) (place count : ℕ) (into : List ℕ) {o m n : Option Journal} {x y z : Option (List ℕ)} → count ≤ length into → count ≢ 0 → PassesTo path place o m x y
    → Left (λ ts. ts ≡ Reads path place (take count into) ∷ []) m n → TookPart (take count into) y z → PassesSome path stop.Out o n x z
passes_out path place count into {x = x} {y = y} {z = z} le some p r t = record {
  bytes = p.bytes ++ take count into;
  reads = reads_on path place count p.bytes into p.place_is le some p.reads r;
  took = part_on p.bytes (take count into) x y z p.took t;
}

pub passes_long : (path : Path) (place : ℕ) {o m : Option Journal} {x y : Option (List ℕ)} → 1_099_511_627_776 < place → PassesTo path place o m x y → PassesSome path stop.TooLong o m x y
passes_long path place lt p = record {
  bytes = p.bytes;
  reads = left_as p.reads (λ ts a. (subst (λ (k : ℕ). 1_099_511_627_776 < k) (sym p.place_is) lt, a));
  took = p.took;
}

-- ---- reads name nothing

read_unnamed : (path : Path) (ts : List Entry) → Each (IsReadOf path) ts → filter is_naming ts ≡ []
read_unnamed path [] each = refl
read_unnamed path (Reads x from piece ∷ ts) each = read_unnamed path ts each.1
read_unnamed path (_ ∷ ts) each = absurd each.0

pub whole_only : (t : FileText) (ts : List Entry) → ReadsWhole t ts → Each (IsReadOf t.path) ts
whole_only t ts w = subst (Each (IsReadOf t.path)) (sym w.joined) (each_append (IsReadOf t.path) w.front w.back w.first.only (subst (Each (IsReadOf t.path)) (sym w.second) (refl, tt)))

whole_unnamed : (t : FileText) (ts : List Entry) → ReadsWhole t ts → filter is_naming ts ≡ []
whole_unnamed t ts w = read_unnamed t.path ts (whole_only t ts w)

pub can_more : (xs : List Path) {P : List Entry → Type 0} {o m : Option Journal} → CanReadAll o xs → Left P o m → ((ts : List Entry) → P ts → filter is_naming ts ≡ []) → CanReadAll m xs
can_more [] can l f = tt
can_more (x ∷ xs) can l f = (can_stay can.0 l f, can_more xs can.1 l f)

can_last : (told : Option Journal) (xs : List Path) (y : Path) → CanReadAll told (xs ++ y ∷ []) → CanReadAll told xs × Can told (Reads y 0 [])
can_last told [] y can = (tt, can.0)
can_last told (x ∷ xs) y can = let r = can_last told xs y can.1 in ((can.0, r.0), r.1)

pub can_read : (all xs : List Path) (y : Path) (told : Option Journal) → all ≡ xs ++ y ∷ [] → CanReadAll told all → Can told (Reads y 0 [])
can_read all xs y told is can = (can_last told xs y (subst (CanReadAll told) is can)).1

pub can_read_on : (all xs : List Path) (y : Path) {o m : Option Journal} {x z : Option (List ℕ)} → all ≡ xs ++ y ∷ [] → CanReadAll o all → PassesOne y o m x z → CanReadAll m xs
can_read_on all xs y {o = o} is can p = can_more xs (can_last o xs y (subst (CanReadAll o) is can)).0 p.reads (λ ts w. whole_unnamed (record { path = y; bytes = p.bytes }) ts w)

-- ---- the files, one behind another

texts_more : (texts : List FileText) (t : FileText) (ts us : List Entry) → ReadsTexts texts ts → ReadsWhole t us → ReadsTexts (texts ++ t ∷ []) (ts ++ us)
texts_more [] t ts us e w = subst (λ (vs : List Entry). ReadsTexts (t ∷ []) (vs ++ us)) (sym e) (record { front = us; back = []; joined = sym (append-nil us); first = w; second = refl })
texts_more (u ∷ texts) t ts us r w = record {
  front = r.front;
  back = r.back ++ us;
  joined = ap (λ (vs : List Entry). vs ++ us) r.joined ∙ append_assoc r.front r.back us;
  first = r.first;
  second = texts_more texts t r.back us r.second w;
}

joined_more : (texts : List FileText) (t : FileText) → joined_texts (texts ++ t ∷ []) ≡ joined_texts texts ++ t.bytes
joined_more texts t = flat_map-append (λ (u : FileText). u.bytes) texts (t ∷ []) ∙ ap (λ (bs : List ℕ). joined_texts texts ++ bs) (append-nil t.bytes)

-- Of these files, read from the last one on, some were read, and these are left.
pub record Putting (all rest : List Path) (told later : Option Journal) (before after : Option (List ℕ)) : Type 0 where
  pub texts : List FileText
  pub files_are : reverse all ≡ text_paths texts ++ reverse rest
  pub reads : Left (ReadsTexts texts) told later
  pub took : Took (joined_texts texts) before after

pub putting_first : (all : List Path) (o : Option Journal) (x : Option (List ℕ)) → Putting all all o o x x
putting_first all o x = record { texts = []; files_are = refl; reads = left_first (ReadsTexts []) o refl; took = took_none x }

-- the last of them is the next
next_file : (all rest now : List Path) (file : Path) (texts : List FileText) → reverse all ≡ text_paths texts ++ reverse now → now ≡ rest ++ file ∷ [] → reverse all ≡ text_paths texts ++ file ∷ reverse rest
next_file all rest now file texts is e = is ∙ ap (λ (xs : List Path). text_paths texts ++ xs) (ap reverse e ∙ reverse-append rest (file ∷ []))

one_more : (all rest : List Path) (texts : List FileText) (t : FileText) → reverse all ≡ text_paths texts ++ t.path ∷ reverse rest → reverse all ≡ text_paths (texts ++ t ∷ []) ++ reverse rest
one_more all rest texts t is = is ∙ (sym (append_assoc (text_paths texts) (t.path ∷ []) (reverse rest)) ∙ ap (λ (xs : List Path). xs ++ reverse rest) (sym (map-append (λ (u : FileText). u.path) texts (t ∷ []))))

pub putting_more : (all now rest : List Path) (file : Path) {o m n : Option Journal} {x y z : Option (List ℕ)} → now ≡ rest ++ file ∷ [] → Putting all now o m x y → PassesOne file m n y z → Putting all rest o n x z
putting_more all now rest file {o = o} {n = n} {x = x} {y = y} {z = z} e p one = record {
  texts = p.texts ++ t ∷ [];
  files_are = one_more all rest p.texts t (next_file all rest now file p.texts p.files_are e);
  reads = left_then p.reads one.reads (λ ts us a w. texts_more p.texts t ts us a w);
  took = subst (λ (bs : List ℕ). Took bs x z) (sym (joined_more p.texts t)) (took_on (joined_texts p.texts) one.bytes x y z p.took one.took);
}
  where
    t : FileText
    t = record { path = file; bytes = one.bytes }

pub putting_all : (all now : List Path) {o m : Option Journal} {x y : Option (List ℕ)} → now ≡ [] → Putting all now o m x y → PassesTexts (ReadsAllOf (reverse all)) None o m x y
putting_all all now none p = record {
  texts = p.texts;
  left = left_as p.reads (λ ts a. record { files_are = p.files_are ∙ (ap (λ (xs : List Path). text_paths p.texts ++ reverse xs) none ∙ append-nil (text_paths p.texts)); reads = a });
  took = p.took;
}

took_both : (why : TextStop) (path : Path) (a b : List ℕ) (x y z : Option (List ℕ)) → Took a x y → TookBy (Some (text_fault why path)) b y z → TookBy (Some (text_fault why path)) (a ++ b) x z
took_both stop.Read path a b x y z t u = took_on a b x y z t u
took_both stop.TooLong path a b x y z t u = took_on a b x y z t u
took_both stop.Out path a b x y z t u = part_on a b x y z t u

pub putting_stops : (all now rest : List Path) (file : Path) (why : TextStop) (f : Fault) {o m n : Option Journal} {x y z : Option (List ℕ)} → now ≡ rest ++ file ∷ [] → f ≡ text_fault why file → Putting all now o m x y → PassesSome file why m n y z
    → PassesTexts (TextBreaksOff (reverse all) f) (Some f) o n x z
putting_stops all now rest file why f {o = o} {n = n} {x = x} {y = y} {z = z} e is p some = record {
  texts = p.texts ++ t ∷ [];
  left = left_then p.reads some.reads (λ ts us a w. record {
    before = p.texts;
    last = t;
    behind = reverse rest;
    why = why;
    texts_are = refl;
    files_are = next_file all rest now file p.texts p.files_are e;
    fault_is = is;
    reads = record { front = ts; back = us; joined = refl; first = a; second = w };
  });
  took = subst (λ (g : Fault). TookBy (Some g) (joined_texts (p.texts ++ t ∷ [])) x z) (sym is) (subst (λ (bs : List ℕ). TookBy (Some (text_fault why file)) bs x z) (sym (joined_more p.texts t)) (took_both why file (joined_texts p.texts) some.bytes x y z p.took some.took));
}
  where
    t : FileText
    t = record { path = file; bytes = some.bytes }
