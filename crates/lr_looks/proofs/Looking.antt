-- What words came to, one behind another.
use Rattle.std.proofs.Common.{◌≡◌, ◌≢◌, ◌≤◌, ◌+◌, ◌-◌, ℕ, suc, Bool, true, false, cond, nat_le, ◌&&◌, List, [], ◌∷◌, ◌++◌, length, map, take, Option, Result, Ok, Err, OnOk, OnErr, refl, sym, ap, ◌∙◌, subst, arith, append_assoc}
use Rattle.std.proofs.lemmas.List.{append-nil, length-append, length-map, map-append, take-append-le}
use Rattle.std.proofs.lemmas.Bool.{and_parts, or_parts, leb-true, not-false}
use Rattle.std.specs.List.{list_any}
use Rattle.lr_rules.specs.declared.fault.Fault.{Fault}
use Rattle.lr_rules.specs.declared.fault.Fault.TheVariants as fault
use Rattle.lr_rules.specs.Path.{last_of}
use Rattle.lr_host.specs.declared.entry.Entry.{Entry}
use Rattle.lr_host.specs.declared.journal.Journal.{Journal}
use Rattle.lr_host.specs.Told.{Counts, Left, Onward, Rose}
use Rattle.lr_host.proofs.Left.{left_as, left_first, left_then}
use Rattle.lr_glob.specs.declared.found.Found.{Found as Match}
use Rattle.lr_glob.specs.declared.found.GlobStop.{GlobStop}
use Rattle.lr_glob.specs.declared.found.GlobStop.TheVariants as stop
use Rattle.lr_glob.specs.Sights.{is_long}
use Rattle.lr_glob.specs.Stops.{IsFailedGlob}
use Rattle.lr_glob.specs.Words.{Comes, Stopped}
use Rattle.lr_looks.specs.declared.found.Found.{Found}
use Rattle.lr_looks.specs.Asked.{AskedWord, AreTexts}
use Rattle.lr_host.specs.Counted.{Went, WentBy}
use Rattle.lr_host.proofs.Counts.{AreFree, free_none, went_free, went_call, went_where}
use Rattle.lr_host.proofs.Lists.{grown}
use Rattle.lr_looks.specs.Found.{FoundLog, found_in, all_found_in, HasLogPath, HaveLogPaths}
use Rattle.lr_looks.specs.Sights.{WordSight, found_at, found_by, glob_fault, sight_faults, found_of, all_sight_faults, ShowsWord, ShowWords, WordHadMemory, WordsHadMemory, AreFoundOf, LookedAtWords, LookedAtSomeWords}
use Rattle.lr_looks.specs.Internal.{AddsFound}
use Rattle.lr_looks.proofs.AskedBy.{IsPart}

-- ---- one word

looked_one : (w : AskedWord) (s : WordSight) (faults all : List Fault) (found more : List FoundLog) (ts : List Entry) → WordHadMemory s → ShowsWord w (16_384 - length found) s ts → all ≡ faults ++ sight_faults w s → more ≡ found ++ found_by w s
    → LookedAtWords (w ∷ []) faults all found more ts
looked_one w s faults all found more ts m h f g = record {
  sights = s ∷ [];
  had_memory = (m, tt);
  shown = record { front = ts; back = []; joined = sym (append-nil ts); first = h; second = refl };
  faults_are = f ∙ ap (λ fs. faults ++ fs) (sym (append-nil (sight_faults w s)));
  found_are = g ∙ ap (λ fs. found ++ fs) (sym (append-nil (found_by w s)));
}

some_one : (w : AskedWord) (s : WordSight) (before : ℕ) (ts : List Entry) → ShowsWord w (16_384 - before) s ts → LookedAtSomeWords before (w ∷ []) ts
some_one w s before ts h = record { sights = s ∷ []; few = omega arith; shown = record { front = ts; back = []; joined = sym (append-nil ts); first = h; second = refl } }

on_ok : {T E : Type 0} (r : Result T E) {P Q : Type 0} → (P → Q) → OnOk r P → OnOk r Q
on_ok (Ok x) f p = f p
on_ok (Err x) f p = p

on_err : {T E : Type 0} (r : Result T E) {Q : Type 0} → Q → OnErr r Q
on_err (Ok x) q = tt
on_err (Err x) q = q

-- the room that the code leaves a word
room_of : (room : ℕ) (found : List Found) → room ≡ 16_384 - length found → room ≡ 16_384 - length (all_found_in found)
room_of room found e = e ∙ ap (λ n. 16_384 - n) (sym (length-map found found_in))

had_memory : (why : GlobStop) → why ≢ stop.Memory → WordHadMemory (Err why)
had_memory (stop.Call kind path) ne = tt
had_memory stop.LongName ne = tt
had_memory stop.TooMany ne = tt
had_memory stop.Memory ne = ne refl

pub given_told : {T E : Type 0} (r : Result T E) (w : AskedWord) (room : ℕ) (matches : List Match) (faults all : List Fault) (found : List Found) (more : List FoundLog) {o n : Option Journal} → room ≡ 16_384 - length found → Left (Comes w.text room (Ok matches)) o n
    → OnOk r (all ≡ faults ++ sight_faults w (Ok matches)) → OnOk r (more ≡ all_found_in found ++ found_by w (Ok matches)) → OnOk r (Left (LookedAtWords (w ∷ []) faults all (all_found_in found) more) o n)
given_told (Ok x) w room matches faults all found more e left f g = left_as left (λ ts h. looked_one w (Ok matches) faults all (all_found_in found) more ts tt (subst (λ k. Comes w.text k (Ok matches) ts) (room_of room found e) h) f g)
given_told (Err x) w room matches faults all found more e left f g = tt

pub given_some : {T E : Type 0} (r : Result T E) (w : AskedWord) (room : ℕ) (matches : List Match) (found : List Found) {o n : Option Journal} → room ≡ 16_384 - length found → Left (Comes w.text room (Ok matches)) o n → OnErr r (Left (LookedAtSomeWords (length (all_found_in found)) (w ∷ [])) o n)
given_some r w room matches found e left = on_err r (left_as left (λ ts h. some_one w (Ok matches) (length (all_found_in found)) ts (subst (λ k. Comes w.text k (Ok matches) ts) (room_of room found e) h)))

pub stopped_told : {T E : Type 0} (r : Result T E) (w : AskedWord) (room : ℕ) (why : GlobStop) (faults all : List Fault) (found : List Found) {o n : Option Journal} → room ≡ 16_384 - length found → Left (Stopped w.text room why) o n
    → OnOk r (why ≢ stop.Memory) → OnOk r (all ≡ faults ++ glob_fault w why) → OnOk r (Left (LookedAtWords (w ∷ []) faults all (all_found_in found) (all_found_in found)) o n)
stopped_told (Ok x) w room why faults all found e left ne f =
    left_as left (λ ts h. looked_one w (Err why) faults all (all_found_in found) (all_found_in found) ts (had_memory why ne) (subst (λ k. Stopped w.text k why ts) (room_of room found e) h) f (sym (append-nil (all_found_in found))))
stopped_told (Err x) w room why faults all found e left ne f = tt

pub stopped_some : {T E : Type 0} (r : Result T E) (w : AskedWord) (room : ℕ) (why : GlobStop) (found : List Found) {o n : Option Journal} → room ≡ 16_384 - length found → Left (Stopped w.text room why) o n → OnErr r (Left (LookedAtSomeWords (length (all_found_in found)) (w ∷ [])) o n)
stopped_some r w room why found e left = on_err r (left_as left (λ ts h. some_one w (Err why) (length (all_found_in found)) ts (subst (λ k. Stopped w.text k why ts) (room_of room found e) h)))

pub given_found : {T E : Type 0} (r : Result T E) (w : AskedWord) (s : WordSight) (p q : List FoundLog) → OnOk r (q ≡ p ++ found_by w s) → OnOk r (AddsFound (w ∷ []) p q)
given_found r w s p q h = on_ok r (λ e. record { sights = s ∷ []; as_many = refl; found_are = e ∙ ap (λ fs. p ++ fs) (sym (append-nil (found_by w s))) }) h

pub stopped_found : {T E : Type 0} (r : Result T E) (w : AskedWord) (why : GlobStop) (p : List FoundLog) → OnOk r (AddsFound (w ∷ []) p p)
stopped_found (Ok x) w why p = record { sights = Err why ∷ []; as_many = refl; found_are = sym (append-nil p) }
stopped_found (Err x) w why p = tt

-- ---- one behind another

faults_on : (xs ys : List AskedWord) (ss ts : List WordSight) → length ss ≡ length xs → all_sight_faults (xs ++ ys) (ss ++ ts) ≡ all_sight_faults xs ss ++ all_sight_faults ys ts
faults_on [] ys [] ts e = refl
faults_on [] ys (s ∷ ss) ts e = absurd (omega (arith, e))
faults_on (x ∷ xs) ys [] ts e = absurd (omega (arith, e))
faults_on (x ∷ xs) ys (s ∷ ss) ts e = ap (λ es. sight_faults x s ++ es) (faults_on xs ys ss ts (omega (arith, e))) ∙ sym (append_assoc (sight_faults x s) (all_sight_faults xs ss) (all_sight_faults ys ts))

found_on : (xs ys : List AskedWord) (ss ts : List WordSight) → length ss ≡ length xs → found_of (xs ++ ys) (ss ++ ts) ≡ found_of xs ss ++ found_of ys ts
found_on [] ys [] ts e = refl
found_on [] ys (s ∷ ss) ts e = absurd (omega (arith, e))
found_on (x ∷ xs) ys [] ts e = absurd (omega (arith, e))
found_on (x ∷ xs) ys (s ∷ ss) ts e = ap (λ es. found_by x s ++ es) (found_on xs ys ss ts (omega (arith, e))) ∙ sym (append_assoc (found_by x s) (found_of xs ss) (found_of ys ts))

pub shown_many : (n : ℕ) (xs : List AskedWord) (ss : List WordSight) (ts : List Entry) → ShowWords n xs ss ts → length ss ≡ length xs
shown_many n [] [] ts h = refl
shown_many n [] (s ∷ ss) ts h = absurd h
shown_many n (x ∷ xs) [] ts h = absurd h
shown_many n (x ∷ xs) (s ∷ ss) ts h = ap suc (shown_many (n + length (found_by x s)) xs ss h.back h.second)

shown_on : (n : ℕ) (xs ys : List AskedWord) (ss rs : List WordSight) (ts us : List Entry) → ShowWords n xs ss ts → ShowWords (n + length (found_of xs ss)) ys rs us → ShowWords n (xs ++ ys) (ss ++ rs) (ts ++ us)
shown_on n [] ys [] rs ts us h g = subst (λ (es : List Entry). ShowWords n ys rs (es ++ us)) (sym h) (subst (λ k. ShowWords k ys rs us) (plus_none n) g)
  where
    plus_none : (k : ℕ) → k + 0 ≡ k
    plus_none k = omega arith
shown_on n [] ys (s ∷ ss) rs ts us h g = absurd h
shown_on n (x ∷ xs) ys [] rs ts us h g = absurd h
shown_on n (x ∷ xs) ys (s ∷ ss) rs ts us h g = record {
  front = h.front;
  back = h.back ++ us;
  joined = ap (λ (es : List Entry). es ++ us) h.joined ∙ append_assoc h.front h.back us;
  first = h.first;
  second = shown_on (n + length (found_by x s)) xs ys ss rs h.back us h.second (subst (λ k. ShowWords k ys rs us) (counted (found_by x s) (found_of xs ss)) g);
}
  where
    counted : (a b : List FoundLog) → n + length (a ++ b) ≡ n + length a + length b
    counted a b = let e = length-append a b in omega (arith, e)

memory_on : (ss rs : List WordSight) → WordsHadMemory ss → WordsHadMemory rs → WordsHadMemory (ss ++ rs)
memory_on [] rs h g = g
memory_on (s ∷ ss) rs h g = (h.0, memory_on ss rs h.1 g)

-- so many logs are found behind the words
behind : (p q : List FoundLog) (xs : List AskedWord) (ss : List WordSight) → q ≡ p ++ found_of xs ss → length q ≡ length p + length (found_of xs ss)
behind p q xs ss e = ap (λ (fs : List FoundLog). length fs) e ∙ length-append p (found_of xs ss)

pub looked_on : (xs ys : List AskedWord) (a b c : List Fault) (p q r : List FoundLog) (ts us : List Entry) → LookedAtWords xs a b p q ts → LookedAtWords ys b c q r us → LookedAtWords (xs ++ ys) a c p r (ts ++ us)
looked_on xs ys a b c p q r ts us l k =
    let many = shown_many (length p) xs l.sights ts l.shown in
    record {
      sights = l.sights ++ k.sights;
      had_memory = memory_on l.sights k.sights l.had_memory k.had_memory;
      shown = shown_on (length p) xs ys l.sights k.sights ts us l.shown (subst (λ n. ShowWords n ys k.sights us) (behind p q xs l.sights l.found_are) k.shown);
      faults_are = grown a b c _ _ _ l.faults_are k.faults_are (faults_on xs ys l.sights k.sights many);
      found_are = grown p q r _ _ _ l.found_are k.found_are (found_on xs ys l.sights k.sights many);
    }

looked_none : (a : List Fault) (p : List FoundLog) → LookedAtWords [] a a p p []
looked_none a p = record { sights = []; had_memory = tt; shown = refl; faults_are = sym (append-nil a); found_are = sym (append-nil p) }

take_past : (xs ys : List AskedWord) (n : ℕ) → take (length xs + n) (xs ++ ys) ≡ xs ++ take n ys
take_past [] ys n = ap (λ k. take k ys) (none_more n)
  where
    none_more : (k : ℕ) → 0 + k ≡ k
    none_more k = omega arith
take_past (x ∷ xs) ys n = subst (λ k. take k (x ∷ (xs ++ ys)) ≡ x ∷ (xs ++ take n ys)) (suc_plus (length xs) n) (ap (λ l. x ∷ l) (take_past xs ys n))
  where
    suc_plus : (a b : ℕ) → suc (a + b) ≡ suc a + b
    suc_plus a b = omega arith

some_on : (xs ys zs : List AskedWord) (a b : List Fault) (p q : List FoundLog) (ts us : List Entry) → LookedAtWords xs a b p q ts → LookedAtSomeWords (length q) ys us → LookedAtSomeWords (length p) (xs ++ (ys ++ zs)) (ts ++ us)
some_on xs ys zs a b p q ts us l k =
    let m = shown_many (length p) xs l.sights ts l.shown in
    let f : length k.sights ≤ length ys = k.few in
    let both : length (l.sights ++ k.sights) ≡ length l.sights + length k.sights = length-append l.sights k.sights in
    let all : length (xs ++ (ys ++ zs)) ≡ length xs + length (ys ++ zs) = length-append xs (ys ++ zs) in
    let rest : length (ys ++ zs) ≡ length ys + length zs = length-append ys zs in
    let at : length (l.sights ++ k.sights) ≡ length xs + length k.sights = omega (arith, m, both) in
    let first : take (length (l.sights ++ k.sights)) (xs ++ (ys ++ zs)) ≡ xs ++ take (length k.sights) ys =
    ap (λ n. take n (xs ++ (ys ++ zs))) at ∙ (take_past xs (ys ++ zs) (length k.sights) ∙ ap (λ ws. xs ++ ws) (take-append-le (length k.sights) ys zs f)) in
    record {
      sights = l.sights ++ k.sights;
      few = omega (arith, m, f, both, all, rest);
      shown = subst (λ ws. ShowWords (length p) ws (l.sights ++ k.sights) (ts ++ us)) (sym first)
          (shown_on (length p) xs (take (length k.sights) ys) l.sights k.sights ts us l.shown (subst (λ n. ShowWords n (take (length k.sights) ys) k.sights us) (behind p q xs l.sights l.found_are) k.shown));
    }

adds_none : (p : List FoundLog) → AddsFound [] p p
adds_none p = record { sights = []; as_many = refl; found_are = sym (append-nil p) }

adds_on : (xs ys : List AskedWord) (p q r : List FoundLog) → AddsFound xs p q → AddsFound ys q r → AddsFound (xs ++ ys) p r
adds_on xs ys p q r l k = record {
  sights = l.sights ++ k.sights;
  as_many = length-append l.sights k.sights ∙ (let m : length l.sights ≡ length xs = l.as_many in let n : length k.sights ≡ length ys = k.as_many in let s : length (xs ++ ys) ≡ length xs + length ys = length-append xs ys in omega (arith, m, n, s));
  found_are = grown p q r _ _ _ l.found_are k.found_are (found_on xs ys l.sights k.sights l.as_many);
}

texts_on : (xs ys : List AskedWord) → AreTexts xs → AreTexts ys → AreTexts (xs ++ ys)
texts_on [] ys h g = g
texts_on (x ∷ xs) ys h g = (h.0, texts_on xs ys h.1 g)

-- ---- over lists of words that grow

pub words_none : (faults : List Fault) (found : List FoundLog) {o : Option Journal} → Left (LookedAtWords [] faults faults found found) o o
words_none faults found = left_first (LookedAtWords [] faults faults found found) _ (looked_none faults found)

pub words_on : (all xs ys : List AskedWord) (a b c : List Fault) (p q r : List FoundLog) {o m n : Option Journal} → all ≡ xs ++ ys → Left (LookedAtWords xs a b p q) o m → Left (LookedAtWords ys b c q r) m n → Left (LookedAtWords all a c p r) o n
words_on all xs ys a b c p q r e l k = left_then l k (λ ts us h g. subst (λ (ws : List AskedWord). LookedAtWords ws a c p r (ts ++ us)) (sym e) (looked_on xs ys a b c p q r ts us h g))

pub words_some : {T E : Type 0} (result : Result T E) (all xs ys : List AskedWord) (a b : List Fault) (p q : List FoundLog) {o m n : Option Journal} → IsPart all xs ys → Left (LookedAtWords xs a b p q) o m → Left (LookedAtSomeWords (length q) ys) m n → OnErr result (Left (LookedAtSomeWords (length p) all) o n)
words_some result all xs ys a b p q e l k = on_err result (left_then l k (λ ts us h g. subst (λ (ws : List AskedWord). LookedAtSomeWords (length p) ws (ts ++ us)) (sym e.joined) (some_on xs ys e.behind a b p q ts us h g)))

-- the words and the logs, by equal ones
pub looked_words : (xs ys : List AskedWord) (a b : List Fault) (p q : List FoundLog) {o n : Option Journal} → xs ≡ ys → Left (LookedAtWords xs a b p q) o n → Left (LookedAtWords ys a b p q) o n
looked_words xs ys a b p q e l = left_as l (λ ts h. subst (λ (ws : List AskedWord). LookedAtWords ws a b p q ts) e h)

pub looked_until : (words : List AskedWord) (a b : List Fault) (p q r : List FoundLog) {o n : Option Journal} → q ≡ r → Left (LookedAtWords words a b p q) o n → Left (LookedAtWords words a b p r) o n
looked_until words a b p q r e l = left_as l (λ ts h. subst (λ (fs : List FoundLog). LookedAtWords words a b p fs ts) e h)

pub found_none : (found : List FoundLog) → AddsFound [] found found
found_none = adds_none

pub found_more : (all xs ys : List AskedWord) (p q r : List FoundLog) → all ≡ xs ++ ys → AddsFound xs p q → AddsFound ys q r → AddsFound all p r
found_more all xs ys p q r e l k = subst (λ (ws : List AskedWord). AddsFound ws p r) (sym e) (adds_on xs ys p q r l k)

pub texts_more : (all xs ys : List AskedWord) → all ≡ xs ++ ys → AreTexts xs → AreTexts ys → AreTexts all
texts_more all xs ys e h g = subst AreTexts (sym e) (texts_on xs ys h g)

pub found_all : (all words : List AskedWord) (found : List FoundLog) → all ≡ words → AddsFound words [] found → AreFoundOf all found
found_all all words found e l = record { sights = l.sights; found_are = l.found_are ∙ ap (λ (ws : List AskedWord). found_of ws l.sights) (sym e) }

-- ---- the faults that are added, and the counts

missing_free : (b : Bool) (word : List ℕ) → AreFree (cond b [] (fault.Missing word ∷ []))
missing_free true word = free_none
missing_free false word = record { calls = refl; scripts = refl; none_around = ((λ h. h), tt) }

given_free : (w : AskedWord) (matches : List Match) → AreFree (sight_faults w (Ok matches))
given_free w [] = missing_free w.rule.missingok w.text
given_free w (m ∷ ms) = free_none

pub given_went : {T E : Type 0} (r : Result T E) (w : AskedWord) (matches : List Match) (faults all : List Fault) (a b : Counts)
    → Onward a b → OnOk r (all ≡ faults ++ sight_faults w (Ok matches)) → WentBy r faults all a b
given_went r w matches faults all a b on h =
    went_where r faults all a b (λ e. went_free faults all (sight_faults w (Ok matches)) a b e (given_free w matches) on) h on

one_went : (w : AskedWord) (why : GlobStop) (faults all : List Fault) (a b : Counts)
    → (IsFailedGlob why → Rose a.faults b.faults) → Onward a b → all ≡ faults ++ glob_fault w why → Went faults all a b
one_went w (stop.Call kind path) faults all a b rose on e = went_call faults all kind path a b e (rose tt) on
one_went w stop.LongName faults all a b rose on e = went_free faults all (fault.LongName w.text ∷ []) a b e
    (record { calls = refl; scripts = refl; none_around = ((λ h. h), tt) }) on
one_went w stop.TooMany faults all a b rose on e = went_free faults all (fault.TooMany w.text ∷ []) a b e
    (record { calls = refl; scripts = refl; none_around = ((λ h. h), tt) }) on
one_went w stop.Memory faults all a b rose on e = went_free faults all [] a b e free_none on

pub stopped_went : {T E : Type 0} (r : Result T E) (w : AskedWord) (why : GlobStop) (faults all : List Fault) (a b : Counts)
    → (IsFailedGlob why → Rose a.faults b.faults) → Onward a b → OnOk r (all ≡ faults ++ glob_fault w why) → WentBy r faults all a b
stopped_went r w why faults all a b rose on h = went_where r faults all a b (λ e. one_went w why faults all a b rose on e) h on

-- ---- the matches of a word, one behind another

-- none of those that aren't too long is
none_long : (done rest : List Match) (x : Match) → list_any is_long (done ++ x ∷ rest) ≡ false → is_long x ≡ false
none_long [] rest x h = (or_parts (is_long x) (list_any is_long rest) h).0
none_long (d ∷ ds) rest x h = none_long ds rest x (or_parts (is_long d) (list_any is_long (ds ++ x ∷ rest)) h).1

pub next_short : (all done rest : List Match) (x : Match) → all ≡ done ++ x ∷ rest → list_any is_long all ≡ false → is_long x ≡ false
next_short all done rest x e h = none_long done rest x (subst (λ ms. list_any is_long ms ≡ false) e h)

pub logs_none : (w : AskedWord) (p : List FoundLog) → p ≡ p ++ map (found_at w) []
logs_none w p = sym (append-nil p)

pub logs_more : (w : AskedWord) (done : List Match) (x : Match) (p q r : List FoundLog) → q ≡ p ++ map (found_at w) done → r ≡ q ++ found_at w x ∷ [] → r ≡ p ++ map (found_at w) (done ++ x ∷ [])
logs_more w done x p q r e f = f ∙ (ap (λ fs. fs ++ found_at w x ∷ []) e ∙ (append_assoc p (map (found_at w) done) (found_at w x ∷ []) ∙ ap (λ fs. p ++ fs) (sym (map-append (found_at w) done (x ∷ [])))))

pub paths_more : (p q : List FoundLog) (f : FoundLog) → q ≡ p ++ f ∷ [] → HasLogPath f → HaveLogPaths p → HaveLogPaths q
paths_more p q f e h hs = subst HaveLogPaths (sym e) (on p hs)
  where
    on : (xs : List FoundLog) → HaveLogPaths xs → HaveLogPaths (xs ++ f ∷ [])
    on [] g = (h, tt)
    on (x ∷ xs) g = (g.0, on xs g.1)

pub short_path : (x : Match) → is_long x ≡ false → (length x.path ≤ 2048) × (length (last_of x.path) ≤ 255)
short_path x h =
    let p = and_parts (nat_le (length x.path) 2048) (nat_le (length (last_of x.path)) 255) (not-false (nat_le (length x.path) 2048 && nat_le (length (last_of x.path)) 255) h) in
    (leb-true (length x.path) 2048 p.0, leb-true (length (last_of x.path)) 255 p.1)
