-- What the looks at paths leave, one after another.
use Rattle.std.proofs.Common.{◌≡◌, Bool, true, false, not, cond, List, [], ◌∷◌, ◌++◌, map, refl, sym, ap, ◌∙◌, append_assoc, Option}
use Rattle.std.specs.Prelude.{flat_map, filter}
use Rattle.std.proofs.lemmas.List.{append-nil, map-append}
use Rattle.std.proofs.lemmas.List.Elements.{filter-append}
use Rattle.std.proofs.lemmas.Grind.{flat_map-append}
use Rattle.lr_rules.specs.declared.path.Path.{Path}
use Rattle.lr_rules.specs.declared.fault.CallKind.TheVariants as call
use Rattle.lr_rules.specs.Match.{part_end}
use Rattle.lr_rules.specs.Names.{ends_with}
use Rattle.lr_host.specs.declared.thing.Seen.{Seen}
use Rattle.lr_host.specs.declared.entry.Entry.{Entry}
use Rattle.lr_host.specs.declared.entry.Entry.TheVariants as entry
use Rattle.lr_host.specs.declared.journal.Journal.{Journal}
use Rattle.lr_host.specs.Told.{Left}
use Rattle.lr_host.specs.Looks.{Sees, PathSight, look_of}
use Rattle.lr_host.proofs.Left.{left_as, left_then, left_first}
use Rattle.lr_glob.specs.declared.found.Found.{Found}
use Rattle.lr_glob.specs.declared.found.GlobStop.{GlobStop}
use Rattle.lr_glob.specs.declared.found.GlobStop.TheVariants as stop
use Rattle.lr_glob.specs.Sights.{file_at, found_file, is_whole, LookedAt, LooksBroken}

-- ---- one look

pub look_failed : (path : Path) {o n : Option Journal} → Left (λ ts. ts ≡ []) o n → Left (LooksBroken (path ∷ []) (stop.Call call.Look path)) o n
look_failed path l = left_as l (λ ts e. (refl, record { sights = []; after = []; each = refl; looks = e }))

pub look_lost : (path : Path) (look : Option Seen) {o n : Option Journal} → Left (λ ts. ts ≡ entry.Look path look ∷ []) o n → Left (LooksBroken (path ∷ []) stop.Memory) o n
look_lost path look l = left_as l (λ ts e. record { sights = record { path = path; seen = look } ∷ []; after = []; each = refl; looks = e })

-- ---- one after another

abbrev path_of : PathSight → Path
path_of s = s.path

pub looked_none : (found : List Found) (o : Option Journal) → found ≡ [] → Left (LookedAt [] found) o o
looked_none found o e = left_first (LookedAt [] found) o (record { sights = []; each = refl; found_are = e; looks = refl })

pub looked_more : (done : List Path) (before now : List Found) (path : Path) {o m n : Option Journal} → Left (LookedAt done before) o m → Left (Sees path (λ seen. now ≡ before ++ file_at path seen)) m n → Left (LookedAt (done ++ path ∷ []) now) o n
looked_more done before now path l k = left_then l k (λ xs ys h s.
    let sight : PathSight = record { path = path; seen = s.seen } in
    record {
      sights = h.sights ++ sight ∷ [];
      each = map-append path_of h.sights (sight ∷ []) ∙ ap (λ ps. ps ++ path ∷ []) h.each;
      found_are = s.is ∙ (ap (λ fs. fs ++ file_at path s.seen) h.found_are ∙ (ap (λ fs. flat_map found_file h.sights ++ fs) (sym (append-nil (file_at path s.seen))) ∙ sym (flat_map-append found_file h.sights (sight ∷ []))));
      looks = ap (λ us. us ++ ys) h.looks ∙ (ap (λ us. map look_of h.sights ++ us) s.look ∙ sym (map-append look_of h.sights (sight ∷ [])));
    })

seam : (all done : List Path) (path : Path) (rest one : List Path) (sights more : List PathSight) → all ≡ done ++ path ∷ rest → map path_of sights ≡ done → path ∷ [] ≡ map path_of more ++ one → all ≡ map path_of (sights ++ more) ++ (one ++ rest)
seam all done path rest one sights more e each its =
    e
    ∙ (ap (λ ds. ds ++ path ∷ rest) (sym each)
    ∙ (ap (λ ps. map path_of sights ++ (ps ++ rest)) its
    ∙ (ap (λ ps. map path_of sights ++ ps) (append_assoc (map path_of more) one rest)
    ∙ (sym (append_assoc (map path_of sights) (map path_of more) (one ++ rest)) ∙ ap (λ ps. ps ++ (one ++ rest)) (sym (map-append path_of sights more))))))

looks_joined : (sights more : List PathSight) (xs ys : List Entry) → xs ≡ map look_of sights → ys ≡ map look_of more → xs ++ ys ≡ map look_of (sights ++ more)
looks_joined sights more xs ys ex ey = ap (λ us. us ++ ys) ex ∙ (ap (λ us. map look_of sights ++ us) ey ∙ sym (map-append look_of sights more))

broken_on : (all done : List Path) (before : List Found) (path : Path) (rest : List Path) (why : GlobStop) (xs ys : List Entry) → all ≡ done ++ path ∷ rest → LookedAt done before xs → LooksBroken (path ∷ []) why ys → LooksBroken all why (xs ++ ys)
broken_on all done before path rest (stop.Call kind at) xs ys e h b = (
  b.0,
  record {
    sights = h.sights ++ b.1.sights;
    after = b.1.after ++ rest;
    each = seam all done path rest (at ∷ b.1.after) h.sights b.1.sights e h.each b.1.each;
    looks = looks_joined h.sights b.1.sights xs ys h.looks b.1.looks;
  },
)
broken_on all done before path rest stop.Memory xs ys e h b = record {
  sights = h.sights ++ b.sights;
  after = b.after ++ rest;
  each = seam all done path rest b.after h.sights b.sights e h.each b.each;
  looks = looks_joined h.sights b.sights xs ys h.looks b.looks;
}
broken_on all done before path rest _ xs ys e h b = absurd b

pub looks_broken : (all done : List Path) (before : List Found) (path : Path) (rest : List Path) (why : GlobStop) {o m n : Option Journal} → all ≡ done ++ path ∷ rest → Left (LookedAt done before) o m → Left (LooksBroken (path ∷ []) why) m n → Left (LooksBroken all why) o n
looks_broken all done before path rest why e l k = left_then l k (λ xs ys h b. broken_on all done before path rest why xs ys e h b)

-- ---- copies that aren't whole

pub kept_whole : (done now before : List Path) (path : Path) (b : Bool) → b ≡ ends_with part_end path → b ≡ false → now ≡ before ++ path ∷ [] → before ≡ filter is_whole done → now ≡ filter is_whole (done ++ path ∷ [])
kept_whole done now before path b test no_part e h =
    e ∙ (ap (λ ps. ps ++ path ∷ []) h ∙ (ap (λ t. filter is_whole done ++ cond (not t) (path ∷ []) []) (sym no_part ∙ test) ∙ sym (filter-append is_whole done (path ∷ []))))

pub left_aside : (done before : List Path) (path : Path) (b : Bool) → b ≡ ends_with part_end path → b ≡ true → before ≡ filter is_whole done → before ≡ filter is_whole (done ++ path ∷ [])
left_aside done before path b test part h =
    h ∙ (sym (append-nil (filter is_whole done)) ∙ (ap (λ t. filter is_whole done ++ cond (not t) (path ∷ []) []) (sym part ∙ test) ∙ sym (filter-append is_whole done (path ∷ []))))
