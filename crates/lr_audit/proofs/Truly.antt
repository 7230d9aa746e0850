-- What an audit saw of files is true of the disk.
use Rattle.std.proofs.Common.{◌≡◌, ◌⊎◌, inl, inr, ⊎_elim, ℕ, Bool, true, false, cond, List, [], ◌∷◌, map, reverse, Option, Some, None, refl, sym, ap, ◌∙◌, subst}
use Rattle.std.specs.Prelude.{Contains, filter, is_none}
use Rattle.std.specs.List.Sorted.{IsPermutation}
use Rattle.std.proofs.lemmas.List.Elements.{All-contains}
use Rattle.std.proofs.lemmas.List.Sorted.{Contains-permutation, IsPermutation-sym}
use Rattle.lr_rules.specs.declared.path.Path.{Path}
use Rattle.lr_rules.specs.declared.path.PathFault.{PathFault}
use Rattle.lr_rules.specs.declared.fault.CallKind.{CallKind}
use Rattle.lr_rules.specs.declared.fault.CallKind.TheVariants as call
use Rattle.lr_rules.specs.declared.fault.Fault.{Fault}
use Rattle.lr_rules.specs.declared.fault.Fault.TheVariants as fault
use Rattle.lr_rules.specs.Path.{joined, parent_of, last_of, path_fault}
use Rattle.lr_rules.proofs.PathLemmas.{parent_joined, last_joined}
use Rattle.lr_host.specs.declared.thing.Kind.{Kind}
use Rattle.lr_host.specs.declared.thing.Kind.TheVariants as kind
use Rattle.lr_host.specs.declared.thing.Seen.{Seen}
use Rattle.lr_host.specs.declared.thing.Thing.{Thing}
use Rattle.lr_host.specs.declared.thing.Thing.TheVariants as thing
use Rattle.lr_host.specs.declared.entry.Entry.{Entry}
use Rattle.lr_host.specs.declared.entry.Entry.TheVariants as entry
use Rattle.lr_host.specs.Fits.{IsFileAt, IsPart, SeesThing, IsNameIn}
use Rattle.lr_host.specs.Listing.{HasListed, is_file_kind}
use Rattle.lr_host.specs.Lists.{IsIn}
use Rattle.lr_host.specs.Looks.{Sees as SeesPath, IsFile, IsDir, IsNoDir, IsNothing}
use Rattle.lr_host.specs.Opening.{IsJournal}
use Rattle.lr_host.specs.Quiet.{ChangeNothing}
use Rattle.lr_host.specs.Told.{Made}
use Rattle.lr_host.specs.World.{Past, World, world, names}
use Rattle.lr_host.proofs.Lists.{in_from, in_to, in_map, in_unmap, in_front, in_back, from_reverse, to_flat, of_flat}
use Rattle.lr_host.proofs.Looked.{nothing_no_file, seen_file}
use Rattle.lr_host.proofs.More.{file_more, directory_more}
use Rattle.lr_host.proofs.Quiet.{IsAny, Moment, moment, quiet_more, since_any}
use Rattle.lr_laws.specs.Rooted.{IsParted}
use Rattle.lr_laws.proofs.StandsIn.{stands_in}
use Rattle.lr_family.specs.Listed.{NotListedAt}
use Rattle.lr_laws_looks.specs.Finds.{StoodOrCame}
use Rattle.lr_laws_looks.proofs.Came.{quiet_prefix, stood_or_came}
use Rattle.lr_laws_looks.proofs.Families.{file_seen}
use Rattle.lr_audit.specs.Files.{are_path_bytes, paths_of_names, FileSight, file_path, file_by, fault_by, look_by, sight_file, sight_fault, file_looks, LookedAtEach, ShowsFilesIn, listed, not_listed, no_directory, DirSight, IsShown, ShowsDirs}
use Rattle.lr_audit.specs.Truth.{IsTakenAway, AreTrueFiles}

-- ---- lists

to_filter : (xs : List Path) (x : Path) → IsIn x xs → are_path_bytes x ≡ true → IsIn x (filter are_path_bytes xs)
to_filter [] x i h = absurd i
to_filter (y ∷ ys) x (inl e) h = subst (λ b. IsIn x (cond b (y ∷ filter are_path_bytes ys) (filter are_path_bytes ys))) (sym (ap are_path_bytes e ∙ h)) (inl e)
to_filter (y ∷ ys) x (inr i) h = by (are_path_bytes y) (to_filter ys x i h)
  where
    by : (b : Bool) → IsIn x (filter are_path_bytes ys) → IsIn x (cond b (y ∷ filter are_path_bytes ys) (filter are_path_bytes ys))
    by true j = inr j
    by false j = j

of_filter : (xs : List Path) (x : Path) → IsIn x (filter are_path_bytes xs) → IsIn x xs
of_filter [] x i = i
of_filter (y ∷ ys) x i = by (λ j. of_filter ys x j) (are_path_bytes y) i
  where
    by : (IsIn x (filter are_path_bytes ys) → IsIn x ys) → (b : Bool) → IsIn x (cond b (y ∷ filter are_path_bytes ys) (filter are_path_bytes ys)) → IsIn x (y ∷ ys)
    by f true (inl e) = inl e
    by f true (inr j) = inr (f j)
    by f false j = inr (f j)

valid_path : (x : Path) → path_fault x ≡ None → are_path_bytes x ≡ true
valid_path x e = ap (λ (o : Option PathFault). is_none o) e

-- the path of a listed name
to_path : (dir : Path) (names : List (List ℕ)) (name : List ℕ) → IsIn name names → path_fault (joined dir name) ≡ None → IsIn (joined dir name) (paths_of_names dir names)
to_path dir names name i valid = to_filter (map (joined dir) names) (joined dir name) (in_map (joined dir) name names i) (valid_path (joined dir name) valid)

of_path : (dir : Path) (names : List (List ℕ)) (x : Path) → IsIn x (paths_of_names dir names) → (name : List ℕ) × IsIn name names × (joined dir name ≡ x)
of_path dir names x i = in_unmap (joined dir) x names (of_filter (map (joined dir) names) x i)

-- ---- what a look saw

dir_seen : (w : World) (t : Thing) (o : Option Seen) → t ≡ thing.Directory → SeesThing w t o → IsDir o
dir_seen w t o is s = go o (subst (λ (u : Thing). SeesThing w u o) is s)
  where
    go : (o : Option Seen) → SeesThing w thing.Directory o → IsDir o
    go None s = s
    go (Some seen) s = s

is_file_path : (path : Path) (o : Option Seen) → IsFile o → IsIn path (file_path path o)
is_file_path path None f = absurd f
is_file_path path (Some seen) f = subst (λ (k : Kind). IsIn path (cond (is_file_kind k) (path ∷ []) [])) (sym f) (inl refl)

-- a path that was added is that of the look, which saw a file there
pub record SawFileBy (path x : Path) (seen : Option (Option Seen)) : Type 0 where
  pub look : Seen
  pub saw : seen ≡ Some (Some look)
  pub is_file : look.kind ≡ kind.File
  pub same : path ≡ x

file_by_look : (path x : Path) (seen : Option (Option Seen)) → IsIn x (file_by path seen) → SawFileBy path x seen
file_by_look path x None i = absurd i
file_by_look path x (Some None) i = absurd i
file_by_look path x (Some (Some seen)) i = by seen.kind refl i
  where
    by : (k : Kind) → seen.kind ≡ k → IsIn x (cond (is_file_kind k) (path ∷ []) []) → SawFileBy path x (Some (Some seen))
    by kind.File e (inl same) = record { look = seen; saw = refl; is_file = e; same = same }
    by kind.File e (inr j) = absurd j
    by kind.Dir e j = absurd j
    by kind.Other e j = absurd j

module _ (p q : Past) (es : List Entry) (m : Made p es q) (journal : IsJournal p) (still : ChangeNothing es) where
  abbrev IsOne : Entry → Type 0
  IsOne e = IsIn e (reverse es)

  then_ : (e : Entry) → IsOne e → Moment IsAny p q e
  then_ e i = moment IsAny p q e es (since_any p q es m) m still (from_reverse e es i)

  stands : (x : Path) (e : Entry) (t : Moment IsAny p q e) → IsFileAt (names (world p)) x → IsFileAt (names (world t.at)) x
  stands x e t file = file_more (names (world p)) (names (world t.at)) x (quiet_more IsAny p t.at t.since) file

  came : (x : Path) (seen : Seen) → seen.kind ≡ kind.File → IsOne (entry.Look x (Some seen)) → StoodOrCame x p q
  came x seen k i =
      let t = then_ (entry.Look x (Some seen)) i in
      stood_or_came x p t.at q t.since (quiet_prefix t.at q t.until) (seen_file (world t.at) (names (world t.at) x) seen t.fits k)

  saw_it : (x : Path) (o : Option Seen) → IsOne (entry.Look x o) → IsFileAt (names (world p)) x → IsFile o
  saw_it x o i file = let t = then_ (entry.Look x o) i in let f = stands x (entry.Look x o) t file in file_seen (world t.at) (names (world t.at) x) f.0 o f.1 t.fits

  -- where a file stands in the directory, that is one, as a look at it saw
  saw_dir : (dir x : Path) (o : Option Seen) → path_fault dir ≡ None → IsNameIn dir x → IsFileAt (names (world p)) x → IsOne (entry.Look dir o) → IsDir o
  saw_dir dir x o path h file i = dir_seen (world t.at) (names (world t.at) dir) o (directory_more (names (world p)) (names (world t.at)) dir (quiet_more IsAny p t.at t.since) there) t.fits
    where
      t : Moment IsAny p q (entry.Look dir o)
      t = then_ (entry.Look dir o) i

      stood : IsFileAt (names (world p)) (joined dir h.name)
      stood = subst (IsFileAt (names (world p))) h.named file

      up : parent_of (joined dir h.name) ≡ dir
      up = parent_joined dir h.name path h.part.1

      parted : IsParted (joined dir h.name)
      parted = ap (λ (d : Path). joined d (last_of (joined dir h.name))) up ∙ ap (joined dir) (last_joined dir h.name h.part.1)

      there : names (world p) dir ≡ thing.Directory
      there = subst (λ (d : Path). names (world p) d ≡ thing.Directory) up (stands_in p (joined dir h.name) journal parted (λ none. nothing_no_file (names (world p) (joined dir h.name)) stood.0 none stood.1))

  -- its name is among those that a listing told
  was_listed : (dir x : Path) (told : List (List ℕ)) (h : IsNameIn dir x) → IsFileAt (names (world p)) x → IsOne (entry.List dir told) → Contains told h.name
  was_listed dir x told h file i =
      let t = then_ (entry.List dir told) i in
      let f = stands (joined dir h.name) (entry.List dir told) t (subst (IsFileAt (names (world p))) h.named file) in
      (t.fits.1.all h.name).1 (h.part, λ none. nothing_no_file (names (world t.at) (joined dir h.name)) f.0 none f.1)

  is_part : (dir : Path) (told : List (List ℕ)) (name : List ℕ) → IsOne (entry.List dir told) → Contains told name → IsPart name
  is_part dir told name i c = let t = then_ (entry.List dir told) i in ((t.fits.1.all name).0 c).0

  -- ---- one directory

  -- what a look at it saw that isn't one tells that no file stood in it
  no_dir : (P : Option Seen → Type 0) (dir x : Path) (us : List Entry) → ((o : Option Seen) → P o → IsDir o → ⊥) → ((e : Entry) → IsIn e us → IsOne e) → SeesPath dir P us → path_fault dir ≡ None → IsNameIn dir x → IsFileAt (names (world p)) x → ⊥
  no_dir P dir x us other within s path h file = other s.seen s.is (saw_dir dir x s.seen path h file (within (entry.Look dir s.seen) (subst (IsIn (entry.Look dir s.seen)) (sym s.look) (inl refl))))

  looked_stood : (dir x : Path) (ns : List (List ℕ)) (files : List Path) (faults : List Fault) (us : List Entry) (h : IsNameIn dir x) → ((e : Entry) → IsIn e us → IsOne e) → LookedAtEach (paths_of_names dir ns) files faults us → Contains ns h.name → path_fault x ≡ None → IsFileAt (names (world p)) x → IsIn x files ⊎ IsTakenAway faults dir x
  looked_stood dir x ns files faults us h within l c valid file = by s.0.seen refl
    where
      s : (f : FileSight) × IsIn f l.sights × (f.path ≡ joined dir h.name)
      s = in_unmap (λ (f : FileSight). f.path) (joined dir h.name) l.sights (subst (IsIn (joined dir h.name)) (sym l.each) (to_path dir ns h.name (in_from h.name ns c) (subst (λ (y : Path). path_fault y ≡ None) h.named valid)))

      same : s.0.path ≡ x
      same = s.2 ∙ sym h.named

      by : (o : Option (Option Seen)) → s.0.seen ≡ o → IsIn x files ⊎ IsTakenAway faults dir x
      by None e = inr (inl (subst (IsIn (fault.Call call.Look x)) (sym l.faults_are) (to_flat sight_fault l.sights s.0 (fault.Call call.Look x) s.1 (subst (λ (y : Path). IsIn (fault.Call call.Look y) (sight_fault s.0)) same (subst (λ (z : Option (Option Seen)). IsIn (fault.Call call.Look s.0.path) (fault_by s.0.path z)) (sym e) (inl refl))))))
      by (Some look) e = inl (subst (IsIn x) (sym l.files_are) (to_flat sight_file l.sights s.0 x s.1 (subst (λ (y : Path). IsIn y (sight_file s.0)) same (subst (λ (z : Option (Option Seen)). IsIn s.0.path (file_by s.0.path z)) (sym e) (is_file_path s.0.path look saw)))))
        where
          one : IsOne (entry.Look s.0.path look)
          one = within (entry.Look s.0.path look) (subst (IsIn (entry.Look s.0.path look)) (sym l.looks) (to_flat file_looks l.sights s.0 (entry.Look s.0.path look) s.1 (subst (λ (z : Option (Option Seen)). IsIn (entry.Look s.0.path look) (look_by s.0.path z)) (sym e) (inl refl))))

          saw : IsFile look
          saw = saw_it s.0.path look one (subst (IsFileAt (names (world p))) (sym same) file)

  taken_call : (dir x : Path) (knd : CallKind) (path : Path) (files : List Path) (faults : List Fault) (us : List Entry) → ((e : Entry) → IsIn e us → IsOne e) → faults ≡ fault.Call knd path ∷ [] → NotListedAt dir knd path us → path_fault dir ≡ None → IsNameIn dir x → IsFileAt (names (world p)) x → IsIn x files ⊎ IsTakenAway faults dir x
  taken_call dir x call.Look path files faults us within e h valid n file = ⊎_elim
      (λ own. inr (inr (call.Look, subst (IsIn (fault.Call call.Look dir)) (sym e) (inl (ap (λ (y : Path). fault.Call call.Look y) own.0)))))
      (λ up. absurd (no_dir IsNothing dir x us (λ o none d. subst IsDir none d) within up.1 valid n file)) h
  taken_call dir x call.List path files faults us within e h valid n file = inr (inr (call.List, subst (IsIn (fault.Call call.List dir)) (sym e) (inl (ap (λ (y : Path). fault.Call call.List y) h.0))))
  taken_call dir x call.Begin path files faults us within e h valid n file = absurd h
  taken_call dir x call.Read path files faults us within e h valid n file = absurd h
  taken_call dir x call.Rename path files faults us within e h valid n file = absurd h
  taken_call dir x call.Make path files faults us within e h valid n file = absurd h
  taken_call dir x call.Append path files faults us within e h valid n file = absurd h
  taken_call dir x call.Truncate path files faults us within e h valid n file = absurd h
  taken_call dir x call.Unlink path files faults us within e h valid n file = absurd h
  taken_call dir x call.Sync path files faults us within e h valid n file = absurd h
  taken_call dir x call.MakeDir path files faults us within e h valid n file = absurd h
  taken_call dir x call.Run path files faults us within e h valid n file = absurd h

  dir_stood : (dir x : Path) (files : List Path) (faults : List Fault) (us : List Entry) → ((e : Entry) → IsIn e us → IsOne e) → ShowsFilesIn dir files faults us → path_fault dir ≡ None → IsNameIn dir x → path_fault x ≡ None → IsFileAt (names (world p)) x → IsIn x files ⊎ IsTakenAway faults dir x
  dir_stood dir x files faults us within (listed true parent ns t) path h valid file =
      looked_stood dir x ns files faults t.back h (λ e i. within e (subst (IsIn e) (sym t.joined) (in_back e t.front t.back i))) t.second (Contains-permutation l.listed ns h.name l.same (was_listed dir x l.listed h file one)) valid file
    where
      l : HasListed dir ns t.first.1.back
      l = t.first.1.second

      one : IsOne (entry.List dir l.listed)
      one = within (entry.List dir l.listed) (subst (IsIn (entry.List dir l.listed)) (sym t.joined) (in_front (entry.List dir l.listed) t.front t.back (subst (IsIn (entry.List dir l.listed)) (sym t.first.1.joined) (in_back (entry.List dir l.listed) t.first.1.front t.first.1.back (subst (IsIn (entry.List dir l.listed)) (sym l.list) (inl refl))))))
  dir_stood dir x files faults us within (listed false parent ns t) path h valid file = absurd (no_dir IsNothing dir x t.first.1.front (λ o none d. subst IsDir none d) (λ e i. within e (subst (IsIn e) (sym t.joined) (in_front e t.front t.back (subst (IsIn e) (sym t.first.1.joined) (in_front e t.first.1.front t.first.1.back i))))) t.first.1.first path h file)
  dir_stood dir x files faults us within (not_listed knd at e f h) path n valid file = taken_call dir x knd at files faults us within f h path n file
  dir_stood dir x files faults us within (no_directory at e f h) path n valid file = absurd (no_dir IsNoDir dir x us other within h.1 path n file)
    where
      other : (o : Option Seen) → IsNoDir o → IsDir o → ⊥
      other None h d = h
      other (Some seen) h d = h d

  dir_came : (dir x : Path) (files : List Path) (faults : List Fault) (us : List Entry) → ((e : Entry) → IsIn e us → IsOne e) → ShowsFilesIn dir files faults us → IsIn x files → IsNameIn dir x × StoodOrCame x p q
  dir_came dir x files faults us within (listed true parent ns t) i = (record { name = n.0; part = is_part dir l.listed n.0 list (Contains-permutation ns l.listed n.0 (IsPermutation-sym l.listed ns l.same) (in_to n.0 ns n.1)); named = sym saw.same ∙ sym n.2 }, came x saw.look saw.is_file look)
    where
      l : HasListed dir ns t.first.1.back
      l = t.first.1.second

      list : IsOne (entry.List dir l.listed)
      list = within (entry.List dir l.listed) (subst (IsIn (entry.List dir l.listed)) (sym t.joined) (in_front (entry.List dir l.listed) t.front t.back (subst (IsIn (entry.List dir l.listed)) (sym t.first.1.joined) (in_back (entry.List dir l.listed) t.first.1.front t.first.1.back (subst (IsIn (entry.List dir l.listed)) (sym l.list) (inl refl))))))

      f : (s : FileSight) × IsIn s t.second.sights × IsIn x (sight_file s)
      f = of_flat sight_file t.second.sights x (subst (IsIn x) t.second.files_are i)

      saw : SawFileBy f.0.path x f.0.seen
      saw = file_by_look f.0.path x f.0.seen f.2

      look : IsOne (entry.Look x (Some saw.look))
      look = within (entry.Look x (Some saw.look)) (subst (IsIn (entry.Look x (Some saw.look))) (sym t.joined) (in_back (entry.Look x (Some saw.look)) t.front t.back
          (subst (IsIn (entry.Look x (Some saw.look))) (sym t.second.looks) (to_flat file_looks t.second.sights f.0 (entry.Look x (Some saw.look)) f.1
          (subst (λ (y : Path). IsIn (entry.Look y (Some saw.look)) (file_looks f.0)) saw.same (subst (λ (z : Option (Option Seen)). IsIn (entry.Look f.0.path (Some saw.look)) (look_by f.0.path z)) (sym saw.saw) (inl refl)))))))

      n : (name : List ℕ) × IsIn name ns × (joined dir name ≡ f.0.path)
      n = of_path dir ns f.0.path (subst (IsIn f.0.path) t.second.each (in_map (λ (s : FileSight). s.path) f.0 t.second.sights f.1))
  dir_came dir x files faults us within (listed false parent ns t) i = absurd (
      let f : (s : FileSight) × IsIn s t.second.sights × IsIn x (sight_file s) = of_flat sight_file t.second.sights x (subst (IsIn x) t.second.files_are i) in
      let n = of_path dir ns f.0.path (subst (IsIn f.0.path) t.second.each (in_map (λ (s : FileSight). s.path) f.0 t.second.sights f.1)) in
      subst (IsIn n.0) t.first.0 n.1)
  dir_came dir x files faults us within (not_listed knd at e f h) i = absurd (subst (IsIn x) e i)
  dir_came dir x files faults us within (no_directory at e f h) i = absurd (subst (IsIn x) e i)

  -- ---- all of them

  module _ (dirs found : List Path) (faults : List Fault) (ts : List Entry) (within : (e : Entry) → IsIn e ts → IsOne e) (s : ShowsDirs dirs found faults ts) where
    shown : (d : DirSight) → IsIn d s.sights → IsShown d
    shown d i = All-contains IsShown s.sights d s.shown (in_to d s.sights i)

    inside : (d : DirSight) → IsIn d s.sights → (e : Entry) → IsIn e d.entries → IsOne e
    inside d i e j = within e (subst (IsIn e) (sym s.entries_are) (to_flat (λ (x : DirSight). x.entries) s.sights d e i j))

    all_stood : (dir x : Path) → IsIn dir dirs → path_fault dir ≡ None → IsNameIn dir x → path_fault x ≡ None → IsFileAt (names (world p)) x → IsIn x found ⊎ IsTakenAway faults dir x
    all_stood dir x i path h valid file = ⊎_elim
        (λ j. inl (subst (IsIn x) (sym s.files_are) (to_flat (λ (y : DirSight). y.files) s.sights d.0 x d.1 j)))
        (λ taken. ⊎_elim (λ l. inr (inl (more (fault.Call call.Look x) l))) (λ k. inr (inr (k.0, more (fault.Call k.0 dir) k.1))) taken)
        (dir_stood dir x d.0.files d.0.faults d.0.entries (inside d.0 d.1) (subst (λ (y : Path). ShowsFilesIn y d.0.files d.0.faults d.0.entries) d.2 (shown d.0 d.1)) path h valid file)
      where
        d : (y : DirSight) × IsIn y s.sights × (y.dir ≡ dir)
        d = in_unmap (λ (y : DirSight). y.dir) dir s.sights (subst (IsIn dir) (sym s.each) i)

        more : (f : Fault) → IsIn f d.0.faults → IsIn f faults
        more f j = subst (IsIn f) (sym s.faults_are) (to_flat (λ (y : DirSight). y.faults) s.sights d.0 f d.1 j)

    all_came : (x : Path) → IsIn x found → (dir : Path) × IsIn dir dirs × IsNameIn dir x × StoodOrCame x p q
    all_came x i = (d.0.dir, subst (IsIn d.0.dir) s.each (in_map (λ (y : DirSight). y.dir) d.0 s.sights d.1), c.0, c.1)
      where
        d : (y : DirSight) × IsIn y s.sights × IsIn x y.files
        d = of_flat (λ (y : DirSight). y.files) s.sights x (subst (IsIn x) s.files_are i)

        c : IsNameIn d.0.dir x × StoodOrCame x p q
        c = dir_came d.0.dir x d.0.files d.0.faults d.0.entries (inside d.0 d.1) (shown d.0 d.1) d.2

    pub true_files : (files : List Path) → ((dir : Path) → IsIn dir dirs → path_fault dir ≡ None) → IsPermutation found files → AreTrueFiles dirs files faults p q
    true_files files paths same = record {
      stood = λ dir x i h valid file. ⊎_elim (λ j. inl (in_from x files (Contains-permutation found files x same (in_to x found j)))) (λ t. inr t) (all_stood dir x i (paths dir i) h valid file);
      came = λ x i. all_came x (in_from x found (Contains-permutation files found x (IsPermutation-sym found files same) (in_to x files i)));
    }
