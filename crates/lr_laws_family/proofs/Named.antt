-- The copy from its last read on, up to its final path.
use Rattle.std.proofs.Common.{◌≡◌, ◌≢◌, ⊎_elim, ◌<◌, ◌+◌, ℕ, refl, sym, ◌∙◌, ap, subst, arith, List, [], ◌∷◌, ◌++◌, length, reverse, append_assoc, append-nil}
use Rattle.std.proofs.lemmas.List.{reverse-reverse}
use Rattle.lr_rules.specs.declared.path.Path.{Path}
use Rattle.lr_host.specs.declared.thing.Thing.{Thing}
use Rattle.lr_host.specs.declared.thing.Thing.TheVariants as thing
use Rattle.lr_host.specs.declared.entry.Entry.{Entry}
use Rattle.lr_host.specs.declared.entry.Entry.TheVariants as entry
use Rattle.lr_host.specs.Fits.{Fits, GivesPiece}
use Rattle.lr_host.specs.Opening.{IsJournal}
use Rattle.lr_host.specs.Quiet.{AttachedOnlySince, from_here, further}
use Rattle.lr_host.specs.Safe.{IsMachines, IsPrefix}
use Rattle.lr_host.specs.Told.{Each, Made, at_first, by_tool}
use Rattle.lr_host.specs.World.{Past, ◌▸◌, world, names, put}
use Rattle.lr_host.proofs.Looked.{nothing_no_file}
use Rattle.lr_host.proofs.Made.{made_on, made_journal}
use Rattle.lr_host.proofs.Names.{put_cases, put_here}
use Rattle.lr_laws.proofs.Disk.{cut_leaves, fits_closed}
use Rattle.lr_copy.specs.declared.job.Job.{Job}
use Rattle.lr_copy.specs.Bytes.{Copying}
use Rattle.lr_copy.specs.Copying.{clearing}
use Rattle.lr_copy.specs.Fits.{ArePaths}
use Rattle.lr_laws.proofs.Files.{IsGuarded, IsSynced, cut_whole}
use Rattle.lr_laws.proofs.Leaving.{Lasts}
use Rattle.lr_laws.proofs.Lists.{At, at, made_prefix, prefix_on}
use Rattle.lr_laws.proofs.Parts.{IsOwn, own_waits, own_sync, own_walk}
use Rattle.lr_laws.proofs.Syncs.{synced_durable}
use Rattle.lr_laws.proofs.Walks.{IsSafeFile, named_walk, safe_walk}
use Rattle.lr_laws_family.specs.Whole.{Named, WritersSpareCopy, Has, IsCopyWhole}
use Rattle.lr_laws_family.proofs.Logs.{LeavesLog, HasMore, log_walk}
use Rattle.lr_laws_family.proofs.Moments.{is_unread}
use Rattle.lr_laws_family.proofs.Filled.{IsSoFar, made_own, read_none, read_file, so_far, under_copies}

-- ---- the rename

-- the file has the final path
renamed_own : (part to : Path) (h : ℕ) (bytes : List ℕ) (r : Past) → IsOwn part h bytes r → IsSynced h bytes (world r) → IsOwn to h bytes (r ▸ entry.Renames part to) × IsSafeFile to h bytes (r ▸ entry.Renames part to)
renamed_own part to h bytes r own synced = (record { named = put_here (put (names (world r)) part thing.Nothing) to to (names (world r) part) refl ∙ own.named; guarded = guarded }, (guarded, synced))
  where
    known : h < (world r).drawn → h < (world r).drawn + 0
    known lt = omega arith

    only : (y : Path) → put (put (names (world r)) part thing.Nothing) to (names (world r) part) y ≡ thing.File h → y ≡ to
    only y e = ⊎_elim (λ here. here.0) (λ old. ⊎_elim (λ gone. absurd (nothing_no_file thing.Nothing h refl gone.1)) (λ other. absurd (other.0 (own.guarded.only y other.1))) (put_cases (names (world r)) part thing.Nothing y (thing.File h) old.1)) (put_cases (put (names (world r)) part thing.Nothing) to (names (world r) part) y (thing.File h) e)

    guarded : IsGuarded to h bytes (world (r ▸ entry.Renames part to))
    guarded = record { known = known own.guarded.known; only = only; unheld = own.guarded.unheld; has = own.guarded.has }

-- ---- a cut

-- keeps a path that is durable, and a file that is synced
cut_has : (x : Path) (g : ℕ) (bytes : List ℕ) (q : Past) → Lasts (λ n. n x ≡ thing.File g) q → IsSafeFile x g bytes q → (c : Entry) → IsMachines c → Fits (world q) c → Has x g bytes (q ▸ c)
cut_has x g bytes q lasts safe (entry.Cut kept lengths) i f = record {
  named = lasts _ _ (cut_leaves (world q) kept lengths (fits_closed (world q) (entry.Cut kept lengths) f));
  bytes_are = cut_whole (world q) _ lengths x g bytes f.within safe.0 safe.1;
}
cut_has x g bytes q lasts safe _ i f = absurd i

-- ---- from the last read on

module _ (P : Path → Type 0) (job : Job) (paths : ArePaths job) (far_part : (y : Path) → P y → y ≢ job.part) (far_to : (y : Path) → P y → y ≢ job.to) where
  -- the entries behind the last read
  abbrev behind : List Entry
  behind = entry.SyncsFile job.part ∷ entry.Renames job.part job.to ∷ entry.SyncsDir job.dir ∷ []

  -- the copy, now and after each cut
  record IsNamed (h : ℕ) (bytes : List ℕ) (q : Past) : Type 0 where
    copied : Has job.to h bytes q
    cut : (c : Entry) → IsMachines c → Fits (world q) c → Has job.to h bytes (q ▸ c)

  is_named : (h : ℕ) (bytes : List ℕ) (b q : Past) → Made b (reverse behind) q → AttachedOnlySince P b q → IsOwn job.part h bytes b → IsNamed h bytes q
  is_named h bytes b q m only own = synced (at P b q [] (entry.SyncsFile job.part) (entry.Renames job.part job.to ∷ entry.SyncsDir job.dir ∷ []) tt m only)
    where
      named : (r : Past) → Made (r ▸ entry.Renames job.part job.to) (entry.SyncsDir job.dir ∷ []) q → AttachedOnlySince P (r ▸ entry.Renames job.part job.to) q → IsOwn job.to h bytes (r ▸ entry.Renames job.part job.to) × IsSafeFile job.to h bytes (r ▸ entry.Renames job.part job.to)
          → At P (r ▸ entry.Renames job.part job.to) q [] (entry.SyncsDir job.dir) [] → IsNamed h bytes q
      named r m only own d =
          let here : IsOwn job.to h bytes q = own_walk P job.to h far_to bytes (r ▸ entry.Renames job.part job.to) q (entry.SyncsDir job.dir ∷ []) m only ((tt, refl), tt) own.0 in
          let safe : IsSafeFile job.to h bytes q = safe_walk P job.to h bytes (r ▸ entry.Renames job.part job.to) q (entry.SyncsDir job.dir ∷ []) far_to m only (tt, tt) own.1 in
          let then_own : IsOwn job.to h bytes d.mid = own_waits P job.to h far_to bytes (r ▸ entry.Renames job.part job.to) d.mid d.first d.only_first own.0 in
          let lasts : Lasts (λ n. n job.to ≡ thing.File h) q = named_walk P job.to (thing.File h) (d.mid ▸ entry.SyncsDir job.dir) q [] far_to d.second d.only_second tt
          (λ n undone l. synced_durable d.mid job.dir job.to (sym paths.dir_is) n undone l ∙ then_own.named) in
          record { copied = record { named = here.named; bytes_are = here.guarded.has }; cut = cut_has job.to h bytes q lasts safe }

      renamed : (s : Past) → IsOwn job.part h bytes s × IsSynced h bytes (world s) → At P s q [] (entry.Renames job.part job.to) (entry.SyncsDir job.dir ∷ []) → IsNamed h bytes q
      renamed s own t =
          let part : IsOwn job.part h bytes t.mid = own_waits P job.part h far_part bytes s t.mid t.first t.only_first own.0 in
          let safe : IsSafeFile job.part h bytes t.mid = safe_walk P job.part h bytes s t.mid [] far_part t.first t.only_first tt (own.0.guarded, own.1) in
          named t.mid t.second t.only_second (renamed_own job.part job.to h bytes t.mid part safe.1) (at P (t.mid ▸ entry.Renames job.part job.to) q [] (entry.SyncsDir job.dir) [] tt t.second t.only_second)

      synced : At P b q [] (entry.SyncsFile job.part) (entry.Renames job.part job.to ∷ entry.SyncsDir job.dir ∷ []) → IsNamed h bytes q
      synced s =
          let done = own_sync P job.part h far_part bytes s.mid (own_waits P job.part h far_part bytes b s.mid s.first s.only_first own) in
          renamed (s.mid ▸ entry.SyncsFile job.part) done (at P (s.mid ▸ entry.SyncsFile job.part) q [] (entry.Renames job.part job.to) (entry.SyncsDir job.dir ∷ []) tt s.second s.only_second)

  -- ---- the whole

  -- the entries, in order, with those of the copying in their midst
  record IsFlat (count : ℕ) (ts : List Entry) : Type 0 where
    bytes : List ℕ
    copying : List Entry
    copies : Copying job.from job.part bytes [] copying
    ts_are : ts ≡ clearing job ++ (entry.Makes job.part job.mode ∷ (copying ++ (entry.Reads job.from (length bytes) [] ∷ behind)))

  flat : (count : ℕ) (ts : List Entry) → Named job count ts → IsFlat count ts
  flat count ts n =
      let f = n.second.first in
      let c = f.first in
      let ends = entry.Reads job.from (length c.bytes) [] ∷ [] in record {
        bytes = c.bytes;
        copying = c.entries.front;
        copies = c.entries.first;
        ts_are = n.joined ∙ (ap (λ us. us ++ n.back) n.first ∙ (append_assoc (clearing job) (entry.Makes job.part job.mode ∷ []) n.back ∙ ap (λ us. clearing job ++ (entry.Makes job.part job.mode ∷ us))
            (n.second.joined ∙ (ap (λ us. us ++ n.second.back) f.joined ∙ (append_assoc f.front f.back n.second.back ∙ (ap (λ us. f.front ++ (us ++ n.second.back)) f.second ∙ (ap (λ us. f.front ++ (entry.SyncsFile job.part ∷ us)) n.second.second
            ∙ (ap (λ us. us ++ behind) (c.entries.joined ∙ ap (λ us. c.entries.front ++ us) c.entries.second) ∙ append_assoc c.entries.front ends behind))))))));
      }

  module _ (count : ℕ) (p q : Past) (ts : List Entry) (j : IsJournal p) (only : AttachedOnlySince P p q) (f : IsFlat count ts) where
    abbrev ends : List Entry
    ends = entry.Reads job.from (length f.bytes) [] ∷ behind

    -- just before the last read
    whole_behind : (g : ℕ) (b : Past) → IsPrefix p b → IsJournal b → Fits (world b) (entry.Reads job.from (length f.bytes) []) → (h : ℕ) → IsSoFar job.from job.part g h f.bytes [] b → Made (b ▸ entry.Reads job.from (length f.bytes) []) (reverse behind) q
        → AttachedOnlySince P (b ▸ entry.Reads job.from (length f.bytes) []) q → IsCopyWhole job.from job.to p q
    whole_behind g b since k fits h s m only = record {
      log = g;
      copy = h;
      bytes = f.bytes;
      last = b;
      since = since;
      read = made_prefix (b ▸ e) q (reverse behind) m;
      unread = is_unread job.from (b ▸ e) q (reverse behind) m (tt, (tt, (tt, tt)));
      log_then = has;
      later = r.later;
      fed = r.fed;
      log_now = r.has;
      copied = c.copied;
      cut = c.cut;
    }
      where
        e : Entry
        e = entry.Reads job.from (length f.bytes) []

        gives : GivesPiece (world b) (thing.File g) (length f.bytes) []
        gives = subst (λ (t : Thing). GivesPiece (world b) t (length f.bytes) []) s.log.named fits

        has : Has job.from g f.bytes b
        has = record { named = s.log.named; bytes_are = read_none f.bytes s.rest ((world b).files g).bytes s.log.bytes_are gives }

        one : Made b (e ∷ []) (b ▸ e)
        one = by_tool at_first tt fits

        each : Each (LeavesLog job.from) (reverse behind ++ e ∷ [])
        each = ((tt, λ i. i), ((paths.part_apart, λ i. ⊎_elim (λ e. paths.part_apart e) (λ j. ⊎_elim (λ e. paths.to_apart e) (λ n. n) j) i), ((tt, λ i. i), ((tt, λ i. i), tt))))

        r : HasMore job.from g f.bytes b q
        r = log_walk job.from g f.bytes b q (reverse behind ++ e ∷ []) k (made_on b (b ▸ e) q (e ∷ []) (reverse behind) one m) each has

        own : IsOwn job.part h f.bytes (b ▸ e)
        own = own_walk P job.part h far_part f.bytes b (b ▸ e) (e ∷ []) one (only_one b) ((tt, refl), tt) (subst (λ (xs : List ℕ). IsOwn job.part h xs b) (sym (append-nil s.taken) ∙ s.same) s.own)
          where
            only_one : (b : Past) → AttachedOnlySince P b (b ▸ e)
            only_one b = further from_here tt

        c : IsNamed h f.bytes q
        c = is_named h f.bytes (b ▸ e) q m only own

    whole_at : Made p (reverse (clearing job ++ (entry.Makes job.part job.mode ∷ (f.copying ++ ends)))) q → IsCopyWhole job.from job.to p q
    whole_at m = made (at P p q (clearing job) (entry.Makes job.part job.mode) (f.copying ++ ends) tt m only)
      where
        made : At P p q (clearing job) (entry.Makes job.part job.mode) (f.copying ++ ends) → IsCopyWhole job.from job.to p q
        made a = read (at P r q f.copying (entry.Reads job.from (length f.bytes) []) behind tt a.second a.only_second)
          where
            e : Entry
            e = entry.Makes job.part job.mode

            r : Past
            r = a.mid ▸ e

            k : IsJournal a.mid
            k = made_journal p a.mid (reverse (clearing job)) a.first j

            one : Made a.mid (e ∷ []) r
            one = by_tool at_first tt a.fits

            read : At P r q f.copying (entry.Reads job.from (length f.bytes) []) behind → IsCopyWhole job.from job.to p q
            read b = behind_it (so_far job.from job.part (world a.mid).drawn f.bytes b.mid (read_file b.mid job.from (length f.bytes) [] b.fits)
                (under_copies P job.from job.part (world a.mid).drawn far_part paths.part_apart f.bytes [] f.copying f.copies r b.mid k_next b.first b.only_first (made_own a.mid job.part job.mode k)))
              where
                k_next : IsJournal r
                k_next = made_journal a.mid r (e ∷ []) one k

                behind_it : (g : ℕ) × IsSoFar job.from job.part g (world a.mid).drawn f.bytes [] b.mid → IsCopyWhole job.from job.to p q
                behind_it l = whole_behind l.0 b.mid (prefix_on p r b.mid (made_prefix p r (e ∷ reverse (clearing job)) (by_tool a.first tt a.fits)) (made_prefix r b.mid (reverse f.copying) b.first))
                    (made_journal r b.mid (reverse f.copying) b.first k_next) b.fits (world a.mid).drawn l.1 b.second b.only_second

pub whole : (job : Job) (count : ℕ) (p q : Past) (es : List Entry) → Made p es q → IsJournal p → ArePaths job → WritersSpareCopy job p q → Named job count (reverse es) → IsCopyWhole job.from job.to p q
whole job count p q es m j paths only n = go (flat P job paths far_part far_to count (reverse es) n)
  where
    P : Path → Type 0
    P x = (x ≢ job.part) × (x ≢ job.to)

    far_part : (y : Path) → P y → y ≢ job.part
    far_part y s = s.0

    far_to : (y : Path) → P y → y ≢ job.to
    far_to y s = s.1

    go : IsFlat P job paths far_part far_to count (reverse es) → IsCopyWhole job.from job.to p q
    go f = whole_at P job paths far_part far_to count p q (reverse es) j only f (subst (λ (xs : List Entry). Made p xs q) (sym (reverse-reverse es) ∙ ap reverse f.ts_are) m)
