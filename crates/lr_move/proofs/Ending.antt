-- How a copy of a log that was set aside ends, and what a refusal leaves of the log.
use Rattle.std.proofs.Common.{◌≡◌, inl, inr, ⊎_elim, ℕ, refl, sym, ◌∙◌, ap, subst, false, List, [], ◌∷◌, ◌++◌, reverse, Option}
use Rattle.std.proofs.lemmas.List.{reverse-append, reverse-reverse}
use Rattle.lr_host.specs.declared.thing.Thing.TheVariants as thing
use Rattle.lr_host.specs.declared.entry.Entry.{Entry}
use Rattle.lr_host.specs.declared.entry.Entry.TheVariants.{Unlinks}
use Rattle.lr_host.specs.declared.journal.Journal.{Journal}
use Rattle.lr_host.specs.Fits.{IsFileAt}
use Rattle.lr_host.specs.Kept.{IsWhole}
use Rattle.lr_host.specs.Opening.{IsJournal}
use Rattle.lr_host.specs.Told.{Each, Made, Then, Maybe, Left, not_told, is_told, Can}
use Rattle.lr_host.specs.World.{Past, ◌▸◌, past, world, names}
use Rattle.lr_host.proofs.Each.{each_in_order, each_reverse}
use Rattle.lr_host.proofs.Left.{left_as, left_then}
use Rattle.lr_host.proofs.Made.{Cut, cut, CutAt, cut_one}
use Rattle.lr_laws.proofs.Counting.{whole_on}
use Rattle.lr_copy.specs.declared.job.Job.{Job}
use Rattle.lr_copy.specs.declared.job.CopyStop.{CopyStop}
use Rattle.lr_copy.specs.Copying.{Copied}
use Rattle.lr_copy.specs.Fits.{ArePaths, CanCopy}
use Rattle.lr_copy.specs.Stops.{CopyStopped}
use Rattle.lr_laws.proofs.Lists.{made_prefix, prefix_on}
use Rattle.lr_laws_family.specs.Whole.{Named}
use Rattle.lr_laws_family.proofs.Logs.{LeavesLog}
use Rattle.lr_move.specs.Finishing.{Finished, IsLastStop, FinishStopped, at_copy, at_last}
use Rattle.lr_move.specs.Waiting.{StaysWaiting, KeepsWaiting}
use Rattle.lr_move.proofs.LettingGo.{EndsThere}
use Rattle.lr_move.proofs.Sparing.{spared_named, spared_stopped, uncut_named}
use Rattle.lr_move.proofs.Waits.{named_on, whole_spared, whole_waits}

-- ---- the unlink fits behind the copy

pub can_let_go : (job : Job) (count : ℕ) {o m : Option Journal} → ArePaths job → job.cut ≡ false → CanCopy o job → Left (Copied job count) o m → Can m (Unlinks job.from)
can_let_go job count paths uncut can not_told = record { can = tt }
can_let_go job count paths uncut can (is_told {j = j} {k = k} {es = es} m h) = record { can = (stood.0, named_on job.from stood.0 (past j) (past k) es m spared stood.1) }
  where
    stood : IsFileAt (names (world (past j))) job.from
    stood = can.place.0.log

    spared : Each (LeavesLog job.from) es
    spared = each_in_order (LeavesLog job.from) es (spared_named job paths count (reverse es) (uncut_named job count (reverse es) uncut h))

-- ---- what is left

-- behind the copy the unlink came, with its entry or without
named_then : (job : Job) (count : ℕ) (P : List Entry → Type 0) {o m n : Option Journal} → job.cut ≡ false → Left (Copied job count) o m → Left P m n → Left (Then (Named job count) P) o n
named_then job count P uncut copied now = left_then copied now (λ xs ys p q. record { front = xs; back = ys; joined = refl; first = uncut_named job count xs uncut p; second = q })

pub finished : (job : Job) (count : ℕ) {o m n : Option Journal} → job.cut ≡ false → Left (Copied job count) o m → Left (λ ts. ts ≡ Unlinks job.from ∷ []) m n → Left (Finished job count) o n
finished job count uncut copied now = named_then job count (λ ts. ts ≡ Unlinks job.from ∷ []) uncut copied now

pub stops_copy : (job : Job) (why : CopyStop) {o n : Option Journal} → Left (CopyStopped job why) o n → Left (FinishStopped job why) o n
stops_copy job why l = left_as l (λ ts h. at_copy h)

pub stops_last : (job : Job) (count : ℕ) (why : CopyStop) {o m n : Option Journal} → job.cut ≡ false → IsLastStop job why → Left (Copied job count) o m → Left (Maybe (Unlinks job.from)) m n → Left (FinishStopped job why) o n
stops_last job count why uncut is copied now = left_as (named_then job count (Maybe (Unlinks job.from)) uncut copied now) (λ ts h. at_last count is h)

-- ---- so the log's unlink comes last

pub ends_finished : (job : Job) (count : ℕ) {o n : Option Journal} → Left (Finished job count) o n → Left (EndsThere job) o n
ends_finished job count l = left_as l (λ ts h. inr (count, record { front = h.front; back = h.back; joined = h.joined; first = h.first; second = inr h.second }))

stop_ends : (job : Job) (why : CopyStop) → ArePaths job → job.cut ≡ false → (ts : List Entry) → FinishStopped job why ts → EndsThere job ts
stop_ends job why paths uncut ts (at_copy h) = inl (spared_stopped job paths uncut why ts h)
stop_ends job why paths uncut ts (at_last count is h) = inr (count, h)

pub ends_stopped : (job : Job) (why : CopyStop) {o n : Option Journal} → ArePaths job → job.cut ≡ false → Left (FinishStopped job why) o n → Left (EndsThere job) o n
ends_stopped job why paths uncut l = left_as l (λ ts h. stop_ends job why paths uncut ts h)

-- ---- and the log waits still

module _ (job : Job) (why : CopyStop) (paths : ArePaths job) (g : ℕ) (p q : Past) (es : List Entry) (m : Made p es q) (j : IsJournal p) (n : names (world p) job.from ≡ thing.File g) where
  -- it was spared
  waits_spared : Each (LeavesLog job.from) es → StaysWaiting job why g p q
  waits_spared a = record { whole = λ h. whole_spared job.from g p q es j m a n h; named = inl (named_on job.from g p q es m a n) }

  -- behind its whole copy
  waits_last : (count : ℕ) → IsLastStop job why → Then (Named job count) (Maybe (Unlinks job.from)) (reverse es) → StaysWaiting job why g p q
  waits_last count is h = at_mid (cut p q es (reverse h.back) (reverse h.front) es_are m)
    where
      es_are : es ≡ reverse h.back ++ reverse h.front
      es_are = sym (reverse-reverse es) ∙ (ap reverse h.joined ∙ reverse-append h.front h.back)

      spared : Each (LeavesLog job.from) (reverse h.front)
      spared = each_reverse (LeavesLog job.from) h.front (spared_named job paths count h.front h.first)

      at_mid : Cut p q (reverse h.back) (reverse h.front) → StaysWaiting job why g p q
      at_mid c = ⊎_elim (λ none. still (subst (λ (ts : List Entry). Made c.mid (reverse ts) q) none c.second)) (λ one. gone (subst (λ (ts : List Entry). Made c.mid (reverse ts) q) one c.second)) h.second
        where
          here : names (world c.mid) job.from ≡ thing.File g
          here = named_on job.from g p c.mid (reverse h.front) c.first spared n

          kept : IsWhole p g → IsWhole c.mid g
          kept w = whole_spared job.from g p c.mid (reverse h.front) j c.first spared n w

          still : Made c.mid [] q → StaysWaiting job why g p q
          still l = record { whole = λ w. whole_waits g c.mid q l (kept w); named = inl (named_on job.from g c.mid q [] l tt here) }

          gone : Made c.mid (Unlinks job.from ∷ []) q → StaysWaiting job why g p q
          gone l = record {
            whole = λ w. whole_waits g (d.mid ▸ Unlinks job.from) q d.second (whole_on d.mid (Unlinks job.from) g (λ none. none) (whole_waits g c.mid d.mid d.first (kept w)));
            named = inr (is, (d.mid, prefix_on p c.mid d.mid (made_prefix p c.mid (reverse h.front) c.first) (made_prefix c.mid d.mid [] d.first), made_prefix (d.mid ▸ Unlinks job.from) q [] d.second));
          }
            where
              d : CutAt c.mid q [] (Unlinks job.from) []
              d = cut_one c.mid q (Unlinks job.from ∷ []) [] (Unlinks job.from) refl l

  waits : job.cut ≡ false → FinishStopped job why (reverse es) → StaysWaiting job why g p q
  waits uncut (at_copy h) = waits_spared (each_in_order (LeavesLog job.from) es (spared_stopped job paths uncut why (reverse es) h))
  waits uncut (at_last count is h) = waits_last count is h

pub waits_by : (job : Job) (why : CopyStop) {o n : Option Journal} → ArePaths job → job.cut ≡ false → Left (FinishStopped job why) o n → KeepsWaiting job why o n
waits_by job why paths uncut not_told = tt
waits_by job why paths uncut (is_told {j = j} {k = k} {es = es} m h) = λ journal g named. waits job why paths g (past j) (past k) es m journal named uncut h
