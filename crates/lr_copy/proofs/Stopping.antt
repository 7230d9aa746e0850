-- The parts of a copy, one behind another, and where they break off.
use Rattle.std.proofs.Common.{◌≡◌, refl, ℕ, Bool, true, false, cond, List, [], ◌∷◌, ◌++◌, Option, Result, Ok, Err, OnOk, IfErr}
use Rattle.lr_host.specs.declared.entry.Entry.{Entry}
use Rattle.lr_host.specs.declared.journal.Journal.{Journal}
use Rattle.lr_host.specs.Told.{Left, Are}
use Rattle.lr_host.proofs.Left.{left_first, left_as, left_both, are_on}
use Rattle.lr_copy.specs.declared.job.Job.{Job}
use Rattle.lr_copy.specs.declared.job.CopyStop.{CopyStop}
use Rattle.lr_copy.specs.Copying.{opening, Fills, naming, closing, Copied}
use Rattle.lr_copy.specs.Stops.{OpenStopped, FillStopped, CutStopped, CloseStopped, at_cut, CopyStopped, at_open, at_fill, at_close}

-- ---- what is made where it is asked for

pub left_none : (b : Bool) (e : Entry) (o : Option Journal) → b ≡ false → Left (Are (cond b (e ∷ []) [])) o o
left_none true e o is = absurd (cc)
left_none false e o is = left_first (Are []) o refl

pub left_asked : (b : Bool) (e : Entry) {o n : Option Journal} → b ≡ true → Left (λ ts. ts ≡ e ∷ []) o n → Left (Are (cond b (e ∷ []) [])) o n
left_asked true e is l = l
left_asked false e is l = absurd (cc)

-- ---- by answers

pub then_ok : (r : Result (Unit {0}) CopyStop) (xs ys : List Entry) {o m : Option Journal} (n : Option Journal) → Left (Are xs) o m → OnOk r (Left (Are ys) m n) → OnOk r (Left (Are (xs ++ ys)) o n)
then_ok (Ok done) xs ys n l k = are_on l k
then_ok (Err why) xs ys n l k = tt

pub cut_refused : (r : Result (Unit {0}) CopyStop) (job : Job) {o m : Option Journal} (n : Option Journal) → Left (Are (naming job)) o m → IfErr r (λ stop. Left (CutStopped job stop) m n) → IfErr r (λ stop. Left (CloseStopped job stop) o n)
cut_refused (Ok done) job n l k = tt
cut_refused (Err why) job n l k = left_as (left_both l k) (λ ts h. at_cut h)

-- ---- the whole

pub whole : (job : Job) (count : ℕ) {o m n k : Option Journal} → Left (Are (opening job)) o m → Left (Fills job count) m n → Left (Are (closing job)) n k → Left (Copied job count) o k
whole job count a b c = left_both a (left_both b c)

pub stops_open : (job : Job) (why : CopyStop) {o n : Option Journal} → Left (OpenStopped job why) o n → Left (CopyStopped job why) o n
stops_open job why l = left_as l (λ ts h. at_open h)

pub stops_fill : (job : Job) (why : CopyStop) {o m n : Option Journal} → Left (Are (opening job)) o m → Left (FillStopped job why) m n → Left (CopyStopped job why) o n
stops_fill job why a b = left_as (left_both a b) (λ ts h. at_fill h)

pub stops_close : (job : Job) (count : ℕ) (why : CopyStop) {o m n k : Option Journal} → Left (Are (opening job)) o m → Left (Fills job count) m n → Left (CloseStopped job why) n k → Left (CopyStopped job why) o k
stops_close job count why a b c = left_as (left_both a (left_both b c)) (λ ts h. at_close count h)
