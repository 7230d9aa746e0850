-- Where the renames of a rotation break off.
use Rattle.std.proofs.Common.{◌≡◌, ◌⊎◌, inl, inr, ⊎_elim, ℕ, ◌+◌, ◌<◌, List, [], ◌∷◌, ◌++◌, length, map, take, drop, get_or, Option, refl, sym, ap, ◌∙◌, subst, append_assoc}
use Rattle.std.proofs.lemmas.List.{append-nil, drop_more, take-append-drop, map-append}
use Rattle.lr_rules.specs.declared.path.Path.{Path}
use Rattle.lr_rules.specs.declared.fault.CallKind.TheVariants as call
use Rattle.lr_host.specs.declared.entry.Entry.{Entry}
use Rattle.lr_host.specs.declared.entry.Entry.TheVariants.{Renames}
use Rattle.lr_host.specs.declared.journal.Journal.{Journal}
use Rattle.lr_host.specs.Told.{Left, Are, Can, Counts}
use Rattle.lr_host.specs.Steps.{CanAll}
use Rattle.lr_host.proofs.Left.{left_then, left_as, can_first}
use Rattle.lr_host.specs.Lists.{IsIn}
use Rattle.lr_host.proofs.Lists.{in_back, in_front}
use Rattle.lr_chain.specs.declared.ready.Move.{Move}
use Rattle.lr_chain.specs.declared.chain.ChainStop.{ChainStop}
use Rattle.lr_chain.specs.declared.chain.ChainStop.TheVariants as stop
use Rattle.lr_chain.specs.Ready.{move_step, dir_calls, BehindDir}
use Rattle.lr_chain.specs.Stops.{StopsAtStep, StopsFrom, ChainStopped, IsFrom, ChainCause}
use Rattle.lr_chain.proofs.Dirs.{behind_can, behind_then, behind_as}

-- the step behind these was refused
stops_behind : (before : List Entry) (e : Entry) (after xs ys : List Entry) → xs ≡ before → (ys ≡ []) ⊎ (ys ≡ e ∷ []) → StopsAtStep (before ++ e ∷ after) e (xs ++ ys)
stops_behind before e after xs ys p q = record {
  before = before;
  after = after;
  steps_are = refl;
  made = ⊎_elim (λ none. inl (ap (λ z. xs ++ z) none ∙ (append-nil xs ∙ p))) (λ one. inr (ap (λ x. x ++ ys) p ∙ ap (λ z. before ++ z) one)) q;
}

split_at : (moves : List Move) (at : ℕ) (x : Move) → x ≡ get_or moves at x → at < length moves → map move_step (take at moves) ++ move_step x ∷ map move_step (drop (at + 1) moves) ≡ map move_step moves
split_at moves at x is lt = sym (ap (map move_step) (sym (take-append-drop at moves)) ∙ (map-append move_step (take at moves) (drop at moves)
    ∙ ap (λ ys. map move_step (take at moves) ++ map move_step ys) (drop_more moves at x lt ∙ ap (λ y. y ∷ drop (at + 1) moves) (sym is))))

-- a move was refused
pub move_refused : (moves all : List Move) (at : ℕ) (x : Move) {o m n : Option Journal} → moves ≡ all → x ≡ get_or moves at x → at < length moves
    → Left (Are (map move_step (take at moves))) o m → Left (λ ts. (ts ≡ []) ⊎ (ts ≡ move_step x ∷ [])) m n → Left (StopsFrom (map move_step all) x.from) o n
move_refused moves all at x same is lt so_far now = left_then so_far now (λ xs ys p q. record {
  to = x.to;
  stops = subst (λ steps. StopsAtStep steps (move_step x) (xs ++ ys)) (split_at moves at x is lt ∙ ap (map move_step) same) (stops_behind (map move_step (take at moves)) (move_step x) (map move_step (drop (at + 1) moves)) xs ys p q);
})

-- the log's rename was refused
pub last_refused : (d : Option (Path × Option ℕ)) (moves : List Move) (log target : Path) {o m n : Option Journal} → Left (BehindDir d (Are (map move_step moves))) o m → Left (λ ts. (ts ≡ []) ⊎ (ts ≡ Renames log target ∷ [])) m n
    → Left (BehindDir d (StopsFrom (map move_step moves ++ Renames log target ∷ []) log)) o n
last_refused d moves log target so_far now = behind_then d (Are (map move_step moves)) (λ ts. (ts ≡ []) ⊎ (ts ≡ Renames log target ∷ [])) (StopsFrom (map move_step moves ++ Renames log target ∷ []) log) so_far now (λ xs ys p q. record { to = target; stops = stops_behind (map move_step moves) (Renames log target) [] xs ys p q })

-- what was refused among the first steps was so among all
at_more : (xs ys : List Entry) (e : Entry) (ts : List Entry) → StopsAtStep xs e ts → StopsAtStep (xs ++ ys) e ts
at_more xs ys e ts s = record {
  before = s.before;
  after = s.after ++ ys;
  steps_are = ap (λ zs. zs ++ ys) s.steps_are ∙ append_assoc s.before (e ∷ s.after) ys;
  made = s.made;
}

from_more : (xs ys : List Entry) (path : Path) (ts : List Entry) → StopsFrom xs path ts → StopsFrom (xs ++ ys) path ts
from_more xs ys path ts s = record { to = s.to; stops = at_more xs ys (Renames path s.to) ts s.stops }

stopped_more : (d : Option (Path × Option ℕ)) (xs ys : List Entry) (why : ChainStop) (ts : List Entry) → ChainStopped d xs why ts → ChainStopped d (xs ++ ys) why ts
stopped_more d xs ys (stop.Call call.Rename path) ts s = behind_as d (StopsFrom xs path.now) (StopsFrom (xs ++ ys) path.now) ts s (λ zs t. from_more xs ys path.now zs t)
stopped_more d xs ys (stop.Call _ path) ts s = s
stopped_more d xs ys (stop.NotFile path) ts s = s

pub left_more : (d : Option (Path × Option ℕ)) (xs ys : List Entry) (why : ChainStop) {o n : Option Journal} → Left (ChainStopped d xs why) o n → Left (ChainStopped d (xs ++ ys) why) o n
left_more d xs ys why l = left_as l (λ ts s. stopped_more d xs ys why ts s)

-- the last step fits behind the others, and its entry stands behind theirs
pub last_can : (d : Option (Path × Option ℕ)) (xs : List Entry) (e : Entry) {o m : Option Journal} → CanAll o (dir_calls d ++ (xs ++ e ∷ [])) → Left (BehindDir d (Are xs)) o m → Can m e
last_can d xs e can so_far = can_first e [] (behind_can d xs (e ∷ []) can so_far)

pub last_left : (d : Option (Path × Option ℕ)) (xs : List Entry) (e : Entry) {o m n : Option Journal} → Left (BehindDir d (Are xs)) o m → Left (Are (e ∷ [])) m n → Left (BehindDir d (Are (xs ++ e ∷ []))) o n
last_left d xs e so_far now = behind_then d (Are xs) (Are (e ∷ [])) (Are (xs ++ e ∷ [])) so_far now (λ ys zs p q. ap (λ ts. ts ++ zs) p ∙ ap (λ ts. xs ++ ts) q)

-- one of the steps
pub move_from : (moves all : List Move) (at : ℕ) (x : Move) → moves ≡ all → x ≡ get_or moves at x → at < length moves → IsFrom (map move_step all) x.from
move_from moves all at x same is lt =
    (x.to, subst (λ steps. IsIn (move_step x) steps) (split_at moves at x is lt ∙ ap (map move_step) same) (in_back (move_step x) (map move_step (take at moves)) ((move_step x) ∷ (map move_step (drop (at + 1) moves))) (inl refl)))

pub last_from : (moves : List Move) (log target : Path) → IsFrom (map move_step moves ++ Renames log target ∷ []) log
last_from moves log target = (target, in_back (Renames log target) (map move_step moves) ((Renames log target) ∷ []) (inl refl))

pub cause_more : (d : Option (Path × Option ℕ)) (xs ys : List Entry) (why : ChainStop) (before now : Counts) → ChainCause d xs why before now → ChainCause d (xs ++ ys) why before now
cause_more d xs ys (stop.Call call.Rename path) before now c = ((c.0.0, in_front (Renames path.now c.0.0) xs ys c.0.1), c.1)
cause_more d xs ys (stop.Call _ path) before now c = c
cause_more d xs ys (stop.NotFile path) before now c = c
