-- What words are told of ends no run.
use Rattle.std.proofs.Common.{◌≡◌, ◌+◌, ◌-◌, inl, inr, ⊎_elim, ℕ, Bool, true, false, cond, List, [], ◌∷◌, length, Ok, Err, sym, subst}
use Rattle.lr_rules.specs.declared.fault.CallKind.{CallKind}
use Rattle.lr_rules.specs.declared.fault.CallKind.TheVariants as call
use Rattle.lr_rules.specs.declared.fault.Fault.TheVariants as fault
use Rattle.lr_rules.specs.declared.path.Path.{Path}
use Rattle.lr_host.specs.declared.entry.Entry.{Entry}
use Rattle.lr_glob.specs.declared.found.GlobStop.TheVariants as stop
use Rattle.lr_glob.specs.declared.visit.VisitStop.{VisitStop}
use Rattle.lr_glob.specs.declared.visit.VisitStop.TheVariants as visit
use Rattle.lr_glob.specs.Stops.{glob_stop, RoundBroken, NotFollowed}
use Rattle.lr_glob.specs.Words.{WordCallFailed, at_literal, at_visit, at_look}
use Rattle.lr_looks.specs.Asked.{AskedWord}
use Rattle.lr_looks.specs.Sights.{WordSight, missing, sight_faults, all_sight_faults, found_by, ShowsWord, ShowWords}
use Rattle.lr_laws_plan.specs.Ending.{NoneEnds}
use Rattle.lr_laws_plan.proofs.Ends.{none_both, IsLooking, looking_ends}

-- ---- a call that failed

visit_looks : (cause : VisitStop) (dir : Path) (k : CallKind) (path : Path) → stop.Call k path ≡ glob_stop cause dir → IsLooking k
visit_looks visit.Look dir k path e = let same : k ≡ call.Look = cc in subst IsLooking (sym same) tt
visit_looks visit.List dir k path e = let same : k ≡ call.List = cc in subst IsLooking (sym same) tt
visit_looks visit.Memory dir k path e = absurd (cc)

no_memory : (k : CallKind) (path : Path) → stop.Call k path ≡ stop.Memory → ⊥
no_memory k path e = cc

round_looks : (dirs : List Path) (k : CallKind) (path : Path) (ts : List Entry) → RoundBroken dirs (stop.Call k path) ts → IsLooking k
round_looks dirs k path ts (inl b) = visit_looks b.cause b.dir k path b.told
round_looks dirs k path ts (inr b) = absurd (no_memory k path b.told)

followed_looks : (part : List ℕ) (dirs : List Path) (k : CallKind) (path : Path) (ts : List Entry) → NotFollowed part dirs (stop.Call k path) ts → IsLooking k
followed_looks part dirs k path ts n = ⊎_elim (λ a. round_looks dirs k path ts a.1) (λ b. absurd (no_memory k path b.0)) n.asked

call_looks : (word : List ℕ) (k : CallKind) (path : Path) (ts : List Entry) → WordCallFailed word k path ts → IsLooking k
call_looks word k path ts (at_literal plain is at none) = subst IsLooking (sym is) tt
call_looks word k path ts (at_visit wild n) = followed_looks n.part n.between k path n.entries.back n.entries.second
call_looks word k path ts (at_look wild is s) = subst IsLooking (sym is) tt

-- ---- one word, and all

missing_none : (state : Path) (w : AskedWord) → NoneEnds state (missing w)
missing_none state w = go w.rule.missingok
  where
    go : (b : Bool) → NoneEnds state (cond b [] (fault.Missing w.text ∷ []))
    go true = tt
    go false = ((λ e. e), tt)

word_none : (state : Path) (w : AskedWord) (room : ℕ) (s : WordSight) (ts : List Entry) → ShowsWord w room s ts → NoneEnds state (sight_faults w s)
word_none state w room (Ok []) ts h = missing_none state w
word_none state w room (Ok (m ∷ ms)) ts h = tt
word_none state w room (Err (stop.Call k path)) ts h = (looking_ends state k path (call_looks w.text k path ts h), tt)
word_none state w room (Err stop.LongName) ts h = ((λ e. e), tt)
word_none state w room (Err stop.TooMany) ts h = ((λ e. e), tt)
word_none state w room (Err stop.Memory) ts h = tt

pub words_none : (state : Path) (n : ℕ) (words : List AskedWord) (sights : List WordSight) (ts : List Entry) → ShowWords n words sights ts → NoneEnds state (all_sight_faults words sights)
words_none state n [] [] ts h = tt
words_none state n [] (s ∷ ss) ts h = absurd h
words_none state n (w ∷ ws) [] ts h = absurd h
words_none state n (w ∷ ws) (s ∷ ss) ts h = none_both state (sight_faults w s) (all_sight_faults ws ss) (word_none state w (16_384 - n) s h.front h.first) (words_none state (n + length (found_by w s)) ws ss h.back h.second)
