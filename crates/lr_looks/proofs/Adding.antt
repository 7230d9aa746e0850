-- A log that is added to those of its definition.
use Rattle.std.proofs.Common.{◌≡◌, ◌<◌, ◌+◌, ℕ, zero, suc, Bool, true, false, cond, eqb, List, [], ◌∷◌, ◌++◌, length, map, All, Option, slice_set, get_or, refl, sym, ap, ◌∙◌, subst, arith, eqb-true, eq-eqb, rules}
use Rattle.std.proofs.lemmas.Grind.{flat_map-append}
use Rattle.std.proofs.lemmas.List.{append-nil, map-append}
use Rattle.std.proofs.lemmas.List.Elements.{All-append, All-cons}
use Rattle.lr_plan.specs.declared.looks.LogLook.{LogLook}
use Rattle.lr_plan.specs.declared.looks.SetLooks.{SetLooks}
use Rattle.lr_family.specs.declared.stand.Stand.{Stand}
use Rattle.lr_host.specs.declared.thing.Seen.{Seen}
use Rattle.lr_rules.specs.declared.path.Path.{Path}
use Rattle.lr_looks.specs.Families.{LookedLog, looked_at}
use Rattle.lr_looks.specs.Found.{FoundLog}
use Rattle.lr_looks.specs.Ready.{EachLook}
use Rattle.lr_looks.specs.Sets.{where_in, of_set, looked_in, HaveLooksFrom}

differs : (j k : ℕ) → (j ≡ k → ⊥) → eqb j k ≡ false
differs j k ne = go (eqb j k) refl
  where
    go : (b : Bool) → eqb j k ≡ b → eqb j k ≡ false
    go true e = absurd (ne (eqb-true j k e))
    go false e = e

of_more : (k : ℕ) (logs : List LookedLog) (x : LookedLog) → of_set k (logs ++ x ∷ []) ≡ of_set k logs ++ where_in k x
of_more k logs x = flat_map-append (where_in k) logs (x ∷ []) ∙ ap (λ ls. of_set k logs ++ ls) (append-nil (where_in k x))

where_other : (k : ℕ) (x : LookedLog) → (k ≡ x.set → ⊥) → where_in k x ≡ []
where_other k x ne = ap (λ b. cond b (x ∷ []) []) (differs k x.set ne)

where_own : (k : ℕ) (x : LookedLog) → k ≡ x.set → where_in k x ≡ x ∷ []
where_own k x e = ap (λ b. cond b (x ∷ []) []) (eq-eqb k x.set e)

-- the log that is added is the one that was looked at
pub same_look : (f : FoundLog) (stand : Stand) (tmp : Option Seen) (path : Path) → path ≡ f.log.path
    → looked_at f stand tmp ≡ record { set = 0 + f.log.set; path = path; naming = f.log.naming; seen = f.seen; stand = stand; tmp = tmp }
same_look f stand tmp path e = ap (λ (x : Path). record { set = f.log.set; path = x; naming = f.log.naming; seen = f.seen; stand = stand; tmp = tmp }) (sym e)
    ∙ ap (λ k. record { set = k; path = path; naming = f.log.naming; seen = f.seen; stand = stand; tmp = tmp }) (from_none f.log.set)
  where
    from_none : (n : ℕ) → n ≡ 0 + n
    from_none n = omega arith

-- definitions behind that of the log stay as they were
behind_it : (k : ℕ) (logs : List LookedLog) (x : LookedLog) (sets : List SetLooks) → x.set < k → HaveLooksFrom k logs sets → HaveLooksFrom k (logs ++ x ∷ []) sets
behind_it k logs x [] lt h = h
behind_it k logs x (s ∷ ss) lt h = (h.0 ∙ sym (of_more k logs x ∙ (ap (λ ls. of_set k logs ++ ls) (where_other k x (λ e. omega (arith, e, lt))) ∙ append-nil (of_set k logs))), behind_it (k + 1) logs x ss (omega (arith, lt)) h.1)

pub grow : (k at : ℕ) (logs : List LookedLog) (x : LookedLog) (look : LogLook) (sets : List SetLooks) (new : SetLooks) (d : SetLooks) → x ≡ looked_in (k + at) look → at < length sets → new.logs ≡ (get_or sets at d).logs ++ look ∷ []
    → HaveLooksFrom k logs sets → HaveLooksFrom k (logs ++ x ∷ []) (slice_set sets at new)
grow k at logs x look [] new d e lt n h = absurd (omega (arith, lt))
grow k zero logs x look (s ∷ ss) new d e lt n h =
    let place : x.set ≡ k + 0 = ap (λ (l : LookedLog). l.set) e in
    let own : k ≡ x.set = omega (arith, place) in
    let it : x ≡ looked_in k look = e ∙ ap (λ j. looked_in j look) (plus_none k) in (
      ap (map (looked_in k)) n ∙ (map-append (looked_in k) s.logs (look ∷ []) ∙ (ap (λ ls. ls ++ looked_in k look ∷ []) h.0 ∙ (ap (λ l. of_set k logs ++ l ∷ []) (sym it) ∙ (ap (λ ls. of_set k logs ++ ls) (sym (where_own k x own)) ∙ sym (of_more k logs x))))),
      behind_it (k + 1) logs x ss (omega (arith, own)) h.1,
    )
  where
    plus_none : (n : ℕ) → n + 0 ≡ n
    plus_none n = omega arith
grow k (suc at) logs x look (s ∷ ss) new d e lt n h =
    let place : x.set ≡ k + suc at = ap (λ (l : LookedLog). l.set) e in (
      h.0 ∙ sym (of_more k logs x ∙ (ap (λ ls. of_set k logs ++ ls) (where_other k x (λ q. omega (arith, q, place))) ∙ append-nil (of_set k logs))),
      grow (k + 1) at logs x look ss new d (e ∙ ap (λ j. looked_in j look) (moved k at)) (omega (arith, lt)) n h.1,
    )
  where
    moved : (a b : ℕ) → a + suc b ≡ a + 1 + b
    moved a b = omega arith

-- ---- and what holds of each

all_more : (P : LogLook → Type 0) (xs : List LogLook) (x : LogLook) → All P xs → P x → All P (xs ++ x ∷ [])
all_more P xs x h p = All-append P xs (x ∷ []) h (All-cons P x [] p none)
  where
    none : All P []
    none = search rules

pub each_grow : (P : LogLook → Type 0) (at : ℕ) (look : LogLook) (sets : List SetLooks) (new d : SetLooks) → at < length sets → new.logs ≡ (get_or sets at d).logs ++ look ∷ [] → P look → EachLook P sets → EachLook P (slice_set sets at new)
each_grow P at look [] new d lt n p h = absurd (omega (arith, lt))
each_grow P zero look (s ∷ ss) new d lt n p h = (subst (All P) (sym n) (all_more P s.logs look h.0 p), h.1)
each_grow P (suc at) look (s ∷ ss) new d lt n p h = (h.0, each_grow P at look ss new d (omega (arith, lt)) n p h.1)

-- ---- definitions without logs

pub none_more : (k : ℕ) (sets : List SetLooks) (new : SetLooks) → new.logs ≡ [] → HaveLooksFrom k [] sets → HaveLooksFrom k [] (sets ++ new ∷ [])
none_more k [] new e h = (ap (map (looked_in k)) e, tt)
none_more k (s ∷ ss) new e h = (h.0, none_more (k + 1) ss new e h.1)

pub each_none : (P : LogLook → Type 0) (sets : List SetLooks) (new : SetLooks) → new.logs ≡ [] → EachLook P sets → EachLook P (sets ++ new ∷ [])
each_none P [] new e h = (subst (All P) (sym e) none, tt)
  where
    none : All P []
    none = search rules
each_none P (s ∷ ss) new e h = (h.0, each_none P ss new e h.1)
