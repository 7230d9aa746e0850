-- What is known of the state, and the text that says it.
use Rattle.std.proofs.Common.{◌≡◌, refl, sym, subst, Bool, ℕ, List, Result, Ok, Err}
use Rattle.lr_rules.specs.declared.fault.Fault.{Fault}
use Rattle.lr_rules.specs.declared.path.Path.{Path}
use Rattle.lr_host.specs.declared.entry.Entry.{Entry}
use Rattle.lr_state.specs.Grammar.{StateSaid}
use Rattle.lr_state.specs.Table.{StateEntry as Row}
use Rattle.lr_state.specs.declared.look.LookStop.{LookStop}
use Rattle.lr_state.specs.declared.remembered.Remembered.{Remembered}
use Rattle.lr_state.specs.Known.{IsKnown, IsKnownBehind, IsKnownBy, IsKnownOf, TextSaysOnly, known_of, text_read}
use Rattle.lr_state.specs.Sights.{StateSights, ShowsState, found}
use Rattle.lr_run.specs.Saw.{ShowsStateText}

-- The entries show a text that says this.
pub record KnownText (state : Path) (remembered : Remembered) (ts : List Entry) : Type 0 where
  pub text : List ℕ
  pub shown : ShowsStateText state text remembered.stale ts
  pub says : TextSaysOnly text (Ok remembered.table)

pub known_text : (state : Path) (remembered : Remembered) (sights : StateSights) (ts : List Entry) → IsKnown state sights (Ok remembered) → ShowsState state 65_536 sights ts → KnownText state remembered ts
known_text state remembered sights ts known shown = of_state (found sights.state) (found sights.part) refl refl known
  where
    says : (there stale : Bool) (text : List ℕ) (said : StateSaid) → found sights.state ≡ Ok there → found sights.part ≡ Ok stale → text_read state there sights.reading ≡ Ok text → TextSaysOnly text said → Ok remembered ≡ known_of stale said → KnownText state remembered ts
    says there stale text (Ok table) stood part read only is = subst (λ (r : Remembered). KnownText state r ts) (sym same)
        (record { text = text; shown = record { sights = sights; there = there; stood = stood; part = part; read = read; shown = shown }; says = only })
      where
        same : remembered ≡ record { table = table; stale = stale }
        same = cc
    says there stale text (Err bad) stood part read only is = absurd (cc)

    of_text : (there stale : Bool) (t : Result (List ℕ) Fault) → found sights.state ≡ Ok there → found sights.part ≡ Ok stale → text_read state there sights.reading ≡ t → IsKnownBy stale t (Ok remembered) → KnownText state remembered ts
    of_text there stale (Ok text) stood part read k = says there stale text k.0 stood part read k.1 k.2
    of_text there stale (Err why) stood part read k = absurd (cc)

    of_part : (there : Bool) (p : Result Bool LookStop) → found sights.state ≡ Ok there → found sights.part ≡ p → IsKnownBehind state there p sights.reading (Ok remembered) → KnownText state remembered ts
    of_part there (Ok stale) stood part k = of_text there stale (text_read state there sights.reading) stood part refl k
    of_part there (Err why) stood part k = absurd (cc)

    of_state : (s p : Result Bool LookStop) → found sights.state ≡ s → found sights.part ≡ p → IsKnownOf state s p sights.reading (Ok remembered) → KnownText state remembered ts
    of_state (Ok there) p stood part k = of_part there p stood part k
    of_state (Err why) p stood part k = absurd (cc)

-- and by such a text it is known
pub is_known : (state : Path) (text : List ℕ) (table : List Row) (stale : Bool) (ts : List Entry) → (s : ShowsStateText state text stale ts) → TextSaysOnly text (Ok table) → IsKnown state s.sights (Ok (record { table = table; stale = stale }))
is_known state text table stale ts s only =
    subst (λ (f : Result Bool LookStop). IsKnownOf state f (found s.sights.part) s.sights.reading (Ok (record { table = table; stale = stale }))) (sym s.stood)
    (subst (λ (f : Result Bool LookStop). IsKnownBehind state s.there f s.sights.reading (Ok (record { table = table; stale = stale }))) (sym s.part)
    (subst (λ (t : Result (List ℕ) Fault). IsKnownBy stale t (Ok (record { table = table; stale = stale }))) (sym s.read) (Ok table, only, refl)))
