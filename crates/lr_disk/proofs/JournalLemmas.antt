-- One entry more.
use Rattle.std.proofs.Common.{◌≡◌, ℕ, ◌+◌, ◌<◌, ◌≤◌, true, length, length-append, arith, List, [], ◌∷◌, ◌++◌, refl, sym, subst, ap, ◌∙◌}
use Rattle.std.specs.Prelude.{Result, Ok, Err, MatchResult, OnOk}
use Rattle.lr_host.specs.declared.entry.Entry.{Entry}
use Rattle.lr_host.specs.declared.journal.Journal.{Journal}
use Rattle.lr_host.specs.World.{Opens, ◌▸◌, past, then, World, world, effect}
use Rattle.lr_host.specs.declared.entry.Entry.TheVariants as entry
use Rattle.lr_host.specs.Fits.{Fits}
use Rattle.lr_host.specs.Opening.{IsJournal}
use Rattle.lr_host.proofs.Made.{then_append}
use Rattle.lr_disk.specs.declared.state.State.{State}
use Rattle.lr_disk.specs.State.{ShowsWorld, IsDisk, with_entry}
use Rattle.lr_disk.proofs.StateLemmas.{shows_still}

pub past_entry : (j : Journal) (e : Entry) → past (with_entry j e) ≡ past j ▸ e
past_entry j e = then_append (Opens j.opening) j.entries (e ∷ [])

pub past_more : (j : Journal) (es : List Entry) (e : Entry) → es ≡ j.entries ++ e ∷ [] → past (record { opening = j.opening; entries = es }) ≡ past j ▸ e
past_more j es e is = ap (then (Opens j.opening)) is ∙ past_entry j e

-- a run ended
pub ended : (s : State) (j : Journal) (es : List Entry) (n c m d : ℕ) → IsDisk s n c j → (world (past j)).running ≡ true → es ≡ j.entries ++ entry.Ends ∷ [] → m ≡ 0 → IsDisk s m d (record { opening = j.opening; entries = es })
ended s j es n c m d i runs is empty =
    let more = past_more j es entry.Ends is in
    record {
      shows = subst (λ p. ShowsWorld s (world p)) (sym more) (shows_still s (world (past j)) (effect (world (past j)) entry.Ends) i.shows refl (λ id. refl) (λ u. refl) refl refl refl);
      journal = subst IsJournal (sym more) (i.journal, runs);
      empty = empty;
      room = λ t. absurd (let f : (world (past j ▸ entry.Ends)).running ≡ true = subst (λ p. (world p).running ≡ true) more t in cc);
    }

-- room was made
pub readied : (s t : State) (j : Journal) (es : List Entry) (n c m d : ℕ) → IsDisk s n c j → es ≡ j.entries → ((w : World) → ShowsWorld s w → ShowsWorld t w) → m ≡ n → c ≤ d → IsDisk t m d (record { opening = j.opening; entries = es })
readied s t j es n c m d i is same size wider = subst (λ l. IsDisk t m d (record { opening = j.opening; entries = l })) (sym is) (record {
  shows = same (world (past j)) i.shows;
  journal = i.journal;
  empty = size ∙ i.empty;
  room = λ r. more (length j.entries) (i.room r);
})
  where
    more : (k : ℕ) → k < c → k < d
    more k lt = omega arith

-- an entry came
pub entered_disk : (s t : State) (j : Journal) (es : List Entry) (e : Entry) (n c m d more : ℕ) → IsDisk s n c j → Fits (world (past j)) e → es ≡ j.entries ++ e ∷ [] → ShowsWorld t (effect (world (past j)) e) → m ≡ n → more ≡ length j.entries + 2 → m + more ≤ d → IsDisk t m d (record { opening = j.opening; entries = es })
entered_disk s t j es e n c m d more i fits is shows same size room =
    let grown = past_more j es e is in
    record {
      shows = subst (λ p. ShowsWorld t (world p)) (sym grown) shows;
      journal = subst IsJournal (sym grown) (i.journal, fits);
      empty = same ∙ i.empty;
      room = λ r. let l : length es ≡ length j.entries + 1 = ap length is ∙ length-append j.entries (e ∷ []) in let k = i.empty in omega arith;
    }

-- what follows where a call succeeds
pub on_match : {T E : Type 0} (A B P : Type 0) (r : Result T E) → MatchResult r (λ _. A) (λ _. B) → (A → P) → OnOk r P
on_match A B P (Ok x) h f = f h
on_match A B P (Err x) h f = tt
