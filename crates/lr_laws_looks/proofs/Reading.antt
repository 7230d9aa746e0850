-- What the reading of a state says of its paths, where its text is known.
use Rattle.std.proofs.Common.{◌≡◌, inl, ℕ, Bool, true, refl, sym, ◌∙◌, ap, subst, Some, None, List, Result, Ok, Err}
use Rattle.lr_rules.specs.declared.fault.Fault.{Fault}
use Rattle.lr_rules.specs.declared.path.Path.{Path}
use Rattle.lr_rules.specs.StatePath.{state_part}
use Rattle.lr_host.specs.declared.thing.Thing.TheVariants as thing
use Rattle.lr_host.specs.declared.thing.Kind.{Kind}
use Rattle.lr_host.specs.declared.thing.Kind.TheVariants as kind
use Rattle.lr_host.specs.declared.entry.Entry.{Entry}
use Rattle.lr_host.specs.declared.entry.Entry.TheVariants as entry
use Rattle.lr_host.specs.Fits.{IsFileAt}
use Rattle.lr_host.specs.Lists.{IsIn}
use Rattle.lr_host.specs.World.{world, Names, names}
use Rattle.lr_host.proofs.Lists.{in_front, in_back}
use Rattle.lr_host.proofs.Looked.{seen_file, seen_none}
use Rattle.lr_state.specs.Grammar.{StateSaid}
use Rattle.lr_state.specs.declared.look.LookStop.{LookStop}
use Rattle.lr_state.specs.declared.remembered.Remembered.{Remembered}
use Rattle.lr_state.specs.Known.{known_of, text_read, IsKnownBy, IsKnownOf, IsKnown, ReadsState}
use Rattle.lr_state.specs.Sights.{StateSight, Failed, Nothing, Saw, StateSights, found, found_kind, state_look, behind_part, behind_state}
use Rattle.lr_laws_looks.proofs.Acts.{IsFree}
use Rattle.lr_laws_looks.proofs.Lasting.{Says}

-- ---- what was found

-- The looks found a file or nothing at the state's path, and the part file as it is remembered.
record AreFound (s : StateSights) (r : Remembered) : Type 0 where
  there : Bool
  state : found s.state ≡ Ok there
  part : found s.part ≡ Ok r.stale

said_stale : (stale : Bool) (s : StateSaid) (r : Remembered) → Ok r ≡ known_of stale s → stale ≡ r.stale
said_stale stale (Ok table) r k = let same : r ≡ record { table = table; stale = stale } = cc in sym (ap (λ (x : Remembered). x.stale) same)
said_stale stale (Err bad) r k = absurd (cc)

text_stale : (stale : Bool) (text : Result (List ℕ) Fault) (r : Remembered) → IsKnownBy stale text (Ok r) → stale ≡ r.stale
text_stale stale (Ok bytes) r k = said_stale stale k.0 r k.2
text_stale stale (Err why) r k = absurd (cc)

are_found : (state : Path) (s : StateSights) (r : Remembered) → IsKnown state s (Ok r) → AreFound s r
are_found state s r k = go (found s.state) (found s.part) refl refl k
  where
    go : (f g : Result Bool LookStop) → found s.state ≡ f → found s.part ≡ g → IsKnownOf state f g s.reading (Ok r) → AreFound s r
    go (Err why) g e d k = absurd (cc)
    go (Ok there) (Err why) e d k = absurd (cc)
    go (Ok there) (Ok stale) e d k = record { there = there; state = e; part = d ∙ ap Ok (text_stale stale (text_read state there s.reading) r k) }

-- ---- one look

file_kind : (k : Kind) (there : Bool) → found_kind k ≡ Ok there → k ≡ kind.File
file_kind kind.File there e = refl
file_kind kind.Dir there e = absurd (cc)
file_kind kind.Other there e = absurd (cc)

nothing_free : (x : Path) (n : Names) → n x ≡ thing.Nothing → IsFree x n
nothing_free x n e = (λ is. cc, λ is. cc)

file_free : (x : Path) (n : Names) → IsFileAt n x → IsFree x n
file_free x n f = let e = f.1 in (λ is. cc, λ is. cc)

says_free : (x : Path) (s : StateSight) (there : Bool) → found s ≡ Ok there → Says (IsFree x) (state_look x s)
says_free x Failed there e = absurd (cc)
says_free x Nothing there e = record { entry = entry.Look x None; among = inl refl; so = λ w j f. nothing_free x (names (world w)) (seen_none (world w) (names (world w) x) f) }
says_free x (Saw seen) there e = record { entry = entry.Look x (Some seen); among = inl refl; so = λ w j f. file_free x (names (world w)) (seen_file (world w) (names (world w) x) seen f (file_kind seen.kind there e)) }

says_file : (x : Path) (s : StateSight) → found s ≡ Ok true → Says (λ n. IsFileAt n x) (state_look x s)
says_file x Failed e = absurd (cc)
says_file x Nothing e = absurd (cc)
says_file x (Saw seen) e = record { entry = entry.Look x (Some seen); among = inl refl; so = λ w j f. seen_file (world w) (names (world w) x) seen f (file_kind seen.kind true e) }

-- ---- all entries of the reading

says_more : (Q : Names → Type 0) (us ts : List Entry) → ((e : Entry) → IsIn e us → IsIn e ts) → Says Q us → Says Q ts
says_more Q us ts more s = record { entry = s.entry; among = more s.entry s.among; so = s.so }

-- the state's path names a file or nothing
pub reading_says_free : (state : Path) (size : ℕ) (r : Remembered) (ts : List Entry) → ReadsState state size (Ok (Ok r)) ts → Says (IsFree state) ts
reading_says_free state size r ts h = says_more (IsFree state) (state_look state s.state) ts
    (λ e i. subst (IsIn e) (sym h.shown.entries) (in_front e (state_look state s.state) (behind_state state (found s.state) s.part s.reading) i)) (says_free state s.state f.there f.state)
  where
    s : StateSights
    s = h.sights

    f : AreFound s r
    f = are_found state s r h.known

-- an old part file that is remembered stands
pub reading_says_part : (state : Path) (size : ℕ) (r : Remembered) → r.stale ≡ true → (ts : List Entry) → ReadsState state size (Ok (Ok r)) ts → Says (λ n. IsFileAt n (state_part state)) ts
reading_says_part state size r stale ts h = says_more (λ n. IsFileAt n (state_part state)) (state_look (state_part state) s.part) ts
    (λ e i. subst (IsIn e) (sym h.shown.entries) (in_back e (state_look state s.state) (behind_state state (found s.state) s.part s.reading)
    (subst (λ (g : Result Bool LookStop). IsIn e (behind_state state g s.part s.reading)) (sym f.state) (in_front e (state_look (state_part state) s.part) (behind_part state f.there (found s.part) s.reading) i))))
    (says_file (state_part state) s.part (f.part ∙ ap Ok stale))
  where
    s : StateSights
    s = h.sights

    f : AreFound s r
    f = are_found state s r h.known
