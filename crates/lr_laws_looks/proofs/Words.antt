-- What a word came to is what stood before the looks, or came since.
use Rattle.std.proofs.Common.{◌≡◌, ◌≢◌, ◌⊎◌, inl, inr, ℕ, zero, suc, ◌+◌, ◌-◌, false, List, [], ◌∷◌, ◌++◌, length, Some, None, Ok, slice_get, sym, ◌∙◌, ap, subst, append_assoc, reverse}
use Rattle.std.specs.Prelude.{IsUtf8}
use Rattle.std.proofs.lemmas.List.{reverse-reverse}
use Rattle.lr_rules.specs.declared.path.Path.{Path}
use Rattle.lr_rules.specs.Match.{WordGives, is_wildcard, literal_path}
use Rattle.lr_rules.specs.Path.{path_fault}
use Rattle.lr_host.specs.declared.thing.Kind.TheVariants as kind
use Rattle.lr_host.specs.declared.thing.Thing.{Thing}
use Rattle.lr_host.specs.declared.thing.Thing.TheVariants as thing
use Rattle.lr_host.specs.declared.entry.Entry.{Entry}
use Rattle.lr_host.specs.declared.entry.Entry.TheVariants as entry
use Rattle.lr_host.specs.Fits.{IsFileAt}
use Rattle.lr_host.specs.Lists.{IsIn}
use Rattle.lr_host.specs.Opening.{IsJournal}
use Rattle.lr_host.specs.Quiet.{AreQuiet}
use Rattle.lr_host.specs.Told.{Made}
use Rattle.lr_host.specs.World.{Past, world, names}
use Rattle.lr_host.proofs.Lists.{in_front, in_back, from_reverse}
use Rattle.lr_host.proofs.Looked.{seen_file}
use Rattle.lr_host.proofs.Made.{made_journal}
use Rattle.lr_host.proofs.Quiet.{IsAny, moment, made_quiet, quiet_more, quiet_still, since_any, still_in_order, still_reverse}
use Rattle.lr_glob.specs.declared.found.Found.{Found as Match}
use Rattle.lr_glob.specs.Words.{Comes}
use Rattle.lr_glob.proofs.Seeking.{found_were_seen}
use Rattle.lr_looks.specs.Asked.{AskedWord, AreTexts}
use Rattle.lr_looks.specs.Sights.{WordSight, found_by, ShowsWord, ShowWords}
use Rattle.lr_laws_family.specs.Weave.{Among}
use Rattle.lr_laws_rotations.proofs.Given.{Stretch, stretch, still_file}
use Rattle.lr_laws_looks.specs.Finds.{FindsFile, StoodOrCame}
use Rattle.lr_laws_looks.proofs.Came.{quiet_prefix, stood_or_came}
use Rattle.lr_laws_looks.proofs.Stood.{stood_is_found, literal_is_found}
use Rattle.lr_laws_looks.specs.True.{IsTrueWord}

-- ---- the looks of one word among those of all

pub record WasShown (w : AskedWord) (matches : List Match) (ts : List Entry) : Type 0 where
  pub room : ℕ
  pub among : Among (Comes w.text room (Ok matches)) ts

pub word_shown : (n : ℕ) (words : List AskedWord) (ss : List WordSight) (ts : List Entry) (place : ℕ) (w : AskedWord) (matches : List Match) → ShowWords n words ss ts → slice_get words place ≡ Some w → slice_get ss place ≡ Some (Ok matches) → WasShown w matches ts
word_shown n [] ss ts place w matches h at is = absurd (none place at)
  where
    none : (k : ℕ) → slice_get [] k ≡ Some w → ⊥
    none zero e = cc
    none (suc k) e = cc
word_shown n (v ∷ ws) [] ts place w matches h at is = absurd h
word_shown n (v ∷ ws) (s ∷ ss) ts zero w matches h at is = record {
  room = 16_384 - n;
  among = record {
    before = [];
    part = h.front;
    after = h.back;
    joined = h.joined;
    is = subst (λ (u : AskedWord). Comes u.text (16_384 - n) (Ok matches) h.front) one (subst (λ (x : WordSight). ShowsWord v (16_384 - n) x h.front) sight h.first);
  };
}
  where
    one : v ≡ w
    one = cc

    sight : s ≡ Ok matches
    sight = cc
word_shown n (v ∷ ws) (s ∷ ss) ts (suc place) w matches h at is =
    let r = word_shown (n + length (found_by v s)) ws ss h.back place w matches h.second at is in
    record {
      room = r.room;
      among = record {
        before = h.front ++ r.among.before;
        part = r.among.part;
        after = r.among.after;
        joined = h.joined ∙ (ap (λ es. h.front ++ es) r.among.joined ∙ sym (append_assoc h.front r.among.before (r.among.part ++ r.among.after)));
        is = r.among.is;
      };
    }

pub text_at : (words : List AskedWord) (place : ℕ) (w : AskedWord) → AreTexts words → slice_get words place ≡ Some w → IsUtf8 w.text
text_at [] place w t at = absurd (none place at)
  where
    none : (k : ℕ) → slice_get [] k ≡ Some w → ⊥
    none zero e = cc
    none (suc k) e = cc
text_at (v ∷ ws) zero w t at = subst (λ (u : AskedWord). IsUtf8 u.text) one t.0
  where
    one : v ≡ w
    one = cc
text_at (v ∷ ws) (suc place) w t at = text_at ws place w t.1 at

-- ---- over quiet entries

-- what a path named it names still
pub still_named : (t u : Thing) → (u ≡ t) ⊎ ((t ≡ thing.Nothing) × ((g : ℕ) × (u ≡ thing.File g))) → t ≢ thing.Nothing → u ≢ thing.Nothing
still_named t u (inl same) named none = named (sym same ∙ none)
still_named t u (inr new) named none = named new.0

module _ (w : AskedWord) (matches : List Match) (p q : Past) (es : List Entry) (m : Made p es q) (journal : IsJournal p) (quiet : AreQuiet (reverse es)) (text : IsUtf8 w.text) (shown : WasShown w matches (reverse es)) where
  made : Made p (reverse (reverse es)) q
  made = subst (λ (xs : List Entry). Made p xs q) (sym (reverse-reverse es)) m

  t : Stretch p (Comes w.text shown.room (Ok matches))
  t = stretch p q (reverse es) (Comes w.text shown.room (Ok matches)) quiet made shown.among

  comes : Comes w.text shown.room (Ok matches) (reverse (reverse t.part))
  comes = subst (Comes w.text shown.room (Ok matches)) (sym (reverse-reverse t.part)) t.is

  files : (x : Path) → path_fault x ≡ None → IsFileAt (names (world p)) x → WordGives w.text x → FindsFile x matches
  files x valid file gives = stood_is_found t.from t.to (reverse t.part) w.text shown.room matches text (made_journal p t.from (reverse t.before) t.ahead journal) t.made comes x valid (still_file p t.from t.before x t.quiet t.ahead file) gives

  literal : is_wildcard w.text ≡ false → path_fault (literal_path w.text) ≡ None → names (world p) (literal_path w.text) ≢ thing.Nothing → (f : Match) × (matches ≡ f ∷ []) × (f.path ≡ literal_path w.text)
  literal plain valid named = literal_is_found t.from t.to (reverse t.part) w.text shown.room matches plain t.made comes valid
      (still_named (names (world p) (literal_path w.text)) (names (world t.from) (literal_path w.text))
      (quiet_more IsAny p t.from (made_quiet IsAny p t.from (reverse t.before) (since_any p t.from (reverse t.before) t.ahead) t.ahead (still_reverse t.before (quiet_still t.before t.quiet))) (literal_path w.text)) named)

  came : (f : Match) → IsIn f matches → f.seen.kind ≡ kind.File → StoodOrCame f.path p q
  came f i k = stood_or_came f.path p s.at q s.since (quiet_prefix s.at q s.until) (seen_file (world s.at) (names (world s.at) f.path) f.seen s.fits k)
    where
      look : Entry
      look = entry.Look f.path (Some f.seen)

      seen : IsIn (entry.Look f.path (Some f.seen)) (reverse es)
      seen = subst (IsIn look) (sym shown.among.joined) (in_back look shown.among.before (shown.among.part ++ shown.among.after) (in_front look shown.among.part shown.among.after
          (found_were_seen w.text shown.room matches shown.among.part shown.among.is f i)))

      s : Rattle.lr_host.proofs.Quiet.Moment IsAny p q (entry.Look f.path (Some f.seen))
      s = moment IsAny p q look es (since_any p q es m) m (still_in_order es (quiet_still (reverse es) quiet)) (from_reverse look es seen)

  pub true_word : IsTrueWord w matches p q
  true_word = record { files = files; literal = literal; came = came }
