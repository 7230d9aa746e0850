-- The log's file, while the tool only copies it.
use Rattle.std.proofs.Common.{◌≡◌, ◌≢◌, ◌<◌, ℕ, Bool, true, false, cond, nat_eq, eqb-true, refl, sym, ◌∙◌, ap, subst, arith, List, [], ◌++◌, append_assoc, append-nil, Option, Some, None}
use Rattle.lr_rules.specs.declared.path.Path.{Path}
use Rattle.lr_host.specs.declared.thing.Thing.TheVariants as thing
use Rattle.lr_host.specs.declared.entry.Entry.{Entry}
use Rattle.lr_host.specs.declared.entry.Entry.TheVariants as entry
use Rattle.lr_host.specs.Lists.{IsIn}
use Rattle.lr_host.specs.Opening.{IsJournal}
use Rattle.lr_host.specs.Told.{Each, IsTools, IsWriters, Made, at_first, by_writer, by_tool}
use Rattle.lr_host.specs.World.{Past, ◌▸◌, world, names, making, makes, is_file, holds_file}
use Rattle.lr_host.proofs.Looked.{is_file_true}
use Rattle.lr_host.proofs.Made.{made_journal}
use Rattle.lr_laws.specs.StateWhole.{renamed_paths}
use Rattle.lr_laws.proofs.Files.{LeavesFile, making_other, other_id}
use Rattle.lr_laws.proofs.Parts.{named_drawn, named_once, wrote_named}
use Rattle.lr_laws.proofs.Walks.{tool_same}
use Rattle.lr_laws_family.specs.Whole.{Fed, none_fed, fed_more, no_more, Has}

-- the entry leaves the path its file, and writes to none there
abbrev pub LeavesLog : Path → Entry → Type 0
LeavesLog x e = LeavesFile x e × (IsIn x (renamed_paths e) → ⊥)

-- the log has what it had, and then what was fed
pub record HasMore (x : Path) (g : ℕ) (bytes : List ℕ) (p q : Past) : Type 0 where
  pub later : List ℕ
  pub fed : Fed g p later q
  pub has : Has x g (bytes ++ later) q

-- ---- one entry

not_made : (b : Bool) (bytes : List ℕ) → b ≡ false → cond b [] bytes ≡ bytes
not_made true bytes e = absurd (cc)
not_made false bytes e = refl

holds_true : (o : Option ℕ) (g : ℕ) → holds_file o g ≡ true → o ≡ Some g
holds_true (Some f) g e = ap Some (eqb-true f g e)
holds_true None g e = absurd (cc)

holds_false : (o : Option ℕ) (g : ℕ) → holds_file o g ≡ false → o ≢ Some g
holds_false (Some f) g e is = let same : f ≡ g = cc in let here : nat_eq g g ≡ true = grind arith in let there : nat_eq g g ≡ false = subst (λ (n : ℕ). nat_eq n g ≡ false) same e in cc
holds_false None g e is = cc

more_same : (x : Path) (g : ℕ) (bytes : List ℕ) (p q : Past) (e : Entry) → (h : HasMore x g bytes p q) → Fed g p h.later (q ▸ e) → names (world (q ▸ e)) x ≡ thing.File g → ((world (q ▸ e)).files g).bytes ≡ ((world q).files g).bytes → HasMore x g bytes p (q ▸ e)
more_same x g bytes p q e h fed named same = record { later = h.later; fed = fed; has = record { named = named; bytes_are = same ∙ h.has.bytes_are } }

-- of a writer
writer_more : (x : Path) (g : ℕ) (bytes : List ℕ) (p q : Past) (e : Entry) → g < (world q).drawn → IsWriters e → HasMore x g bytes p q → HasMore x g bytes p (q ▸ e)
writer_more x g bytes p q (entry.Attach v y at) lt i h =
    more_same x g bytes p q (entry.Attach v y at) h (no_more h.fed tt) (wrote_named q (entry.Attach v y at) x g i h.has.named) (not_made (makes (making (names (world q) y) y (world q).drawn) g) ((world q).files g).bytes (making_other (names (world q) y) y g (world q).drawn lt))
writer_more x g bytes p q (entry.Feed v more at) lt i h = go (holds_file ((world q).holds v) g) refl
  where
    go : (b : Bool) → holds_file ((world q).holds v) g ≡ b → HasMore x g bytes p (q ▸ entry.Feed v more at)
    go true is = record {
      later = h.later ++ more;
      fed = fed_more h.fed (holds_true ((world q).holds v) g is) more;
      has = record {
        named = h.has.named;
        bytes_are = ap (λ (b : Bool). cond b (((world q).files g).bytes ++ more) ((world q).files g).bytes) is ∙ (ap (λ xs. xs ++ more) h.has.bytes_are ∙ append_assoc bytes h.later more);
      };
    }
    go false is = more_same x g bytes p q (entry.Feed v more at) h (no_more h.fed (holds_false ((world q).holds v) g is)) h.has.named (ap (λ (b : Bool). cond b (((world q).files g).bytes ++ more) ((world q).files g).bytes) is)
writer_more x g bytes p q (entry.Flush v) lt i h = more_same x g bytes p q (entry.Flush v) h (no_more h.fed tt) h.has.named refl
writer_more x g bytes p q (entry.Detach v) lt i h = more_same x g bytes p q (entry.Detach v) h (no_more h.fed tt) h.has.named refl
writer_more x g bytes p q _ lt i h = absurd i

-- of the tool: its bytes
not_there : (q : Past) (x y : Path) (g : ℕ) → IsJournal q → names (world q) x ≡ thing.File g → y ≢ x → is_file (names (world q) y) g ≡ false
not_there q x y g j named ne = go (is_file (names (world q) y) g) refl
  where
    go : (b : Bool) → is_file (names (world q) y) g ≡ b → b ≡ false
    go true is = absurd (ne (named_once q y x g j (is_file_true (names (world q) y) g is) named))
    go false is = refl

tool_bytes : (q : Past) (x : Path) (g : ℕ) (e : Entry) → IsJournal q → names (world q) x ≡ thing.File g → g < (world q).drawn → IsTools e → LeavesFile x e → ((world (q ▸ e)).files g).bytes ≡ ((world q).files g).bytes
tool_bytes q x g (entry.Makes y mode) j named lt i l = not_made (nat_eq (world q).drawn g) ((world q).files g).bytes (other_id (world q).drawn g (world q).drawn refl lt)
tool_bytes q x g (entry.Appends y piece) j named lt i l = ap (λ (b : Bool). cond b (((world q).files g).bytes ++ piece) ((world q).files g).bytes) (not_there q x y g j named l)
tool_bytes q x g (entry.Truncates y) j named lt i l = ap (λ (b : Bool). cond b [] ((world q).files g).bytes) (not_there q x y g j named l)
tool_bytes q x g (entry.Attach v y at) j named lt i l = absurd i
tool_bytes q x g (entry.Feed v more at) j named lt i l = absurd i
tool_bytes q x g (entry.Cut kept lengths) j named lt i l = absurd i
tool_bytes q x g _ j named lt i l = refl

-- it feeds nothing
tool_fed : (g : ℕ) (p q : Past) (bytes : List ℕ) (e : Entry) → IsTools e → Fed g p bytes q → Fed g p bytes (q ▸ e)
tool_fed g p q bytes (entry.Feed v more at) i f = absurd i
tool_fed g p q bytes (entry.Attach v y at) i f = absurd i
tool_fed g p q bytes _ i f = no_more f tt

-- ---- many

pub log_walk : (x : Path) (g : ℕ) (bytes : List ℕ) (p q : Past) (es : List Entry) → IsJournal p → Made p es q → Each (LeavesLog x) es → Has x g bytes p → HasMore x g bytes p q
log_walk x g bytes p _ _ j at_first a h = record { later = []; fed = none_fed; has = record { named = h.named; bytes_are = h.bytes_are ∙ sym (append-nil bytes) } }
log_walk x g bytes p _ es j (by_writer {q = q} {e = e} m i f) a h =
    let r = log_walk x g bytes p q es j m a h in writer_more x g bytes p q e (named_drawn q x g (made_journal p q es m j) r.has.named) i r
log_walk x g bytes p _ _ j (by_tool {es = es} {q = q} {e = e} m i f) a h =
    let r = log_walk x g bytes p q es j m a.1 h in
    let k = made_journal p q es m j in
    more_same x g bytes p q e r (tool_fed g p q r.later e i r.fed) (tool_same q e x i a.0.1 ∙ r.has.named) (tool_bytes q x g e k r.has.named (named_drawn q x g k r.has.named) i a.0.0)
