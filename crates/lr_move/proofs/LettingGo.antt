-- The moment at which a log is let go.
use Rattle.std.proofs.Common.{◌≡◌, ◌≢◌, ◌⊎◌, inl, ⊎_elim, ℕ, refl, sym, ◌∙◌, ap, subst, List, [], ◌∷◌, ◌++◌, reverse, append_assoc, Option}
use Rattle.std.proofs.lemmas.List.{reverse-append}
use Rattle.lr_rules.specs.declared.path.Path.{Path}
use Rattle.lr_rules.specs.Names.{aside_path}
use Rattle.lr_rules.proofs.Heads.{heads, tails}
use Rattle.lr_host.specs.declared.thing.Thing.TheVariants as thing
use Rattle.lr_host.specs.declared.entry.Entry.{Entry}
use Rattle.lr_host.specs.declared.entry.Entry.TheVariants.{Unlinks}
use Rattle.lr_host.specs.declared.journal.Journal.{Journal}
use Rattle.lr_host.specs.Opening.{IsJournal}
use Rattle.lr_host.specs.Safe.{IsPrefix, shorter}
use Rattle.lr_host.specs.Sets.{LogSet}
use Rattle.lr_host.specs.Told.{Each, Made, at_first, by_tool, Then, Maybe, Left, not_told, is_told}
use Rattle.lr_host.specs.World.{Past, ◌▸◌, past}
use Rattle.lr_host.proofs.Made.{made_on, made_journal}
use Rattle.lr_host.proofs.Quiet.{since_before}
use Rattle.lr_host.proofs.Each.{each_last}
use Rattle.lr_copy.specs.declared.job.Job.{Job}
use Rattle.lr_copy.specs.Fits.{ArePaths}
use Rattle.lr_laws.proofs.Lists.{IsOnWay, on_way}
use Rattle.lr_laws.proofs.Parts.{named_once}
use Rattle.lr_laws_family.specs.Whole.{Named, WritersSpareCopy, IsCopyWhole}
use Rattle.lr_laws_family.proofs.Moments.{IsLast, is_last}
use Rattle.lr_laws_family.proofs.Named.{whole}
use Rattle.lr_laws_family.proofs.Logs.{LeavesLog}
use Rattle.lr_move.specs.Moved.{IsLetGo, LetsGoWhole, CopiesAside, LetsGo}
use Rattle.lr_move.proofs.Sparing.{spared_named}

-- the file of a whole copy is another
other_file : (x to : Path) (p q : Past) → IsJournal q → to ≢ x → (w : IsCopyWhole x to p q) → w.copy ≢ w.log
other_file x to p q j apart w same = apart (named_once q to x w.copy j w.copied.named (w.log_now.named ∙ ap thing.File (sym same)))

-- behind the sync of the directory
pub may_go : (s : LogSet) (job : Job) (count : ℕ) (p q : Past) (es : List Entry) → Made p es q → IsJournal p → ArePaths job → WritersSpareCopy job p q → CopiesAside s job → Named job count (reverse es) → IsLetGo s p q
may_go s job count p q es m j paths only of_set n = record { to = job.to; member = of_set.member; whole = here; other = other_file (aside_path s.log) job.to p q (made_journal p q es m j) apart here }
  where
    here : IsCopyWhole (aside_path s.log) job.to p q
    here = subst (λ (x : Path). IsCopyWhole x job.to p q) of_set.from_is (whole job count p q es m j paths only n)

    apart : job.to ≢ aside_path s.log
    apart e = paths.to_apart (e ∙ sym of_set.from_is)

-- ---- the one unlink of the log

-- No entry of these touches the log; or they are a copy of it, up to the sync of its directory, and then its unlink, or nothing.
abbrev pub EndsThere : Job → List Entry → Type 0
EndsThere job ts = Each (LeavesLog job.from) ts ⊎ ((count : ℕ) × Then (Named job count) (Maybe (Unlinks job.from)) ts)

-- what stands in none of the first entries, and of the others is the first or none
found_last : (P : Entry → Type 0) (e : Entry) (ns ms xs ys : List Entry) → (P e → ⊥) → Each P ns → Maybe e ms → ns ++ ms ≡ xs ++ (e ∷ ys) → xs ≡ ns
found_last P e [] ms [] ys none a last is = refl
found_last P e [] ms (x ∷ xs) ys none a last is = ⊎_elim (λ nothing. absurd (empty (sym nothing ∙ is))) (λ one. absurd (past_it xs (tails e x [] (xs ++ (e ∷ ys)) (sym one ∙ is)))) last
  where
    empty : [] ≡ x ∷ (xs ++ (e ∷ ys)) → ⊥
    empty is = cc

    past_it : (zs : List Entry) → [] ≡ zs ++ (e ∷ ys) → ⊥
    past_it [] is = cc
    past_it (z ∷ zs) is = cc
found_last P e (n ∷ ns) ms [] ys none a last is = absurd (none (subst P (heads n e (ns ++ ms) ys is) a.0))
found_last P e (n ∷ ns) ms (x ∷ xs) ys none a last is =
    ap (λ z. z ∷ xs) (sym (heads n x (ns ++ ms) (xs ++ (e ∷ ys)) is)) ∙ ap (λ zs. n ∷ zs) (found_last P e ns ms xs ys none a.1 last (tails n x (ns ++ ms) (xs ++ (e ∷ ys)) is))

module _ (s : LogSet) (job : Job) (p q : Past) (es : List Entry) (m : Made p es q) (j : IsJournal p) (paths : ArePaths job) (only : WritersSpareCopy job p q) (of_set : CopiesAside s job) where
  abbrev last : Entry
  last = Unlinks job.from

  -- it is none that spares it
  never_spared : LeavesLog job.from last → ⊥
  never_spared spares = spares.1 (inl refl)

  -- just before it
  just : (u : Past) (w : IsOnWay p (u ▸ last) q es) → IsLast p u last w.old → EndsThere job (reverse es) → IsLetGo s p u
  just u w k ends = ⊎_elim (λ a. absurd (never_spared (each_last (LeavesLog job.from) (reverse k.front) (last ∷ reverse w.new) (subst (Each (LeavesLog job.from)) all_are a)).0)) (λ l. at_end l.0 l.1) ends
    where
      all_are : reverse es ≡ reverse k.front ++ (last ∷ reverse w.new)
      all_are = ap reverse (w.es_are ∙ ap (λ us. w.new ++ us) k.es_are) ∙ (reverse-append w.new (last ∷ k.front) ∙ (ap (λ us. us ++ reverse w.new) (reverse-append (last ∷ []) k.front) ∙ append_assoc (reverse k.front) (last ∷ []) (reverse w.new)))

      at_end : (count : ℕ) → Then (Named job count) (Maybe last) (reverse es) → IsLetGo s p u
      at_end count n =
          let same : reverse k.front ≡ n.front = found_last (LeavesLog job.from) last n.front n.back (reverse k.front) (reverse w.new) never_spared (spared_named job paths count n.front n.first) n.second (sym n.joined ∙ all_are) in
          let one : Made u (last ∷ []) (u ▸ last) = by_tool at_first tt k.fits in
          may_go s job count p u k.front k.made j paths (since_before _ p u q k.front (w.new ++ last ∷ []) k.made (made_on u (u ▸ last) q (last ∷ []) w.new one w.behind) only) of_set (subst (Named job count) (sym same) n.first)

  pub lets_go : EndsThere job (reverse es) → LetsGoWhole s p q
  lets_go ends u since until = behind (on_way p (u ▸ last) q es m (shorter since) (subst (λ (x : Path). IsPrefix (u ▸ Unlinks x) q) (sym of_set.from_is) until))
    where
      behind : IsOnWay p (u ▸ last) q es → IsLetGo s p u
      behind w = just u w (is_last p u (u ▸ last) last w.old (λ i. i) since w.before refl) ends

pub lets_go_by : (job : Job) {o n : Option Journal} → ArePaths job → Left (EndsThere job) o n → LetsGo job o n
lets_go_by job paths not_told = tt
lets_go_by job paths (is_told {j = j} {k = k} {es = es} m h) = λ journal only s of_set. lets_go s job (past j) (past k) es m journal paths only of_set h
