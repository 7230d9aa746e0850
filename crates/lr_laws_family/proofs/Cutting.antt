-- The moment just before the log is emptied.
use Rattle.std.proofs.Common.{◌≡◌, refl, sym, ◌∙◌, ap, subst, ℕ, Bool, true, false, cond, List, [], ◌∷◌, ◌++◌, reverse, append_assoc}
use Rattle.std.proofs.lemmas.List.{reverse-append}
use Rattle.lr_host.specs.declared.entry.Entry.{Entry}
use Rattle.lr_host.specs.declared.entry.Entry.TheVariants as entry
use Rattle.lr_host.specs.Opening.{IsJournal}
use Rattle.lr_host.specs.Safe.{IsPrefix, shorter}
use Rattle.lr_host.specs.Told.{Each, Made, at_first, by_tool}
use Rattle.lr_host.specs.World.{Past, ◌▸◌}
use Rattle.lr_host.proofs.Each.{each_append}
use Rattle.lr_host.proofs.Made.{made_on}
use Rattle.lr_host.proofs.Quiet.{since_before}
use Rattle.lr_copy.specs.declared.job.Job.{Job}
use Rattle.lr_copy.specs.Copying.{clearing, opening, Fills, naming, cutting, Copied}
use Rattle.lr_copy.specs.Fits.{ArePaths}
use Rattle.lr_copy.specs.Stops.{EmptiesNone}
use Rattle.lr_copy.proofs.EachOfBytes.{each_all}
use Rattle.lr_laws.proofs.Lists.{IsOnWay, on_way}
use Rattle.lr_laws_family.specs.Whole.{Named, WritersSpareCopy, IsCopyWhole}
use Rattle.lr_laws_family.proofs.Moments.{IsLast, is_last}
use Rattle.lr_laws_family.proofs.Named.{whole}

-- ---- the one truncation

no_cut_opening : (job : Job) → Each EmptiesNone (opening job)
no_cut_opening job = each_append EmptiesNone (clearing job) (entry.Makes job.part job.mode ∷ []) (go job.stale) (tt, tt)
  where
    go : (b : Bool) → Each EmptiesNone (cond b (entry.Unlinks job.part ∷ []) [])
    go true = (tt, tt)
    go false = tt

no_cut_filling : (job : Job) (count : ℕ) (ts : List Entry) → Fills job count ts → Each EmptiesNone ts
no_cut_filling job count ts f = subst (Each EmptiesNone) (sym f.joined)
    (each_append EmptiesNone f.front f.back (each_all EmptiesNone job.from job.part (λ k piece short. tt) (λ piece. tt) job.limit count f.front f.first) (subst (Each EmptiesNone) (sym f.second) (tt, tt)))

-- it stands last
ends_there : (b : Bool) (e : Entry) (ns xs ys : List Entry) → (EmptiesNone e → ⊥) → Each EmptiesNone ns → ns ++ cond b (e ∷ []) [] ≡ xs ++ (e ∷ ys) → xs ≡ ns
ends_there b e [] [] ys cut a is = refl
ends_there true e [] (x ∷ xs) ys cut a is = absurd (nothing xs is)
  where
    nothing : (xs : List Entry) → e ∷ [] ≡ x ∷ (xs ++ (e ∷ ys)) → ⊥
    nothing [] is = cc
    nothing (z ∷ zs) is = cc
ends_there false e [] (x ∷ xs) ys cut a is = absurd (cc)
ends_there b e (n ∷ ns) [] ys cut a is = absurd (cut (subst EmptiesNone same a.0))
  where
    same : n ≡ e
    same = cc
ends_there b e (n ∷ ns) (x ∷ xs) ys cut a is = ap (λ z. z ∷ xs) (sym head) ∙ ap (λ zs. n ∷ zs) (ends_there b e ns xs ys cut a.1 tail)
  where
    head : n ≡ x
    head = cc

    tail : ns ++ cond b (e ∷ []) [] ≡ xs ++ (e ∷ ys)
    tail = cc

-- ---- the law

pub whole_before_cut : (job : Job) (count : ℕ) (p q : Past) (es : List Entry) → Made p es q → IsJournal p → ArePaths job → WritersSpareCopy job p q → Copied job count (reverse es)
    → (u : Past) → IsPrefix p u → IsPrefix (u ▸ entry.Truncates job.from) q → IsCopyWhole job.from job.to p u
whole_before_cut job count p q es m j paths only n u since until = behind (on_way p (u ▸ e) q es m (shorter since) until)
  where
    e : Entry
    e = entry.Truncates job.from

    -- all before it
    named : List Entry
    named = n.front ++ (n.second.front ++ naming job)

    is_named : Named job count named
    is_named = record { front = n.front; back = n.second.front ++ naming job; joined = refl; first = n.first; second = record { front = n.second.front; back = naming job; joined = refl; first = n.second.first; second = refl } }

    no_cut : Each EmptiesNone named
    no_cut = each_append EmptiesNone n.front (n.second.front ++ naming job) (subst (Each EmptiesNone) (sym n.first) (no_cut_opening job)) (each_append EmptiesNone n.second.front (naming job) (no_cut_filling job count n.second.front n.second.first) (tt, (tt, tt)))

    all_are : reverse es ≡ named ++ cutting job
    all_are = n.joined ∙ (ap (λ us. n.front ++ us) (n.second.joined ∙ (ap (λ us. n.second.front ++ us) n.second.second ∙ sym (append_assoc n.second.front (naming job) (cutting job)))) ∙ sym (append_assoc n.front (n.second.front ++ naming job) (cutting job)))

    just : (w : IsOnWay p (u ▸ e) q es) → IsLast p u e w.old → IsCopyWhole job.from job.to p u
    just w k =
        let whole_list : reverse es ≡ reverse k.front ++ (e ∷ reverse w.new) = ap reverse (w.es_are ∙ ap (λ us. w.new ++ us) k.es_are) ∙ (reverse-append w.new (e ∷ k.front) ∙ (ap (λ us. us ++ reverse w.new) (reverse-append (e ∷ []) k.front) ∙ append_assoc (reverse k.front) (e ∷ []) (reverse w.new))) in
        let same : reverse k.front ≡ named = ends_there job.cut e named (reverse k.front) (reverse w.new) (λ i. i) no_cut (sym all_are ∙ whole_list) in
        let one : Made u (e ∷ []) (u ▸ e) = by_tool at_first tt k.fits in
        whole job count p u k.front k.made j paths (since_before _ p u q k.front (w.new ++ e ∷ []) k.made (made_on u (u ▸ e) q (e ∷ []) w.new one w.behind) only) (subst (Named job count) (sym same) is_named)

    behind : IsOnWay p (u ▸ e) q es → IsCopyWhole job.from job.to p u
    behind w = just w (is_last p u (u ▸ e) e w.old (λ i. i) since w.before refl)
