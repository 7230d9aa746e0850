-- Entries that empty logs, one list behind another.
use Rattle.std.proofs.Common.{◌≡◌, sym, ◌∙◌, ap, subst, ℕ, true, List, [], ◌∷◌, ◌++◌, append_assoc, append-nil}
use Rattle.lr_rules.specs.declared.path.Path.{Path}
use Rattle.lr_host.specs.declared.entry.Entry.{Entry}
use Rattle.lr_host.specs.declared.entry.Entry.TheVariants as entry
use Rattle.lr_host.specs.Quiet.{IsQuiet, AreQuiet}
use Rattle.lr_host.specs.Told.{Each}
use Rattle.lr_host.proofs.Each.{each_as, each_last}
use Rattle.lr_copy.specs.declared.job.Job.{Job}
use Rattle.lr_copy.specs.Stops.{EmptiesNone}
use Rattle.lr_laws_family.specs.Whole.{Named}
use Rattle.lr_laws_acts.specs.Emptied.{CopiedLast, EmptiesCopied}
use Rattle.lr_laws_acts.proofs.Lists.{Stands, in_first, in_second, stands, only_one}

-- ---- none

pub none_empties : (P : Job → Type 0) (ts : List Entry) → Each EmptiesNone ts → EmptiesCopied P ts
none_empties P ts a = λ before log after is. absurd ((each_last EmptiesNone before (entry.Truncates log ∷ after) (subst (Each EmptiesNone) is a)).0)

quiet_one : (e : Entry) → IsQuiet e → EmptiesNone e
quiet_one (entry.Truncates x) i = absurd (let is = i.1 in cc)
quiet_one _ i = tt

pub quiet_empties : (P : Job → Type 0) (ts : List Entry) → AreQuiet ts → EmptiesCopied P ts
quiet_empties P ts q = none_empties P ts (each_as IsQuiet EmptiesNone ts quiet_one q)

-- ---- both

copied_behind : (P : Job → Type 0) (log : Path) (xs before : List Entry) → CopiedLast P log before → CopiedLast P log (xs ++ before)
copied_behind P log xs before c = record {
  job = c.job;
  is = c.is;
  from_is = c.from_is;
  cut = c.cut;
  count = c.count;
  front = xs ++ c.front;
  named = c.named;
  joined = ap (λ us. xs ++ us) c.joined ∙ sym (append_assoc xs c.front c.named);
  is_named = c.is_named;
}

pub both_empty : (P : Job → Type 0) (xs ys : List Entry) → EmptiesCopied P xs → EmptiesCopied P ys → EmptiesCopied P (xs ++ ys)
both_empty P xs ys f g = λ before log after is. go before log after (stands (entry.Truncates log) xs ys before after is)
  where
    go : (before : List Entry) (log : Path) (after : List Entry) → Stands (entry.Truncates log) xs ys before after → CopiedLast P log before
    go before log after (in_first rest r) = f before log rest r
    go before log after (in_second more r s) = subst (CopiedLast P log) (sym r) (copied_behind P log xs more (g more log after s))

pub same_empties : (P : Job → Type 0) (xs ts : List Entry) → ts ≡ xs → EmptiesCopied P xs → EmptiesCopied P ts
same_empties P xs ts is f = subst (EmptiesCopied P) (sym is) f

-- ---- behind a copy

pub copied_then_cut : (P : Job → Type 0) (job : Job) (count : ℕ) (named : List Entry) → P job → job.cut ≡ true → Named job count named → Each EmptiesNone named → EmptiesCopied P (named ++ entry.Truncates job.from ∷ [])
copied_then_cut P job count named is cut n a = λ before log after s. go before log after (stands (entry.Truncates log) named (entry.Truncates job.from ∷ []) before after s)
  where
    same : (log : Path) → entry.Truncates job.from ≡ entry.Truncates log → job.from ≡ log
    same log e = cc

    go : (before : List Entry) (log : Path) (after : List Entry) → Stands (entry.Truncates log) named (entry.Truncates job.from ∷ []) before after → CopiedLast P log before
    go before log after (in_first rest r) = absurd ((each_last EmptiesNone before (entry.Truncates log ∷ rest) (subst (Each EmptiesNone) r a)).0)
    go before log after (in_second more r s) = let one = only_one (entry.Truncates log) (entry.Truncates job.from) more after s in record {
      job = job;
      is = is;
      from_is = same log one.0;
      cut = cut;
      count = count;
      front = [];
      named = named;
      joined = r ∙ (ap (λ us. named ++ us) one.1 ∙ append-nil named);
      is_named = n;
    }
