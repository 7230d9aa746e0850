-- A log that is emptied behind its copy.
use Rattle.std.proofs.Common.{◌≡◌, refl, sym, ◌∙◌, ap, subst, ℕ, List, [], ◌∷◌, ◌++◌, reverse, append_assoc, Option}
use Rattle.std.proofs.lemmas.List.{reverse-append, reverse-reverse}
use Rattle.lr_rules.specs.declared.path.Path.{Path}
use Rattle.lr_host.specs.declared.entry.Entry.{Entry}
use Rattle.lr_host.specs.declared.entry.Entry.TheVariants as entry
use Rattle.lr_host.specs.declared.journal.Journal.{Journal}
use Rattle.lr_host.specs.Opening.{IsJournal}
use Rattle.lr_host.specs.Safe.{IsPrefix, shorter}
use Rattle.lr_host.specs.Told.{Made, Left, not_told, is_told}
use Rattle.lr_host.specs.World.{Past, ◌▸◌, past}
use Rattle.lr_host.proofs.Made.{made_journal, Cut, cut}
use Rattle.lr_host.proofs.Quiet.{since_behind}
use Rattle.lr_copy.specs.declared.job.Job.{Job}
use Rattle.lr_copy.specs.Fits.{ArePaths}
use Rattle.lr_laws.proofs.Lists.{IsOnWay, on_way, made_prefix, prefix_on}
use Rattle.lr_laws_family.specs.Whole.{Named, WritersSpareCopy, IsCopyWhole}
use Rattle.lr_laws_family.proofs.Moments.{IsLast, is_last}
use Rattle.lr_laws_family.proofs.Named.{whole}
use Rattle.lr_laws_acts.specs.Emptied.{CopiedLast, EmptiesCopied, IsCopiedWhole, EmptiesWhole}

-- whole since an earlier moment
unfoldable pub whole_since : (from to : Path) (p b u : Past) → IsPrefix p b → IsCopyWhole from to b u → IsCopyWhole from to p u
whole_since from to p b u i w = record {
  log = w.log;
  copy = w.copy;
  bytes = w.bytes;
  last = w.last;
  since = prefix_on p b w.last i w.since;
  read = w.read;
  unread = w.unread;
  log_then = w.log_then;
  later = w.later;
  fed = w.fed;
  log_now = w.log_now;
  copied = w.copied;
  cut = w.cut;
}

module _ (P : Job → Type 0) (paths : (job : Job) → P job → ArePaths job) (p u : Past) (log : Path) (j : IsJournal p) where
  -- from the moment on at which the copy began
  whole_from : (c : Job) (count : ℕ) (front named : List Entry) → ArePaths c → Named c count named → Cut p u (reverse named) (reverse front) → WritersSpareCopy c p u → IsCopyWhole c.from c.to p u
  whole_from c count front named are n k only = whole_since c.from c.to p k.mid u (made_prefix p k.mid (reverse front) k.first)
      (whole c count k.mid u (reverse named) k.second (made_journal p k.mid (reverse front) k.first j) are (since_behind _ p k.mid u (reverse front) (reverse named) k.first k.second only) (subst (Named c count) (sym (reverse-reverse named)) n))

  copied : (es : List Entry) → Made p es u → CopiedLast P log (reverse es) → IsCopiedWhole P log p u
  copied es m c = record {
    job = c.job;
    is = c.is;
    from_is = c.from_is;
    cut = c.cut;
    whole = λ only. subst (λ (x : Path). IsCopyWhole x c.job.to p u) c.from_is (whole_from c.job c.count c.front c.named (paths c.job c.is) c.is_named (cut p u es (reverse c.named) (reverse c.front) in_two m) only);
  }
    where
      in_two : es ≡ reverse c.named ++ reverse c.front
      in_two = sym (reverse-reverse es) ∙ (ap reverse c.joined ∙ reverse-append c.front c.named)

  emptied : (q : Past) (es : List Entry) → Made p es q → EmptiesCopied P (reverse es) → IsPrefix p u → IsPrefix (u ▸ entry.Truncates log) q → IsCopiedWhole P log p u
  emptied q es m f since until = behind (on_way p (u ▸ e) q es m (shorter since) until)
    where
      e : Entry
      e = entry.Truncates log

      just : (w : IsOnWay p (u ▸ e) q es) → IsLast p u e w.old → IsCopiedWhole P log p u
      just w k = copied k.front k.made (f (reverse k.front) log (reverse w.new) all_are)
        where
          all_are : reverse es ≡ reverse k.front ++ (e ∷ reverse w.new)
          all_are = ap reverse (w.es_are ∙ ap (λ us. w.new ++ us) k.es_are) ∙ (reverse-append w.new (e ∷ k.front) ∙ (ap (λ us. us ++ reverse w.new) (reverse-append (e ∷ []) k.front) ∙ append_assoc (reverse k.front) (e ∷ []) (reverse w.new)))

      behind : IsOnWay p (u ▸ e) q es → IsCopiedWhole P log p u
      behind w = just w (is_last p u (u ▸ e) e w.old (λ i. i) since w.before refl)

pub empties_whole : (P : Job → Type 0) → ((job : Job) → P job → ArePaths job) → {o n : Option Journal} → Left (EmptiesCopied P) o n → EmptiesWhole P o n
empties_whole P paths not_told = tt
empties_whole P paths (is_told {j = j} {k = k} {es = es} m f) = λ disk u log since until. emptied P paths (past j) u log disk (past k) es m f since until
