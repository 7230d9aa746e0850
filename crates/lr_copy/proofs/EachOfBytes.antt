-- What holds of each entry of a copy of bytes.
use Rattle.std.proofs.Common.{sym, subst, ℕ, ◌≤◌, arith, List, [], ◌∷◌, ◌++◌, length}
use Rattle.lr_rules.specs.declared.path.Path.{Path}
use Rattle.lr_host.specs.declared.entry.Entry.{Entry}
use Rattle.lr_host.specs.declared.entry.Entry.TheVariants.{Reads, Appends}
use Rattle.lr_host.specs.Told.{Each, Then, Are}
use Rattle.lr_host.specs.Appending.{AppendBroke}
use Rattle.lr_host.proofs.Each.{each_append}
use Rattle.lr_host.proofs.Appending.{each_append_broke}
use Rattle.lr_copy.specs.declared.job.BytesStop.{BytesStop}
use Rattle.lr_copy.specs.declared.job.BytesStop.TheVariants as broke
use Rattle.lr_copy.specs.Bytes.{Copying, none_read, read_more, took_more, AllBytes, BytesBroke}

pub each_both : (P : Entry → Type 0) (Q R : List Entry → Type 0) (ts : List Entry) → ((us : List Entry) → Q us → Each P us) → ((us : List Entry) → R us → Each P us) → Then Q R ts → Each P ts
each_both P Q R ts f g h = subst (Each P) (sym h.joined) (each_append P h.front h.back (f h.front h.first) (g h.back h.second))

pub each_are : (P : Entry → Type 0) (es ts : List Entry) → Each P es → Are es ts → Each P ts
each_are P es ts a is = subst (Each P) (sym is) a

module _ (P : Entry → Type 0) (from to : Path) (reads : (k : ℕ) (piece : List ℕ) → length piece ≤ 65536 → P (Reads from k piece)) (appends : (piece : List ℕ) → P (Appends to piece)) where
  pub each_copying : (bytes owed : List ℕ) (ts : List Entry) → Copying from to bytes owed ts → Each P ts
  each_copying _ _ _ none_read = tt
  each_copying _ _ _ (read_more {bytes = bytes} {ts = ts} c piece some short) = each_append P ts (Reads from (length bytes) piece ∷ []) (each_copying bytes [] ts c) (reads (length bytes) piece short, tt)
  each_copying bytes owed _ (took_more {ts = ts} piece _ c) = each_append P ts (Appends to piece ∷ []) (each_copying bytes (piece ++ owed) ts c) (appends piece, tt)

  -- of all bytes
  pub each_all : (limit count : ℕ) (ts : List Entry) → AllBytes from to limit count ts → Each P ts
  each_all limit count ts c = each_both P (Copying from to c.bytes []) (Are (Reads from (length c.bytes) [] ∷ [])) ts (λ us h. each_copying c.bytes [] us h) (λ us is. each_are P (Reads from (length c.bytes) [] ∷ []) us (reads (length c.bytes) [] (omega arith), tt) is) c.entries

  -- of those up to where it broke off
  pub each_broke : (limit : ℕ) (why : BytesStop) (ts : List Entry) → BytesBroke from to limit why ts → Each P ts
  each_broke limit broke.Read ts h = each_copying h.0 [] ts h.2
  each_broke limit broke.Append ts h = each_both P (Copying from to h.0 h.1) (AppendBroke to h.1) ts (λ us c. each_copying h.0 h.1 us c) (λ us b. each_append_broke P to h.1 us (λ piece short. appends piece) b) h.3
  each_broke limit broke.TooLong ts h = each_copying h.0 h.1 ts h.3
