use Rattle.std.proofs.Common.{◌≡◌, get_or, ℕ, ◌+◌, ◌<◌, length, refl, sym, ap, subst, ◌∙◌, arith, nat_eq, Bool, true, false}
use Rattle.std.specs.Prelude.{slice_set}
use Rattle.lr_host.specs.World.{length_of}
use Rattle.lr_disk.specs.State.{as_file, file_with, cut_file}
use Rattle.lr_disk.proofs.PairLemmas.{numbers_tell}
use Rattle.lr_disk.proofs.StateLemmas.{set_here, set_there, file_here, length_set}
use Rattle.lr_disk.proofs.bytes.cut_all.Goals as goal

pub loop-i-preserved : goal.loop-i-preserved
loop-i-preserved c =
    let fs = c.loop-i.files in
    let at = c.loop-i.i in
    let y = c.shorten_file.new.file in
    let lt : at < length fs = (let e = c.loop-i.invariant.size in let t = c.loop-i-test.true in omega arith) in
    let here : file_with (slice_set fs at y) at ≡ cut_file (length_of c.args.lengths.now at) (file_with c.args.files.now at) =
    set_here fs at y lt ∙ (c.shorten_file.ensures ∙ (ap (λ l. cut_file l (as_file (get_or fs at c.index-files-i.result))) c.length_for-limit.ensures
    ∙ ap (cut_file (length_of c.args.lengths.now at)) (ap as_file (sym c.index-files-i.is) ∙ (sym (file_here fs at c.index-files-i.result lt c.index-files-i.is) ∙ c.loop-i.invariant.rest at (omega arith))))) in
    record {
      size = length_set fs at y ∙ c.loop-i.invariant.size;
      cut = λ id less. go id less (nat_eq at id) refl here;
      rest = λ id le. set_there fs at id y (λ same. (omega arith)) ∙ c.loop-i.invariant.rest id (omega arith);
    }
  where
    go : (id : ℕ) → id < c.loop-i.i + 1 → (b : Bool) → nat_eq c.loop-i.i id ≡ b
        → file_with (slice_set c.loop-i.files c.loop-i.i c.shorten_file.new.file) c.loop-i.i ≡ cut_file (length_of c.args.lengths.now c.loop-i.i) (file_with c.args.files.now c.loop-i.i)
        → file_with (slice_set c.loop-i.files c.loop-i.i c.shorten_file.new.file) id ≡ cut_file (length_of c.args.lengths.now id) (file_with c.args.files.now id)
    go id less true e here = subst (λ j. file_with (slice_set c.loop-i.files c.loop-i.i c.shorten_file.new.file) j ≡ cut_file (length_of c.args.lengths.now j) (file_with c.args.files.now j)) ((numbers_tell c.loop-i.i id).0 e) here
    go id less false e here =
        let ne : id ≡ c.loop-i.i → ⊥ = λ same. (let t : nat_eq c.loop-i.i id ≡ true = (numbers_tell c.loop-i.i id).1 (sym same) in cc) in
        set_there c.loop-i.files c.loop-i.i id c.shorten_file.new.file ne ∙ c.loop-i.invariant.cut id (before id less ne)
      where
        before : (id : ℕ) → id < c.loop-i.i + 1 → (id ≡ c.loop-i.i → ⊥) → id < c.loop-i.i
        before id less ne = omega arith
