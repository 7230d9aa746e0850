use Rattle.std.proofs.Common.{◌≡◌, ℕ, ◌++◌, [], ◌∷◌, refl, ap, subst, ◌∙◌, cond, to_z, of_z, w64, List, true, Option}
use Rattle.std.specs.Prelude.{ℤ, Result, Ok, Err, IsOk, is_ok}
use Rattle.std.proofs.lemmas.Int.{to_z-of_z}
use Rattle.lr_host.specs.World.{File}
use Rattle.lr_disk.specs.declared.file.MemFile.{MemFile}
use Rattle.lr_disk.proofs.StateLemmas.{shows_made}
use Rattle.lr_disk.proofs.change.draw.Goals as goal

ok_true : {T E : Type 0} (r : Result T E) → IsOk r → is_ok r ≡ true
ok_true (Ok x) h = refl
ok_true (Err x) h = absurd (cc)

abbrev new_file : List ℕ → ℤ → Option ℕ → File
new_file bytes at mode = record { bytes = bytes; synced = 0; mtime = at; mode = mode }

pub returns-clause-made : goal.returns-clause-made
returns-clause-made c = λ w x ready shows.
    let f : MemFile = record { bytes = c.new.result; synced = 0; mtime = to_z w64 (of_z w64 c.args.mtime); mode = c.args.mode } in
    shows_made c.args.state.now _ w x c.args.mtime c.args.mode f shows (c.change.ensures _ ready.0)
    (subst (λ b. c.push.new.self.items ≡ cond b (c.args.state.now.files.items ++ f ∷ []) c.args.state.now.files.items) (ok_true c.push.result (c.push.ensures.succeeds ready.1)) c.push.ensures.items)
    (ap (λ bytes. new_file bytes f.mtime c.args.mode) c.new.ensures.items ∙ ap (λ z. new_file [] z c.args.mode) (to_z-of_z w64 c.args.mtime c.ranges.mtime)) refl refl
