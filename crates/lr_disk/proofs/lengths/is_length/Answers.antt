use Rattle.std.proofs.Common.{◌≡◌, ◌≤◌, length, sym, subst, ◌∙◌}
use Rattle.std.proofs.lemmas.Bool.{leb-true, le-leb}
use Rattle.lr_disk.specs.State.{as_file, file_with}
use Rattle.lr_disk.proofs.StateLemmas.{file_here}
use Rattle.lr_disk.proofs.LengthLemmas.{has_named, named_has}
use Rattle.lr_disk.proofs.lengths.is_length.Goals as goal

pub returns-then-not-is_named : goal.returns-then-not-is_named
returns-then-not-is_named c = ((λ f. absurd (cc)), (λ l. absurd (let h = named_has c.args.names.now c.args.pair.0 l.0.0 l.0.1 in let e = c.is_named.ensures in let f = c.if-not-is_named.true in cc)))

pub returns-then-file-pair : goal.returns-then-file-pair
returns-then-file-pair c =
    let file = c.index-files-place.result in
    let here : file_with c.args.files.now c.args.pair.0 ≡ as_file file = file_here c.args.files.now c.args.pair.0 file c.if-place-files.false c.index-files-place.is in
    let size : c.len.result ≡ length file.bytes.items = c.len.ensures ∙ file.bytes.ok.0 in (
      (λ t. (
        has_named c.args.names.now c.args.pair.0 c.requires.once (sym c.is_named.ensures ∙ c.if-not-is_named.false),
        subst (λ f. f.synced ≤ c.args.pair.1) (sym here) c.if-file-pair.true,
        subst (λ f. c.args.pair.1 ≤ length f.bytes) (sym here) (subst (λ n. c.args.pair.1 ≤ n) size (leb-true c.args.pair.1 c.len.result t)),
      )),
      (λ l. le-leb c.args.pair.1 c.len.result (subst (λ n. c.args.pair.1 ≤ n) (sym size) (subst (λ f. c.args.pair.1 ≤ length f.bytes) here l.2))),
    )
