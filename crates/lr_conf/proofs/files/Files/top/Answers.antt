use Rattle.std.proofs.Common.{◌≡◌, [], ◌<◌, length, sym, ap, ◌∙◌, subst}
use Rattle.lr_conf.specs.Fields.{last_or}
use Rattle.lr_conf.proofs.Lasts.{last_at}
use Rattle.lr_conf.proofs.files.Files.top.Goals as goal

pub returns : goal.returns
returns c =
    let paths = c.as_slice-paths.result.now in
    let same : paths ≡ c.args.self.now = c.as_slice-paths.ensures.value ∙ c.self.view_is in
    let some : 0 < length paths = subst (λ l. 0 < length l) (sym same) c.requires in
    c.index-paths-paths.is ∙ sym (last_at [] c.index-paths-paths.result paths some) ∙ ap (last_or []) same
