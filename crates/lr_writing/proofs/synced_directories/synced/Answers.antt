use Rattle.std.proofs.Common.{◌∙◌, ap, Bool, not, ◌&&◌}
use Rattle.std.specs.BTreeSet.{contains_text}
use Rattle.std.proofs.lemmas.List.Elements.{filter_agree}
use Rattle.std.specs.List.{list_any}
use Rattle.std.specs.Str.{bytes_eq}
use Rattle.lr_writing.specs.Synced.{all_to_make_of, made_in, is_unmade}
use Rattle.lr_writing.proofs.synced_directories.synced.Goals as goal

pub returns : goal.returns
returns c = λ sets by. record {
  all = c.args.directories.all;
  are = by.all;
  dirs_are = c.without.ensures ∙ filter_agree (λ dir. not (contains_text c.strike_all.new.unmade dir)) (λ dir. not (is_unmade (all_to_make_of sets) (made_in c.args.marks.now) dir))
      (λ dir. ap not (c.strike_all.ensures dir ∙ ap (λ (b : Bool). b && not (list_any (bytes_eq dir) (made_in c.args.marks.now))) (by.to_make dir))) c.args.directories.all;
}
