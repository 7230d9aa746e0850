use Rattle.std.proofs.Common.{◌≡◌, refl, subst, map, true, false, codes, List, ℕ}
use Rattle.std.specs.Prelude.{IfOk, Err}
use Rattle.std.specs.List.{list_all}
use Rattle.clap.specs.Words.{found_of}
use Rattle.lr_rules.specs.Path.{cleaned}
use Rattle.lr_command.specs.declared.request.WordsFault.TheVariants.{Refused}
use Rattle.lr_command.specs.Words.{is_path}
use Rattle.lr_command.proofs.Lent.{words_are}
use Rattle.lr_command.proofs.request.confs_of.Goals as goal

pub returns-clause-confs : goal.returns-clause-confs
returns-clause-confs c =
    subst (λ (ws : List (List ℕ)). IfOk c.paths_of.result (λ paths. paths ≡ map (cleaned c.args.here.now) ws))
    (words_are (found_of c.args.found.now) (codes "conf") c.get_strs.result c.unwrap_or.result _ c.unwrap_or.ensures refl c.get_strs.ensures) c.paths_of.ensures.paths

pub returns-clause-has_confs : goal.returns-clause-has_confs
returns-clause-has_confs c =
    subst (λ (ws : List (List ℕ)). IfOk c.paths_of.result (λ paths. list_all (is_path c.args.here.now) ws ≡ true))
    (words_are (found_of c.args.found.now) (codes "conf") c.get_strs.result c.unwrap_or.result _ c.unwrap_or.ensures refl c.get_strs.ensures) c.paths_of.ensures.are_paths

pub returns-clause-refused : goal.returns-clause-refused
returns-clause-refused c =
    subst (λ (ws : List (List ℕ)). c.paths_of.result ≡ Err Refused → list_all (is_path c.args.here.now) ws ≡ false)
    (words_are (found_of c.args.found.now) (codes "conf") c.get_strs.result c.unwrap_or.result _ c.unwrap_or.ensures refl c.get_strs.ensures) c.paths_of.ensures.refused
