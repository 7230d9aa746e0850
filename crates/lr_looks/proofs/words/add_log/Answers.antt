use Rattle.std.proofs.Common.{◌++◌, ◌∷◌, [], refl, ap, ◌∙◌}
use Rattle.std.proofs.lemmas.List.{map-append}
use Rattle.lr_rules.specs.Match.{is_wildcard}
use Rattle.lr_looks.specs.Found.{FoundLog, found_in, all_found_in}
use Rattle.lr_looks.proofs.Kindred.{found_same, format_fine}
use Rattle.lr_looks.proofs.Looking.{short_path}
use Rattle.lr_looks.proofs.words.add_log.Goals as goal

pub family_of-requires-clause-size : goal.family_of-requires-clause-size
family_of-requires-clause-size c = let h = short_path c.args.at c.requires.short in h.0

pub family_of-requires-clause-last : goal.family_of-requires-clause-last
family_of-requires-clause-last c = let h = short_path c.args.at c.requires.short in h.1

pub returns-clause-found : goal.returns-clause-found
returns-clause-found c =
    ap all_found_in c.in_ok-push.ensures.items
    ∙ (map-append found_in c.args.found.now.items (record { set = c.args.set; family = c.in_ok-family.family; seen = c.args.at.seen; wild = c.is_wildcard.result; ignore_duplicates = c.args.rule.now.ignore_duplicates } ∷ [])
    ∙ ap (λ (f : FoundLog). all_found_in c.args.found.now.items ++ f ∷ [])
    (found_same c.args.set c.args.rule.now c.args.word.now c.args.at (record { set = c.args.set; family = c.in_ok-family.family; seen = c.args.at.seen; wild = c.is_wildcard.result; ignore_duplicates = c.args.rule.now.ignore_duplicates })
    refl c.in_ok-family.ensures.log c.in_ok-family.ensures.naming refl (c.is_wildcard.ensures ∙ ap is_wildcard c.bytes.ensures.bytes) refl))

pub returns-clause-path : goal.returns-clause-path
returns-clause-path c = let h = short_path c.args.at c.requires.short in record { path = c.in_ok-family.ensures.path; dir = c.in_ok-family.ensures.dir; size = h.0; last = h.1; format = format_fine c.args.rule.now c.requires.rule }
