use Rattle.lr_nights.proofs.WordLemmas.{one_word, one_number}
use Rattle.lr_nights.proofs.words.trial_words.Goals as goal

pub returns-in-len1 : goal.returns-in-len1
returns-in-len1 c = λ n. one_number c.args.words.now c.word-item.result n _ (one_word c.args.words.now c.word-item.result c.in-len1.len_at_least c.in-len1.len_below c.word-item.is) (c.number_of.ensures n)
