use Rattle.lr_words.proofs.LogNames.{log_name_meets, of_literal}
use Rattle.lr_words.proofs.WordLimits.{extension_meets, address_meets, olddir_meets}
use Rattle.lr_words.proofs.word_laws.words_meet_limits.Goals as goal

pub returns-clause-log_name : goal.returns-clause-log_name
returns-clause-log_name c word said h = log_name_meets word said h

pub returns-clause-literal : goal.returns-clause-literal
returns-clause-literal c word said plain h = of_literal word said plain h

pub returns-clause-extension : goal.returns-clause-extension
returns-clause-extension c word said h = extension_meets word said h

pub returns-clause-address : goal.returns-clause-address
returns-clause-address c word said h = address_meets word said h

pub returns-clause-olddir : goal.returns-clause-olddir
returns-clause-olddir c word said h = olddir_meets word said h
