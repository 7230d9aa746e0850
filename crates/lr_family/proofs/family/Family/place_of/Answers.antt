use Rattle.lr_family.proofs.family.Family.place_of.Goals as goal

pub returns-in-None-clause-numbers : goal.returns-in-None-clause-numbers
returns-in-None-clause-numbers c = λ place. ((λ e. (c.in-None.is, (c.number_place.ensures.numbers place).0 e)), (λ m. (c.number_place.ensures.numbers place).1 m.1))
