use Rattle.std.proofs.Common.{Ok, Err}
use Rattle.package_grammar.proofs.ReadingLaw.{read_as, answered}
use Rattle.package_grammar.proofs.laws.reading_is_exact.Goals as goal

pub returns-clause-message : goal.returns-clause-message
returns-clause-message c = λ port dir bytes cs. (λ is. answered port dir bytes (Ok cs) is, λ message. read_as port dir bytes (Ok cs) message)

pub returns-clause-stops : goal.returns-clause-stops
returns-clause-stops c = λ port dir bytes refusal. (λ is. answered port dir bytes (Err refusal) is, λ stops. read_as port dir bytes (Err refusal) stops)
