use Rattle.package_grammar.proofs.Answers.{one_answer}
use Rattle.package_grammar.proofs.laws.reading_has_one_answer.Goals as goal

pub returns : goal.returns
returns c = one_answer
