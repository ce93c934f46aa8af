use Rattle.std.proofs.Common.{[], ◌∷◌, Ok}
use Rattle.package_grammar.specs.Grammar.{canonical}
use Rattle.package_grammar.proofs.Written.{message_of}
use Rattle.package_grammar.proofs.ReadingLaw.{read_as}
use Rattle.package_grammar.proofs.laws.written_is_read.Goals as goal

pub returns : goal.returns
returns c = λ command port dir valid listed. read_as port dir (canonical command) (Ok (command ∷ [])) (message_of command port dir valid listed)
