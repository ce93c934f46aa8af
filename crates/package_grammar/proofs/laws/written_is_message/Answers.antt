use Rattle.package_grammar.proofs.Written.{message_of}
use Rattle.package_grammar.proofs.laws.written_is_message.Goals as goal

pub returns : goal.returns
returns c = message_of
