-- What the sample shows of a payload.
use Rattle.std.specs.Prelude.{ℕ, List, [], ◌∷◌, ◌++◌, codes}
use Rattle.package_grammar.specs.declared.command.Command.{Command}
use Rattle.package_grammar.specs.Texts.{text_of}

-- each command's text, with a line feed after it
unfoldable pub lines_of : List Command → List ℕ
lines_of [] = []
lines_of (command ∷ commands) = text_of command ++ (codes "\n" ++ lines_of commands)
