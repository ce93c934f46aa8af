use Rattle.script_lines.proofs.CutWords.{space_inside, word_to_space, word_without_space}
use Rattle.script_lines.proofs.words.first_space.Goals as goal

pub returns-clause-within : goal.returns-clause-within
returns-clause-within c = space_inside c.args.line.now c.memchr.result c.memchr.ensures

pub returns-clause-some : goal.returns-clause-some
returns-clause-some c = word_to_space c.args.line.now c.memchr.result c.memchr.ensures

pub returns-clause-none : goal.returns-clause-none
returns-clause-none c = word_without_space c.args.line.now c.memchr.result c.memchr.ensures
