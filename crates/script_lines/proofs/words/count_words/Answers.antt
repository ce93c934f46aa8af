use Rattle.std.proofs.Common.{◌==◌}
use Rattle.std.proofs.lemmas.List.Splits.{length-slice_split}
use Rattle.std.proofs.Common.{rules}
use Rattle.script_lines.specs.Lines.{words_of}
use Rattle.script_lines.proofs.words.count_words.Goals as goal

pub returns : goal.returns
unfolding words_of
returns c = rw (length-slice_split (λ b. b == 32) c.args.line.now) (search (rules))
