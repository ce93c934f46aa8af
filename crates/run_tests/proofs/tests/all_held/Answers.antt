use Rattle.std.proofs.Common.{◌≡◌, ◌∙◌, sym, string_bytes}
use Rattle.fuota_run.specs.Memory.{held_by}
use Rattle.run_tests.proofs.WordsHeld.{holds_words}
use Rattle.run_tests.proofs.tests.all_held.Goals as goal

pub returns : goal.returns
returns c = λ is. holds_words string_bytes (held_by c.args.files.now.files) c.args.words.now c.names_are_words.ensures
    (sym c.are_held.ensures ∙ is)
