use Rattle.std.proofs.Common.{◌≡◌, map, string_bytes, take, All}
use Rattle.std.specs.Prelude.{IsUtf8}
use Rattle.fuota_run_c.specs.Given.{words_in}
use Rattle.fuota_run_c.proofs.words.words_of.Given as goal

abbrev pub invariant-loop-word : goal.invariant-loop-word
invariant-loop-word l = (map string_bytes l.words.items ≡ words_in (take l.word-index l.told)) × All IsUtf8 (words_in (take l.word-index l.told))
