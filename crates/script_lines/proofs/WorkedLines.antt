-- The worked lines spell their forms.
use Rattle.hex.specs.Hex.{decode_pairs}
use Rattle.script_lines.specs.Lines.{lines_of, words_of, word}
use Rattle.script_lines.specs.Numbers.{decimal_of, key_of, hex_number_of, hex_bytes_of}
use Rattle.script_lines.specs.Forms.{form_of}
use Rattle.script_lines.specs.WorkedLines.{AreForms, AreNone, AreCut, AreNumbers}

pub forms : AreForms
unfolding form_of words_of word decimal_of key_of hex_number_of hex_bytes_of decode_pairs
forms = search

pub none : AreNone
unfolding form_of words_of word decimal_of key_of hex_number_of hex_bytes_of decode_pairs
none = search

pub lines : AreCut
unfolding lines_of words_of
lines = search

pub numbers : AreNumbers
unfolding decimal_of hex_number_of decode_pairs
numbers = search
