-- The worked lines of two campaigns' script spell their forms.
use Rattle.hex.specs.Hex.{decode_pairs}
use Rattle.script_lines.specs.Lines.{words_of, word}
use Rattle.script_lines.specs.Numbers.{decimal_of, key_of, hex_number_of}
use Rattle.script_lines.specs.PairForms.{pair_form_of}
use Rattle.script_lines.specs.WorkedPairs.{ArePairForms, AreNoPairForms}

pub forms : ArePairForms
unfolding pair_form_of words_of word decimal_of key_of hex_number_of decode_pairs
forms = search

pub none : AreNoPairForms
unfolding pair_form_of words_of word decimal_of key_of hex_number_of decode_pairs
none = search
