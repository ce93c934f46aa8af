-- Parts of a line that are read, and the words that they are.
use Rattle.std.proofs.Common.{◌≡◌, ℕ, ◌+◌, ◌<◌, ◌≤◌, List, [], ◌∷◌, length, take, drop, get_or, Option, Some, refl, sym, ap, ◌∙◌}
use Rattle.script_lines.specs.Lines.{words_of}
use Rattle.script_lines.specs.Numbers.{decimal_of, hex_bytes_of}
use Rattle.script_lines.specs.HeldWords.{DecimalFirst, WordLast}
use Rattle.script_lines.proofs.CutWords.{first_word, last_word, whole_decimal}

-- a decimal before a space
pub decimal_first : (bytes rest : List ℕ) (end n : ℕ) → end < length bytes → get_or bytes end 0 ≡ 32 → decimal_of (take end bytes) ≡ Some n
    → rest ≡ drop (end + 1) bytes → DecimalFirst bytes n rest
decimal_first bytes rest end n within space is behind = record {
  digits = take end bytes;
  words = first_word bytes end n within space is ∙ ap (λ (l : List ℕ). take end bytes ∷ words_of l) (sym behind);
  decimal = is;
}

-- a word before WORD
before_word : {A : Type 0} (spelled_by : List ℕ → Option A) (bytes : List ℕ) (value : A) (end random : ℕ)
    → words_of bytes ≡ take end bytes ∷ words_of (drop (end + 1) bytes) → spelled_by (take end bytes) ≡ Some value
    → decimal_of (drop (end + 1) bytes) ≡ Some random → WordLast spelled_by bytes value random
before_word spelled_by bytes value end random words is word_is = record {
  first = take end bytes;
  more = drop (end + 1) bytes ∷ [];
  words = words ∙ ap (λ (ws : List (List ℕ)). take end bytes ∷ ws) (last_word (drop (end + 1) bytes) random word_is);
  spelled = is;
  word = word_is;
}

-- a decimal as the last word
pub decimal_alone : (bytes : List ℕ) (end n : ℕ) → length bytes ≤ end → decimal_of (take end bytes) ≡ Some n → WordLast decimal_of bytes n 0
decimal_alone bytes end n all is =
    let whole = whole_decimal bytes end n all is in
    record { first = bytes; more = []; words = last_word bytes n whole; spelled = whole; word = refl }

pub decimal_before_word : (bytes : List ℕ) (end n random : ℕ) → end < length bytes → get_or bytes end 0 ≡ 32
    → decimal_of (take end bytes) ≡ Some n → decimal_of (drop (end + 1) bytes) ≡ Some random → WordLast decimal_of bytes n random
decimal_before_word bytes end n random within space is word_is =
    before_word decimal_of bytes n end random (first_word bytes end n within space is) is word_is

pub hex_before_word : (bytes payload : List ℕ) (end random : ℕ) → words_of bytes ≡ take end bytes ∷ words_of (drop (end + 1) bytes)
    → hex_bytes_of (take end bytes) ≡ Some payload → decimal_of (drop (end + 1) bytes) ≡ Some random → WordLast hex_bytes_of bytes payload random
hex_before_word bytes payload end random words is word_is = before_word hex_bytes_of bytes payload end random words is word_is

-- a decimal, and what stands after it
pub two_words : {A : Type 0} {spelled_by : List ℕ → Option A} {bytes behind : List ℕ} {n : ℕ} {value : A} {random : ℕ}
    (first : DecimalFirst bytes n behind) (last : WordLast spelled_by behind value random) → words_of bytes ≡ first.digits ∷ last.first ∷ last.more
two_words first last = first.words ∙ ap (λ (ws : List (List ℕ)). first.digits ∷ ws) last.words
