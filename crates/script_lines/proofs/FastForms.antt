-- The forms of lines that come often.
use Rattle.std.proofs.Common.{◌≡◌, ℕ, List, [], ◌∷◌, ◌++◌, ◌≤◌, length, take, codes, Some, refl, ap, ◌∙◌, arith}
use Rattle.script_lines.specs.declared.forms.Form.{Form}
use Rattle.script_lines.specs.declared.forms.Form.TheVariants.{At, Wake, Migrate, Power, Ask, Frag, Status, Down, Raw, Air, RawAir, Up}
use Rattle.script_lines.specs.Lines.{words_of, word}
use Rattle.script_lines.specs.Numbers.{decimal_of, hex_bytes_of}
use Rattle.script_lines.specs.Forms.{form_of, with_decimal}
use Rattle.script_lines.specs.PairForms.{pair_form_of, of_none}
use Rattle.script_lines.specs.HeldWords.{DecimalFirst, WordLast, random_of, IsForm, DecimalLast}
use Rattle.script_lines.proofs.CutWords.{last_word, whole_decimal}
use Rattle.script_lines.proofs.HeldWords.{two_words}

-- ---- the words after a keyword

pub words_after_down : (rest : List ℕ) → words_of (codes "down " ++ rest) ≡ codes "down" ∷ words_of rest
unfolding words_of
words_after_down rest = refl

pub words_after_air : (rest : List ℕ) → words_of (codes "air " ++ rest) ≡ codes "air" ∷ words_of rest
unfolding words_of
words_after_air rest = refl

words_after_raw_air : (rest : List ℕ) → words_of (codes "rawair " ++ rest) ≡ codes "rawair" ∷ words_of rest
unfolding words_of
words_after_raw_air rest = refl

words_after_raw : (rest : List ℕ) → words_of (codes "raw " ++ rest) ≡ codes "raw" ∷ words_of rest
unfolding words_of
words_after_raw rest = refl

-- ---- the form of only its keyword

pub frag_line : (rest : List ℕ) → length rest ≡ 0 → form_of (codes "frag" ++ rest) ≡ Some Frag
unfolding form_of words_of word
frag_line [] none = refl
frag_line (b ∷ bs) none = absurd (omega arith)

pub status_line : (rest : List ℕ) → length rest ≡ 0 → form_of (codes "status" ++ rest) ≡ Some Status
unfolding form_of words_of word
status_line [] none = refl
status_line (b ∷ bs) none = absurd (omega arith)

-- ---- forms with one decimal

one_decimal : (line keyword rest : List ℕ) (n : ℕ) (form : ℕ → Form) → words_of line ≡ keyword ∷ words_of rest
    → decimal_of rest ≡ Some n → with_decimal line form ≡ Some (form n)
unfolding word
one_decimal line keyword rest n form words is =
    let all : words_of line ≡ keyword ∷ rest ∷ [] = words ∙ ap (λ (ws : List (List ℕ)). keyword ∷ ws) (last_word rest n is) in
    rw (all, is) refl

by_form : {line : List ℕ} {form : Form} → form_of line ≡ Some form → pair_form_of line ≡ of_none (form_of line) → IsForm line form
by_form one same = record { one = one; two = same ∙ ap of_none one }

pub decimal_last : (rest : List ℕ) (end n : ℕ) → length rest ≤ end → decimal_of (take end rest) ≡ Some n → DecimalLast rest n
unfolding form_of pair_form_of words_of word
decimal_last rest end n all front = let is = whole_decimal rest end n all front in record {
  decimal = is;
  up = one_decimal (codes "up " ++ rest) (codes "up") rest n (λ n. Up n) refl is;
  ask = by_form (one_decimal (codes "ask " ++ rest) (codes "ask") rest n (λ n. Ask n) refl is) refl;
  at = by_form (one_decimal (codes "at " ++ rest) (codes "at") rest n (λ n. At n) refl is) refl;
  wake = by_form (one_decimal (codes "wake " ++ rest) (codes "wake") rest n (λ n. Wake n) refl is) refl;
  migrate = by_form (one_decimal (codes "migrate " ++ rest) (codes "migrate") rest n (λ n. Migrate n) refl is) refl;
  power = by_form (one_decimal (codes "power " ++ rest) (codes "power") rest n (λ n. Power n) refl is) refl;
}

-- ---- forms with [WORD] at the end

pub down_line : (rest behind : List ℕ) (n d random : ℕ) → DecimalFirst rest n behind → WordLast decimal_of behind d random
    → form_of (codes "down " ++ rest) ≡ Some (Down n d random)
unfolding form_of word
down_line rest behind n d random number device =
    by_words (codes "down " ++ rest) device.more
    (words_after_down rest ∙ ap (λ (ws : List (List ℕ)). codes "down" ∷ ws) (two_words number device)) device.word
  where
    by_words : (line : List ℕ) (more : List (List ℕ)) → words_of line ≡ codes "down" ∷ number.digits ∷ device.first ∷ more
        → random_of more ≡ Some random → form_of line ≡ Some (Down n d random)
    by_words line [] words is = let none : 0 ≡ random = cc in rw (words, number.decimal, device.spelled, ← none) refl
    by_words line (w ∷ []) words is = rw (words, number.decimal, device.spelled, is) refl
    by_words line (w ∷ another ∷ more) words is = absurd cc

pub air_line : (rest behind : List ℕ) (n d random : ℕ) → DecimalFirst rest n behind → WordLast decimal_of behind d random
    → form_of (codes "air " ++ rest) ≡ Some (Air n d random)
unfolding form_of word
air_line rest behind n d random number device =
    by_words (codes "air " ++ rest) device.more
    (words_after_air rest ∙ ap (λ (ws : List (List ℕ)). codes "air" ∷ ws) (two_words number device)) device.word
  where
    by_words : (line : List ℕ) (more : List (List ℕ)) → words_of line ≡ codes "air" ∷ number.digits ∷ device.first ∷ more
        → random_of more ≡ Some random → form_of line ≡ Some (Air n d random)
    by_words line [] words is = let none : 0 ≡ random = cc in rw (words, number.decimal, device.spelled, ← none) refl
    by_words line (w ∷ []) words is = rw (words, number.decimal, device.spelled, is) refl
    by_words line (w ∷ another ∷ more) words is = absurd cc

pub raw_line : (rest behind last : List ℕ) (d p : ℕ) (payload : List ℕ) (random : ℕ)
    → DecimalFirst rest d behind → DecimalFirst behind p last → WordLast hex_bytes_of last payload random
    → form_of (codes "raw " ++ rest) ≡ Some (Raw d p payload random)
unfolding form_of word
raw_line rest behind last d p payload random device port hex =
    by_words (codes "raw " ++ rest) hex.more
    (words_after_raw rest ∙ ap (λ (ws : List (List ℕ)). codes "raw" ∷ ws)
    (device.words ∙ ap (λ (ws : List (List ℕ)). device.digits ∷ ws) (two_words port hex))) hex.word
  where
    by_words : (line : List ℕ) (more : List (List ℕ)) → words_of line ≡ codes "raw" ∷ device.digits ∷ port.digits ∷ hex.first ∷ more
        → random_of more ≡ Some random → form_of line ≡ Some (Raw d p payload random)
    by_words line [] words is = let none : 0 ≡ random = cc in rw (words, device.decimal, port.decimal, hex.spelled, ← none) refl
    by_words line (w ∷ []) words is = rw (words, device.decimal, port.decimal, hex.spelled, is) refl
    by_words line (w ∷ another ∷ more) words is = absurd cc

pub raw_air_line : (rest behind : List ℕ) (d : ℕ) (bytes : List ℕ) (random : ℕ)
    → DecimalFirst rest d behind → WordLast hex_bytes_of behind bytes random
    → form_of (codes "rawair " ++ rest) ≡ Some (RawAir d bytes random)
unfolding form_of word
raw_air_line rest behind d bytes random device hex =
    by_words (codes "rawair " ++ rest) hex.more
    (words_after_raw_air rest ∙ ap (λ (ws : List (List ℕ)). codes "rawair" ∷ ws) (two_words device hex)) hex.word
  where
    by_words : (line : List ℕ) (more : List (List ℕ)) → words_of line ≡ codes "rawair" ∷ device.digits ∷ hex.first ∷ more
        → random_of more ≡ Some random → form_of line ≡ Some (RawAir d bytes random)
    by_words line [] words is = let none : 0 ≡ random = cc in rw (words, device.decimal, hex.spelled, ← none) refl
    by_words line (w ∷ []) words is = rw (words, device.decimal, hex.spelled, is) refl
    by_words line (w ∷ another ∷ more) words is = absurd cc
