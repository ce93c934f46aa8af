-- Which words of hex digits are read, and how many bytes they spell.
use Rattle.std.proofs.Common.{◌≡◌, ◌≤◌, ℕ, ◌+◌, ◌-◌, ◌*◌, ◌/◌, ◌%◌, Bool, true, false, ◌&&◌, ◌||◌, ◌==◌, nat_le, if◌then◌else◌, List, [], ◌∷◌, length, codes, None, Some, is_some, Result, Ok, Err, is_ok, refl, sym, ◌∙◌, arith}
use Rattle.std.specs.List.{list_all}
use Rattle.std.specs.Char.{is_ascii_hexdigit}
use Rattle.std.specs.Str.{bytes_eq}
use Rattle.hex.specs.Hex.{digit_or_error, value_at, decode_pairs, decode_of, decode_sized, ◌>>=◌}
use Rattle.hex.specs.declared.error.FromHexError.{FromHexError}
use Rattle.hex.specs.declared.error.FromHexError.TheVariants.{OddLength, InvalidStringLength}
use Rattle.std.proofs.lemmas.Bool.Decides.{nat_tests}
use Rattle.script_lines.specs.Limits.{max_hex_bytes}
use Rattle.script_lines.specs.Numbers.{read_part, is_hex_word, hex_bytes_of, bytes_in}

-- a digit has a value exactly where it is one
digit_by : (c i x y z : ℕ) (upper lower digit : Bool)
    → is_ok (digit_or_error c i (if upper then Some x else if lower then Some y else if digit then Some z else None))
    ≡ ((digit || upper) || lower)
digit_by c i x y z true true true = refl
digit_by c i x y z true true false = refl
digit_by c i x y z true false true = refl
digit_by c i x y z true false false = refl
digit_by c i x y z false true true = refl
digit_by c i x y z false true false = refl
digit_by c i x y z false false true = refl
digit_by c i x y z false false false = refl

digit_read : (c i : ℕ) → is_ok (value_at c i) ≡ is_ascii_hexdigit c
digit_read c i = digit_by c i (c - 55) (c - 87) (c - 48) (nat_le 65 c && nat_le c 70) (nat_le 97 c && nat_le c 102) (nat_le 48 c && nat_le c 57)

-- a byte and those after it are read where both digits are, and those
glued : (high low : Result ℕ FromHexError) (rest : Result (List ℕ) FromHexError)
    → is_ok ((high >>= λ h. low >>= λ l. Ok (h * 16 + l)) >>= λ byte. rest >>= λ bytes. Ok (byte ∷ bytes))
    ≡ (is_ok high && (is_ok low && is_ok rest))
glued (Ok h) (Ok l) (Ok bytes) = refl
glued (Ok h) (Ok l) (Err e) = refl
glued (Ok h) (Err e) rest = refl
glued (Err e) low rest = refl

pairs_read : (i : ℕ) (ds : List ℕ) → length ds % 2 ≡ 0 → is_ok (decode_pairs i ds) ≡ list_all is_ascii_hexdigit ds
unfolding decode_pairs
pairs_read i [] even = refl
pairs_read i (d ∷ []) even = absurd cc
pairs_read i (a ∷ b ∷ rest) even =
    let more = pairs_read (i + 2) rest (omega (arith, even)) in
    glued (value_at a i) (value_at b (i + 1)) (decode_pairs (i + 2) rest)
    ∙ rw (digit_read a i, digit_read b (i + 1), more) refl

read_is_ok : {A E : Type 0} (r : Result A E) → is_some (read_part r) ≡ is_ok r
read_is_ok (Ok x) = refl
read_is_ok (Err e) = refl

read_all : (r : Result (List ℕ) FromHexError) → is_some (read_part r) ≡ true → r ≡ Ok (bytes_in (read_part r))
read_all (Ok x) some = refl
read_all (Err e) some = absurd cc

-- so an even number of digits is read where each is one
pub even_read : (ds : List ℕ) → length ds % 2 ≡ 0 → list_all is_ascii_hexdigit ds ≡ is_some (read_part (decode_of ds))
even_read ds even =
    let not_odd : (length ds % 2 == 1) ≡ false = grind (arith, nat_tests, even) in
    rw (not_odd) (sym (read_is_ok (decode_pairs 0 ds) ∙ pairs_read 0 ds even))

-- ---- how many bytes

pair_long : (high low : Result ℕ FromHexError) (rest : Result (List ℕ) FromHexError) (digits : ℕ) (bytes : List ℕ)
    → ((more : List ℕ) → rest ≡ Ok more → digits ≡ 2 * length more)
    → ((high >>= λ h. low >>= λ l. Ok (h * 16 + l)) >>= λ byte. rest >>= λ more. Ok (byte ∷ more)) ≡ Ok bytes
    → digits + 2 ≡ 2 * length bytes
pair_long (Ok h) (Ok l) (Ok more) digits bytes long is =
    let all : (h * 16 + l) ∷ more ≡ bytes = cc in
    let few = long more refl in
    rw (← all) (omega (arith, few))
pair_long (Ok h) (Ok l) (Err e) digits bytes long is = absurd cc
pair_long (Ok h) (Err e) rest digits bytes long is = absurd cc
pair_long (Err e) low rest digits bytes long is = absurd cc

pairs_long : (i : ℕ) (ds bytes : List ℕ) → decode_pairs i ds ≡ Ok bytes → length ds ≡ 2 * length bytes
unfolding decode_pairs
pairs_long i [] bytes is = let none : [] ≡ bytes = cc in rw (← none) refl
pairs_long i (d ∷ []) bytes is = absurd cc
pairs_long i (a ∷ b ∷ rest) bytes is =
    let two = pair_long (value_at a i) (value_at b (i + 1)) (decode_pairs (i + 2) rest) (length rest) bytes
    (λ more is_more. pairs_long (i + 2) rest more is_more) is in
    omega (arith, two)

long_by : (w : List ℕ) (r : Result (List ℕ) FromHexError) → decode_pairs 0 w ≡ r → is_some (read_part r) ≡ true
    → length w / 2 ≡ length (bytes_in (read_part r))
long_by w (Ok bytes) is some = let long = pairs_long 0 w bytes is in omega (arith, long)
long_by w (Err e) is some = absurd cc

even_long : (w : List ℕ) (odd : Bool) → is_some (read_part (if odd then Err OddLength else decode_pairs 0 w)) ≡ true
    → length w / 2 ≡ length (bytes_in (read_part (if odd then Err OddLength else decode_pairs 0 w)))
even_long w true some = absurd cc
even_long w false some = long_by w (decode_pairs 0 w) refl some

word_long : (w : List ℕ) (b : Bool) → is_some (if b then read_part (decode_of w) else None) ≡ true
    → length w / 2 ≡ length (bytes_in (if b then read_part (decode_of w) else None))
word_long w true some = even_long w (length w % 2 == 1) some
word_long w false some = absurd cc

-- `-` spells none, and other words a byte for each two digits
pub dash_long : (w : List ℕ) → bytes_eq w (codes "-") ≡ true → 0 ≡ length (bytes_in (hex_bytes_of w))
unfolding hex_bytes_of
dash_long w dash = rw (dash) refl

pub digits_long : (w : List ℕ) → bytes_eq w (codes "-") ≡ false → is_some (hex_bytes_of w) ≡ true
    → length w / 2 ≡ length (bytes_in (hex_bytes_of w))
unfolding hex_bytes_of
digits_long w dash = rw (dash) (λ some. word_long w (is_hex_word w) some)

few_by : (w : List ℕ) (b : Bool) → is_hex_word w ≡ b → is_some (if b then read_part (decode_of w) else None) ≡ true → length w / 2 ≤ max_hex_bytes
few_by w true is some = let few : length w ≤ 600 = grind (arith, nat_tests, is) in omega (arith, few)
few_by w false is some = absurd cc

-- no more than there is room for
pub few_bytes : (w : List ℕ) → bytes_eq w (codes "-") ≡ false → is_some (hex_bytes_of w) ≡ true → length w / 2 ≤ max_hex_bytes
unfolding hex_bytes_of
few_bytes w dash = rw (dash) (λ some. few_by w (is_hex_word w) refl some)

-- ---- over as many bytes

sized_by : (w : List ℕ) (odd : Bool) (n : ℕ) → is_some (read_part (if odd then Err OddLength else decode_pairs 0 w)) ≡ true → length w / 2 ≡ n
    → (if odd then Err OddLength else if length w / 2 == n then decode_pairs 0 w else Err InvalidStringLength)
    ≡ Ok (bytes_in (read_part (if odd then Err OddLength else decode_pairs 0 w)))
sized_by w true n some is = absurd cc
sized_by w false n some is =
    let same : (length w / 2 == n) ≡ true = grind (arith, nat_tests, is) in
    rw (same) (read_all (decode_pairs 0 w) some)

sized_word : (w : List ℕ) (b : Bool) (n : ℕ) → is_some (if b then read_part (decode_of w) else None) ≡ true → length w / 2 ≡ n
    → decode_sized w n ≡ Ok (bytes_in (if b then read_part (decode_of w) else None))
sized_word w true n some is = sized_by w (length w % 2 == 1) n some is
sized_word w false n some is = absurd cc

-- a word of digits is decoded over as many bytes as it spells
pub sized : (w : List ℕ) (n : ℕ) → bytes_eq w (codes "-") ≡ false → is_some (hex_bytes_of w) ≡ true → length w / 2 ≡ n
    → decode_sized w n ≡ Ok (bytes_in (hex_bytes_of w))
unfolding hex_bytes_of
sized w n dash = rw (dash) (λ some is. sized_word w (is_hex_word w) n some is)
