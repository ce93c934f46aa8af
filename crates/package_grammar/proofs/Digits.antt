-- Digits that are put after a text.
use Rattle.std.proofs.Common.{◌≡◌, ℕ, ◌+◌, ◌<◌, List, [], ◌∷◌, ◌++◌, Result, Ok, Err, is_ok, if◌then◌else◌, ap, sym, ◌∙◌, Bool, true, ◌&&◌, nat_lt, refl}
use Rattle.std.specs.Prelude.{OnOk}
use Rattle.std.specs.Str.{IsAscii, IsUtf8}
use Rattle.std.proofs.lemmas.Bool.{and_parts, ltb-true}
use Rattle.std.proofs.lemmas.Str.{IsUtf8-from_ascii}
use Rattle.std.proofs.lemmas.Str.Ascii.{IsAscii-nil, IsAscii-cons}
use Rattle.hex.specs.Hex.{encode_lower, lower_digits}
use Rattle.hex.proofs.HexLemmas.{IsAscii-encode_with}
use Rattle.std.specs.Fmt.{decimal}
use Rattle.std.specs.Char.{encode_utf8}
use Rattle.std.proofs.lemmas.Fmt.{decimal_digit}

-- a number of one digit, as its character is put
pub digit_put : {A E : Type 0} (r : Result A E) (n ch : ℕ) (old new : List ℕ) → n < 10 → ch ≡ 48 + n → encode_utf8 ch ≡ ch ∷ [] → new ≡ (if is_ok r then old ++ encode_utf8 ch else old) → OnOk r (new ≡ old ++ decimal n)
digit_put (Ok done) n ch old new one is ascii put =
    put ∙ ap (λ (w : List ℕ). old ++ w) (ascii ∙ ap (λ (d : ℕ). d ∷ []) is ∙ sym (decimal_digit n one))
digit_put (Err e) n ch old new one is ascii put = tt

-- whether each byte is ASCII, which computes
abbrev all_ascii : List ℕ → Bool
all_ascii [] = true
all_ascii (b ∷ bs) = nat_lt b 128 && all_ascii bs

tested_ascii : (bs : List ℕ) → all_ascii bs ≡ true → IsAscii bs
tested_ascii [] h = IsAscii-nil
tested_ascii (b ∷ bs) h =
    let parts = and_parts (nat_lt b 128) (all_ascii bs) h in
    IsAscii-cons b bs (ltb-true b 128 parts.0) (tested_ascii bs parts.1)

-- hex digits are text
pub hex_is_text : (bytes : List ℕ) → IsUtf8 (encode_lower bytes)
hex_is_text bytes =
    IsUtf8-from_ascii (encode_lower bytes) (IsAscii-encode_with lower_digits bytes (tested_ascii lower_digits refl))
