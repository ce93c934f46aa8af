use Rattle.std.proofs.Common.{◌≡◌, ℕ, List, length, Option, None, Some, arith}
use Rattle.std.specs.List.{position}
use Rattle.std.proofs.lemmas.Bool.{false_from_ne_true}
use Rattle.std.proofs.lemmas.List.Sums.{position_or_len_is}
use Rattle.memchr.specs.Find.{IsFirstByte, is_byte}
use Rattle.script_lines.specs.Lines.{is_feed}
use Rattle.script_lines.proofs.lines.line_feed.Goals as goal

first_is : (bytes : List ℕ) (found : Option ℕ) → IsFirstByte (is_byte 10) bytes found → found ≡ position is_feed bytes
first_is bytes None none =
    let at = position_or_len_is is_feed bytes (length bytes) 0 (omega arith) (λ k below. false_from_ne_true _ (none k (omega arith) below)) (λ inside. absurd (omega (arith, inside))) in
    grind (arith, at)
first_is bytes (Some end) is =
    let at = position_or_len_is is_feed bytes end 0 (omega (arith, is.0.high)) (λ k below. false_from_ne_true _ (is.0.before k (omega arith) below)) (λ inside. is.1) in
    grind (arith, at, is.0.high)

pub returns-in_default : goal.returns-in_default
returns-in_default c = first_is c.args.bytes.now c.memchr.result c.memchr.ensures
