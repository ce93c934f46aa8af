use Rattle.std.proofs.Common.{◌≡◌, ℕ, ◌+◌, false, List, length, drop, Option, None, Some, arith}
use Rattle.std.specs.List.{All}
use Rattle.std.specs.Option.{IfSome}
use Rattle.std.proofs.lemmas.Bool.{false_from_ne_true}
use Rattle.std.proofs.lemmas.List.{get_or-drop, length-drop}
use Rattle.std.proofs.lemmas.List.Elements.{All-from_get_or}
use Rattle.memchr.specs.Find.{Nowhere, Passes, IsLastByte, is_byte}
use Rattle.script_lines.specs.Lines.{is_feed}
use Rattle.script_lines.specs.HeldLines.{IsLastFeed}
use Rattle.script_lines.proofs.lines.last_feed.Goals as goal

none_from : (bytes : List ℕ) (i : ℕ) → Nowhere (Passes (is_byte 10) bytes) i (length bytes) → All (λ b. is_feed b ≡ false) (drop i bytes)
none_from bytes i nowhere = All-from_get_or (λ b. is_feed b ≡ false) (drop i bytes) 0 (λ k below.
    rw (get_or-drop i bytes k 0) (false_from_ne_true _ (nowhere (i + k) (omega arith) (omega (arith, below, length-drop i bytes)))))

last_is : (bytes : List ℕ) (found : Option ℕ) → IsLastByte (is_byte 10) bytes found → IfSome found (λ end. IsLastFeed bytes end)
last_is bytes None none = _
last_is bytes (Some end) is = record { inside = is.0.high; feed = is.1; none = none_from bytes (end + 1) is.0.after }

none_is : (bytes : List ℕ) (found : Option ℕ) → IsLastByte (is_byte 10) bytes found → found ≡ None → All (λ b. is_feed b ≡ false) bytes
none_is bytes None none is = none_from bytes 0 none
none_is bytes (Some end) some is = absurd cc

pub returns-clause-some : goal.returns-clause-some
returns-clause-some c = last_is c.args.bytes.now c.memrchr.result c.memrchr.ensures

pub returns-clause-none : goal.returns-clause-none
returns-clause-none c = none_is c.args.bytes.now c.memrchr.result c.memrchr.ensures
