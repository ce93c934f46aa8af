-- The value that a line spells.
use Rattle.std.proofs.Common.{◌≡◌, ℕ, Bool, true, false, if◌then◌else◌, List, Option, None, Err, refl, ap}
use Rattle.std.specs.Str.{IsUtf8, is_utf8}
use Rattle.std.proofs.lemmas.Str.{IsUtf8-from_is_utf8, is_utf8-from_IsUtf8}
use Rattle.serde_json.specs.Data.{Data}
use Rattle.serde_json.specs.Read.{read}
use Rattle.capture_read.specs.declared.answers.EntryFault.TheVariants.{Syntax}
use Rattle.capture_read.specs.Entries.{json_of, entry_in, entry_of}

pub entry_of_text : (line : List ℕ) → IsUtf8 line → entry_of line ≡ entry_in (read line)
unfolding entry_of json_of
entry_of_text line text = ap (λ (b : Bool). entry_in (if b then read line else None)) (is_utf8-from_IsUtf8 line text)

none_by : (read : Option Data) (b : Bool) → (b ≡ true → read ≡ None) → (if b then read else None) ≡ None
none_by read true none = none refl
none_by read false none = refl

pub entry_of_bytes : (line : List ℕ) → (IsUtf8 line → ⊥) → entry_of line ≡ Err Syntax
unfolding entry_of json_of
entry_of_bytes line none = ap entry_in (none_by (read line) (is_utf8 line) (λ valid. absurd (none (IsUtf8-from_is_utf8 line valid))))
