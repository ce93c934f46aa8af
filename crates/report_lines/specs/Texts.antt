-- A text as its bytes.
use Rattle.std.specs.Prelude.{◌≡◌, ℕ, List, Result, Ok, Err, IfOk, String, string_bytes}
use Rattle.std.specs.Global.{Global}
use Rattle.std.specs.declared.vec.Vec.{Vec}
use Rattle.report_lines.specs.declared.faults.LineError.{LineError}

-- the bytes of what a campaign returned
abbrev pub seen_text : Result (Vec ℕ Global) LineError → Result (List ℕ) LineError
seen_text (Ok text) = Ok text.items
seen_text (Err e) = Err e

-- a text has these bytes, unless memory for it was missing
abbrev pub IsText : {A E : Type 0} → Result (String A) E → List ℕ → Type 0
IsText made bytes = IfOk made (λ text. string_bytes text ≡ bytes)
