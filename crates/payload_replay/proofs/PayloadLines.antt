-- A line that is cut.
use Rattle.std.proofs.Common.{◌≡◌, inl, inr, ℕ, ◌<◌, Bool, true, nat_le, nat_lt, if◌then◌else◌, List, length, Result, Err, refl, sym, ap, ◌∙◌, arith}
use Rattle.std.proofs.lemmas.Bool.{cases_lt, lt-ltb, or_right}
use Rattle.std.proofs.lemmas.List.{take_all, length-take}
use Rattle.script_lines.specs.Pieces.{cut}
use Rattle.report_lines.specs.declared.faults.LineWhy.{LineWhy}
use Rattle.report_lines.specs.declared.faults.LineWhy.TheVariants as why
use Rattle.report_lines.specs.Lines.{LineReading}
use Rattle.payload_replay.specs.PayloadLines.{is_beyond, payload_of}

is_too_long : (lines : ℕ) (line : List ℕ) → 600 < length line → is_beyond lines line ≡ true
is_too_long lines line long =
    let over : nat_lt 600 (length line) ≡ true = lt-ltb _ _ long in
    rw over (or_right (nat_le 20000 lines) true refl)

-- a reading that refuses what is beyond the limits for that reads no more of a line than is handed out
abbrev pub ReadsCut : {P : Type 0} → LineReading P → Type 0
ReadsCut reading = (lines : ℕ) (line : List ℕ) → reading lines (cut line) ≡ reading lines line

pub reads_cut : {P : Type 0} (reading : LineReading P)
    → ((lines : ℕ) (line : List ℕ) → is_beyond lines line ≡ true → reading lines line ≡ Err why.Limit) → ReadsCut reading
reads_cut {P} reading refused lines line = elim (cases_lt 600 (length line)) [
  | inl long ↦ refused lines (cut line) (is_too_long lines (cut line) (omega (arith, length-take 601 line)))
      ∙ sym (refused lines line (is_too_long lines line long))
  | inr short ↦ ap (λ (l : List ℕ). reading lines l) (take_all 601 line (omega (arith, short)))
]

payload_beyond : (lines : ℕ) (line : List ℕ) → is_beyond lines line ≡ true → payload_of lines line ≡ Err why.Limit
unfolding payload_of
payload_beyond lines line beyond = rw beyond refl

-- one of more than 600 bytes is refused for that, cut or not
pub payload_cut : (lines : ℕ) (line : List ℕ) → payload_of lines (cut line) ≡ payload_of lines line
payload_cut = reads_cut payload_of payload_beyond
