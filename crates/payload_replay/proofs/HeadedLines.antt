-- A file after a header: it leads to one state, or one of its lines is the first that is refused.
use Rattle.std.proofs.Common.{◌≡◌, inl, inr, ℕ, ◌+◌, ◌<◌, true, nat_lt, List, [], ◌∷◌, ◌++◌, length, Option, Some, None, Result, Ok, Err, refl, sym, ap, subst, ◌∙◌, length-append, arith}
use Rattle.std.proofs.lemmas.Bool.{cases_lt, lt-ltb}
use Rattle.std.proofs.lemmas.List.{take_all, length-take}
use Rattle.script_lines.specs.Pieces.{cut}
use Rattle.report_lines.specs.declared.faults.LineWhy.{LineWhy}
use Rattle.report_lines.specs.declared.faults.LineWhy.TheVariants as why
use Rattle.report_lines.specs.declared.faults.LineFault.{LineFault}
use Rattle.report_lines.specs.declared.faults.LineError.{LineError}
use Rattle.report_lines.specs.declared.faults.LineError.TheVariants as error
use Rattle.report_lines.specs.After.{GoesBehind}
use Rattle.report_lines.specs.Lines.{LineReading, Step, TakesLines, IsLineRefused}
use Rattle.report_lines.proofs.Lines.{LeadsOnce, LeadsOn, line_behind, refused_behind, lines_stop, lines_once, lines_lead}
use Rattle.payload_replay.specs.Headed.{rows_of, TakesBehind, TakesFile}
use Rattle.payload_replay.specs.HeldHeaded.{HeldHeaded, HoldsReached, IsHeardBy, HeadedStands, IsBegun}
use Rattle.payload_replay.proofs.PayloadLines.{ReadsCut}

-- ---- one outcome

behind_once : {P S : Type 0} (reading : LineReading P) (Takes : Step P S) (first : ℕ → S) (rows : Result ℕ LineWhy) (lines : List (List ℕ))
    (one other : Result S LineFault) → LeadsOnce Takes
    → TakesBehind reading Takes first rows lines one → TakesBehind reading Takes first rows lines other → one ≡ other
behind_once reading Takes first (Err cause) lines one other once here there = here ∙ sym there
behind_once reading Takes first (Ok rows) lines one other once here there =
    lines_once reading Takes 1 (first rows) lines one other once here there

pub file_once : {P S : Type 0} (keyword : List ℕ) (reading : LineReading P) (Takes : Step P S) (first : ℕ → S) (lines : List (List ℕ))
    (one other : Result S LineFault) → LeadsOnce Takes
    → TakesFile keyword reading Takes first lines one → TakesFile keyword reading Takes first lines other → one ≡ other
unfolding TakesFile
file_once keyword reading Takes first [] one other once here there = here ∙ sym there
file_once keyword reading Takes first (header ∷ lines) one other once here there =
    behind_once reading Takes first (rows_of keyword header) lines one other once here there

behind_leads : {P S : Type 0} (reading : LineReading P) (Takes : Step P S) (first : ℕ → S) (rows : Result ℕ LineWhy) (lines : List (List ℕ))
    → LeadsOn Takes → (outcome : Result S LineFault) × TakesBehind reading Takes first rows lines outcome
behind_leads reading Takes first (Err cause) lines leads = (Err (record { line = 1; why = cause }), refl)
behind_leads reading Takes first (Ok rows) lines leads = lines_lead reading Takes 1 (first rows) lines leads

pub file_leads : {P S : Type 0} (keyword : List ℕ) (reading : LineReading P) (Takes : Step P S) (first : ℕ → S) (lines : List (List ℕ))
    → LeadsOn Takes → (outcome : Result S LineFault) × TakesFile keyword reading Takes first lines outcome
unfolding TakesFile
file_leads keyword reading Takes first [] leads = (Err (record { line = 1; why = why.Syntax }), refl)
file_leads keyword reading Takes first (header ∷ lines) leads =
    behind_leads reading Takes first (rows_of keyword header) lines leads

-- ---- lines after others

behind_then : {P S : Type 0} (reading : LineReading P) (Takes : Step P S) (first : ℕ → S) (rows : Result ℕ LineWhy) (lines rest : List (List ℕ))
    (mid : S) (outcome : Result S LineFault)
    → ((s : S) → TakesLines reading Takes 1 s lines (Ok mid) → TakesLines reading Takes 1 s (lines ++ rest) outcome)
    → TakesBehind reading Takes first rows lines (Ok mid) → TakesBehind reading Takes first rows (lines ++ rest) outcome
behind_then reading Takes first (Err cause) lines rest mid outcome on behind = absurd cc
behind_then reading Takes first (Ok rows) lines rest mid outcome on behind = on (first rows) behind

file_then : {P S : Type 0} (keyword : List ℕ) (reading : LineReading P) (Takes : Step P S) (first : ℕ → S) (lines rest : List (List ℕ)) (count : ℕ)
    (mid : S) (outcome : Result S LineFault) → count ≡ length lines
    → ((s : S) (behind : List (List ℕ)) → count ≡ 1 + length behind
    → TakesLines reading Takes 1 s behind (Ok mid) → TakesLines reading Takes 1 s (behind ++ rest) outcome)
    → TakesFile keyword reading Takes first lines (Ok mid) → TakesFile keyword reading Takes first (lines ++ rest) outcome
unfolding TakesFile
file_then keyword reading Takes first [] rest count mid outcome are on leads = absurd cc
file_then keyword reading Takes first (header ∷ lines) rest count mid outcome are on leads =
    behind_then reading Takes first (rows_of keyword header) lines rest mid outcome (λ s. on s lines (omega (arith, are))) leads

-- one line more, which takes the state on
file_more : {P S : Type 0} (keyword : List ℕ) (reading : LineReading P) (Takes : Step P S) (first : ℕ → S) (lines : List (List ℕ)) (count : ℕ)
    (mid next : S) (line : List ℕ) (said : P) → count ≡ length lines → TakesFile keyword reading Takes first lines (Ok mid)
    → reading count line ≡ Ok said → Takes (count + 1) said mid next
    → TakesFile keyword reading Takes first (lines ++ line ∷ []) (Ok next)
file_more keyword reading Takes first lines count mid next line said are leads is takes =
    file_then keyword reading Takes first lines (line ∷ []) count mid (Ok next) are
    (λ s behind here taken. line_behind reading Takes 1 count s mid next behind line said here taken is takes) leads

-- one that is refused
file_fault : {P S : Type 0} (keyword : List ℕ) (reading : LineReading P) (Takes : Step P S) (first : ℕ → S) (lines : List (List ℕ)) (count : ℕ)
    (mid : S) (line : List ℕ) (fault : LineFault) → count ≡ length lines → TakesFile keyword reading Takes first lines (Ok mid)
    → reading count line ≡ Err fault.why → fault.line ≡ count + 1
    → TakesFile keyword reading Takes first (lines ++ line ∷ []) (Err fault)
file_fault keyword reading Takes first lines count mid line fault are leads is place =
    file_then keyword reading Takes first lines (line ∷ []) count mid (Err fault) are
    (λ s behind here taken. refused_behind reading Takes 1 count s mid behind line fault here taken is place) leads

behind_stop : {P S : Type 0} (reading : LineReading P) (Takes : Step P S) (first : ℕ → S) (rows : Result ℕ LineWhy) (lines rest : List (List ℕ))
    (fault : LineFault) → TakesBehind reading Takes first rows lines (Err fault)
    → TakesBehind reading Takes first rows (lines ++ rest) (Err fault)
behind_stop reading Takes first (Err cause) lines rest fault behind = behind
behind_stop reading Takes first (Ok rows) lines rest fault behind = lines_stop reading Takes rest fault 1 (first rows) lines behind

-- after the first refused line nothing more comes of any
file_stop : {P S : Type 0} (keyword : List ℕ) (reading : LineReading P) (Takes : Step P S) (first : ℕ → S) (lines rest : List (List ℕ))
    (fault : LineFault) → 0 < length lines → TakesFile keyword reading Takes first lines (Err fault)
    → TakesFile keyword reading Takes first (lines ++ rest) (Err fault)
unfolding TakesFile
file_stop keyword reading Takes first [] rest fault some leads = absurd (omega (arith, some))
file_stop keyword reading Takes first (header ∷ lines) rest fault some leads =
    behind_stop reading Takes first (rows_of keyword header) lines rest fault leads

file_by : {P S : Type 0} (keyword : List ℕ) (reading : LineReading P) (Takes : Step P S) (first : ℕ → S) (header : List ℕ) (rest : List (List ℕ))
    (rows : Result ℕ LineWhy) (outcome : Result S LineFault) → rows_of keyword header ≡ rows
    → TakesBehind reading Takes first rows rest outcome → TakesFile keyword reading Takes first (header ∷ rest) outcome
unfolding TakesFile
file_by keyword reading Takes first header rest rows outcome is behind =
    subst (λ (r : Result ℕ LineWhy). TakesBehind reading Takes first r rest outcome) (sym is) behind

-- after only the header there is the first state
file_first : {P S : Type 0} (keyword : List ℕ) (reading : LineReading P) (Takes : Step P S) (first : ℕ → S) (header : List ℕ) (rows : ℕ)
    → rows_of keyword header ≡ Ok rows → TakesFile keyword reading Takes first (header ∷ []) (Ok (first rows))
unfolding TakesLines
file_first keyword reading Takes first header rows is =
    file_by keyword reading Takes first header [] (Ok rows) (Ok (first rows)) is refl

-- or the header is refused
header_fault : {P S : Type 0} (keyword : List ℕ) (reading : LineReading P) (Takes : Step P S) (first : ℕ → S) (header : List ℕ) (fault : LineFault)
    → rows_of keyword header ≡ Err fault.why → fault.line ≡ 1 → TakesFile keyword reading Takes first (header ∷ []) (Err fault)
header_fault {P} {S} keyword reading Takes first header fault is place =
    let made : Path LineFault fault (record { line = 1; why = fault.why }) =
    ap (λ (n : ℕ). let f : LineFault = record { line = n; why = fault.why } in f) place in
    file_by keyword reading Takes first header [] (Err fault.why) (Err fault) is
    (ap (λ (f : LineFault). let r : Result S LineFault = Err f in r) made)

long_header : (keyword line : List ℕ) → 600 < length line → rows_of keyword line ≡ Err why.Limit
unfolding rows_of
long_header keyword line long = let over : nat_lt 600 (length line) ≡ true = lt-ltb _ _ long in rw over refl

-- a header of more than 600 bytes is refused for that, cut or not
header_cut : (keyword line : List ℕ) → rows_of keyword (cut line) ≡ rows_of keyword line
header_cut keyword line = elim (cases_lt 600 (length line)) [
  | inl long ↦ long_header keyword (cut line) (omega (arith, length-take 601 line)) ∙ sym (long_header keyword line long)
  | inr short ↦ ap (rows_of keyword) (take_all 601 line (omega (arith, short)))
]

-- ---- a line is heard

-- the header
pub headed_begun : {P S H : Type 0} (keyword : List ℕ) (reading : LineReading P) (Takes : Step P S) (first : ℕ → S) (Stands : H → S → Type 0)
    (old : HeldHeaded H) (line : List ℕ) (held : H) → old.kept ≡ None → old.state ≡ None
    → IsBegun keyword first Stands line (Ok held)
    → GoesBehind (HeadedStands (TakesFile keyword reading Takes first) Stands) old line (record old { lines = 1; state = Some held })
headed_begun {P} {S} {H} keyword reading Takes first Stands old line held none nothing begun lines whole same stands =
    let Leads = TakesFile keyword reading Takes first in
    let so_far = subst (λ (k : Option LineError). IsHeardBy Leads Stands old lines k) none stands in
    let no_line : lines ≡ [] = subst (λ (d : Option H). HoldsReached Leads Stands old.lines lines d) nothing so_far in
    let is = sym (header_cut keyword whole) ∙ ap (rows_of keyword) (sym same) ∙ begun.1 in
    let new : HeldHeaded H = record old { lines = 1; state = Some held } in
    rw no_line (subst (λ (k : Option LineError). IsHeardBy Leads Stands new (whole ∷ []) k) (sym none)
    (refl, (first begun.0, file_first keyword reading Takes first whole begun.0 is, begun.2)))

-- a header that is refused, or there is no memory
pub headed_unbegun : {P S H : Type 0} (keyword : List ℕ) (reading : LineReading P) (Takes : Step P S) (first : ℕ → S) (Stands : H → S → Type 0)
    (old : HeldHeaded H) (line : List ℕ) (e : LineError) → old.kept ≡ None → old.state ≡ None
    → IsBegun keyword first Stands line (Err e)
    → GoesBehind (HeadedStands (TakesFile keyword reading Takes first) Stands) old line (record old { kept = Some e })
headed_unbegun {P} {S} {H} keyword reading Takes first Stands old line (error.Line fault) none nothing refused lines whole same stands =
    let Leads = TakesFile keyword reading Takes first in
    let so_far = subst (λ (k : Option LineError). IsHeardBy Leads Stands old lines k) none stands in
    let no_line : lines ≡ [] = subst (λ (d : Option H). HoldsReached Leads Stands old.lines lines d) nothing so_far in
    let is = sym (header_cut keyword whole) ∙ ap (rows_of keyword) (sym same) ∙ refused.0 in
    rw no_line (omega arith, header_fault keyword reading Takes first whole fault is refused.1)
headed_unbegun keyword reading Takes first Stands old line error.Memory none nothing refused lines whole same stands = tt

-- a line that takes the state on
pub headed_heard : {P S H : Type 0} (keyword : List ℕ) (reading : LineReading P) (Takes : Step P S) (first : ℕ → S) (Stands : H → S → Type 0)
    (old : HeldHeaded H) (before after : H) (line : List ℕ) (said : P) → ReadsCut reading
    → old.kept ≡ None → old.state ≡ Some before → reading old.lines line ≡ Ok said
    → ((state : S) → Stands before state → (next : S) × Takes (old.lines + 1) said state next × Stands after next)
    → GoesBehind (HeadedStands (TakesFile keyword reading Takes first) Stands) old line (record old { lines = old.lines + 1; state = Some after })
headed_heard {P} {S} {H} keyword reading Takes first Stands old before after line said reads none some is takes lines whole same stands =
    let Leads = TakesFile keyword reading Takes first in
    let so_far = subst (λ (k : Option LineError). IsHeardBy Leads Stands old lines k) none stands in
    let its = subst (λ (d : Option H). HoldsReached Leads Stands old.lines lines d) some so_far in
    let whole_is = sym (reads old.lines whole) ∙ ap (λ (l : List ℕ). reading old.lines l) (sym same) ∙ is in
    let step = takes its.1.0 its.1.2 in
    let new : HeldHeaded H = record old { lines = old.lines + 1; state = Some after } in
    subst (λ (k : Option LineError). IsHeardBy Leads Stands new (lines ++ whole ∷ []) k) (sym none) (
      omega (arith, length-append lines (whole ∷ []), its.0),
      (
        step.0,
        file_more keyword reading Takes first lines old.lines its.1.0 step.0 whole said its.0 its.1.1 whole_is step.1,
        step.2,
      ),
    )

-- one that is refused, or there is no memory
pub headed_refused : {P S H : Type 0} (keyword : List ℕ) (reading : LineReading P) (Takes : Step P S) (first : ℕ → S) (Stands : H → S → Type 0)
    (old : HeldHeaded H) (before : H) (after : Option H) (line : List ℕ) (e : LineError) → ReadsCut reading
    → old.kept ≡ None → old.state ≡ Some before → IsLineRefused reading old.lines line e
    → GoesBehind (HeadedStands (TakesFile keyword reading Takes first) Stands) old line (record old { state = after; kept = Some e })
headed_refused {P} {S} {H} keyword reading Takes first Stands old before after line (error.Line fault) reads none some refused lines whole same stands =
    let Leads = TakesFile keyword reading Takes first in
    let so_far = subst (λ (k : Option LineError). IsHeardBy Leads Stands old lines k) none stands in
    let its = subst (λ (d : Option H). HoldsReached Leads Stands old.lines lines d) some so_far in
    let whole_is = sym (reads old.lines whole) ∙ ap (λ (l : List ℕ). reading old.lines l) (sym same) ∙ refused.0 in (
      omega (arith, length-append lines (whole ∷ [])),
      file_fault keyword reading Takes first lines old.lines its.1.0 whole fault its.0 its.1.1 whole_is refused.1,
    )
headed_refused keyword reading Takes first Stands old before after line error.Memory reads none some refused lines whole same stands = tt

-- after a refused line, or missing memory
pub headed_kept : {P S H : Type 0} (keyword : List ℕ) (reading : LineReading P) (Takes : Step P S) (first : ℕ → S) (Stands : H → S → Type 0)
    (old : HeldHeaded H) (line : List ℕ) (e : LineError) → old.kept ≡ Some e
    → GoesBehind (HeadedStands (TakesFile keyword reading Takes first) Stands) old line old
headed_kept {P} {S} {H} keyword reading Takes first Stands old line e kept lines whole same stands =
    subst (λ (k : Option LineError). IsHeardBy (TakesFile keyword reading Takes first) Stands old (lines ++ whole ∷ []) k) (sym kept)
    (stays e (subst (λ (k : Option LineError). IsHeardBy (TakesFile keyword reading Takes first) Stands old lines k) kept stands))
  where
    stays : (e : LineError) → IsHeardBy (TakesFile keyword reading Takes first) Stands old lines (Some e)
        → IsHeardBy (TakesFile keyword reading Takes first) Stands old (lines ++ whole ∷ []) (Some e)
    stays (error.Line fault) refused = (
      omega (arith, length-append lines (whole ∷ [])),
      file_stop keyword reading Takes first lines (whole ∷ []) fault refused.0 refused.1,
    )
    stays error.Memory refused = tt

-- ---- after all lines

-- the state that is stood for
pub headed_state : {P S H : Type 0} (keyword : List ℕ) (reading : LineReading P) (Takes : Step P S) (first : ℕ → S) (Stands : H → S → Type 0)
    (held : HeldHeaded H) (state : H) (lines : List (List ℕ)) → held.kept ≡ None → held.state ≡ Some state
    → HeadedStands (TakesFile keyword reading Takes first) Stands held lines
    → (behind : S) × TakesFile keyword reading Takes first lines (Ok behind) × Stands state behind
headed_state {P} {S} {H} keyword reading Takes first Stands held state lines none some stands =
    let Leads = TakesFile keyword reading Takes first in
    let so_far = subst (λ (k : Option LineError). IsHeardBy Leads Stands held lines k) none stands in
    (subst (λ (d : Option H). HoldsReached Leads Stands held.lines lines d) some so_far).1

-- there was no line
pub headed_nothing : {P S H : Type 0} (keyword : List ℕ) (reading : LineReading P) (Takes : Step P S) (first : ℕ → S) (Stands : H → S → Type 0)
    (held : HeldHeaded H) (lines : List (List ℕ)) → held.kept ≡ None → held.state ≡ None
    → HeadedStands (TakesFile keyword reading Takes first) Stands held lines
    → TakesFile keyword reading Takes first lines (Err (record { line = 1; why = why.Syntax }))
unfolding TakesFile
headed_nothing {P} {S} {H} keyword reading Takes first Stands held lines none nothing stands =
    let Leads = TakesFile keyword reading Takes first in
    let so_far = subst (λ (k : Option LineError). IsHeardBy Leads Stands held lines k) none stands in
    let no_line : lines ≡ [] = subst (λ (d : Option H). HoldsReached Leads Stands held.lines lines d) nothing so_far in
    let fault : Result S LineFault = Err (record { line = 1; why = why.Syntax }) in
    subst (λ (ls : List (List ℕ)). TakesFile keyword reading Takes first ls fault) (sym no_line) refl

-- a line was refused
pub headed_fault : {P S H : Type 0} (keyword : List ℕ) (reading : LineReading P) (Takes : Step P S) (first : ℕ → S) (Stands : H → S → Type 0)
    (held : HeldHeaded H) (fault : LineFault) (lines : List (List ℕ)) → held.kept ≡ Some (error.Line fault)
    → HeadedStands (TakesFile keyword reading Takes first) Stands held lines
    → TakesFile keyword reading Takes first lines (Err fault)
headed_fault keyword reading Takes first Stands held fault lines kept stands =
    (subst (λ (k : Option LineError). IsHeardBy (TakesFile keyword reading Takes first) Stands held lines k) kept stands).1
