-- Lines that are read and taken one after another.
use Rattle.std.proofs.Common.{◌≡◌, ℕ, ◌+◌, List, [], ◌∷◌, ◌++◌, length, Result, Ok, Err, refl, sym, ap, subst, ◌∙◌, arith}
use Rattle.report_lines.specs.declared.faults.LineWhy.{LineWhy}
use Rattle.report_lines.specs.declared.faults.LineFault.{LineFault}
use Rattle.report_lines.specs.Lines.{LineReading, Step, BehindLine, TakesLines}

-- a line that takes the state on
line_taken : {P S : Type 0} (reading : LineReading P) (Takes : Step P S) (lines : ℕ) (state next : S) (line : List ℕ) (said : P)
    (rest : List (List ℕ)) (outcome : Result S LineFault)
    → reading lines line ≡ Ok said → Takes (lines + 1) said state next
    → TakesLines reading Takes (lines + 1) next rest outcome → TakesLines reading Takes lines state (line ∷ rest) outcome
unfolding TakesLines
line_taken {P} {S} reading Takes lines state next line said rest outcome is takes behind =
    subst (λ (r : Result P LineWhy). BehindLine Takes lines state r
    (λ more. TakesLines reading Takes (lines + 1) more rest) outcome) (sym is) (next, takes, behind)

-- a line that is refused
line_refused : {P S : Type 0} (reading : LineReading P) (Takes : Step P S) (lines : ℕ) (state : S) (line : List ℕ) (rest : List (List ℕ))
    (fault : LineFault) → reading lines line ≡ Err fault.why → fault.line ≡ lines + 1
    → TakesLines reading Takes lines state (line ∷ rest) (Err fault)
unfolding TakesLines
line_refused {P} {S} reading Takes lines state line rest fault is place =
    let fault_is : Path LineFault fault (record { line = lines + 1; why = fault.why }) =
    ap (λ (n : ℕ). let f : LineFault = record { line = n; why = fault.why } in f) place in
    subst (λ (r : Result P LineWhy). BehindLine Takes lines state r
    (λ more. TakesLines reading Takes (lines + 1) more rest) (Err fault)) (sym is)
    (ap (λ (f : LineFault). let r : Result S LineFault = Err f in r) fault_is)

-- no line is left
none_left : {P S : Type 0} (reading : LineReading P) (Takes : Step P S) (lines : ℕ) (state : S) → TakesLines reading Takes lines state [] (Ok state)
unfolding TakesLines
none_left reading Takes lines state = refl

-- ---- lines after others

behind_taken : {P S : Type 0} (Takes : Step P S) (lines : ℕ) (state mid : S) (said : Result P LineWhy)
    (goes_on goes_further : S → Result S LineFault → Type 0) (outcome : Result S LineFault)
    → ((next : S) → goes_on next (Ok mid) → goes_further next outcome)
    → BehindLine Takes lines state said goes_on (Ok mid) → BehindLine Takes lines state said goes_further outcome
behind_taken Takes lines state mid (Err cause) goes_on goes_further outcome further behind = absurd cc
behind_taken Takes lines state mid (Ok said) goes_on goes_further outcome further behind =
    (behind.0, behind.1, further behind.0 behind.2)

-- lines that took the state to another, and then the others
lines_then : {P S : Type 0} (reading : LineReading P) (Takes : Step P S) (rest : List (List ℕ)) (outcome : Result S LineFault) (mid : S) (count lines : ℕ)
    (state : S) (before : List (List ℕ)) → count ≡ lines + length before → TakesLines reading Takes lines state before (Ok mid)
    → TakesLines reading Takes count mid rest outcome → TakesLines reading Takes lines state (before ++ rest) outcome
unfolding TakesLines
lines_then {P} {S} reading Takes rest outcome mid count lines state [] are taken behind =
    let here : count ≡ lines = omega (arith, are) in
    let same : mid ≡ state = cc in
    subst (λ (n : ℕ). TakesLines reading Takes n state rest outcome) here
    (subst (λ (s : S). TakesLines reading Takes count s rest outcome) same behind)
lines_then {P} {S} reading Takes rest outcome mid count lines state (line ∷ before) are taken behind =
    behind_taken Takes lines state mid (reading lines line) (λ next. TakesLines reading Takes (lines + 1) next before)
    (λ next. TakesLines reading Takes (lines + 1) next (before ++ rest)) outcome
    (λ next so_far. lines_then reading Takes rest outcome mid count (lines + 1) next before (omega (arith, are)) so_far behind) taken

behind_refused : {P S : Type 0} (Takes : Step P S) (lines : ℕ) (state : S) (said : Result P LineWhy)
    (goes_on goes_further : S → Result S LineFault → Type 0) (fault : LineFault)
    → ((next : S) → goes_on next (Err fault) → goes_further next (Err fault))
    → BehindLine Takes lines state said goes_on (Err fault) → BehindLine Takes lines state said goes_further (Err fault)
behind_refused Takes lines state (Err cause) goes_on goes_further fault further behind = behind
behind_refused Takes lines state (Ok said) goes_on goes_further fault further behind =
    (behind.0, behind.1, further behind.0 behind.2)

-- after the first refused line nothing more comes of any
pub lines_stop : {P S : Type 0} (reading : LineReading P) (Takes : Step P S) (rest : List (List ℕ)) (fault : LineFault) (lines : ℕ) (state : S)
    (before : List (List ℕ)) → TakesLines reading Takes lines state before (Err fault)
    → TakesLines reading Takes lines state (before ++ rest) (Err fault)
unfolding TakesLines
lines_stop reading Takes rest fault lines state [] refused = absurd cc
lines_stop reading Takes rest fault lines state (line ∷ before) refused =
    behind_refused Takes lines state (reading lines line) (λ next. TakesLines reading Takes (lines + 1) next before)
    (λ next. TakesLines reading Takes (lines + 1) next (before ++ rest)) fault
    (λ next so_far. lines_stop reading Takes rest fault (lines + 1) next before so_far) refused

-- one line more, whose said takes the state on
pub line_behind : {P S : Type 0} (reading : LineReading P) (Takes : Step P S) (lines count : ℕ) (state mid next : S) (before : List (List ℕ))
    (line : List ℕ) (said : P) → count ≡ lines + length before → TakesLines reading Takes lines state before (Ok mid)
    → reading count line ≡ Ok said → Takes (count + 1) said mid next
    → TakesLines reading Takes lines state (before ++ line ∷ []) (Ok next)
line_behind reading Takes lines count state mid next before line said are taken is takes =
    lines_then reading Takes (line ∷ []) (Ok next) mid count lines state before are taken
    (line_taken reading Takes count mid next line said [] (Ok next) is takes (none_left reading Takes (count + 1) next))

-- one that is refused
pub refused_behind : {P S : Type 0} (reading : LineReading P) (Takes : Step P S) (lines count : ℕ) (state mid : S) (before : List (List ℕ)) (line : List ℕ)
    (fault : LineFault) → count ≡ lines + length before → TakesLines reading Takes lines state before (Ok mid)
    → reading count line ≡ Err fault.why → fault.line ≡ count + 1
    → TakesLines reading Takes lines state (before ++ line ∷ []) (Err fault)
refused_behind reading Takes lines count state mid before line fault are taken is place =
    lines_then reading Takes (line ∷ []) (Err fault) mid count lines state before are taken
    (line_refused reading Takes count mid line [] fault is place)

-- ---- where each step leads to one state, lines lead to one outcome

-- from a state what a line says leads to one next
abbrev pub LeadsOnce : {P S : Type 0} → Step P S → Type 0
LeadsOnce {P} {S} Takes = (n : ℕ) (p : P) (s a b : S) → Takes n p s a → Takes n p s b → a ≡ b

line_once : {P S : Type 0} (Takes : Step P S) (lines : ℕ) (state : S) (said : Result P LineWhy)
    (goes_on : S → Result S LineFault → Type 0) (one other : Result S LineFault)
    → LeadsOnce Takes → ((next : S) → goes_on next one → goes_on next other → one ≡ other)
    → BehindLine Takes lines state said goes_on one → BehindLine Takes lines state said goes_on other
    → one ≡ other
line_once Takes lines state (Err cause) goes_on one other once behind first second = first ∙ sym second
line_once {P} {S} Takes lines state (Ok said) goes_on one other once behind first second =
    let same = once (lines + 1) said state first.0 second.0 first.1 second.1 in
    behind second.0 (subst (λ (next : S). goes_on next one) same first.2) second.2

pub lines_once : {P S : Type 0} (reading : LineReading P) (Takes : Step P S) (lines : ℕ) (state : S) (rest : List (List ℕ))
    (one other : Result S LineFault) → LeadsOnce Takes → TakesLines reading Takes lines state rest one
    → TakesLines reading Takes lines state rest other → one ≡ other
unfolding TakesLines
lines_once reading Takes lines state [] one other once first second = first ∙ sym second
lines_once reading Takes lines state (line ∷ rest) one other once first second =
    line_once Takes lines state (reading lines line) (λ next. TakesLines reading Takes (lines + 1) next rest) one other once
    (λ next. lines_once reading Takes (lines + 1) next rest one other once) first second

-- ---- where each step leads somewhere, so do lines

-- from each state what a line says leads to a next
abbrev pub LeadsOn : {P S : Type 0} → Step P S → Type 0
LeadsOn {P} {S} Takes = (n : ℕ) (p : P) (s : S) → (next : S) × Takes n p s next

line_leads : {P S : Type 0} (Takes : Step P S) (lines : ℕ) (state : S) (said : Result P LineWhy)
    (goes_on : S → Result S LineFault → Type 0) → LeadsOn Takes → ((next : S) → (outcome : Result S LineFault) × goes_on next outcome)
    → (outcome : Result S LineFault) × BehindLine Takes lines state said goes_on outcome
line_leads Takes lines state (Err cause) goes_on leads behind = (Err (record { line = lines + 1; why = cause }), refl)
line_leads Takes lines state (Ok said) goes_on leads behind =
    let to = leads (lines + 1) said state in
    let rest = behind to.0 in
    (rest.0, (to.0, to.1, rest.1))

pub lines_lead : {P S : Type 0} (reading : LineReading P) (Takes : Step P S) (lines : ℕ) (state : S) (rest : List (List ℕ)) → LeadsOn Takes
    → (outcome : Result S LineFault) × TakesLines reading Takes lines state rest outcome
unfolding TakesLines
lines_lead reading Takes lines state [] leads = (Ok state, refl)
lines_lead reading Takes lines state (line ∷ rest) leads =
    line_leads Takes lines state (reading lines line) (λ next. TakesLines reading Takes (lines + 1) next rest) leads
    (λ next. lines_lead reading Takes (lines + 1) next rest leads)
