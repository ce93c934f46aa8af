-- A state that hears line after line, each cut, and keeps the first fault: it is after all that it has heard.
use Rattle.std.proofs.Common.{◌≡◌, inl, inr, ℕ, ◌<◌, List, [], ◌∷◌, length, Option, Some, None, Result, Ok, Err, IfErr, refl, sym, ap, subst, ◌∙◌, arith}
use Rattle.std.proofs.lemmas.Bool.{cases_lt}
use Rattle.std.proofs.lemmas.List.{take_all, length-take}
use Rattle.script_lines.specs.Lines.{lines_of}
use Rattle.script_lines.specs.Pieces.{cut, cut_lines}
use Rattle.script_lines.specs.Hearing.{HearsAll, HearsLines}
use Rattle.report_lines.specs.declared.faults.LineWhy.{LineWhy}
use Rattle.report_lines.specs.declared.faults.LineWhy.TheVariants as why
use Rattle.report_lines.specs.declared.faults.LineFault.{LineFault}
use Rattle.report_lines.specs.declared.faults.LineError.{LineError}
use Rattle.report_lines.specs.declared.faults.LineError.TheVariants as error
use Rattle.campaign_world.specs.HeldWorld.{IsAnswerTo}
use Rattle.campaign_world.specs.HeardWorld.{StateIs, StateIsIf}

-- what is held, for which states it stands, and how these read lines
pub record Listener (H S : Type 0) : Type 1 where
  pub kept : H → Option LineError
  pub stands : H → S → Type 0
  pub cause : S → (line : List ℕ) → Option LineWhy
  pub number : S → ℕ
  pub behind : S → (line : List ℕ) → S
  pub read : Result S LineFault → (lines : List (List ℕ)) → Result S LineFault

-- line after line, to the first that is refused
pub record IsListener (H S : Type 0) (l : Listener H S) : Type 0 where
  pub none : (s : S) → l.read (Ok s) [] ≡ Ok s
  pub stops : (fault : LineFault) (lines : List (List ℕ)) → l.read (Err fault) lines ≡ Err fault
  pub taken : (s : S) (line : List ℕ) (lines : List (List ℕ)) → l.cause s line ≡ None
      → l.read (Ok s) (line ∷ lines) ≡ l.read (Ok (l.behind s line)) lines
  pub refused : (s : S) (line : List ℕ) (lines : List (List ℕ)) (why : LineWhy) → l.cause s line ≡ Some why
      → l.read (Ok s) (line ∷ lines) ≡ Err (record { line = l.number s; why = why })
  pub long : (s : S) (line : List ℕ) → 600 < length line → l.cause s line ≡ Some why.Limit

abbrev IsIf : {H S : Type 0} → Listener H S → H → Result S LineFault → Type 0
IsIf l held so_far = StateIsIf (l.kept held) (l.stands held) so_far

abbrev Hears : {H S : Type 0} → Listener H S → H → List ℕ → H → Type 0
Hears {H} {S} l old line new = (so_far : Result S LineFault) → IsIf l old so_far → IsIf l new (l.read so_far (line ∷ []))

-- what the call for a line answers, as one fact over all that came before
pub hears : {H S : Type 0} (l : Listener H S) → IsListener H S l → (old new : H) (line : List ℕ) (r : Result (Unit {0}) LineError)
    → ((s : S) → l.stands old s → l.kept old ≡ None → IsAnswerTo (l.cause s line) (l.number s) s (l.behind s line) (l.kept new) (l.stands new) r)
    → IfErr r (λ e. l.kept new ≡ Some e) → ((e : LineError) → l.kept old ≡ Some e → (r ≡ Err e) × (new ≡ old)) → Hears l old line new
hears l is old new line r step kept same so_far (inl memory) = inl (ap l.kept (same error.Memory memory).1 ∙ memory)
hears {H} {S} l is old new line r step kept same (Err fault) (inr refused) =
    inr (subst (λ (o : Result S LineFault). StateIs (l.kept new) (l.stands new) o) (sym (is.stops fault (line ∷ [])))
    (ap l.kept (same (error.Line fault) refused).1 ∙ refused))
hears {H} {S} l is old new line (Ok done) step kept same (Ok s) (inr stands) =
    let answer = step s stands.1 stands.0 in
    inr (subst (λ (o : Result S LineFault). StateIs (l.kept new) (l.stands new) o)
    (sym (is.taken s line [] answer.0 ∙ is.none (l.behind s line))) (answer.2, answer.1))
hears {H} {S} l is old new line (Err (error.Line fault)) step kept same (Ok s) (inr stands) =
    let answer = step s stands.1 stands.0 in
    let made : Path (Result S LineFault) (Err (record { line = l.number s; why = fault.why })) (Err fault) =
    ap (λ (n : ℕ). let o : Result S LineFault = Err (record { line = n; why = fault.why }) in o) (sym answer.1) in
    inr (subst (λ (o : Result S LineFault). StateIs (l.kept new) (l.stands new) o)
    (sym (is.refused s line [] fault.why answer.0 ∙ made)) kept)
hears l is old new line (Err error.Memory) step kept same (Ok s) (inr stands) = inl kept

-- after a refused line, or once out of memory, none does more
pub hears_no_more : {H S : Type 0} (l : Listener H S) → IsListener H S l → (held : H) (line : List ℕ) (e : LineError) → l.kept held ≡ Some e
    → Hears l held line held
hears_no_more l is held line e kept =
    hears l is held held line (Err e) (λ s stands none. absurd cc) kept
    (λ f there. (let same : e ≡ f = cc in ap (λ (x : LineError). let r : Result (Unit {0}) LineError = Err x in r) same, refl))

-- ---- a whole script

read_none : {H S : Type 0} (l : Listener H S) → IsListener H S l → (so_far : Result S LineFault) → l.read so_far [] ≡ so_far
read_none l is (Ok s) = is.none s
read_none l is (Err fault) = is.stops fault []

-- the first line, and then the others
read_then : {H S : Type 0} (l : Listener H S) → IsListener H S l → (so_far : Result S LineFault) (line : List ℕ) (lines : List (List ℕ))
    → l.read so_far (line ∷ lines) ≡ l.read (l.read so_far (line ∷ [])) lines
read_then {H} {S} l is (Err fault) line lines =
    is.stops fault (line ∷ lines)
    ∙ sym (ap (λ (o : Result S LineFault). l.read o lines) (is.stops fault (line ∷ [])) ∙ is.stops fault lines)
read_then {H} {S} l is (Ok s) line lines = by (l.cause s line) refl
  where
    by : (cause : Option LineWhy) → l.cause s line ≡ cause → l.read (Ok s) (line ∷ lines) ≡ l.read (l.read (Ok s) (line ∷ [])) lines
    by None fine =
        is.taken s line lines fine
        ∙ ap (λ (o : Result S LineFault). l.read o lines) (sym (is.taken s line [] fine ∙ is.none (l.behind s line)))
    by (Some why) refuses =
        is.refused s line lines why refuses
        ∙ sym (ap (λ (o : Result S LineFault). l.read o lines) (is.refused s line [] why refuses) ∙ is.stops _ lines)

-- a line that is cut is refused for the same cause
cut_read : {H S : Type 0} (l : Listener H S) → IsListener H S l → (so_far : Result S LineFault) (line : List ℕ)
    → l.read so_far (cut line ∷ []) ≡ l.read so_far (line ∷ [])
cut_read l is (Err fault) line = is.stops fault (cut line ∷ []) ∙ sym (is.stops fault (line ∷ []))
cut_read l is (Ok s) line = elim (cases_lt 600 (length line)) [
  | inl long ↦
      is.refused s (cut line) [] why.Limit (is.long s (cut line) (omega (arith, length-take 601 line)))
      ∙ sym (is.refused s line [] why.Limit (is.long s line long))
  | inr short ↦ ap (λ (x : List ℕ). l.read (Ok s) (x ∷ [])) (take_all 601 line (omega (arith, short)))
]

heard_all : {H S : Type 0} (l : Listener H S) → IsListener H S l → (lines : List (List ℕ)) (old new : H) → HearsAll (Hears l) old (cut_lines lines) new
    → (so_far : Result S LineFault) → IsIf l old so_far → IsIf l new (l.read so_far lines)
unfolding HearsAll
heard_all {H} {S} l is [] old new same so_far k =
    subst (λ (o : Result S LineFault). IsIf l new o) (sym (read_none l is so_far)) (subst (λ (h : H). IsIf l h so_far) (sym same) k)
heard_all {H} {S} l is (line ∷ lines) old new heard so_far k =
    subst (λ (o : Result S LineFault). IsIf l new o) (sym (read_then l is so_far line lines))
    (heard_all l is lines heard.0 new heard.2 (l.read so_far (line ∷ []))
    (subst (λ (o : Result S LineFault). IsIf l heard.0 o) (cut_read l is so_far line) (heard.1 so_far k)))

pub all_heard : {H S : Type 0} (l : Listener H S) → IsListener H S l → (bytes : List ℕ) (first : S) (old new : H) → HearsLines (Hears l) old new bytes
    → l.stands old first → l.kept old ≡ None → IsIf l new (l.read (Ok first) (lines_of bytes))
all_heard l is bytes first old new heard stands none = heard_all l is (lines_of bytes) old new heard (Ok first) (inr (none, stands))
