-- What C is shown of a session.
use Rattle.std.specs.Prelude.{◌≡◌, ℕ, Option, Some, None, List, [], length}
use Rattle.c_base.specs.Answer.{done, nothing}
use Rattle.frag_session.specs.declared.answers.Verdict.{Verdict}
use Rattle.frag_session.specs.declared.answers.Verdict.TheVariants as verdict
use Rattle.frag_session.specs.Session.{Seen}
use Rattle.fuota_c.specs.declared.shown.ViewFields.{ViewFields}

-- the numbers of the header for what is known of the file
abbrev pub verdict_number : Verdict → ℕ
verdict_number verdict.Receiving = 0
verdict_number (verdict.Complete mark) = 1
verdict_number (verdict.NoRows mark) = 2
verdict_number (verdict.Conflict mark) = 3

-- the mark of the fragment that decided it
abbrev pub mark_of : Verdict → ℕ
mark_of verdict.Receiving = 0
mark_of (verdict.Complete mark) = mark
mark_of (verdict.NoRows mark) = mark
mark_of (verdict.Conflict mark) = mark

-- each field is what is seen of the session
abbrev pub fields_of : Seen → ViewFields
fields_of seen = record {
  mark = mark_of seen.verdict;
  file_length = length seen.file;
  received = seen.received;
  missing = seen.missing;
  verdict = verdict_number seen.verdict;
}

-- what is seen of a session is written; without one nothing is
abbrev pub IsShown : Option Seen → (old new : ViewFields) → (answer : ℕ) → Type 0
IsShown None old new answer = (answer ≡ nothing) × (new ≡ old)
IsShown (Some seen) old new answer = (answer ≡ done) × (new ≡ fields_of seen)

-- the file that is whole, and nothing where none is
abbrev pub file_or_none : Option Seen → List ℕ
file_or_none None = []
file_or_none (Some seen) = seen.file
