-- What the states of a session show.
use Rattle.std.specs.Prelude.{◌≡◌, ℕ, ◌-◌, ◌≤◌, [], take, length}
use Rattle.row_elimination.specs.HeldSolver.{missing_of}
use Rattle.frag_session.specs.declared.answers.View.{View}
use Rattle.frag_session.specs.declared.answers.Verdict.{Verdict}
use Rattle.frag_session.specs.declared.answers.Verdict.TheVariants as shown
use Rattle.frag_session.specs.Held.{Held, Done, Failed}
use Rattle.frag_session.specs.Limits.{max_received}
use Rattle.frag_session.specs.Session.{Seen}

-- a view as data
unfoldable pub seen : View → Seen
seen v = record { received = v.received; missing = v.missing; verdict = v.verdict; file = v.file.now }

-- a view shows this, over an area of so many bytes
pub record Shows (what : Seen) (area : ℕ) (view : View) : Type 0 where
  pub value : seen view ≡ what
  pub within : length view.file.now ≤ area
  pub few : view.received ≤ max_received

-- while it hears: what is still to be gained is missing, and there is no file
unfoldable pub receiving_seen : Held → Seen
receiving_seen h = record { received = h.received; missing = missing_of h.solver; verdict = shown.Receiving; file = [] }

-- with a whole file: its bytes without the padding at their end
unfoldable pub done_seen : Done → Seen
done_seen d = record { received = d.received; missing = 0; verdict = shown.Complete d.mark; file = take (length d.solver.content - d.setup.padding) d.solver.content }

-- with the verdict that there is none: what was missing before the fragment that brought it
unfoldable pub failed_seen : Verdict → Failed → Seen
failed_seen verdict f = record { received = f.received; missing = f.missing; verdict = verdict; file = [] }
