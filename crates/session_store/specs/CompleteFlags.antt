-- Which sessions have their file whole.
use Rattle.std.specs.Prelude.{Bool, true, false, Option, Some, None}
use Rattle.frag_session.specs.declared.answers.Verdict.{Verdict}
use Rattle.frag_session.specs.declared.answers.Verdict.TheVariants as verdict
use Rattle.frag_session.specs.Session.{Seen, view_of}
use Rattle.session_store.specs.declared.state.CompleteFlags.{CompleteFlags}
use Rattle.session_store.specs.SessionTable.{SessionTable}

-- the verdict is that the file is whole
abbrev pub is_complete : Verdict → Bool
is_complete (verdict.Complete mark) = true
is_complete other = false

-- a session has its file whole
abbrev pub is_whole : Option Seen → Bool
is_whole None = false
is_whole (Some seen) = is_complete seen.verdict

abbrev pub flags_of : SessionTable → CompleteFlags
flags_of table = record {
  first = is_whole (view_of table.first);
  second = is_whole (view_of table.second);
  third = is_whole (view_of table.third);
  fourth = is_whole (view_of table.fourth);
}

-- a device that was never up had none
abbrev pub none_complete : CompleteFlags
none_complete = record { first = false; second = false; third = false; fourth = false }
