-- The four sessions of a device, by their index (TS004-1.0.0, FragIndex).
use Rattle.std.specs.Prelude.{ℕ, ◌==◌, if◌then◌else◌, List, Option, None}
use Rattle.frag_session.specs.declared.answers.Via.{Via}
use Rattle.frag_session.specs.declared.setups.Limits.{Limits}
use Rattle.frag_session.specs.declared.setups.SetupReq.{SetupReq}
use Rattle.frag_session.specs.Setup.{Room}
use Rattle.frag_session.specs.Session.{Session, after_setup, after_fragment}

-- those of index 0 to 3, each where there is one
pub record SessionTable : Type 0 where
  pub first : Option Session
  pub second : Option Session
  pub third : Option Session
  pub fourth : Option Session

abbrev pub no_sessions : SessionTable
no_sessions = record { first = None; second = None; third = None; fourth = None }

abbrev pub session_at : SessionTable → ℕ → Option Session
session_at table index =
    if index == 0 then table.first
    else if index == 1 then table.second
    else if index == 2 then table.third
    else table.fourth

-- the same with another one there
abbrev pub with_session : SessionTable → ℕ → Option Session → SessionTable
with_session table index session =
    if index == 0 then record table { first = session }
    else if index == 1 then record table { second = session }
    else if index == 2 then record table { third = session }
    else record table { fourth = session }

-- a setup at the index that it names
abbrev pub table_after_setup : Limits → Room → SetupReq → SessionTable → SessionTable
table_after_setup limits room req table =
    with_session table req.index (after_setup limits room (session_at table req.index) req)

-- a fragment for the session of an index
abbrev pub table_after_fragment : (index : ℕ) → Via → (n : ℕ) → List ℕ → (mark : ℕ) → SessionTable → SessionTable
table_after_fragment index via n part mark table =
    with_session table index (after_fragment (session_at table index) via n part mark)
