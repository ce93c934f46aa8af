-- The four sessions of a device, by their index (TS004-1.0.0, FragIndex).
pub use Rattle.session_store.specs.SessionTable.{SessionTable, no_sessions, session_at, with_session, table_after_setup, table_after_fragment}
