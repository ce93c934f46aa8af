pub mod HeldReceiver
