-- Where the four sessions of a device are, and for which they stand.
pub use Rattle.session_store.specs.HeldStore.{HeldStore, IsUp, IsDown, IsInFlash, StateStands, StateIsStored, StateIsHeld, IsLaidOut, store_room}
