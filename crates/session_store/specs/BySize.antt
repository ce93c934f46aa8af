-- What is held of the sessions of one size, and their memory.
use Rattle.std.specs.Prelude.{ℕ}
use Rattle.session_store.specs.declared.flash_sessions.FlashSessions.{FlashSessions}
use Rattle.session_store.specs.declared.flash_sessions.FlashSessions.TheVariants as flash
use Rattle.session_store.specs.declared.flash_sessions.IdleSessions.{IdleSessions}
use Rattle.session_store.specs.declared.flash_sessions.IdleSessions.TheVariants as idle
use Rattle.session_store.specs.declared.held_slots.Layout.{Layout}
use Rattle.session_store.specs.declared.memory_sessions.MemorySessions.{MemorySessions}
use Rattle.session_store.specs.declared.memory_sessions.MemorySessions.TheVariants as memory
use Rattle.session_store.specs.HeldPlaces.{HeldPlaces, AreIdle}
use Rattle.session_store.specs.HeldSessions.{HeldSessions}
use Rattle.session_store.specs.Size.{Size, SizedLayout, laid_out, session_extent, small_size, middle_size, any_file, large_size}

-- the slots in memory
abbrev pub slots_in : MemorySessions → HeldSessions
slots_in (memory.Small slots) = slots
slots_in (memory.Middle slots) = slots
slots_in (memory.Rows16 slots) = slots
slots_in (memory.Rows64 slots) = slots
slots_in (memory.Large slots) = slots

-- what is held in flash
abbrev pub places_in : FlashSessions → HeldPlaces
places_in (flash.Small places) = places
places_in (flash.Middle places) = places
places_in (flash.Rows16 places) = places
places_in (flash.Rows64 places) = places
places_in (flash.Large places) = places

-- of which size the memory is
abbrev pub idle_size : IdleSessions → Size
idle_size (idle.Small idles) = small_size
idle_size (idle.Middle idles) = middle_size
idle_size (idle.Rows16 idles) = any_file 16
idle_size (idle.Rows64 idles) = any_file 64
idle_size (idle.Large idles) = large_size

-- the ranges of sessions in this memory
abbrev pub laid_for : IdleSessions → Layout → SizedLayout
laid_for idles layout = laid_out (idle_size idles) layout

-- it has a file area of so many bytes for each
abbrev pub IdleFor : (area : ℕ) → IdleSessions → Type 0
IdleFor area (idle.Small idles) = AreIdle (session_extent small_size area) idles
IdleFor area (idle.Middle idles) = AreIdle (session_extent middle_size area) idles
IdleFor area (idle.Rows16 idles) = AreIdle (session_extent (any_file 16) area) idles
IdleFor area (idle.Rows64 idles) = AreIdle (session_extent (any_file 64) area) idles
IdleFor area (idle.Large idles) = AreIdle (session_extent large_size area) idles
