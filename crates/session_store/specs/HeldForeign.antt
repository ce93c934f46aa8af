-- When the bytes in the ranges of the four sessions are no session's, and where.
use Rattle.std.specs.Prelude.{ℕ, ◌*◌, List}
use Rattle.flash_session.specs.Opening.{IsFirstForeign, NothingForeign}
use Rattle.session_store.specs.Size.{SizedLayout}
use Rattle.session_store.specs.HeldPlaces.{place_at}

-- nothing is foreign in any range
pub record NoneForeign (l : SizedLayout) (c : List ℕ) : Type 0 where
  pub first : NothingForeign (place_at l 0) c
  pub second : NothingForeign (place_at l l.span) c
  pub third : NothingForeign (place_at l (2 * l.span)) c
  pub fourth : NothingForeign (place_at l (3 * l.span)) c

-- in the first range where something is, the lowest foreign place is this, counted from the range's first byte
pub data IsForeignIn (l : SizedLayout) (c : List ℕ) (place : ℕ) : Type 0 where
  first : IsFirstForeign (place_at l 0) c place → IsForeignIn l c place
  second : NothingForeign (place_at l 0) c → IsFirstForeign (place_at l l.span) c place → IsForeignIn l c place
  third : NothingForeign (place_at l 0) c → NothingForeign (place_at l l.span) c
      → IsFirstForeign (place_at l (2 * l.span)) c place → IsForeignIn l c place
  fourth : NothingForeign (place_at l 0) c → NothingForeign (place_at l l.span) c
      → NothingForeign (place_at l (2 * l.span)) c → IsFirstForeign (place_at l (3 * l.span)) c place → IsForeignIn l c place
