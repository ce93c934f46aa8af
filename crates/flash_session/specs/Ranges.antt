-- How a call changes what a range of a flash stands for.
use Rattle.std.specs.Prelude.{◌≡◌, ◌⊎◌, ℕ, ◌<◌, List, length, is_some, Bool, Option, Result, OnOk}
use Rattle.frag_model.specs.Fragments.{Fragment}
use Rattle.flash_session.specs.Contents.{SameOutside}
use Rattle.flash_session.specs.Layout.{spelled}
use Rattle.flash_session.specs.Lies.{Stored, Fits, LiesAs, IsStoredAs, NoSession, IsCleared, new_stored}
use Rattle.flash_session.specs.Moments.{LeavesOnly}
use Rattle.flash_session.specs.Seen.{FlashSeen}
use Rattle.flash_session.specs.Serving.{FlashServes}

-- what a stop leaves: what was there, or what is there after the call
abbrev pub WasOrIs : ℕ → (was is : Option Stored) → List ℕ → Type 0
WasOrIs base was is c = LiesAs base was c ⊎ LiesAs base is c

-- or none in between
abbrev pub WasNoneOrIs : ℕ → (was is : Option Stored) → List ℕ → Type 0
WasNoneOrIs base was is c = LiesAs base was c ⊎ NoSession base c ⊎ LiesAs base is c

-- A call took the range from what it was to what it is, whichever of these changes was meant.
pub record RangeServes {Change T E : Type 0} (base span : ℕ) (leaves : Option Stored → Option Stored → List ℕ → Type 0)
    (was is : Change → Option Stored) (old new : FlashSeen) (result : Result T E) : Type 0 where
  -- at Ok it is stored
  pub acknowledged : (x : Change) → IsStoredAs base span (was x) old → OnOk result (IsStoredAs base span (is x) new)
  -- a stop at any moment leaves only this
  pub any_moment : (x : Change) → IsStoredAs base span (was x) old → LeavesOnly (leaves (was x) (is x)) old new
  -- nothing outside the range is written
  pub serves : FlashServes (SameOutside base span) old new result

-- ---- which changes are meant

-- some session or none, as this says
pub record Living (lives : Bool) : Type 0 where
  pub before : Option Stored
  pub as_told : lives ≡ is_some before

-- a session that heard nothing, whose parts are there
pub record Opening (base span : ℕ) (old : FlashSeen) : Type 0 where
  pub body : List ℕ
  pub most : ℕ
  pub size : ℕ
  pub fits : Fits span (new_stored body most size)
  pub cleared : (b : List ℕ) → old.holds b → IsCleared base body b

-- one that begins with this body, instead of whatever was there
pub record Beginning (span : ℕ) (lives : Bool) (body : List ℕ) : Type 0 where
  pub before : Option Stored
  pub as_told : lives ≡ is_some before
  pub most : ℕ
  pub size : ℕ
  pub fits : Fits span (new_stored body most size)

-- a session with so many records of this size, and room for one more
pub record Growing (size n : ℕ) : Type 0 where
  pub session : Stored
  pub size_is : session.size ≡ size
  pub count : length session.records ≡ n
  pub room : n < session.most

-- and a fragment of which the record is spelled so
pub record Storing (size n : ℕ) (piece : List ℕ) : Type 0 where
  pub grows : Growing size n
  pub fragment : Fragment
  pub sized : length fragment.part ≡ size
  pub spelled_as : piece ≡ spelled fragment

-- a session with so many tallies
pub record Tallied (n : ℕ) : Type 0 where
  pub session : Stored
  pub count : session.tallies ≡ n
