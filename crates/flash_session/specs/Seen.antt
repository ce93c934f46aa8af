-- What a flash tells of itself at one moment. Where it tells nothing, no content has this: then nothing is said of it.
use Rattle.std.specs.Prelude.{ℕ, List}
use Rattle.flash_session.specs.Contents.{Same, Follows}

-- what a flash tells of its bytes
pub record FlashSeen : Type 1 where
  -- a read gives the bytes of this content
  pub holds : List ℕ → Type 0
  -- a stop at some moment from that one on might have left this content, during a call or between two
  pub since : ℕ → List ℕ → Type 0
  -- the moment, as a number that doesn't fall
  pub moment : ℕ
  -- how often a call has failed
  pub faults : ℕ
  -- how many bytes there are
  pub room : ℕ

-- a stop at this moment might leave this content
abbrev pub left : FlashSeen → List ℕ → Type 0
left seen = seen.since seen.moment

-- a stop leaves what a read gives
abbrev pub IsKept : FlashSeen → Type 0
IsKept seen = Follows Same seen.holds (left seen)
