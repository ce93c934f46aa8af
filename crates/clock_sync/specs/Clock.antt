-- Clocks of devices and their corrections (TS003-1.0.0). Times are since the GPS epoch, 6 January 1980 00:00:00.
use Rattle.std.specs.Prelude.{◌≡◌, ℕ, ◌+◌, ◌-◌, ◌*◌, ◌/◌, ◌%◌, ◌^◌, ◌<◌, if◌then◌else◌, ◌==◌, ◌||◌, not, Bool, ℤ, pos, neg_ℤ, ◌+ℤ◌, ◌≤ℤ◌, ◌<ℤ◌}
use Rattle.std.specs.Int.{w32, int_rem_euclid, cast_signed, cast_unsigned}
use Rattle.std.specs.Ordering.{int_eq}

-- ---- a device's clock

-- the seconds that it is ahead of true time, modulo 2^32, and the token of its next request
pub record Clock : Type 0 where
  pub offset : ℕ
  pub token : ℕ

-- before its first request a clock has the token 0
abbrev pub first_clock : (offset : ℕ) → Clock
first_clock offset = record { offset = offset; token = 0 }

-- DeviceTime at t ms of true time, in seconds
abbrev pub device_time : Clock → (t : ℕ) → ℕ
device_time clock t = (t / 1000 + clock.offset) % 2 ^ 32

-- the same clock in ms
abbrev pub device_millis : Clock → (t : ℕ) → ℕ
device_millis clock t = (t + 1000 * clock.offset) % (1000 * 2 ^ 32)

-- a clock after an AppTimeAns: with its token the correction is added to its offset modulo 2^32, and the token is raised
-- modulo 16; with any other token nothing changes
abbrev pub after_answer : ℤ → (token : ℕ) → Clock → Clock
after_answer correction token clock =
    if token == clock.token
    then record { offset = (clock.offset + cast_unsigned w32 correction) % 2 ^ 32; token = (clock.token + 1) % 16 }
    else clock

-- ---- the server's answer

-- TimeCorrection: the seconds from the device's time to the server's, as a signed number of 32 bits
abbrev pub correction_of : (server device : ℕ) → ℤ
correction_of server device = cast_signed w32 ((server + (2 ^ 32 - device)) % 2 ^ 32)

-- an answer is needed where AnsRequired is set, or the device's time is wrong
abbrev pub is_answer_needed : (required : Bool) → ℤ → Bool
is_answer_needed required correction = required || not (int_eq correction (pos 0))

-- ---- what corrections are for

-- whole numbers that are equal modulo m
abbrev pub IsCongruent : (m : ℕ) (x y : ℤ) → Type 0
IsCongruent m x y = int_rem_euclid x (pos m) ≡ int_rem_euclid y (pos m)

-- the signed number of 32 bits that brings the device's time to the server's
pub record IsCorrection (server device : ℕ) (correction : ℤ) : Type 0 where
  pub from_min : neg_ℤ (pos (2 ^ 31)) ≤ℤ correction
  pub below_max : correction <ℤ pos (2 ^ 31)
  pub congruent : IsCongruent (2 ^ 32) (pos device +ℤ correction) (pos server)

-- a clock to which a correction was added, and whose token was raised
pub record IsCorrected (old : Clock) (correction : ℤ) (new : Clock) : Type 0 where
  pub fits : new.offset < 2 ^ 32
  pub congruent : IsCongruent (2 ^ 32) (pos new.offset) (pos old.offset +ℤ correction)
  pub token : new.token ≡ (old.token + 1) % 16
