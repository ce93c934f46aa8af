-- Clocks and corrections, worked out (TS003-1.0.0).
use Rattle.std.specs.Prelude.{◌≡◌, ◌-◌, ◌^◌, true, false, pos, neg_ℤ}
use Rattle.clock_sync.specs.Clock.{Clock, first_clock, device_time, device_millis, after_answer, correction_of, is_answer_needed}

-- a clock 5 s ahead
abbrev pub ahead : Clock
ahead = first_clock 5

pub record WorkedClocks : Type 0 where
  -- its time at 10,999 ms, and that of a clock 1 s later, which starts again from 0
  pub seconds : device_time ahead 10999 ≡ 15
  pub millis : device_millis ahead 10999 ≡ 15999
  pub round : device_time (first_clock (2 ^ 32 - 1)) 3000 ≡ 2
  pub round_millis : device_millis (first_clock (2 ^ 32 - 1)) 3007 ≡ 2007
  -- its correction is taken with its token, which is raised modulo 16, and with no other
  pub corrected : after_answer (neg_ℤ (pos 5)) 0 ahead ≡ record { offset = 0; token = 1 }
  pub put_ahead : after_answer (pos 5) 15 (record { offset = 2 ^ 32 - 2; token = 15 }) ≡ record { offset = 3; token = 0 }
  pub raised : after_answer (pos 0) 7 (record { offset = 5; token = 7 }) ≡ record { offset = 5; token = 8 }
  pub other_token : after_answer (neg_ℤ (pos 5)) 1 ahead ≡ ahead
  pub lower_token : after_answer (pos 5) 6 (record { offset = 5; token = 7 }) ≡ record { offset = 5; token = 7 }
  -- the correction is the shorter way to the server's time
  pub back : correction_of 10 15 ≡ neg_ℤ (pos 5)
  pub on : correction_of 1 (2 ^ 32 - 1) ≡ pos 2
  pub half : correction_of (2 ^ 31) 0 ≡ neg_ℤ (pos (2 ^ 31))
  -- an answer is needed where it is required, or the time is wrong
  pub right : is_answer_needed false (correction_of 10 10) ≡ false
  pub required : is_answer_needed true (correction_of 10 10) ≡ true
  pub wrong : is_answer_needed false (correction_of 10 15) ≡ true
  pub late : is_answer_needed false (correction_of 15 10) ≡ true
  pub both : is_answer_needed true (correction_of 10 15) ≡ true
