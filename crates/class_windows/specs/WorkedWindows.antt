-- Windows and answers, worked out (LoRaWAN 1.0, receive windows and class B slots; TS005-1.0.0).
use Rattle.std.specs.Prelude.{◌≡◌, ◌-◌, ◌*◌, ◌+◌, ◌^◌, true, false, Some, None}
use Rattle.class_windows.specs.Windows.{beacon_at, ping_period, ping_offset}
use Rattle.class_windows.specs.Open.{is_in_slot, is_open_a, is_open_b, is_open_c}
use Rattle.class_windows.specs.Sessions.{error_bits, time_to_start, start_answer}

pub record WorkedWindows : Type 0 where
  -- class A, after an uplink that was due at 5,000 ms
  pub a_none : is_open_a None 6000 ≡ false
  pub a_5000 : is_open_a (Some 5000) 5000 ≡ false
  pub a_5999 : is_open_a (Some 5000) 5999 ≡ false
  pub a_6000 : is_open_a (Some 5000) 6000 ≡ true
  pub a_6099 : is_open_a (Some 5000) 6099 ≡ true
  pub a_6100 : is_open_a (Some 5000) 6100 ≡ false
  pub a_6999 : is_open_a (Some 5000) 6999 ≡ false
  pub a_7000 : is_open_a (Some 5000) 7000 ≡ true
  pub a_7099 : is_open_a (Some 5000) 7099 ≡ true
  pub a_7100 : is_open_a (Some 5000) 7100 ≡ false
  -- class C, for 4 s from 1,010 s on, and over the end of the clock's round
  pub c_before : is_open_c 1010 2 1009999 ≡ false
  pub c_first : is_open_c 1010 2 1010000 ≡ true
  pub c_last : is_open_c 1010 2 1013999 ≡ true
  pub c_behind : is_open_c 1010 2 1014000 ≡ false
  pub c_round : is_open_c (2 ^ 32 - 1) 1 999 ≡ true
  pub c_behind_the_round : is_open_c (2 ^ 32 - 1) 1 1000 ≡ false
  -- class B: slots of 30 ms from 2,120 ms after the beacon on
  pub beacon : beacon_at 1279 ≡ 1152
  pub shortest : ping_period 0 ≡ 32
  pub longest : ping_period 7 ≡ 4096
  pub slot_before : is_in_slot 23 32 (2120 + 30 * 23 - 1) ≡ false
  pub slot_first : is_in_slot 23 32 (2120 + 30 * 23) ≡ true
  pub slot_last : is_in_slot 23 32 (2120 + 30 * 23 + 29) ≡ true
  pub slot_behind : is_in_slot 23 32 (2120 + 30 * 23 + 30) ≡ false
  pub next_slot : is_in_slot 23 32 (2120 + 30 * 55) ≡ true
  pub last_slot : is_in_slot 23 32 (2120 + 30 * 4087) ≡ true
  pub no_slot : is_in_slot 0 4096 (2120 + 30 * 4096) ≡ false

-- with another AES
pub record WorkedSlots : Type 0 where
  pub offset : ping_offset 1024 0x11223344 0 ≡ 23
  pub next_offset : ping_offset 1152 0x11223344 0 ≡ 19
  pub rare : ping_offset 4294967168 0xdeadbeef 7 ≡ 3372
  -- a session of 1,030 s runs from the beacon at 1,024 s on
  pub b_open : is_open_b 1030 0 1 (1024000 + 2120 + 30 * 23) 0x11223344 ≡ true
  pub b_before : is_open_b 1030 0 1 (896000 + 2120 + 30 * 18) 0x11223344 ≡ false
  -- with TimeOut 1 it lasts 256 s, so that the last slot of the second beacon is its last; the third beacon's first is after it
  pub b_last : is_open_b 1030 0 1 (1152000 + 2120 + 30 * 4083 + 29) 0x11223344 ≡ true
  pub b_behind_the_slot : is_open_b 1030 0 1 (1152000 + 2120 + 30 * 4083 + 30) 0x11223344 ≡ false
  pub b_behind : is_open_b 1030 0 1 (1280000 + 2120 + 30 * 11) 0x11223344 ≡ false
  -- with Periodicity 5 every 1,024th slot
  pub b_rare : is_open_b 1030 5 1 (1024000 + 2120 + 30 * 343) 0x11223344 ≡ true
  pub b_rarely : is_open_b 1030 5 1 (1024000 + 2120 + 30 * (343 + 512)) 0x11223344 ≡ false
  pub b_rare_again : is_open_b 1030 5 1 (1024000 + 2120 + 30 * (343 + 1024)) 0x11223344 ≡ true
  -- with TimeOut 0 it has the slots of one beacon, with TimeOut 2 those of the third and the fourth too
  pub b_short : is_open_b 1030 0 0 (1152000 + 2120 + 30 * 19) 0x11223344 ≡ false
  pub b_long : is_open_b 1030 0 2 (1280000 + 2120 + 30 * 11) 0x11223344 ≡ true

pub record WorkedAnswers : Type 0 where
  -- the error bits: no group, a frequency outside 863 to 870 MHz, a data rate above 5
  pub none : error_bits true 8681000 5 ≡ 0
  pub group : error_bits false 8681000 0 ≡ 0x10
  pub lowest : error_bits true 8630000 0 ≡ 0
  pub too_low : error_bits true 8629999 0 ≡ 0x08
  pub highest : error_bits true 8700000 0 ≡ 0
  pub too_high : error_bits true 8700001 0 ≡ 0x08
  pub data_rate : error_bits true 8681000 6 ≡ 0x04
  pub all : error_bits false 0 6 ≡ 0x1c
  -- the seconds to the start: modulo 2^32, 0 where it is past, and at most 24 bits
  pub ahead : time_to_start 1000 1010 ≡ 10
  pub past : time_to_start 1000 999 ≡ 0
  pub round : time_to_start (2 ^ 32 - 1) 1 ≡ 2
  pub far : time_to_start 0 (2 ^ 31 - 1) ≡ 2 ^ 24 - 1
  pub too_far : time_to_start 0 (2 ^ 31) ≡ 0
  -- it is answered only without an error
  pub answered : start_answer 0 1000 1010 ≡ Some 10
  pub refused : start_answer 4 1000 1010 ≡ None
