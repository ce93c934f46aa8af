-- Lines of a script, each with the form that it spells, or with none.
use Rattle.std.specs.Prelude.{◌≡◌, ℕ, ◌-◌, ◌^◌, Bool, true, false, List, [], ◌∷◌, codes, Option, Some, None}
use Rattle.script_lines.specs.declared.forms.Class.{Class}
use Rattle.script_lines.specs.declared.forms.Class.TheVariants as class
use Rattle.script_lines.specs.declared.forms.Form.{Form}
use Rattle.script_lines.specs.declared.forms.Form.TheVariants.{Header, Image, Group, WindowC, WindowB, Device, At, Wake, Migrate, Power, Ask, Frag, Status, Down, Raw, Air, RawAir, Up, End}
use Rattle.script_lines.specs.Lines.{lines_of, words_of}
use Rattle.script_lines.specs.Numbers.{decimal_of, hex_number_of}
use Rattle.script_lines.specs.Forms.{form_of}

-- the form of a device line with these words
abbrev pub device_says : (id : ℕ) → Class → (hw rows offset : ℕ) → List ℕ → Option ℕ → (v1 k11 flash : Bool) → Form
device_says id class hw rows offset key descriptor v1 k11 flash = Device (record {
  id = id;
  class = class;
  hw = hw;
  rows = rows;
  offset = offset;
  key = key;
  descriptor = descriptor;
  v1 = v1;
  k11 = k11;
  flash = flash;
})

pub record AreForms : Type 0 where
  pub header : form_of (codes "fuota 1") ≡ Some Header
  pub image : form_of (codes "image 13 4") ≡ Some (Image 13 4 0)
  pub group : form_of (codes "group 1122334a 000102030405060708090A0B0C0D0E0F 0 10")
      ≡ Some (Group 0 0x1122334a (0 ∷ 1 ∷ 2 ∷ 3 ∷ 4 ∷ 5 ∷ 6 ∷ 7 ∷ 8 ∷ 9 ∷ 10 ∷ 11 ∷ 12 ∷ 13 ∷ 14 ∷ 15 ∷ []) 0 10)
  pub window_c : form_of (codes "window c 1000 1 8695250 5") ≡ Some (WindowC 1000 1 8695250 5)
  pub window_b : form_of (codes "window b 1000 3 1 8695250 5") ≡ Some (WindowB 1000 3 1 8695250 5)
  pub device_a : form_of (codes "device 1 a 2 3 4 000102030405060708090a0b0c0d0e0f")
      ≡ Some (device_says 1 class.A 2 3 4 (0 ∷ 1 ∷ 2 ∷ 3 ∷ 4 ∷ 5 ∷ 6 ∷ 7 ∷ 8 ∷ 9 ∷ 10 ∷ 11 ∷ 12 ∷ 13 ∷ 14 ∷ 15 ∷ []) None false false false)
  pub device_c : form_of (codes "device 2 c 2 3 4 000102030405060708090a0b0c0d0e0f 0000000a")
      ≡ Some (device_says 2 class.C 2 3 4 (0 ∷ 1 ∷ 2 ∷ 3 ∷ 4 ∷ 5 ∷ 6 ∷ 7 ∷ 8 ∷ 9 ∷ 10 ∷ 11 ∷ 12 ∷ 13 ∷ 14 ∷ 15 ∷ []) (Some 10) false false false)
  pub device_v1 : form_of (codes "device 2 c 2 3 4 000102030405060708090a0b0c0d0e0f v1")
      ≡ Some (device_says 2 class.C 2 3 4 (0 ∷ 1 ∷ 2 ∷ 3 ∷ 4 ∷ 5 ∷ 6 ∷ 7 ∷ 8 ∷ 9 ∷ 10 ∷ 11 ∷ 12 ∷ 13 ∷ 14 ∷ 15 ∷ []) None true false false)
  pub device_with_both : form_of (codes "device 2 c 2 3 4 000102030405060708090a0b0c0d0e0f 0000000a v1")
      ≡ Some (device_says 2 class.C 2 3 4 (0 ∷ 1 ∷ 2 ∷ 3 ∷ 4 ∷ 5 ∷ 6 ∷ 7 ∷ 8 ∷ 9 ∷ 10 ∷ 11 ∷ 12 ∷ 13 ∷ 14 ∷ 15 ∷ []) (Some 10) true false false)
  pub device_k11 : form_of (codes "device 2 c 2 3 4 000102030405060708090a0b0c0d0e0f k11")
      ≡ Some (device_says 2 class.C 2 3 4 (0 ∷ 1 ∷ 2 ∷ 3 ∷ 4 ∷ 5 ∷ 6 ∷ 7 ∷ 8 ∷ 9 ∷ 10 ∷ 11 ∷ 12 ∷ 13 ∷ 14 ∷ 15 ∷ []) None false true false)
  pub device_v1_k11 : form_of (codes "device 2 c 2 3 4 000102030405060708090a0b0c0d0e0f v1 k11")
      ≡ Some (device_says 2 class.C 2 3 4 (0 ∷ 1 ∷ 2 ∷ 3 ∷ 4 ∷ 5 ∷ 6 ∷ 7 ∷ 8 ∷ 9 ∷ 10 ∷ 11 ∷ 12 ∷ 13 ∷ 14 ∷ 15 ∷ []) None true true false)
  pub device_k11_behind_descriptor : form_of (codes "device 2 c 2 3 4 000102030405060708090a0b0c0d0e0f 0000000a k11")
      ≡ Some (device_says 2 class.C 2 3 4 (0 ∷ 1 ∷ 2 ∷ 3 ∷ 4 ∷ 5 ∷ 6 ∷ 7 ∷ 8 ∷ 9 ∷ 10 ∷ 11 ∷ 12 ∷ 13 ∷ 14 ∷ 15 ∷ []) (Some 10) false true false)
  pub device_with_all : form_of (codes "device 2 c 2 3 4 000102030405060708090a0b0c0d0e0f 0000000a v1 k11")
      ≡ Some (device_says 2 class.C 2 3 4 (0 ∷ 1 ∷ 2 ∷ 3 ∷ 4 ∷ 5 ∷ 6 ∷ 7 ∷ 8 ∷ 9 ∷ 10 ∷ 11 ∷ 12 ∷ 13 ∷ 14 ∷ 15 ∷ []) (Some 10) true true false)
  pub device_flash : form_of (codes "device 2 c 2 3 4 000102030405060708090a0b0c0d0e0f flash")
      ≡ Some (device_says 2 class.C 2 3 4 (0 ∷ 1 ∷ 2 ∷ 3 ∷ 4 ∷ 5 ∷ 6 ∷ 7 ∷ 8 ∷ 9 ∷ 10 ∷ 11 ∷ 12 ∷ 13 ∷ 14 ∷ 15 ∷ []) None false false true)
  pub device_flash_behind_descriptor : form_of (codes "device 2 c 2 3 4 000102030405060708090a0b0c0d0e0f 0000000a flash")
      ≡ Some (device_says 2 class.C 2 3 4 (0 ∷ 1 ∷ 2 ∷ 3 ∷ 4 ∷ 5 ∷ 6 ∷ 7 ∷ 8 ∷ 9 ∷ 10 ∷ 11 ∷ 12 ∷ 13 ∷ 14 ∷ 15 ∷ []) (Some 10) false false true)
  pub device_k11_flash : form_of (codes "device 2 c 2 3 4 000102030405060708090a0b0c0d0e0f k11 flash")
      ≡ Some (device_says 2 class.C 2 3 4 (0 ∷ 1 ∷ 2 ∷ 3 ∷ 4 ∷ 5 ∷ 6 ∷ 7 ∷ 8 ∷ 9 ∷ 10 ∷ 11 ∷ 12 ∷ 13 ∷ 14 ∷ 15 ∷ []) None false true true)
  pub device_v1_flash : form_of (codes "device 2 c 2 3 4 000102030405060708090a0b0c0d0e0f v1 flash")
      ≡ Some (device_says 2 class.C 2 3 4 (0 ∷ 1 ∷ 2 ∷ 3 ∷ 4 ∷ 5 ∷ 6 ∷ 7 ∷ 8 ∷ 9 ∷ 10 ∷ 11 ∷ 12 ∷ 13 ∷ 14 ∷ 15 ∷ []) None true false true)
  pub device_both_flash : form_of (codes "device 2 c 2 3 4 000102030405060708090a0b0c0d0e0f 0000000a v1 flash")
      ≡ Some (device_says 2 class.C 2 3 4 (0 ∷ 1 ∷ 2 ∷ 3 ∷ 4 ∷ 5 ∷ 6 ∷ 7 ∷ 8 ∷ 9 ∷ 10 ∷ 11 ∷ 12 ∷ 13 ∷ 14 ∷ 15 ∷ []) (Some 10) true false true)
  pub device_with_flash_too : form_of (codes "device 2 c 2 3 4 000102030405060708090a0b0c0d0e0f 0000000a v1 k11 flash")
      ≡ Some (device_says 2 class.C 2 3 4 (0 ∷ 1 ∷ 2 ∷ 3 ∷ 4 ∷ 5 ∷ 6 ∷ 7 ∷ 8 ∷ 9 ∷ 10 ∷ 11 ∷ 12 ∷ 13 ∷ 14 ∷ 15 ∷ []) (Some 10) true true true)
  pub at : form_of (codes "at 4294967295999") ≡ Some (At 4294967295999)
  pub wake : form_of (codes "wake 7") ≡ Some (Wake 7)
  pub migrate : form_of (codes "migrate 7") ≡ Some (Migrate 7)
  pub power : form_of (codes "power 7") ≡ Some (Power 7)
  pub ask : form_of (codes "ask 7") ≡ Some (Ask 7)
  pub frag : form_of (codes "frag") ≡ Some Frag
  pub status : form_of (codes "status") ≡ Some Status
  pub down : form_of (codes "down 3 7") ≡ Some (Down 3 7 0)
  pub down_with_word : form_of (codes "down 3 7 12") ≡ Some (Down 3 7 12)
  pub raw : form_of (codes "raw 7 201 0801") ≡ Some (Raw 7 201 (8 ∷ 1 ∷ []) 0)
  pub raw_with_word : form_of (codes "raw 7 255 0a0B 12") ≡ Some (Raw 7 255 (10 ∷ 11 ∷ []) 12)
  pub raw_of_nothing : form_of (codes "raw 7 204 -") ≡ Some (Raw 7 204 [] 0)
  pub air : form_of (codes "air 3 7") ≡ Some (Air 3 7 0)
  pub air_with_word : form_of (codes "air 3 7 12") ≡ Some (Air 3 7 12)
  pub raw_air : form_of (codes "rawair 7 60fF") ≡ Some (RawAir 7 (0x60 ∷ 0xff ∷ []) 0)
  pub raw_air_with_word : form_of (codes "rawair 7 60 12") ≡ Some (RawAir 7 (0x60 ∷ []) 12)
  pub raw_air_of_nothing : form_of (codes "rawair 7 -") ≡ Some (RawAir 7 [] 0)
  pub up : form_of (codes "up 3") ≡ Some (Up 3)
  pub end : form_of (codes "end") ≡ Some End

pub record AreNone : Type 0 where
  pub empty : form_of [] ≡ None
  pub version : form_of (codes "fuota 2") ≡ None
  pub another : form_of (codes "stop") ≡ None
  pub capital : form_of (codes "End") ≡ None
  pub space_behind : form_of (codes "end ") ≡ None
  pub two_spaces : form_of (codes "at  5") ≡ None
  pub no_word : form_of (codes "at") ≡ None
  pub one_word_more : form_of (codes "at 5 5") ≡ None
  pub leading_zero : form_of (codes "at 05") ≡ None
  pub sign : form_of (codes "at -5") ≡ None
  pub short_key : form_of (codes "group 11223344 00 0 10") ≡ None
  pub class_b : form_of (codes "device 1 b 2 3 4 000102030405060708090a0b0c0d0e0f") ≡ None
  pub formats_first : form_of (codes "device 2 c 2 3 4 000102030405060708090a0b0c0d0e0f v1 0000000a") ≡ None
  pub other_formats : form_of (codes "device 2 c 2 3 4 000102030405060708090a0b0c0d0e0f v2") ≡ None
  pub root_before_formats : form_of (codes "device 2 c 2 3 4 000102030405060708090a0b0c0d0e0f k11 v1") ≡ None
  pub root_before_descriptor : form_of (codes "device 2 c 2 3 4 000102030405060708090a0b0c0d0e0f k11 0000000a") ≡ None
  pub root_twice : form_of (codes "device 2 c 2 3 4 000102030405060708090a0b0c0d0e0f k11 k11") ≡ None
  pub root_between : form_of (codes "device 2 c 2 3 4 000102030405060708090a0b0c0d0e0f 0000000a k11 v1") ≡ None
  pub formats_twice : form_of (codes "device 2 c 2 3 4 000102030405060708090a0b0c0d0e0f v1 v1 k11") ≡ None
  pub other_root : form_of (codes "device 2 c 2 3 4 000102030405060708090a0b0c0d0e0f k10") ≡ None
  pub capital_root : form_of (codes "device 2 c 2 3 4 000102030405060708090a0b0c0d0e0f K11") ≡ None
  pub behind_all : form_of (codes "device 2 c 2 3 4 000102030405060708090a0b0c0d0e0f 0000000a v1 k11 k11") ≡ None
  pub root_for_key : form_of (codes "device 2 c 2 3 4 k11") ≡ None
  pub flash_before_root : form_of (codes "device 2 c 2 3 4 000102030405060708090a0b0c0d0e0f flash k11") ≡ None
  pub flash_before_formats : form_of (codes "device 2 c 2 3 4 000102030405060708090a0b0c0d0e0f flash v1") ≡ None
  pub flash_before_descriptor : form_of (codes "device 2 c 2 3 4 000102030405060708090a0b0c0d0e0f flash 0000000a") ≡ None
  pub flash_twice : form_of (codes "device 2 c 2 3 4 000102030405060708090a0b0c0d0e0f flash flash") ≡ None
  pub flash_for_key : form_of (codes "device 2 c 2 3 4 flash") ≡ None
  pub power_of_none : form_of (codes "power") ≡ None
  pub window_a : form_of (codes "window a 1000 1 8695250 5") ≡ None
  pub odd_hex : form_of (codes "raw 7 201 080") ≡ None
  pub no_hex : form_of (codes "raw 7 201 08g1") ≡ None
  pub raw_without_payload : form_of (codes "raw 7 201") ≡ None
  -- only `-` spells nothing
  pub empty_hex : form_of (codes "raw 7 201 ") ≡ None
  pub empty_hex_before_word : form_of (codes "raw 7 201  12") ≡ None
  pub two_dashes : form_of (codes "raw 7 201 --") ≡ None
  -- each form has its number of words, and no more or fewer
  pub header_more : form_of (codes "fuota 1 1") ≡ None
  pub image_more : form_of (codes "image 13 4 0") ≡ None
  pub image_fewer : form_of (codes "image 13") ≡ None
  pub group_more : form_of (codes "group 11223344 00000000000000000000000000000000 0 10 1") ≡ None
  pub group_fewer : form_of (codes "group 11223344 00000000000000000000000000000000 0") ≡ None
  pub window_c_more : form_of (codes "window c 1000 1 8695250 5 6") ≡ None
  pub window_c_fewer : form_of (codes "window c 1000 1 8695250") ≡ None
  pub window_b_more : form_of (codes "window b 1000 3 1 8695250 5 6") ≡ None
  pub window_b_fewer : form_of (codes "window b 1000 1 8695250 5") ≡ None
  pub device_fewer : form_of (codes "device 1 a 2 3 4") ≡ None
  pub down_more : form_of (codes "down 3 7 12 1") ≡ None
  pub down_fewer : form_of (codes "down 3") ≡ None
  pub raw_more : form_of (codes "raw 7 201 0801 12 1") ≡ None
  pub air_more : form_of (codes "air 3 7 12 1") ≡ None
  pub air_fewer : form_of (codes "air 3") ≡ None
  pub raw_air_more : form_of (codes "rawair 7 60 12 1") ≡ None
  pub raw_air_fewer : form_of (codes "rawair 7") ≡ None
  pub up_more : form_of (codes "up 3 4") ≡ None
  pub frag_more : form_of (codes "frag 1") ≡ None
  pub status_more : form_of (codes "status 1") ≡ None
  pub end_more : form_of (codes "end 1") ≡ None
  -- a key has 32 digits, an address 8, and a number has only digits
  pub long_key : form_of (codes "group 11223344 0000000000000000000000000000000000 0 10") ≡ None
  pub long_address : form_of (codes "group 1122334455 00000000000000000000000000000000 0 10") ≡ None
  pub capital_class : form_of (codes "device 1 A 2 3 4 00000000000000000000000000000000") ≡ None
  pub no_number : form_of (codes "image x 4") ≡ None
  pub no_time : form_of (codes "at x") ≡ None
  pub no_word_number : form_of (codes "down 3 7 x") ≡ None
  pub no_raw_word : form_of (codes "raw 7 201 0801 x") ≡ None

-- lines between line feeds, and words between spaces
pub record AreCut : Type 0 where
  pub no_line : lines_of [] ≡ []
  pub one_empty : lines_of (10 ∷ []) ≡ [] ∷ []
  pub feeds : lines_of (97 ∷ 10 ∷ 10 ∷ 98 ∷ 10 ∷ []) ≡ codes "a" ∷ [] ∷ codes "b" ∷ []
  pub no_feed_at_the_end : lines_of (97 ∷ 10 ∷ 98 ∷ []) ≡ codes "a" ∷ codes "b" ∷ []
  pub another_control : lines_of (97 ∷ 13 ∷ 98 ∷ []) ≡ (97 ∷ 13 ∷ 98 ∷ []) ∷ []
  pub two_feeds : lines_of (10 ∷ 10 ∷ []) ≡ [] ∷ [] ∷ []
  pub space_alone : words_of (codes " ") ≡ [] ∷ [] ∷ []
  pub spaces : words_of (codes "a  b") ≡ codes "a" ∷ [] ∷ codes "b" ∷ []
  pub tab : words_of (97 ∷ 9 ∷ 98 ∷ []) ≡ (97 ∷ 9 ∷ 98 ∷ []) ∷ []

-- decimals and hex numbers
pub record AreNumbers : Type 0 where
  pub zero : decimal_of (codes "0") ≡ Some 0
  pub two_zeros : decimal_of (codes "00") ≡ None
  pub no_digit : decimal_of [] ≡ None
  pub letter : decimal_of (codes "a") ≡ None
  pub letter_behind : decimal_of (codes "5a") ≡ None
  pub letter_before : decimal_of (codes "a5") ≡ None
  pub digits : decimal_of (codes "907") ≡ Some 907
  pub largest : decimal_of (codes "18446744073709551615") ≡ Some (2 ^ 64 - 1)
  pub above : decimal_of (codes "18446744073709551616") ≡ Some (2 ^ 64 - 1)
  pub hex : hex_number_of (codes "1a2B3c4D") ≡ Some 0x1a2b3c4d
  pub seven_digits : hex_number_of (codes "1a2B3c4") ≡ None
  pub ten_digits : hex_number_of (codes "1a2B3c4D5e") ≡ None
