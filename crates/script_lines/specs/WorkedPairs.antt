-- Lines of two campaigns' script, each with the campaign that it names and the form that it spells, or with none.
use Rattle.std.specs.Prelude.{◌≡◌, ℕ, true, false, List, replicate, codes, Option, Some, None}
use Rattle.script_lines.specs.declared.forms.Class.TheVariants as class
use Rattle.script_lines.specs.declared.forms.Campaign.{Campaign}
use Rattle.script_lines.specs.declared.forms.Campaign.TheVariants.{A, B}
use Rattle.script_lines.specs.declared.forms.Form.{Form}
use Rattle.script_lines.specs.declared.forms.Form.TheVariants.{Header, Image, Group, WindowC, WindowB, At, Wake, Migrate, Power, Ask, Frag, Status, Down, Air, Up, End}
use Rattle.script_lines.specs.declared.forms.PairForm.{PairForm}
use Rattle.script_lines.specs.WorkedLines.{device_says}
use Rattle.script_lines.specs.PairForms.{pair_form_of}

abbrev pub spells : List ℕ → Option PairForm
spells line = pair_form_of line

abbrev pub by : Option Campaign → Form → Option PairForm
by campaign form = Some (record { campaign = campaign; form = form })

pub record ArePairForms : Type 0 where
  pub header : spells (codes "fuota 2") ≡ by None Header
  pub image : spells (codes "image a 13 4 3") ≡ by (Some A) (Image 13 4 3)
  pub group : spells (codes "group b 2 1122334a 00000000000000000000000000000000 0 10")
      ≡ by (Some B) (Group 2 0x1122334a (replicate 16 0) 0 10)
  pub window_c : spells (codes "window a c 1000 1 8695250 5") ≡ by (Some A) (WindowC 1000 1 8695250 5)
  pub window_b : spells (codes "window b b 1000 3 1 8695250 5") ≡ by (Some B) (WindowB 1000 3 1 8695250 5)
  pub device : spells (codes "device 1 b a 2 3 4 00000000000000000000000000000000")
      ≡ by (Some B) (device_says 1 class.A 2 3 4 (replicate 16 0) None false false false)
  pub device_with_all : spells (codes "device 2 a c 2 3 4 00000000000000000000000000000000 0000000a v1 k11")
      ≡ by (Some A) (device_says 2 class.C 2 3 4 (replicate 16 0) (Some 10) true true false)
  pub device_with_flash : spells (codes "device 2 a c 2 3 4 00000000000000000000000000000000 v1 k11 flash")
      ≡ by (Some A) (device_says 2 class.C 2 3 4 (replicate 16 0) None true true true)
  pub at : spells (codes "at 5") ≡ by None (At 5)
  pub wake : spells (codes "wake 7") ≡ by None (Wake 7)
  pub migrate : spells (codes "migrate 7") ≡ by None (Migrate 7)
  pub power : spells (codes "power 7") ≡ by None (Power 7)
  pub ask : spells (codes "ask 7") ≡ by None (Ask 7)
  pub frag : spells (codes "frag b") ≡ by (Some B) Frag
  pub status : spells (codes "status a") ≡ by (Some A) Status
  pub down : spells (codes "down a3 7") ≡ by (Some A) (Down 3 7 0)
  pub down_with_word : spells (codes "down b3 7 12") ≡ by (Some B) (Down 3 7 12)
  pub air : spells (codes "air b3 7") ≡ by (Some B) (Air 3 7 0)
  pub air_with_word : spells (codes "air a3 7 12") ≡ by (Some A) (Air 3 7 12)
  pub up : spells (codes "up b12") ≡ by (Some B) (Up 12)
  pub end : spells (codes "end") ≡ by None End

pub record AreNoPairForms : Type 0 where
  pub version : spells (codes "fuota 1") ≡ None
  pub no_letter : spells (codes "image 13 4 3") ≡ None
  pub another_letter : spells (codes "image c 13 4 3") ≡ None
  pub no_index : spells (codes "image a 13 4") ≡ None
  pub frag_of_none : spells (codes "frag") ≡ None
  pub no_payload : spells (codes "down 3 7") ≡ None
  pub letter_alone : spells (codes "down a 7") ≡ None
  pub leading_zero : spells (codes "down a01 7") ≡ None
  pub capital : spells (codes "down A3 7") ≡ None
  pub letter_apart : spells (codes "up a 3") ≡ None
  pub letter_behind_class : spells (codes "device 1 c a 2 3 4 00000000000000000000000000000000") ≡ None
  pub power_of_campaign : spells (codes "power a 7") ≡ None
  pub raw : spells (codes "raw 7 201 0801") ≡ None
  pub raw_air : spells (codes "rawair 7 60") ≡ None
  -- each form has its number of words, its campaign's letter counted, and no more or fewer
  pub header_more : spells (codes "fuota 2 1") ≡ None
  pub image_more : spells (codes "image a 13 4 3 1") ≡ None
  pub group_more : spells (codes "group b 2 1122334a 00000000000000000000000000000000 0 10 1") ≡ None
  pub group_fewer : spells (codes "group b 1122334a 00000000000000000000000000000000 0 10") ≡ None
  pub window_c_more : spells (codes "window a c 1000 1 8695250 5 6") ≡ None
  pub window_of_none : spells (codes "window c 1000 1 8695250 5") ≡ None
  pub window_b_more : spells (codes "window b b 1000 3 1 8695250 5 6") ≡ None
  pub device_of_none : spells (codes "device 1 a 2 3 4 00000000000000000000000000000000") ≡ None
  pub device_more : spells (codes "device 2 a c 2 3 4 00000000000000000000000000000000 0000000a v1 k11 k11") ≡ None
  pub frag_more : spells (codes "frag b b") ≡ None
  pub status_more : spells (codes "status a a") ≡ None
  pub status_of_none : spells (codes "status") ≡ None
  pub down_more : spells (codes "down a3 7 12 1") ≡ None
  pub down_fewer : spells (codes "down a3") ≡ None
  pub air_more : spells (codes "air a3 7 12 1") ≡ None
  pub up_more : spells (codes "up b12 1") ≡ None
  pub at_more : spells (codes "at 5 5") ≡ None
  pub end_of_campaign : spells (codes "end a") ≡ None
  -- a payload or an uplink has the letter of a campaign, a or b, before its digits
  pub third_payload : spells (codes "down c3 7") ≡ None
  pub third_air : spells (codes "air c3 7") ≡ None
  pub air_of_none : spells (codes "air 3 7") ≡ None
  pub up_of_none : spells (codes "up 12") ≡ None
  pub third_up : spells (codes "up c12") ≡ None
  pub capital_up : spells (codes "up B12") ≡ None
  pub letter_behind : spells (codes "up 12b") ≡ None
