-- Two campaigns worked out: their reports, and the first refused lines of scripts.
use Rattle.std.specs.Prelude.{◌≡◌, ℕ, List, [], ◌∷◌, ◌++◌, replicate, codes, Some, None, Result, Ok, Err}
use Rattle.image_slots.specs.WorkedImages.{worked_image, ranged_image}
use Rattle.package_grammar.specs.declared.downlink.To.TheVariants.{Unicast}
use Rattle.package_grammar.specs.declared.downlink.Downlink.{Downlink}
use Rattle.script_lines.specs.declared.forms.Campaign.TheVariants as campaign
use Rattle.script_lines.specs.declared.forms.Form.TheVariants as form
use Rattle.script_lines.specs.Lines.{lines_of}
use Rattle.report_lines.specs.declared.faults.LineFault.{LineFault}
use Rattle.report_lines.specs.declared.faults.LineWhy.{LineWhy}
use Rattle.report_lines.specs.declared.faults.LineWhy.TheVariants as why
use Rattle.campaign_world.specs.Said.{Reached}
use Rattle.pair_run.specs.declared.owners.Owner.{Owner}
use Rattle.pair_run.specs.declared.targets.Way.TheVariants as way
use Rattle.pair_run.specs.Pair.{PairState, first_pair}
use Rattle.pair_run.specs.Targets.{One, Across, Nobody, common_target, named_target}
use Rattle.pair_run.specs.PairMaking.{reached_by}
use Rattle.pair_run.specs.PairCauses.{first_of, pair_cause_of}
use Rattle.pair_run.specs.PairScript.{read_pair_lines, campaigns_in}
use Rattle.pair_run.specs.PairReport.{pair_report_of}

abbrev pub report_or_fault : Result PairState LineFault → Result (List ℕ) LineFault
report_or_fault (Ok pair) = Ok (pair_report_of pair)
report_or_fault (Err fault) = Err fault

-- what is said of a script, over an image for hardware 1 and one for hardware 1 to 3
abbrev pub told : (script : List ℕ) → Result (List ℕ) LineFault
told script = report_or_fault (campaigns_in worked_image ranged_image script)

-- the same of the lines so far, whether or not they end
abbrev pub told_so_far : (script : List ℕ) → Result (List ℕ) LineFault
told_so_far script = report_or_fault (read_pair_lines (Ok (first_pair worked_image ranged_image)) (lines_of script))

abbrev pub reported : List ℕ → Result (List ℕ) LineFault
reported text = Ok text

abbrev pub refused : (line : ℕ) → LineWhy → Result (List ℕ) LineFault
refused line cause = Err (record { line = line; why = cause })

-- the plans of both and a device of each, and what follows
abbrev pub two_devices : List ℕ → List ℕ
two_devices events = codes
    "fuota 2\nimage a 13 0 0\nimage b 26 4 1\ndevice 1 a c 1 0 5 00000000000000000000000000000000\ndevice 2 b c 3 0 0 00000000000000000000000000000000\n"
    ++ events

-- the plans of both, each with a group, as far as the group of b
abbrev pub two_groups : List ℕ → List ℕ
two_groups rest = codes
    "fuota 2\nimage a 13 0 0\ngroup a 1 11223344 00000000000000000000000000000000 0 10\nwindow a c 1000 0 8695250 0\nimage b 26 0 1\n"
    ++ rest

-- two campaigns in which nothing happened, after so many lines of the one and of the other
abbrev pub lines_of_both : (a b : ℕ) → PairState
lines_of_both a b =
    let pair = first_pair worked_image ranged_image in
    record pair { a = record pair.a { lines = a }; b = record pair.b { lines = b } }

pub record ArePairsReported : Type 0 where
  -- without a device
  pub nobody : told_so_far (codes "fuota 2\nimage a 13 0 0\nimage b 26 4 1\n") ≡ reported (codes
      "fuota report 2\nimage a 52 fragments 4 size 13 padding 0 parity 0 index 0\nimage b 56 fragments 3 size 26 padding 22 parity 4 index 1\nend\n")
  -- with a device of each, and then with their IDs the other way round
  pub one_each : told (two_devices (codes "end\n")) ≡ reported (codes
      "fuota report 2\nimage a 52 fragments 4 size 13 padding 0 parity 0 index 0\nimage b 56 fragments 3 size 26 padding 22 parity 4 index 1\ndevice 1 a version clock 5 token 0 running 0 next none\ncounts deaf 0 refused 0 full 0 dropped 0\ndevice 2 b version clock 0 token 0 running 0 next none\ncounts deaf 0 refused 0 full 0 dropped 0\nend\n")
  pub turned : told (codes
      "fuota 2\nimage a 13 0 0\nimage b 26 4 1\ndevice 1 b c 3 0 5 00000000000000000000000000000000\ndevice 2 a c 1 0 0 00000000000000000000000000000000\nwake 1\nup b1\nask 2\ndown a1 2\nup a1\nend\n")
      ≡ reported (codes
      "fuota report 2\nimage a 52 fragments 4 size 13 padding 0 parity 0 index 0\nimage b 56 fragments 3 size 26 padding 22 parity 4 index 1\ndevice 1 b version clock 5 token 0 running 0 next none\ncounts deaf 0 refused 0 full 0 dropped 0\ndevice 2 a fragments clock 0 token 0 running 0 next none\ncounts deaf 0 refused 0 full 0 dropped 0\nend\n")
  -- a fragment of either reaches a device of the other, which has no such session; and the time is that of both
  pub crossed : told (two_devices (codes "frag a\nfrag b\ndown a1 2\ndown b1 1\ndown b1 1\nend\n")) ≡ reported (codes
      "fuota report 2\nimage a 52 fragments 4 size 13 padding 0 parity 0 index 0\nimage b 56 fragments 3 size 26 padding 22 parity 4 index 1\ndevice 1 a version clock 5 token 0 running 0 next none\ncounts deaf 0 refused 0 full 0 dropped 2\ndevice 2 b version clock 0 token 0 running 0 next none\ncounts deaf 0 refused 0 full 0 dropped 1\nend\n")
  pub one_time : told (two_devices (codes "at 10000\nwake 2\nup b1\nwake 1\nup a1\ndown a1 1\nend\n")) ≡ reported (codes
      "fuota report 2\nimage a 52 fragments 4 size 13 padding 0 parity 0 index 0\nimage b 56 fragments 3 size 26 padding 22 parity 4 index 1\ndevice 1 a version clock 0 token 1 running 0 next none\ncounts deaf 0 refused 0 full 0 dropped 0\ndevice 2 b version clock 0 token 0 running 0 next none\ncounts deaf 0 refused 0 full 0 dropped 0\nend\n")

pub record ArePairsSessions : Type 0 where
  -- each device has a session at its campaign's index
  pub each : told (two_devices (codes
      "ask 1\ndown a1 1\nup a1\nask 1\ndown a2 1\nask 2\ndown b1 2\nup b1\nask 2\ndown b2 2\nend\n"))
      ≡ reported (codes
      "fuota report 2\nimage a 52 fragments 4 size 13 padding 0 parity 0 index 0\nimage b 56 fragments 3 size 26 padding 22 parity 4 index 1\ndevice 1 a fragments clock 5 token 0 running 0 next none\ncounts deaf 0 refused 0 full 0 dropped 0\nsession 0 received 0 missing 4 receiving\ndevice 2 b fragments clock 0 token 0 running 0 next none\ncounts deaf 0 refused 0 full 0 dropped 0\nsession 1 received 0 missing 3 receiving\nend\n")

pub record ArePairsRefused : Type 0 where
  -- ---- form
  pub no_end : told (two_devices []) ≡ refused 6 why.Syntax
  pub one_campaign : told (codes "fuota 1\n") ≡ refused 1 why.Syntax
  pub no_letter : told (two_devices (codes "frag\n")) ≡ refused 6 why.Syntax
  pub strangers : told (two_devices (codes "raw 1 201 00\n")) ≡ refused 6 why.Syntax
  -- ---- order
  pub b_before_a : told (codes "fuota 2\nimage b 26 0 1\n") ≡ refused 2 why.Order
  pub a_behind_b : told (codes "fuota 2\nimage a 13 0 0\nimage b 26 0 1\ngroup a 0 11223344 00000000000000000000000000000000 0 10\n")
      ≡ refused 4 why.Order
  pub no_plan_of_b : told (codes "fuota 2\nimage a 13 0 0\ndevice 1 a c 1 0 0 00000000000000000000000000000000\n") ≡ refused 3 why.Order
  pub no_device_of_b : told (codes
      "fuota 2\nimage a 13 0 0\nimage b 26 0 1\ndevice 1 a c 1 0 0 00000000000000000000000000000000\nask 1\n") ≡ refused 5 why.Order
  pub no_device_of_a : told (codes
      "fuota 2\nimage a 13 0 0\nimage b 26 0 1\ndevice 1 b c 1 0 0 00000000000000000000000000000000\nend\n") ≡ refused 5 why.Order
  pub device_behind_an_event : told (two_devices (codes "at 1\ndevice 3 a c 1 0 0 00000000000000000000000000000000\n")) ≡ refused 7 why.Order
  pub behind_the_end : told (two_devices (codes "end\nat 1\n")) ≡ refused 7 why.Order
  pub b_before_a_window : told (codes "fuota 2\nimage a 13 0 0\ngroup a 1 11223344 00000000000000000000000000000000 0 10\nimage b 26 0 1\n")
      ≡ refused 4 why.Order
  pub no_window_of_b : told (two_groups (codes "group b 2 55667788 00000000000000000000000000000000 0 10\ndevice 1 a c 1 0 0 00000000000000000000000000000000\n"))
      ≡ refused 7 why.Order
  -- ---- range
  pub order_before_range : told (codes "fuota 2\nimage b 240 0 4\n") ≡ refused 2 why.Order
  pub index : told (codes "fuota 2\nimage a 13 0 4\n") ≡ refused 2 why.Range
  pub same_index : told (codes "fuota 2\nimage a 52 0 0\nimage b 56 0 0\n") ≡ refused 3 why.Range
  pub next_id : told (codes "fuota 2\nimage a 13 0 0\nimage b 26 0 1\ndevice 1 a c 1 0 0 00000000000000000000000000000000\ndevice 1 b c 1 0 0 00000000000000000000000000000000\n")
      ≡ refused 5 why.Range
  pub same_group : told (two_groups (codes "group b 1 55667788 00000000000000000000000000000000 0 10\n")) ≡ refused 6 why.Range
  pub same_address : told (two_groups (codes "group b 2 11223344 00000000000000000000000000000000 0 10\n")) ≡ refused 6 why.Range
  pub other_group : told (two_groups (codes "group b 2 55667788 00000000000000000000000000000000 0 10\n")) ≡ refused 7 why.Syntax
  pub group_of_b_alone : told (codes "fuota 2\nimage a 13 0 0\nimage b 26 0 1\ngroup b 1 11223344 00000000000000000000000000000000 0 10\n")
      ≡ refused 5 why.Syntax
  -- ---- device
  pub range_before_device : told (two_devices (codes "down a1 3 4294967296\n")) ≡ refused 6 why.Range
  pub device : told (two_devices (codes "wake 3\n")) ≡ refused 6 why.Device
  pub device_of_no_payload : told (two_devices (codes "down a1 3\n")) ≡ refused 6 why.Device
  -- the flash of both is counted
  pub fifth_flash : told (codes
      "fuota 2\nimage a 13 0 0\nimage b 26 0 1\ndevice 1 a c 1 0 0 00000000000000000000000000000000 flash\ndevice 2 b c 1 0 0 00000000000000000000000000000000 flash\ndevice 3 a c 1 0 0 00000000000000000000000000000000 flash\ndevice 4 b c 1 0 0 00000000000000000000000000000000 flash\ndevice 5 b c 1 0 0 00000000000000000000000000000000 flash\n")
      ≡ refused 8 why.Limit
  -- ---- what one campaign refuses
  pub payload : told (two_devices (codes "down b1 2\n")) ≡ refused 6 why.Unsent
  -- each counts its own payloads and uplinks
  pub of_the_other : told (two_devices (codes "ask 1\ndown b1 2\n")) ≡ refused 7 why.Unsent
  pub uplink_of_the_other : told (two_devices (codes "wake 1\nup b1\n")) ≡ refused 7 why.Unsent
  -- what was sent to one device goes across nowhere, and nothing goes across as a frame without a group
  pub sent_to_one : told (two_devices (codes "ask 1\ndown a1 2\n")) ≡ refused 7 why.Unsent
  pub no_frame : told (two_devices (codes "frag a\nair a1 2\n")) ≡ refused 7 why.Unsent
  pub time : told (two_devices (codes "at 5\nat 4\n")) ≡ refused 7 why.Time
  -- of what both refuse the cause of a, and of what one refuses its cause
  pub of_both : first_of (Some why.Time) (Some why.Order) ≡ Some why.Time
  pub of_both_turned : first_of (Some why.Order) (Some why.Time) ≡ Some why.Order
  pub of_a : first_of (Some why.Time) None ≡ Some why.Time
  pub of_b : first_of None (Some why.Time) ≡ Some why.Time
  pub of_none : first_of None None ≡ None
  -- each has its own fragments, of a four and of b seven
  pub fragments_of_a : told (two_devices (codes "frag a\nfrag b\nfrag a\nfrag a\nfrag a\nfrag a\n")) ≡ refused 11 why.Limit
  -- ---- the limits of a line, by either count
  pub long_line : pair_cause_of (first_pair worked_image ranged_image) (replicate 601 48) ≡ Some why.Limit
  pub longest_line : pair_cause_of (first_pair worked_image ranged_image) (replicate 600 48) ≡ Some why.Syntax
  pub last_line : pair_cause_of (lines_of_both 19999 19999) (codes "fuota 2") ≡ None
  pub many_lines : pair_cause_of (lines_of_both 20000 19999) (codes "fuota 2") ≡ Some why.Limit
  pub many_lines_of_b : pair_cause_of (lines_of_both 19999 20000) (codes "fuota 2") ≡ Some why.Limit

-- ---- to which campaign a line goes, and what it says there

-- device 1 is of campaign a, and device 2 the first of b
abbrev pub worked_owners : List Owner
worked_owners = record { campaign = campaign.A; number = 1 } ∷ record { campaign = campaign.B; number = 1 } ∷ []

abbrev pub worked_down : Downlink
worked_down = record { to = Unicast; port = 201; payload = 0x00 ∷ [] }

pub record AreTargets : Type 0 where
  pub wake : common_target worked_owners (form.Wake 2) ≡ One campaign.B (form.Wake 1)
  pub migrate : common_target worked_owners (form.Migrate 2) ≡ One campaign.B (form.Migrate 1)
  pub power : common_target worked_owners (form.Power 2) ≡ One campaign.B (form.Power 1)
  pub ask : common_target worked_owners (form.Ask 1) ≡ One campaign.A (form.Ask 1)
  pub nobody : common_target worked_owners (form.Ask 3) ≡ Nobody
  -- payload 5 of a campaign, with the random word 109, at a device of it, and of the other one
  pub down : named_target worked_owners 2 campaign.B (form.Down 5 2 109) ≡ One campaign.B (form.Down 5 1 109)
  pub air : named_target worked_owners 2 campaign.B (form.Air 5 2 109) ≡ One campaign.B (form.Air 5 1 109)
  pub down_across : named_target worked_owners 2 campaign.A (form.Down 5 2 109) ≡ Across campaign.A way.Downlink 5 1 109
  pub air_across : named_target worked_owners 2 campaign.A (form.Air 5 2 109) ≡ Across campaign.A way.Air 5 1 109
  pub reached : reached_by 1 109 (Some (record { receiver = None; down = worked_down })) ≡ Reached 1 109 worked_down
