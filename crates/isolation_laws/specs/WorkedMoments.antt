-- A script of two campaigns, and what it becomes with the events of the one, and of the other, at their moments.
use Rattle.std.specs.Prelude.{◌≡◌, ℕ, List, ◌++◌, codes}
use Rattle.script_lines.specs.declared.forms.Campaign.{Campaign}
use Rattle.script_lines.specs.declared.forms.Campaign.TheVariants.{A, B}
use Rattle.script_lines.specs.Lines.{lines_of}
use Rattle.image_slots.specs.WorkedImages.{worked_image}
use Rattle.pair_run.specs.Pair.{first_pair}
use Rattle.isolation_laws.specs.AtMoments.{with_moments}

-- device 1 is of a, and device 2 of b
abbrev pub planned : List ℕ
planned =
    codes "fuota 2\nimage a 13 0 0\nimage b 13 0 1\ndevice 1 a c 1 0 0 00000000000000000000000000000000\n"
    ++ codes "device 2 b c 1 0 0 00000000000000000000000000000000\n"

-- with these events, where those of a campaign are at their moments
abbrev pub at_moments : (y : Campaign) → (events : List ℕ) → List (List ℕ)
at_moments y events = with_moments y (first_pair worked_image worked_image) (lines_of (planned ++ events))

abbrev pub with_events : List ℕ → List (List ℕ)
with_events events = lines_of (planned ++ events)

abbrev pub worked_events : List ℕ
worked_events =
    codes "ask 1\nat 5\nask 2\nfrag a\nfrag b\nstatus b\nwake 1\nat 7\nwake 2\npower 2\nmigrate 2\n"
    ++ codes "down a1 1\ndown b1 2\ndown a2 2\ndown b2 1\nair b2 1\nend\n"

pub record AreAtTheirMoments : Type 0 where
  pub of_b : at_moments B worked_events
      ≡ with_events (codes "ask 1\nat 5\nat 5\nfrag a\nat 5\nat 5\nwake 1\nat 7\nat 7\nat 7\nat 7\n" ++ codes "down a1 1\nat 7\nat 7\nat 7\nat 7\nend\n")
  pub of_a : at_moments A worked_events
      ≡ with_events (codes "at 0\nat 5\nask 2\nat 5\nfrag b\nstatus b\nat 5\nat 7\nwake 2\npower 2\nmigrate 2\n" ++ codes "at 7\ndown b1 2\nat 7\nat 7\nat 7\nend\n")
