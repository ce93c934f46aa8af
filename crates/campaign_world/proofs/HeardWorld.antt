-- A world that hears a script's lines, each cut, is after the script.
use Rattle.std.proofs.Common.{◌≡◌, ℕ, ◌+◌, List, map, Option, None, Ok, refl, ap}
use Rattle.script_lines.specs.Hearing.{HearsLines}
use Rattle.report_lines.specs.declared.faults.LineWhy.{LineWhy}
use Rattle.campaign_world.specs.World.{WorldState, first_world}
use Rattle.campaign_world.specs.Said.{line_of, said_in}
use Rattle.campaign_world.specs.Causes.{cause_of}
use Rattle.campaign_world.specs.Script.{after_line, line_result, read_line, read_lines}
use Rattle.campaign_world.specs.HeldWorld.{HeldWorld, WorldStands}
use Rattle.campaign_world.specs.HeardWorld.{WorldIsIf, HearsScriptLine}
use Rattle.campaign_world.proofs.FormCauses.{long_line}
use Rattle.campaign_world.proofs.Heard.{Listener, IsListener, all_heard}

abbrev pub worlds : Listener HeldWorld WorldState
worlds = record {
  kept = λ held. held.kept;
  stands = λ held world. WorldStands held world;
  cause = λ world line. cause_of world (line_of line);
  number = λ world. world.lines + 1;
  behind = λ world line. after_line world (line_of line);
  read = λ so_far lines. read_lines so_far (map line_of lines);
}

pub worlds_listen : IsListener HeldWorld WorldState worlds
unfolding read_lines read_line
worlds_listen = record {
  none = λ world. refl;
  stops = λ fault lines. refl;
  taken = λ world line lines fine. ap (λ (c : Option LineWhy). read_lines (line_result world (line_of line) c) (map line_of lines)) fine;
  refused = λ world line lines why no. ap (λ (c : Option LineWhy). read_lines (line_result world (line_of line) c) (map line_of lines)) no;
  long = long_line;
}

-- the world that heard a script's lines is after the script
pub script_heard : (bytes image : List ℕ) (old new : HeldWorld) → HearsLines HearsScriptLine old new bytes → WorldStands old (first_world image) → old.kept ≡ None
    → WorldIsIf new (read_lines (Ok (first_world image)) (said_in bytes))
script_heard bytes image old new heard first none = all_heard worlds worlds_listen bytes (first_world image) old new heard first none
