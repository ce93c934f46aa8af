-- A pair that hears a script's lines, each cut, is after the script.
use Rattle.std.proofs.Common.{◌≡◌, ℕ, ◌+◌, List, Option, None, Ok, refl, ap}
use Rattle.script_lines.specs.Lines.{lines_of}
use Rattle.script_lines.specs.Hearing.{HearsLines}
use Rattle.report_lines.specs.declared.faults.LineWhy.{LineWhy}
use Rattle.campaign_world.proofs.Heard.{Listener, IsListener, all_heard}
use Rattle.pair_run.specs.Pair.{PairState, first_pair}
use Rattle.pair_run.specs.PairCauses.{pair_cause_of}
use Rattle.pair_run.specs.PairScript.{after_pair_line, pair_line_result, read_pair_line, read_pair_lines}
use Rattle.pair_run.specs.HeldPair.{HeldPair, PairStands}
use Rattle.pair_run.specs.HeardPair.{PairIsIf, HearsPairLine}
use Rattle.pair_run.proofs.Accepts.{long_line}

abbrev pub pairs : Listener HeldPair PairState
pairs = record {
  kept = λ held. held.kept;
  stands = λ held pair. PairStands held pair;
  cause = λ pair line. pair_cause_of pair line;
  number = λ pair. pair.a.lines + 1;
  behind = λ pair line. after_pair_line pair line;
  read = λ so_far lines. read_pair_lines so_far lines;
}

pub pairs_listen : IsListener HeldPair PairState pairs
unfolding read_pair_lines read_pair_line
pairs_listen = record {
  none = λ pair. refl;
  stops = λ fault lines. refl;
  taken = λ pair line lines fine. ap (λ (c : Option LineWhy). read_pair_lines (pair_line_result pair line c) lines) fine;
  refused = λ pair line lines why no. ap (λ (c : Option LineWhy). read_pair_lines (pair_line_result pair line c) lines) no;
  long = long_line;
}

-- the pair that heard a script's lines is after the script
pub script_heard : (bytes image_a image_b : List ℕ) (old new : HeldPair) → HearsLines HearsPairLine old new bytes
    → PairStands old (first_pair image_a image_b) → old.kept ≡ None
    → PairIsIf new (read_pair_lines (Ok (first_pair image_a image_b)) (lines_of bytes))
script_heard bytes image_a image_b old new heard first none = all_heard pairs pairs_listen bytes (first_pair image_a image_b) old new heard first none
