-- The worked script of two campaigns is so at its moments.
use Rattle.std.specs.Fmt.{digits}
use Rattle.hex.specs.Hex.{decode_pairs}
use Rattle.script_lines.specs.Lines.{lines_of, words_of, word}
use Rattle.script_lines.specs.Numbers.{decimal_of, key_of, hex_number_of}
use Rattle.script_lines.specs.PairForms.{pair_form_of}
use Rattle.campaign_server.specs.Asking.{request_at, request_of}
use Rattle.campaign_server.specs.Fragments.{next_fragment, after_fragment, status_to_all, after_status_to_all}
use Rattle.campaign_world.specs.Making.{with_device, after_form}
use Rattle.pair_run.specs.Targets.{target_of}
use Rattle.pair_run.specs.PairMaking.{after_target}
use Rattle.pair_run.specs.PairScript.{after_pair_line}
use Rattle.isolation_laws.specs.WorkedMoments.{AreAtTheirMoments}

pub worked : AreAtTheirMoments
unfolding digits decode_pairs lines_of words_of word decimal_of key_of hex_number_of pair_form_of request_at request_of next_fragment after_fragment status_to_all after_status_to_all with_device after_form target_of after_target after_pair_line
worked = search
