-- What the server sends, as it tells it.
use Rattle.std.proofs.Common.{◌≡◌, Option, Result, Ok, Err, ap}
use Rattle.std.specs.Result.{result_ok}
use Rattle.package_grammar.specs.declared.downlink.Downlink.{Downlink}
use Rattle.campaign_server.specs.Server.{DownlinkCommand}
use Rattle.campaign_server.specs.Sent.{down_of, result_of, answer_of}
use Rattle.campaign_world.specs.HeldWorld.{answered}

-- a fragment, where there is one
pub fragment_sent : {E : Type 0} (made : Result Downlink E) (next : Result DownlinkCommand E) → made ≡ result_of next
    → result_ok made ≡ down_of (result_ok next)
fragment_sent made (Ok down) is = ap result_ok is
fragment_sent made (Err e) is = ap result_ok is

-- an answer, where an uplink was taken and is answered
pub answer_sent : {E : Type 0} (heard : Result (Option Downlink) E) (answer : Result (Option DownlinkCommand) E) → heard ≡ answer_of answer
    → answered heard ≡ down_of (answered answer)
answer_sent heard (Ok down) is = ap answered is
answer_sent heard (Err e) is = ap answered is
