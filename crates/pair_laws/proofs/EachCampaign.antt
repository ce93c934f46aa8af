-- The laws of one campaign hold of each of two, over what the lines say to it.
use Rattle.std.proofs.Common.{ℕ, List}
use Rattle.frag_session.specs.Session.{Session}
use Rattle.device_core.specs.Device.{DeviceState}
use Rattle.script_lines.specs.declared.forms.Campaign.{Campaign}
use Rattle.campaign_laws.specs.Verdicts.{IsSessionOf as IsSession}
use Rattle.campaign_laws.proofs.Verdicts.{verdicts as of_one}
use Rattle.campaign_laws.proofs.Independence.{devices_are_independent}
use Rattle.pair_run.specs.Pair.{PairState, side}
use Rattle.pair_run.specs.PairLines.{image_of}
use Rattle.pair_run.proofs.ReadAlone.{reads_alone}
use Rattle.pair_laws.specs.EachCampaign.{own_lines, IsSessionOf, EachHasItsVerdicts, EachHasItsDevices}

of_campaign : (x : Campaign) (image_a image_b : List ℕ) (lines : List (List ℕ)) (pair : PairState) (id : ℕ) (device : DeviceState) (index : ℕ) (s : Session)
    → IsSessionOf x image_a image_b lines pair id device index s
    → IsSession (image_of x image_a image_b) (own_lines x image_a image_b lines) (side pair x) id device index s
of_campaign x image_a image_b lines pair id device index s is = record {
  accepted = reads_alone x image_a image_b lines pair is.accepted;
  device_is = is.device_is;
  index_is = is.index_is;
  session_is = is.session_is;
}

pub verdicts : EachHasItsVerdicts
verdicts = record {
  heard = λ x image_a image_b lines pair id device index s is.
      of_one.heard (image_of x image_a image_b) (own_lines x image_a image_b lines) (side pair x) id device index s
      (of_campaign x image_a image_b lines pair id device index s is);
  decided = λ x image_a image_b lines pair id device index s is.
      of_one.decided (image_of x image_a image_b) (own_lines x image_a image_b lines) (side pair x) id device index s
      (of_campaign x image_a image_b lines pair id device index s is);
}

pub devices : EachHasItsDevices
devices x image_a image_b lines pair id is =
    devices_are_independent (image_of x image_a image_b) (own_lines x image_a image_b lines) (side pair x) id
    (reads_alone x image_a image_b lines pair is)
