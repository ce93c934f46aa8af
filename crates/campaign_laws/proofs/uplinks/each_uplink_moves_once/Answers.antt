use Rattle.campaign_laws.proofs.OnceHeld.{single_at, moves_once_in}
use Rattle.campaign_laws.proofs.uplinks.each_uplink_moves_once.Goals as goal

pub returns : goal.returns
returns c = moves_once_in c.args.world.now c.args.number
    (λ made there. single_at c.uplink-uplink.result _ made c.uplink-uplink.ensures.found c.uplink-uplink.ensures.single there)
