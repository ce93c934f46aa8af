use Rattle.std.proofs.Common.{subst, length}
use Rattle.frag_encoder.specs.Encoding.{IsBadSize}
use Rattle.image_slots.proofs.ImageLemmas.{image_some}
use Rattle.campaign_server.specs.Plan.{Plan}
use Rattle.campaign_server.proofs.Plans.{cuts_well}
use Rattle.campaign_server.proofs.starting.cut.Goals as goal

pub unreachable-requires : goal.unreachable-requires
unreachable-requires c =
    let len = length c.args.image.now in
    let bad = c.new.ensures.bad_size.0 (rw c.in-Err-BadSize.field-0-is at c.in-Err-BadSize.is) in
    cuts_well len c.args.plan.now c.requires.fine (image_some _ c.requires.image) (subst (λ (p : Plan). IsBadSize len p.frag_size) c.plan.view_is bad)
