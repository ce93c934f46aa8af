use Rattle.std.proofs.Common.{length, ap, ◌∙◌}
use Rattle.frag_session.proofs.Standing.{room_for_padding}
use Rattle.frag_session.proofs.complete_state.Complete.view.Goals as goal

pub overflow_sub-block : goal.overflow_sub-block
overflow_sub-block g c = room_for_padding _ _ _ _ c.self.invariant.its.some c.self.invariant.its.short (ap length c.block-block.ensures.content ∙ c.self.invariant.sized)
