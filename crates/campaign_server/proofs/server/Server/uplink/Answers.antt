use Rattle.std.proofs.Common.{◌≡◌, Some, refl}
use Rattle.wire_base.specs.declared.refusal.Direction.TheVariants.{Up}
use Rattle.image_slots.proofs.ImageLemmas.{image_long}
use Rattle.package_grammar.specs.Reading.{reading_of}
use Rattle.package_grammar.proofs.ReadResults.{refusal_read, commands_read}
use Rattle.campaign_server.specs.Server.{ledger, last_status}
use Rattle.campaign_server.specs.Uplinks.{read_uplink, uplink_step}
use Rattle.campaign_server.proofs.Plans.{moved_by, answered_by}
use Rattle.campaign_server.proofs.server.Server.uplink.Goals as goal

pub returns-in-Err-clause-moved : goal.returns-in-Err-clause-moved
unfolding uplink_step read_uplink
returns-in-Err-clause-moved c = rw (refusal_read c.args.port Up (reading_of c.args.port Up c.args.payload.now) c.in-Err.refusal c.in-Err.ensures.reading) refl

pub returns-in-Err-clause-answer : goal.returns-in-Err-clause-answer
unfolding uplink_step read_uplink
returns-in-Err-clause-answer c = rw (refusal_read c.args.port Up (reading_of c.args.port Up c.args.payload.now) c.in-Err.refusal c.in-Err.ensures.reading) refl

pub after_all-moved-requires : goal.after_all-moved-requires
after_all-moved-requires c = rw c.file.ensures (image_long _ c.self.invariant.0.cut.image_is)

pub returns-clause-moved : goal.returns-clause-moved
unfolding uplink_step
returns-clause-moved c =
    let stands : ledger c.args.self.now c.args.dev ≡ Some c.numbered.result = rw (← c.self.view_is) (rw c.deref.ensures.value at c.numbered.ensures) in
    let tells : last_status c.args.self.now c.args.dev ≡ Some c.numbered-2.result =
    rw (← c.self.view_is) (rw c.deref-2.ensures.value at c.numbered-2.ensures) in
    rw (
      commands_read c.args.port Up (reading_of c.args.port Up c.args.payload.now) c.in-Ok.message c.in-Ok.ensures.reading,
      moved_by c.args.self.now c.args.dev c.args.t c.in-Ok.message.commands c.numbered.result c.numbered-2.result stands tells,
      ← c.self.view_is,
      c.after_all-moved.ensures.stage,
      c.after_all-moved.ensures.status,
      c.file.ensures,
    ) refl

pub returns-clause-answer : goal.returns-clause-answer
unfolding uplink_step
returns-clause-answer c =
    rw (commands_read c.args.port Up (reading_of c.args.port Up c.args.payload.now) c.in-Ok.message c.in-Ok.ensures.reading, answered_by c.args.self.now c.args.dev c.args.t c.in-Ok.message.commands, c.time_answer-answer.ensures, c.again.ensures) refl
