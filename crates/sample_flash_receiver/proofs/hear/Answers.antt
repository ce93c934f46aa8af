use Rattle.std.proofs.Common.{length, Ok, Err, refl}
use Rattle.row_elimination.specs.Room.{Extent}
use Rattle.flash_session.specs.HeldCalls.{OldOrNew}
use Rattle.frag_session.specs.Session.{after_fragment}
use Rattle.frag_session.specs.declared.answers.Via.TheVariants.{Unicast}
use Rattle.sample_flash_receiver.specs.HeldReceiver.{ReceiverServes}
use Rattle.sample_flash_receiver.proofs.Heard.{as_spelled, is_fragment}
use Rattle.sample_flash_receiver.proofs.Serves.{ok_serves, failed_serves, ok_stays, failed_stays}
use Rattle.sample_flash_receiver.proofs.hear.Goals as goal

pub returns-in_default-clause-serves : goal.returns-in_default-clause-serves
returns-in_default-clause-serves g c = λ n piece is. absurd (c.in_default.ensures.spelled 0 n (length c.args.payload.now) piece is)

pub returns-in-Ok-clause-other : goal.returns-in-Ok-clause-other
returns-in-Ok-clause-other g c = λ no. absurd (no c.in-Some.fragment.n c.in-Some.fragment.bytes.now
    (is_fragment c.in-Some.fragment.index c.in-Some.fragment.n c.in-Some.fragment.bytes.now c.args.payload.now c.in-Some.ensures.spelled c.if-fragment-ne0.false))

pub returns-in-Err-clause-other : goal.returns-in-Err-clause-other
returns-in-Err-clause-other g c = λ no. absurd (no c.in-Some.fragment.n c.in-Some.fragment.bytes.now
    (is_fragment c.in-Some.fragment.index c.in-Some.fragment.n c.in-Some.fragment.bytes.now c.args.payload.now c.in-Some.ensures.spelled c.if-fragment-ne0.false))

pub returns-in-Ok-clause-serves : goal.returns-in-Ok-clause-serves
returns-in-Ok-clause-serves g c = λ n piece is.
    as_spelled (λ m q. ReceiverServes {E = Extent} (λ r. r) c.args.receiver (λ s. after_fragment s Unicast m q c.args.mark) (OldOrNew c.args.receiver) (g.F.Flash.seen c.args.part.now) (g.F.Flash.seen c.hear.new.flash) (Ok c.in-Ok.receiver))
    c.in-Some.fragment.index c.in-Some.fragment.n n c.in-Some.fragment.bytes.now piece c.args.payload.now c.in-Some.ensures.spelled is
    (ok_serves c.args.receiver {of = λ r. r} {x = c.in-Ok._heard} c.in-Ok.receiver refl c.in-Ok.ensures.serves)

pub returns-in-Err-clause-serves : goal.returns-in-Err-clause-serves
returns-in-Err-clause-serves g c = λ n piece is.
    as_spelled (λ m q. ReceiverServes {E = Extent} (λ r. r) c.args.receiver (λ s. after_fragment s Unicast m q c.args.mark) (OldOrNew c.args.receiver) (g.F.Flash.seen c.args.part.now) (g.F.Flash.seen c.hear.new.flash) (Err c.in-Err.arena))
    c.in-Some.fragment.index c.in-Some.fragment.n n c.in-Some.fragment.bytes.now piece c.args.payload.now c.in-Some.ensures.spelled is
    (failed_serves c.args.receiver {of = λ r. r} c.in-Err.ensures.serves)

pub returns-in-Ok-clause-stays : goal.returns-in-Ok-clause-stays
returns-in-Ok-clause-stays g c = ok_stays c.args.receiver c.in-Ok.receiver refl c.requires.receiver c.in-Ok.ensures.serves

pub returns-in-Err-clause-stays : goal.returns-in-Err-clause-stays
returns-in-Err-clause-stays g c = failed_stays c.args.receiver c.requires.receiver c.in-Err.ensures.serves
