use Rattle.std.proofs.Common.{rules}
use Rattle.flash_session.proofs.HeardAgain.{one_replayed}
use Rattle.flash_session.proofs.Serves.{serves_ok}
use Rattle.flash_session.proofs.replaying.replay_one.Goals as goal

pub returns-clause-replayed : goal.returns-clause-replayed
returns-clause-replayed g c = record {
  told = λ s r. one_replayed s c.args.slot.now c.fragment-heard.new.self _ _ c.args.base c.args.size c.args.k _ _ _ c.fragment-heard.result c.is_new.result
      (search rules) (search rules) (search rules) c.read_record.ensures.reads.serves.held
      (λ b now. c.in_ok-n.ensures.reads.told b now) c.fragment-heard.ensures.answer c.fragment-heard.ensures.stands c.is_new.ensures.yes c.is_new.ensures.no r;
  stays = c.read_record.ensures.reads.stays;
  serves = serves_ok c.read_record.ensures.reads.serves;
}
