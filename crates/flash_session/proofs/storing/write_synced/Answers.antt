use Rattle.std.proofs.Common.{length}
use Rattle.flash_session.proofs.Runs.{follows_joined, same_outside, put_same}
use Rattle.flash_session.proofs.Serves.{serves_failed, serves_wider, range_joined}
use Rattle.flash_session.proofs.Still.{on_ok_any}
use Rattle.flash_session.proofs.storing.write_synced.Goals as goal

pub returns-clause-serves : goal.returns-clause-serves
returns-clause-serves g c = range_joined c.args.at (length c.args.piece.now) c.write.ensures.serves (serves_wider (same_outside c.args.at (length c.args.piece.now)) c.sync.ensures.serves)

pub returns-clause-written : goal.returns-clause-written
returns-clause-written g c = on_ok_any (follows_joined (put_same c.args.at c.args.piece.now) c.in_ok-write.ensures.written c.sync.ensures.serves.held) c.sync.result

pub returns-in_err-write-clause-serves : goal.returns-in_err-write-clause-serves
returns-in_err-write-clause-serves g c = serves_failed _ c.in_err-write.ensures.serves
