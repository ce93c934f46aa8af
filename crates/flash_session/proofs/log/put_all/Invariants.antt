use Rattle.std.proofs.Common.{◌≡◌, ◌+◌, ◌≤◌, take, vec_len, vec_capacity}
use Rattle.flash_session.specs.Contents.{SameOutside, Put}
use Rattle.flash_session.specs.Moments.{Elapses}
use Rattle.flash_session.specs.Log.{seen_in}
use Rattle.flash_session.proofs.log.put_all.Given as goal

abbrev pub invariant-loop-i : goal.invariant-loop-i
invariant-loop-i l = record {
  put : Put l.at (take l.i l.piece) l.initial.bytes l.bytes;
  stops : Elapses (SameOutside l.at l.i) (seen_in l.initial.log.items l.initial.bytes 0) (seen_in l.log.items l.bytes 0);
  len : vec_len l.log ≡ vec_len l.initial.log + l.i;
  capacity : vec_capacity l.initial.log ≤ vec_capacity l.log;
}
