use Rattle.std.proofs.Common.{sym, ap, ◌∙◌, arith}
use Rattle.flash_session.specs.Contents.{byte_at}
use Rattle.flash_session.proofs.Serves.{serves_ok}
use Rattle.flash_session.proofs.reading.read_byte.Goals as goal

pub returns : goal.returns
returns g c = record {
  reads = record {
    told = λ b now. sym (c.in_ok-read.ensures.reads.told.bytes b now 0 (omega arith) ∙ ap (byte_at b) (omega arith));
    stays = c.read.ensures.reads.stays;
    serves = serves_ok c.read.ensures.reads.serves;
  };
}
