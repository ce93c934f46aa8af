use Rattle.std.proofs.Common.{sym, rules}
use Rattle.flash_session.proofs.Serves.{serves_ok}
use Rattle.flash_session.proofs.reading.read_setup.Goals as goal

pub returns : goal.returns
returns g c = record {
  reads = record {
    told = (
      c.read.new.buf,
      record { sized = search rules; reads = sym c.setup_in.ensures },
      λ b now. record { bytes = λ i lt. sym (c.in_ok-read.ensures.reads.told.bytes b now i lt) },
    );
    stays = c.read.ensures.reads.stays;
    serves = serves_ok c.read.ensures.reads.serves;
  };
}
