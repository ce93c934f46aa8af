use Rattle.std.proofs.Common.{◌≡◌, ℕ, ◌+◌, arith, ap}
use Rattle.flash_session.specs.Contents.{byte_at}
use Rattle.sample_nor_flash.proofs.journal.is_set.Goals as goal

pub returns : goal.returns
returns g c = record {
  set = λ d held is.
      let there = c.in_ok-fetch.ensures.told.bytes d held 0 (omega arith) in
      let same : byte_at d (c.args.mark + 0) ≡ byte_at d c.args.mark = ap (λ (i : ℕ). byte_at d i) (omega arith) in
      omega (arith, there, same, is);
}
