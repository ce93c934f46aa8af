use Rattle.std.proofs.Common.{◌≡◌, ◌+◌, ◌<◌, ap, sym, arith}
use Rattle.flash_session.specs.Layout.{tallies_at, most_tallies}
use Rattle.flash_session.proofs.Behind.{tally_left, tally_during, tally_read, tallied_after}
use Rattle.flash_session.proofs.Moments.{begins}
use Rattle.flash_session.proofs.Okay.{OnOk_both}
use Rattle.flash_session.proofs.Serves.{in_range}
use Rattle.flash_session.proofs.storing.count_gate.Goals as goal

pub returns-clause-stored : goal.returns-clause-stored
returns-clause-stored g c = record {
  acknowledged = λ x stored.
      let room : x.session.tallies < most_tallies = omega (arith, x.count) in
      let there : c.args.base + 8257 + c.args.n ≡ tallies_at c.args.base + x.session.tallies = ap (λ k. c.args.base + 8257 + k) (sym x.count) in
      OnOk_both (λ written kept. tallied_after c.args.base c.args.span x.session _ stored.fits (tally_read c.args.base c.args.span x.session room _ stored _ _ there written) kept)
      c.write_synced.result c.write_synced.ensures.written c.write_synced.ensures.kept;
  any_moment = λ x stored.
      let room : x.session.tallies < most_tallies = omega (arith, x.count) in
      let there : c.args.base + 8257 + c.args.n ≡ tallies_at c.args.base + x.session.tallies = ap (λ k. c.args.base + 8257 + k) (sym x.count) in
      begins _
      (λ b left. tally_left c.args.base c.args.span x.session room _ stored b left)
      (λ d b left out. tally_during c.args.base c.args.span x.session room _ stored _ there d b left out)
      c.write_synced.ensures.serves.stops;
  serves = in_range _ _ c.args.base c.args.span (omega arith) (omega arith) c.write_synced.ensures.serves;
}
