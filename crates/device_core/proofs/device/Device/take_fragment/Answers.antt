use Rattle.device_core.proofs.Acting.{fragment_alone, fails_alone, keeps_single, ok_as, err_as}
use Rattle.device_core.proofs.device.Device.take_fragment.Goals as goal

pub returns : goal.returns
returns g c =
    let sent = c.args.fragment in
    record {
      becomes = ok_as c.fragment.result (λ steps. fragment_alone c.args.here c.args.self.now c.fragment.new.self sent.index sent.n sent.bytes.now steps) c.fragment.ensures.steps;
      fails = err_as c.fragment.result (λ fails. λ device stands. fails_alone c.args.here c.args.self.now c.fragment.new.self device _ stands fails) c.fragment.ensures.fails;
      keeps = keeps_single g.F.Flash.seen c.args.here c.args.self.now c.fragment.new.self.sessions c.fragment.result sent.index sent.n sent.bytes.now c.fragment.ensures.keeps;
    }
