use Rattle.std.proofs.Common.{◌≡◌, ℕ, ◌+◌, ◌<◌, ◌==◌, true, false, length, get_or, subst, arith, length-take}
use Rattle.std.proofs.lemmas.Bool.Decides.{nat_tests}
use Rattle.flash_session.specs.Gates.{AreShut}
use Rattle.flash_session.specs.Layout.{open_gate}
use Rattle.flash_session.proofs.Okay.{none_ok}
use Rattle.flash_session.proofs.Serves.{serves_ok, serves_failed, reads_joined}
use Rattle.flash_session.proofs.Still.{same_joined, open_kept, shut_kept}
use Rattle.flash_session.proofs.Fronts.{opened_on, shut_on, stray_on}
use Rattle.flash_session.proofs.reading.read_front.Goals as goal

-- gates that were read one after the other
broken : (n k more : ℕ) → ((n == k) ≡ false → more ≡ 0) → n < k → more ≡ 0
broken n k more none lt = none (grind (arith, nat_tests))

unbroken : (n k : ℕ) → n ≡ k → (n == k) ≡ true
unbroken n k same = grind (arith, nat_tests)

pub returns-in_err-read : goal.returns-in_err-read
returns-in_err-read g c = record {
  reads = record {
    told = none_ok _ _ c.from_residual.ensures.0;
    stays = same_joined c.read.ensures.reads.stays c.loop-k.invariant.stays;
    serves = serves_failed _ (reads_joined c.loop-k.invariant.serves c.in_err-read.ensures.reads.serves);
  };
}

pub returns-in-Some : goal.returns-in-Some
returns-in-Some g c =
    let n = c.loop-k.opened in
    let k = c.loop-k.k in
    let more = c.leading_open-more.result in
    let gates = c.read.new.buf in
    let holds0 = (g.F.Flash.seen c.loop-k.flash).holds in
    let holds = (g.F.Flash.seen c.read.new.self).holds in
    let lead = c.leading_open-more.ensures in
    let next = c.in-Some.ensures in
    let gives = c.in_ok-read.ensures.reads.told in
    let none : n < k → more ≡ 0 = broken n k more lead.none in
    let le = c.loop-k.invariant.behind in
    let opened = opened_on holds c.args.at n k more gates gives le none lead.few lead.opened (open_kept holds0 holds c.args.at 0 n c.loop-k.invariant.opened c.read.ensures.reads.serves.held) in
    let shut = shut_on holds c.args.at n k more gates gives le none c.in-Some.j (omega (arith, next.1)) next.3 (shut_kept holds0 holds c.args.at n k c.loop-k.invariant.shut c.read.ensures.reads.serves.held) in
    let within : k + c.in-Some.j < c.args.most = omega (arith, next.1, length-take {A = ℕ}) in
    record {
      reads = record {
        told = (
          within,
          n + more,
          stray_on holds c.args.at n k more gates gives le none c.in-Some.j c.args.most next.0 next.1 within
              (λ same here. lead.shut (unbroken n k same) (omega (arith, next.1, here)) (subst (λ (i : ℕ). get_or gates i 0 ≡ open_gate) here next.2)) next.2 opened shut,
        );
        stays = same_joined c.read.ensures.reads.stays c.loop-k.invariant.stays;
        serves = serves_ok (reads_joined c.loop-k.invariant.serves c.read.ensures.reads.serves);
      };
    }

pub loop-k-preserved : goal.loop-k-preserved
loop-k-preserved g c =
    let n = c.loop-k.opened in
    let k = c.loop-k.k in
    let more = c.leading_open-more.result in
    let gates = c.read.new.buf in
    let holds0 = (g.F.Flash.seen c.loop-k.flash).holds in
    let holds = (g.F.Flash.seen c.read.new.self).holds in
    let lead = c.leading_open-more.ensures in
    let gives = c.in_ok-read.ensures.reads.told in
    let none : n < k → more ≡ 0 = broken n k more lead.none in
    let le = c.loop-k.invariant.behind in
    let long : length gates ≡ c.min-n.result = omega (arith, length-take {A = ℕ}) in
    record {
      few = omega arith;
      behind = omega (arith, lead.few);
      opened = opened_on holds c.args.at n k more gates gives le none lead.few lead.opened (open_kept holds0 holds c.args.at 0 n c.loop-k.invariant.opened c.read.ensures.reads.serves.held);
      shut = subst (λ (m : ℕ). AreShut holds c.args.at (n + more) (k + m)) long
          (shut_on holds c.args.at n k more gates gives le none (length gates) (omega arith) c.in_default.ensures (shut_kept holds0 holds c.args.at n k c.loop-k.invariant.shut c.read.ensures.reads.serves.held));
      stays = same_joined c.read.ensures.reads.stays c.loop-k.invariant.stays;
      serves = serves_ok (reads_joined c.loop-k.invariant.serves c.read.ensures.reads.serves);
    }
