use Rattle.std.proofs.Common.{◌≡◌, ℕ, List, sym, ap, subst, ◌∙◌, arith, lit≤}
use Rattle.frag_session.specs.Setup.{setup_bits}
use Rattle.frag_session.specs.HeldSteps.{extent_of}
use Rattle.frag_session.specs.declared.setups.SetupReq.{SetupReq}
use Rattle.flash_session.specs.HeldSession.{HeldSession, room_in}
use Rattle.flash_session.specs.Layout.{body_at}
use Rattle.flash_session.specs.Lies.{SpelledAt}
use Rattle.flash_session.specs.Opening.{IsFirstForeign}
use Rattle.flash_session.specs.Replayed.{place_in}
use Rattle.flash_session.proofs.Found.{setup_read, first_setup}
use Rattle.flash_session.proofs.Fronts.{carried}
use Rattle.flash_session.proofs.Openable.{setup_places}
use Rattle.flash_session.proofs.Opened.{spelled_same}
use Rattle.flash_session.proofs.Renewing.{in_memory}
use Rattle.flash_session.proofs.Serves.{opens_at, opens_by}
use Rattle.flash_session.proofs.Still.{kept_reads, on_ok, on_err, risen_behind}
use Rattle.flash_session.proofs.finding.find_behind.Goals as goal

pub returns-in-Err-clause-opens : goal.returns-in-Err-clause-opens
returns-in-Err-clause-opens g c = opens_at c.read_setup.ensures.reads.serves tt (λ p is. absurd cc) (λ is. c.in-Err.ensures.reads.serves.cause.failed) (λ was. tt)

pub returns-then-refusal-ne0-clause-opens : goal.returns-then-refusal-ne0-clause-opens
unfolding extent_of setup_bits
returns-then-refusal-ne0-clause-opens g c = opens_at c.read_setup.ensures.reads.serves tt
    (λ p is b now header.
    let h : HeldSession = place_in g.row.W g.row.B c.args.base c.args.span c.args.limits (extent_of c.args.slot.now) in
    let reads = c.in-Ok.ensures.reads.told in
    let place : 1 ≡ p = cc in
    let there = setup_read b (body_at c.args.base) reads.0 reads.1.sized (reads.2 b now) ∙ reads.1.reads in
    subst (IsFirstForeign h b) place (first_setup h b header
    (λ none. c.if-refusal-ne0.true (c.refusal.ensures ∙ sym (ap (λ (x : SetupReq). setup_bits h.limits (room_in h) x) there) ∙ none))))
    (λ is. absurd cc) (λ was. tt)

pub find_session-requires : goal.find_session-requires
unfolding extent_of
find_session-requires g c =
    let places = setup_places (place_in g.row.W g.row.B c.args.base c.args.span c.args.limits (extent_of c.args.slot.now)) c.in-Ok.setup (sym c.refusal.ensures ∙ c.if-refusal-ne0.false) in
    (lit≤ tt, (omega (arith, places.room, c.requires.range, c.read_setup.ensures.reads.serves.size), (places.most, in_memory c.args.limits (room_in (place_in g.row.W g.row.B c.args.base c.args.span c.args.limits (extent_of c.args.slot.now))) c.in-Ok.setup (sym c.refusal.ensures ∙ c.if-refusal-ne0.false))))

pub returns-else-refusal-ne0-clause-opens : goal.returns-else-refusal-ne0-clause-opens
unfolding extent_of
returns-else-refusal-ne0-clause-opens g c =
    let reads = c.in-Ok.ensures.reads.told in
    opens_by c.read_setup.ensures.reads.serves c.find_session.ensures.opens
    (on_ok (λ counts found headers. record {
      body = reads.0;
      setup = c.in-Ok.setup;
      its_body = reads.1;
      spelled_there = carried (λ (x : List ℕ). SpelledAt x (body_at c.args.base) reads.0) _ _ (spelled_same (body_at c.args.base) reads.0) c.find_session.ensures.opens.held reads.2;
      header = headers;
      fine = sym c.refusal.ensures ∙ c.if-refusal-ne0.false;
      found = found;
    }) c.find_session.result c.find_session.ensures.opens.found)
    (on_err (λ e foreign p is b now header. foreign p is b now (record {
      header = header;
      setup_is = setup_read b (body_at c.args.base) reads.0 reads.1.sized (carried (λ (x : List ℕ). SpelledAt x (body_at c.args.base) reads.0) _ _ (spelled_same (body_at c.args.base) reads.0) c.find_session.ensures.opens.held reads.2 b now) ∙ reads.1.reads;
      fine = sym c.refusal.ensures ∙ c.if-refusal-ne0.false;
    })) c.find_session.result c.find_session.ensures.opens.foreign)
    (on_err (λ e fault is. risen_behind _ _ _ c.read_setup.ensures.reads.serves.cause.later (fault is)) c.find_session.result c.find_session.ensures.opens.fault)
    (λ was. c.find_session.ensures.opens.kept (kept_reads was c.read_setup.ensures.reads.stays c.read_setup.ensures.reads.serves.stops))
