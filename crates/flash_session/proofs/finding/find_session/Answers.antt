use Rattle.std.proofs.Common.{◌≡◌, ℕ, ◌+◌, ◌*◌, List, rules, arith, sym, ap, subst, ◌∙◌}
use Rattle.flash_session.specs.declared.reading.Front.{Front}
use Rattle.flash_session.specs.declared.reading.Front.TheVariants.{Whole, Stray}
use Rattle.flash_session.specs.Fronts.{IsFront}
use Rattle.flash_session.specs.Layout.{gates_at}
use Rattle.flash_session.specs.Lies.{GatesOpen}
use Rattle.flash_session.specs.Opening.{IsFirstForeign}
use Rattle.flash_session.proofs.Fronts.{carried, gates_same}
use Rattle.flash_session.proofs.Found.{first_gate}
use Rattle.flash_session.proofs.Serves.{opens_at, opens_by}
use Rattle.flash_session.proofs.Still.{kept_reads, on_ok, on_err, risen_behind}
use Rattle.flash_session.proofs.finding.find_session.Goals as goal

pub returns-in-Err-clause-opens : goal.returns-in-Err-clause-opens
returns-in-Err-clause-opens g c = opens_at c.read_front.ensures.reads.serves tt (λ p is. absurd cc) (λ is. c.in-Err.ensures.reads.serves.cause.failed) (λ was. tt)

pub returns-in-Ok-Stray-clause-opens : goal.returns-in-Ok-Stray-clause-opens
returns-in-Ok-Stray-clause-opens g c = opens_at c.read_front.ensures.reads.serves tt
    (λ p is b now head.
    let found = subst (λ (x : Front). IsFront (g.F.Flash.seen c.read_front.new.flash).holds (gates_at c.args.base) (2 * c.args.setup.nb_frag + 1) x) (let e : c.in-Ok-Stray.field-0 ≡ Stray c.in-Ok-Stray.k = first_of (search rules, cc, grind arith) in e) c.in-Ok-Stray.ensures.reads.told in
    let place : 64 + c.from.result ≡ p = cc in
    subst (IsFirstForeign _ b) (sym (ap (λ (x : ℕ). 64 + x) c.from.ensures) ∙ place) (first_gate _ c.args.setup b head c.requires.most found.1 c.in-Ok-Stray.k (found.2 b now)))
    (λ is. absurd cc) (λ was. tt)

pub returns-in-Ok-Whole-clause-opens : goal.returns-in-Ok-Whole-clause-opens
returns-in-Ok-Whole-clause-opens g c =
    let whole = subst (λ (x : Front). IsFront (g.F.Flash.seen c.read_front.new.flash).holds (gates_at c.args.base) (2 * c.args.setup.nb_frag + 1) x) (let e : c.in-Ok-Whole.field-0 ≡ Whole c.in-Ok-Whole.records = first_of (search rules, cc, grind arith) in e) c.in-Ok-Whole.ensures.reads.told in
    opens_by c.read_front.ensures.reads.serves c.find_tallies.ensures.opens
    (on_ok (λ x found. found (carried (λ (x : List ℕ). GatesOpen x (gates_at c.args.base) c.in-Ok-Whole.records (2 * c.args.setup.nb_frag + 1)) _ _ (gates_same (gates_at c.args.base) c.in-Ok-Whole.records (2 * c.args.setup.nb_frag + 1)) c.find_tallies.ensures.opens.held whole.1)) c.find_tallies.result c.find_tallies.ensures.opens.found)
    (on_err (λ e foreign p is b now head. foreign p is b now head (carried (λ (x : List ℕ). GatesOpen x (gates_at c.args.base) c.in-Ok-Whole.records (2 * c.args.setup.nb_frag + 1)) _ _ (gates_same (gates_at c.args.base) c.in-Ok-Whole.records (2 * c.args.setup.nb_frag + 1)) c.find_tallies.ensures.opens.held whole.1 b now)) c.find_tallies.result c.find_tallies.ensures.opens.foreign)
    (on_err (λ e fault is. risen_behind _ _ _ c.read_front.ensures.reads.serves.cause.later (fault is)) c.find_tallies.result c.find_tallies.ensures.opens.fault)
    (λ was. c.find_tallies.ensures.opens.kept (kept_reads was c.read_front.ensures.reads.stays c.read_front.ensures.reads.serves.stops))

pub returns-in-Ok-Whole-clause-extent : goal.returns-in-Ok-Whole-clause-extent
returns-in-Ok-Whole-clause-extent g c = c.find_tallies.ensures.extent
