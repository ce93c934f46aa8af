use Rattle.std.proofs.Common.{◌≡◌, ℕ, ◌+◌, List, rules, arith, sym, ap, subst, ◌∙◌}
use Rattle.flash_session.specs.declared.reading.Front.{Front}
use Rattle.flash_session.specs.declared.reading.Front.TheVariants.{Whole, Stray}
use Rattle.flash_session.specs.Fronts.{IsFront}
use Rattle.flash_session.specs.Layout.{tallies_at, most_tallies}
use Rattle.flash_session.specs.Lies.{GatesOpen}
use Rattle.flash_session.specs.Opening.{IsFirstForeign}
use Rattle.flash_session.proofs.Fronts.{carried, gates_same}
use Rattle.flash_session.proofs.Found.{first_tally}
use Rattle.flash_session.proofs.Serves.{opens_at, opens_by}
use Rattle.flash_session.proofs.Still.{kept_reads, risen_behind}
use Rattle.flash_session.proofs.finding.find_tallies.Goals as goal

pub returns-in-Err-clause-opens : goal.returns-in-Err-clause-opens
returns-in-Err-clause-opens g c = opens_at c.read_front.ensures.reads.serves tt (λ p is. absurd cc) (λ is. c.in-Err.ensures.reads.serves.cause.failed) (λ was. tt)

pub returns-in-Ok-Stray-clause-opens : goal.returns-in-Ok-Stray-clause-opens
returns-in-Ok-Stray-clause-opens g c = opens_at c.read_front.ensures.reads.serves tt
    (λ p is b now head gates.
    let found = subst (λ (x : Front). IsFront (g.F.Flash.seen c.read_front.new.flash).holds (tallies_at c.args.base) most_tallies x) (let e : c.in-Ok-Stray.field-0 ≡ Stray c.in-Ok-Stray.k = first_of (search rules, cc, grind arith) in e) c.in-Ok-Stray.ensures.reads.told in
    let place : 8257 + c.from.result ≡ p = cc in
    subst (IsFirstForeign _ b) (sym (ap (λ (x : ℕ). 8257 + x) c.from.ensures) ∙ place) (first_tally _ c.args.setup b head c.requires.most c.args.records gates found.1 c.in-Ok-Stray.k (found.2 b now)))
    (λ is. absurd cc) (λ was. tt)

pub returns-in-Err-find_records-clause-opens : goal.returns-in-Err-find_records-clause-opens
returns-in-Err-find_records-clause-opens g c =
    let whole = subst (λ (x : Front). IsFront (g.F.Flash.seen c.read_front.new.flash).holds (tallies_at c.args.base) most_tallies x) (let e : c.in-Ok-Whole.field-0 ≡ Whole c.in-Ok-Whole.tallies = first_of (search rules, cc, grind arith) in e) c.in-Ok-Whole.ensures.reads.told in
    opens_by c.read_front.ensures.reads.serves c.find_records.ensures.opens tt
    (λ p is b now head gates. c.in-Err-find_records.ensures.opens.foreign p is b now head gates c.in-Ok-Whole.tallies (carried (λ (x : List ℕ). GatesOpen x (tallies_at c.args.base) c.in-Ok-Whole.tallies most_tallies) _ _ (gates_same (tallies_at c.args.base) c.in-Ok-Whole.tallies most_tallies) c.find_records.ensures.opens.held whole.1 b now))
    (λ is. risen_behind _ _ _ c.read_front.ensures.reads.serves.cause.later (c.in-Err-find_records.ensures.opens.fault is)) (λ was. tt)

pub returns-in-Ok-clause-opens : goal.returns-in-Ok-clause-opens
returns-in-Ok-clause-opens g c =
    let whole = subst (λ (x : Front). IsFront (g.F.Flash.seen c.read_front.new.flash).holds (tallies_at c.args.base) most_tallies x) (let e : c.in-Ok-Whole.field-0 ≡ Whole c.in-Ok-Whole.tallies = first_of (search rules, cc, grind arith) in e) c.in-Ok-Whole.ensures.reads.told in
    opens_by c.read_front.ensures.reads.serves c.find_records.ensures.opens
    (λ gates. record { replayed = c.in-Ok.ensures.opens.found; gates = gates; tallies = carried (λ (x : List ℕ). GatesOpen x (tallies_at c.args.base) c.in-Ok-Whole.tallies most_tallies) _ _ (gates_same (tallies_at c.args.base) c.in-Ok-Whole.tallies most_tallies) c.find_records.ensures.opens.held whole.1; few = whole.0 })
    tt tt (λ was. c.in-Ok.ensures.opens.kept (kept_reads was c.read_front.ensures.reads.stays c.read_front.ensures.reads.serves.stops))

pub returns-in-Err-find_records-clause-extent : goal.returns-in-Err-find_records-clause-extent
returns-in-Err-find_records-clause-extent g c = c.find_records.ensures.extent

pub returns-in-Ok-clause-extent : goal.returns-in-Ok-clause-extent
returns-in-Ok-clause-extent g c = c.find_records.ensures.extent
