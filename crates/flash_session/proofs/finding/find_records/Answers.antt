use Rattle.std.proofs.Common.{◌≡◌, ℕ, ◌+◌, ◌*◌, None, Some, rules, arith, sym, ap₂, subst, ◌∙◌}
use Rattle.flash_session.specs.Opening.{IsFirstForeign}
use Rattle.flash_session.proofs.Still.{found_some, found_none, kept_reads}
use Rattle.flash_session.proofs.Found.{no_heard, first_record}
use Rattle.flash_session.proofs.Serves.{opens_at}
use Rattle.flash_session.proofs.finding.find_records.Goals as goal

pub returns-in-Err-clause-opens : goal.returns-in-Err-clause-opens
returns-in-Err-clause-opens g c = opens_at c.replay.ensures.replayed.serves tt (λ p is. absurd cc) (λ is. c.in-Err.ensures.replayed.serves.cause.failed) (λ was. tt)

pub returns-in-Ok-None-clause-opens : goal.returns-in-Ok-None-clause-opens
returns-in-Ok-None-clause-opens g c =
    let none : c.in-Ok-None.field-0 ≡ None = first_of (search rules, cc, grind arith) in
    opens_at c.replay.ensures.replayed.serves
    (found_none _ _ c.in-Ok-None.field-0 none (c.in-Ok-None.ensures.replayed.told _ (no_heard c.args.limits c.args.setup) c.renew.ensures.stands))
    tt tt (λ was. kept_reads was c.replay.ensures.replayed.stays c.replay.ensures.replayed.serves.stops)

pub returns-in-Ok-Some-clause-opens : goal.returns-in-Ok-Some-clause-opens
returns-in-Ok-Some-clause-opens g c = opens_at c.replay.ensures.replayed.serves tt
    (λ p is b now head gates t tallies.
    let some : c.in-Ok-Some.field-0 ≡ Some c.in-Ok-Some.k = first_of (search rules, cc, grind arith) in
    let stops = found_some _ _ c.in-Ok-Some.field-0 c.in-Ok-Some.k some (c.in-Ok-Some.ensures.replayed.told _ (no_heard c.args.limits c.args.setup) c.renew.ensures.stands) in
    let place : 24640 + (10 + c.from.result) * c.from-in-Ok-Some.result ≡ p = cc in
    let there : 24640 + (10 + c.from.result) * c.from-in-Ok-Some.result ≡ 24640 + (10 + c.args.setup.frag_size) * c.in-Ok-Some.k =
    ap₂ (λ (x y : ℕ). 24640 + (10 + x) * y) c.from.ensures c.from-in-Ok-Some.ensures in
    subst (IsFirstForeign _ b) (sym there ∙ place) (first_record _ c.args.setup b head c.requires.most c.args.records gates t tallies _ c.in-Ok-Some.k now stops.0 stops.1))
    (λ is. absurd cc) (λ was. tt)

pub returns-in-Err-clause-extent : goal.returns-in-Err-clause-extent
returns-in-Err-clause-extent g c = c.replay.ensures.extent ∙ c.renew.ensures.extent

pub returns-in-Ok-None-clause-extent : goal.returns-in-Ok-None-clause-extent
returns-in-Ok-None-clause-extent g c = c.replay.ensures.extent ∙ c.renew.ensures.extent

pub returns-in-Ok-Some-clause-extent : goal.returns-in-Ok-Some-clause-extent
returns-in-Ok-Some-clause-extent g c = c.replay.ensures.extent ∙ c.renew.ensures.extent
