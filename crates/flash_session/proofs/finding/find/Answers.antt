use Rattle.flash_session.proofs.Serves.{opens_at, opens_by}
use Rattle.flash_session.proofs.Still.{on_err, risen_behind}
use Rattle.flash_session.proofs.finding.find.Goals as goal

pub returns-in-Err-clause-opens : goal.returns-in-Err-clause-opens
returns-in-Err-clause-opens g c = opens_at c.sync.ensures.serves tt (λ p is. absurd cc) (λ is. c.in-Err.ensures.serves.cause.failed) (λ was. tt)

pub returns-in-Ok-clause-opens : goal.returns-in-Ok-clause-opens
returns-in-Ok-clause-opens g c = opens_by c.sync.ensures.serves c.find_synced.ensures.opens c.find_synced.ensures.opens.found c.find_synced.ensures.opens.foreign
    (on_err (λ e fault is. risen_behind _ _ _ c.sync.ensures.serves.cause.later (fault is)) c.find_synced.result c.find_synced.ensures.opens.fault)
    (λ was. c.find_synced.ensures.opens.kept c.in-Ok.ensures.durable)

pub returns-in-Ok-clause-kept : goal.returns-in-Ok-clause-kept
returns-in-Ok-clause-kept g c = c.find_synced.ensures.opens.kept c.in-Ok.ensures.durable
