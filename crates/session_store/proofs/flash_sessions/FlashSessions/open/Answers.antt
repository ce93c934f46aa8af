use Rattle.flash_session.proofs.Serves.{is_opened, opens_from}
use Rattle.session_store.proofs.flash_sessions.FlashSessions.open.Goals as goal

pub returns-in-Err-clause-opened : goal.returns-in-Err-clause-opened
returns-in-Err-clause-opened g c = rw (c.in-Small.is) c.in-Err.ensures.opened

pub returns-in-Err-clause-opens : goal.returns-in-Err-clause-opens
returns-in-Err-clause-opens g c = rw (c.in-Small.is)
    (opens_from (is_opened c.open.ensures.opens) tt c.in-Err.ensures.opens.foreign c.in-Err.ensures.opens.fault (λ was. tt))

pub returns-in-Err-open-clause-opened : goal.returns-in-Err-open-clause-opened
returns-in-Err-open-clause-opened g c = rw (c.in-Middle.is) c.in-Err-open.ensures.opened

pub returns-in-Err-open-clause-opens : goal.returns-in-Err-open-clause-opens
returns-in-Err-open-clause-opens g c = rw (c.in-Middle.is)
    (opens_from (is_opened c.open-in-Middle.ensures.opens) tt c.in-Err-open.ensures.opens.foreign c.in-Err-open.ensures.opens.fault (λ was. tt))

pub returns-in-Err-open-2-clause-opened : goal.returns-in-Err-open-2-clause-opened
returns-in-Err-open-2-clause-opened g c = rw (c.in-Rows16.is) c.in-Err-open-2.ensures.opened

pub returns-in-Err-open-2-clause-opens : goal.returns-in-Err-open-2-clause-opens
returns-in-Err-open-2-clause-opens g c = rw (c.in-Rows16.is)
    (opens_from (is_opened c.open-in-Rows16.ensures.opens) tt c.in-Err-open-2.ensures.opens.foreign c.in-Err-open-2.ensures.opens.fault (λ was. tt))

pub returns-in-Err-open-3-clause-opened : goal.returns-in-Err-open-3-clause-opened
returns-in-Err-open-3-clause-opened g c = rw (c.in-Rows64.is) c.in-Err-open-3.ensures.opened

pub returns-in-Err-open-3-clause-opens : goal.returns-in-Err-open-3-clause-opens
returns-in-Err-open-3-clause-opens g c = rw (c.in-Rows64.is)
    (opens_from (is_opened c.open-in-Rows64.ensures.opens) tt c.in-Err-open-3.ensures.opens.foreign c.in-Err-open-3.ensures.opens.fault (λ was. tt))

pub returns-in-Err-open-4-clause-opened : goal.returns-in-Err-open-4-clause-opened
returns-in-Err-open-4-clause-opened g c = rw (c.in-Large.is) c.in-Err-open-4.ensures.opened

pub returns-in-Err-open-4-clause-opens : goal.returns-in-Err-open-4-clause-opens
returns-in-Err-open-4-clause-opens g c = rw (c.in-Large.is)
    (opens_from (is_opened c.open-in-Large.ensures.opens) tt c.in-Err-open-4.ensures.opens.foreign c.in-Err-open-4.ensures.opens.fault (λ was. tt))
