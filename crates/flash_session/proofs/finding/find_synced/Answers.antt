use Rattle.std.proofs.Common.{◌≡◌, ℕ, List, sym, ◌∙◌}
use Rattle.flash_session.specs.Contents.{byte_at}
use Rattle.flash_session.specs.Layout.{open_gate}
use Rattle.flash_session.proofs.Fronts.{carried}
use Rattle.flash_session.proofs.Serves.{opens_at, opens_by}
use Rattle.flash_session.proofs.Still.{kept_reads, risen_behind}
use Rattle.flash_session.proofs.finding.find_synced.Goals as goal

pub returns-in-Err-clause-opens : goal.returns-in-Err-clause-opens
returns-in-Err-clause-opens g c = opens_at c.read_byte.ensures.reads.serves tt (λ p is. absurd cc) (λ is. c.in-Err.ensures.reads.serves.cause.failed) (λ was. tt)

pub returns-then-gate-clause-opens : goal.returns-then-gate-clause-opens
returns-then-gate-clause-opens g c = opens_at c.read_byte.ensures.reads.serves
    (record { none = λ b now is. c.if-gate.true (sym (c.in-Ok.ensures.reads.told b now) ∙ is); stands = c.requires.none })
    tt tt (λ was. kept_reads was c.read_byte.ensures.reads.stays c.read_byte.ensures.reads.serves.stops)

pub returns-in-Err-find_behind-clause-opens : goal.returns-in-Err-find_behind-clause-opens
returns-in-Err-find_behind-clause-opens g c = opens_by c.read_byte.ensures.reads.serves c.find_behind.ensures.opens tt
    (λ p is b now. c.in-Err-find_behind.ensures.opens.foreign p is b now (carried (λ (x : List ℕ). byte_at x c.args.base ≡ open_gate) _ _ (λ d x same e. same.all c.args.base ∙ e) c.find_behind.ensures.opens.held (λ x now. c.in-Ok.ensures.reads.told x now ∙ c.if-gate.false) b now))
    (λ is. risen_behind _ _ _ c.read_byte.ensures.reads.serves.cause.later (c.in-Err-find_behind.ensures.opens.fault is)) (λ was. tt)

pub returns-in-Ok-find_behind-clause-opens : goal.returns-in-Ok-find_behind-clause-opens
returns-in-Ok-find_behind-clause-opens g c = opens_by c.read_byte.ensures.reads.serves c.find_behind.ensures.opens
    (c.in-Ok-find_behind.ensures.opens.found (carried (λ (x : List ℕ). byte_at x c.args.base ≡ open_gate) _ _ (λ d x same e. same.all c.args.base ∙ e) c.find_behind.ensures.opens.held (λ x now. c.in-Ok.ensures.reads.told x now ∙ c.if-gate.false)))
    tt tt (λ was. c.in-Ok-find_behind.ensures.opens.kept (kept_reads was c.read_byte.ensures.reads.stays c.read_byte.ensures.reads.serves.stops))

pub returns-in-Err-find_behind-clause-extent : goal.returns-in-Err-find_behind-clause-extent
returns-in-Err-find_behind-clause-extent g c = c.find_behind.ensures.extent

pub returns-in-Ok-find_behind-clause-extent : goal.returns-in-Ok-find_behind-clause-extent
returns-in-Ok-find_behind-clause-extent g c = c.find_behind.ensures.extent
