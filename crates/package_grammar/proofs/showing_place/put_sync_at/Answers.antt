use Rattle.std.proofs.Common.{IfOk, subst}
use Rattle.sync_wire.specs.Table as sync
use Rattle.package_grammar.specs.declared.command.Command.TheVariants.{Sync}
use Rattle.package_grammar.proofs.showing_place.put_sync_at.Goals as goal

pub returns-in_ok-put_sync-in-Ok-clause-put : goal.returns-in_ok-put_sync-in-Ok-clause-put
returns-in_ok-put_sync-in-Ok-clause-put c =
    let a = c.args in
    let spells = subst (λ r. IfOk r (λ x. sync.Spells x.0 a.port a.dir a.bytes.now a.at x.1)) c.in-Ok.is c.read_one-read.ensures.found in
    (Sync c.in-Ok.cmd, record { listed = spells.listed; lies = spells.lies; whole = spells.whole }, c.in_ok-put_sync-in-Ok.ensures)
