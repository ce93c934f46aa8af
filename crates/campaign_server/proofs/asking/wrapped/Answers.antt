use Rattle.std.proofs.Common.{sym}
use Rattle.campaign_server.proofs.Wrapping.{wrapped_is}
use Rattle.campaign_server.proofs.asking.wrapped.Goals as goal

pub returns-clause-value : goal.returns-clause-value
returns-clause-value c =
    rw (← c.root-root.ensures, ← c.kek.ensures)
    (sym (wrapped_is c.kek.result c.args.key.now c.wrap_key-block.result c.told_block.ensures c.wrap_key-block.ensures.unwraps c.wrap_key-block.ensures.only))
