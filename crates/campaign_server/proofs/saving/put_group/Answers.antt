use Rattle.std.proofs.Common.{◌∷◌, ◌∙◌}
use Rattle.wire_base.specs.Numbers.{number_bytes}
use Rattle.campaign_server.proofs.SavedBytes.{group_put, le_bytes_of_4}
use Rattle.campaign_server.proofs.saving.put_group.Goals as goal

pub returns-in-Some-clause-bytes : goal.returns-in-Some-clause-bytes
returns-in-Some-clause-bytes c =
    rw (c.put-in-Some-2.ensures, c.put-in-Some.ensures, c.put.ensures, c.to_le_bytes.ensures ∙ le_bytes_of_4 c.in-Some.group.addr, c.to_le_bytes-in-Some.ensures ∙ le_bytes_of_4 c.in-Some.group.min, c.to_le_bytes-in-Some-2.ensures ∙ le_bytes_of_4 c.in-Some.group.max, c.in-Some.is)
    (group_put c.args.to.now.items (1 ∷ c.in-Some.group.id ∷ number_bytes 4 c.in-Some.group.addr) c.in-Some.group.key
    (number_bytes 4 c.in-Some.group.min) (number_bytes 4 c.in-Some.group.max))
