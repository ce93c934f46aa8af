use Rattle.std.proofs.Common.{refl, ◌∙◌, length}
use Rattle.campaign_server.proofs.SavedBytes.{few_bytes, few_stages, le_bytes_of_4}
use Rattle.campaign_server.proofs.saving.state_bytes.Goals as goal

pub put_statuses-requires : goal.put_statuses-requires
put_statuses-requires c =
    rw c.put_stages.ensures
    (few_stages c.put.new.to.items c.args.stages.now (length c.args.statuses.now) (rw (c.put.ensures, c.new-state.ensures) refl)
    c.requires.stages c.requires.statuses)

pub returns-clause-bytes : goal.returns-clause-bytes
returns-clause-bytes c =
    rw (
      c.put_statuses.ensures,
      c.put_stages.ensures,
      c.put.ensures,
      c.new-state.ensures,
      c.to_le_bytes.ensures,
      c.to_le_bytes-2.ensures ∙ le_bytes_of_4 c.args.count,
    ) refl

pub returns-clause-room : goal.returns-clause-room
returns-clause-room c =
    rw (c.put_statuses.ensures, c.put_stages.ensures)
    (few_bytes c.put.new.to.items c.args.stages.now c.args.statuses.now (rw (c.put.ensures, c.new-state.ensures) refl)
    c.requires.stages c.requires.statuses)
