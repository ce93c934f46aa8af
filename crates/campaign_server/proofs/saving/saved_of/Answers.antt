use Rattle.std.proofs.Common.{refl}
use Rattle.campaign_server.specs.Saving.{state_bytes, saved_of}
use Rattle.campaign_server.proofs.saving.saved_of.Goals as goal

pub returns : goal.returns
unfolding saved_of state_bytes
returns c =
    rw (
      c.put.ensures,
      c.digest_of-digest.ensures,
      c.as_slice.ensures.value,
      c.as_slice-2.ensures.value,
      c.plan_bytes.ensures,
      c.state_bytes-saved.ensures.bytes,
    ) refl
