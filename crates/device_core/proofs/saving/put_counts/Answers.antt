use Rattle.std.proofs.Common.{append_assoc}
use Rattle.device_core.proofs.saving.put_counts.Goals as goal

pub returns-clause-bytes : goal.returns-clause-bytes
returns-clause-bytes c =
    rw (c.put_u64-4.ensures.bytes, c.put_u64-3.ensures.bytes, c.put_u64-2.ensures.bytes, c.put_u64.ensures.bytes) (simp append_assoc)
