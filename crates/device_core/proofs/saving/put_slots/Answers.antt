use Rattle.std.proofs.Common.{append_assoc}
use Rattle.device_core.proofs.saving.put_slots.Goals as goal

pub returns-clause-bytes : goal.returns-clause-bytes
returns-clause-bytes c =
    rw (
      c.put_len-2.ensures.bytes,
      c.next_file.ensures,
      c.put_len.ensures.bytes,
      c.put_u32-2.ensures.bytes,
      c.next_version.ensures,
      c.next-2.ensures,
      c.put-2.ensures.bytes,
      c.next_byte.ensures,
      c.next.ensures,
      c.put_u32.ensures.bytes,
      c.put.ensures.bytes,
      c.formats.ensures,
      c.running-version.ensures.version,
      c.running-version.ensures.file,
    ) (simp append_assoc)
