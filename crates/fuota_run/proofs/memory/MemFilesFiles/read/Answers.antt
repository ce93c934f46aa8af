use Rattle.std.proofs.Common.{length-drop}
use Rattle.fuota_run.proofs.memory.MemFilesFiles.read.Goals as goal

pub returns-then-fails_now-clause-listed : goal.returns-then-fails_now-clause-listed
returns-then-fails_now-clause-listed c = rw (← c.self.view_is) c.if-fails_now.ensures.listed

pub returns-clause-most : goal.returns-clause-most
returns-clause-most c =
    rw (← c.self.view_is, length-drop, ← c.deref.ensures.value, ← c.bytes_in.ensures) c.read_from-taken.ensures.count
