-- How a run ends where no count of faults can rise.
use Rattle.std.proofs.Common.{ℕ, List, Option, Some, arith}
use Rattle.fuota_run.specs.Outside.{Held}
use Rattle.fuota_run.specs.declared.status.Status.{Status}
use Rattle.fuota_run.specs.declared.status.Status.TheVariants as status
use Rattle.fuota_run.specs.Ending.{Ends, AppendsAnswer, IsAnswered, IsSure}

answered : (held : Held) (words : List (List ℕ)) (s : Status) (old new : Option (List ℕ)) → AppendsAnswer (Some held) words s old new
    → IsAnswered held words s
answered held words s old new appends = (appends.0.text, rw (appends.2) appends.1)

pub ends_surely : (held : Held) (words : List (List ℕ)) (old new : Option (List ℕ)) (s : Status)
    → Ends (Some held) words (record { files_before = 0; files_after = 0; out_before = 0; out_after = 0; old = old; new = new }) s
    → IsSure held words s
ends_surely held words old new status.Memory ends = tt
ends_surely held words old new status.ReadFault ends = absurd (omega (arith, ends.0))
ends_surely held words old new status.WriteFault ends = absurd (omega (arith, ends.0))
ends_surely held words old new status.Done ends = answered held words status.Done old new ends
ends_surely held words old new status.Usage ends = answered held words status.Usage old new ends
ends_surely held words old new status.ImageRefused ends = answered held words status.ImageRefused old new ends
ends_surely held words old new status.ScriptRefused ends = answered held words status.ScriptRefused old new ends
ends_surely held words old new status.NotComplete ends = answered held words status.NotComplete old new ends
ends_surely held words old new (status.TooLong taken) ends = answered held words (status.TooLong taken) old new ends
