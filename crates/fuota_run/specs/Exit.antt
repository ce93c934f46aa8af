-- The status that the program ends with. (This project's profile.)
use Rattle.std.specs.Prelude.{ℕ}
use Rattle.fuota_run.specs.declared.status.Status.{Status}
use Rattle.fuota_run.specs.declared.status.Status.TheVariants as status

abbrev pub exit_code : Status → ℕ
exit_code status.Done = 0
exit_code status.Usage = 2
exit_code status.ImageRefused = 3
exit_code status.ScriptRefused = 4
exit_code status.ReadFault = 5
exit_code status.WriteFault = 6
exit_code status.Memory = 7
exit_code (status.TooLong taken) = 8
exit_code status.NotComplete = 9
