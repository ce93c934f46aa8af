use Rattle.std.proofs.Common.{refl}
use Rattle.fuota_c.proofs.sized_receiver.hear.Goals as goal

pub returns-in_default : goal.returns-in_default
returns-in_default c = record { heard = λ n part s is stands. absurd (c.in_default.ensures.spelled 0 n _ part is); other = λ no. refl }
