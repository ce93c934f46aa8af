use Rattle.device_core.proofs.Deliveries.{counted}
use Rattle.device_core.proofs.Radio.{foreign_counted}
use Rattle.device_core.proofs.laws.what_does_not_act_is_counted.Goals as goal

pub returns-clause-deaf : goal.returns-clause-deaf
returns-clause-deaf c = λ t word mark down device. (counted t word mark down device).deaf

pub returns-clause-refused : goal.returns-clause-refused
returns-clause-refused c = λ t word mark down device refusal. (counted t word mark down device).refused refusal

pub returns-clause-full : goal.returns-clause-full
returns-clause-full c = λ t word mark n down device. (counted t word mark down device).full n

pub returns-clause-foreign : goal.returns-clause-foreign
returns-clause-foreign c = λ t word mark bytes device fault. foreign_counted t word mark bytes fault device
