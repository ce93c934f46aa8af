use Rattle.std.proofs.Common.{arith}
use Rattle.campaign_world.specs.HeldLate.{DeviceRests}
use Rattle.report_lines.proofs.Outcomes.{on_ok, on_ok_then, on_err}
use Rattle.campaign_world.proofs.Zips.{zip_set, zip_at, same_set, long_set}
use Rattle.campaign_world.proofs.happening.happen.Goals as goal

pub returns-clause-happens : goal.returns-clause-happens
returns-clause-happens c = on_ok c.happen_late.result (λ ok.
    let happens = on_ok_then c.happen_late.result ok c.happen_late.ensures.happens in record {
      rests = λ all d stand there. zip_set DeviceRests c.args.devices.now.items all _ c.happen_late.new.late _ stand (happens.rests d
          (zip_at DeviceRests c.args.devices.now.items all _ c.index_mut-late.result.now d stand c.index_mut-late.ensures.value (omega arith) there));
      numbered = λ all d stand there. rw (← c.reserve_for.ensures.same) (happens.numbered d
          (zip_at DeviceRests c.args.devices.now.items all _ c.index_mut-late.result.now d stand c.index_mut-late.ensures.value (omega arith) there));
      made = rw (← c.reserve_for.ensures.same) happens.made;
      count = long_set c.args.devices.now.items _ c.happen_late.new.late;
    })

pub returns-clause-devices : goal.returns-clause-devices
returns-clause-devices c = on_err c.happen_late.result
    (λ same. same_set c.args.devices.now.items _ _ _ same c.index_mut-late.ensures.value) c.happen_late.ensures.device
