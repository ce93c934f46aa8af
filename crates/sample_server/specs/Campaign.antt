-- The plan of the sample's campaign.
use Rattle.std.specs.Prelude.{ℕ, List, Some}
use Rattle.campaign_server.specs.declared.plan.Kind.TheVariants.{C}
use Rattle.campaign_server.specs.declared.plan.PlanDevice.{PlanDevice}
use Rattle.campaign_server.specs.declared.plan.PlanGroup.{PlanGroup}
use Rattle.campaign_server.specs.Plan.{Plan}

-- pieces of 48 bytes, 16 coded fragments, and a window of class C of 2^14 s on 869.525 MHz at data rate 3
abbrev pub plan_for : PlanGroup → (start : ℕ) → List PlanDevice → Plan
plan_for group start devices = record {
  frag_size = 48;
  parity = 16;
  index = 0;
  group = Some group;
  window = Some (record { kind = C; start = start; timeout = 14; freq = 8695250; dr = 3 });
  devices = devices;
}
