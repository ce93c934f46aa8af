-- What C hands over to a server and is handed, worked out: each field in its place, and the numbers of the header.
use Rattle.std.specs.Prelude.{◌≡◌, true, false, List, [], ◌∷◌, map, replicate, Some, None}
use Rattle.std.specs.List.{range_with_len}
use Rattle.mc_keys.specs.declared.root_kind.RootKind.TheVariants.{V10, V11}
use Rattle.package_grammar.specs.declared.downlink.To.TheVariants as to
use Rattle.campaign_server.specs.declared.fragments.Spent.TheVariants as spent
use Rattle.campaign_server.specs.declared.plan.Field.TheVariants as field
use Rattle.campaign_server.specs.declared.plan.Kind.TheVariants as kind
use Rattle.campaign_server.specs.declared.stage.Request.{Request}
use Rattle.campaign_server.specs.declared.stage.Request.TheVariants.{Version, Group, Fragments, Window, Status, Image, Reboot, Check}
use Rattle.campaign_server.specs.declared.stage.Stage.TheVariants.{At, Updated, Refused}
use Rattle.fuota_server_c.specs.declared.plan.PlanDeviceFields.{PlanDeviceFields}
use Rattle.fuota_server_c.specs.declared.plan.PlanFields.{PlanFields}
use Rattle.fuota_server_c.specs.declared.sent.DownFields.{DownFields}
use Rattle.fuota_server_c.specs.Plan.{plan_of, group_of, window_of, field_number}
use Rattle.fuota_server_c.specs.Sent.{downlink_of, spent_number, request_number, fields_of, status_fields}

-- ---- what is handed over

abbrev pub worked_plan : PlanFields
worked_plan = record {
  addr = 1;
  min = 2;
  max = 3;
  start = 4;
  freq = 5;
  parity = 6;
  frag_size = 7;
  timeout = 8;
  dr = 9;
  periodicity = 10;
  index = 11;
  id = 12;
  has_group = true;
  has_window = true;
  is_class_b = true;
  key = replicate 16 13;
}

abbrev pub worked_devices : List PlanDeviceFields
worked_devices = record { key = replicate 16 14; is_v11 = false } ∷ record { key = replicate 16 15; is_v11 = true } ∷ []

-- a payload to a group, of two bytes
abbrev pub worked_down : DownFields
worked_down = record { length = 2; addr = 1; count = 2; port = 201; is_group = true; payload = 3 ∷ 4 ∷ replicate 240 0 }

pub record AreTaken : Type 0 where
  pub plan : plan_of worked_plan worked_devices ≡ record {
    frag_size = 7;
    parity = 6;
    index = 11;
    group = Some (record { id = 12; addr = 1; key = replicate 16 13; min = 2; max = 3 });
    window = Some (record { kind = kind.B 10; start = 4; timeout = 8; freq = 5; dr = 9 });
    devices = record { key = replicate 16 14; root = V10 } ∷ record { key = replicate 16 15; root = V11 } ∷ [];
  }
  pub class_c : window_of (record worked_plan { is_class_b = false })
      ≡ Some (record { kind = kind.C; start = 4; timeout = 8; freq = 5; dr = 9 })
  pub no_group : group_of (record worked_plan { has_group = false }) ≡ None
  pub no_window : window_of (record worked_plan { has_window = false }) ≡ None
  pub to_group : downlink_of worked_down ≡ record { to = to.Group 1 2; port = 201; payload = 3 ∷ 4 ∷ [] }
  pub to_device : downlink_of (record worked_down { is_group = false }) ≡ record { to = to.Unicast; port = 201; payload = 3 ∷ 4 ∷ [] }

-- ---- what is told

abbrev pub requests : List Request
requests = Version ∷ Group ∷ Fragments ∷ Window ∷ Status ∷ Image ∷ Reboot ∷ Check ∷ []

pub record AreTold : Type 0 where
  pub fields : map field_number (field.FragSize ∷ field.Parity ∷ field.Group ∷ field.Window ∷ field.Devices ∷ field.Index ∷ []) ≡ range_with_len 1 6
  pub requests_are : map request_number requests ≡ range_with_len 1 8
  pub asked : fields_of (At Window) ≡ record { stage = 0; request = 4; bits = 0 }
  pub updated : fields_of Updated ≡ record { stage = 1; request = 0; bits = 0 }
  pub refused : fields_of (Refused Fragments 7) ≡ record { stage = 2; request = 3; bits = 7 }
  pub status : status_fields (record { received = 1; missing = 2; norows = true }) ≡ record { received = 1; missing = 2; norows = true }
  -- NOTHING 1, SPENT 9
  pub all_sent : spent_number spent.Fragments ≡ 1
  pub no_count : spent_number spent.Counts ≡ 9
