-- Lines worked out: each word of a report, and of a refused line, with numbers that differ.
use Rattle.std.specs.Prelude.{◌≡◌, ℕ, true, false, [], ◌∷◌, codes, None, Some}
use Rattle.frag_session.specs.declared.answers.Verdict.{Verdict}
use Rattle.frag_session.specs.declared.answers.Verdict.TheVariants as verdict
use Rattle.frag_session.specs.Session.{Seen}
use Rattle.image_slots.specs.declared.view.ImageState.TheVariants as next
use Rattle.device_core.specs.declared.config.Class.TheVariants as class
use Rattle.device_core.specs.Device.{DeviceState, first_device}
use Rattle.device_core.specs.WorkedConfig.{worked_config}
use Rattle.campaign_server.specs.declared.stage.Stage.TheVariants.{At, Updated, Refused}
use Rattle.campaign_server.specs.declared.stage.Request.TheVariants as request
use Rattle.report_lines.specs.declared.faults.LineWhy.TheVariants as why
use Rattle.report_lines.specs.Faults.{fault_line}
use Rattle.report_lines.specs.Devices.{stage_text, next_text, standing_line, device_line, counts_line}
use Rattle.report_lines.specs.Sessions.{same, whole, same_word, verdict_text, session_text, session_line}

-- a device whose numbers all differ: its clock is 7 s ahead and its next token 3, it runs version 2 and version 5 is next
abbrev pub worked_device : DeviceState
worked_device = record (first_device (record (worked_config class.C 0) { rows = 4; area = 100 })) {
  clock = record { offset = 7; token = 3 };
  slots = record { formats = 2; version = 2; running = 9 ∷ []; next = next.Valid 5; next_file = 8 ∷ [] };
}

-- a session that heard 4 fragments of a file of two bytes
abbrev pub worked_session : (missing : ℕ) → Verdict → Seen
worked_session missing v = record { received = 4; missing = missing; verdict = v; file = 17 ∷ 34 ∷ [] }

pub record AreLines : Type 0 where
  -- the words of a stage
  pub version : stage_text (At request.Version) ≡ codes "version"
  pub group : stage_text (At request.Group) ≡ codes "group"
  pub fragments : stage_text (At request.Fragments) ≡ codes "fragments"
  pub window : stage_text (At request.Window) ≡ codes "window"
  pub status : stage_text (At request.Status) ≡ codes "status"
  pub image : stage_text (At request.Image) ≡ codes "image"
  pub reboot : stage_text (At request.Reboot) ≡ codes "reboot"
  pub check : stage_text (At request.Check) ≡ codes "check"
  pub updated : stage_text Updated ≡ codes "updated"
  pub refused_with_bits : stage_text (Refused request.Window 28) ≡ codes "refused window 28"
  -- of what is next
  pub no_next : next_text next.None ≡ codes "none"
  pub corrupt : next_text next.Corrupt ≡ codes "corrupt"
  pub incompatible : next_text next.Incompatible ≡ codes "incompatible"
  pub valid : next_text (next.Valid 2) ≡ codes "valid 2"
  -- of a device
  pub device_words : standing_line (codes "3") (At request.Check)
      (record { offset = 4294967295; token = 15; running = 2; next = next.None })
      ≡ codes "device 3 check clock 4294967295 token 15 running 2 next none\n"
  pub device : device_line (codes "1") Updated worked_device ≡ codes "device 1 updated clock 7 token 3 running 2 next valid 5\n"
  pub device_named : device_line (codes "2 b") (At request.Status) worked_device
      ≡ codes "device 2 b status clock 7 token 3 running 2 next valid 5\n"
  pub counts : counts_line (record { deaf = 1; refused = 2; full = 3; dropped = 4 })
      ≡ codes "counts deaf 1 refused 2 full 3 dropped 4\n"
  -- of a session
  pub session : session_text 0 16383 255 (codes "receiving") ≡ codes "session 0 received 16383 missing 255 receiving\n"
  pub receiving : verdict_text verdict.Receiving (codes " same") ≡ codes "receiving"
  pub complete : verdict_text (verdict.Complete 18) (codes " same") ≡ codes "complete at 18 same"
  pub no_rows : verdict_text (verdict.NoRows 18) (codes " same") ≡ codes "norows at 18"
  pub conflict : verdict_text (verdict.Conflict 18) (codes " same") ≡ codes "conflict at 18"
  pub says_same : same_word true ≡ codes " same"
  pub says_other : same_word false ≡ codes " other"
  pub no_session : session_line whole 2 None ≡ []
  pub same_file : session_line (same (17 ∷ 34 ∷ [])) 1 (Some (worked_session 0 (verdict.Complete 6)))
      ≡ codes "session 1 received 4 missing 0 complete at 6 same\n"
  pub other_file : session_line (same (17 ∷ 35 ∷ [])) 1 (Some (worked_session 0 (verdict.Complete 6)))
      ≡ codes "session 1 received 4 missing 0 complete at 6 other\n"
  pub whole_file : session_line whole 3 (Some (worked_session 0 (verdict.Complete 6)))
      ≡ codes "session 3 received 4 missing 0 complete at 6\nfile 1122\n"
  pub no_file : session_line whole 3 (Some (worked_session 2 verdict.Receiving)) ≡ codes "session 3 received 4 missing 2 receiving\n"
  -- of a refused line
  pub limit : fault_line (record { line = 20001; why = why.Limit }) ≡ codes "line 20001 limit\n"
  pub syntax : fault_line (record { line = 2; why = why.Syntax }) ≡ codes "line 2 syntax\n"
  pub order : fault_line (record { line = 3; why = why.Order }) ≡ codes "line 3 order\n"
  pub range : fault_line (record { line = 4; why = why.Range }) ≡ codes "line 4 range\n"
  pub no_device : fault_line (record { line = 5; why = why.Device }) ≡ codes "line 5 device\n"
  pub unsent : fault_line (record { line = 6; why = why.Unsent }) ≡ codes "line 6 unsent\n"
  pub time : fault_line (record { line = 7; why = why.Time }) ≡ codes "line 7 time\n"
