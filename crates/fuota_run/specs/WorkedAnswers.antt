-- Answers worked out: the status that the program ends with, and what is written with it.
use Rattle.std.specs.Prelude.{◌≡◌, ℕ, nat_lt, true, false, List, [], ◌∷◌, length, codes, Option, Some, None, Ok, Err}
use Rattle.image_slots.specs.Image.{is_image}
use Rattle.fuota_run.specs.declared.status.Status.TheVariants as status
use Rattle.campaign_world.specs.declared.recovery.NoFile.TheVariants as no_file
use Rattle.report_lines.specs.declared.faults.LineWhy.TheVariants as why
use Rattle.fuota_run.specs.Limits.{image_limit, script_limit}
use Rattle.fuota_run.specs.Exit.{exit_code}
use Rattle.wire_base.specs.declared.refusal.Direction.TheVariants.{Down, Up}
use Rattle.payload_replay.specs.Decode.{Decodes}
use Rattle.fuota_run.specs.declared.forms.FileForm.{FileForm}
use Rattle.fuota_run.specs.declared.forms.FileForm.TheVariants.{Decode}
use Rattle.fuota_run.specs.declared.forms.ScriptForm.{ScriptForm}
use Rattle.fuota_run.specs.Words.{port_of_word, device_of_word, seed_of_word, direction_of_word}
use Rattle.fuota_run.specs.Answer.{Answer, answer, usage, image_refused, read_fault, too_long, refused, not_complete, recovered, text_answer, file_text, campaign_answer, campaigns_answer, IsFileAnswer}

pub record AreAnswers : Type 0 where
  -- the numbers of the statuses
  pub done : exit_code status.Done ≡ 0
  pub usage_code : exit_code status.Usage ≡ 2
  pub image_code : exit_code status.ImageRefused ≡ 3
  pub script_code : exit_code status.ScriptRefused ≡ 4
  pub read_code : exit_code status.ReadFault ≡ 5
  pub write_code : exit_code status.WriteFault ≡ 6
  pub memory_code : exit_code status.Memory ≡ 7
  pub long_code : exit_code (status.TooLong 65537) ≡ 8
  pub no_file_code : exit_code status.NotComplete ≡ 9
  -- what is written
  pub usage_said : usage ≡ answer status.Usage (codes
      "usage: fuota campaign IMAGE SCRIPT, recover IMAGE SCRIPT DEVICE, replay FILE, decode PORT DIR FILE, generate SEED, capture FILE, campaigns IMAGE IMAGE SCRIPT\n")
  pub image_said : image_refused ≡ answer status.ImageRefused (codes "image refused\n")
  pub fault_said : read_fault ≡ answer status.ReadFault (codes "read fault\n")
  pub long_image : too_long image_limit ≡ answer (status.TooLong 262145) (codes "too long 262145\n")
  pub long_script : too_long script_limit ≡ answer (status.TooLong 1048577) (codes "too long 1048577\n")
  pub line_said : refused (record { line = 5; why = why.Unsent }) ≡ answer status.ScriptRefused (codes "line 5 unsent\n")
  pub none_said : not_complete 64 no_file.None ≡ answer status.NotComplete (codes "device 64 none\n")
  pub receiving_said : not_complete 1 no_file.Receiving ≡ answer status.NotComplete (codes "device 1 receiving\n")
  pub no_rows_said : not_complete 1 no_file.NoRows ≡ answer status.NotComplete (codes "device 1 norows\n")
  pub conflict_said : not_complete 1 no_file.Conflict ≡ answer status.NotComplete (codes "device 1 conflict\n")
  pub file_said : recovered 3 (Ok (0x5a ∷ 0x00 ∷ [])) ≡ answer status.Done (0x5a ∷ 0x00 ∷ [])
  pub no_file_said : recovered 12 (Err no_file.NoRows) ≡ answer status.NotComplete (codes "device 12 norows\n")
  pub text_said : text_answer (Ok (codes "end\n")) ≡ answer status.Done (codes "end\n")
  pub refused_said : text_answer (Err (record { line = 7; why = why.Limit }))
      ≡ answer status.ScriptRefused (codes "line 7 limit\n")
  -- words that name a device, a port, a seed and a direction, and the first that do not
  pub first_device : device_of_word (codes "1") ≡ Some 1
  pub last_device : device_of_word (codes "64") ≡ Some 64
  pub device_0 : device_of_word (codes "0") ≡ None
  pub device_65 : device_of_word (codes "65") ≡ None
  pub device_01 : device_of_word (codes "01") ≡ None
  pub no_decimal : device_of_word (codes "one") ≡ None
  pub first_port : port_of_word (codes "200") ≡ Some 200
  pub last_port : port_of_word (codes "203") ≡ Some 203
  pub port_199 : port_of_word (codes "199") ≡ None
  pub port_204 : port_of_word (codes "204") ≡ None
  pub last_seed : seed_of_word (codes "4294967295") ≡ Some 4294967295
  pub seed_beyond : seed_of_word (codes "4294967296") ≡ None
  pub no_seed : seed_of_word (codes "") ≡ None
  pub down : direction_of_word (codes "down") ≡ Some Down
  pub up : direction_of_word (codes "up") ≡ Some Up
  pub capital_up : direction_of_word (codes "Up") ≡ None
  pub no_direction : direction_of_word (codes "") ≡ None

-- of two campaigns the answer is for the first image before the second, and for both before the script, whatever comes after
pub record AreInOrder : Type 0 where
  pub first_missing : (b script : Option (List ℕ)) → campaigns_answer None b script ≡ read_fault
  pub first_refused : (a : List ℕ) (b script : Option (List ℕ)) → nat_lt image_limit (length a) ≡ false → is_image a ≡ false
      → campaigns_answer (Some a) b script ≡ image_refused
  pub second_missing : (a : List ℕ) (script : Option (List ℕ)) → nat_lt image_limit (length a) ≡ false → is_image a ≡ true
      → campaigns_answer (Some a) None script ≡ read_fault
  pub second_refused : (a b : List ℕ) (script : Option (List ℕ)) → nat_lt image_limit (length a) ≡ false → is_image a ≡ true
      → nat_lt image_limit (length b) ≡ false → is_image b ≡ false → campaigns_answer (Some a) (Some b) script ≡ image_refused
  pub first_long : (a : List ℕ) (b script : Option (List ℕ)) → nat_lt image_limit (length a) ≡ true
      → campaigns_answer (Some a) b script ≡ too_long image_limit
  pub second_long : (a b : List ℕ) (script : Option (List ℕ)) → nat_lt image_limit (length a) ≡ false → is_image a ≡ true
      → nat_lt image_limit (length b) ≡ true → campaigns_answer (Some a) (Some b) script ≡ too_long image_limit
  -- of one campaign too; and for a script that is missing or too long after the image
  pub missing : (what : ScriptForm) (script : Option (List ℕ)) → campaign_answer what None script ≡ read_fault
  pub long : (what : ScriptForm) (image : List ℕ) (script : Option (List ℕ)) → nat_lt image_limit (length image) ≡ true
      → campaign_answer what (Some image) script ≡ too_long image_limit
  pub bad : (what : ScriptForm) (image : List ℕ) (script : Option (List ℕ)) → nat_lt image_limit (length image) ≡ false → is_image image ≡ false
      → campaign_answer what (Some image) script ≡ image_refused
  pub script_missing : (what : ScriptForm) (image : List ℕ) → nat_lt image_limit (length image) ≡ false → is_image image ≡ true
      → campaign_answer what (Some image) None ≡ read_fault
  pub script_long : (what : ScriptForm) (image script : List ℕ) → nat_lt image_limit (length image) ≡ false → is_image image ≡ true
      → nat_lt script_limit (length script) ≡ true → campaign_answer what (Some image) (Some script) ≡ too_long script_limit
  -- a file of payloads is decoded on the port and in the direction that are asked for, where it is there and not too long
  pub decoded : (file : List ℕ) (a : Answer) → IsFileAnswer (file_text (Decode 202 Up)) (Some file) a
      → IsFileAnswer (Decodes 202 Up) (Some file) a
  pub decoded_down : (file : List ℕ) (a : Answer) → IsFileAnswer (file_text (Decode 203 Down)) (Some file) a
      → IsFileAnswer (Decodes 203 Down) (Some file) a
  pub file_missing : (what : FileForm) (a : Answer) → IsFileAnswer (file_text what) None a → a ≡ read_fault
  pub file_long : (what : FileForm) (file : List ℕ) (a : Answer) → nat_lt script_limit (length file) ≡ true
      → IsFileAnswer (file_text what) (Some file) a → a ≡ too_long script_limit
