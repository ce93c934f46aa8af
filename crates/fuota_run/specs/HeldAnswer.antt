-- An answer while it is made, and what it answers.
use Rattle.std.specs.Prelude.{◌≡◌, ◌≢◌, ℕ, ◌+◌, ◌≤◌, false, List, length, ⊤, Result, Ok, Err}
use Rattle.std.specs.Io.KnownBytes.{IsAtEnd}
use Rattle.image_slots.specs.Image.{is_image}
use Rattle.fuota_run.specs.declared.answers.Answer.{Answer as Made}
use Rattle.fuota_run.specs.declared.source.SourceError.{SourceError}
use Rattle.fuota_run.specs.declared.source.SourceError.TheVariants as error
use Rattle.fuota_run.specs.declared.images.ImageError.{ImageError}
use Rattle.fuota_run.specs.declared.images.ImageError.TheVariants.{Unread, Refused}
use Rattle.fuota_run.specs.declared.status.Status.TheVariants as status
use Rattle.report_lines.specs.declared.faults.LineError.{LineError}
use Rattle.report_lines.specs.declared.faults.LineError.TheVariants as world
use Rattle.fuota_run.specs.Limits.{image_limit}
use Rattle.fuota_run.specs.Outside.{HasRisen}
use Rattle.fuota_run.specs.Source.{IsSource, IsTaken, IsTooLong}
use Rattle.fuota_run.specs.Answer.{Answer, answer, image_refused, read_fault, refused, taken_text}
use Rattle.fuota_run.specs.Ending.{OutsideFiles}

-- its status and its text
abbrev pub answer_in : Made → Answer
answer_in r = answer r.status r.text.items

abbrev pub seen_answer : Result Made LineError → Result Answer LineError
seen_answer (Ok r) = Ok (answer_in r)
seen_answer (Err e) = Err e

-- the answer of a campaign, or its first refused line; there is none where memory was missing
abbrev pub IsMadeOf : Result Answer LineError → Answer → Type 0
IsMadeOf (Ok x) a = a ≡ x
IsMadeOf (Err (world.Line fault)) a = a ≡ refused fault
IsMadeOf (Err world.Memory) a = ⊥

-- the answer, unless memory was missing
abbrev pub IsRecovery : Answer → Result Answer LineError → Type 0
IsRecovery a (Ok x) = x ≡ a
IsRecovery a (Err (world.Line fault)) = ⊥
IsRecovery a (Err world.Memory) = ⊤

-- the answer for a source that was not read; there is none where memory was missing
abbrev pub IsUnreadAnswer : SourceError → Answer → Type 0
IsUnreadAnswer error.Memory a = ⊥
IsUnreadAnswer error.Failed a = a ≡ read_fault
IsUnreadAnswer (error.TooLong taken) a = a ≡ answer (status.TooLong taken) (taken_text taken)

-- the answer of a file: its text, or its first refused line; there is none where memory was missing
abbrev pub IsTextAnswer : Result (List ℕ) LineError → Answer → Type 0
IsTextAnswer (Ok text) a = a ≡ answer status.Done text
IsTextAnswer (Err (world.Line fault)) a = a ≡ refused fault
IsTextAnswer (Err world.Memory) a = ⊥

-- ---- an image that was not taken

-- its source was not read: it is too long, and so many of its bytes were taken, or a call failed
pub record IsUnreadImage (files : OutsideFiles) (name : List ℕ) (e : SourceError) : Type 0 where
  pub long : (taken : ℕ) → e ≡ error.TooLong taken → IsTooLong files.held name image_limit
  pub count : (taken : ℕ) → e ≡ error.TooLong taken → taken ≡ image_limit + 1
  pub taken : (taken : ℕ) → e ≡ error.TooLong taken → IsTaken files.held name taken files.left
  pub failed : e ≡ error.Failed → HasRisen files.before files.after
  pub quiet : e ≢ error.Failed → files.after ≡ files.before

-- it was read to its end, and is no image file
pub record IsNoImage (files : OutsideFiles) (name : List ℕ) : Type 0 where
  pub bytes : List ℕ
  pub source : IsSource files.held name image_limit bytes
  pub within : length bytes ≤ image_limit
  pub other : is_image bytes ≡ false
  pub end : IsAtEnd files.left
  pub quiet : files.after ≡ files.before

abbrev pub IsImageFault : OutsideFiles → (name : List ℕ) → ImageError → Type 0
IsImageFault files name (Unread e) = IsUnreadImage files name e
IsImageFault files name Refused = IsNoImage files name

-- the answer for an image that was not taken; there is none where memory was missing
abbrev pub IsImageAnswer : ImageError → Answer → Type 0
IsImageAnswer (Unread e) a = IsUnreadAnswer e a
IsImageAnswer Refused a = a ≡ image_refused
