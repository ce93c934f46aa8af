-- What a run of the program writes for C.
use Rattle.std.specs.Prelude.{◌≡◌, ◌⊎◌, ◌<◌, ◌≤◌, ℕ, List, length}
use Rattle.c_base.specs.Answer.{done, no_room, no_memory}
use Rattle.c_base.specs.Bytes.{IsPut}
use Rattle.fuota_run.specs.Answer.{Answer, answer, IsAnswer}
use Rattle.fuota_run.specs.Exit.{exit_code}
use Rattle.fuota_run.specs.Memory.{Named, held_by}
use Rattle.fuota_run_c.specs.declared.answering.Ran.{Ran}
use Rattle.fuota_run_c.specs.declared.run.RanFields.{RanFields}
use Rattle.fuota_run_c.specs.Given.{AreWords}

abbrev pub answer_in : Ran → Answer
answer_in ran = answer ran.status ran.text.items

-- the answer's status, and the length of its text
pub record IsTold (a : Answer) (out : RanFields) : Type 0 where
  pub status : out.status ≡ exit_code a.status
  pub count : out.length ≡ length a.text

-- the answer is told, and its text is at the front, where it has room
pub record IsWritten (a : Answer) (old new : List ℕ) (out : RanFields) (result : ℕ) : Type 0 where
  pub answered : result ≡ done
  pub fits : length a.text ≤ length old
  pub put : IsPut a.text old new
  pub told : IsTold a out

-- the answer is told, and its text has no room
pub record HasNoRoom (a : Answer) (old new : List ℕ) (out : RanFields) (result : ℕ) : Type 0 where
  pub answered : result ≡ no_room
  pub over : length old < length a.text
  pub stays : new ≡ old
  pub told : IsTold a out

-- memory was missing, and nothing is written
pub record HasNoMemory (old new : List ℕ) (before out : RanFields) (result : ℕ) : Type 0 where
  pub answered : result ≡ no_memory
  pub stays : new ≡ old
  pub untold : out ≡ before

-- the answer of the program to the words, over the files alone
pub record IsProgrammed (told : List (List ℕ)) (files : List Named) (a : Answer) : Type 0 where
  pub words : List (List ℕ)
  pub taken : AreWords told words
  pub answered : IsAnswer words (held_by files) a

-- it is written, or told where it has no room
abbrev pub IsAnswered : (told : List (List ℕ)) → List Named → (old new : List ℕ) → RanFields → ℕ → Type 0
IsAnswered told files old new out result =
    (a : Answer) × IsProgrammed told files a × (IsWritten a old new out result ⊎ HasNoRoom a old new out result)

abbrev pub IsRun : (told : List (List ℕ)) → List Named → (old new : List ℕ) → (before out : RanFields) → ℕ → Type 0
IsRun told files old new before out result =
    IsAnswered told files old new out result ⊎ HasNoMemory old new before out result
