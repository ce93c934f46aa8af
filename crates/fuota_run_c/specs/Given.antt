-- What C hands in: words, and files by name.
use Rattle.std.specs.Prelude.{◌≡◌, ℕ, Bool, true, false, List, [], map, All, IsUtf8, Some, unwrap_or}
use Rattle.fuota_run.specs.declared.status.Status.{Status}
use Rattle.fuota_run.specs.declared.status.Status.TheVariants as status
use Rattle.fuota_run.specs.Memory.{Named, held_by}
use Rattle.fuota_run.specs.Outside.{Held}
use Rattle.fuota_run_c.specs.declared.given.FileFields.{FileFields}
use Rattle.fuota_run_c.specs.declared.words.WordFields.{WordFields}

abbrev pub words_in : List WordFields → List (List ℕ)
words_in words = map (λ w. w.bytes.now) words

-- the words that the program takes: those that C hands in, or none where one of them is no text
pub record AreWords (told words : List (List ℕ)) : Type 0 where
  pub texts : All IsUtf8 told → words ≡ told
  pub others : ¬ (All IsUtf8 told) → words ≡ []

abbrev pub files_in : List FileFields → List Named
files_in files = map (λ f. (f.name.now, f.bytes.now)) files

-- what a name holds where each name holds something: the bytes of its file, and these where there is none
abbrev pub held_with : List Named → (others : List ℕ) → List ℕ → List ℕ
held_with files others name = unwrap_or (held_by files name) others

abbrev pub filled : List Named → (others : List ℕ) → Held
filled files others name = Some (held_with files others name)

-- a source is longer than its limit
abbrev pub is_too_long : Status → Bool
is_too_long (status.TooLong taken) = true
is_too_long s = false
