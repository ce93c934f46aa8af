-- When a session is decided, and what is then known, in the field's own words.
-- (TS004-1.0.0 leaves recovery to the device; when it ends, and how, is this project's profile.)
use Rattle.std.specs.Prelude.{◌≡◌, ◌≢◌, ◌↔◌, ℕ, ◌<◌, ◌≤◌, List, [], ◌∷◌, ◌++◌}
use Rattle.frag_model.specs.Fragments.{Fragment, Shape}
use Rattle.frag_model.specs.Gain.{excess}
use Rattle.frag_model.specs.File.{FileFits, OneFileFits}
use Rattle.frag_session.specs.declared.answers.Verdict.TheVariants as verdict
use Rattle.frag_session.specs.Session.{Session, shape_of, seen_of}

-- after each fragment that was heard this holds of all that was heard by then
abbrev pub AfterEach : (List Fragment → Type 0) → List Fragment → Type 0
AfterEach Holds [] = Unit {0}
AfterEach Holds (f ∷ older) = Holds (f ∷ older) × AfterEach Holds older

-- ---- what was heard so far, taken for itself

-- two different files fit
pub record TwoFilesFit (shape : Shape) (padding : ℕ) (heard : List Fragment) (first second : List ℕ) : Type 0 where
  pub one : FileFits shape padding heard first
  pub other : FileFits shape padding heard second
  pub differ : first ≢ second

-- no file fits
abbrev pub NoFileFits : Shape → ℕ → List Fragment → Type 0
NoFileFits shape padding heard = (file : List ℕ) → FileFits shape padding heard file → ⊥

-- the rows hold the independent coded fragments
abbrev pub HasRoom : Shape → List Fragment → Type 0
HasRoom shape heard = excess shape heard ≤ shape.rows

-- it is open which file it is
pub record IsOpen (shape : Shape) (padding : ℕ) (heard : List Fragment) : Type 0 where
  pub room : HasRoom shape heard
  pub files : (first : List ℕ) × (second : List ℕ) × TwoFilesFit shape padding heard first second

-- the file is whole: only this one fits
pub record IsWhole (shape : Shape) (padding : ℕ) (file : List ℕ) (heard : List Fragment) : Type 0 where
  pub room : HasRoom shape heard
  pub alone : OneFileFits shape padding heard file

-- there are more independent coded fragments than rows, and some file fits
pub record Overflows (shape : Shape) (padding : ℕ) (heard : List Fragment) : Type 0 where
  pub over : shape.rows < excess shape heard
  pub file : (file : List ℕ) × FileFits shape padding heard file

-- ---- the first moment

-- after f, which has this mark, it holds; before f the file was open after each fragment
pub record IsMoment (shape : Shape) (padding : ℕ) (Holds : List Fragment → Type 0) (heard : List Fragment) (mark : ℕ) (newer : List Fragment) (f : Fragment) (older : List Fragment) : Type 0 where
  pub parted : heard ≡ newer ++ f ∷ older
  pub marked : f.mark ≡ mark
  pub before : AfterEach (IsOpen shape padding) older
  pub now : Holds (f ∷ older)

-- the fragment with this mark is the first after which the file is no longer open, and it then holds
abbrev pub FirstAt : Shape → ℕ → (List Fragment → Type 0) → List Fragment → ℕ → Type 0
FirstAt shape padding Holds heard mark = (newer : List Fragment) × (f : Fragment) × (older : List Fragment) × IsMoment shape padding Holds heard mark newer f older

-- a setup that makes a file: there are pieces, and the padding is shorter than one
pub record MakesFile (shape : Shape) (padding : ℕ) : Type 0 where
  pub some : 0 < shape.nb_frag
  pub short : padding < shape.frag_size

-- what is seen of one session, in terms of the files that fit
pub record IsDecidedAtFirst (s : Session) : Type 0 where
  -- whole from the first fragment on after which only one file fits
  pub complete : (mark : ℕ) → ((seen_of s).verdict ≡ verdict.Complete mark) ↔ ((file : List ℕ) × FirstAt (shape_of s) s.setup.padding (IsWhole (shape_of s) s.setup.padding file) s.heard mark)
  -- and that file is the one that is shown
  pub file : (mark : ℕ) (file : List ℕ) → FirstAt (shape_of s) s.setup.padding (IsWhole (shape_of s) s.setup.padding file) s.heard mark → (seen_of s).file ≡ file
  -- no rows from the first fragment on that is one independent coded fragment too many
  pub no_rows : (mark : ℕ) → ((seen_of s).verdict ≡ verdict.NoRows mark) ↔ FirstAt (shape_of s) s.setup.padding (Overflows (shape_of s) s.setup.padding) s.heard mark
  -- a conflict from the first fragment on after which no file fits
  pub conflict : (mark : ℕ) → ((seen_of s).verdict ≡ verdict.Conflict mark) ↔ FirstAt (shape_of s) s.setup.padding (NoFileFits (shape_of s) s.setup.padding) s.heard mark
  -- else two different files fit after each fragment
  pub receiving : ((seen_of s).verdict ≡ verdict.Receiving) ↔ AfterEach (IsOpen (shape_of s) s.setup.padding) s.heard

-- so it is with each session whose setup makes a file
abbrev pub FirstMoment : Type 0
FirstMoment = (s : Session) → MakesFile (shape_of s) s.setup.padding → IsDecidedAtFirst s
