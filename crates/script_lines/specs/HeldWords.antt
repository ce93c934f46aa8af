-- What is known of the words of a line of which a part was read.
use Rattle.std.specs.Prelude.{◌≡◌, ℕ, List, [], ◌∷◌, ◌++◌, codes, Option, Some, None}
use Rattle.script_lines.specs.Lines.{words_of}
use Rattle.script_lines.specs.Numbers.{decimal_of}
use Rattle.script_lines.specs.declared.forms.Form.{Form}
use Rattle.script_lines.specs.declared.forms.Form.TheVariants.{At, Wake, Migrate, Power, Ask, Up}
use Rattle.script_lines.specs.Forms.{form_of}
use Rattle.script_lines.specs.PairForms.{pair_form_of, of_none}

-- the first word is this decimal, and the others are the words of the rest
pub record DecimalFirst (bytes : List ℕ) (number : ℕ) (rest : List ℕ) : Type 0 where
  pub digits : List ℕ
  pub words : words_of bytes ≡ digits ∷ words_of rest
  pub decimal : decimal_of digits ≡ Some number

-- WORD, where it may be left out at the end of a line, and is 0 then
abbrev pub random_of : List (List ℕ) → Option ℕ
random_of [] = Some 0
random_of (digits ∷ []) = decimal_of digits
random_of (digits ∷ another ∷ more) = None

-- the first word spells this, and [WORD] stands after it
pub record WordLast {A : Type 0} (spelled_by : List ℕ → Option A) (bytes : List ℕ) (value : A) (random : ℕ) : Type 0 where
  pub first : List ℕ
  pub more : List (List ℕ)
  pub words : words_of bytes ≡ first ∷ more
  pub spelled : spelled_by first ≡ Some value
  pub word : random_of more ≡ Some random

-- a line has this form, and in two campaigns' script the same, of no campaign
pub record IsForm (line : List ℕ) (form : Form) : Type 0 where
  pub one : form_of line ≡ Some form
  pub two : pair_form_of line ≡ of_none (Some form)

-- the form of a line whose last word is this decimal, by the keyword before it
pub record DecimalLast (rest : List ℕ) (n : ℕ) : Type 0 where
  pub decimal : decimal_of rest ≡ Some n
  pub up : form_of (codes "up " ++ rest) ≡ Some (Up n)
  pub ask : IsForm (codes "ask " ++ rest) (Ask n)
  pub at : IsForm (codes "at " ++ rest) (At n)
  pub wake : IsForm (codes "wake " ++ rest) (Wake n)
  pub migrate : IsForm (codes "migrate " ++ rest) (Migrate n)
  pub power : IsForm (codes "power " ++ rest) (Power n)
