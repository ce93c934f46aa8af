-- Fragments whose fields are within the bytes of a record.
use Rattle.std.specs.Prelude.{◌^◌, ◌<◌, List, [], ◌∷◌}
use Rattle.frag_model.specs.Fragments.{Fragment}

-- the number and the mark of a fragment are of their widths
pub record InRange (f : Fragment) : Type 0 where
  pub number : f.number < 2 ^ 16
  pub mark : f.mark < 2 ^ 64

abbrev pub AllInRange : List Fragment → Type 0
AllInRange [] = Unit {0}
AllInRange (f ∷ fs) = InRange f × AllInRange fs
