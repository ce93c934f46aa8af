-- What a call does to the object of a handle, where there is one.
use Rattle.std.specs.Prelude.{Option, None, Some}

-- the call does to the object what P says; where there is none there is none after it, and N holds
abbrev pub Does : {H : Type 0} → (old new : Option H) → (P : H → H → Type 0) → (N : Type 0) → Type 0
Does None None P N = N
Does None (Some y) P N = ⊥
Does (Some x) None P N = ⊥
Does (Some x) (Some y) P N = P x y

-- the call says of the object what P says; where there is none, N holds
abbrev pub Tells : {H : Type 0} → Option H → (P : H → Type 0) → (N : Type 0) → Type 0
Tells None P N = N
Tells (Some x) P N = P x
