-- The numbers of the answers, as the header has them.
use Rattle.std.specs.Prelude.{◌≡◌, ℕ, List, [], ◌∷◌}
use Rattle.std.specs.List.{range_with_len}
use Rattle.c_base.specs.Answer.{done, nothing, no_object, range, no_room, no_memory, refused, deaf, full, spent, corrupt, foreign, down, flash, no_receiver}

abbrev pub answers : List ℕ
answers = done ∷ nothing ∷ no_object ∷ range ∷ no_room ∷ no_memory ∷ refused ∷ deaf ∷ full ∷ spent ∷ corrupt ∷ foreign ∷ down ∷ flash ∷ []

pub record WorkedAnswers : Type 0 where
  pub in_order : answers ≡ range_with_len 0 14
  pub none : no_receiver ≡ 255
