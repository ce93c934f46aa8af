-- Old fragments add nothing.
use Rattle.std.specs.Prelude.{◌≡◌, ◌+◌, ◌*◌, ◌≤◌, List, length}
use Rattle.frag_model.specs.Fragments.{Fragment, Shape}
use Rattle.frag_model.specs.Laws.{AreNumbered}
use Rattle.frag_model.specs.News.{is_new, news, AllNew, MeanTheSame}

pub record OldFragmentsAddNothing : Type 0 where
  -- without them a list means the same
  pub same : (shape : Shape) (heard : List Fragment) → MeanTheSame shape heard (news shape heard)
  -- what is new after a list is new after it without them
  pub again : (shape : Shape) (f : Fragment) (older : List Fragment)
      → is_new shape f (news shape older) ≡ is_new shape f older
  -- so that those that are left are all new
  pub all_new : (shape : Shape) (heard : List Fragment) → AllNew shape (news shape heard)
  -- and no more than these
  pub few : (shape : Shape) (heard : List Fragment) → AreNumbered heard
      → length (news shape heard) ≤ 2 * shape.nb_frag + 1
