-- Where four sessions are, by computing.
use Rattle.std.proofs.Common.{◌≡◌, ℕ, true, false, List, Option, Some, None, refl, arith}
use Rattle.std.specs.Prelude.{is_some}
use Rattle.row_elimination.specs.Room.{has_room, words_for}
use Rattle.frag_session.specs.Setup.{setup_bits, wrong_coding, too_large, other_descriptor}
use Rattle.frag_session.specs.Session.{Session}
use Rattle.flash_session.specs.Contents.{byte_at}
use Rattle.flash_session.specs.HeldSession.{HeldSession}
use Rattle.flash_session.specs.Sessions.{LiesForAs}
use Rattle.session_store.specs.HeldForeign as foreign
use Rattle.session_store.specs.WorkedPlaces.{WorkedRanges, WorkedRooms}

-- whether the gate of the range is open
open_there : (h : HeldSession) (o : Option Session) (c : List ℕ) → byte_at c h.base ≡ 0xa5 → LiesForAs h o c → is_some o ≡ true
open_there h None c gate lies = absurd (lies gate)
open_there h (Some s) c gate lies = refl

shut_there : (h : HeldSession) (o : Option Session) (c : List ℕ) → byte_at c h.base ≡ 0x00 → LiesForAs h o c → is_some o ≡ false
shut_there h None c gate lies = refl
shut_there h (Some s) c gate lies = absurd (omega (arith, gate, lies.lies.header))

pub ranges : WorkedRanges
ranges = record {
  first = refl;
  second = refl;
  third = refl;
  fourth = refl;
  none_there = λ table lies.
      rw (shut_there _ table.first _ refl lies.first, shut_there _ table.second _ refl lies.second, shut_there _ table.third _ refl lies.third, shut_there _ table.fourth _ refl lies.fourth) refl;
  first_there = λ table lies.
      rw (open_there _ table.first _ refl lies.first, shut_there _ table.second _ refl lies.second, shut_there _ table.third _ refl lies.third, shut_there _ table.fourth _ refl lies.fourth) refl;
  second_there = λ table lies.
      rw (shut_there _ table.first _ refl lies.first, open_there _ table.second _ refl lies.second, shut_there _ table.third _ refl lies.third, shut_there _ table.fourth _ refl lies.fourth) refl;
  third_there = λ table lies.
      rw (shut_there _ table.first _ refl lies.first, shut_there _ table.second _ refl lies.second, open_there _ table.third _ refl lies.third, shut_there _ table.fourth _ refl lies.fourth) refl;
  fourth_there = λ table lies.
      rw (shut_there _ table.first _ refl lies.first, shut_there _ table.second _ refl lies.second, shut_there _ table.third _ refl lies.third, open_there _ table.fourth _ refl lies.fourth) refl;
  first_foreign = λ bytes place here. foreign.first here;
  second_foreign = λ bytes place none here. foreign.second none here;
  third_foreign = λ bytes place none nothing here. foreign.third none nothing here;
}

pub rooms : WorkedRooms
unfolding setup_bits wrong_coding too_large other_descriptor has_room words_for
rooms = search
