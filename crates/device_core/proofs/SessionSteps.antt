-- What holds of a new session, and of a session with a fragment more, holds after each setup and each fragment.
use Rattle.std.proofs.Common.{◌≡◌, ℕ, Bool, true, false, cond, ◌==◌, List, Option, None, Some, IfSome, is_none, option_map, refl, eqb-true}
use Rattle.frag_session.specs.declared.setups.SetupReq.{SetupReq}
use Rattle.frag_session.specs.declared.setups.Limits.{Limits}
use Rattle.frag_session.specs.declared.answers.Via.{Via}
use Rattle.frag_session.specs.Setup.{Room, setup_bits, same_setup}
use Rattle.frag_session.specs.Session.{Session, new_session, renewed, after_setup, followed, after_fragment, drop_cause}
use Rattle.frag_session.specs.HeldHistory.{IsSetUp}
use Rattle.frag_session.proofs.Calls.{accepted, set_up_fine}

renewed_by : (P : Session → Type 0) (limits : Limits) (s : Session) (req : SetupReq) (b : Bool)
    → P (new_session limits req) → P s → P (cond b s (new_session limits req))
renewed_by P limits s req true fresh here = here
renewed_by P limits s req false fresh here = fresh

renewed_keeps : (P : Session → Type 0) (limits : Limits) (s : Option Session) (req : SetupReq)
    → P (new_session limits req) → IfSome s P → P (renewed limits s req)
unfolding renewed
renewed_keeps P limits None req fresh here = fresh
renewed_keeps P limits (Some s) req fresh here = renewed_by P limits s req (same_setup s.setup req) fresh here

setup_by : (P : Session → Type 0) (limits : Limits) (room : Room) (s : Option Session) (req : SetupReq) (b : Bool)
    → (setup_bits limits room req == 0) ≡ b
    → (IsSetUp req → P (new_session limits req)) → IfSome s P → IfSome (cond b (Some (renewed limits s req)) s) P
setup_by P limits room s req true is fresh here =
    renewed_keeps P limits s req (fresh (set_up_fine req (accepted limits room req (eqb-true _ _ is)).0)) here
setup_by P limits room s req false is fresh here = here

-- a setup that is accepted makes a file
pub setup_keeps : (P : Session → Type 0) (limits : Limits) (room : Room) (s : Option Session) (req : SetupReq)
    → (IsSetUp req → P (new_session limits req)) → IfSome s P
    → IfSome (after_setup limits room s req) P
unfolding after_setup
setup_keeps P limits room s req fresh here = setup_by P limits room s req _ refl fresh here

fragment_by : (P : Session → Type 0) (s : Option Session) (n : ℕ) (part : List ℕ) (mark : ℕ) (b : Bool)
    → ((x : Session) → P x → P (followed x n part mark)) → IfSome s P
    → IfSome (cond b (option_map (λ x. followed x n part mark) s) s) P
fragment_by P None n part mark true follows here = tt
fragment_by P (Some s) n part mark true follows here = follows s here
fragment_by P s n part mark false follows here = here

pub fragment_keeps : (P : Session → Type 0) (s : Option Session) (way : Via) (n : ℕ) (part : List ℕ) (mark : ℕ)
    → ((x : Session) → P x → P (followed x n part mark)) → IfSome s P
    → IfSome (after_fragment s way n part mark) P
unfolding after_fragment
fragment_keeps P s way n part mark follows here =
    fragment_by P s n part mark (is_none (drop_cause s way n part)) follows here
