-- A session that can be opened: how much room it takes, and what a stop leaves of it.
use Rattle.std.proofs.Common.{◌≡◌, ℕ, ◌+◌, ◌*◌, ◌<◌, ◌≤◌, Bool, true, false, List, [], ◌∷◌, Option, None, Some, sym, ap₂, ◌∙◌, subst, arith, length, min}
use Rattle.std.proofs.lemmas.Bool.{ltb-false}
use Rattle.std.proofs.Math.Nat.{mul_comm}
use Rattle.flash_session.specs.Contents.{byte_at}
use Rattle.frag_session.specs.declared.setups.Limits.{Limits}
use Rattle.std.specs.Prelude.{if◌then◌else◌}
use Rattle.frag_model.specs.Fragments.{Fragment}
use Rattle.frag_model.specs.Laws.{AreNumbered}
use Rattle.frag_session.specs.declared.setups.SetupReq.{SetupReq}
use Rattle.frag_session.specs.declared.answers.Via.{Via}
use Rattle.frag_session.specs.declared.answers.Via.TheVariants as via
use Rattle.frag_session.specs.declared.answers.Cause.{Cause}
use Rattle.frag_session.specs.declared.answers.Cause.TheVariants as cause
use Rattle.frag_session.specs.Session.{Session, cause_of, excludes}
use Rattle.frag_session.specs.Setup.{Room, setup_bits}
use Rattle.frag_session.specs.HeldSteps.{extent_of}
use Rattle.frag_session.proofs.Calls.{accepted, room_for, can_hear}
use Rattle.flash_session.specs.HeldSession.{HeldSession, room_in}
use Rattle.flash_session.specs.Lies.{Fits}
use Rattle.flash_session.specs.Sessions.{stored_of, AreHearable, IsOpenable, LiesForAs, IsHeldAs}
use Rattle.flash_session.proofs.Places.{lies_within}
use Rattle.flash_session.specs.Seen.{FlashSeen, left}

-- its records and gates have room
pub record HasPlaces (h : HeldSession) (s : Session) : Type 0 where
  pub small : s.setup.frag_size ≤ 239
  pub most : 2 * s.setup.nb_frag + 1 ≤ 8193
  pub room : 24640 + (10 + s.setup.frag_size) * (2 * s.setup.nb_frag + 1) ≤ h.span

-- an accepted setup has its places
pub record SetupPlaces (h : HeldSession) (setup : SetupReq) : Type 0 where
  pub small : setup.frag_size ≤ 239
  pub most : 2 * setup.nb_frag + 1 ≤ 8193
  pub room : 24640 + (10 + setup.frag_size) * (2 * setup.nb_frag + 1) ≤ h.span

pub setup_places : (h : HeldSession) (setup : SetupReq) → setup_bits h.limits (room_in h) setup ≡ 0 → SetupPlaces h setup
setup_places h setup taken =
    let fine = accepted h.limits (room_in h) setup taken in
    let room = room_for (room_in h) h.limits.rows setup fine.1 in
    let long : 24640 + (2 * setup.nb_frag + 1) * (10 + setup.frag_size) ≤ h.span = ltb-false h.span (24640 + (2 * setup.nb_frag + 1) * (10 + setup.frag_size)) room.long in
    record {
      small = room.small;
      most = omega (arith, room.most);
      room = omega (arith, long, mul_comm (2 * setup.nb_frag + 1) (10 + setup.frag_size));
    }

pub openable_room : (h : HeldSession) (s : Session) → IsOpenable h s → HasPlaces h s
openable_room h s o = let p = setup_places h s.setup o.taken in record { small = p.small; most = p.most; room = p.room }

pub openable_fits : (h : HeldSession) (s : Session) (body : List ℕ) (t : ℕ) → length body ≡ 10 → IsOpenable h s → Fits h.span (stored_of s body t)
unfolding stored_of
openable_fits h s body t sized o = let places = openable_room h s o in record { body = sized; most = places.most; room = places.room }

-- what can be heard is numbered from 1 on
pub numbered_of : (setup : SetupReq) (heard : List Fragment) → AreHearable setup heard → AreNumbered heard
numbered_of setup [] h = tt
numbered_of setup (f ∷ older) h = ((can_hear setup via.Unicast f.number f.part h.0).0, numbered_of setup older h.1)

pub numbered_in : {h : HeldSession} (s : Session) → IsOpenable h s → AreNumbered s.heard
numbered_in s o = numbered_of s.setup s.heard o.hearable

-- what is heard by a group is heard by unicast
pub cause_unicast : (way : Via) (setup : SetupReq) (n : ℕ) (part : List ℕ) → cause_of setup way n part ≡ None → cause_of setup via.Unicast n part ≡ None
unfolding cause_of excludes
cause_unicast via.Unicast setup n part e = e
cause_unicast (via.Group g) setup n part e = by_group (excludes setup.mask (via.Group g)) _ e
  where
    by_group : (t : Bool) (o : Option Cause) → (if t then Some cause.Group else o) ≡ None → o ≡ None
    by_group true o e = let no : ⊥ = cc in absurd no
    by_group false o e = e

-- it depends only on the limits and the room
pub openable_same : (h k : HeldSession) (s : Session) → h.limits ≡ k.limits → extent_of k.slot ≡ extent_of h.slot → h.span ≡ k.span → h.words ≡ k.words → h.bytes ≡ k.bytes → IsOpenable h s → IsOpenable k s
openable_same h k s limits area span words bytes o =
    let rooms : room_in h ≡ room_in k = λ i. record { words = words i; bytes = bytes i; extent = sym area i; span = Some (span i) } in
    record {
      taken = sym (ap₂ (λ (l : Limits) (r : Room). setup_bits l r s.setup) limits rooms) ∙ o.taken;
      rows = subst (λ (l : Limits). s.rows ≡ min l.rows s.setup.nb_frag) limits o.rows;
      hearable = o.hearable;
      ranged = o.ranged;
    }

-- what a stop leaves of a session that is held
pub lies_for : (h : HeldSession) (o : Option Session) (seen : FlashSeen) → 0 < h.span → IsHeldAs h o seen → (c : List ℕ) → left seen c → LiesForAs h o c
lies_for h None seen some held c now = λ is.
    let from = held.stored.kept.from c now in
    let same : byte_at c h.base ≡ byte_at from.0 h.base = subst (λ (j : ℕ). byte_at c j ≡ byte_at from.0 j) (omega arith) (from.2.within 0 some) in
    held.stored.read from.0 from.1 (sym same ∙ is)
lies_for h (Some s) seen some held c now =
    let from = held.stored.kept.from c now in
    record {
      openable = held.stands.openable;
      body = held.body;
      tallies = h.tallies;
      its_body = held.its_body;
      counted = held.counted;
      lies = lies_within h.base h.span (stored_of s held.body h.tallies) held.stored.fits from.0 c from.2 (held.stored.read from.0 from.1);
    }
