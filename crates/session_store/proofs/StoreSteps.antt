-- What a call for sessions in flash makes of the store.
use Rattle.std.proofs.Common.{◌≡◌, ℕ, Bool, true, false, List, Result, Ok, Err, sym, ap, subst, ◌∙◌}
use Rattle.flash_session.specs.declared.flash.Failed.{Failed}
use Rattle.flash_session.specs.Seen.{FlashSeen}
use Rattle.session_store.specs.declared.flash_sessions.FlashSessions.{FlashSessions}
use Rattle.session_store.specs.declared.flash_sessions.IdleSessions.{IdleSessions}
use Rattle.session_store.specs.declared.held_slots.Layout.{Layout}
use Rattle.session_store.specs.BySize.{places_in}
use Rattle.session_store.specs.Size.{Size, SizedLayout, laid_out}
use Rattle.session_store.specs.declared.state.CompleteFlags.{CompleteFlags}
use Rattle.session_store.specs.declared.state.State.{State}
use Rattle.session_store.specs.declared.state.State.TheVariants.{Flash, Down}
use Rattle.session_store.specs.declared.store.FlashFault.{FlashFault}
use Rattle.session_store.specs.CompleteFlags.{flags_of}
use Rattle.session_store.specs.HeldPlaces.{PlacesStand, PlacesServe}
use Rattle.session_store.specs.HeldStore.{HeldStore, size_in, StateStands, StateIsStored, StateIsHeld, StateFits, IsInFlash, IsUp, StoreServes}
use Rattle.session_store.specs.SessionTable.{SessionTable}

-- sessions in flash keep their size, also where they go down
pub still_laid : (l : Layout) {old new : State} (here : State) (p q : FlashSessions) → old ≡ Flash p → new ≡ here
    → size_in here ≡ (places_in q).layout.size → (places_in q).layout ≡ (places_in p).layout
    → laid_out (size_in new) l ≡ laid_out (size_in old) l
still_laid l here p q was is size same =
    ap (λ (s : Size). laid_out s l) (ap size_in is ∙ size ∙ ap (λ (k : SizedLayout). k.size) same ∙ sym (ap size_in was))

module _ {F A : Type 0} (seen : F → FlashSeen) (made : SizedLayout → (held : Bool) → SessionTable → SessionTable) (left : SizedLayout → (old new : SessionTable) → List ℕ → Type 0) (old new : HeldStore F) (p q : FlashSessions)
    (there : old.state ≡ Flash p) (fits : StateFits old.layout (seen old.flash).room old.state) (laid : new.layout ≡ old.layout) (held : old.held ≡ true) (still : new.held ≡ true) where
  -- in the words of the store
  as_store : {r : Result A Failed} → PlacesServe (made (places_in p).layout true) (left (places_in p).layout) (places_in p) (places_in q) (seen old.flash) (seen new.flash) r
      → PlacesServe (made old.layout old.held) (left old.layout) (places_in p) (places_in q) (seen old.flash) (seen new.flash) r
  as_store {r} serves =
      let placed = (subst (StateFits old.layout (seen old.flash).room) there fits).0 in
      subst (λ (b : Bool). PlacesServe (made old.layout b) (left old.layout) (places_in p) (places_in q) (seen old.flash) (seen new.flash) r) (sym held)
      (subst (λ (l : SizedLayout). PlacesServe (made l true) (left l) (places_in p) (places_in q) (seen old.flash) (seen new.flash) r) placed serves)

  -- the flash failed: they are down, with which files were whole
  pub failed : {e : Failed} {x : FlashFault} (down : (idles : IdleSessions) × (flags : CompleteFlags) × (new.state ≡ Down idles flags) × ((t : SessionTable) → PlacesStand (places_in p) t → flags ≡ flags_of t))
      → PlacesServe {Answer = A} (made (places_in p).layout true) (left (places_in p).layout) (places_in p) (places_in q) (seen old.flash) (seen new.flash) (Err e) → StoreServes {Answer = A} seen (made old.layout old.held) (left old.layout) old new (Err x)
  failed {e} {x} down its = let serves = as_store its in record {
    stands = λ t stands. tt;
    stored = λ t stored. tt;
    any_moment = λ t is. serves.any_moment t (subst (λ (s : State). StateIsHeld s t (seen old.flash)) there is);
    again = λ t is. serves.again t (subst (λ (s : State). StateIsHeld s t (seen old.flash)) there is);
    up = tt;
    in_flash = λ was. tt;
    down = λ t stands. (down.0, down.2 ∙ ap (λ (f : CompleteFlags). Down down.0 f) (down.3 t (subst (λ (s : State). StateStands s t) there stands)));
    laid = record { layout = laid; held = still ∙ sym held };
    quiet = λ none. (let no : true ≡ false = sym held ∙ none in absurd cc);
    size = serves.size;
    cause = record { later = serves.cause.later; failed = serves.cause.failed };
  }

  -- it did not
  pub answered : {x : A} → new.state ≡ Flash q → PlacesServe (made (places_in p).layout true) (left (places_in p).layout) (places_in p) (places_in q) (seen old.flash) (seen new.flash) (Ok x) → StoreServes seen (made old.layout old.held) (left old.layout) old new (Ok x)
  answered {x} here its = let serves = as_store its in record {
    stands = λ t stands. subst (λ (s : State). StateStands s (made old.layout old.held t)) (sym here) (serves.stands t (subst (λ (s : State). StateStands s t) there stands));
    stored = λ t stored. subst (λ (s : State). StateIsStored s (made old.layout old.held t) (seen new.flash)) (sym here) (serves.stored t (subst (λ (s : State). StateIsStored s t (seen old.flash)) there stored));
    any_moment = λ t is. serves.any_moment t (subst (λ (s : State). StateIsHeld s t (seen old.flash)) there is);
    again = λ t is. tt;
    up = subst IsUp (sym here) tt;
    in_flash = λ was. subst IsInFlash (sym here) tt;
    down = λ t stands. tt;
    laid = record { layout = laid; held = still ∙ sym held };
    quiet = λ none. (let no : true ≡ false = sym held ∙ none in absurd cc);
    size = serves.size;
    cause = record { later = serves.cause.later; failed = tt };
  }
