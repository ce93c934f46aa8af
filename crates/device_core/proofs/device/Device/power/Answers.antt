use Rattle.std.proofs.Common.{refl, sym, ap, subst}
use Rattle.session_store.specs.CompleteFlags.{flags_of}
use Rattle.device_core.specs.HeldDevice.{HeldDevice}
use Rattle.device_core.specs.HeldSessions.{HeldStore, StateStands, StateIsHeld}
use Rattle.device_core.specs.HeldPower.{HadWhole}
use Rattle.session_store.specs.HeldPlaces.{TableLies}
use Rattle.device_core.proofs.Powered.{had_whole, had_stays, offered, powered_stands, powered_again}
use Rattle.device_core.proofs.device.Device.power.Goals as goal

pub returns-in-Ok : goal.returns-in-Ok
returns-in-Ok g c =
    let at = ap (λ (h : HeldDevice _). h.sessions) (sym c.self.view_is) in
    record {
      opened = λ whole had table b now lies.
          let found = c.in-Ok.ensures.powers.opened table b now (subst (λ (s : HeldStore _). TableLies s.layout table b) at lies) in
          let same = had_whole c.self.inside.sessions.state c.in-Ok.whole whole c.in-Ok.ensures.powers.whole c.in-Ok.ensures.powers.was
          (subst (λ (s : HeldStore _). HadWhole s.state whole) at had) in (
            powered_stands c.args.self.now _ c.power.new.self c.self.inside.slots.slots c.offer-in-Ok-3.new.slots.slots c.self.inside.config.hw c.in-Ok.whole whole table
                (ap (λ (h : HeldDevice _). record h { sessions = c.power.new.self; slots = c.offer-in-Ok-3.new.slots.slots }) c.self.view_is)
                (ap (λ (h : HeldDevice _). h.config.hw) c.self.view_is) (ap (λ (h : HeldDevice _). h.slots) c.self.view_is) same found.0
                (offered c.self.inside.slots c.offer.new.slots c.offer-in-Ok.new.slots c.offer-in-Ok-2.new.slots c.offer-in-Ok-3.new.slots c.self.inside.config.hw c.in-Ok.whole table
                c.self.invariant.hw (c.offer.ensures.offers table found.0) (c.offer-in-Ok.ensures.offers table found.0)
                (c.offer-in-Ok-2.ensures.offers table found.0) (c.offer-in-Ok-3.ensures.offers table found.0)),
            found.1,
          );
      again = λ device stands held b now.
          let lies = c.power.ensures.powers.again device.sessions
          (subst (λ (s : HeldStore _). StateIsHeld s.state device.sessions (g.F.Flash.seen s.flash)) at held) b now in
          let found = c.in-Ok.ensures.powers.opened device.sessions b now lies in
          let same = c.in-Ok.ensures.powers.whole device.sessions (subst (λ (s : HeldStore _). StateStands s.state device.sessions) at stands.sessions) in (
            powered_again c.args.self.now _ device stands
                (powered_stands c.args.self.now _ c.power.new.self c.self.inside.slots.slots c.offer-in-Ok-3.new.slots.slots c.self.inside.config.hw c.in-Ok.whole (flags_of device.sessions) device.sessions
                (ap (λ (h : HeldDevice _). record h { sessions = c.power.new.self; slots = c.offer-in-Ok-3.new.slots.slots }) c.self.view_is)
                (ap (λ (h : HeldDevice _). h.config.hw) c.self.view_is) (ap (λ (h : HeldDevice _). h.slots) c.self.view_is) same found.0
                (offered c.self.inside.slots c.offer.new.slots c.offer-in-Ok.new.slots c.offer-in-Ok-2.new.slots c.offer-in-Ok-3.new.slots c.self.inside.config.hw c.in-Ok.whole device.sessions
                c.self.invariant.hw (c.offer.ensures.offers device.sessions found.0) (c.offer-in-Ok.ensures.offers device.sessions found.0)
                (c.offer-in-Ok-2.ensures.offers device.sessions found.0) (c.offer-in-Ok-3.ensures.offers device.sessions found.0))),
            found.1,
          );
      opens = rw (← c.self.view_is) (record {
        found = c.in-Ok.ensures.opens.found;
        foreign = tt;
        kept = c.in-Ok.ensures.opens.kept;
        held = c.in-Ok.ensures.opens.held;
        stops = c.in-Ok.ensures.opens.stops;
        size = c.in-Ok.ensures.opens.size;
        later = c.in-Ok.ensures.opens.later;
        fault = tt;
      });
      up = c.in-Ok.ensures.powers.up;
      down = tt;
      stays = λ flags had. tt;
      laid = rw (← c.self.view_is) c.power.ensures.powers.laid;
      rest = tt;
    }

pub returns-in-Err : goal.returns-in-Err
returns-in-Err g c =
    let at = ap (λ (h : HeldDevice _). h.sessions) (sym c.self.view_is) in
    record {
      opened = λ whole had table b now lies. c.in-Err.ensures.powers.opened table b now (subst (λ (s : HeldStore _). TableLies s.layout table b) at lies);
      again = λ device stands held b now.
          let lies = c.power.ensures.powers.again device.sessions
          (subst (λ (s : HeldStore _). StateIsHeld s.state device.sessions (g.F.Flash.seen s.flash)) at held) b now in
          c.in-Err.ensures.powers.opened device.sessions b now lies;
      opens = rw (← c.self.view_is) (record {
        found = tt;
        foreign = c.in-Err.ensures.opens.foreign;
        kept = c.in-Err.ensures.opens.kept;
        held = c.in-Err.ensures.opens.held;
        stops = c.in-Err.ensures.opens.stops;
        size = c.in-Err.ensures.opens.size;
        later = c.in-Err.ensures.opens.later;
        fault = c.in-Err.ensures.opens.fault;
      });
      up = tt;
      down = c.in-Err.ensures.powers.down;
      stays = rw (← c.self.view_is) (had_stays c.self.inside.sessions.state c.power.new.self.state c.in-Err.ensures.powers.stays c.in-Err.ensures.powers.stays_down);
      laid = rw (← c.self.view_is) c.power.ensures.powers.laid;
      rest = rw (← c.self.view_is) (λ table. refl);
    }
