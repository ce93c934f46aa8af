use Rattle.std.proofs.Common.{sym, ap}
use Rattle.session_store.specs.declared.state.CompleteFlags.{CompleteFlags}
use Rattle.session_store.specs.declared.state.State.TheVariants.{Down}
use Rattle.session_store.specs.BySize.{places_in}
use Rattle.session_store.specs.Size.{Size, SizedLayout, laid_out}
use Rattle.session_store.proofs.PlaceSteps.{held_stands, lies_still}
use Rattle.session_store.proofs.store.SessionStore.power.Goals as goal

pub open-requires-clause-idle : goal.open-requires-clause-idle
open-requires-clause-idle g c = c.put_down-idles.ensures.idle

pub returns-in-Ok-clause-powers : goal.returns-in-Ok-clause-powers
returns-in-Ok-clause-powers g c =
    let sized = rw (c.take.ensures.value) at c.put_down-idles.ensures.size in
    rw (← c.self.view_is, ← sized, c.put_slots.ensures) (record {
      opened = λ table b now lies.
          let held = c.in-Ok.ensures.opened table b now lies in
          (held_stands (places_in c.in-Ok.slots) table _ held, held);
      again = λ table held b now.
          let from = c.open.ensures.opens.held.from b now in
          lies_still _ table from.0 b from.2 ((rw (c.take.ensures.value, ← sized) at c.put_down-idles.ensures.lies) table held from.0 from.1);
      whole = λ table stands. c.put_down-idles.ensures.whole table (rw c.take.ensures.value stands);
      was = λ idles flags at. c.put_down-idles.ensures.was idles flags (rw c.take.ensures.value at);
      stays = λ table stands. tt;
      stays_down = λ idles flags at. tt;
      up = tt;
      in_flash = tt;
      down = tt;
      laid = record { layout = ap (λ (s : Size). laid_out s c.self.inside.layout) (ap (λ (k : SizedLayout). k.size) c.in-Ok.ensures.layout); held = sym (rw (sym c.self.view_is) at c.requires) };
    })

pub returns-in-Err-clause-powers : goal.returns-in-Err-clause-powers
returns-in-Err-clause-powers g c =
    let sized = rw (c.take.ensures.value) at c.put_down-idles.ensures.size in
    rw (← c.self.view_is, ← sized, c.put_idles.ensures) (record {
      opened = λ table b now lies. c.in-Err.ensures.opened table b now lies;
      again = λ table held b now.
          let from = c.open.ensures.opens.held.from b now in
          lies_still _ table from.0 b from.2 ((rw (c.take.ensures.value, ← sized) at c.put_down-idles.ensures.lies) table held from.0 from.1);
      whole = λ table stands. tt;
      was = λ idles flags at. tt;
      stays = λ table stands. (c.in-Err.idles, ap (λ (f : CompleteFlags). Down c.in-Err.idles f) (c.put_down-idles.ensures.whole table (rw c.take.ensures.value stands)));
      stays_down = λ idles flags at. (c.in-Err.idles, ap (λ (f : CompleteFlags). Down c.in-Err.idles f) (c.put_down-idles.ensures.was idles flags (rw c.take.ensures.value at)));
      up = tt;
      in_flash = tt;
      down = tt;
      laid = record { layout = ap (λ (s : Size). laid_out s c.self.inside.layout) c.in-Err.ensures.idle.0; held = sym (rw (sym c.self.view_is) at c.requires) };
    })

pub returns-in-Ok-clause-opens : goal.returns-in-Ok-clause-opens
returns-in-Ok-clause-opens g c =
    let sized = rw (c.take.ensures.value) at c.put_down-idles.ensures.size in
    rw (← c.self.view_is, ← sized) (record {
      found = c.in-Ok.ensures.opens.found;
      foreign = tt;
      kept = c.in-Ok.ensures.opens.kept;
      held = c.open.ensures.opens.held;
      stops = c.open.ensures.opens.stops;
      size = c.open.ensures.opens.size;
      later = c.open.ensures.opens.later;
      fault = tt;
    })

pub returns-in-Err-clause-opens : goal.returns-in-Err-clause-opens
returns-in-Err-clause-opens g c =
    let sized = rw (c.take.ensures.value) at c.put_down-idles.ensures.size in
    rw (← c.self.view_is, ← sized) (record {
      found = tt;
      foreign = c.in-Err.ensures.opens.foreign;
      kept = λ was. tt;
      held = c.open.ensures.opens.held;
      stops = c.open.ensures.opens.stops;
      size = c.open.ensures.opens.size;
      later = c.open.ensures.opens.later;
      fault = c.in-Err.ensures.opens.fault;
    })
