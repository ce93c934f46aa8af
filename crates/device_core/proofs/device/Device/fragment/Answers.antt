use Rattle.std.proofs.Common.{◌≡◌, refl, sym, ap, ◌∙◌}
use Rattle.frag_session.specs.declared.answers.Heard.{Heard}
use Rattle.image_slots.specs.HeldSlots.{HeldSlots}
use Rattle.device_core.specs.HeldDevice.{HeldDevice}
use Rattle.device_core.specs.SessionTable.{table_after_fragment}
use Rattle.device_core.proofs.Heard.{heard_steps, dropped_steps}
use Rattle.device_core.proofs.Keeping.{keeps_ok, keeps_err, keeps_erring, not_ok, on_err}
use Rattle.device_core.proofs.Stored.{keeps_at, fragment_goes, fragment_passes}
use Rattle.device_core.proofs.device.Device.fragment.Goals as goal

pub returns-in-Fed : goal.returns-in-Fed
returns-in-Fed g c =
    let same = ap (λ (h : HeldDevice _). h.sessions) (sym c.self.view_is) in
    record {
      steps = rw (← c.self.view_is) (heard_steps c.args.here _ c.fragment.new.self c.offer.new.slots.slots
          c.self.inside.slots.hw c.args.index c.args.n c.args.part.now c.is_whole-was_whole.result _ c.self.invariant.hw
          c.is_whole-was_whole.ensures (λ t stands. sym c.in-Fed.is ∙ c.in_ok-heard.ensures.answer t stands) c.in_ok-heard.ensures.serves.stands
          (λ table stands. ap (λ (s : HeldSlots). s.slots) (c.offer.ensures.offers table stands)));
      fails = tt;
      keeps = keeps_at g.F.Flash.seen c.args.self.now c.fragment.new.self _ _ _ _
          (λ i. c.fragment.new.self)
          (keeps_ok g.F.Flash.seen c.args.self.now c.self.inside.sessions c.fragment.new.self _ _ _ _
          (table_after_fragment c.args.index c.args.here.via c.args.n c.args.part.now c.args.here.moment.mark) _ same
          (λ device stands. fragment_goes c.args.here c.args.index c.args.n c.args.part.now device)
          (λ device b stands lies. fragment_passes c.args.here c.self.inside.sessions c.args.index c.args.n c.args.part.now device b lies)
          c.in_ok-heard.ensures.serves);
    }

pub returns-in-Dropped : goal.returns-in-Dropped
returns-in-Dropped g c =
    let same = ap (λ (h : HeldDevice _). h.sessions) (sym c.self.view_is) in
    let kept : c.fragment.new.self ≡ c.self.inside.sessions = c.in_ok-heard.ensures.dropped _ c.in-Dropped.is in
    record {
      steps = rw (← c.self.view_is) (dropped_steps c.args.here _ c.count_dropped.new.self c.args.index c.args.n c.args.part.now c.in-Dropped.field-0
          (rw (← kept) c.count_dropped.ensures) (λ t stands. sym c.in-Dropped.is ∙ c.in_ok-heard.ensures.answer t stands));
      fails = tt;
      keeps = keeps_at g.F.Flash.seen c.args.self.now c.fragment.new.self _ _ _ _
          (ap (λ (h : HeldDevice _). h.sessions) c.count_dropped.ensures)
          (keeps_ok g.F.Flash.seen c.args.self.now c.self.inside.sessions c.fragment.new.self _ _ _ _
          (table_after_fragment c.args.index c.args.here.via c.args.n c.args.part.now c.args.here.moment.mark) _ same
          (λ device stands. fragment_goes c.args.here c.args.index c.args.n c.args.part.now device)
          (λ device b stands lies. fragment_passes c.args.here c.self.inside.sessions c.args.index c.args.n c.args.part.now device b lies)
          c.in_ok-heard.ensures.serves);
    }

pub returns-in_err-heard : goal.returns-in_err-heard
returns-in_err-heard g c =
    let same = ap (λ (h : HeldDevice _). h.sessions) (sym c.self.view_is) in
    record {
      steps = not_ok _ c.from_residual.result c.from_residual.ensures.0;
      fails = on_err c.from_residual.result (rw (← c.self.view_is) (record { down = c.in_err-heard.ensures.serves.down; rest = λ table. refl }));
      keeps = keeps_erring {A = Heard} g.F.Flash.seen c.args.self.now c.fragment.new.self (record {}) c.from_residual.result _ _ c.from_residual.ensures.0
          (keeps_err {A = Heard} g.F.Flash.seen c.args.self.now c.self.inside.sessions c.fragment.new.self _ _ _ _
          (table_after_fragment c.args.index c.args.here.via c.args.n c.args.part.now c.args.here.moment.mark) _ same
          (λ device b stands lies. fragment_passes c.args.here c.self.inside.sessions c.args.index c.args.n c.args.part.now device b lies)
          c.in_err-heard.ensures.serves);
    }
