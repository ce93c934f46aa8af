use Rattle.std.proofs.Common.{◌≡◌, Option, Some, refl, sym, subst, lit≤}
use Rattle.frag_session.specs.Session.{Session, new_session}
use Rattle.frag_session.specs.Setup.{setup_bits}
use Rattle.frag_session.specs.declared.setups.SetupReq.{SetupReq}
use Rattle.flash_session.specs.HeldSession.{HeldSession, room_in}
use Rattle.flash_session.specs.HeldCalls.{OldNoneOrNew}
use Rattle.flash_session.specs.Sessions.{IsHeldAs}
use Rattle.flash_session.proofs.Headers.{kept_within}
use Rattle.flash_session.proofs.Renewing.{in_memory, new_stands, new_counted, new_held, beginning, new_moments}
use Rattle.flash_session.proofs.Serves.{serves_ok, serves_failed}
use Rattle.flash_session.proofs.StillHeld.{given_too, same_old_none_new}
use Rattle.flash_session.proofs.held.Held.renew.Goals as goal

fine : (h k : HeldSession) (l : SetupReq) → h ≡ k → setup_bits k.limits (room_in k) l ≡ 0 → setup_bits h.limits (room_in h) l ≡ 0
fine h k l e is = subst (λ (x : HeldSession). setup_bits x.limits (room_in x) l ≡ 0) (sym e) is

pub renew-requires : goal.renew-requires
renew-requires g c = (lit≤ tt, in_memory _ _ c.args.req (fine _ _ c.args.req c.self.view_is c.requires.fine))

pub invariant_of-result : goal.invariant_of-result
invariant_of-result g c = record {
  long = c.self.invariant.long;
  session = Some (new_session c.self.inside.limits c.args.req);
  stands = new_stands (record { slot = c.self.inside.slot; limits = c.self.inside.limits; base = c.self.inside.base; span = c.self.inside.span; records = c.self.inside.records; tallies = c.self.inside.tallies; words = g.row.W; bytes = g.row.B }) c.args.req (fine _ _ c.args.req c.self.view_is c.requires.fine) _ c.renew.ensures.stands c.renew.ensures.extent;
}

pub returns-in-Ok-clause-serves : goal.returns-in-Ok-clause-serves
returns-in-Ok-clause-serves g c = rw (← c.self.view_is)
    (let h : HeldSession = (record { slot = c.self.inside.slot; limits = c.self.inside.limits; base = c.self.inside.base; span = c.self.inside.span; records = c.self.inside.records; tallies = c.self.inside.tallies; words = g.row.W; bytes = g.row.B }) in
    let is = fine _ _ c.args.req c.self.view_is c.requires.fine in
    let begun = rw c.setup_bytes.ensures at c.in-Ok.ensures.begun in
    let meant = λ (o : Option Session) (held : IsHeldAs h o (g.F.Flash.seen c.args.flash.now)). beginning h c.args.req is c.requires.fields o held _ c.has_session-lives.ensures in
    record {
      stands = λ o held. new_stands h c.args.req is _ c.renew.ensures.stands c.renew.ensures.extent;
      counted = λ o held counts. new_counted h c.args.req is;
      acknowledged = λ o held. new_held h c.args.req is c.requires.fields _ _ c.renew.ensures.stands c.renew.ensures.extent (begun.acknowledged (meant o held) held.stored);
      any_moment = λ o held. new_moments h c.args.req is c.requires.fields o held (begun.any_moment (meant o held) held.stored);
      again = λ o held. tt;
      others = λ at len was. kept_within at len (g.F.Flash.seen c.begin.new.flash) c.in-Ok.ensures.kept;
      place = record { words_are = refl; bytes_are = refl; base_is = refl; span_is = refl; limits_are = refl; extent_is = c.renew.ensures.extent };
      extent = tt;
      serves = serves_ok c.begin.ensures.begun.serves;
    })

pub returns-in-Err-clause-serves : goal.returns-in-Err-clause-serves
returns-in-Err-clause-serves g c = rw (← c.self.view_is)
    (let h : HeldSession = (record { slot = c.self.inside.slot; limits = c.self.inside.limits; base = c.self.inside.base; span = c.self.inside.span; records = c.self.inside.records; tallies = c.self.inside.tallies; words = g.row.W; bytes = g.row.B }) in
    let is = fine _ _ c.args.req c.self.view_is c.requires.fine in
    let begun = rw c.setup_bytes.ensures at c.in-Err.ensures.begun in
    let meant = λ (o : Option Session) (held : IsHeldAs h o (g.F.Flash.seen c.args.flash.now)). beginning h c.args.req is c.requires.fields o held _ c.has_session-lives.ensures in
    let moments = λ (o : Option Session) (held : IsHeldAs h o (g.F.Flash.seen c.args.flash.now)). new_moments h c.args.req is c.requires.fields o held (begun.any_moment (meant o held) held.stored) in
    let new = Some (new_session h.limits c.args.req) in
    record {
      stands = λ o held. tt;
      counted = λ o held counts. tt;
      acknowledged = λ o held. tt;
      any_moment = moments;
      again = λ o held. given_too (OldNoneOrNew h o new) (same_old_none_new h o new) (moments o held) begun.serves.torn;
      others = λ at len was. tt;
      place = tt;
      extent = c.end.ensures;
      serves = serves_failed _ begun.serves;
    })
