use Rattle.std.proofs.Common.{◌≡◌, ℕ, ◌+◌, ◌*◌, ◌<◌, List, length, Some, sym, ap, ◌∙◌, arith, inl}
use Rattle.flash_session.specs.Layout.{gates_at}
use Rattle.flash_session.specs.Lies.{Stored, record_at, with_record}
use Rattle.flash_session.specs.Ranges.{Storing, WasOrIs}
use Rattle.frag_model.specs.Fragments.{Fragment}
use Rattle.flash_session.proofs.Behind.{lies_before, lies_during, gate_during, gate_read, stored_after}
use Rattle.flash_session.proofs.Moments.{begins, goes_on}
use Rattle.flash_session.proofs.Okay.{OnOk_both, none_ok_on}
use Rattle.flash_session.proofs.Serves.{in_range, range_joined, serves_failed}
use Rattle.flash_session.proofs.storing.store.Goals as goal

-- where the next record and its gate are, as the code counts them
record IsNext (base size n : ℕ) (f : Fragment) (s : Stored) : Type 0 where
  sized_as : length f.part ≡ s.size
  here : base + 24640 + (10 + size) * n ≡ record_at base s.size (length s.records)
  there : base + 64 + n ≡ gates_at base + length s.records
  room : length s.records < s.most

is_next : (base size n : ℕ) (piece : List ℕ) (x : Storing size n piece) → IsNext base size n x.fragment x.grows.session
is_next base size n piece x = record {
  sized_as = x.sized ∙ sym x.grows.size_is;
  here = sym (ap (λ (z : ℕ). record_at base z (length x.grows.session.records)) x.grows.size_is ∙ ap (record_at base size) x.grows.count);
  there = ap (λ (k : ℕ). base + 64 + k) (sym x.grows.count);
  room = omega (arith, x.grows.count, x.grows.room);
}

pub overflow_add-at : goal.overflow_add-at
overflow_add-at g c = omega (arith, g.met.F.Flash.small c.args.flash.now)

pub overflow_add-at-3 : goal.overflow_add-at-3
overflow_add-at-3 g c = omega (arith, g.met.F.Flash.small c.args.flash.now)

pub overflow_add-gate : goal.overflow_add-gate
overflow_add-gate g c = omega (arith, g.met.F.Flash.small c.args.flash.now)

pub overflow_add-gate-2 : goal.overflow_add-gate-2
overflow_add-gate-2 g c = omega (arith, g.met.F.Flash.small c.args.flash.now)

-- stopped at the record
pub returns-in_err-write_synced-clause-stored : goal.returns-in_err-write_synced-clause-stored
returns-in_err-write_synced-clause-stored g c = record {
  acknowledged = λ x stored. none_ok_on _ _ c.from_residual.ensures.0;
  any_moment = λ x stored.
      let f = x.fragment in
      let s = x.grows.session in
      let next = is_next c.args.base c.args.size c.args.n c.args.piece.now x in
      begins (WasOrIs c.args.base (Some s) (Some (with_record s f)))
      (λ b left. inl (lies_before c.args.base c.args.span s f c.args.piece.now x.spelled_as next.room next.sized_as _ stored b left))
      (λ d b left out. inl (lies_during c.args.base c.args.span s f c.args.piece.now x.spelled_as next.room next.sized_as _ stored _ next.here d b left out))
      c.write_synced.ensures.serves.stops;
  serves = in_range _ _ c.args.base c.args.span (omega arith) (omega arith) (serves_failed _ c.in_err-write_synced.ensures.serves);
}

-- or at the gate, or not at all, and then the record is in the session
pub returns-clause-stored : goal.returns-clause-stored
returns-clause-stored g c = record {
  acknowledged = λ x stored.
      let f = x.fragment in
      let s = x.grows.session in
      let next = is_next c.args.base c.args.size c.args.n c.args.piece.now x in
      OnOk_both (λ written kept. stored_after c.args.base c.args.span s f _ stored.fits
      (λ b holds. gate_read c.args.base c.args.span s f c.args.piece.now x.spelled_as next.room next.sized_as _ stored (g.F.Flash.seen c.write_synced.new.flash) _ next.here c.in_ok-write_synced.ensures.written _ _ next.there written b holds)
      kept) c.write_synced-2.result c.write_synced-2.ensures.written c.write_synced-2.ensures.kept;
  any_moment = λ x stored.
      let f = x.fragment in
      let s = x.grows.session in
      let next = is_next c.args.base c.args.size c.args.n c.args.piece.now x in
      goes_on (WasOrIs c.args.base (Some s) (Some (with_record s f)))
      (begins (WasOrIs c.args.base (Some s) (Some (with_record s f)))
      (λ b left. inl (lies_before c.args.base c.args.span s f c.args.piece.now x.spelled_as next.room next.sized_as _ stored b left))
      (λ d b left out. inl (lies_during c.args.base c.args.span s f c.args.piece.now x.spelled_as next.room next.sized_as _ stored _ next.here d b left out))
      c.write_synced.ensures.serves.stops)
      (λ d b left out. gate_during c.args.base c.args.span s f c.args.piece.now x.spelled_as next.room next.sized_as _ stored (g.F.Flash.seen c.write_synced.new.flash) _ next.here c.in_ok-write_synced.ensures.written
      c.in_ok-write_synced.ensures.kept _ next.there d b left out)
      c.write_synced-2.ensures.serves.stops;
  serves = range_joined c.args.base c.args.span
      (in_range _ _ c.args.base c.args.span (omega arith) (omega arith) c.write_synced.ensures.serves)
      (in_range _ _ c.args.base c.args.span (omega arith) (omega arith) c.write_synced-2.ensures.serves);
}
