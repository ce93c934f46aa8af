use Rattle.std.proofs.Common.{◌≡◌, length, arith, ap}
use Rattle.std.proofs.lemmas.List.{with_items_is, length-replicate}
use Rattle.flash_session.proofs.Runs.{outside_stays}
use Rattle.flash_session.proofs.InMemory.{holds_after, wrote, refused}
use Rattle.flash_session.proofs.memory.MemFlashFlash.fill.Goals as goal

pub returns-then-fails_now-clause-serves : goal.returns-then-fails_now-clause-serves
returns-then-fails_now-clause-serves c = rw (← c.self.view_is) (refused (outside_stays _ _) c.fails_now.ensures.kept c.if-fails_now.ensures.risen)

pub returns-clause-written : goal.returns-clause-written
returns-clause-written c = rw (← c.self.view_is)
    (let sized : length c.put_zeros.new.bytes ≡ c.self.inside.bytes.len = omega arith in
    holds_after c.deref_mut.ensures.value (with_items_is c.self.inside.bytes c.put_zeros.new.bytes sized) c.put_zeros.ensures.put)

pub returns-clause-serves : goal.returns-clause-serves
returns-clause-serves c = rw (← c.self.view_is)
    (let sized : length c.put_zeros.new.bytes ≡ c.self.inside.bytes.len = omega arith in
    let is = with_items_is c.self.inside.bytes c.put_zeros.new.bytes sized in
    wrote c.deref_mut.ensures.value is (rw length-replicate at c.put_zeros.ensures.put.outside) (omega (arith, ap length is, sized)) c.fails_now.ensures.kept c.put_zeros.ensures.stops)
