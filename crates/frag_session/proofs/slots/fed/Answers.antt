use Rattle.std.proofs.Common.{refl, lit≤}
use Rattle.frag_session.specs.HeldSteps.{CanHear, extent_of}
use Rattle.frag_session.specs.HeldHistory.{Stands}
use Rattle.frag_session.proofs.Standing.{complete_counts, overflowed_counts, conflicted_counts}
use Rattle.frag_session.proofs.slots.fed.Goals as goal

pub feed-requires : goal.feed-requires
unfolding CanHear
feed-requires g c = let can = rw c.in-Receiving.is at c.requires in (lit≤ tt, (lit≤ tt, (can.0, (can.1, can.2))))

pub returns-in-Idle-clause-stands : goal.returns-in-Idle-clause-stands
unfolding Stands
returns-in-Idle-clause-stands g c = λ s k. absurd (rw c.in-Idle.is at k)

pub returns-in-Receiving-clause-stands : goal.returns-in-Receiving-clause-stands
unfolding Stands
returns-in-Receiving-clause-stands g c = λ s k. rw c.state_of.ensures (c.feed.ensures.stands s (rw c.in-Receiving.is at k))

pub returns-in-Receiving-clause-extent : goal.returns-in-Receiving-clause-extent
unfolding extent_of
returns-in-Receiving-clause-extent g c = rw (c.state_of.ensures, c.in-Receiving.is) c.feed.ensures.extent

pub returns-in-Complete-clause-stands : goal.returns-in-Complete-clause-stands
returns-in-Complete-clause-stands g c = λ s k. rw c.count.ensures (complete_counts c.in-Complete.complete s c.args.n c.args.part.now c.args.mark (rw c.in-Complete.is at k))

pub returns-in-Complete-clause-extent : goal.returns-in-Complete-clause-extent
unfolding extent_of
returns-in-Complete-clause-extent g c = rw (c.count.ensures, c.in-Complete.is) refl

pub returns-in-Overflowed-clause-stands : goal.returns-in-Overflowed-clause-stands
returns-in-Overflowed-clause-stands g c = λ s k. rw c.count-in-Overflowed.ensures (overflowed_counts c.in-Overflowed.overflowed s c.args.n c.args.part.now c.args.mark (rw c.in-Overflowed.is at k))

pub returns-in-Overflowed-clause-extent : goal.returns-in-Overflowed-clause-extent
unfolding extent_of
returns-in-Overflowed-clause-extent g c = rw (c.count-in-Overflowed.ensures, c.in-Overflowed.is) refl

pub returns-in-Conflicted-clause-stands : goal.returns-in-Conflicted-clause-stands
returns-in-Conflicted-clause-stands g c = λ s k. rw c.count-in-Conflicted.ensures (conflicted_counts c.in-Conflicted.conflicted s c.args.n c.args.part.now c.args.mark (rw c.in-Conflicted.is at k))

pub returns-in-Conflicted-clause-extent : goal.returns-in-Conflicted-clause-extent
unfolding extent_of
returns-in-Conflicted-clause-extent g c = rw (c.count-in-Conflicted.ensures, c.in-Conflicted.is) refl
