use Rattle.std.proofs.Common.{◌≤◌, ◌-◌, Ok}
use Rattle.flash_session.specs.Contents.{Same, Follows}
use Rattle.flash_session.specs.Serving.{FlashServes}
use Rattle.flash_session.specs.Gates.{AreOpen, AreShut}
use Rattle.flash_session.proofs.reading.read_front.Given as goal

abbrev pub decreases-loop-k : goal.decreases-loop-k
decreases-loop-k g l = l.most - l.k

abbrev pub invariant-loop-k : goal.invariant-loop-k
invariant-loop-k g l =
    let F = g.F.Flash in
    record {
      few : l.k ≤ l.most;
      behind : l.opened ≤ l.k;
      opened : AreOpen (F.seen l.flash).holds l.at 0 l.opened;
      shut : AreShut (F.seen l.flash).holds l.at l.opened l.k;
      stays : Follows Same (F.seen l.flash).holds (F.seen l.initial.flash).holds;
      serves : FlashServes {T = Unit {0}} {E = Unit {0}} Same (F.seen l.initial.flash) (F.seen l.flash) (Ok tt);
    }
