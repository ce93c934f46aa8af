use Rattle.std.proofs.Common.{◌≡◌, [], Some, Ok}
use Rattle.flash_session.specs.Contents.{Same, Follows}
use Rattle.flash_session.specs.Serving.{FlashServes}
use Rattle.frag_session.specs.Session.{Session}
use Rattle.frag_session.specs.HeldHistory.{Stands}
use Rattle.frag_session.specs.HeldSteps.{extent_of}
use Rattle.flash_session.specs.Replayed.{Replayed}
use Rattle.flash_session.proofs.replaying.replay.Given as goal

abbrev pub invariant-loop-k : goal.invariant-loop-k
invariant-loop-k g l =
    let F = g.F.Flash in
    record {
      replayed : (s : Session) → s.heard ≡ [] → Stands l.initial.slot (Some s) → Replayed s l.slot (F.seen l.flash).holds l.base l.size l.k;
      area : extent_of l.slot ≡ extent_of l.initial.slot;
      stays : Follows Same (F.seen l.flash).holds (F.seen l.initial.flash).holds;
      serves : FlashServes {T = Unit {0}} {E = Unit {0}} Same (F.seen l.initial.flash) (F.seen l.flash) (Ok tt);
    }
