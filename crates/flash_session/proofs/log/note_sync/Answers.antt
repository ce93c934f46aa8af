use Rattle.std.proofs.Common.{List, length, sym, subst}
use Rattle.flash_session.specs.declared.log.Step.{Step}
use Rattle.flash_session.specs.Contents.{Same}
use Rattle.flash_session.specs.Moments.{Elapses}
use Rattle.flash_session.specs.Log.{LeftSince, seen_in}
use Rattle.flash_session.proofs.Steps.{sync_stops, sync_keeps}
use Rattle.flash_session.proofs.log.note_sync.Goals as goal

pub returns-clause-kept : goal.returns-clause-kept
returns-clause-kept c = λ bytes b left. sync_keeps c.args.log.now.items bytes b
    (subst (λ (l : List Step). LeftSince l bytes (length l) b) c.note.ensures.log left)

pub returns-clause-stops : goal.returns-clause-stops
returns-clause-stops c = λ bytes. subst (λ (l : List Step). Elapses Same (seen_in c.args.log.now.items bytes 0) (seen_in l bytes 0))
    (sym c.note.ensures.log) (sync_stops c.args.log.now.items bytes)
