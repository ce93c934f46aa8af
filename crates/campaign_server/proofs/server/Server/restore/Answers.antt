use Rattle.std.proofs.Common.{◌≡◌, true, false, Err, sym, ap, ◌∙◌, inr, length}
use Rattle.campaign_server.proofs.SavedBytes.{read_back, as_bad, as_free}
use Rattle.std.proofs.lemmas.Slice.Eq.{bytes_eq-Decides}
use Rattle.campaign_server.specs.Server.{ServerState}
use Rattle.campaign_server.specs.Saving.{saved_of}
use Rattle.campaign_server.specs.SavingInside.{fits, told_of}
use Rattle.campaign_server.proofs.server.Server.restore.Goals as goal
use Rattle.campaign_server.proofs.server.Server.restore.Goals.{else-take-via-then-take+else-eq, else-take-via-else-take}

pub returns-in-Err-clause-restored : goal.returns-in-Err-clause-restored
returns-in-Err-clause-restored c =
    λ server over is. inr (rw c.restore_error.ensures (ap Err (as_free (length c.args.image.now) c.args.plan c.in-Err.error
    (rw c.in-Err.is at c.new.ensures.bad_plan) over.fine)))

pub returns-in-Err-clause-bad_plan : goal.returns-in-Err-clause-bad_plan
returns-in-Err-clause-bad_plan c =
    rw c.restore_error.ensures (as_bad (length c.args.image.now) c.args.plan c.in-Err.error (rw c.in-Err.is at c.new.ensures.bad_plan))

pub returns-else-take-clause-restored : goal.returns-else-take-clause-restored
returns-else-take-clause-restored c =
    λ server over is. let back = read_back c.args.plan c.args.image.now server c.args.bytes.now over is in
    elim c.else-take.branch [
      | else-take-via-then-take+else-eq w ↦
          let told : c.take.new.self ≡ server =
          c.take.ensures.taken w.if-take.true ∙ ap (λ (s : ServerState). told_of s c.args.bytes.now) c.in-Ok.ensures.ok ∙ back.told in
          let same : w.as_slice.result.now ≡ c.args.bytes.now = w.as_slice.ensures.value ∙ w.save.ensures ∙ ap saved_of told ∙ is in
          let equal : w.eq.result ≡ true = w.eq.ensures ∙ (bytes_eq-Decides w.as_slice.result.now c.args.bytes.now).1 same in
          let no : true ≡ false = sym equal ∙ w.if-eq.false in absurd cc
      | else-take-via-else-take w ↦
          let no : true ≡ false =
          sym back.fits ∙ ap (λ (s : ServerState). fits s c.args.bytes.now) (sym c.in-Ok.ensures.ok) ∙ sym c.take.ensures.value ∙ w.if-take.false in
          absurd cc
    ]
