use Rattle.std.proofs.Common.{ℕ, ◌+◌, ◌∙◌, sym, subst, List}
use Rattle.flash_session.specs.Lies.{SpelledAt}
use Rattle.flash_session.specs.Layout.{spelled}
use Rattle.flash_session.proofs.Okay.{none_ok}
use Rattle.flash_session.proofs.Serves.{serves_ok, serves_failed, reads_joined}
use Rattle.flash_session.proofs.Still.{same_joined}
use Rattle.flash_session.proofs.Unique.{spelled_joined}
use Rattle.flash_session.proofs.reading.read_record.Goals as goal

pub returns : goal.returns
unfolding spelled
returns g c = record {
  reads = record {
    told = λ b now.
        let first = c.read-2.ensures.reads.serves.held.from b now in
        let head : SpelledAt b c.args.at c.read.new.buf = record { bytes = λ i lt. first.2.all (c.args.at + i) ∙ sym (c.in_ok-read.ensures.reads.told.bytes first.0 first.1 i lt) } in
        let rest : SpelledAt b (c.args.at + 10) c.read-2.new.buf = record { bytes = λ i lt. sym (c.in_ok-read-2.ensures.reads.told.bytes b now i lt) } in
        let whole = subst (λ (l : List ℕ). SpelledAt b c.args.at l) (sym c.head_of.ensures) head in
        spelled_joined b c.args.at _ c.read-2.new.buf whole rest;
    stays = same_joined c.read-2.ensures.reads.stays c.read.ensures.reads.stays;
    serves = serves_ok (reads_joined c.read.ensures.reads.serves c.read-2.ensures.reads.serves);
  };
}

pub returns-in_err-read-2 : goal.returns-in_err-read-2
returns-in_err-read-2 g c = record {
  reads = record {
    told = none_ok _ _ c.from_residual-in_err-read-2.ensures.0;
    stays = same_joined c.read-2.ensures.reads.stays c.read.ensures.reads.stays;
    serves = serves_failed _ (reads_joined c.read.ensures.reads.serves c.in_err-read-2.ensures.reads.serves);
  };
}
