use Rattle.std.proofs.Common.{ℕ, sym, subst, ◌∙◌, arith, rules}
use Rattle.fuota_run.specs.Outside.{HasRisen}
use Rattle.fuota_run.specs.declared.source.SourceError.TheVariants as error
use Rattle.fuota_run.proofs.ReadOn.{none_read, all_read, on_ok, on_err, too_long}
use Rattle.fuota_run.proofs.Taken.{taken_so_far, same_taken, read_failed, ok_err, long_failed}
use Rattle.fuota_run.proofs.source.read_source.Goals as goal

pub loop-files-init : goal.loop-files-init
loop-files-init g c = record {
  chosen = search rules;
  held = c.choose.ensures.held;
  quiet = on_ok c.choose.result (sym c.is_err.ensures.value ∙ c.if-is_err.false) c.choose.ensures.cause.2;
  so_far = rw c.new-bytes.ensures.items
      (none_read (g.F.Files.held c.args.files.now) c.args.name.now (g.F.Files.left c.choose.new.self) c.requires.held
      (on_ok c.choose.result (sym c.is_err.ensures.value ∙ c.if-is_err.false) c.choose.ensures.whole));
  within = omega arith;
}

pub returns-then-is_err : goal.returns-then-is_err
returns-then-is_err g c =
    read_failed (on_err c.choose.result (sym c.is_err.ensures.value ∙ c.if-is_err.true) c.choose.ensures.cause.0) c.choose.ensures.held

pub returns-in-Ok-eq0 : goal.returns-in-Ok-eq0
returns-in-Ok-eq0 g c = record {
  found = (
    all_read (g.F.Files.held c.args.files.now) c.args.name.now c.read_piece.new.bytes.items c.args.limit (g.F.Files.left c.read_piece.new.files)
        (rw c.loop-files.invariant.held at (c.in-Ok-eq0.ensures.so_far c.args.name.now (rw (sym c.loop-files.invariant.held) at c.loop-files.invariant.so_far)))
        (c.in-Ok-eq0.ensures.reads.end c.in-Ok-eq0.field-0-test),
    omega (arith, c.in-Ok-eq0.ensures.reads.taken, c.loop-files-test.true, c.in-Ok-eq0.field-0-test),
  );
  end = c.in-Ok-eq0.ensures.reads.end c.in-Ok-eq0.field-0-test;
  long = λ taken is. absurd (ok_err is);
  taken = λ taken is. absurd (ok_err is);
  consumed = λ taken is. absurd (ok_err is);
  failed = λ is. absurd (ok_err is);
  quiet = λ other. c.in-Ok-eq0.ensures.reads.quiet (λ e. cc) ∙ c.loop-files.invariant.quiet;
  same = c.read_piece.ensures.reads.held ∙ c.loop-files.invariant.held;
}

pub returns : goal.returns
returns g c = record {
  found = tt;
  end = tt;
  long = λ taken is.
      too_long (g.F.Files.held c.args.files.now) c.args.name.now c.loop-files.bytes.items c.args.limit (g.F.Files.left c.loop-files.files)
      (omega (arith, c.len.ensures, c.loop-files-test.false, c.loop-files.bytes.ok)) c.loop-files.invariant.so_far;
  taken = λ taken is. let same = same_taken _ taken is in sym same;
  consumed = λ taken is.
      let same = same_taken _ taken is in
      taken_so_far (g.F.Files.held c.args.files.now) c.args.name.now c.loop-files.bytes.items taken (g.F.Files.left c.loop-files.files)
      (omega (arith, c.len.ensures, c.loop-files-test.false, c.loop-files.invariant.within, c.loop-files.bytes.ok, same)) c.loop-files.invariant.so_far;
  failed = λ is. absurd (long_failed _ is);
  quiet = λ other. c.loop-files.invariant.quiet;
  same = c.loop-files.invariant.held;
}

pub returns-in-Err : goal.returns-in-Err
returns-in-Err g c = record {
  found = tt;
  end = tt;
  long = λ taken is. absurd (c.in-Err.ensures.reads.not_long taken cc);
  taken = λ taken is. absurd (c.in-Err.ensures.reads.not_long taken cc);
  consumed = λ taken is. absurd (c.in-Err.ensures.reads.not_long taken cc);
  failed = λ is. subst (λ (n : ℕ). HasRisen n (g.F.Files.faults c.read_piece.new.files)) c.loop-files.invariant.quiet (c.in-Err.ensures.reads.failed cc);
  quiet = λ other. c.in-Err.ensures.reads.quiet (λ e. other cc) ∙ c.loop-files.invariant.quiet;
  same = c.read_piece.ensures.reads.held ∙ c.loop-files.invariant.held;
}
