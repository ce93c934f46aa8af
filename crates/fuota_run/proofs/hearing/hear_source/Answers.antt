use Rattle.std.proofs.Common.{ℕ, ◌+◌, rules, [], ◌++◌, refl, sym, subst, ◌∙◌, arith, length-append}
use Rattle.std.proofs.lemmas.List.{length-take}
use Rattle.script_lines.proofs.Heard.{heard_none}
use Rattle.fuota_run.specs.Outside.{HasRisen}
use Rattle.fuota_run.proofs.ReadOn.{none_read, reads_on, all_read, on_ok, on_err, too_long}
use Rattle.fuota_run.proofs.Taken.{taken_so_far, same_taken, read_failed, ok_err, long_failed}
use Rattle.fuota_run.proofs.hearing.hear_source.Goals as goal

pub loop-taken-init : goal.loop-taken-init
loop-taken-init g c = record {
  within = omega arith;
  chosen = search rules;
  held = c.choose.ensures.held;
  quiet = on_ok c.choose.result (sym c.is_err.ensures.value ∙ c.if-is_err.false) c.choose.ensures.cause.2;
  bytes = [];
  taken = refl;
  so_far = none_read (g.F.Files.held c.args.files.now) c.args.name.now (g.F.Files.left c.choose.new.self) c.requires.held
      (on_ok c.choose.result (sym c.is_err.ensures.value ∙ c.if-is_err.false) c.choose.ensures.whole);
  heard = record { stands = c.new-lines.ensures; heard = heard_none g.W.HearsLine.hears c.args.hearer.now };
}

pub loop-taken-preserved : goal.loop-taken-preserved
loop-taken-preserved g c =
    let so_far = c.loop-taken.invariant in
    let more = c.in-Ok.ensures.heard in
    record {
      within = omega (arith, length-take {A = ℕ}, c.in-Ok.ensures.within, c.loop-taken-test.true);
      chosen = c.hear_some.ensures.chosen;
      held = c.hear_some.ensures.held ∙ so_far.held;
      quiet = c.in-Ok.ensures.quiet ∙ so_far.quiet;
      bytes = so_far.bytes ++ more.0;
      taken = omega (arith, length-append so_far.bytes more.0, so_far.taken, more.1);
      so_far = reads_on (g.F.Files.held c.args.files.now) c.args.name.now so_far.bytes more.0 (g.F.Files.left c.loop-taken.files) (g.F.Files.left c.hear_some.new.files) so_far.so_far more.2;
      heard = more.3 c.args.hearer.now so_far.bytes so_far.heard;
    }

pub returns-in-Ok-eq0-clause-reads : goal.returns-in-Ok-eq0-clause-reads
returns-in-Ok-eq0-clause-reads g c = record {
  found = let so_far = c.loop-taken.invariant in
      let more = c.in-Ok-eq0.ensures.heard in (
        so_far.bytes ++ more.0,
        all_read (g.F.Files.held c.args.files.now) c.args.name.now (so_far.bytes ++ more.0) c.args.limit (g.F.Files.left c.hear_some.new.files)
            (reads_on (g.F.Files.held c.args.files.now) c.args.name.now so_far.bytes more.0 (g.F.Files.left c.loop-taken.files) (g.F.Files.left c.hear_some.new.files) so_far.so_far more.2)
            (c.in-Ok-eq0.ensures.end c.in-Ok-eq0.field-0-test),
        omega (arith, length-append so_far.bytes more.0, so_far.taken, more.1, c.loop-taken-test.true, c.in-Ok-eq0.field-0-test),
        c.hear_last.ensures c.args.hearer.now (so_far.bytes ++ more.0) (more.3 c.args.hearer.now so_far.bytes so_far.heard),
      );
  end = c.in-Ok-eq0.ensures.end c.in-Ok-eq0.field-0-test;
  long = λ taken is. absurd (ok_err is);
  taken = λ taken is. absurd (ok_err is);
  consumed = λ taken is. absurd (ok_err is);
  failed = λ is. absurd (ok_err is);
  quiet = λ other. c.in-Ok-eq0.ensures.quiet ∙ c.loop-taken.invariant.quiet;
  same = c.hear_some.ensures.held ∙ c.loop-taken.invariant.held;
}

pub returns-in-Ok-eq0-clause-no_memory : goal.returns-in-Ok-eq0-clause-no_memory
returns-in-Ok-eq0-clause-no_memory g c = λ is. cc

pub returns-then-is_err-clause-reads : goal.returns-then-is_err-clause-reads
returns-then-is_err-clause-reads g c =
    read_failed (on_err c.choose.result (sym c.is_err.ensures.value ∙ c.if-is_err.true) c.choose.ensures.cause.0) c.choose.ensures.held

pub returns-then-is_err-clause-no_memory : goal.returns-then-is_err-clause-no_memory
returns-then-is_err-clause-no_memory g c = λ is. cc

pub returns-in-Err-clause-reads : goal.returns-in-Err-clause-reads
returns-in-Err-clause-reads g c =
    read_failed (subst (λ (n : ℕ). HasRisen n (g.F.Files.faults c.hear_some.new.files)) c.loop-taken.invariant.quiet c.in-Err.ensures.failed)
    (c.hear_some.ensures.held ∙ c.loop-taken.invariant.held)

pub returns-in-Err-clause-no_memory : goal.returns-in-Err-clause-no_memory
returns-in-Err-clause-no_memory g c = λ is. cc

pub returns-clause-reads : goal.returns-clause-reads
returns-clause-reads g c = record {
  found = tt;
  end = tt;
  long = λ taken is.
      let so_far = c.loop-taken.invariant in
      too_long (g.F.Files.held c.args.files.now) c.args.name.now so_far.bytes c.args.limit (g.F.Files.left c.loop-taken.files) (omega (arith, so_far.taken, c.loop-taken-test.false)) so_far.so_far;
  taken = λ taken is. let same = same_taken _ taken is in sym same;
  consumed = λ taken is.
      let so_far = c.loop-taken.invariant in
      let same = same_taken _ taken is in
      taken_so_far (g.F.Files.held c.args.files.now) c.args.name.now so_far.bytes taken (g.F.Files.left c.loop-taken.files)
      (omega (arith, so_far.taken, so_far.within, c.loop-taken-test.false, same)) so_far.so_far;
  failed = λ is. absurd (long_failed _ is);
  quiet = λ other. c.loop-taken.invariant.quiet;
  same = c.loop-taken.invariant.held;
}

pub returns-clause-no_memory : goal.returns-clause-no_memory
returns-clause-no_memory g c = λ is. cc
