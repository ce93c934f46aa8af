use Rattle.std.proofs.Common.{List, ℕ, subst}
use Rattle.std.specs.Io.KnownBytes.{Appends}
use Rattle.fuota_run.specs.Outside.{AppendsFront}
use Rattle.fuota_run.specs.HeldAnswer.{answer_in}
use Rattle.fuota_run.proofs.AnswerLemmas.{ends_written, exact_of, front_of}
use Rattle.fuota_run.proofs.RunHeadline.{where_none_map, campaign_run, recovery_run, replay_run, seed_run}
use Rattle.fuota_run.proofs.CaptureAnswered.{capture_run}
use Rattle.fuota_run.proofs.PairAnswered.{pair_run}
use Rattle.fuota_run.proofs.running.run.Goals as goal

pub returns-in-Ok-write_text-clause-exact : goal.returns-in-Ok-write_text-clause-exact
returns-in-Ok-write_text-clause-exact g c =
    let written = subst (λ (text : List ℕ). Appends (g.O.Sink.written c.args.out.now) (g.O.Sink.written c.write_text.new.out) text) c.deref.ensures.value c.in-Ok-write_text.ensures.written in
    exact_of _ _ _ _ _ _ _ (answer_in c.in-Ok.answer) _ _ c.in-Ok.ensures.answer written

pub returns-in-Ok-write_text-clause-headline : goal.returns-in-Ok-write_text-clause-headline
returns-in-Ok-write_text-clause-headline g c = where_none_map _ _ _ _ _ _ (λ held. campaign_run _ held _ _ _) (returns-in-Ok-write_text-clause-exact g c)

pub returns-in-Ok-write_text-clause-recovery : goal.returns-in-Ok-write_text-clause-recovery
returns-in-Ok-write_text-clause-recovery g c = where_none_map _ _ _ _ _ _ (λ held. recovery_run _ held _ _ _) (returns-in-Ok-write_text-clause-exact g c)

pub returns-in-Ok-write_text-clause-replay : goal.returns-in-Ok-write_text-clause-replay
returns-in-Ok-write_text-clause-replay g c = where_none_map _ _ _ _ _ _ (λ held. replay_run _ held _ _ _) (returns-in-Ok-write_text-clause-exact g c)

pub returns-in-Ok-write_text-clause-seed : goal.returns-in-Ok-write_text-clause-seed
returns-in-Ok-write_text-clause-seed g c = where_none_map _ _ _ _ _ _ (λ held. seed_run _ held _ _ _) (returns-in-Ok-write_text-clause-exact g c)

pub returns-in-Ok-write_text-clause-capture : goal.returns-in-Ok-write_text-clause-capture
returns-in-Ok-write_text-clause-capture g c = where_none_map _ _ _ _ _ _ (λ held. capture_run _ held _ _ _) (returns-in-Ok-write_text-clause-exact g c)

pub returns-in-Ok-write_text-clause-pair : goal.returns-in-Ok-write_text-clause-pair
returns-in-Ok-write_text-clause-pair g c = where_none_map _ _ _ _ _ _ (λ held. pair_run _ held _ _ _) (returns-in-Ok-write_text-clause-exact g c)

pub returns-in-Ok-write_text-clause-ends : goal.returns-in-Ok-write_text-clause-ends
returns-in-Ok-write_text-clause-ends g c =
    let written = subst (λ (text : List ℕ). Appends (g.O.Sink.written c.args.out.now) (g.O.Sink.written c.write_text.new.out) text) c.deref.ensures.value c.in-Ok-write_text.ensures.written in
    ends_written _ _ _ _ (answer_in c.in-Ok.answer) c.in-Ok.ensures.answer written

pub returns-clause-ends : goal.returns-clause-ends
returns-clause-ends g c =
    let front = subst (λ (text : List ℕ). AppendsFront (g.O.Sink.written c.args.out.now) (g.O.Sink.written c.write_text.new.out) text) c.deref.ensures.value c.in-Err-write_text.ensures.front in
    (c.in-Err-write_text.ensures.failed, front_of _ _ _ _ _ (answer_in c.in-Ok.answer) _ _ c.in-Ok.ensures.answer front)
