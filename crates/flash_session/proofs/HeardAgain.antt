-- Records that are heard again.
use Rattle.std.proofs.Common.{◌≡◌, ◌≢◌, ℕ, ◌+◌, ◌<◌, ◌^◌, Bool, true, false, List, [], ◌∷◌, length, Option, Some, refl, sym, ◌∙◌, subst, arith}
use Rattle.std.specs.Bool.{MatchBool}
use Rattle.frag_model.specs.Fragments.{Fragment}
use Rattle.flash_session.specs.Contents.{Same, Follows}
use Rattle.flash_session.specs.Layout.{spelled}
use Rattle.flash_session.specs.Lies.{SpelledAt, record_at}
use Rattle.flash_session.proofs.Places.{records_kept}
use Rattle.frag_session.specs.declared.answers.Via.TheVariants as via
use Rattle.frag_session.specs.declared.answers.Heard.{Heard}
use Rattle.frag_session.specs.declared.answers.Heard.TheVariants as answer
use Rattle.frag_session.specs.declared.answers.News.TheVariants as told
use Rattle.frag_session.specs.Session.{Session, shape_of, fragment, followed, drop_cause, news_in, answer_of, after_fragment}
use Rattle.frag_session.specs.Held.{HeldSlot}
use Rattle.frag_session.specs.HeldHistory.{Stands}
use Rattle.flash_session.specs.Sessions.{hearing}
use Rattle.flash_session.specs.Replayed.{Replayed, StopsAt}
use Rattle.flash_session.proofs.Hearing.{Hears, hears, after_heard, Answers}

pub none_replayed : (s : Session) (x : HeldSlot) (holds : List ℕ → Type 0) (base size : ℕ) → s.heard ≡ [] → Stands x (Some s) → Replayed s x holds base size 0
unfolding hearing
none_replayed s x holds base size none stands = record {
  records = [];
  count = refl;
  ranged = tt;
  lie = λ b now. tt;
  fed = tt;
  stands = subst (λ (l : List Fragment). Stands x (Some (hearing s l))) none stands;
}

same_shape : (s : Session) (l : List Fragment) → shape_of (hearing s l) ≡ shape_of s
unfolding hearing shape_of
same_shape s l = refl

same_heard : (s : Session) (l : List Fragment) → (hearing s l).heard ≡ l
unfolding hearing
same_heard s l = refl

more_hearing : (s : Session) (l : List Fragment) (n : ℕ) (part : List ℕ) (mark : ℕ) → followed (hearing s l) n part mark ≡ hearing s (fragment n part mark ∷ l)
unfolding hearing followed
more_hearing s l n part mark = refl

pub one_replayed : (s : Session) (x new : HeldSlot) (holds0 holds : List ℕ → Type 0) (base size k n : ℕ) (part : List ℕ) (mark : ℕ) (heard : Heard) (is : Bool)
    → n < 2 ^ 16 → mark < 2 ^ 64 → length part ≡ size → Follows Same holds0 holds
    → ((b : List ℕ) → holds b → SpelledAt b (record_at base size k) (spelled (fragment n part mark)))
    → Answers via.Unicast n part mark x heard → ((o : Option Session) → Stands x o → Stands new (after_fragment o via.Unicast n part mark))
    → (is ≡ true → heard ≡ answer.Fed told.New) → (is ≡ false → heard ≢ answer.Fed told.New)
    → Replayed s x holds0 base size k → MatchBool is (Replayed s new holds base size (k + 1)) (StopsAt s holds base size k)
unfolding hearing shape_of
one_replayed s x new holds0 holds base size k n part mark heard true small few sized same there answers stands on_true on_false r =
    let y : Session = hearing s r.records in
    let fed : answer.Fed told.New ≡ answer_of (drop_cause (Some y) via.Unicast n part) (news_in (Some y) n part mark) = sym (on_true refl) ∙ answers (Some y) r.stands in
    let h : Hears via.Unicast n part mark y told.New = hears via.Unicast n part mark y told.New fed in
    record {
      records = fragment n part mark ∷ r.records;
      count = omega (arith, r.count);
      ranged = (record { number = small; mark = few }, r.ranged);
      lie = λ b now.
          let from = same.from b now in (
            sized,
            subst (λ (j : ℕ). SpelledAt b (record_at base size j) (spelled (fragment n part mark))) (sym r.count) (there b now),
            records_kept from.0 b base size r.records (λ i le lt. from.2.all i) (r.lie from.0 from.1),
          );
      fed = (sym fed, r.fed);
      stands = subst (λ (z : Session). Stands new (Some z)) (more_hearing s r.records n part mark)
          (subst (Stands new) (after_heard via.Unicast n part mark y h.cause) (stands (Some y) r.stands));
    }
one_replayed s x new holds0 holds base size k n part mark heard false small few sized same there answers stands on_true on_false r = record {
  records = r.records;
  count = r.count;
  ranged = r.ranged;
  lie = λ b now. let from = same.from b now in records_kept from.0 b base size r.records (λ i le lt. from.2.all i) (r.lie from.0 from.1);
  fed = r.fed;
  next = fragment n part mark;
  in_range = record { number = small; mark = few };
  sized = sized;
  there = there;
  foreign = λ e. on_false refl (answers (Some (hearing s r.records)) r.stands ∙ e);
}
