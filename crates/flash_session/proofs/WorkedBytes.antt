-- A session in flash, byte by byte.
use Rattle.std.proofs.Common.{◌≡◌, ℕ, suc, ◌+◌, ◌≤◌, List, [], ◌∷◌, length, replicate, refl, sym, ap, ◌∙◌, zero, arith}
use Rattle.std.proofs.lemmas.List.{get_or_past, get_or-replicate}
use Rattle.row_elimination.specs.Room.{has_room, words_for}
use Rattle.frag_model.specs.Fragments.{Fragment, line_of, equation_of, pieces_at, xor_bytes, xor_all, fits}
use Rattle.frag_model.specs.Gain.{sums, is_sum, gain_of_lines, gain_of, direct_of, numbers_of, gain, direct, excess}
use Rattle.frag_model.specs.News.{is_receiving, is_new, news}
use Rattle.frag_model.specs.Verdict.{all_lists, all_blocks, fitting_blocks, verdict_from, verdict_now, first_verdict, verdict}
use Rattle.frag_session.specs.Setup.{setup_bits, wrong_coding, too_large, other_descriptor}
use Rattle.frag_session.specs.declared.answers.News.TheVariants as told
use Rattle.frag_session.specs.declared.answers.Cause.TheVariants as cause
use Rattle.frag_session.specs.Session.{Session, shape_of, excludes, cause_of, drop_cause, answer_of, new_session}
use Rattle.flash_session.specs.Body.{setup_bytes, setup_from}
use Rattle.flash_session.specs.Contents.{byte_at}
use Rattle.flash_session.specs.Layout.{spelled}
use Rattle.flash_session.specs.Lies.{SpelledAt}
use Rattle.flash_session.specs.Opening as foreign
use Rattle.flash_session.specs.Opening.{IsForeign, IsFed}
use Rattle.flash_session.specs.Sessions.{stored_of, hearing}
use Rattle.flash_session.proofs.Hearing.{fed_dropped}
use Rattle.flash_session.specs.WorkedBytes.{AreAt, place_2, content, WorkedSpellings, WorkedSession, WorkedForeign, WorkedCalls}

pub spellings : WorkedSpellings
unfolding setup_bytes setup_from spelled
spellings = search

are_at : (c : List ℕ) (at : ℕ) (piece : List ℕ) → SpelledAt c at piece → AreAt c at piece
are_at c at [] lies = tt
are_at c at (byte ∷ bytes) lies = (
  ap (λ (i : ℕ). byte_at c i) (omega arith) ∙ lies.bytes 0 (omega arith),
  are_at c (at + 1) bytes (record {
    bytes = λ i lt. ap (λ (j : ℕ). byte_at c j) (omega arith) ∙ lies.bytes (suc i) (omega (arith, lt));
  }),
)

pub session : WorkedSession
unfolding setup_bytes spelled stored_of news is_new is_receiving shape_of verdict verdict_now verdict_from first_verdict fitting_blocks all_blocks all_lists excess gain direct gain_of direct_of numbers_of gain_of_lines is_sum sums fits equation_of line_of pieces_at xor_all xor_bytes
session = record {
  header = λ c lies. (lies.header, are_at c 101 _ lies.body);
  gates = λ c lies. (lies.gates.opened 0 (omega arith), (lies.gates.opened 1 (omega arith), tt));
  next_gate = λ c lies. lies.gates.shut 2 (omega arith) (omega arith);
  last_gate = λ c lies. lies.gates.shut 4 (omega arith) (omega arith);
  tally = λ c lies. (lies.tallies.opened 0 (omega arith), tt);
  next_tally = λ c lies. lies.tallies.shut 1 (omega arith) (omega arith);
  last_tally = λ c lies. lies.tallies.shut 16382 (omega arith) (omega arith);
  oldest = λ c lies. are_at c 24740 _ lies.records.2.1;
  newest = λ c lies. are_at c 24753 _ lies.records.1;
  stored = refl;
}

-- every place is after the header's gate
behind : (other from x : ℕ) → 1 ≤ from → other ≡ from + x → 1 ≤ other
behind other from x le e = omega (arith, le, e)

lowest : (other : ℕ) → IsForeign place_2 (content 0 []) other → 1 ≤ other
lowest other (foreign.setup e some) = omega (arith, e)
lowest other (foreign.gate k e stray) = behind other 64 k (omega arith) e
lowest other (foreign.tally k e stray) = behind other 8257 k (omega arith) e
lowest other (foreign.written k e record_) = behind other 24640 _ (omega arith) e

-- a fragment of number 0 and 3 bytes, all 0
zero_fragment : Fragment
zero_fragment = record { number = 0; part = replicate 3 0; mark = 0 }

-- its record is where nothing was written
zeros_at : (c : List ℕ) (at : ℕ) → length c ≤ at → SpelledAt c at (spelled zero_fragment)
unfolding zero_fragment spelled
zeros_at c at past = record {
  bytes = λ i lt. get_or_past c (at + i) 0 (omega (arith, past)) ∙ sym (get_or-replicate 13 i 0 0 lt);
}

not_fed : (s : Session) (older : List Fragment) → IsFed s older zero_fragment → ⊥
unfolding zero_fragment hearing drop_cause cause_of excludes answer_of
not_fed s older fed = fed_dropped ⊥ _ told.New cause.Index fed refl

pub places : WorkedForeign
unfolding setup_from setup_bits wrong_coding too_large other_descriptor has_room words_for zero_fragment new_session
places = record {
  setup = record { header = refl; there = foreign.setup refl (λ e. omega (arith, e)); lowest = lowest };
  gate = foreign.gate 1 refl (record { within = omega arith; opened = refl; closed = 0; before = omega arith; shut = λ e. omega (arith, e) });
  tally = λ c shut opened. foreign.tally 1 refl (record {
    within = omega arith;
    opened = opened;
    closed = 0;
    before = omega arith;
    shut = λ e. omega (arith, e, shut);
  });
  entry = foreign.written 0 refl (record {
    within = omega arith;
    used = λ j le. first_used j le;
    older = [];
    count = refl;
    ranged = tt;
    lie = tt;
    next = zero_fragment;
    in_range = record { number = omega arith; mark = omega arith };
    sized = refl;
    there = zeros_at _ 24642 (omega arith);
    foreign = not_fed _ [];
  });
  next_entry = foreign.written 1 refl (record {
    within = omega arith;
    used = λ j le. both_used j le;
    older = zero_fragment ∷ [];
    count = refl;
    ranged = (record { number = omega arith; mark = omega arith }, tt);
    lie = (refl, zeros_at _ 24642 (omega arith), tt);
    next = zero_fragment;
    in_range = record { number = omega arith; mark = omega arith };
    sized = refl;
    there = zeros_at _ 24655 (omega arith);
    foreign = not_fed _ (zero_fragment ∷ []);
  });
}
  where
    first_used : (j : ℕ) → j ≤ 0 → byte_at (content 2 (0xa5 ∷ [])) (66 + j) ≡ 0xa5
    first_used zero le = refl
    first_used (suc j) le = absurd (omega (arith, le))

    both_used : (j : ℕ) → j ≤ 1 → byte_at (content 2 (0xa5 ∷ 0xa5 ∷ [])) (66 + j) ≡ 0xa5
    both_used zero le = refl
    both_used (suc zero) le = refl
    both_used (suc (suc j)) le = absurd (omega (arith, le))

pub calls : WorkedCalls
calls = search
