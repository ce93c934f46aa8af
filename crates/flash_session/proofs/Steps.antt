-- What one step of the log changes of what a stop might have left.
use Rattle.std.proofs.Common.{◌≡◌, ℕ, zero, suc, ◌+◌, ◌<◌, ◌≤◌, Bool, false, ◌||◌, ◌==◌, List, [], ◌∷◌, ◌++◌, length, get_or, take, drop, set, replicate, refl, sym, ap, ◌∙◌, subst, inl, inr, arith, add-one, length-append}
use Rattle.std.specs.Prelude.{if◌then◌else◌}
use Rattle.std.proofs.lemmas.Bool.{cases_eq, cases_lt, eq-eqb, ne_eqb}
use Rattle.std.proofs.lemmas.List.{take_all, drop_all, take-append-le, drop-append-le, get_or-set_same, get_or-set_other, length-set, get_or_append_left, get_or_push}
use Rattle.flash_session.specs.declared.log.Step.{Step}
use Rattle.flash_session.specs.declared.log.Step.TheVariants.{Was, Synced}
use Rattle.flash_session.specs.Contents.{byte_at, SameOutside, Same, Put}
use Rattle.flash_session.specs.Moments.{Elapses}
use Rattle.flash_session.specs.Log.{was, loose, LeftAt, LeftSince, seen_in}
use Rattle.flash_session.specs.Seen.{FlashSeen}
use Rattle.flash_session.proofs.Runs.{one_more, outside_wider, outside_joined}

pub was_push : (log : List Step) (at byte i now : ℕ) → was (log ++ Was at byte ∷ []) i now ≡ was log i (if at == i then byte else now)
was_push [] at byte i now = refl
was_push (Was a b ∷ log) at byte i now = ap (λ (x : ℕ). if a == i then b else x) (was_push log at byte i now)
was_push (Synced ∷ log) at byte i now = was_push log at byte i now

pub was_synced : (log : List Step) (i now : ℕ) → was (log ++ Synced ∷ []) i now ≡ was log i now
was_synced [] i now = refl
was_synced (Was a b ∷ log) i now = ap (λ (x : ℕ). if a == i then b else x) (was_synced log i now)
was_synced (Synced ∷ log) i now = was_synced log i now

pub loose_push : (log : List Step) (at byte i : ℕ) (before : Bool) → loose (log ++ Was at byte ∷ []) i before ≡ (loose log i before || at == i)
loose_push [] at byte i before = refl
loose_push (Was a b ∷ log) at byte i before = loose_push log at byte i (before || a == i)
loose_push (Synced ∷ log) at byte i before = loose_push log at byte i false

pub loose_synced : (log : List Step) (i : ℕ) (before : Bool) → loose (log ++ Synced ∷ []) i before ≡ false
loose_synced [] i before = refl
loose_synced (Was a b ∷ log) i before = loose_synced log i (before || a == i)
loose_synced (Synced ∷ log) i before = loose_synced log i false

-- the moments before the last step are those that they were
module _ (log : List Step) (step : Step) (old new : List ℕ) (sized : length new ≡ length old)
    (back : (later : List Step) (i : ℕ) → was (later ++ step ∷ []) i (byte_at new i) ≡ was later i (byte_at old i)) where
  earlier_at : (k : ℕ) (c : List ℕ) → k ≤ length log → LeftAt (log ++ step ∷ []) new k c → LeftAt log old k c
  earlier_at k c le left = record {
    sized = left.sized ∙ sized;
    firm = λ i firm.
        let taken : take k (log ++ step ∷ []) ≡ take k log = take-append-le k log (step ∷ []) le in
        let dropped : drop k (log ++ step ∷ []) ≡ drop k log ++ step ∷ [] = drop-append-le k log (step ∷ []) le in
        left.firm i (ap (λ (l : List Step). loose l i false) taken ∙ firm)
        ∙ ap (λ (l : List Step). was l i (byte_at new i)) dropped ∙ back (drop k log) i;
  }

  -- a run of one step, whose last moment is known
  pub one_step : (change : List ℕ → List ℕ → Type 0)
      → ((c : List ℕ) → LeftAt (log ++ step ∷ []) new (length log + 1) c → (d : List ℕ) × LeftAt log old (length log) d × change d c)
      → Elapses change (seen_in log old 0) (seen_in (log ++ step ∷ []) new 0)
  one_step change last =
      let longer : length (log ++ step ∷ []) ≡ length log + 1 = length-append log (step ∷ []) in
      let now : (c : List ℕ) (k : ℕ) → length log < k → k ≤ length (log ++ step ∷ []) → LeftAt (log ++ step ∷ []) new k c → (d : List ℕ) × LeftSince log old (length log) d × change d c =
      λ (c : List ℕ) (k : ℕ) (lt : length log < k) (le : k ≤ length (log ++ step ∷ [])) (left : LeftAt (log ++ step ∷ []) new k c).
      let here : k ≡ length log + 1 = omega (arith, lt, le, longer) in
      let from = last c (subst (λ (j : ℕ). LeftAt (log ++ step ∷ []) new j c) here left) in
      (from.0, record { moment = length log; since = omega arith; until = omega arith; left = from.1 }, from.2) in
      record {
        later = omega (arith, longer);
        each = λ t c le left. elim (cases_lt (length log) left.moment) [
          | inl lt ↦ inr (now c left.moment lt left.until left.left)
          | inr before ↦ inl (record { moment = left.moment; since = left.since; until = before; left = earlier_at left.moment c before left.left })
        ];
        last = λ c left. now c left.moment (omega (arith, longer, left.since)) left.until left.left;
      }

-- a byte is written
module _ (log : List Step) (old new : List ℕ) (at byte : ℕ) (within : at < length old) (is : new ≡ set old at byte) where
  same_size : length new ≡ length old
  same_size = ap length is ∙ length-set old at byte

  put_back : (i : ℕ) → (if at == i then get_or old at 0 else byte_at new i) ≡ byte_at old i
  put_back i = elim (cases_eq at i) [
    | inl here ↦ ap (λ (b : Bool). if b then get_or old at 0 else byte_at new i) (eq-eqb at i here) ∙ ap (λ (j : ℕ). get_or old j 0) here
    | inr other ↦ ap (λ (b : Bool). if b then get_or old at 0 else byte_at new i) (ne_eqb at i other) ∙ ap (λ (l : List ℕ). get_or l i 0) is
        ∙ get_or-set_other old at i byte 0 (λ same. other (sym same))
  ]

  pub byte_put : Put at (byte ∷ []) old new
  byte_put = record {
    outside = record {
      below = λ i lt. ap (λ (l : List ℕ). get_or l i 0) is ∙ get_or-set_other old at i byte 0 (λ same. omega (arith, same, lt));
      above = λ i le. ap (λ (l : List ℕ). get_or l i 0) is ∙ get_or-set_other old at i byte 0 (λ same. omega (arith, same, le));
    };
    inside = λ i lt.
        let first : i ≡ 0 = omega (arith, lt) in
        ap (λ (j : ℕ). get_or new (at + j) 0) first ∙ ap (λ (l : List ℕ). get_or l (at + 0) 0) is
        ∙ ap (λ (j : ℕ). get_or (set old at byte) j 0) (omega arith) ∙ get_or-set_same old at byte 0 within ∙ sym (ap (λ (j : ℕ). get_or (byte ∷ []) j 0) first);
  }

  -- what a stop may leave after it had another byte there before
  byte_from : (c : List ℕ) → LeftAt (log ++ Was at (get_or old at 0) ∷ []) new (length log + 1) c → (d : List ℕ) × LeftAt log old (length log) d × SameOutside at 1 d c
  byte_from c left =
      let sized : length c ≡ length old = left.sized ∙ same_size in
      let d : List ℕ = set c at (get_or old at 0) in
      let whole : take (length log + 1) (log ++ Was at (get_or old at 0) ∷ []) ≡ log ++ Was at (get_or old at 0) ∷ [] =
      take_all (length log + 1) (log ++ Was at (get_or old at 0) ∷ []) (omega (arith, length-append log (Was at (get_or old at 0) ∷ []))) in
      let nothing : drop (length log + 1) (log ++ Was at (get_or old at 0) ∷ []) ≡ [] =
      drop_all (length log + 1) (log ++ Was at (get_or old at 0) ∷ []) (omega (arith, length-append log (Was at (get_or old at 0) ∷ []))) in (
        d,
        record {
          sized = length-set c at (get_or old at 0) ∙ sized;
          firm = λ i firm.
              let dry : loose log i false ≡ false = ap (λ (l : List Step). loose l i false) (sym (take_all (length log) log (omega arith))) ∙ firm in
              let here_now : (l : List Step) → l ≡ [] → get_or d i 0 ≡ byte_at old i → get_or d i 0 ≡ was l i (byte_at old i) =
              λ (l : List Step) (none : l ≡ []) (e : get_or d i 0 ≡ byte_at old i). e ∙ ap (λ (m : List Step). was m i (byte_at old i)) (sym none) in
              here_now (drop (length log) log) (drop_all (length log) log (omega arith)) (elim (cases_eq at i) [
                | inl here ↦ ap (λ (j : ℕ). get_or d j 0) (sym here) ∙ get_or-set_same c at (get_or old at 0) 0 (omega (arith, sized, within)) ∙ ap (λ (j : ℕ). get_or old j 0) here
                | inr other ↦ get_or-set_other c at i (get_or old at 0) 0 (λ same. other (sym same))
                    ∙ left.firm i (ap (λ (l : List Step). loose l i false) whole ∙ loose_push log at (get_or old at 0) i false ∙ ap (λ (b : Bool). b || at == i) dry ∙ ne_eqb at i other)
                    ∙ ap (λ (l : List Step). was l i (byte_at new i)) nothing
                    ∙ ap (λ (l : List ℕ). get_or l i 0) is ∙ get_or-set_other old at i byte 0 (λ same. other (sym same))
              ]);
        },
        record {
          below = λ i lt. sym (get_or-set_other c at i (get_or old at 0) 0 (λ same. omega (arith, same, lt)));
          above = λ i le. sym (get_or-set_other c at i (get_or old at 0) 0 (λ same. omega (arith, same, le)));
        },
      )

  pub byte_stops : Elapses (SameOutside at 1) (seen_in log old 0) (seen_in (log ++ Was at (get_or old at 0) ∷ []) new 0)
  byte_stops = one_step log (Was at (get_or old at 0)) old new same_size
      (λ later i. was_push later at (get_or old at 0) i (byte_at new i) ∙ ap (was later i) (put_back i)) (SameOutside at 1) byte_from

-- all is synced
module _ (log : List Step) (bytes : List ℕ) where
  whole : take (length log + 1) (log ++ Synced ∷ []) ≡ log ++ Synced ∷ []
  whole = take_all (length log + 1) (log ++ Synced ∷ []) (omega (arith, length-append log (Synced ∷ [])))

  nothing : drop (length log + 1) (log ++ Synced ∷ []) ≡ []
  nothing = drop_all (length log + 1) (log ++ Synced ∷ []) (omega (arith, length-append log (Synced ∷ [])))

  firm_now : (c : List ℕ) → LeftAt (log ++ Synced ∷ []) bytes (length log + 1) c → (i : ℕ) → byte_at c i ≡ byte_at bytes i
  firm_now c left i =
      left.firm i (ap (λ (l : List Step). loose l i false) whole ∙ loose_synced log i false)
      ∙ ap (λ (l : List Step). was l i (byte_at bytes i)) nothing

  sync_from : (c : List ℕ) → LeftAt (log ++ Synced ∷ []) bytes (length log + 1) c → (d : List ℕ) × LeftAt log bytes (length log) d × Same d c
  sync_from c left = (
    c,
    record {
      sized = left.sized;
      firm = λ i firm. firm_now c left i ∙ ap (λ (l : List Step). was l i (byte_at bytes i)) (sym (drop_all (length log) log (omega arith)));
    },
    record { all = λ i. refl },
  )

  pub sync_stops : Elapses Same (seen_in log bytes 0) (seen_in (log ++ Synced ∷ []) bytes 0)
  sync_stops = one_step log Synced bytes bytes refl (λ later i. was_synced later i (byte_at bytes i)) Same sync_from

  pub sync_keeps : (c : List ℕ) → LeftSince (log ++ Synced ∷ []) bytes (length (log ++ Synced ∷ [])) c → Same bytes c
  sync_keeps c left =
      let here : left.moment ≡ length log + 1 = omega (arith, left.since, left.until, length-append log (Synced ∷ [])) in
      let now : LeftAt (log ++ Synced ∷ []) bytes (length log + 1) c = subst (λ (j : ℕ). LeftAt (log ++ Synced ∷ []) bytes j c) here left.left in
      record { all = firm_now c now }

-- one byte more of a piece
pub put_one_more : (at byte : ℕ) (piece start old new : List ℕ) → at + length piece < length old → new ≡ set old (at + length piece) byte
    → Put at piece start old → Put at (piece ++ byte ∷ []) start new
put_one_more at byte piece start old new within is put =
    let longer : length (piece ++ byte ∷ []) ≡ length piece + 1 = length-append piece (byte ∷ []) in
    let one : Put (at + length piece) (byte ∷ []) old new = byte_put [] old new (at + length piece) byte within is in
    record {
      outside = record {
        below = λ i lt. one.outside.below i (omega (arith, lt)) ∙ put.outside.below i lt;
        above = λ i le. one.outside.above i (omega (arith, le, longer)) ∙ put.outside.above i (omega (arith, le, longer));
      };
      inside = λ i lt. elim (cases_lt i (length piece)) [
        | inl before ↦ one.outside.below (at + i) (omega (arith, before)) ∙ put.inside i before ∙ sym (get_or_append_left piece (byte ∷ []) 0 i before)
        | inr past ↦
            let last : i ≡ length piece = omega (arith, lt, past, longer) in
            ap (λ (j : ℕ). get_or new (at + j) 0) last ∙ ap (λ (j : ℕ). get_or new j 0) (omega arith) ∙ one.inside 0 (omega arith)
            ∙ sym (ap (λ (j : ℕ). get_or (piece ++ byte ∷ []) j 0) last ∙ get_or_push piece byte 0 (length piece) refl)
      ];
    }

pub replicate_push : (n x : ℕ) → replicate (suc n) x ≡ replicate n x ++ x ∷ []
replicate_push zero x = refl
replicate_push (suc n) x = ap (λ (l : List ℕ). x ∷ l) (replicate_push n x)

pub zeros_more : (n : ℕ) → replicate {A = ℕ} (n + 1) 0 ≡ replicate n 0 ++ 0 ∷ []
zeros_more n = ap (λ (k : ℕ). replicate {A = ℕ} k 0) (add-one n) ∙ replicate_push n 0

-- the stops of one byte more
pub stops_one_more : (at i byte : ℕ) (first : FlashSeen) (log later : List Step) (old new : List ℕ)
    → at + i < length old → new ≡ set old (at + i) byte → later ≡ log ++ Was (at + i) (get_or old (at + i) 0) ∷ []
    → Elapses (SameOutside at i) first (seen_in log old 0) → Elapses (SameOutside at (i + 1)) first (seen_in later new 0)
stops_one_more at i byte first log later old new within is longer run =
    let call : Elapses (SameOutside (at + i) 1) (seen_in log old 0) (seen_in later new 0) =
    subst (λ (l : List Step). Elapses (SameOutside (at + i) 1) (seen_in log old 0) (seen_in l new 0)) (sym longer)
    (byte_stops log old new (at + i) byte within is) in
    one_more (λ c d. outside_wider at i at (i + 1) c d (omega arith) (omega arith))
    (λ c d e one two. outside_joined at (i + 1) c d e
    (outside_wider at i at (i + 1) c d (omega arith) (omega arith) one) (outside_wider (at + i) 1 at (i + 1) d e (omega arith) (omega arith) two))
    run call
