-- What holds for each of the four indices.
use Rattle.std.proofs.Common.{◌≡◌, ◌≢◌, ℕ, ◌<◌, ◌==◌, zero, suc, Bool, true, false, List, length, get_or, Option, refl, sym, subst, inl, inr, arith}
use Rattle.std.proofs.lemmas.Bool.{cases_eq}
use Rattle.std.proofs.lemmas.List.{get_or-set_same, get_or-set_other}
use Rattle.std.proofs.Math.ListN.{set}
use Rattle.std.specs.Prelude.{if◌then◌else◌}
use Rattle.frag_session.specs.Session.{Session}
use Rattle.session_store.specs.SessionTable.{SessionTable, session_at, with_session}

pub each4 : (P : ℕ → Type 0) → P 0 → P 1 → P 2 → P 3 → (i : ℕ) → i < 4 → P i
each4 P a b c d zero lt = a
each4 P a b c d (suc zero) lt = b
each4 P a b c d (suc (suc zero)) lt = c
each4 P a b c d (suc (suc (suc zero))) lt = d
each4 P a b c d (suc (suc (suc (suc n)))) lt = absurd (omega (arith, lt))

-- of one and of all others
pub all_at : (P : ℕ → Type 0) (j : ℕ) → P j → ((i : ℕ) → i < 4 → i ≢ j → P i) → (i : ℕ) → i < 4 → P i
all_at P j mine others i lt = elim (cases_eq i j) [
  | inl here ↦ subst P (sym here) mine
  | inr other ↦ others i lt other
]

-- ---- a list of four in which one was written

pub all_set : {A : Type 0} (d : A) (P : ℕ → A → Type 0) (xs : List A) (j : ℕ) (x : A) → length xs ≡ 4 → j < 4 → P j x
    → ((i : ℕ) → i < 4 → i ≢ j → P i (get_or xs i d)) → (i : ℕ) → i < 4 → P i (get_or (set xs j x) i d)
all_set {A} d P xs j x four lj mine others =
    all_at (λ i. P i (get_or (set xs j x) i d)) j
    (subst (λ (y : A). P j y) (sym (get_or-set_same xs j x d (omega (arith, lj, four)))) mine)
    (λ i lt ne. subst (λ (y : A). P i y) (sym (get_or-set_other xs j i x d ne)) (others i lt ne))

-- ---- a table in which one session was written

same_by : (a b c : Bool) (t : SessionTable) (o : Option Session)
    → (let after : SessionTable = if a then record t { first = o } else if b then record t { second = o } else if c then record t { third = o } else record t { fourth = o } in
    if a then after.first else if b then after.second else if c then after.third else after.fourth) ≡ o
same_by true b c t o = refl
same_by false true c t o = refl
same_by false false true t o = refl
same_by false false false t o = refl

pub session_same : (t : SessionTable) (i : ℕ) (o : Option Session) → session_at (with_session t i o) i ≡ o
session_same t i o = same_by (i == 0) (i == 1) (i == 2) t o

pub session_other : (t : SessionTable) (o : Option Session) (i : ℕ) → i < 4 → (j : ℕ) → j < 4 → i ≢ j → session_at (with_session t j o) i ≡ session_at t i
session_other t o = each4 (λ i. (j : ℕ) → j < 4 → i ≢ j → session_at (with_session t j o) i ≡ session_at t i)
    (each4 (λ j. 0 ≢ j → session_at (with_session t j o) 0 ≡ session_at t 0) (λ ne. absurd (ne refl)) (λ ne. refl) (λ ne. refl) (λ ne. refl))
    (each4 (λ j. 1 ≢ j → session_at (with_session t j o) 1 ≡ session_at t 1) (λ ne. refl) (λ ne. absurd (ne refl)) (λ ne. refl) (λ ne. refl))
    (each4 (λ j. 2 ≢ j → session_at (with_session t j o) 2 ≡ session_at t 2) (λ ne. refl) (λ ne. refl) (λ ne. absurd (ne refl)) (λ ne. refl))
    (each4 (λ j. 3 ≢ j → session_at (with_session t j o) 3 ≡ session_at t 3) (λ ne. refl) (λ ne. refl) (λ ne. refl) (λ ne. absurd (ne refl)))

pub each_with : (Q : ℕ → Option Session → Type 0) (t : SessionTable) (j : ℕ) (o : Option Session) → j < 4 → Q j o
    → ((i : ℕ) → i < 4 → i ≢ j → Q i (session_at t i)) → (i : ℕ) → i < 4 → Q i (session_at (with_session t j o) i)
each_with Q t j o lj mine others =
    all_at (λ i. Q i (session_at (with_session t j o) i)) j
    (subst (λ (p : Option Session). Q j p) (sym (session_same t j o)) mine)
    (λ i lt ne. subst (λ (p : Option Session). Q i p) (sym (session_other t o i lt j lj ne)) (others i lt ne))

-- and both
pub each_set : {A : Type 0} (d : A) (Q : A → Option Session → Type 0) (xs : List A) (t : SessionTable) (j : ℕ) (x : A) (o : Option Session) → length xs ≡ 4 → j < 4 → Q x o
    → ((i : ℕ) → i < 4 → i ≢ j → Q (get_or xs i d) (session_at t i)) → (i : ℕ) → i < 4 → Q (get_or (set xs j x) i d) (session_at (with_session t j o) i)
each_set {A} d Q xs t j x o four lj mine others =
    each_with (λ i p. Q (get_or (set xs j x) i d) p) t j o lj
    (subst (λ (y : A). Q y o) (sym (get_or-set_same xs j x d (omega (arith, lj, four)))) mine)
    (λ i lt ne. subst (λ (y : A). Q y (session_at t i)) (sym (get_or-set_other xs j i x d ne)) (others i lt ne))
