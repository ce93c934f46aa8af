-- Gates as they are read, from the first on.
use Rattle.std.proofs.Common.{◌≡◌, ◌≢◌, ℕ, ◌+◌, ◌-◌, ◌<◌, ◌≤◌, List, length, get_or, sym, ap, ◌∙◌, inl, inr, arith}
use Rattle.std.proofs.lemmas.Bool.{cases_lt, cases_eq}
use Rattle.flash_session.specs.Contents.{byte_at, Same, Follows, Gives}
use Rattle.flash_session.specs.Fronts.{IsFirstStray}
use Rattle.flash_session.specs.Gates.{AreOpen, AreShut}
use Rattle.flash_session.specs.Layout.{open_gate}
use Rattle.flash_session.specs.Lies.{GatesOpen}
use Rattle.flash_session.specs.Opening.{IsStray}

-- what is known of each content that was held is known of each that is held
pub carried : (P : List ℕ → Type 0) (holds0 holds : List ℕ → Type 0) → ((d b : List ℕ) → Same d b → P d → P b) → Follows Same holds0 holds
    → ((b : List ℕ) → holds0 b → P b) → (b : List ℕ) → holds b → P b
carried P holds0 holds same follows known b now = let from = follows.from b now in same from.0 b from.2 (known from.0 from.1)

pub gates_same : (at n most : ℕ) (d b : List ℕ) → Same d b → GatesOpen d at n most → GatesOpen b at n most
gates_same at n most d b same gates = record {
  few = gates.few;
  opened = λ k lt. same.all (at + k) ∙ gates.opened k lt;
  shut = λ k le lt is. gates.shut k le lt (sym (same.all (at + k)) ∙ is);
}

-- those before are open, and those after are not
pub front_of : (holds : List ℕ → Type 0) (at n most : ℕ) → AreOpen holds at 0 n → AreShut holds at n most → n ≤ most → (b : List ℕ) → holds b → GatesOpen b at n most
front_of holds at n most opened shut few b now = record {
  few = few;
  opened = λ k lt. opened.opened b now k (omega arith) lt;
  shut = λ k le lt. shut.shut b now k le lt;
}

-- what was read is there still
pub gives_kept : (holds0 holds : List ℕ → Type 0) (at : ℕ) (gates : List ℕ) → Gives holds0 at gates → Follows Same holds0 holds → Gives holds at gates
gives_kept holds0 holds at gates gives follows = record {
  bytes = λ b now i lt. let from = follows.from b now in gives.bytes from.0 from.1 i lt ∙ sym (from.2.all (at + i));
}

-- one stretch more: of its gates the first `more` are open, and none where a gate before the stretch is not
module _ (holds : List ℕ → Type 0) (at n k more : ℕ) (gates : List ℕ) (gives : Gives holds (at + k) gates) (le : n ≤ k) (none : n < k → more ≡ 0) where
  gate_at : (b : List ℕ) → holds b → (j : ℕ) → k ≤ j → j < k + length gates → byte_at b (at + j) ≡ get_or gates (j - k) 0
  gate_at b now j past lt =
      let place : at + j ≡ at + k + (j - k) = omega (arith, past) in
      ap (byte_at b) place ∙ sym (gives.bytes b now (j - k) (omega (arith, past, lt)))

  at_start : (j : ℕ) → n ≤ j → j < n + more → k ≤ j
  at_start j from lt = elim (cases_lt n k) [
    | inl less ↦ absurd (omega (arith, none less, from, lt))
    | inr same ↦ omega (arith, same, from)
  ]

  behind_all : (j : ℕ) → n + more ≤ j → k ≤ j → more ≤ j - k
  behind_all j from past = elim (cases_lt n k) [
    | inl less ↦ omega (arith, none less)
    | inr same ↦ omega (arith, same, from, past)
  ]

  pub opened_on : more ≤ length gates → ((j : ℕ) → j < more → get_or gates j 0 ≡ open_gate) → AreOpen holds at 0 n → AreOpen holds at 0 (n + more)
  opened_on few opened was = record {
    opened = λ b now j from lt. elim (cases_lt j n) [
      | inl before ↦ was.opened b now j from before
      | inr past ↦ gate_at b now j (at_start j past lt) (omega (arith, le, lt, few)) ∙ opened (j - k) (omega (arith, le, lt, at_start j past lt))
    ];
  }

  pub shut_on : (to : ℕ) → to ≤ length gates → ((j : ℕ) → more ≤ j → j < to → get_or gates j 0 ≢ open_gate) → AreShut holds at n k → AreShut holds at (n + more) (k + to)
  shut_on to few shut was = record {
    shut = λ b now j from lt is. elim (cases_lt j k) [
      | inl before ↦ was.shut b now j (omega (arith, from)) before is
      | inr past ↦ shut (j - k) (behind_all j from past) (omega (arith, past, lt)) (sym (gate_at b now j past (omega (arith, lt, few))) ∙ is)
    ];
  }

  pub stray_on : (j most : ℕ) → more ≤ j → j < length gates → k + j < most → (n ≡ k → j ≢ more) → get_or gates j 0 ≡ open_gate
      → AreOpen holds at 0 (n + more) → AreShut holds at (n + more) (k + j) → (b : List ℕ) → holds b → IsFirstStray b at most (n + more) (k + j)
  stray_on j most behind within lt differ is opened shut b now = record {
    behind = elim (cases_lt n k) [
      | inl less ↦ omega (arith, less, none less, behind)
      | inr same ↦ elim (cases_eq j more) [
        | inl here ↦ absurd (differ (omega (arith, le, same)) here)
        | inr other ↦ omega (arith, le, behind, other)
      ]
    ];
    within = lt;
    front = front_of holds at (n + more) (k + j) opened shut (omega (arith, le, behind)) b now;
    opened =
        let place : j ≡ k + j - k = omega arith in
        gate_at b now (k + j) (omega arith) (omega (arith, within)) ∙ ap (λ (i : ℕ). get_or gates i 0) (sym place) ∙ is;
  }

-- ---- gates of one content

pub no_stray : (c : List ℕ) (at n most k : ℕ) → GatesOpen c at n most → IsStray c at most k → ⊥
no_stray c at n most k gates stray = elim (cases_lt k n) [
  | inl lt ↦ stray.shut (gates.opened stray.closed (omega (arith, lt, stray.before)))
  | inr le ↦ gates.shut k le stray.within stray.opened
]

pub stray_least : (c : List ℕ) (at n most k j : ℕ) → IsFirstStray c at most n k → IsStray c at most j → k ≤ j
stray_least c at n most k j first stray = elim (cases_lt j k) [
  | inr le ↦ le
  | inl before ↦ elim (cases_lt j n) [
    | inl lt ↦ absurd (stray.shut (first.front.opened stray.closed (omega (arith, lt, stray.before))))
    | inr le ↦ absurd (first.front.shut j le before stray.opened)
  ]
]

pub stray_is : (c : List ℕ) (at n most k : ℕ) → IsFirstStray c at most n k → IsStray c at most k
stray_is c at n most k first = record {
  within = first.within;
  opened = first.opened;
  closed = n;
  before = first.behind;
  shut = first.front.shut n (omega arith) first.behind;
}

-- as many are open as are open
pub one_count : (c : List ℕ) (at n m most : ℕ) → GatesOpen c at n most → GatesOpen c at m most → n ≡ m
one_count c at n m most one two = elim (cases_lt n m) [
  | inl lt ↦ absurd (one.shut n (omega arith) (omega (arith, lt, two.few)) (two.opened n lt))
  | inr le ↦ elim (cases_lt m n) [
    | inl less ↦ absurd (two.shut m (omega arith) (omega (arith, less, one.few)) (one.opened m less))
    | inr more ↦ (let e : n ≡ m = omega (arith, le, more) in e)
  ]
]
