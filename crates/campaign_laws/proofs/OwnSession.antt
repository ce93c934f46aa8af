-- The session of an index among the four of a device.
use Rattle.std.proofs.Common.{◌≡◌, ℕ, zero, suc, ◌<◌, Bool, true, false, cond, ◌==◌, Option, None, refl, arith}
use Rattle.frag_session.specs.Session.{Session}
use Rattle.device_core.specs.SessionTable.{SessionTable, no_sessions, session_at, with_session}

-- ---- by the three tests of an index

abbrev at_by : SessionTable → (a b c : Bool) → Option Session
at_by table a b c = cond a table.first (cond b table.second (cond c table.third table.fourth))

abbrev put_by : SessionTable → Option Session → (a b c : Bool) → SessionTable
put_by table x a b c =
    cond a (record table { first = x }) (cond b (record table { second = x }) (cond c (record table { third = x }) (record table { fourth = x })))

own_by : (table : SessionTable) (x : Option Session) (a b c : Bool) → at_by (put_by table x a b c) a b c ≡ x
own_by table x true b c = refl
own_by table x false true c = refl
own_by table x false false true = refl
own_by table x false false false = refl

back_by : (table : SessionTable) (a b c : Bool) → put_by table (at_by table a b c) a b c ≡ table
back_by table true b c = refl
back_by table false true c = refl
back_by table false false true = refl
back_by table false false false = refl

none_by : (a b c : Bool) → at_by no_sessions a b c ≡ None
none_by true b c = refl
none_by false true c = refl
none_by false false true = refl
none_by false false false = refl

-- ---- of an index

-- it is what was put there
pub at_own : (table : SessionTable) (i : ℕ) (x : Option Session) → session_at (with_session table i x) i ≡ x
at_own table i x = own_by table x (i == 0) (i == 1) (i == 2)

-- what is there, put there, leaves all as they are
pub put_back : (table : SessionTable) (i : ℕ) → with_session table i (session_at table i) ≡ table
put_back table i = back_by table (i == 0) (i == 1) (i == 2)

-- before any setup there is none
pub none_at : (i : ℕ) → session_at no_sessions i ≡ None
none_at i = none_by (i == 0) (i == 1) (i == 2)

-- another index keeps what it has
pub at_other : (table : SessionTable) (i j : ℕ) (x : Option Session) → i < 4 → j < 4 → (j ≡ i → ⊥)
    → session_at (with_session table i x) j ≡ session_at table j
at_other table zero zero x low high other = absurd (other refl)
at_other table zero (suc zero) x low high other = refl
at_other table zero (suc (suc zero)) x low high other = refl
at_other table zero (suc (suc (suc zero))) x low high other = refl
at_other table (suc zero) zero x low high other = refl
at_other table (suc zero) (suc zero) x low high other = absurd (other refl)
at_other table (suc zero) (suc (suc zero)) x low high other = refl
at_other table (suc zero) (suc (suc (suc zero))) x low high other = refl
at_other table (suc (suc zero)) zero x low high other = refl
at_other table (suc (suc zero)) (suc zero) x low high other = refl
at_other table (suc (suc zero)) (suc (suc zero)) x low high other = absurd (other refl)
at_other table (suc (suc zero)) (suc (suc (suc zero))) x low high other = refl
at_other table (suc (suc (suc zero))) zero x low high other = refl
at_other table (suc (suc (suc zero))) (suc zero) x low high other = refl
at_other table (suc (suc (suc zero))) (suc (suc zero)) x low high other = refl
at_other table (suc (suc (suc zero))) (suc (suc (suc zero))) x low high other = absurd (other refl)
at_other table i (suc (suc (suc (suc j)))) x low high other = absurd (omega (arith, high))
at_other table (suc (suc (suc (suc i)))) j x low high other = absurd (omega (arith, low))
