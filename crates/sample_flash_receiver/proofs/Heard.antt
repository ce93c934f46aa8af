-- The fragment of a payload is the only one.
use Rattle.std.proofs.Common.{◌≡◌, ℕ, List, length, subst}
use Rattle.wire_base.specs.declared.refusal.Direction.TheVariants.{Down}
use Rattle.cast_wire.specs.declared.cmd.Cmd.TheVariants.{DataFragment}
use Rattle.cast_wire.specs.Table.{Spells}
use Rattle.cast_wire.proofs.Spellings.{one}
use Rattle.sample_receiver.specs.HeldReceiver.{IsFragment}

pub same_fragment : (index m n : ℕ) (q p payload : List ℕ) → Spells (DataFragment index m q) 201 Down payload 0 (length payload)
    → IsFragment payload n p → (n ≡ m) × (p ≡ q)
same_fragment index m n q p payload spelled is =
    let same : DataFragment 0 n p ≡ DataFragment index m q =
    (one (DataFragment 0 n p) (DataFragment index m q) 201 Down payload 0 (length payload) (length payload) is spelled).0 in
    (cc, cc)

pub is_fragment : (index m : ℕ) (q payload : List ℕ) → Spells (DataFragment index m q) 201 Down payload 0 (length payload) → index ≡ 0 → IsFragment payload m q
is_fragment index m q payload spelled is = subst (λ (i : ℕ). Spells (DataFragment i m q) 201 Down payload 0 (length payload)) is spelled

-- what is left of two fragments that are the same
pub as_spelled : (P : ℕ → List ℕ → Type 0) (index m n : ℕ) (q p payload : List ℕ) → Spells (DataFragment index m q) 201 Down payload 0 (length payload)
    → IsFragment payload n p → P m q → P n p
as_spelled P index m n q p payload spelled is holds =
    let same = same_fragment index m n q p payload spelled is in
    rw (same.0, same.1) holds
