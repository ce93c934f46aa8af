-- Each test is true exactly where its fact holds.
use Rattle.std.proofs.Common.{◌≡◌, ℕ, zero, suc, ◌+◌, ◌<◌, ◌≤◌, Bool, true, ◌&&◌, eqb, leb, List, [], ◌∷◌, length, drop, get_or, refl, subst, inl, inr, arith}
use Rattle.std.specs.Bool.{Decides}
use Rattle.std.proofs.lemmas.Bool.{leb-true, le-leb, and_parts, or_cases, eqb-true}
use Rattle.std.proofs.lemmas.Bool.Decides.{Decides-eqb, Decides-and, Decides-or, Decides-like}
use Rattle.std.proofs.lemmas.Slice.Eq.{bytes_eq-Decides}
use Rattle.wire_base.specs.declared.refusal.Direction.{Direction}
use Rattle.wire_base.specs.declared.refusal.Direction.TheVariants.{Down, Up}
use Rattle.wire_base.specs.Numbers.{number_at}
use Rattle.wire_base.specs.Rows.{Bits, Part, number, packed, block, rest, Row, size, BitsLie, PartLies, PartsLie, IsOneOf, IsListed, Lies}
use Rattle.wire_base.specs.Tables.{Spells, IsKnown}
use Rattle.wire_base.specs.Tests.{bits_lie, block_lies, part_lies, parts_lie, is_one_of, same_direction, is_listed, lies, is_spelled, has_cid}

pub leb_tells : (a b : ℕ) → Decides (leb a b) (a ≤ b)
leb_tells a b = (λ is. leb-true a b is, λ le. le-leb a b le)

-- ---- rows

bits_tell : (n : ℕ) (fields : List Bits) → Decides (bits_lie n fields) (BitsLie n fields)
bits_tell n [] = (λ _. tt, λ _. refl)
bits_tell n (b ∷ bs) = Decides-and _ _ (Decides-eqb _ _) (bits_tell n bs)

-- from a place on, byte by byte
abbrev BlockLies : List ℕ → ℕ → List ℕ → Type 0
BlockLies bytes at part = (k : ℕ) → k < length part → get_or bytes (at + k) 0 ≡ get_or part k 0

block_of : (bytes : List ℕ) (at b : ℕ) (bs : List ℕ) → (get_or bytes at 0 ≡ b) × BlockLies bytes (at + 1) bs → BlockLies bytes at (b ∷ bs)
block_of bytes at b bs both = each
  where
    each : (k : ℕ) → k < length (b ∷ bs) → get_or bytes (at + k) 0 ≡ get_or (b ∷ bs) k 0
    each zero below = let same : at + 0 ≡ at = omega arith in rw same both.0
    each (suc k) below = let same : at + suc k ≡ at + 1 + k = omega arith in rw same (both.1 k (omega arith))

block_parts : (bytes : List ℕ) (at b : ℕ) (bs : List ℕ) → BlockLies bytes at (b ∷ bs) → (get_or bytes at 0 ≡ b) × BlockLies bytes (at + 1) bs
block_parts bytes at b bs all = (
  let same : at + 0 ≡ at = omega arith in subst (λ (n : ℕ). get_or bytes n 0 ≡ b) same (all 0 (omega arith)),
  λ k below. let same : at + suc k ≡ at + 1 + k = omega arith in subst (λ (n : ℕ). get_or bytes n 0 ≡ get_or bs k 0) same (all (suc k) (omega arith)),
)

block_tell : (bytes : List ℕ) (at : ℕ) (part : List ℕ) → Decides (block_lies bytes at part) (BlockLies bytes at part)
block_tell bytes at [] = (λ _ k below. absurd (omega arith), λ _. refl)
block_tell bytes at (b ∷ bs) =
    Decides-like _ (block_of bytes at b bs) (block_parts bytes at b bs) (Decides-and _ _ (Decides-eqb _ _) (block_tell bytes (at + 1) bs))

part_tells : (bytes : List ℕ) (at : ℕ) (p : Part) → Decides (part_lies bytes at p) (PartLies bytes at p)
part_tells bytes at (number width value) = Decides-eqb _ _
part_tells bytes at (packed width fields) = bits_tell (number_at bytes at width) fields
part_tells bytes at (block part) = block_tell bytes at part
part_tells bytes at (rest part) = bytes_eq-Decides (drop at bytes) part

parts_tell : (bytes : List ℕ) (at skip : ℕ) (ps : List Part) (next : ℕ) → Decides (parts_lie bytes at skip ps next) (PartsLie bytes at skip ps next)
parts_tell bytes at skip [] next = Decides-and _ _ (Decides-eqb _ _) (leb_tells _ _)
parts_tell bytes at skip (p ∷ ps) next = Decides-and _ _ (part_tells bytes (at + skip) p) (parts_tell bytes at (skip + size p) ps next)

port_tells : (ports : List ℕ) (port : ℕ) → Decides (is_one_of ports port) (IsOneOf ports port)
port_tells [] port = (λ is. absurd cc, λ none. absurd none)
port_tells (p ∷ []) port = Decides-eqb _ _
port_tells (p ∷ q ∷ ps) port = Decides-or _ _ (Decides-eqb _ _) (port_tells (q ∷ ps) port)

direction_tells : (one other : Direction) → Decides (same_direction one other) (one ≡ other)
direction_tells Down Down = (λ _. refl, λ _. refl)
direction_tells Up Up = (λ _. refl, λ _. refl)
direction_tells Down Up = (λ is. absurd cc, λ is. absurd cc)
direction_tells Up Down = (λ is. absurd cc, λ is. absurd cc)

listed_tells : (r : Row) (port : ℕ) (dir : Direction) → Decides (is_listed r port dir) (IsListed r port dir)
listed_tells r port dir =
    Decides-like _ (λ both. record { port_is = both.0; direction_is = both.1 }) (λ listed. (listed.port_is, listed.direction_is))
    (Decides-and _ _ (port_tells r.ports port) (direction_tells dir r.direction))

lies_tell : (r : Row) (bytes : List ℕ) (at next : ℕ) → Decides (lies r bytes at next) (Lies r bytes at next)
lies_tell r bytes at next =
    Decides-like _ (λ both. record { cid_is = both.0; parts_lie = both.1 }) (λ l. (l.cid_is, l.parts_lie))
    (Decides-and _ _ (Decides-eqb _ _) (parts_tell bytes at 1 r.parts next))

-- ---- commands of any table

pub spelled_tells : {C : Type 0} (row : C → Row) (IsWhole : C → Type 0) (is_whole : C → Bool) → ((c : C) → Decides (is_whole c) (IsWhole c))
    → (c : C) (port : ℕ) (dir : Direction) (bytes : List ℕ) (at next : ℕ) → Decides (is_spelled row is_whole c port dir bytes at next) (Spells row IsWhole c port dir bytes at next)
spelled_tells row IsWhole is_whole whole_tells c port dir bytes at next =
    Decides-like _ (λ all. record { listed = all.0; lies = all.1.0; whole = all.1.1 }) (λ spells. (spells.listed, (spells.lies, spells.whole)))
    (Decides-and _ _ (listed_tells (row c) port dir) (Decides-and _ _ (lies_tell (row c) bytes at next) (whole_tells c)))

-- a command under the identifier is a command of the table
one_of : {C : Type 0} (row : C → Row) (port : ℕ) (dir : Direction) (cid : ℕ) (cs : List C) → has_cid row port dir cid cs ≡ true → IsKnown row port dir cid
one_of row port dir cid [] is = absurd cc
one_of row port dir cid (c ∷ cs) is = elim (or_cases (is_listed (row c) port dir && eqb (row c).cid cid) (has_cid row port dir cid cs) is) [
  | inl here ↦ let parts = and_parts (is_listed (row c) port dir) (eqb (row c).cid cid) here in record { command = c; listed = (listed_tells (row c) port dir).0 parts.0; cid_is = eqb-true _ _ parts.1 }
  | inr there ↦ one_of row port dir cid cs there
]

-- where each row has its sample, the samples tell which identifiers are known
pub known_tells : {C : Type 0} (row : C → Row) (samples : List C)
    → ((c : C) (port : ℕ) (dir : Direction) → IsListed (row c) port dir → has_cid row port dir (row c).cid samples ≡ true)
    → (port : ℕ) (dir : Direction) (cid : ℕ) → Decides (has_cid row port dir cid samples) (IsKnown row port dir cid)
known_tells row samples sampled port dir cid =
    (λ is. one_of row port dir cid samples is, λ known. rw (← known.cid_is) (sampled known.command port dir known.listed))
