-- The groups of a McGroupStatusAns, read one after another.
use Rattle.std.proofs.Common.{◌≡◌, ℕ, zero, suc, ◌+◌, ◌-◌, ◌*◌, ◌/◌, ◌^◌, ◌<◌, ◌≤◌, List, [], ◌∷◌, ◌++◌, length, refl, sym, ap, subst, ◌∙◌, append_assoc, arith}
use Rattle.std.proofs.lemmas.List.{append-nil, length_push}
use Rattle.std.specs.Prelude.{bit_and, count_ones}
use Rattle.std.proofs.lemmas.Nat.{and_mask}
use Rattle.wire_base.specs.declared.refusal.Direction.TheVariants.{Up}
use Rattle.wire_base.specs.Numbers.{number_at, bits_of}
use Rattle.wire_base.specs.Rows.{PartsLie}
use Rattle.cast_wire.specs.declared.group_list.GroupAddress.{GroupAddress}
use Rattle.cast_wire.specs.declared.cmd.Cmd.TheVariants.{McGroupStatusAns}
use Rattle.cast_wire.specs.Table.{group_parts, Spells}
use Rattle.wire_base.specs.Found.{field}
use Rattle.cast_wire.specs.Reading.{groups_at}

abbrev group_of : (id addr : ℕ) → GroupAddress
group_of id addr = record { id = id; addr = addr }

-- the groups so far are the first i of so many from a place on
pub record IsRead (bytes : List ℕ) (at count : ℕ) (groups : List GroupAddress) (i : ℕ) : Type 0 where
  pub len : length groups ≡ i
  pub all : groups ++ groups_at bytes (at + 5 * i) (count - i) ≡ groups_at bytes at count

pub none_read : (bytes : List ℕ) (at count : ℕ) → IsRead bytes at count [] 0
none_read bytes at count =
    let place : at + 5 * 0 ≡ at = omega arith in
    let left : count - 0 ≡ count = omega arith in
    record { len = refl; all = rw (place, left) refl }

pub more_read : (bytes : List ℕ) (at count : ℕ) (groups : List GroupAddress) (i : ℕ) (group : GroupAddress) → i < count
    → group.id ≡ field bytes (at + 5 * i) 1 0 2 → group.addr ≡ number_at bytes (at + 5 * i + 1) 4
    → IsRead bytes at count groups i → IsRead bytes at count (groups ++ group ∷ []) (i + 1)
unfolding groups_at
more_read bytes at count groups i group below id_is addr_is read =
    let left : count - i ≡ suc (count - (i + 1)) = omega arith in
    let place : at + 5 * i + 5 ≡ at + 5 * (i + 1) = omega arith in
    let one : GroupAddress = group_of (field bytes (at + 5 * i) 1 0 2) (number_at bytes (at + 5 * i + 1) 4) in
    let opened : groups_at bytes (at + 5 * i) (suc (count - (i + 1))) ≡ one ∷ groups_at bytes (at + 5 * (i + 1)) (count - (i + 1)) =
    ap (λ (k : ℕ). one ∷ groups_at bytes k (count - (i + 1))) place in
    let same : group ≡ one = ap (λ (n : ℕ). group_of n group.addr) id_is ∙ ap (group_of (field bytes (at + 5 * i) 1 0 2)) addr_is in
    record {
      len = length_push groups group ∙ ap (λ (k : ℕ). k + 1) read.len;
      all = append_assoc groups (group ∷ []) (groups_at bytes (at + 5 * (i + 1)) (count - (i + 1)))
          ∙ ap (λ (g : GroupAddress). groups ++ g ∷ groups_at bytes (at + 5 * (i + 1)) (count - (i + 1))) same
          ∙ ap (λ (l : List GroupAddress). groups ++ l) (sym opened)
          ∙ ap (λ (k : ℕ). groups ++ groups_at bytes (at + 5 * i) k) (sym left) ∙ read.all;
    }

pub all_read : (bytes : List ℕ) (at count : ℕ) (groups : List GroupAddress) (i : ℕ) → count ≤ i → IsRead bytes at count groups i → groups ≡ groups_at bytes at count
unfolding groups_at
all_read bytes at count groups i all read =
    let none : count - i ≡ 0 = omega arith in
    sym (append-nil groups) ∙ ap (λ (k : ℕ). groups ++ groups_at bytes (at + 5 * i) k) (sym none) ∙ read.all

-- ---- groups as parts of a row

-- so many groups are there from a place on
pub groups_lie : (bytes : List ℕ) (at skip count next : ℕ) → next ≡ at + skip + 5 * count → next ≤ length bytes → PartsLie bytes at skip (group_parts (groups_at bytes (at + skip) count)) next
unfolding groups_at
groups_lie bytes at skip zero next ends within = (omega (arith, ends), within)
groups_lie bytes at skip (suc count) next ends within =
    let address : at + (skip + 1) ≡ at + skip + 1 = omega arith in
    let behind : skip + 1 + 4 ≡ skip + 5 = omega arith in
    let place : at + (skip + 5) ≡ at + skip + 5 = omega arith in
    let others : PartsLie bytes at (skip + 5) (group_parts (groups_at bytes (at + (skip + 5)) count)) next = groups_lie bytes at (skip + 5) count next (omega (arith, ends)) within in (
      (refl, tt),
      (
        ap (λ (k : ℕ). number_at bytes k 4) address,
        subst (λ (k : ℕ). PartsLie bytes at k (group_parts (groups_at bytes (at + skip + 5) count)) next) (sym behind)
            (subst (λ (k : ℕ). PartsLie bytes at (skip + 5) (group_parts (groups_at bytes k count)) next) place others),
      ),
    )

-- groups that are there are those from the place on, and end after them
pub groups_known : (groups : List GroupAddress) (bytes : List ℕ) (at skip next : ℕ) → PartsLie bytes at skip (group_parts groups) next
    → (groups_at bytes (at + skip) (length groups) ≡ groups) × (next ≡ at + skip + 5 * length groups) × (next ≤ length bytes)
unfolding groups_at
groups_known [] bytes at skip next lie = (refl, omega (arith, lie.0), lie.1)
groups_known (group ∷ groups) bytes at skip next lie =
    let address : at + (skip + 1) ≡ at + skip + 1 = omega arith in
    let behind : skip + 1 + 4 ≡ skip + 5 = omega arith in
    let place : at + (skip + 5) ≡ at + skip + 5 = omega arith in
    let others = groups_known groups bytes at (skip + 5) next (subst (λ (k : ℕ). PartsLie bytes at k (group_parts groups) next) behind lie.1.1) in
    let id_is : field bytes (at + skip) 1 0 2 ≡ group.id = lie.0.0 in
    let addr_is : number_at bytes (at + skip + 1) 4 ≡ group.addr = ap (λ (k : ℕ). number_at bytes k 4) (sym address) ∙ lie.1.0 in
    let here : group_of (field bytes (at + skip) 1 0 2) (number_at bytes (at + skip + 1) 4) ≡ group =
    ap (λ (n : ℕ). group_of n (number_at bytes (at + skip + 1) 4)) id_is ∙ ap (group_of group.id) addr_is in
    let rest : groups_at bytes (at + skip + 5) (length groups) ≡ groups = ap (λ (k : ℕ). groups_at bytes k (length groups)) (sym place) ∙ others.0 in
    (ap (λ (g : GroupAddress). g ∷ groups_at bytes (at + skip + 5) (length groups)) here ∙ ap (λ (l : List GroupAddress). group ∷ l) rest, omega (arith, others.1), others.2)

-- ---- a McGroupStatusAns

-- the bits of a number under a shift and a mask
pub masked : (n low count : ℕ) → bit_and (n / 2 ^ low) (2 ^ count - 1) ≡ bits_of n low count
masked n low count = and_mask (n / 2 ^ low) count

pub masked_low : (n count : ℕ) → bit_and n (2 ^ count - 1) ≡ bits_of n 0 count
masked_low n count =
    let whole : n / 1 ≡ n = omega arith in
    and_mask n count ∙ rw whole refl

length-groups_at : (bytes : List ℕ) (at count : ℕ) → length (groups_at bytes at count) ≡ count
unfolding groups_at
length-groups_at bytes at zero = refl
length-groups_at bytes at (suc count) = ap suc (length-groups_at bytes (at + 5) count)

pub status_spelled : (bytes : List ℕ) (at fields : ℕ) (groups : List GroupAddress) → number_at bytes at 1 ≡ 0x01 → fields ≡ number_at bytes (at + 1) 1
    → groups ≡ groups_at bytes (at + 2) (count_ones (bit_and fields 15)) → at + (2 + 5 * count_ones (bit_and fields 15)) ≤ length bytes
    → Spells (McGroupStatusAns (bit_and (fields / 16) 7) (bit_and fields 15) groups) 200 Up bytes at (at + (2 + 5 * count_ones (bit_and fields 15)))
status_spelled bytes at fields groups cid_is fields_are groups_are within =
    let total_is : bits_of (number_at bytes (at + 1) 1) 4 3 ≡ bit_and (fields / 16) 7 = rw (← fields_are) (sym (masked fields 4 3)) in
    let mask_is : bits_of (number_at bytes (at + 1) 1) 0 4 ≡ bit_and fields 15 = rw (← fields_are) (sym (masked_low fields 4)) in
    let lie = groups_lie bytes at 2 (count_ones (bit_and fields 15)) (at + (2 + 5 * count_ones (bit_and fields 15))) (omega arith) within in
    record {
      listed = record { port_is = refl; direction_is = refl };
      lies = record { cid_is = cid_is; parts_lie = ((total_is, (mask_is, tt)), subst (λ (l : List GroupAddress). PartsLie bytes at 2 (group_parts l) (at + (2 + 5 * count_ones (bit_and fields 15)))) (sym groups_are) lie) };
      whole = ap length groups_are ∙ length-groups_at bytes (at + 2) (count_ones (bit_and fields 15));
    }
