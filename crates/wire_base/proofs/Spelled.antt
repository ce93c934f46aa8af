-- What is spelled at a place is valid and ends after it: its fields were read from bytes.
-- And where a reading names what is spelled, a place has one spelling.
use Rattle.std.proofs.Common.{◌≡◌, ℕ, zero, suc, ◌+◌, ◌*◌, ◌/◌, ◌^◌, ◌<◌, ◌≤◌, Bool, true, false, cond, eqb, leb, List, [], ◌∷◌, ◌++◌, length, get_or, Some, Result, Ok, Err, refl, sym, ap, subst, ◌∙◌, length-append, arith}
use Rattle.std.specs.Result.{IfOk, result_ok}
use Rattle.std.proofs.lemmas.Bool.{le-leb}
use Rattle.std.proofs.lemmas.List.{nil_from_length}
use Rattle.std.proofs.lemmas.Nat.{pow_pos, pow-add, mod_below, mul-add-lt}
use Rattle.wire_base.specs.declared.refusal.Direction.{Direction}
use Rattle.wire_base.specs.declared.refusal.Refusal.{Refusal}
use Rattle.wire_base.specs.Numbers.{number_at}
use Rattle.wire_base.specs.Rows.{Bits, Part, number, packed, block, rest, Row, size, BitsLie, PartsLie, BitsFit, PartsFit}
use Rattle.wire_base.specs.Found.{Found}
use Rattle.wire_base.specs.Rows.{takes_rest}
use Rattle.wire_base.specs.Tables.{Spells, IsValid}
use Rattle.wire_base.proofs.RowLaws.{parts_before, row_before_more}

abbrev AreBytes : List ℕ → Type 0
AreBytes bytes = (i : ℕ) → get_or bytes i 0 < 256

number_below : (bytes : List ℕ) → AreBytes bytes → (at width : ℕ) → number_at bytes at width < 2 ^ (8 * width)
unfolding number_at
number_below bytes small at zero = omega arith
number_below bytes small at (suc width) =
    let wider : 8 * suc width ≡ 8 + 8 * width = omega arith in
    let high : number_at bytes (at + 1) width < 2 ^ (8 * width) = number_below bytes small (at + 1) width in
    let both = mul-add-lt (number_at bytes (at + 1) width) 256 (get_or bytes at 0) (2 ^ (8 * width)) high (small at) in
    rw (wider, pow-add 2 8 (8 * width)) (omega (arith, both))

bits_fit : (n : ℕ) (fields : List Bits) → BitsLie n fields → BitsFit fields
bits_fit n [] lie = tt
bits_fit n (b ∷ bs) lie = (subst (λ (v : ℕ). v < 2 ^ b.count) lie.0 (mod_below (n / 2 ^ b.low) (2 ^ b.count) (pow_pos b.count)), bits_fit n bs lie.1)

-- parts that are in bytes fit the bits that they have
parts_fit : (bytes : List ℕ) → AreBytes bytes → (at skip : ℕ) (parts : List Part) (next : ℕ) → PartsLie bytes at skip parts next → PartsFit parts
parts_fit bytes small at skip [] next lie = tt
parts_fit bytes small at skip (number width value ∷ ps) next lie =
    (subst (λ (v : ℕ). v < 2 ^ (8 * width)) lie.0 (number_below bytes small (at + skip) width), parts_fit bytes small at (skip + width) ps next lie.1)
parts_fit bytes small at skip (packed width fields ∷ ps) next lie = (bits_fit (number_at bytes (at + skip) width) fields lie.0, parts_fit bytes small at (skip + width) ps next lie.1)
parts_fit bytes small at skip (block part ∷ ps) next lie = (tt, parts_fit bytes small at (skip + size (block part)) ps next lie.1)
parts_fit bytes small at skip (rest part ∷ ps) next lie = (tt, parts_fit bytes small at (skip + size (rest part)) ps next lie.1)

pub valid : {C : Type 0} (row : C → Row) (IsWhole : C → Type 0) (port : ℕ) (dir : Direction) (bytes : List ℕ) (at : ℕ) (r : Result (C × ℕ) Refusal) → AreBytes bytes
    → IfOk r (λ x. Spells row IsWhole x.0 port dir bytes at x.1) → IfOk r (λ x. IsValid row IsWhole x.0)
valid row IsWhole port dir bytes at (Ok (c, next)) small spells = record { fields = parts_fit bytes small at 1 (row c).parts next spells.lies.parts_lie; whole = spells.whole }
valid row IsWhole port dir bytes at (Err refusal) small spells = tt

pub moves : {C : Type 0} (row : C → Row) (IsWhole : C → Type 0) (port : ℕ) (dir : Direction) (bytes : List ℕ) (at : ℕ) (r : Result (C × ℕ) Refusal)
    → IfOk r (λ x. Spells row IsWhole x.0 port dir bytes at x.1) → IfOk r (λ x. at < x.1)
moves row IsWhole port dir bytes at (Ok (c, next)) spells = omega (arith, parts_before (row c).parts bytes at 1 next spells.lies.parts_lie)
moves row IsWhole port dir bytes at (Err refusal) spells = tt

-- ---- what a reading names

-- a bit is set exactly where its flag says so
pub flag_of : (bit : ℕ) (set : Bool) → bit ≡ cond set 1 0 → eqb bit 1 ≡ set
flag_of bit true is = rw is refl
flag_of bit false is = rw is refl

-- where a command ends within the bytes, they have its length
pub has_bytes : (bytes : List ℕ) (at len next : ℕ) → (next ≡ at + len) × (next ≤ length bytes) → leb (at + len) (length bytes) ≡ true
has_bytes bytes at len next ends = le-leb _ _ (omega (arith, ends.0, ends.1))

-- each command of a table is named where it is spelled
abbrev pub Names : {C : Type 0} → (C → Row) → (C → Type 0) → (ℕ → Direction → List ℕ → ℕ → Found C) → Type 0
Names {C} row IsWhole reading = (c : C) (port : ℕ) (dir : Direction) (bytes : List ℕ) (at next : ℕ)
    → Spells row IsWhole c port dir bytes at next → reading port dir bytes at ≡ Some (c, next)

-- what answers as such a reading has the command that is spelled
pub only : {C E : Type 0} (row : C → Row) (IsWhole : C → Type 0) (reading : ℕ → Direction → List ℕ → ℕ → Found C) → Names row IsWhole reading
    → (port : ℕ) (dir : Direction) (bytes : List ℕ) (at : ℕ) (r : Result (C × ℕ) E) → result_ok r ≡ reading port dir bytes at
    → (c : C) (next : ℕ) → Spells row IsWhole c port dir bytes at next → r ≡ Ok (c, next)
only {C} {E} row IsWhole reading names port dir bytes at r is c next spells = ok_of r (is ∙ names c port dir bytes at next spells)
  where
    ok_of : (r : Result (C × ℕ) E) → result_ok r ≡ Some (c, next) → r ≡ Ok (c, next)
    ok_of (Ok y) x = cc
    ok_of (Err e) x = absurd cc

some_same : {A : Type 0} (x y : A) → Some x ≡ Some y → x ≡ y
some_same x y same = cc

pub one : {C : Type 0} (row : C → Row) (IsWhole : C → Type 0) (reading : ℕ → Direction → List ℕ → ℕ → Found C) → Names row IsWhole reading
    → (c d : C) (port : ℕ) (dir : Direction) (bytes : List ℕ) (at next end : ℕ)
    → Spells row IsWhole c port dir bytes at next → Spells row IsWhole d port dir bytes at end → (c ≡ d) × (next ≡ end)
one {C} row IsWhole reading names c d port dir bytes at next end first second =
    let same = some_same (c, next) (d, end) (sym (names c port dir bytes at next first) ∙ names d port dir bytes at end second) in
    (ap (λ (x : C × ℕ). x.0) same, ap (λ (x : C × ℕ). x.1) same)

-- a command that takes no rest begins no other
pub none_begins : {C : Type 0} (row : C → Row) (IsWhole : C → Type 0) (reading : ℕ → Direction → List ℕ → ℕ → Found C) → Names row IsWhole reading
    → (c d : C) (port : ℕ) (dir : Direction) (bytes more : List ℕ) → takes_rest (row c).parts ≡ false
    → Spells row IsWhole c port dir bytes 0 (length bytes) → Spells row IsWhole d port dir (bytes ++ more) 0 (length (bytes ++ more)) → more ≡ []
none_begins row IsWhole reading names c d port dir bytes more closed first second =
    let still : Spells row IsWhole c port dir (bytes ++ more) 0 (length bytes) =
    record { listed = first.listed; lies = row_before_more (row c) bytes more 0 (length bytes) closed first.lies; whole = first.whole } in
    let same = one row IsWhole reading names c d port dir (bytes ++ more) 0 (length bytes) (length (bytes ++ more)) still second in
    nil_from_length more (omega (arith, same.1, length-append bytes more))
