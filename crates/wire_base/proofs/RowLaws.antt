-- Commands that were written are at their places, and are still there when more bytes are put after them.
use Rattle.std.proofs.Common.{◌≡◌, ℕ, ◌+◌, ◌-◌, ◌*◌, ◌/◌, ◌%◌, ◌^◌, ◌<◌, ◌≤◌, true, false, List, [], ◌∷◌, ◌++◌, length, get_or, refl, sym, ap, subst, ◌∙◌, append_assoc, arith, length-append, leb}
use Rattle.std.proofs.lemmas.Bool.{and_parts, leb-true}
use Rattle.std.proofs.lemmas.List.{append-nil, drop_at, get_or-append-add, get_or_append_left}
use Rattle.std.proofs.lemmas.Nat.{pow_pos, pow-add, div-mul-add, mod-mul-add, mul-add-lt}
use Rattle.std.proofs.Math.Pow.{pow_mono}
use Rattle.wire_base.specs.Numbers.{number_at, number_bytes}
use Rattle.wire_base.specs.Rows.{Bits, Part, number, packed, block, rest, Row, Lies, size, BitsLie, PartLies, PartsLie, packed_number, part_bytes, parts_bytes, spelling, BitsFit, PartsFit, are_apart, takes_rest, is_well_formed}
use Rattle.wire_base.proofs.NumberLaws.{number_at-append_left, number_at-number_bytes, length-number_bytes}

-- ---- fields packed into a number

-- fields that fit make a number below the limit
packed_below : (limit : ℕ) (fields : List Bits) → are_apart limit fields ≡ true → BitsFit fields → packed_number fields < 2 ^ limit
packed_below limit [] apart fit = pow_pos limit
packed_below limit (b ∷ bs) apart fit =
    let parts = and_parts (leb (b.low + b.count) limit) (are_apart b.low bs) apart in
    let room : b.count + b.low ≤ limit = omega (arith, leb-true (b.low + b.count) limit parts.0) in
    let low : packed_number bs < 2 ^ b.low = packed_below b.low bs parts.1 fit.1 in
    let here : b.value * 2 ^ b.low + packed_number bs < 2 ^ b.low * 2 ^ b.count = mul-add-lt b.value (2 ^ b.low) (packed_number bs) (2 ^ b.count) fit.0 low in
    let joined : 2 ^ (b.count + b.low) ≡ 2 ^ b.count * 2 ^ b.low = pow-add 2 b.count b.low in
    let wide : 2 ^ (b.count + b.low) ≤ 2 ^ limit = pow_mono room in
    omega arith

-- fields that are packed are in their bits, whatever is above them
packed_lie : (limit : ℕ) (fields : List Bits) (high : ℕ) → are_apart limit fields ≡ true → BitsFit fields → BitsLie (high * 2 ^ limit + packed_number fields) fields
packed_lie limit [] high apart fit = tt
packed_lie limit (b ∷ bs) high apart fit =
    let parts = and_parts (leb (b.low + b.count) limit) (are_apart b.low bs) apart in
    let room : b.low + b.count ≤ limit = leb-true (b.low + b.count) limit parts.0 in
    let low : packed_number bs < 2 ^ b.low = packed_below b.low bs parts.1 fit.1 in
    let above : ℕ = limit - (b.low + b.count) in
    let split : limit ≡ above + b.count + b.low = omega arith in
    let power : 2 ^ limit ≡ 2 ^ above * 2 ^ b.count * 2 ^ b.low = ap (λ (k : ℕ). 2 ^ k) split ∙ pow-add 2 (above + b.count) b.low ∙ ap (λ (k : ℕ). k * 2 ^ b.low) (pow-add 2 above b.count) in
    let top : ℕ = high * 2 ^ above * 2 ^ b.count + b.value in
    let whole : high * 2 ^ limit + (b.value * 2 ^ b.low + packed_number bs) ≡ top * 2 ^ b.low + packed_number bs = rw power (omega arith) in
    let here : (top * 2 ^ b.low + packed_number bs) / 2 ^ b.low % 2 ^ b.count ≡ b.value =
    rw (div-mul-add top (2 ^ b.low) (packed_number bs) low) (mod-mul-add (high * 2 ^ above) (2 ^ b.count) b.value fit.0) in
    subst (λ (n : ℕ). BitsLie n (b ∷ bs)) (sym whole) (here, packed_lie b.low bs top parts.1 fit.1)

-- ---- one part

pub length-part_bytes : (p : Part) → length (part_bytes p) ≡ size p
length-part_bytes (number width value) = length-number_bytes width value
length-part_bytes (packed width fields) = length-number_bytes width (packed_number fields)
length-part_bytes (block bytes) = refl
length-part_bytes (rest bytes) = refl

number_lies : (width value : ℕ) (before after : List ℕ) (at : ℕ) → length before ≡ at → value < 2 ^ (8 * width) → number_at (before ++ (number_bytes width value ++ after)) at width ≡ value
number_lies width value before after at is fits = subst (λ (k : ℕ). number_at (before ++ (number_bytes width value ++ after)) k width ≡ value) is (number_at-number_bytes width value before after fits)

packed_lies : (width : ℕ) (fields : List Bits) (before after : List ℕ) (at : ℕ) → length before ≡ at → are_apart (8 * width) fields ≡ true → BitsFit fields
    → BitsLie (number_at (before ++ (number_bytes width (packed_number fields) ++ after)) at width) fields
packed_lies width fields before after at is apart fit =
    let alone : 0 * 2 ^ (8 * width) + packed_number fields ≡ packed_number fields = omega arith in
    let whole = number_lies width (packed_number fields) before after at is (packed_below (8 * width) fields apart fit) in
    subst (λ (n : ℕ). BitsLie n fields) (sym whole) (subst (λ (n : ℕ). BitsLie n fields) alone (packed_lie (8 * width) fields 0 apart fit))

-- ---- the parts of a body

-- the front part is there, and the others come after it
joined : (p : Part) (ps : List Part) (before after : List ℕ) (at skip next : ℕ) → length before ≡ at + skip
    → PartLies (before ++ (part_bytes p ++ (parts_bytes ps ++ after))) (at + skip) p
    → ((front : List ℕ) → length front ≡ at + (skip + size p) → PartsLie (front ++ (parts_bytes ps ++ after)) at (skip + size p) ps next)
    → PartsLie (before ++ ((part_bytes p ++ parts_bytes ps) ++ after)) at skip (p ∷ ps) next
joined p ps before after at skip next is first others =
    let regrouped : before ++ ((part_bytes p ++ parts_bytes ps) ++ after) ≡ before ++ (part_bytes p ++ (parts_bytes ps ++ after)) =
    ap (λ (t : List ℕ). before ++ t) (append_assoc (part_bytes p) (parts_bytes ps) after) in
    let longer : length (before ++ part_bytes p) ≡ at + (skip + size p) = omega (arith, length-append before (part_bytes p), length-part_bytes p) in
    let behind : PartsLie (before ++ (part_bytes p ++ (parts_bytes ps ++ after))) at (skip + size p) ps next =
    subst (λ (t : List ℕ). PartsLie t at (skip + size p) ps next) (append_assoc before (part_bytes p) (parts_bytes ps ++ after)) (others (before ++ part_bytes p) longer) in
    subst (λ (t : List ℕ). PartsLie t at skip (p ∷ ps) next) (sym regrouped) (first, behind)

parts_written : (ps : List Part) (before after : List ℕ) (at skip next : ℕ) → length before ≡ at + skip → next ≡ at + skip + length (parts_bytes ps)
    → is_well_formed ps ≡ true → PartsFit ps → (takes_rest ps ≡ true → after ≡ []) → PartsLie (before ++ (parts_bytes ps ++ after)) at skip ps next
parts_written [] before after at skip next is ends formed fit alone = (omega (arith, ends), omega (arith, length-append before after))
parts_written (number width value ∷ ps) before after at skip next is ends formed fit alone =
    joined (number width value) ps before after at skip next is (number_lies width value before (parts_bytes ps ++ after) (at + skip) is fit.0)
    (λ front longer. parts_written ps front after at (skip + width) next longer (omega (arith, ends, length-append (number_bytes width value) (parts_bytes ps), length-number_bytes width value)) formed fit.1 alone)
parts_written (packed width fields ∷ ps) before after at skip next is ends formed fit alone =
    let parts = and_parts (are_apart (8 * width) fields) (is_well_formed ps) formed in
    joined (packed width fields) ps before after at skip next is (packed_lies width fields before (parts_bytes ps ++ after) (at + skip) is parts.0 fit.0)
    (λ front longer. parts_written ps front after at (skip + width) next longer (omega (arith, ends, length-append (number_bytes width (packed_number fields)) (parts_bytes ps), length-number_bytes width (packed_number fields))) parts.1 fit.1 alone)
parts_written (block bytes ∷ ps) before after at skip next is ends formed fit alone =
    joined (block bytes) ps before after at skip next is
    (λ k below. subst (λ (place : ℕ). get_or (before ++ (bytes ++ (parts_bytes ps ++ after))) (place + k) 0 ≡ get_or bytes k 0) is
    (get_or-append-add before (bytes ++ (parts_bytes ps ++ after)) k 0 ∙ get_or_append_left bytes (parts_bytes ps ++ after) 0 k below))
    (λ front longer. parts_written ps front after at (skip + length bytes) next longer (omega (arith, ends, length-append bytes (parts_bytes ps))) formed fit.1 alone)
parts_written (rest bytes ∷ []) before after at skip next is ends formed fit alone =
    let nothing : after ≡ [] = alone refl in
    let all : bytes ++ ([] ++ after) ≡ bytes = ap (λ (t : List ℕ). bytes ++ ([] ++ t)) nothing ∙ append-nil bytes in
    joined (rest bytes) [] before after at skip next is (drop_at before (bytes ++ ([] ++ after)) (at + skip) is ∙ all)
    (λ front longer. parts_written [] front after at (skip + length bytes) next longer (omega (arith, ends, length-append bytes [])) refl tt (λ _. nothing))
parts_written (rest bytes ∷ p ∷ ps) before after at skip next is ends formed fit alone = absurd cc

pub row_written : (row : Row) (before after : List ℕ) → is_well_formed row.parts ≡ true → PartsFit row.parts → row.cid < 256 → (takes_rest row.parts ≡ true → after ≡ [])
    → Lies row (before ++ (spelling row ++ after)) (length before) (length before + length (spelling row))
row_written row before after formed fit small alone =
    let zero_more : length before ≡ length before + 0 = omega arith in
    let one_more : length (before ++ row.cid ∷ []) ≡ length before + 1 = length-append before (row.cid ∷ []) in
    let ends : length before + length (spelling row) ≡ length before + 1 + length (parts_bytes row.parts) = omega arith in
    let regrouped : (before ++ row.cid ∷ []) ++ (parts_bytes row.parts ++ after) ≡ before ++ (spelling row ++ after) = append_assoc before (row.cid ∷ []) (parts_bytes row.parts ++ after) in
    let whole : row.cid % 256 ≡ row.cid = omega arith in
    let first : number_at (before ++ (number_bytes 1 row.cid ++ (parts_bytes row.parts ++ after))) (length before) 1 ≡ row.cid = number_at-number_bytes 1 row.cid before (parts_bytes row.parts ++ after) small in
    record {
      cid_is = subst (λ (c : ℕ). number_at (before ++ ((c ∷ []) ++ (parts_bytes row.parts ++ after))) (length before) 1 ≡ row.cid) whole first;
      parts_lie = subst (λ (t : List ℕ). PartsLie t (length before) 1 row.parts (length before + length (spelling row))) regrouped
          (parts_written row.parts (before ++ row.cid ∷ []) after (length before) 1 (length before + length (spelling row)) one_more ends formed fit alone);
    }

-- ---- more bytes after

-- parts that are there end within the bytes, and not before their place
pub parts_before : (ps : List Part) (bytes : List ℕ) (at skip next : ℕ) → PartsLie bytes at skip ps next → (next ≤ length bytes) × (at + skip ≤ next)
parts_before [] bytes at skip next lie = (lie.1, omega (arith, lie.0))
parts_before (p ∷ ps) bytes at skip next lie =
    let later = parts_before ps bytes at (skip + size p) next lie.1 in
    (later.0, omega (arith, later.1))

-- the parts of p ∷ ps are there, so p ends within the bytes
part_within : (p : Part) (ps : List Part) (bytes : List ℕ) (at skip next : ℕ) → PartsLie bytes at skip (p ∷ ps) next → at + skip + size p ≤ length bytes
part_within p ps bytes at skip next lie =
    let later = parts_before ps bytes at (skip + size p) next lie.1 in
    omega (arith, later.0, later.1)

BitsLie-same : (m n : ℕ) (fields : List Bits) → m ≡ n → BitsLie m fields → BitsLie n fields
BitsLie-same m n fields same lie = subst (λ (k : ℕ). BitsLie k fields) same lie

parts_before_more : (ps : List Part) (bytes more : List ℕ) (at skip next : ℕ) → takes_rest ps ≡ false → PartsLie bytes at skip ps next → PartsLie (bytes ++ more) at skip ps next
parts_before_more [] bytes more at skip next closed lie = (lie.0, omega (arith, lie.1, length-append bytes more))
parts_before_more (number width value ∷ ps) bytes more at skip next closed lie =
    let within = part_within (number width value) ps bytes at skip next lie in
    (number_at-append_left bytes more (at + skip) width within ∙ lie.0, parts_before_more ps bytes more at (skip + width) next closed lie.1)
parts_before_more (packed width fields ∷ ps) bytes more at skip next closed lie =
    let within = part_within (packed width fields) ps bytes at skip next lie in
    (BitsLie-same _ _ fields (sym (number_at-append_left bytes more (at + skip) width within)) lie.0, parts_before_more ps bytes more at (skip + width) next closed lie.1)
parts_before_more (block own ∷ ps) bytes more at skip next closed lie =
    let within = part_within (block own) ps bytes at skip next lie in
    ((λ k below. get_or_append_left bytes more 0 (at + skip + k) (omega arith) ∙ lie.0 k below), parts_before_more ps bytes more at (skip + length own) next closed lie.1)
parts_before_more (rest own ∷ ps) bytes more at skip next closed lie = absurd cc

pub row_before_more : (row : Row) (bytes more : List ℕ) (at next : ℕ) → takes_rest row.parts ≡ false → Lies row bytes at next → Lies row (bytes ++ more) at next
row_before_more row bytes more at next closed lies =
    let span = parts_before row.parts bytes at 1 next lies.parts_lie in
    record {
      cid_is = number_at-append_left bytes more at 1 (omega (arith, span.0, span.1)) ∙ lies.cid_is;
      parts_lie = parts_before_more row.parts bytes more at 1 next closed lies.parts_lie;
    }
