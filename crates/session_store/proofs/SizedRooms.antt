-- A size for so many rows has room for so many of any file.
use Rattle.std.proofs.Common.{◌≡◌, ℕ, ◌+◌, ◌*◌, ◌≤◌, min, Bool, true, false, ◌&&◌, ◌||◌, not, nat_le, nat_lt, refl, sym, ap, ◌∙◌, arith, mul-le-mul}
use Rattle.std.proofs.lemmas.Bool.{leb-true, le-leb, ltb-false}
use Rattle.std.proofs.Math.Nat.{min-le_left}
use Rattle.frag_model.specs.Limits.{max_frag_size, max_pieces}
use Rattle.frag_session.specs.declared.setups.SetupReq.{SetupReq}
use Rattle.frag_session.specs.Setup.{setup_bits, bit_where, too_large, too_long, rows_of, wrong_coding, other_descriptor}
use Rattle.row_elimination.specs.Room.{Extent, has_room, words_for}
use Rattle.session_store.specs.Size.{Size, SizedLayout, store_room, size_for, large_size, session_extent}
use Rattle.session_store.specs.RowsDecide.{RowsDecide}

-- the size has words and bytes for so many rows of the longest lines and pieces, and memory for as many pieces as any file has
pub record IsSizeFor (rows : ℕ) (size : Size) : Type 0 where
  pub words : 64 * rows ≤ size.words
  pub bytes : 239 * rows ≤ size.bytes
  pub pieces : size.pieces ≡ max_pieces

by_rows : (rows : ℕ) (few some : Bool) → nat_le rows 16 ≡ few → nat_le rows 64 ≡ some → rows ≤ 256 → IsSizeFor rows (size_for rows)
by_rows rows true some is so most = let few : rows ≤ 16 = leb-true rows 16 is in
    rw (is) (record { words = omega (arith, few); bytes = omega (arith, few); pieces = refl })
by_rows rows false true is so most = let few : rows ≤ 64 = leb-true rows 64 so in
    rw (is, so) (record { words = omega (arith, few); bytes = omega (arith, few); pieces = refl })
by_rows rows false false is so most =
    rw (is, so) (record { words = omega (arith, most); bytes = omega (arith, most); pieces = refl })

pub size_is_for : (rows : ℕ) → rows ≤ 256 → IsSizeFor rows (size_for rows)
size_is_for rows most = by_rows rows (nat_le rows 16) (nat_le rows 64) refl refl most

few_words : (n : ℕ) → n ≤ max_pieces → words_for n ≤ 64
unfolding words_for
few_words n few = omega (arith, few)

-- so whether there is room is asked of the file alone
pub room_for : (rows pieces size : ℕ) (of : Size) (extent : Extent) → IsSizeFor rows of → pieces ≤ max_pieces → size ≤ max_frag_size
    → has_room of.words of.bytes extent pieces size (min rows pieces) ≡ (nat_le (pieces * size) extent.area && nat_le pieces extent.pieces)
unfolding has_room
room_for rows pieces size of extent is few small =
    let kept : min rows pieces ≤ rows = min-le_left rows pieces in
    let words : min rows pieces * words_for pieces ≤ rows * 64 = mul-le-mul kept (few_words pieces few) in
    let bytes : min rows pieces * size ≤ rows * 239 = mul-le-mul kept small in
    rw (
      le-leb (min rows pieces * words_for pieces) of.words (omega (arith, words, is.words)),
      le-leb (min rows pieces * size) of.bytes (omega (arith, bytes, is.bytes)),
    ) refl

-- what is refused already is asked for no room
asked : (long many wide a b : Bool) → (many ≡ false → wide ≡ false → a ≡ b) → (long || many || wide || not a) ≡ (long || many || wide || not b)
asked true many wide a b same = refl
asked false true wide a b same = refl
asked false false true a b same = refl
asked false false false a b same = ap not (same refl refl)

large_is_for : (rows : ℕ) → rows ≤ 256 → IsSizeFor rows large_size
large_is_for rows most = record { words = omega (arith, most); bytes = omega (arith, most); pieces = refl }

alike_too_large : (layout : SizedLayout) (held : Bool) (req : SetupReq) → layout.limits.rows ≤ 256
    → too_large (store_room (record layout { size = size_for layout.limits.rows }) held) layout.limits.rows req
    ≡ too_large (store_room (record layout { size = large_size }) held) layout.limits.rows req
unfolding too_large
alike_too_large layout held req most =
    let rows = layout.limits.rows in
    let extent = session_extent large_size layout.area in
    asked (too_long (store_room layout held).span req) (nat_lt max_pieces req.nb_frag) (nat_lt max_frag_size req.frag_size) _ _
    (λ few small.
    let fits = ltb-false max_pieces req.nb_frag few in
    let short = ltb-false max_frag_size req.frag_size small in
    ap (λ (n : ℕ). has_room (size_for rows).words (size_for rows).bytes (record { area = layout.area; pieces = n }) req.nb_frag req.frag_size (rows_of rows req)) (size_is_for rows most).pieces
    ∙ room_for rows req.nb_frag req.frag_size (size_for rows) extent (size_is_for rows most) fits short
    ∙ sym (room_for rows req.nb_frag req.frag_size large_size extent (large_is_for rows most) fits short))

pub rows_decide : RowsDecide
unfolding setup_bits
rows_decide = record {
  alike = λ layout held req most. ap (λ (large : Bool). bit_where (wrong_coding req) 1 + bit_where large 2
      + bit_where (nat_le layout.limits.sessions req.index) 4 + bit_where (other_descriptor layout.limits.descriptor req.descriptor) 8)
      (alike_too_large layout held req most);
  sixteen = refl;
  more = refl;
  many = refl;
  most = refl;
  largest = refl;
}
