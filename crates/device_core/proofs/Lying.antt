-- Fields in a list of bytes, each at its place.
use Rattle.std.proofs.Common.{◌≡◌, ℕ, zero, suc, ◌+◌, ◌-◌, ◌*◌, ◌^◌, ◌<◌, List, [], ◌∷◌, ◌++◌, length, get_or, take, drop, refl, sym, ap, ◌∙◌, append_assoc, length-append, arith}
use Rattle.std.proofs.lemmas.List.{get_or-append-add}
use Rattle.std.proofs.lemmas.Nat.{pow-add}
use Rattle.std.specs.Prelude.{slice_range}
use Rattle.wire_base.specs.Numbers.{number_at, number_bytes}
use Rattle.wire_base.proofs.NumberLaws.{number_at-number_bytes}

-- the field is at the place
pub record Lies (field bytes : List ℕ) (place : ℕ) : Type 0 where
  pub before : List ℕ
  pub after : List ℕ
  pub whole : bytes ≡ before ++ (field ++ after)
  pub at : length before ≡ place

-- what is put together is there part by part
pub lies_first : (f g bytes : List ℕ) (place : ℕ) → Lies (f ++ g) bytes place → Lies f bytes place
lies_first f g bytes place lies = record {
  before = lies.before;
  after = g ++ lies.after;
  whole = lies.whole ∙ ap (λ (x : List ℕ). lies.before ++ x) (append_assoc f g lies.after);
  at = lies.at;
}

pub lies_rest : (f g bytes : List ℕ) (place next : ℕ) → place + length f ≡ next → Lies (f ++ g) bytes place → Lies g bytes next
lies_rest f g bytes place next is lies = record {
  before = lies.before ++ f;
  after = lies.after;
  whole = lies.whole ∙ ap (λ (x : List ℕ). lies.before ++ x) (append_assoc f g lies.after) ∙ sym (append_assoc lies.before f (g ++ lies.after));
  at = length-append lies.before f ∙ ap (λ (n : ℕ). n + length f) lies.at ∙ is;
}

-- four that are put one after another
pub record Four (a b c d bytes : List ℕ) (p q r s : ℕ) : Type 0 where
  pub first : Lies a bytes p
  pub second : Lies b bytes q
  pub third : Lies c bytes r
  pub fourth : Lies d bytes s

pub lies_four : (a b c d bytes : List ℕ) (p q r s : ℕ) → p + length a ≡ q → q + length b ≡ r → r + length c ≡ s → Lies (a ++ b ++ c ++ d) bytes p
    → Four a b c d bytes p q r s
lies_four a b c d bytes p q r s to_q to_r to_s lies =
    let three = lies_first (a ++ b ++ c) d bytes p lies in
    let two = lies_first (a ++ b) c bytes p three in
    let ab = length-append a b in
    let abc = length-append (a ++ b) c in
    record {
      first = lies_first a b bytes p two;
      second = lies_rest a b bytes p q to_q two;
      third = lies_rest (a ++ b) c bytes p r (omega (arith, ab, to_q, to_r)) three;
      fourth = lies_rest (a ++ b ++ c) d bytes p s (omega (arith, abc, ab, to_q, to_r, to_s)) lies;
    }

-- a number
pub lies_number : (width n : ℕ) (bytes : List ℕ) (place : ℕ) → n < 2 ^ (8 * width) → Lies (number_bytes width n) bytes place → number_at bytes place width ≡ n
lies_number width n bytes place fits lies =
    ap (λ (b : List ℕ). number_at b place width) lies.whole
    ∙ ap (λ (p : ℕ). number_at (lies.before ++ (number_bytes width n ++ lies.after)) p width) (sym lies.at)
    ∙ number_at-number_bytes width n lies.before lies.after fits

-- a byte
pub lies_byte : (byte : ℕ) (bytes : List ℕ) (place : ℕ) → Lies (byte ∷ []) bytes place → get_or bytes place 0 ≡ byte
lies_byte byte bytes place lies =
    let here : length lies.before + 0 ≡ place = omega (arith, lies.at) in
    ap (λ (b : List ℕ). get_or b place 0) lies.whole
    ∙ ap (λ (p : ℕ). get_or (lies.before ++ (byte ∷ lies.after)) p 0) (sym here)
    ∙ get_or-append-add lies.before (byte ∷ lies.after) 0 0

-- the first of several
pub lies_head : (byte : ℕ) (more bytes : List ℕ) (place : ℕ) → Lies (byte ∷ more) bytes place → get_or bytes place 0 ≡ byte
lies_head byte more bytes place lies = lies_byte byte bytes place (lies_first (byte ∷ []) more bytes place lies)

pub lies_tail : (byte : ℕ) (more bytes : List ℕ) (place next : ℕ) → place + 1 ≡ next → Lies (byte ∷ more) bytes place → Lies more bytes next
lies_tail byte more bytes place next is lies = lies_rest (byte ∷ []) more bytes place next is lies

drop_front : (before more : List ℕ) → drop (length before) (before ++ more) ≡ more
drop_front [] more = refl
drop_front (x ∷ before) more = drop_front before more

take_front : (field after : List ℕ) → take (length field) (field ++ after) ≡ field
take_front [] after = refl
take_front (x ∷ field) after = ap (λ (t : List ℕ). x ∷ t) (take_front field after)

-- bytes
pub lies_range : (field bytes : List ℕ) (place end : ℕ) → place + length field ≡ end → Lies field bytes place → slice_range bytes place end ≡ field
lies_range field bytes place end is lies =
    let wide : end - place ≡ length field = omega (arith, is) in
    let rest : drop place bytes ≡ field ++ lies.after =
    ap (λ (b : List ℕ). drop place b) lies.whole
    ∙ ap (λ (p : ℕ). drop p (lies.before ++ (field ++ lies.after))) (sym lies.at)
    ∙ drop_front lies.before (field ++ lies.after) in
    ap (λ (n : ℕ). take n (drop place bytes)) wide
    ∙ ap (λ (b : List ℕ). take (length field) b) rest
    ∙ take_front field lies.after

-- ---- numbers of bytes are below their limit

pub number_below : (bytes : List ℕ) (place width : ℕ) → ((k : ℕ) → get_or bytes k 0 < 256) → number_at bytes place width < 2 ^ (8 * width)
unfolding number_at
number_below bytes place zero all = omega arith
number_below bytes place (suc width) all =
    let here = all place in
    let more = number_below bytes (place + 1) width all in
    let wider : 8 * suc width ≡ 8 * width + 8 = omega arith in
    let power : 2 ^ (8 * suc width) ≡ 2 ^ (8 * width) * 256 = ap (λ (k : ℕ). 2 ^ k) wider ∙ pow-add 2 (8 * width) 8 in
    omega (arith, power, here, more)
