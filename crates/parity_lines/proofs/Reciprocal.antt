-- A quotient by a number of 13 bits, from a product with its reciprocal.
use Rattle.std.proofs.Common.{◌≡◌, ℕ, ◌+◌, ◌-◌, ◌*◌, ◌/◌, ◌%◌, ◌^◌, ◌<◌, ◌≤◌, sym, ap, ◌∙◌, arith}
use Rattle.std.proofs.Math.Nat.{add-mul, mul-add, mul_assoc}
use Rattle.std.proofs.lemmas.Nat.{div-add-mod', div-mul-add, mul-le, row_fits, le-div, mod_below}
use Rattle.frag_model.specs.Limits.{max_pieces}

pub quotient : (x m r : ℕ) → x < 2 ^ 23 → 0 < m → m ≤ max_pieces + 1 → r ≡ 2 ^ 36 / m + 1 → x * r / 2 ^ 36 ≡ x / m
quotient x m r small some most is =
    let p : ℕ = 2 ^ 36 / m in
    let e : ℕ = m - 2 ^ 36 % m in
    let q : ℕ = x / m in
    let t : ℕ = x % m in
    let whole : p * m + 2 ^ 36 % m ≡ 2 ^ 36 = div-add-mod' (2 ^ 36) m in
    let below : 2 ^ 36 % m < m = mod_below (2 ^ 36) m some in
    let over : m * r ≡ 2 ^ 36 + e = ap (λ n. m * n) is ∙ mul-add m p 1 ∙ omega (arith, whole, below) in
    let split : q * m + t ≡ x = div-add-mod' x m in
    let rest : t < m = mod_below x m some in
    let product : x * r ≡ q * 2 ^ 36 + (q * e + t * r) =
    ap (λ n. n * r) (sym split) ∙ add-mul (q * m) t r ∙ ap (λ n. n + t * r) (mul_assoc q m r ∙ ap (λ n. q * n) over ∙ mul-add q (2 ^ 36) e) ∙ omega arith in
    let long : 16760000 ≤ p = le-div 16760000 (2 ^ 36) m some (omega arith) in
    let row : t * r + r ≤ m * r = row_fits t r m r rest (omega arith) in
    let few : q * e ≤ q * m = mul-le q e q m (omega arith) (omega arith) in
    let fits : q * e + t * r < 2 ^ 36 = omega (arith, row, over, few, split, long, is) in
    ap (λ n. n / 2 ^ 36) product ∙ div-mul-add q (2 ^ 36) (q * e + t * r) fits
