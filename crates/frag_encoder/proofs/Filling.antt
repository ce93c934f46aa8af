-- A file and the zeros after it.
use Rattle.std.proofs.Common.{◌≡◌, ℕ, ◌+◌, ◌-◌, ◌*◌, ◌/◌, ◌%◌, ◌<◌, List, ◌++◌, length, take, drop, replicate, sym, ap, ap₂, ◌∙◌, subst, inl, inr, zero, suc, refl, suc-mul, length-take, arith}
use Rattle.std.proofs.lemmas.Bool.{cases_eq}
use Rattle.std.proofs.lemmas.Nat.{div-mul-add, mod-mul-add}
use Rattle.frag_model.specs.Fragments.{line_of, pieces_at, xor_all}
use Rattle.frag_encoder.specs.Encoding.{Encoding, IsFilled, nb_frag_of, padding_of, filled, pieces_of, data_of}

-- the numbers of what is kept are those of the file
pub record Kept (file bytes : List ℕ) (frag_size nb_frag padding : ℕ) : Type 0 where
  pub number : nb_frag_of (length file) frag_size ≡ nb_frag
  pub lacking : padding_of (length file) frag_size ≡ padding
  pub whole : filled file frag_size ≡ bytes

-- how many pieces fill so many of them, the last one lacking less than a piece
number_kept : (len frag_size m padding : ℕ) → 0 < frag_size → padding < frag_size → len ≡ suc m * frag_size - padding → nb_frag_of len frag_size ≡ suc m
number_kept len frag_size m padding some short is = elim (cases_eq padding 0) [
  | inl none ↦
      let all : len ≡ suc m * frag_size + 0 = omega (arith, is, none) in
      let quotient : len / frag_size ≡ suc m = ap (λ n. n / frag_size) all ∙ div-mul-add (suc m) frag_size 0 some in
      let rest : len % frag_size ≡ 0 = ap (λ n. n % frag_size) all ∙ mod-mul-add (suc m) frag_size 0 some in
      omega (arith, quotient, rest)
  | inr lacking ↦
      let part : len ≡ m * frag_size + (frag_size - padding) = omega (arith, is, short, suc-mul m frag_size) in
      let less : frag_size - padding < frag_size = omega (arith, lacking, short) in
      let quotient : len / frag_size ≡ m = ap (λ n. n / frag_size) part ∙ div-mul-add m frag_size (frag_size - padding) less in
      let rest : len % frag_size ≡ frag_size - padding = ap (λ n. n % frag_size) part ∙ mod-mul-add m frag_size (frag_size - padding) less in
      omega (arith, quotient, rest, short)
]

kept_file : (bytes : List ℕ) (frag_size m padding : ℕ) → IsFilled bytes frag_size (suc m) padding
    → Kept (take (length bytes - padding) bytes) bytes frag_size (suc m) padding
kept_file bytes frag_size m padding h =
    let file : List ℕ = take (length bytes - padding) bytes in
    let len : length file ≡ suc m * frag_size - padding = omega (arith, length-take (length bytes - padding) bytes, h.whole) in
    let number : nb_frag_of (length file) frag_size ≡ suc m = number_kept (length file) frag_size m padding h.some h.short len in
    let lacking : padding_of (length file) frag_size ≡ padding =
    ap (λ c. c * frag_size - length file) number ∙ omega (arith, len, h.short, suc-mul m frag_size) in
    record {
      number = number;
      lacking = lacking;
      whole = ap (λ p. file ++ replicate p 0) lacking ∙ sym h.zeros;
    }

-- what an encoder keeps is its file
pub kept : (e : Encoding) (bytes : List ℕ) (frag_size nb_frag padding : ℕ) → record { file = take (length bytes - padding) bytes; frag_size = frag_size } ≡ e
    → IsFilled bytes frag_size nb_frag padding → Kept e.file bytes e.frag_size nb_frag padding
kept e bytes frag_size zero padding is h = absurd (omega (arith, h.first))
kept e bytes frag_size (suc m) padding is h =
    subst (λ (d : Encoding). Kept d.file bytes d.frag_size (suc m) padding) is (kept_file bytes frag_size m padding h)

-- and so are its fragments
pub data_kept : (e : Encoding) (bytes : List ℕ) (frag_size nb_frag padding n : ℕ) → record { file = take (length bytes - padding) bytes; frag_size = frag_size } ≡ e
    → IsFilled bytes frag_size nb_frag padding → xor_all frag_size (pieces_at (line_of nb_frag n) (pieces_of nb_frag frag_size bytes)) ≡ data_of e.file e.frag_size n
unfolding data_of
data_kept e bytes frag_size nb_frag padding n is h =
    let first : Encoding = record { file = take (length bytes - padding) bytes; frag_size = frag_size } in
    let k : Kept first.file bytes frag_size nb_frag padding = kept first bytes frag_size nb_frag padding refl h in
    sym (ap₂ (λ count bs. xor_all frag_size (pieces_at (line_of count n) (pieces_of count frag_size bs))) k.number k.whole)
    ∙ ap (λ (d : Encoding). data_of d.file d.frag_size n) is

pub piece_kept : (e : Encoding) (bytes : List ℕ) (frag_size nb_frag padding n : ℕ) → record { file = take (length bytes - padding) bytes; frag_size = frag_size } ≡ e
    → IsFilled bytes frag_size nb_frag padding → take frag_size (drop ((n - 1) * frag_size) bytes) ≡ take e.frag_size (drop ((n - 1) * e.frag_size) (filled e.file e.frag_size))
piece_kept e bytes frag_size nb_frag padding n is h =
    let first : Encoding = record { file = take (length bytes - padding) bytes; frag_size = frag_size } in
    let k : Kept first.file bytes frag_size nb_frag padding = kept first bytes frag_size nb_frag padding refl h in
    ap (λ bs. take frag_size (drop ((n - 1) * frag_size) bs)) (sym k.whole)
    ∙ ap (λ (d : Encoding). take d.frag_size (drop ((n - 1) * d.frag_size) (filled d.file d.frag_size))) is
