use Rattle.std.proofs.Common.{◌≡◌, ℕ, zero, suc, ◌<◌, ◌∙◌, sym, ap₂, refl, arith, rules, List, [], ◌∷◌, ◌++◌, length, get_or, w16, w64}
use Rattle.std.specs.Int.{from_le_bytes, to_le_bytes}
use Rattle.std.proofs.lemmas.Nat.{le_bytes_2, le_bytes_8}
use Rattle.std.proofs.lemmas.List.{ext_get_or}
use Rattle.flash_session.proofs.reading.head_of.Goals as goal

abbrev eight : List ℕ → List ℕ
eight xs = get_or xs 2 0 ∷ get_or xs 3 0 ∷ get_or xs 4 0 ∷ get_or xs 5 0 ∷ get_or xs 6 0 ∷ get_or xs 7 0 ∷ get_or xs 8 0 ∷ get_or xs 9 0 ∷ []

each : (xs : List ℕ) (i : ℕ) → i < 10 → get_or (get_or xs 0 0 ∷ get_or xs 1 0 ∷ eight xs) i 0 ≡ get_or xs i 0
each xs zero lt = refl
each xs (suc zero) lt = refl
each xs (suc (suc zero)) lt = refl
each xs (suc (suc (suc zero))) lt = refl
each xs (suc (suc (suc (suc zero)))) lt = refl
each xs (suc (suc (suc (suc (suc zero))))) lt = refl
each xs (suc (suc (suc (suc (suc (suc zero)))))) lt = refl
each xs (suc (suc (suc (suc (suc (suc (suc zero))))))) lt = refl
each xs (suc (suc (suc (suc (suc (suc (suc (suc zero)))))))) lt = refl
each xs (suc (suc (suc (suc (suc (suc (suc (suc (suc zero))))))))) lt = refl
each xs (suc (suc (suc (suc (suc (suc (suc (suc (suc (suc i)))))))))) lt = absurd (omega (arith, lt))

bounds_2 : (a b : ℕ) → a < 256 → b < 256 → (i : ℕ) → get_or (a ∷ b ∷ []) i 0 < 256
bounds_2 a b ha hb zero = ha
bounds_2 a b ha hb (suc zero) = hb
bounds_2 a b ha hb (suc (suc i)) = omega arith

bounds_8 : (xs : List ℕ) → ((i : ℕ) → get_or xs i 0 < 256) → (i : ℕ) → get_or (eight xs) i 0 < 256
bounds_8 xs h zero = h 2
bounds_8 xs h (suc zero) = h 3
bounds_8 xs h (suc (suc zero)) = h 4
bounds_8 xs h (suc (suc (suc zero))) = h 5
bounds_8 xs h (suc (suc (suc (suc zero)))) = h 6
bounds_8 xs h (suc (suc (suc (suc (suc zero))))) = h 7
bounds_8 xs h (suc (suc (suc (suc (suc (suc zero)))))) = h 8
bounds_8 xs h (suc (suc (suc (suc (suc (suc (suc zero))))))) = h 9
bounds_8 xs h (suc (suc (suc (suc (suc (suc (suc (suc i)))))))) = omega arith

head_is : (xs : List ℕ) (n m : ℕ) → length xs ≡ 10 → ((i : ℕ) → get_or xs i 0 < 256) → n ≡ from_le_bytes w16 (get_or xs 0 0 ∷ get_or xs 1 0 ∷ []) → m ≡ from_le_bytes w64 (eight xs)
    → to_le_bytes w16 n ++ to_le_bytes w64 m ≡ xs
head_is xs n m sized bounds en em =
    let two : to_le_bytes w16 n ≡ get_or xs 0 0 ∷ get_or xs 1 0 ∷ [] = le_bytes_2 (get_or xs 0 0 ∷ get_or xs 1 0 ∷ []) n refl (bounds_2 (get_or xs 0 0) (get_or xs 1 0) (bounds 0) (bounds 1)) en in
    let rest : to_le_bytes w64 m ≡ eight xs = le_bytes_8 (eight xs) m refl (bounds_8 xs bounds) em in
    ap₂ (λ (a b : List ℕ). a ++ b) two rest ∙ ext_get_or 0 (get_or xs 0 0 ∷ get_or xs 1 0 ∷ eight xs) xs (sym sized) (λ i lt. each xs i lt)

pub returns : goal.returns
returns c = head_is c.args.head c.from_le_bytes.result c.from_le_bytes-2.result (search rules) (search rules) c.from_le_bytes.ensures c.from_le_bytes-2.ensures
