-- The words of a call, one after another.
use Rattle.std.proofs.Common.{ℕ, zero, suc, ◌<◌, ◌+◌, List, [], ◌∷◌, All, length, take, get_or, sym, subst, arith}
use Rattle.std.specs.Prelude.{IsUtf8}
use Rattle.std.proofs.lemmas.List.{get_or-map, length-map, map_more}
use Rattle.std.proofs.lemmas.List.Elements.{All-append}
use Rattle.fuota_run_c.specs.Given.{words_in}
use Rattle.fuota_run_c.specs.declared.words.WordFields.{WordFields}

-- where all are texts each one is
pub text_at : (told : List WordFields) (i : ℕ) (d : WordFields) → i < length told → All IsUtf8 (words_in told) → IsUtf8 (get_or told i d).bytes.now
text_at told i d there all =
    subst IsUtf8 (get_or-map (λ (w : WordFields). w.bytes.now) told i d [] there) (all i [] (rw length-map there))

alone : (text : List ℕ) → IsUtf8 text → All IsUtf8 (text ∷ [])
alone text is zero d there = is
alone text is (suc k) d there = absurd (omega (arith, there))

-- and with one text more all are texts
pub texts_more : (told : List WordFields) (i : ℕ) (d : WordFields) → i < length told → All IsUtf8 (words_in (take i told)) → IsUtf8 (get_or told i d).bytes.now
    → All IsUtf8 (words_in (take (i + 1) told))
texts_more told i d there all is =
    subst (All IsUtf8) (sym (map_more (λ (w : WordFields). w.bytes.now) told i d there))
    (All-append IsUtf8 (words_in (take i told)) _ all (alone _ is))
