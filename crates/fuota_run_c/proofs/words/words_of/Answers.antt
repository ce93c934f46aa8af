use Rattle.std.proofs.Common.{◌≡◌, All, [], ◌∷◌, ◌++◌, map, string_bytes, take, ap, ◌∙◌, sym, subst, take_all}
use Rattle.std.specs.Prelude.{IsUtf8}
use Rattle.std.proofs.lemmas.List.{map-append, map_more}
use Rattle.fuota_run_c.specs.Given.{words_in}
use Rattle.fuota_run_c.specs.declared.words.WordFields.{WordFields}
use Rattle.fuota_run_c.proofs.OneMore.{text_at, texts_more}
use Rattle.fuota_run_c.proofs.words.words_of.Goals as goal

pub returns-in_default : goal.returns-in_default
returns-in_default c = record {
  texts = λ all. absurd (c.in_default.ensures.cases.0 (text_at _ _ _ c.loop-word-test.true all));
  others = λ _. ap (map string_bytes) c.new.ensures.items;
}

pub loop-word-preserved : goal.loop-word-preserved
loop-word-preserved c =
    let text : string_bytes c.in_ok-from_str.field-0 ≡ _ = c.in_ok-from_str.ensures.ok ∙ c.in-Ok.ensures.cases.0 in
    let more = map_more (λ (w : WordFields). w.bytes.now) c.args.told.now c.loop-word.word-index _ c.loop-word-test.true in (
      ap (map string_bytes) c.in_ok-push.ensures.items
          ∙ map-append string_bytes c.loop-word.words.items (c.in_ok-from_str.field-0 ∷ [])
          ∙ ap (λ ws. ws ++ string_bytes c.in_ok-from_str.field-0 ∷ []) c.loop-word.invariant.0
          ∙ ap (λ b. words_in (take c.loop-word.word-index c.args.told.now) ++ b ∷ []) text
          ∙ sym more,
      texts_more _ _ _ c.loop-word-test.true c.loop-word.invariant.1 c.in-Ok.ensures.cases.1,
    )

pub returns : goal.returns
returns c =
    let whole : take c.loop-word.word-index c.args.told.now ≡ c.args.told.now = take_all _ _ c.loop-word-test.false in
    record {
      texts = λ _. c.loop-word.invariant.0 ∙ ap words_in whole;
      others = λ no. absurd (no (subst (λ t. All IsUtf8 (words_in t)) whole c.loop-word.invariant.1));
    }
