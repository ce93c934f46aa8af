use Rattle.std.proofs.Common.{rules, refl, ap, Err, inl, inr}
use Rattle.fuota_c.proofs.Decodings.{out_of, wanting, refused_at}
use Rattle.fuota_c.proofs.decoding.decode_into.Goals as goal

pub returns-then-len-text : goal.returns-then-len-text
returns-then-len-text c = out_of _ c.in-Ok.lines.items _ _ _ _ _ c.in-Ok.ensures.text
    (λ r is. let wrong = (c.in-Ok.ensures.refused r).1 is in cc)
    (inr (inl (record {
      answered = refl;
      over = search rules;
      stays = refl;
      told = record { count = search rules; at = refl; why = refl };
    })))

pub returns-else-len-text : goal.returns-else-len-text
returns-else-len-text c = out_of _ c.in-Ok.lines.items _ _ _ _ _ c.in-Ok.ensures.text
    (λ r is. let wrong = (c.in-Ok.ensures.refused r).1 is in cc)
    (inl (record {
      answered = refl;
      put = search rules;
      told = record { count = search rules; at = refl; why = refl };
    }))

pub returns-in-Err-Memory : goal.returns-in-Err-Memory
returns-in-Err-Memory c = wanting _ _ _
    (λ r is. let wrong = (c.in-Err-Memory.ensures.refused r).1 is in let memory = c.in-Err-Memory.field-0-is in cc)

pub returns-in-Err-Refused : goal.returns-in-Err-Refused
returns-in-Err-Refused c = refused_at _ _ _ _ c.in-Err-Refused.refusal
    ((c.in-Err-Refused.ensures.refused c.in-Err-Refused.refusal).0 (ap Err c.in-Err-Refused.field-0-is))
    refl c.why_number-out.ensures refl
