-- What a decoded payload leaves in memory of C's.
use Rattle.std.proofs.Common.{◌≡◌, inr, ℕ, List, refl, sym, subst}
use Rattle.std.specs.Prelude.{Ok, Err, IfOk}
use Rattle.wire_base.specs.declared.refusal.Refusal.{Refusal}
use Rattle.package_grammar.specs.Reading.{Reading}
use Rattle.sample_decoder.specs.Lines.{lines_of}
use Rattle.c_base.specs.Answer.{no_memory, refused}
use Rattle.fuota_c.specs.declared.decoding.DecodedFields.{DecodedFields}
use Rattle.fuota_c.specs.Decoded.{IsDecoded, IsTextOut, why_number}

-- a text that is out is that of the commands
pub out_of : (reading : Reading) (text old new : List ℕ) (before out : DecodedFields) (answer : ℕ)
    → IfOk reading (λ commands. text ≡ lines_of commands) → ((r : Refusal) → reading ≡ Err r → ⊥)
    → IsTextOut text old new before out answer → IsDecoded reading old new before out answer
out_of (Ok commands) text old new before out answer is none made =
    subst (λ (w : List ℕ). IsTextOut w old new before out answer) is made
out_of (Err e) text old new before out answer is none made = absurd (none e refl)

-- where memory was missing, whatever the text
pub wanting : (reading : Reading) (old : List ℕ) (out : DecodedFields)
    → ((r : Refusal) → reading ≡ Err r → ⊥) → IsDecoded reading old old out out no_memory
wanting (Ok commands) old out none = inr (inr (record { answered = refl; stays = refl; untold = refl }))
wanting (Err e) old out none = absurd (none e refl)

pub refused_at : (reading : Reading) (old : List ℕ) (before out : DecodedFields) (refusal : Refusal)
    → reading ≡ Err refusal → out.at ≡ refusal.at → out.why ≡ why_number refusal.why → out.length ≡ before.length
    → IsDecoded reading old old before out refused
refused_at reading old before out refusal is place why count =
    subst (λ (r : Reading). IsDecoded r old old before out refused) (sym is)
    (record { answered = refl; stays = refl; at = place; why = why; count = count })
