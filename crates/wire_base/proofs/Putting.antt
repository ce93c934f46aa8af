-- Parts that are put one after another.
use Rattle.std.proofs.Common.{◌≡◌, ℕ, ◌+◌, ◌<◌, ◌≤◌, List, ◌++◌, length, Result, Ok, Err, refl, ap, subst, ◌∙◌, append_assoc, arith, length-append}
use Rattle.std.proofs.lemmas.Bool.{false≢true}
use Rattle.wire_base.specs.declared.payload.Full.{Full}
use Rattle.wire_base.specs.Payload.{Appends}

-- what is put after x stands after what stood before x
pub then : {a b c x y : List ℕ} {u v : Unit {0}} → Appends a b x (Ok u) → Appends b c y (Ok v) → Appends a c (x ++ y) (Ok v)
then {a} {b} {c} {x} {y} first second =
    let longer : length b ≡ length a + length x = ap length first.appended ∙ length-append a x in
    let within : length b + length y ≤ 242 = second.room.0 refl in
    let whole : length a + length (x ++ y) ≤ 242 = omega (arith, length-append x y) in
    record {
      room = ((λ _. whole), λ _. refl);
      appended = second.appended ∙ ap (λ (t : List ℕ). t ++ y) first.appended ∙ append_assoc a x y;
      unchanged = tt;
    }

pub puts_same : {a b x y : List ℕ} {r : Result (Unit {0}) Full} → x ≡ y → Appends a b x r → Appends a b y r
puts_same {a} {b} {x} {y} {r} same put = subst (λ (bytes : List ℕ). Appends a b bytes r) same put

-- without room nothing changes
pub refused : {out bytes : List ℕ} {full : Full} → 242 < length out + length bytes → Appends out out bytes (Err full)
refused {out} {bytes} past = record { room = ((λ ok. absurd (false≢true ok)), λ fits. absurd (omega arith)); appended = tt; unchanged = refl }
