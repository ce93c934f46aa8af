-- Turns of one device after another.
use Rattle.std.proofs.Common.{◌≡◌, ℕ, zero, suc, ◌+◌, ◌*◌, ◌<◌, ◌≤◌, ◌==◌, nat_le, Bool, true, false, cond, List, refl, sym, ap, ◌∙◌, subst, arith}
use Rattle.std.proofs.Math.Nat.{mul-zero, mul-suc}
use Rattle.device_core.specs.Device.{DeviceState}
use Rattle.campaign_server.specs.declared.stage.Stage.{Stage}
use Rattle.campaign_generator.specs.Forms.{forms_of_turn, forms_of_turns, forms_of_rounds}
use Rattle.campaign_world.specs.World.{WorldState}
use Rattle.campaign_laws.proofs.Plays.{To, none, both}
use Rattle.campaign_laws.proofs.Stands.{Stand, TakesTurn, turn_to, stand_within}

-- how many turns device n has had, where k devices are done and the next one had j
abbrev pub had : ℕ → ℕ → ℕ → ℕ → ℕ
had each k j n = cond (nat_le n k) each (cond (n == k + 1) j 0)

abbrev pub AtTurn : (ℕ → DeviceState → Stage → Type 0) → ℕ → ℕ → ℕ → ℕ → DeviceState → Stage → Type 0
AtTurn L each k j n d s = L (had each k j n) d s

-- what each of so many turns makes of a device
abbrev pub TakesTurns : (image : List ℕ) (each : ℕ) → (ℕ → DeviceState → Stage → Type 0) → Type 0
TakesTurns image each L = (j : ℕ) → j < each → (d : DeviceState) (s : Stage) → L j d s → TakesTurn image (L (j + 1)) d s

had_mine : (each k j : ℕ) → had each k j (k + 1) ≡ j
had_mine each k j =
    let past : nat_le (k + 1) k ≡ false = grind arith in
    let same : (k + 1 == k + 1) ≡ true = grind arith in
    rw (past, same) refl

had_other : (each k i j n : ℕ) → (k + 1 ≡ n → ⊥) → had each k i n ≡ had each k j n
had_other each k i j n other = let no' : (n == k + 1) ≡ false = grind (arith, other) in rw no' refl

cond_same : {A : Type 0} (x : A) (b : Bool) → cond b x x ≡ x
cond_same x true = refl
cond_same x false = refl

had_done : (each k n : ℕ) → had each k each n ≡ had each (k + 1) 0 n
had_done each k n = by (nat_le n k) refl (n == k + 1) refl
  where
    by : (b : Bool) → nat_le n k ≡ b → (c : Bool) → (n == k + 1) ≡ c → had each k each n ≡ had each (k + 1) 0 n
    by true low c is = let more : nat_le n (k + 1) ≡ true = grind (arith, low) in rw (low, more) refl
    by false low true is = let more : nat_le n (k + 1) ≡ true = grind (arith, is) in rw (low, is, more) refl
    by false low false is =
        let more : nat_le n (k + 1) ≡ false = grind (arith, low, is) in
        rw (low, is, more) (sym (cond_same 0 (n == k + 1 + 1)))

-- the turns that a device still has
turns_to : (image : List ℕ) (each : ℕ) (L : ℕ → DeviceState → Stage → Type 0) (k j left payloads answers from payloads' answers' : ℕ) (w : WorldState) → TakesTurns image each L → k + 1 ≤ 8 → j + left ≡ each
    → payloads' ≡ payloads + left → answers' ≡ answers + left → Stand image payloads answers from (AtTurn L each k j) w
    → To w (forms_of_turns (k + 1) (payloads + 1) (answers + 1) left) (Stand image payloads' answers' from (AtTurn L each (k + 1) 0))
unfolding forms_of_turns
turns_to image each L k j zero payloads answers from payloads' answers' w takes high sum p a stands =
    let all : j ≡ each = omega arith in
    let p' : payloads' ≡ payloads = omega arith in
    let a' : answers' ≡ answers = omega arith in
    none w (Stand image payloads' answers' from (AtTurn L each (k + 1) 0))
    (rw (p', a') (stand_within image payloads answers from (AtTurn L each k j) (AtTurn L each (k + 1) 0) w (λ n d s low top h. subst (λ (t : ℕ). L t d s) (ap (λ (i : ℕ). had each k i n) all ∙ had_done each k n) h) stands))
turns_to image each L k j (suc left) payloads answers from payloads' answers' w takes high sum p a stands =
    both w (forms_of_turn (k + 1) (payloads + 1) (answers + 1)) (forms_of_turns (k + 1) (payloads + 1 + 1) (answers + 1 + 1) left)
    (Stand image (payloads + 1) (answers + 1) from (AtTurn L each k (j + 1))) (Stand image payloads' answers' from (AtTurn L each (k + 1) 0))
    (turn_to image payloads answers from (AtTurn L each k j) (AtTurn L each k (j + 1)) w (k + 1) (omega arith) high stands mine
    (λ m d s other h. subst (λ (t : ℕ). L t d s) (had_other each k j (j + 1) m other) h))
    (λ v k'. turns_to image each L k (j + 1) left (payloads + 1) (answers + 1) from payloads' answers' v takes high (omega arith) (omega arith) (omega arith) k')
  where
    mine : (d : DeviceState) (s : Stage) → AtTurn L each k j (k + 1) d s → TakesTurn image (AtTurn L each k (j + 1) (k + 1)) d s
    mine d s h =
        subst (λ (i : ℕ). TakesTurn image (L i) d s) (sym (had_mine each k (j + 1))) (takes j (omega (arith, sum)) d s (subst (λ (i : ℕ). L i d s) (had_mine each k j) h))

-- the turns of all devices that are left
pub rounds_to : (image : List ℕ) (each : ℕ) (L : ℕ → DeviceState → Stage → Type 0) (k left payloads answers from payloads' answers' : ℕ) (w : WorldState) → TakesTurns image each L → k + left ≡ 8
    → payloads' ≡ payloads + each * left → answers' ≡ answers + each * left → Stand image payloads answers from (AtTurn L each k 0) w
    → To w (forms_of_rounds each (k + 1) (payloads + 1) (answers + 1) left) (Stand image payloads' answers' from (AtTurn L each 8 0))
unfolding forms_of_rounds
rounds_to image each L k zero payloads answers from payloads' answers' w takes sum p a stands =
    let all : k ≡ 8 = omega arith in
    let p' : payloads' ≡ payloads = omega (arith, p, mul-zero each) in
    let a' : answers' ≡ answers = omega (arith, a, mul-zero each) in
    none w (Stand image payloads' answers' from (AtTurn L each 8 0)) (rw (p', a') (subst (λ (i : ℕ). Stand image payloads answers from (AtTurn L each i 0) w) all stands))
rounds_to image each L k (suc left) payloads answers from payloads' answers' w takes sum p a stands =
    let p' : payloads' ≡ payloads + each + each * left = omega (arith, p, mul-suc each left) in
    let a' : answers' ≡ answers + each + each * left = omega (arith, a, mul-suc each left) in
    both w (forms_of_turns (k + 1) (payloads + 1) (answers + 1) each) (forms_of_rounds each (k + 1 + 1) (payloads + 1 + each) (answers + 1 + each) left)
    (Stand image (payloads + each) (answers + each) from (AtTurn L each (k + 1) 0)) (Stand image payloads' answers' from (AtTurn L each 8 0))
    (turns_to image each L k 0 each payloads answers from (payloads + each) (answers + each) w takes (omega arith) (omega arith) refl refl stands)
    (λ v k'.
    let p'' : payloads + 1 + each ≡ payloads + each + 1 = omega arith in
    let a'' : answers + 1 + each ≡ answers + each + 1 = omega arith in
    rw (p'', a'') (rounds_to image each L (k + 1) left (payloads + each) (answers + each) from payloads' answers' v takes (omega arith) p' a' k'))
