-- All fragments are sent, and come to one device after another, some of them not and some twice.
use Rattle.std.proofs.Common.{◌≡◌, ◌⊎◌, inl, inr, ℕ, zero, suc, ◌+◌, ◌%◌, ◌<◌, ◌≤◌, ◌==◌, ◌&&◌, ◌||◌, nat_lt, nat_le, Bool, true, false, cond, List, [], ◌∷◌, ◌++◌, refl, sym, subst, arith}
use Rattle.frag_model.specs.Fragments.{Fragment}
use Rattle.device_core.specs.Device.{DeviceState}
use Rattle.campaign_server.specs.declared.stage.Stage.{Stage}
use Rattle.campaign_server.specs.declared.stage.Stage.TheVariants.{At}
use Rattle.campaign_server.specs.declared.stage.Request.TheVariants as request
use Rattle.script_lines.specs.declared.forms.Form.TheVariants.{Frag, Down}
use Rattle.campaign_generator.specs.Draws.{stepped, drawn, after_draws}
use Rattle.campaign_generator.specs.Script.{is_skipped, skips}
use Rattle.campaign_generator.specs.Forms.{forms_of_frags, forms_of_fragment, forms_of_downs, forms_of_deliveries}
use Rattle.campaign_world.specs.World.{WorldState}
use Rattle.campaign_laws.proofs.Plays.{To, none, both}
use Rattle.campaign_laws.proofs.Stands.{Stand, stand_within, frag_to, down_to}
use Rattle.campaign_laws.proofs.Orders.{OrderOf, order_heard, order_again}
use Rattle.campaign_laws.proofs.Hearing.{IsMade, IsReady, Hears, count_of, ready_hears, skip_hears, hears_fragment}

-- ---- all are sent

pub frags_to : (image : List ℕ) (answers : ℕ) (P : ℕ → DeviceState → Stage → Type 0) (payloads from left payloads' from' : ℕ) (w : WorldState) → payloads + 1 ≡ 16 + from → 1 ≤ from
    → from + left ≡ count_of image + 129 → payloads' ≡ payloads + left → from' ≡ from + left → Stand image payloads answers from P w → To w (forms_of_frags left) (Stand image payloads' answers from' P)
unfolding forms_of_frags
frags_to image answers P payloads from zero payloads' from' w at some sum p f k =
    let p' : payloads' ≡ payloads = omega (arith, p) in
    let f' : from' ≡ from = omega (arith, f) in
    none w (Stand image payloads' answers from' P) (rw (p', f') k)
frags_to image answers P payloads from (suc left) payloads' from' w at some sum p f k =
    both w (Frag ∷ []) (forms_of_frags left) (Stand image (payloads + 1) answers (from + 1) P) (Stand image payloads' answers from' P)
    (frag_to image payloads answers from P w at some (omega (arith, sum)) k)
    (λ v k'. frags_to image answers P (payloads + 1) (from + 1) left payloads' from' v (omega (arith, at)) (omega arith) (omega (arith, sum)) (omega (arith, p)) (omega (arith, f)) k')

-- ---- the deliveries

-- a device that was given all fragments
abbrev pub HeardAll : (image : List ℕ) → DeviceState → Stage → Type 0
HeardAll image d s = (skipped : ℕ) × Hears image (count_of image + 129) skipped d s

abbrev pub Ready : (image : List ℕ) → DeviceState → Stage → Type 0
Ready image d s = (s ≡ At request.Status) × IsReady image d

-- k devices were given all, of the next one this holds, the others are ready
pub record AtDown (image : List ℕ) (Q : DeviceState → Stage → Type 0) (k n : ℕ) (d : DeviceState) (s : Stage) : Type 0 where
  pub done : n ≤ k → HeardAll image d s
  pub here : n ≡ k + 1 → Q d s
  pub rest : k + 1 < n → Ready image d s

at_other : (image : List ℕ) (Q Q' : DeviceState → Stage → Type 0) (k m : ℕ) (d : DeviceState) (s : Stage) → (k + 1 ≡ m → ⊥) → AtDown image Q k m d s → AtDown image Q' k m d s
at_other image Q Q' k m d s other a = record { done = a.done; here = λ is. absurd (other (sym is)); rest = a.rest }

at_here : (image : List ℕ) (Q : DeviceState → Stage → Type 0) (k : ℕ) (d : DeviceState) (s : Stage) → Q d s → AtDown image Q k (k + 1) d s
at_here image Q k d s q = record { done = λ h. absurd (omega (arith, h)); here = λ is. q; rest = λ h. absurd (omega (arith, h)) }

down_one : (image : List ℕ) → IsMade image → (payloads answers k n m m' skipped : ℕ) (w : WorldState) → k + 1 ≤ 8 → 1 ≤ n → n < count_of image + 129
    → ((heard : List Fragment) (f : Fragment) → f.number ≡ n → OrderOf (count_of image) m skipped heard → OrderOf (count_of image) m' skipped (f ∷ heard))
    → Stand image payloads answers (count_of image + 129) (AtDown image (Hears image m skipped) k) w
    → To w (Down (16 + n) (k + 1) 0 ∷ []) (Stand image payloads answers (count_of image + 129) (AtDown image (Hears image m' skipped) k))
down_one image made payloads answers k n m m' skipped w high low within go stand =
    down_to image payloads answers (count_of image + 129) (AtDown image (Hears image m skipped) k) (AtDown image (Hears image m' skipped) k) w (k + 1) n (omega arith) high low within stand
    (λ d s a mark. let h = hears_fragment image n m m' skipped d s made low (omega (arith, within)) go (a.here refl) mark in (h.0, at_here image (Hears image m' skipped) k _ s h.1))
    (λ i d s other a. at_other image (Hears image m skipped) (Hears image m' skipped) k i d s other a)

may_skip : (v pieces n skipped : ℕ) → is_skipped v pieces n skipped ≡ true → (pieces < n) ⊎ (skipped < 60)
may_skip v pieces n skipped is = by (v == 0) (nat_lt pieces n) refl (nat_lt skipped 60) refl is
  where
    by : (a b : Bool) → nat_lt pieces n ≡ b → (c : Bool) → nat_lt skipped 60 ≡ c → (a && (b || c)) ≡ true → (pieces < n) ⊎ (skipped < 60)
    by true true past c small h = inl (grind (arith, past))
    by true false past true small h = inr (grind (arith, small))
    by true false past false small h = absurd cc
    by false b past c small h = absurd cc

-- one fragment, skipped or delivered once or twice, and then the rest
downs_step : (image : List ℕ) → IsMade image → (payloads answers k left g m skipped : ℕ) (w : WorldState) → k + 1 ≤ 8 → 1 ≤ m → m + suc left ≡ count_of image + 129
    → Stand image payloads answers (count_of image + 129) (AtDown image (Hears image m skipped) k) w
    → ((skipped' : ℕ) (v : WorldState) → Stand image payloads answers (count_of image + 129) (AtDown image (Hears image (m + 1) skipped') k) v
    → To v (forms_of_downs (k + 1) (count_of image) (stepped g) (m + 1) skipped' left) (Stand image payloads answers (count_of image + 129) (AtDown image (HeardAll image) k)))
    → To w (forms_of_fragment (is_skipped (drawn g % 10) (count_of image) m skipped) (drawn g % 10 == 1) (k + 1) m
    ++ forms_of_downs (k + 1) (count_of image) (stepped g) (m + 1) (skips (is_skipped (drawn g % 10) (count_of image) m skipped) (count_of image) m skipped) left)
    (Stand image payloads answers (count_of image + 129) (AtDown image (HeardAll image) k))
downs_step image made payloads answers k left g m skipped w high low sum stand then =
    by (is_skipped (drawn g % 10) (count_of image) m skipped) refl (drawn g % 10 == 1)
  where
    after : ℕ → WorldState → Type 0
    after skipped' = Stand image payloads answers (count_of image + 129) (AtDown image (Hears image (m + 1) skipped') k)

    goal : WorldState → Type 0
    goal = Stand image payloads answers (count_of image + 129) (AtDown image (HeardAll image) k)

    within : m < count_of image + 129
    within = omega (arith, sum)

    first : To w (Down (16 + m) (k + 1) 0 ∷ []) (after skipped)
    first = down_one image made payloads answers k m m (m + 1) skipped w high low within (λ heard f is o. order_heard (count_of image) m skipped heard f is low o) stand

    again : (v : WorldState) → after skipped v → To v (Down (16 + m) (k + 1) 0 ∷ []) (after skipped)
    again v stand' = down_one image made payloads answers k m (m + 1) (m + 1) skipped v high low within (λ heard f is o. order_again (count_of image) (m + 1) skipped heard f (omega (arith, is)) o) stand'

    by : (b : Bool) → is_skipped (drawn g % 10) (count_of image) m skipped ≡ b → (c : Bool)
        → To w (forms_of_fragment b c (k + 1) m ++ forms_of_downs (k + 1) (count_of image) (stepped g) (m + 1) (skips b (count_of image) m skipped) left) goal
    by true is c =
        then (cond (nat_le m (count_of image)) (skipped + 1) skipped) w
        (stand_within image payloads answers (count_of image + 129) (AtDown image (Hears image m skipped) k) (AtDown image (Hears image (m + 1) (cond (nat_le m (count_of image)) (skipped + 1) skipped)) k) w
        (λ n d s l h a. record { done = a.done; here = λ at. skip_hears image m skipped d s low (may_skip (drawn g % 10) (count_of image) m skipped is) (a.here at); rest = a.rest }) stand)
    by false is true =
        both w (Down (16 + m) (k + 1) 0 ∷ Down (16 + m) (k + 1) 0 ∷ []) (forms_of_downs (k + 1) (count_of image) (stepped g) (m + 1) skipped left) (after skipped) goal
        (both w (Down (16 + m) (k + 1) 0 ∷ []) (Down (16 + m) (k + 1) 0 ∷ []) (after skipped) (after skipped) first again) (then skipped)
    by false is false = both w (Down (16 + m) (k + 1) 0 ∷ []) (forms_of_downs (k + 1) (count_of image) (stepped g) (m + 1) skipped left) (after skipped) goal first (then skipped)

downs_to : (image : List ℕ) → IsMade image → (payloads answers k left g m skipped : ℕ) (w : WorldState) → k + 1 ≤ 8 → 1 ≤ m → m + left ≡ count_of image + 129
    → Stand image payloads answers (count_of image + 129) (AtDown image (Hears image m skipped) k) w
    → To w (forms_of_downs (k + 1) (count_of image) g m skipped left) (Stand image payloads answers (count_of image + 129) (AtDown image (HeardAll image) k))
unfolding forms_of_downs
downs_to image made payloads answers k zero g m skipped w high low sum stand =
    let all : m ≡ count_of image + 129 = omega (arith, sum) in
    none w (Stand image payloads answers (count_of image + 129) (AtDown image (HeardAll image) k))
    (stand_within image payloads answers (count_of image + 129) (AtDown image (Hears image m skipped) k) (AtDown image (HeardAll image) k) w
    (λ n d s l h a. record { done = a.done; here = λ is. (skipped, subst (λ (i : ℕ). Hears image i skipped d s) all (a.here is)); rest = a.rest }) stand)
downs_to image made payloads answers k (suc left) g m skipped w high low sum stand =
    downs_step image made payloads answers k left g m skipped w high low sum stand
    (λ skipped' v stand'. downs_to image made payloads answers k left (stepped g) (m + 1) skipped' v high (omega arith) (omega (arith, sum)) stand')

-- all of k devices, none of the others
pub record Between (image : List ℕ) (k n : ℕ) (d : DeviceState) (s : Stage) : Type 0 where
  pub done : n ≤ k → HeardAll image d s
  pub rest : k < n → Ready image d s

done_by : (image : List ℕ) (k n : ℕ) (d : DeviceState) (s : Stage) → AtDown image (HeardAll image) k n d s → n ≤ k + 1 → (b : Bool) → (n == k + 1) ≡ b → HeardAll image d s
done_by image k n d s a low true is = a.here (grind (arith, is))
done_by image k n d s a low false is = a.done (grind (arith, is, low))

pub deliveries_to : (image : List ℕ) → IsMade image → (payloads answers k left g : ℕ) (w : WorldState) → k + left ≡ 8 → Stand image payloads answers (count_of image + 129) (Between image k) w
    → To w (forms_of_deliveries (count_of image) g (k + 1) left) (Stand image payloads answers (count_of image + 129) (Between image 8))
unfolding forms_of_deliveries
deliveries_to image made payloads answers k zero g w sum stand =
    let all : k ≡ 8 = omega (arith, sum) in
    none w (Stand image payloads answers (count_of image + 129) (Between image 8)) (subst (λ (i : ℕ). Stand image payloads answers (count_of image + 129) (Between image i) w) all stand)
deliveries_to image made payloads answers k (suc left) g w sum stand =
    both w (forms_of_downs (k + 1) (count_of image) g 1 0 (count_of image + 128)) (forms_of_deliveries (count_of image) (after_draws g (count_of image + 128)) (k + 1 + 1) left)
    (Stand image payloads answers (count_of image + 129) (AtDown image (HeardAll image) k)) (Stand image payloads answers (count_of image + 129) (Between image 8))
    (downs_to image made payloads answers k (count_of image + 128) g 1 0 w (omega (arith, sum)) (omega arith) (omega arith)
    (stand_within image payloads answers (count_of image + 129) (Between image k) (AtDown image (Hears image 1 0) k) w
    (λ n d s l h b. record { done = b.done; here = λ is. (let r = b.rest (omega (arith, is)) in ready_hears image d s made r.0 r.1); rest = λ past. b.rest (omega (arith, past)) }) stand))
    (λ v stand'. deliveries_to image made payloads answers (k + 1) left (after_draws g (count_of image + 128)) v (omega (arith, sum))
    (stand_within image payloads answers (count_of image + 129) (AtDown image (HeardAll image) k) (Between image (k + 1)) v
    (λ n d s l h a. record { done = λ low. done_by image k n d s a low (n == k + 1) refl; rest = λ past. a.rest past }) stand'))
