-- Each device of either campaign is in the report of both, in the place of its ID.
use Rattle.std.proofs.Common.{◌≡◌, ◌⊎◌, inl, inr, ℕ, zero, suc, ◌+◌, ◌-◌, ◌≤◌, ◌==◌, nat_le, Bool, true, false, cond, List, [], ◌∷◌, ◌++◌, length, take, drop, slice_get, codes, Option, Some, None, Ok, refl, sym, ap, ◌∙◌, subst, append_assoc, arith}
use Rattle.std.proofs.lemmas.List.{length_push}
use Rattle.std.proofs.lemmas.Option.{slice_get_within}
use Rattle.std.proofs.lemmas.Bool.Decides.{nat_tests}
use Rattle.wire_base.specs.Numbered.{numbered}
use Rattle.device_core.specs.Device.{DeviceState}
use Rattle.device_core.specs.Events.{Event, Receives}
use Rattle.script_lines.specs.declared.forms.Campaign.{Campaign}
use Rattle.script_lines.specs.declared.forms.Campaign.TheVariants as campaign
use Rattle.script_lines.specs.declared.forms.Form.{Form}
use Rattle.script_lines.specs.declared.forms.Form.TheVariants as form
use Rattle.script_lines.specs.declared.forms.PairForm.{PairForm}
use Rattle.report_lines.specs.declared.faults.LineWhy.{LineWhy}
use Rattle.campaign_world.specs.declared.numbered.SentPayload.{SentPayload}
use Rattle.campaign_world.specs.World.{WorldState}
use Rattle.campaign_world.specs.Said.{Own, Elsewhere}
use Rattle.campaign_world.specs.Making.{with_event, after_form, after_said}
use Rattle.campaign_laws.proofs.HeadlineCounts.{event_many, made_many}
use Rattle.pair_run.specs.declared.owners.Owner.{Owner}
use Rattle.pair_run.specs.Targets.{Target, Header, At, End, One, Across, Nobody, named_target, target_for, count_of, target_of}
use Rattle.pair_run.specs.Pair.{PairState, first_pair, side, other, is_same}
use Rattle.pair_run.specs.PairCauses.{pair_cause_of, target_in}
use Rattle.pair_run.specs.PairMaking.{reached_by, behind, joined, newcomers, after_target}
use Rattle.pair_run.specs.PairReport.{pair_image_line, part_of, pair_parts, pair_report_of}
use Rattle.pair_run.specs.PairScript.{after_pair_line, pair_line_result, read_pair_line, read_pair_lines}
use Rattle.isolation_laws.specs.EachHeadline.{owner_of}
use Rattle.isolation_laws.specs.PairTold.{pair_report_with, EachIsReported}
use Rattle.isolation_laws.proofs.Goes.{pair_read}
use Rattle.pair_run.proofs.Unrefused.{unrefused, after_is}
use Rattle.pair_run.proofs.EachTarget.{is_at_device, IfOne, common_if, named_if}

-- ---- the report, parted at the lines of one device

parts_split : (pair : PairState) (k from id : ℕ) (owners : List Owner) (owner : Owner) → slice_get owners k ≡ Some owner → from + k ≡ id
    → pair_parts pair from owners
    ≡ pair_parts pair from (take k owners) ++ (part_of pair id owner ++ pair_parts pair (id + 1) (drop (suc k) owners))
unfolding pair_parts
parts_split pair k from id [] owner there is = absurd cc
parts_split pair zero from id (x ∷ xs) owner there is =
    let one : x ≡ owner = cc in
    let same : from ≡ id = omega (arith, is) in
    ap (λ (a : Owner). part_of pair from a ++ pair_parts pair (from + 1) xs) one
    ∙ ap (λ (n : ℕ). part_of pair n owner ++ pair_parts pair (n + 1) xs) same
parts_split pair (suc k) from id (x ∷ xs) owner there is =
    ap (λ (t : List ℕ). part_of pair from x ++ t) (parts_split pair k (from + 1) id xs owner there (omega (arith, is)))
    ∙ sym (append_assoc (part_of pair from x) (pair_parts pair (from + 1) (take k xs))
    (part_of pair id owner ++ pair_parts pair (id + 1) (drop (suc k) xs)))

-- texts, one after another
parts_on : (a b c p x q end : List ℕ)
    → a ++ (b ++ (c ++ ((p ++ (x ++ q)) ++ end))) ≡ (a ++ (b ++ (c ++ p))) ++ (x ++ (q ++ end))
parts_on a b c p x q end =
    let whole : (p ++ (x ++ q)) ++ end ≡ p ++ (x ++ (q ++ end)) =
    append_assoc p (x ++ q) end ∙ ap (λ (t : List ℕ). p ++ t) (append_assoc x q end) in
    ap (λ (t : List ℕ). a ++ (b ++ (c ++ t))) whole
    ∙ ap (λ (t : List ℕ). a ++ (b ++ t)) (sym (append_assoc c p (x ++ (q ++ end))))
    ∙ ap (λ (t : List ℕ). a ++ t) (sym (append_assoc b (c ++ p) (x ++ (q ++ end))))
    ∙ sym (append_assoc a (b ++ (c ++ p)) (x ++ (q ++ end)))

item_by : {A : Type 0} (xs : List A) (id : ℕ) (x : A) (b : Bool) → (id == 0) ≡ b
    → cond b None (slice_get xs (id - 1)) ≡ Some x → (slice_get xs (id - 1) ≡ Some x) × (1 ≤ id)
item_by xs id x true is there = absurd cc
item_by xs zero x false is there = absurd cc
item_by xs (suc id) x false is there = (there, omega arith)

pub placed : (pair : PairState) (id : ℕ) (owner : Owner) → numbered pair.owners id ≡ Some owner
    → pair_report_of pair ≡ pair_report_with pair id (part_of pair id owner)
unfolding pair_report_of
placed pair id owner there =
    let item = item_by pair.owners id owner (id == 0) refl there in
    let at : suc (id - 1) ≡ id = omega (arith, item.1) in
    let split = parts_split pair (id - 1) 1 id pair.owners owner item.0 (omega (arith, item.1)) in
    let moved : pair_parts pair 1 pair.owners
    ≡ pair_parts pair 1 (take (id - 1) pair.owners) ++ (part_of pair id owner ++ pair_parts pair (id + 1) (drop id pair.owners)) =
    split ∙ ap (λ (k : ℕ). pair_parts pair 1 (take (id - 1) pair.owners)
    ++ (part_of pair id owner ++ pair_parts pair (id + 1) (drop k pair.owners))) at in
    ap (λ (t : List ℕ). codes "fuota report 2\n" ++ (pair_image_line campaign.A pair.a.server
    ++ (pair_image_line campaign.B pair.b.server ++ (t ++ codes "end\n")))) moved
    ∙ parts_on (codes "fuota report 2\n") (pair_image_line campaign.A pair.a.server) (pair_image_line campaign.B pair.b.server)
    (pair_parts pair 1 (take (id - 1) pair.owners)) (part_of pair id owner) (pair_parts pair (id + 1) (drop id pair.owners)) (codes "end\n")

-- ---- how many devices a campaign has after a line

abbrev IsNoDevice : Form → Type 0
IsNoDevice (form.Device dev) = ⊥
IsNoDevice f = Unit {0}

event_long : (w : WorldState) (n : ℕ) (o : Option Event) → length (with_event w n o).devices ≡ length w.devices
event_long w n o = (event_many w n (numbered w.devices n) o).devices

form_long : (w : WorldState) (f : Form) → IsNoDevice f → length (after_form w f).devices ≡ length w.devices
unfolding after_form
form_long w form.Header plain = refl
form_long w (form.Image frag_size parity index) plain = refl
form_long w (form.Group id addr key min max) plain = refl
form_long w (form.WindowC start timeout freq dr) plain = refl
form_long w (form.WindowB start periodicity timeout freq dr) plain = refl
form_long w (form.Device dev) plain = absurd plain
form_long w f plain = (made_many w f refl).devices

-- ---- whose the next device is

-- a line that tells of no new device
abbrev IsQuiet : Target → Type 0
IsQuiet t = IfOne (λ x f. IsNoDevice f) t

own_long : (w : WorldState) (b : Bool) (f : Form) → IsNoDevice f → length (after_said w (cond b (Own f) Elsewhere)).devices ≡ length w.devices
own_long w true f plain = form_long w f plain
own_long w false f plain = refl

reached_long : (w : WorldState) (device word : ℕ) (o : Option SentPayload) → length (after_said w (reached_by device word o)).devices ≡ length w.devices
reached_long w device word None = refl
reached_long w device word (Some sent) = event_long w device (Some (Receives w.time word (w.lines + 1) sent.down))

across_long : (w : WorldState) (b : Bool) (device word : ℕ) (o : Option SentPayload)
    → length (after_said w (cond b Elsewhere (reached_by device word o))).devices ≡ length w.devices
across_long w true device word o = refl
across_long w false device word o = reached_long w device word o

quiet_long : (x : Campaign) (pair : PairState) (t : Target) → IsQuiet t → length (behind x pair t).devices ≡ length (side pair x).devices
quiet_long x pair Header q = form_long (side pair x) form.Header tt
quiet_long x pair (At time) q = form_long (side pair x) (form.At time) tt
quiet_long x pair End q = form_long (side pair x) form.End tt
quiet_long x pair (One y f) q = own_long (side pair x) (is_same x y) f q
quiet_long x pair (Across y by number device word) q =
    across_long (side pair x) (is_same x y) device word (numbered (side pair y).sent number)
quiet_long x pair Nobody q = refl

none_joined : (x : Campaign) (f : Form) → IsNoDevice f → joined x f ≡ []
none_joined x (form.Device dev) plain = absurd plain
none_joined x f plain = refl

quiet_joins : (t : Target) → IsQuiet t → newcomers t ≡ []
quiet_joins (One x f) q = none_joined x f q
quiet_joins t q = refl

-- a line tells of no new device, or of the next one of a campaign
data Joins (pair : PairState) (t : Target) : Type 0 where
  nobody : newcomers t ≡ [] → ((x : Campaign) → length (behind x pair t).devices ≡ length (side pair x).devices) → Joins pair t
  next : (y : Campaign) → newcomers t ≡ owner_of y (length (side pair y).devices + 1) ∷ []
      → length (behind y pair t).devices ≡ length (side pair y).devices + 1
      → length (behind (other y) pair t).devices ≡ length (side pair (other y)).devices → Joins pair t

quiet : (pair : PairState) (t : Target) → IsQuiet t → Joins pair t
quiet pair t q = nobody (quiet_joins t q) (λ x. quiet_long x pair t q)

quiet_at : (x : Campaign) (f : Form) → is_at_device f ≡ true → IsNoDevice f
quiet_at x (form.Device dev) is = absurd cc
quiet_at x f is = tt

named_joins : (pair : PairState) (x : Campaign) (f : Form)
    → Joins pair (named_target pair.owners (count_of (length pair.a.devices) (length pair.b.devices) x) x f)
unfolding after_form
named_joins pair campaign.A (form.Device dev) =
    next campaign.A refl (length_push pair.a.devices _) refl
named_joins pair campaign.B (form.Device dev) =
    next campaign.B refl (length_push pair.b.devices _) refl
named_joins pair x f =
    quiet pair _ (named_if (λ y g. IsNoDevice g) quiet_at pair.owners (count_of (length pair.a.devices) (length pair.b.devices) x) x f tt)

joins_by : (pair : PairState) (named : Option Campaign) (f : Form)
    → Joins pair (target_for pair.owners (length pair.a.devices) (length pair.b.devices) named f)
joins_by pair None f = quiet pair _ (common_if (λ y g. IsNoDevice g) quiet_at pair.owners f)
joins_by pair (Some x) f = named_joins pair x f

joins : (pair : PairState) (pair_form : PairForm) → Joins pair (target_in pair pair_form)
unfolding target_of
joins pair pair_form = joins_by pair pair_form.campaign pair_form.form

-- ---- each device has an ID

abbrev Owned : PairState → Type 0
Owned pair = (x : Campaign) (n : ℕ) → 1 ≤ n → n ≤ length (side pair x).devices
    → (id : ℕ) × (numbered pair.owners id ≡ Some (owner_of x n))

get_append : (xs ys : List Owner) (k : ℕ) (o : Owner) → slice_get xs k ≡ Some o → slice_get (xs ++ ys) k ≡ Some o
get_append [] ys k o is = absurd cc
get_append (x ∷ xs) ys zero o is = is
get_append (x ∷ xs) ys (suc k) o is = get_append xs ys k o is

id_by : (xs ys : List Owner) (id : ℕ) (o : Owner) (b : Bool) → cond b None (slice_get xs (id - 1)) ≡ Some o
    → cond b None (slice_get (xs ++ ys) (id - 1)) ≡ Some o
id_by xs ys id o true is = absurd cc
id_by xs ys id o false is = get_append xs ys (id - 1) o is

-- an ID stays a device's, whoever joins
id_stays : (xs ys : List Owner) (id : ℕ) (o : Owner) → numbered xs id ≡ Some o → numbered (xs ++ ys) id ≡ Some o
id_stays xs ys id o is = id_by xs ys id o (id == 0) is

last_get : (xs : List Owner) (o : Owner) → slice_get (xs ++ o ∷ []) (length xs) ≡ Some o
last_get [] o = refl
last_get (x ∷ xs) o = last_get xs o

next_by : (xs : List Owner) (o : Owner) (b : Bool) → (suc (length xs) == 0) ≡ b
    → cond b None (slice_get (xs ++ o ∷ []) (suc (length xs) - 1)) ≡ Some o
next_by xs o true is = absurd (grind (arith, nat_tests, is))
next_by xs o false is = let at : suc (length xs) - 1 ≡ length xs = omega arith in rw (at) (last_get xs o)

-- who joins has the next
next_id : (xs : List Owner) (o : Owner) → numbered (xs ++ o ∷ []) (suc (length xs)) ≡ Some o
next_id xs o = next_by xs o (suc (length xs) == 0) refl

last_or_less : (n m : ℕ) (b : Bool) → nat_le n m ≡ b → n ≤ m + 1 → (n ≤ m) ⊎ (n ≡ m + 1)
last_or_less n m true is low = inl (grind (arith, nat_tests, is))
last_or_less n m false is low = inr (grind (arith, nat_tests, is, low))

side_after : (pair : PairState) (t : Target) (x : Campaign) → side (after_target pair t) x ≡ behind x pair t
unfolding after_target
side_after pair t campaign.A = refl
side_after pair t campaign.B = refl

owners_after : (pair : PairState) (t : Target) → (after_target pair t).owners ≡ pair.owners ++ newcomers t
unfolding after_target
owners_after pair t = refl

still_owned : (pair : PairState) (t : Target) (x : Campaign) (n : ℕ) → Owned pair → 1 ≤ n → n ≤ length (side pair x).devices
    → (id : ℕ) × (numbered (after_target pair t).owners id ≡ Some (owner_of x n))
still_owned pair t x n owned low high =
    let has = owned x n low high in
    (has.0, rw (owners_after pair t) (id_stays pair.owners (newcomers t) has.0 (owner_of x n) has.1))

next_owned : (pair : PairState) (t : Target) (y : Campaign) (n : ℕ) → newcomers t ≡ owner_of y (length (side pair y).devices + 1) ∷ []
    → n ≡ length (side pair y).devices + 1
    → (id : ℕ) × (numbered (after_target pair t).owners id ≡ Some (owner_of y n))
next_owned pair t y n joins is =
    (suc (length pair.owners), rw (owners_after pair t, joins, is) (next_id pair.owners (owner_of y (length (side pair y).devices + 1))))

grown_owned : (pair : PairState) (t : Target) (y : Campaign) (n : ℕ) → newcomers t ≡ owner_of y (length (side pair y).devices + 1) ∷ []
    → Owned pair → 1 ≤ n → n ≤ length (side pair y).devices + 1
    → (id : ℕ) × (numbered (after_target pair t).owners id ≡ Some (owner_of y n))
grown_owned pair t y n joins owned low high =
    elim (last_or_less n (length (side pair y).devices) (nat_le n (length (side pair y).devices)) refl high) [
      | inl less ↦ still_owned pair t y n owned low less
      | inr last ↦ next_owned pair t y n joins last
    ]

owned_by : (pair : PairState) (t : Target) → Joins pair t → Owned pair → (x : Campaign) (n : ℕ) → 1 ≤ n → n ≤ length (behind x pair t).devices
    → (id : ℕ) × (numbered (after_target pair t).owners id ≡ Some (owner_of x n))
owned_by pair t (nobody none same) owned x n low high = still_owned pair t x n owned low (subst (λ (m : ℕ). n ≤ m) (same x) high)
owned_by pair t (next campaign.A joins grows stays) owned campaign.A n low high =
    grown_owned pair t campaign.A n joins owned low (subst (λ (m : ℕ). n ≤ m) grows high)
owned_by pair t (next campaign.A joins grows stays) owned campaign.B n low high =
    still_owned pair t campaign.B n owned low (subst (λ (m : ℕ). n ≤ m) stays high)
owned_by pair t (next campaign.B joins grows stays) owned campaign.B n low high =
    grown_owned pair t campaign.B n joins owned low (subst (λ (m : ℕ). n ≤ m) grows high)
owned_by pair t (next campaign.B joins grows stays) owned campaign.A n low high =
    still_owned pair t campaign.A n owned low (subst (λ (m : ℕ). n ≤ m) stays high)

line_owned : (pair : PairState) (line : List ℕ) → pair_cause_of pair line ≡ None → Owned pair → Owned (after_pair_line pair line)
line_owned pair line none owned =
    let u = unrefused pair line none in
    let t = target_in pair u.pair_form in
    subst Owned (sym (after_is pair line u.pair_form u.spells))
    (λ x n low high. owned_by pair t (joins pair u.pair_form) owned x n low
    (subst (λ (w : WorldState). n ≤ length w.devices) (side_after pair t x) high))

all_owned : (lines : List (List ℕ)) (pair last : PairState) → read_pair_lines (Ok pair) lines ≡ Ok last → Owned pair → Owned last
unfolding read_pair_lines read_pair_line
all_owned [] pair last is owned = let same : pair ≡ last = cc in subst Owned same owned
all_owned (line ∷ lines) pair last is owned =
    by_cause (λ behind read so_far. all_owned lines behind last read so_far) (pair_cause_of pair line) refl is
  where
    by_cause : ((behind : PairState) → read_pair_lines (Ok behind) lines ≡ Ok last → Owned behind → Owned last)
        → (cause : Option LineWhy) → pair_cause_of pair line ≡ cause → read_pair_lines (pair_line_result pair line cause) lines ≡ Ok last
        → Owned last
    by_cause others (Some cause) none is = absurd cc
    by_cause others None none is = others (after_pair_line pair line) is (line_owned pair line none owned)

none_owned : (image_a image_b : List ℕ) → Owned (first_pair image_a image_b)
none_owned image_a image_b campaign.A n low high = absurd (omega (arith, low, high))
none_owned image_a image_b campaign.B n low high = absurd (omega (arith, low, high))

-- ---- the law

within : (devices : List DeviceState) (n : ℕ) (device : DeviceState) (b : Bool) → (n == 0) ≡ b
    → cond b None (slice_get devices (n - 1)) ≡ Some device → (1 ≤ n) × (n ≤ length devices)
within devices n device true is there = absurd cc
within devices zero device false is there = absurd cc
within devices (suc n) device false is there = let less = slice_get_within devices (suc n - 1) device there in (omega arith, omega (arith, less))

pub reported : EachIsReported
reported x image_a image_b lines pair number device s there =
    let all = all_owned lines (first_pair image_a image_b) pair (pair_read image_a image_b lines pair s.accepted).0 (none_owned image_a image_b) in
    let at = within (side pair x).devices number device (number == 0) refl there in
    let has = all x number at.0 at.1 in
    (has.0, record { named = has.1; report = placed pair has.0 (owner_of x number) has.1 })
