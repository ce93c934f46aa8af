-- The fields of saved bytes are what they were written of.
use Rattle.std.proofs.Common.{◌≡◌, ℕ, ◌+◌, ◌*◌, ◌/◌, ◌%◌, ◌^◌, ◌<◌, ◌≤◌, true, nat_le, List, [], ◌∷◌, ◌++◌, length, get_or, take, ◌↔◌, Bool, false, Option, Some, None, Result, Err, refl, sym, ap, ◌∙◌, subst, append_assoc, le-leb, arith}
use Rattle.std.specs.List.{flat_map}
use Rattle.std.proofs.lemmas.List.{length-append, length-replicate, length-take-le, get_or_append_left, get_or-append-add}
use Rattle.std.proofs.lemmas.Bool.{leb-true, eqb-true}
use Rattle.std.proofs.lemmas.List.Concat.{get_or-flat_map}
use Rattle.std.proofs.lemmas.List.FromFn.{fill_by_all, length-map-range_with_len}
use Rattle.std.specs.Int.{w32, to_le_bytes}
use Rattle.std.proofs.Math.Nat.{mul-suc, mul-zero}
use Rattle.wire_base.specs.Numbers.{number_at, number_bytes, flag_value}
use Rattle.wire_base.proofs.NumberLaws.{number_at-number_bytes}
use Rattle.sha2.specs.Sha256.{sha256}
use Rattle.campaign_server.specs.declared.stage.LastStatus.{LastStatus}
use Rattle.campaign_server.specs.declared.stage.Stage.{Stage}
use Rattle.campaign_server.specs.declared.stage.Stage.TheVariants.{At, Updated, Refused}
use Rattle.campaign_server.specs.declared.stage.Request.{Request}
use Rattle.campaign_server.specs.declared.stage.Request.TheVariants.{Version}
use Rattle.frag_encoder.specs.Encoding.{nb_frag_of}
use Rattle.campaign_server.specs.declared.plan.PlanGroup.{PlanGroup}
use Rattle.campaign_server.specs.declared.plan.Field.{Field}
use Rattle.campaign_server.specs.declared.server.ServerError.{ServerError}
use Rattle.campaign_server.specs.declared.server.ServerError.TheVariants as new
use Rattle.campaign_server.specs.declared.saving.RestoreError.{RestoreError}
use Rattle.campaign_server.specs.declared.saving.RestoreError.TheVariants as again
use Rattle.campaign_server.specs.Plan.{Plan, bad_field}
use Rattle.campaign_server.specs.Server.{ServerState, IsCount, first_server}
use Rattle.campaign_server.specs.Fragments.{last_fragment}
use Rattle.campaign_server.proofs.Plans.{both, plan_of_fine}
use Rattle.campaign_server.specs.Asking.{request_rank}
use Rattle.campaign_server.specs.Saving.{stage_bytes, status_bytes, head_bytes, state_bytes, plan_bytes, saved_of, IsOver}
use Rattle.campaign_server.specs.SavingInside.{restore_error, request_of, stage_of, stage_at, stages_in, status_of, status_at, statuses_in, is_count, fits, told_of}

-- ---- a stage

read_request : (request : Request) → request_of (request_rank request) ≡ request
read_request Version = refl
read_request _ = refl

read_at : (request : Request) → stage_of (request_rank request) 0 ≡ At request
read_at Version = refl
read_at _ = refl

read_refused : (request : Request) (bits : ℕ) → stage_of (16 + request_rank request) bits ≡ Refused request bits
read_refused Version bits = refl
read_refused _ bits = refl

-- the two bytes of a stage are read as it
read_stage : (stage : Stage) → stage_of (get_or (stage_bytes stage) 0 0) (get_or (stage_bytes stage) 1 0) ≡ stage
read_stage (At request) = read_at request
read_stage Updated = refl
read_stage (Refused request bits) = read_refused request bits

length-stage_bytes : (stage : Stage) → length (stage_bytes stage) ≡ 2
length-stage_bytes (At request) = refl
length-stage_bytes Updated = refl
length-stage_bytes (Refused request bits) = refl

-- ---- a status

read_told : (received missing : ℕ) (norows : Bool)
    → status_of (1 + flag_value norows 2) (received % 256) (received / 256) missing
    ≡ Some (record { received = received; missing = missing; norows = norows })
read_told received missing true = let whole : received % 256 + 256 * (received / 256) ≡ received = omega arith in rw whole refl
read_told received missing false = let whole : received % 256 + 256 * (received / 256) ≡ received = omega arith in rw whole refl

-- the four bytes of a status are read as it
read_status : (status : Option LastStatus) → let bytes = status_bytes status in
    status_of (get_or bytes 0 0) (get_or bytes 1 0) (get_or bytes 2 0) (get_or bytes 3 0) ≡ status
read_status None = refl
read_status (Some told) = read_told told.received told.missing told.norows

length-status_bytes : (status : Option LastStatus) → length (status_bytes status) ≡ 4
length-status_bytes None = refl
length-status_bytes (Some told) = refl

-- ---- rows of a table, each of w bytes

length-rows : {A : Type 0} (f : A → List ℕ) (w : ℕ) → ((x : A) → length (f x) ≡ w) → (xs : List A)
    → length (flat_map f xs) ≡ w * length xs
length-rows f w sized [] = sym (mul-zero w)
length-rows f w sized (x ∷ xs) =
    omega (arith, length-append (f x) (flat_map f xs), sized x, length-rows f w sized xs, mul-suc w (length xs))

pub length-stages : (stages : List Stage) → length (flat_map stage_bytes stages) ≡ 2 * length stages
length-stages stages = length-rows stage_bytes 2 length-stage_bytes stages

pub length-statuses : (statuses : List (Option LastStatus)) → length (flat_map status_bytes statuses) ≡ 4 * length statuses
length-statuses statuses = length-rows status_bytes 4 length-status_bytes statuses

-- byte j of row k
byte_of : {A : Type 0} (f : A → List ℕ) (w : ℕ) → ((x : A) → length (f x) ≡ w)
    → (head more : List ℕ) (xs : List A) (at k j : ℕ) (d : A) → k < length xs → j < w → w * k + j < w * length xs
    → at ≡ length head + (w * k + j) → get_or (head ++ flat_map f xs ++ more) at 0 ≡ get_or (f (get_or xs k d)) j 0
byte_of f w sized head more xs at k j d less few within place =
    let all = length-rows f w sized xs in
    let before : length (flat_map f (take k xs)) ≡ w * k =
    length-rows f w sized (take k xs) ∙ ap (λ n. w * n) (length-take-le k xs (omega (arith, less))) in
    let whole : length (head ++ flat_map f xs) ≡ length head + length (flat_map f xs) = length-append head (flat_map f xs) in
    get_or_append_left (head ++ flat_map f xs) more 0 at (omega (arith, place, whole, all, within))
    ∙ ap (λ (n : ℕ). get_or (head ++ flat_map f xs) n 0) place
    ∙ get_or-append-add head (flat_map f xs) (w * k + j) 0
    ∙ ap (λ (n : ℕ). get_or (flat_map f xs) (n + j) 0) (sym before)
    ∙ get_or-flat_map f xs k j d 0 less (omega (arith, sized (get_or xs k d), few))

-- ---- the stages after 12 bytes, and the statuses after them

stage_in : (head more : List ℕ) (stages : List Stage) (k : ℕ) → length head ≡ 12 → k < length stages
    → stage_at (head ++ flat_map stage_bytes stages ++ more) k ≡ get_or stages k Updated
unfolding stage_at
stage_in head more stages k sized less =
    let byte : (at j : ℕ) → at ≡ 12 + (2 * k + j) → j < 2 → get_or (head ++ flat_map stage_bytes stages ++ more) at 0
    ≡ get_or (stage_bytes (get_or stages k Updated)) j 0 =
    λ at j place few. byte_of stage_bytes 2 length-stage_bytes head more stages at k j Updated less few (omega (arith, less, few))
    (omega (arith, place, sized)) in
    rw (byte (12 + 2 * k) 0 (omega arith) (omega arith), byte (13 + 2 * k) 1 (omega arith) (omega arith))
    (read_stage (get_or stages k Updated))

pub stages_are : (head more : List ℕ) (stages : List Stage) (number : ℕ) → length head ≡ 12 → length stages ≡ number
    → stages_in (head ++ flat_map stage_bytes stages ++ more) number ≡ stages
stages_are head more stages number sized many =
    sym (fill_by_all (λ k. stage_at (head ++ flat_map stage_bytes stages ++ more) k) stages number Updated many
    (λ k less. sym (stage_in head more stages k sized (omega (arith, less, many)))))

status_in : (head more : List ℕ) (statuses : List (Option LastStatus)) (number k : ℕ) → length head ≡ 12 + 2 * number
    → k < length statuses → status_at (head ++ flat_map status_bytes statuses ++ more) number k ≡ get_or statuses k None
unfolding status_at
status_in head more statuses number k sized less =
    let at = 12 + 2 * number + 4 * k in
    let byte : (place j : ℕ) → place ≡ 12 + 2 * number + (4 * k + j) → j < 4
    → get_or (head ++ flat_map status_bytes statuses ++ more) place 0 ≡ get_or (status_bytes (get_or statuses k None)) j 0 =
    λ place j is few. byte_of status_bytes 4 length-status_bytes head more statuses place k j None less few
    (omega (arith, less, few)) (omega (arith, is, sized)) in
    rw (
      byte at 0 (omega arith) (omega arith),
      byte (at + 1) 1 (omega arith) (omega arith),
      byte (at + 2) 2 (omega arith) (omega arith),
      byte (at + 3) 3 (omega arith) (omega arith),
    ) (read_status (get_or statuses k None))

pub statuses_are : (head more : List ℕ) (statuses : List (Option LastStatus)) (number : ℕ) → length head ≡ 12 + 2 * number
    → length statuses ≡ number → statuses_in (head ++ flat_map status_bytes statuses ++ more) number ≡ statuses
statuses_are head more statuses number sized many =
    sym (fill_by_all (λ k. status_at (head ++ flat_map status_bytes statuses ++ more) number k) statuses number None many
    (λ k less. sym (status_in head more statuses number k sized (omega (arith, less, many)))))

-- ---- the numbers before them

pub next_is : (next count devices : ℕ) (more : List ℕ) → next < 2 ^ 16 → number_at (head_bytes next count devices ++ more) 5 2 ≡ next
next_is next count devices more fits =
    number_at-number_bytes 2 next (0x46 ∷ 0x55 ∷ 0x53 ∷ 0x53 ∷ 1 ∷ []) (number_bytes 4 count ++ devices ∷ more) fits

pub count_is : (next count devices : ℕ) (more : List ℕ) → count < 2 ^ 32 → number_at (head_bytes next count devices ++ more) 7 4 ≡ count
count_is next count devices more fits =
    number_at-number_bytes 4 count (0x46 ∷ 0x55 ∷ 0x53 ∷ 0x53 ∷ 1 ∷ number_bytes 2 next) (devices ∷ more) fits

-- ---- a record over a plan and an image

small_next : (plan : Plan) (image : List ℕ) (server : ServerState) → IsOver plan image server → server.next < 2 ^ 16
small_next plan image server over =
    let fine = plan_of_fine (length image) plan over.fine in
    let last : last_fragment server ≡ nb_frag_of (length image) plan.frag_size + plan.parity = rw (over.plan_is, over.image_is) refl in
    omega (arith, over.high, last, fine.number, fine.few)

tests_count : (group : Option PlanGroup) (count : ℕ) → IsCount group count → is_count group count ≡ true
tests_count None count is = rw is refl
tests_count (Some group) count is = rw (le-leb group.min count is.0, le-leb count group.max is.1) refl

length-head_bytes : (next count devices : ℕ) → length (head_bytes next count devices) ≡ 12
length-head_bytes next count devices = refl

-- its saved bytes are its fields, and more
pub record IsWritten (server : ServerState) (bytes : List ℕ) : Type 0 where
  pub long : 12 + 6 * length server.stages ≤ length bytes
  pub next_is : number_at bytes 5 2 ≡ server.next
  pub count_is : number_at bytes 7 4 ≡ server.count
  pub stages_are : stages_in bytes (length server.stages) ≡ server.stages
  pub statuses_are : statuses_in bytes (length server.stages) ≡ server.statuses

written_as : (plan : Plan) (image : List ℕ) (server : ServerState) (digest : List ℕ) → IsOver plan image server
    → IsWritten server (head_bytes server.next server.count (length server.stages) ++ flat_map stage_bytes server.stages
    ++ flat_map status_bytes server.statuses ++ digest)
written_as plan image server digest over =
    let number = length server.stages in
    let head = head_bytes server.next server.count number in
    let stages = flat_map stage_bytes server.stages in
    let statuses = flat_map status_bytes server.statuses in
    let two : head ++ stages ++ statuses ++ digest ≡ head ++ stages ++ (statuses ++ digest) = append_assoc (head ++ stages) statuses digest in
    let apart : head ++ stages ++ statuses ++ digest ≡ head ++ (stages ++ (statuses ++ digest)) =
    two ∙ append_assoc head stages (statuses ++ digest) in
    let same : length server.statuses ≡ number = over.told ∙ sym over.staged in
    let sized : length (head ++ stages) ≡ 12 + 2 * number =
    omega (arith, length-append head stages, length-head_bytes server.next server.count number, length-stages server.stages) in
    record {
      long = omega (
        arith,
        length-append (head ++ stages ++ statuses) digest,
        length-append (head ++ stages) statuses,
        sized,
        length-statuses server.statuses,
        same,
      );
      next_is = ap (λ (bytes : List ℕ). number_at bytes 5 2) apart
          ∙ next_is server.next server.count number (stages ++ (statuses ++ digest)) (small_next plan image server over);
      count_is = ap (λ (bytes : List ℕ). number_at bytes 7 4) apart
          ∙ count_is server.next server.count number (stages ++ (statuses ++ digest)) over.four_bytes;
      stages_are = ap (λ (bytes : List ℕ). stages_in bytes number) two
          ∙ stages_are head (statuses ++ digest) server.stages number
          (length-head_bytes server.next server.count number) refl;
      statuses_are = statuses_are (head ++ stages) digest server.statuses number sized same;
    }

written : (plan : Plan) (image : List ℕ) (server : ServerState) → IsOver plan image server → IsWritten server (saved_of server)
unfolding saved_of state_bytes
written plan image server over =
    written_as plan image server (sha256 (state_bytes server ++ plan_bytes server.plan ++ server.image)) over

-- what is read of them is the record itself
told_back : (plan : Plan) (image : List ℕ) (first server : ServerState) (bytes : List ℕ) → IsOver plan image server → IsWritten server bytes
    → first.plan ≡ plan → first.image ≡ image → length first.stages ≡ length plan.devices → told_of first bytes ≡ server
told_back plan image first server bytes over is plan_is image_is staged =
    rw (
      plan_is,
      image_is,
      staged,
      ← over.staged,
      is.next_is,
      is.count_is,
      is.stages_are,
      is.statuses_are,
      ← over.plan_is,
      ← over.image_is,
    ) refl

pub fits_back : (plan : Plan) (image : List ℕ) (first server : ServerState) (bytes : List ℕ) → IsOver plan image server → IsWritten server bytes
    → first.plan ≡ plan → first.image ≡ image → length first.stages ≡ length plan.devices → fits first bytes ≡ true
fits_back plan image first server bytes over is plan_is image_is staged =
    let long : 12 + 6 * length first.stages ≤ length bytes = omega (arith, is.long, over.staged, staged) in
    let low : 1 ≤ number_at bytes 5 2 = omega (arith, is.next_is, over.low) in
    let last : last_fragment first ≡ last_fragment server = rw (plan_is, image_is, over.plan_is, over.image_is) refl in
    let high : number_at bytes 5 2 ≤ last_fragment first + 1 = omega (arith, is.next_is, over.high, last) in
    let counted : is_count first.plan.group (number_at bytes 7 4) ≡ true =
    rw (plan_is, is.count_is) (tests_count plan.group server.count over.counted) in
    rw (le-leb _ _ long, le-leb _ _ low, le-leb _ _ high, counted) refl

-- ---- of the server that a restored one begins as

pub record IsReadBack (plan : Plan) (image : List ℕ) (server : ServerState) (bytes : List ℕ) : Type 0 where
  pub fits : fits (first_server image plan) bytes ≡ true
  pub told : told_of (first_server image plan) bytes ≡ server

pub read_back : (plan : Plan) (image : List ℕ) (server : ServerState) (bytes : List ℕ) → IsOver plan image server
    → saved_of server ≡ bytes → IsReadBack plan image server bytes
read_back plan image server bytes over is =
    let wrote : IsWritten server bytes = subst (λ (b : List ℕ). IsWritten server b) is (written plan image server over) in
    let staged = length-replicate (length plan.devices) (At Version) in
    record {
      fits = fits_back plan image (first_server image plan) server bytes over wrote refl refl staged;
      told = told_back plan image (first_server image plan) server bytes over wrote refl refl staged;
    }

-- no two records of one plan and image have the same bytes
pub told_apart : (plan : Plan) (image : List ℕ) (a b : ServerState) → IsOver plan image a → IsOver plan image b
    → saved_of a ≡ saved_of b → a ≡ b
told_apart plan image a b over_a over_b same =
    sym (read_back plan image a (saved_of b) over_a same).told ∙ (read_back plan image b (saved_of b) over_b refl).told

-- ---- what is read of any bytes whose fields fit

is_counted : (group : Option PlanGroup) (count : ℕ) → is_count group count ≡ true → IsCount group count
is_counted None count is = eqb-true count 0 is
is_counted (Some group) count is =
    let parts = both (nat_le group.min count) (nat_le count group.max) is in
    (leb-true group.min count parts.0, leb-true count group.max parts.1)

pub over_told : (plan : Plan) (image : List ℕ) (bytes : List ℕ) → bad_field (length image) plan ≡ None
    → fits (first_server image plan) bytes ≡ true → number_at bytes 7 4 < 2 ^ 32
    → IsOver plan image (told_of (first_server image plan) bytes)
over_told plan image bytes fine is narrow =
    let first = first_server image plan in
    let a = both _ _ is in
    let b = both _ _ a.0 in
    let c = both _ _ b.0 in
    record {
      plan_is = refl;
      image_is = refl;
      fine = fine;
      staged = length-map-range_with_len (λ k. stage_at bytes k) 0 (length first.stages)
          ∙ length-replicate (length plan.devices) (At Version);
      told = length-map-range_with_len (λ k. status_at bytes (length first.stages) k) 0 (length first.stages)
          ∙ length-replicate (length plan.devices) (At Version);
      low = leb-true 1 (number_at bytes 5 2) c.1;
      high = leb-true (number_at bytes 5 2) (last_fragment first + 1) b.1;
      counted = is_counted plan.group (number_at bytes 7 4) a.1;
      four_bytes = narrow;
    }

-- ---- what is put one after another

three : (o a b c : List ℕ) → o ++ a ++ b ++ c ≡ o ++ (a ++ b ++ c)
three o a b c = ap (λ (x : List ℕ). x ++ c) (append_assoc o a b) ∙ append_assoc o (a ++ b) c

pub group_put : (o a k m x : List ℕ) → o ++ a ++ k ++ (m ++ x) ≡ o ++ (a ++ k ++ m ++ x)
group_put o a k m x = three o a k (m ++ x) ∙ ap (λ (y : List ℕ). o ++ y) (sym (append_assoc (a ++ k) m x))

pub window_put : (o k s t d : List ℕ) → o ++ k ++ (s ++ t ++ d) ≡ o ++ (k ++ s ++ t ++ d)
window_put o k s t d = append_assoc o k (s ++ t ++ d) ∙ ap (λ (y : List ℕ). o ++ y) (sym (three k s t d))

-- ---- why none was restored

pub as_bad : {A B : Type 0} (len : ℕ) (plan : Plan) (e : ServerError)
    → ((field : Field) → (◌≡◌ {A = Result A ServerError} (Err e) (Err (new.BadPlan field))) ↔ (bad_field len plan ≡ Some field))
    → (field : Field) → (◌≡◌ {A = Result B RestoreError} (Err (restore_error e)) (Err (again.BadPlan field))) ↔ (bad_field len plan ≡ Some field)
as_bad len plan new.Memory told field = (λ same. absurd cc, λ bad. let is = (told field).1 bad in absurd cc)
as_bad len plan (new.BadPlan f) told field = (λ same. (told field).0 cc, λ bad. let is = (told field).1 bad in cc)

pub as_free : {A : Type 0} (len : ℕ) (plan : Plan) (e : ServerError)
    → ((field : Field) → (◌≡◌ {A = Result A ServerError} (Err e) (Err (new.BadPlan field))) ↔ (bad_field len plan ≡ Some field))
    → bad_field len plan ≡ None → restore_error e ≡ again.Memory
as_free len plan new.Memory told fine = refl
as_free len plan (new.BadPlan f) told fine = let bad = (told f).0 refl in absurd cc

pub few_bytes : (head : List ℕ) (stages : List Stage) (statuses : List (Option LastStatus)) → length head ≡ 12
    → length stages ≤ 64 → length statuses ≤ 64
    → length (head ++ flat_map stage_bytes stages ++ flat_map status_bytes statuses) ≤ 396
few_bytes head stages statuses sized few fewer =
    omega (
      arith,
      length-append (head ++ flat_map stage_bytes stages) (flat_map status_bytes statuses),
      length-append head (flat_map stage_bytes stages),
      length-stages stages,
      length-statuses statuses,
      sized,
      few,
      fewer,
    )

pub few_stages : (head : List ℕ) (stages : List Stage) (number : ℕ) → length head ≡ 12 → length stages ≤ 64 → number ≤ 64
    → length (head ++ flat_map stage_bytes stages) + 4 * number ≤ 428
few_stages head stages number sized few fewer =
    omega (arith, length-append head (flat_map stage_bytes stages), length-stages stages, sized, few, fewer)

pub le_bytes_of_4 : (n : ℕ) → to_le_bytes w32 n ≡ number_bytes 4 n
le_bytes_of_4 n =
    let two : n / 65536 ≡ n / 256 / 256 = omega arith in
    let three : n / 16777216 ≡ n / 256 / 256 / 256 = omega arith in
    rw (two, three) refl
