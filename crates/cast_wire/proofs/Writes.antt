-- What is put for a command is its canonical spelling.
use Rattle.std.proofs.Common.{◌≡◌, ℕ, zero, suc, ◌+◌, ◌*◌, ◌/◌, ◌%◌, ◌<◌, ◌≤◌, List, [], ◌∷◌, ◌++◌, length, get_or, take, drop, ◌^◌, ◌↔◌, Result, Ok, Err, refl, sym, ap, subst, ◌∙◌, arith, length-append}
use Rattle.std.proofs.lemmas.List.{append-nil, take_more, length-take, drop_more}
use Rattle.std.proofs.lemmas.Bool.{false≢true}
use Rattle.wire_base.specs.declared.payload.Full.{Full}
use Rattle.wire_base.specs.Numbers.{number_bytes}
use Rattle.wire_base.specs.Payload.{Appends}
use Rattle.wire_base.specs.Rows.{packed_number, parts_bytes, bits, PartsFit}
use Rattle.wire_base.proofs.Putting.{then, puts_same}
use Rattle.cast_wire.specs.declared.cmd.Cmd.TheVariants.{FragSessionSetupReq, DataFragment, McGroupStatusAns, McGroupSetupReq, McClassCSessionReq, McClassBSessionReq}
use Rattle.cast_wire.specs.declared.group_list.GroupAddress.{GroupAddress}
use Rattle.cast_wire.specs.Table.{IsValid, canonical, group_parts}

-- ---- the bytes of a number, as to_le_bytes gives them

abbrev two_bytes : ℕ → List ℕ
two_bytes n = n % 256 ∷ n / 256 % 256 ∷ []

abbrev four_bytes : ℕ → List ℕ
four_bytes n = n % 256 ∷ n / 256 % 256 ∷ n / 65536 % 256 ∷ n / 16777216 % 256 ∷ []

two_put : {bytes : List ℕ} (n : ℕ) → bytes ≡ two_bytes n → get_or bytes 0 0 ∷ get_or bytes 1 0 ∷ [] ≡ number_bytes 2 n
two_put n is = rw is refl

three_put : {bytes : List ℕ} (n : ℕ) → bytes ≡ four_bytes n → get_or bytes 0 0 ∷ get_or bytes 1 0 ∷ get_or bytes 2 0 ∷ [] ≡ number_bytes 3 n
three_put n is =
    let third : n / 65536 ≡ n / 256 / 256 = omega arith in
    rw (is, third) refl

four_put : {bytes : List ℕ} (n : ℕ) → bytes ≡ four_bytes n → get_or bytes 0 0 ∷ get_or bytes 1 0 ∷ get_or bytes 2 0 ∷ get_or bytes 3 0 ∷ [] ≡ number_bytes 4 n
four_put n is =
    let third : n / 65536 ≡ n / 256 / 256 = omega arith in
    let fourth : n / 16777216 ≡ n / 256 / 256 / 256 = omega arith in
    rw (is, third, fourth) refl

-- where there is room for both, what is put after x stands after what stood before x
pub then_last : {a b c x y : List ℕ} {u : Unit {0}} {r : Result (Unit {0}) Full} → Appends a b x (Ok u) → Appends b c y r → length a + (length x + length y) ≤ 242 → Appends a c (x ++ y) r
then_last {r = Ok v} first second fits = then first second
then_last {a} {b} {c} {x} {y} {r = Err full} first second fits =
    let longer : length b ≡ length a + length x = ap length first.appended ∙ length-append a x in
    absurd (false≢true (second.room.1 (omega arith)))

pub setup_request_spelled : {frags of : List ℕ} {index mask nb_frag frag_size algo delay padding descriptor : ℕ}
    → frags ≡ two_bytes nb_frag → of ≡ four_bytes descriptor → IsValid (FragSessionSetupReq index mask nb_frag frag_size algo delay padding descriptor)
    → 2 ∷ (index * 16 % 256 + mask) ∷ get_or frags 0 0 ∷ get_or frags 1 0 ∷ frag_size ∷ (algo * 8 % 256 + delay) ∷ padding ∷ get_or of 0 0 ∷ get_or of 1 0 ∷ get_or of 2 0 ∷ get_or of 3 0 ∷ []
    ≡ canonical (FragSessionSetupReq index mask nb_frag frag_size algo delay padding descriptor)
setup_request_spelled {frags} {of} {index} {mask} {nb_frag} {frag_size} {algo} {delay} {padding} {descriptor} frags_are descriptor_is valid =
    let session : index * 16 % 256 + mask ≡ packed_number (bits 5 4 index ∷ bits 3 0 mask ∷ []) % 256 = omega (arith, valid.fields.0.0) in
    let control : algo * 8 % 256 + delay ≡ packed_number (bits 5 3 algo ∷ bits 2 0 delay ∷ []) % 256 = omega (arith, valid.fields.1.1.1.0.0) in
    let size : frag_size ≡ frag_size % 256 = omega (arith, valid.fields.1.1.0) in
    let pad : padding ≡ padding % 256 = omega (arith, valid.fields.1.1.1.1.0) in
    cc (two_put nb_frag frags_are, four_put descriptor descriptor_is)

pub class_c_request_spelled : {start frequency : List ℕ} {id time timeout freq dr : ℕ}
    → start ≡ four_bytes time → frequency ≡ four_bytes freq → IsValid (McClassCSessionReq id time timeout freq dr)
    → 4 ∷ id ∷ get_or start 0 0 ∷ get_or start 1 0 ∷ get_or start 2 0 ∷ get_or start 3 0 ∷ timeout ∷ get_or frequency 0 0 ∷ get_or frequency 1 0 ∷ get_or frequency 2 0 ∷ dr ∷ []
    ≡ canonical (McClassCSessionReq id time timeout freq dr)
class_c_request_spelled {start} {frequency} {id} {time} {timeout} {freq} {dr} start_is frequency_is valid =
    let id_is : id ≡ (id * 1 + 0) % 256 = omega (arith, valid.fields.0.0) in
    let timeout_is : timeout ≡ (timeout * 1 + 0) % 256 = omega (arith, valid.fields.1.1.0.0) in
    let rate : dr ≡ dr % 256 = omega (arith, valid.fields.1.1.1.1.0) in
    cc (four_put time start_is, three_put freq frequency_is)

pub class_b_request_spelled : {start frequency : List ℕ} {id time periodicity timeout freq dr : ℕ}
    → start ≡ four_bytes time → frequency ≡ four_bytes freq → IsValid (McClassBSessionReq id time periodicity timeout freq dr)
    → 5 ∷ id ∷ get_or start 0 0 ∷ get_or start 1 0 ∷ get_or start 2 0 ∷ get_or start 3 0 ∷ (periodicity * 16 % 256 + timeout) ∷ get_or frequency 0 0 ∷ get_or frequency 1 0 ∷ get_or frequency 2 0 ∷ dr ∷ []
    ≡ canonical (McClassBSessionReq id time periodicity timeout freq dr)
class_b_request_spelled {start} {frequency} {id} {time} {periodicity} {timeout} {freq} {dr} start_is frequency_is valid =
    let id_is : id ≡ (id * 1 + 0) % 256 = omega (arith, valid.fields.0.0) in
    let slots : periodicity * 16 % 256 + timeout ≡ packed_number (bits 6 4 periodicity ∷ bits 3 0 timeout ∷ []) % 256 = omega (arith, valid.fields.1.1.0.0) in
    let rate : dr ≡ dr % 256 = omega (arith, valid.fields.1.1.1.1.0) in
    cc (four_put time start_is, three_put freq frequency_is)

pub group_setup_request_spelled : {address first limit key : List ℕ} {id addr min max : ℕ} → address ≡ four_bytes addr → first ≡ four_bytes min → limit ≡ four_bytes max
    → IsValid (McGroupSetupReq id addr key min max)
    → ((2 ∷ id ∷ get_or address 0 0 ∷ get_or address 1 0 ∷ get_or address 2 0 ∷ get_or address 3 0 ∷ []) ++ key)
    ++ (get_or first 0 0 ∷ get_or first 1 0 ∷ get_or first 2 0 ∷ get_or first 3 0 ∷ get_or limit 0 0 ∷ get_or limit 1 0 ∷ get_or limit 2 0 ∷ get_or limit 3 0 ∷ [])
    ≡ canonical (McGroupSetupReq id addr key min max)
group_setup_request_spelled {address} {first} {limit} {key} {id} {addr} {min} {max} address_is first_is limit_is valid =
    let id_is : id ≡ (id * 1 + 0) % 256 = omega (arith, valid.fields.0.0) in
    cc (four_put addr address_is, four_put min first_is, four_put max limit_is)

pub fragment_spelled : {numbers bytes : List ℕ} {index wide n : ℕ} → wide ≡ index → numbers ≡ two_bytes (wide * 16384 % 65536 + n) → IsValid (DataFragment index n bytes)
    → (8 ∷ get_or numbers 0 0 ∷ get_or numbers 1 0 ∷ []) ++ bytes ≡ canonical (DataFragment index n bytes)
fragment_spelled {numbers} {bytes} {index} {wide} {n} wide_is numbers_are valid =
    let fields : wide * 16384 % 65536 + n ≡ packed_number (bits 15 14 index ∷ bits 13 0 n ∷ []) = omega (arith, valid.fields.0.0) in
    cc (two_put (wide * 16384 % 65536 + n) numbers_are, append-nil bytes)

-- ---- groups, one after another

group_bytes : (groups : List GroupAddress) (group : GroupAddress) → parts_bytes (group_parts (groups ++ group ∷ [])) ≡ parts_bytes (group_parts groups) ++ (group.id % 256 ∷ number_bytes 4 group.addr)
group_bytes [] group =
    let id_is : group.id * 1 + 0 ≡ group.id = omega arith in
    rw id_is refl
group_bytes (first ∷ groups) group =
    let id_is : first.id * 1 + 0 ≡ first.id = omega arith in
    ap (λ (t : List ℕ). (first.id * 1 + 0) % 256 ∷ number_bytes 4 first.addr ++ t) (group_bytes groups group)

pub no_groups_put : (out : List ℕ) (groups : List GroupAddress) → length out + 5 * length groups ≤ 242 → Appends out out (parts_bytes (group_parts (take 0 groups))) (Ok tt)
no_groups_put out groups room = record { room = ((λ _. omega arith), λ _. refl); appended = sym (append-nil out); unchanged = tt }

id_fits : (groups : List GroupAddress) (i : ℕ) (d : GroupAddress) → i < length groups → PartsFit (group_parts groups) → (get_or groups i d).id < 4
id_fits [] i d below fit = absurd (omega arith)
id_fits (group ∷ groups) zero d below fit = fit.0.0
id_fits (group ∷ groups) (suc i) d below fit = id_fits groups i d (omega arith) fit.1.1

pub group_put : {out before after four : List ℕ} {u v : Unit {0}} (groups : List GroupAddress) (i : ℕ) (d : GroupAddress) → i < length groups → PartsFit (group_parts groups)
    → four ≡ four_bytes (get_or groups i d).addr → Appends out before (parts_bytes (group_parts (take i groups))) (Ok u)
    → Appends before after ((get_or groups i d).id ∷ get_or four 0 0 ∷ get_or four 1 0 ∷ get_or four 2 0 ∷ get_or four 3 0 ∷ []) (Ok v)
    → Appends out after (parts_bytes (group_parts (take (i + 1) groups))) (Ok v)
group_put {out} {before} {after} {four} groups i d below fit addr_is so_far put =
    let group : GroupAddress = get_or groups i d in
    let id_is : group.id ≡ group.id % 256 = omega (arith, id_fits groups i d below fit) in
    let one_is : group.id ∷ get_or four 0 0 ∷ get_or four 1 0 ∷ get_or four 2 0 ∷ get_or four 3 0 ∷ [] ≡ group.id % 256 ∷ number_bytes 4 group.addr = cc (four_put group.addr addr_is) in
    let grown : parts_bytes (group_parts (take (i + 1) groups)) ≡ parts_bytes (group_parts (take i groups)) ++ (group.id % 256 ∷ number_bytes 4 group.addr) =
    ap (λ (l : List GroupAddress). parts_bytes (group_parts l)) (take_more groups i d below) ∙ group_bytes (take i groups) group in
    puts_same (sym grown) (then so_far (puts_same one_is put))

pub length-group_bytes : (groups : List GroupAddress) → length (parts_bytes (group_parts groups)) ≡ 5 * length groups
length-group_bytes [] = refl
length-group_bytes (group ∷ groups) = omega (arith, length-group_bytes groups)

-- there is room for the next group
pub group_room : {out before : List ℕ} {u : Unit {0}} (groups : List GroupAddress) (i : ℕ) → i < length groups → length out + 5 * length groups ≤ 242
    → Appends out before (parts_bytes (group_parts (take i groups))) (Ok u) → length before + 5 ≤ 242
group_room {out} {before} groups i below room so_far =
    let long : length before ≡ length out + length (parts_bytes (group_parts (take i groups))) = ap length so_far.appended ∙ length-append out (parts_bytes (group_parts (take i groups))) in
    omega (arith, long, length-group_bytes (take i groups), length-take i groups)

pub status_answer_spelled : {total mask : ℕ} {groups : List GroupAddress} → IsValid (McGroupStatusAns total mask groups)
    → 1 ∷ (total * 16 % 256 + mask) ∷ parts_bytes (group_parts groups) ≡ canonical (McGroupStatusAns total mask groups)
status_answer_spelled {total} {mask} {groups} valid =
    let fields : total * 16 % 256 + mask ≡ packed_number (bits 6 4 total ∷ bits 3 0 mask ∷ []) % 256 = omega (arith, valid.fields.0.0) in
    rw fields refl

-- ---- groups whose ids fit

pub ids_more : (groups : List GroupAddress) (i : ℕ) (d : GroupAddress) → i < length groups → (get_or groups i d).id < 4 → (get_or groups i d).addr < 2 ^ 32
    → (PartsFit (group_parts (drop i groups)) ↔ PartsFit (group_parts groups)) → PartsFit (group_parts (drop (i + 1) groups)) ↔ PartsFit (group_parts groups)
ids_more groups i d below id_fits addr_fits so_far =
    let next : drop i groups ≡ get_or groups i d ∷ drop (i + 1) groups = drop_more groups i d below in
    let whole = subst (λ (l : List GroupAddress). PartsFit (group_parts l) ↔ PartsFit (group_parts groups)) next so_far in
    ((λ rest. whole.0 ((id_fits, tt), (addr_fits, rest))), λ all. (whole.1 all).1.1)
