-- What is spelled at a place is what its identifier names there: so a place has one spelling.
use Rattle.std.proofs.Common.{◌≡◌, ℕ, ◌+◌, ◌-◌, ◌*◌, ◌≤◌, ◌<◌, true, leb, List, length, get_or, drop, Some, None, sym, ap, subst, ◌∙◌, arith, inl, inr}
use Rattle.std.specs.Prelude.{count_ones, slice_range}
use Rattle.std.proofs.lemmas.Bool.{le-leb}
use Rattle.std.proofs.lemmas.List.{length-drop, length-take, get_or-take, get_or-drop, ext_get_or}
use Rattle.wire_base.specs.declared.refusal.Direction.{Direction}
use Rattle.wire_base.specs.Found.{field}
use Rattle.wire_base.proofs.Spelled.{flag_of, has_bytes}
use Rattle.cast_wire.specs.declared.cmd.Cmd.{Cmd}
use Rattle.cast_wire.specs.declared.cmd.Cmd.TheVariants.{PackageVersionReq, PackageVersionAns, FragSessionStatusReq, FragSessionStatusAns, FragSessionSetupReq, FragSessionSetupAns, FragSessionDeleteAns, DataFragment, McGroupStatusAns, McGroupSetupReq, McGroupSetupAns, McGroupDeleteAns, McClassCSessionReq, McClassCSessionAns, McClassBSessionReq, McClassBSessionAns}
use Rattle.cast_wire.specs.Table.{Spells}
use Rattle.cast_wire.specs.Reading.{fragment_down, fragment_up, group_down, group_up, reading}
use Rattle.cast_wire.proofs.GroupLists.{groups_known}

-- bytes that are there from a place on are that range of the payload
block_is : (bytes block : List ℕ) (at len : ℕ) → length block ≡ len → at + len ≤ length bytes → ((k : ℕ) → k < length block → get_or bytes (at + k) 0 ≡ get_or block k 0) → slice_range bytes at (at + len) ≡ block
block_is bytes block at len long within lie =
    let taken : at + len - at ≡ len = omega arith in
    ext_get_or 0 (slice_range bytes at (at + len)) block (length-take (at + len - at) (drop at bytes) ∙ omega (arith, length-drop at bytes)) (λ k below.
    let inside : k < at + len - at = omega (arith, length-take (at + len - at) (drop at bytes)) in
    get_or-take (at + len - at) (drop at bytes) k 0 inside ∙ get_or-drop at bytes k 0 ∙ lie k (omega (arith, length-take (at + len - at) (drop at bytes))))

pub only : (c : Cmd) (port : ℕ) (dir : Direction) (bytes : List ℕ) (at next : ℕ) → Spells c port dir bytes at next → reading port dir bytes at ≡ Some (c, next)
unfolding fragment_down fragment_up group_down group_up
only PackageVersionReq port dir bytes at next s = elim s.listed.port_is [
  | inl on ↦ rw (on, s.listed.direction_is, s.lies.cid_is, has_bytes _ _ _ _ s.lies.parts_lie) cc
  | inr on ↦ rw (on, s.listed.direction_is, s.lies.cid_is, has_bytes _ _ _ _ s.lies.parts_lie) cc
]
only (PackageVersionAns identifier version) port dir bytes at next s = elim s.listed.port_is [
  | inl on ↦ rw (on, s.listed.direction_is, s.lies.cid_is, has_bytes _ _ _ _ s.lies.parts_lie.1.1) cc
  | inr on ↦ rw (on, s.listed.direction_is, s.lies.cid_is, has_bytes _ _ _ _ s.lies.parts_lie.1.1) cc
]
only (FragSessionStatusReq index all) port dir bytes at next s =
    let p = s.lies.parts_lie in
    let all_is = flag_of _ all p.0.1.0 in
    rw (s.listed.port_is, s.listed.direction_is, s.lies.cid_is, has_bytes _ _ _ _ p.1) cc
only (FragSessionStatusAns index received missing norows) port dir bytes at next s =
    let p = s.lies.parts_lie in
    let norows_is = flag_of _ norows p.1.1.0.0 in
    rw (s.listed.port_is, s.listed.direction_is, s.lies.cid_is, has_bytes _ _ _ _ p.1.1.1) cc
only (FragSessionSetupReq index mask nb_frag frag_size algo delay padding descriptor) port dir bytes at next s = rw (s.listed.port_is, s.listed.direction_is, s.lies.cid_is, has_bytes _ _ _ _ s.lies.parts_lie.1.1.1.1.1.1) cc
only (FragSessionSetupAns index wrong_descriptor index_unsupported no_memory encoding_unsupported) port dir bytes at next s =
    let p = s.lies.parts_lie in
    let wrong_descriptor_is = flag_of _ wrong_descriptor p.0.1.0 in
    let index_unsupported_is = flag_of _ index_unsupported p.0.1.1.0 in
    let no_memory_is = flag_of _ no_memory p.0.1.1.1.0 in
    let encoding_unsupported_is = flag_of _ encoding_unsupported p.0.1.1.1.1.0 in
    rw (s.listed.port_is, s.listed.direction_is, s.lies.cid_is, has_bytes _ _ _ _ p.1) cc
only (FragSessionDeleteAns index missing) port dir bytes at next s =
    let p = s.lies.parts_lie in
    let missing_is = flag_of _ missing p.0.0 in
    rw (s.listed.port_is, s.listed.direction_is, s.lies.cid_is, has_bytes _ _ _ _ p.1) cc
only (DataFragment index n fragment) port dir bytes at next s =
    let p = s.lies.parts_lie in
    let taken : length bytes - (at + 3) ≡ length fragment = sym (length-drop (at + 3) bytes) ∙ ap length p.1.0 in
    let within : leb (at + 4) (length bytes) ≡ true = le-leb _ _ (omega (arith, taken, s.whole.0)) in
    let ends : length bytes ≡ next = omega (arith, taken, s.whole.0, p.1.1.0) in
    rw (s.listed.port_is, s.listed.direction_is, s.lies.cid_is, within) cc
only (McGroupStatusAns total mask groups) port dir bytes at next s =
    let p = s.lies.parts_lie in
    let known = groups_known groups bytes at 2 next p.1 in
    let ones : count_ones (field bytes (at + 1) 1 0 4) ≡ length groups = ap count_ones p.0.1.0 ∙ sym s.whole in
    let head : leb (at + 2) (length bytes) ≡ true = le-leb _ _ (omega (arith, known.1, known.2)) in
    let within : leb (at + (2 + 5 * length groups)) (length bytes) ≡ true = le-leb _ _ (omega (arith, known.1, known.2)) in
    let ends : at + (2 + 5 * length groups) ≡ next = omega (arith, known.1) in
    rw (s.listed.port_is, s.listed.direction_is, s.lies.cid_is, head, ones, within, known.0) cc
only (McGroupSetupReq id addr key min max) port dir bytes at next s =
    let p = s.lies.parts_lie in
    let key_is : slice_range bytes (at + 6) (at + 22) ≡ key = subst (λ (k : ℕ). slice_range bytes (at + 6) k ≡ key) (let e : at + 6 + 16 ≡ at + 22 = omega arith in e) (block_is bytes key (at + 6) 16 s.whole (omega (arith, p.1.1.1.1.1.0, p.1.1.1.1.1.1, s.whole)) p.1.1.0) in
    let within : leb (at + 30) (length bytes) ≡ true = le-leb _ _ (omega (arith, p.1.1.1.1.1.0, p.1.1.1.1.1.1, s.whole)) in
    rw (s.listed.port_is, s.listed.direction_is, s.lies.cid_is, within) cc
only (McGroupSetupAns id error) port dir bytes at next s =
    let p = s.lies.parts_lie in
    let error_is = flag_of _ error p.0.0 in
    rw (s.listed.port_is, s.listed.direction_is, s.lies.cid_is, has_bytes _ _ _ _ p.1) cc
only (McGroupDeleteAns id undefined) port dir bytes at next s =
    let p = s.lies.parts_lie in
    let undefined_is = flag_of _ undefined p.0.0 in
    rw (s.listed.port_is, s.listed.direction_is, s.lies.cid_is, has_bytes _ _ _ _ p.1) cc
only (McClassCSessionReq id time timeout freq dr) port dir bytes at next s = rw (s.listed.port_is, s.listed.direction_is, s.lies.cid_is, has_bytes _ _ _ _ s.lies.parts_lie.1.1.1.1.1) cc
only (McClassCSessionAns id undefined freq_error dr_error None) port dir bytes at next s =
    let p = s.lies.parts_lie in
    let undefined_is = flag_of _ undefined p.0.0 in
    let freq_error_is = flag_of _ freq_error p.0.1.0 in
    let dr_error_is = flag_of _ dr_error p.0.1.1.0 in
    rw (s.listed.port_is, s.listed.direction_is, s.lies.cid_is, undefined_is, freq_error_is, dr_error_is, ← s.whole, has_bytes _ _ _ _ p.1) cc
only (McClassCSessionAns id undefined freq_error dr_error (Some start)) port dir bytes at next s =
    let p = s.lies.parts_lie in
    let undefined_is = flag_of _ undefined p.0.0 in
    let freq_error_is = flag_of _ freq_error p.0.1.0 in
    let dr_error_is = flag_of _ dr_error p.0.1.1.0 in
    rw (s.listed.port_is, s.listed.direction_is, s.lies.cid_is, undefined_is, freq_error_is, dr_error_is, ← s.whole, has_bytes _ _ _ _ p.1.1) cc
only (McClassBSessionReq id time periodicity timeout freq dr) port dir bytes at next s = rw (s.listed.port_is, s.listed.direction_is, s.lies.cid_is, has_bytes _ _ _ _ s.lies.parts_lie.1.1.1.1.1) cc
only (McClassBSessionAns id undefined freq_error dr_error None) port dir bytes at next s =
    let p = s.lies.parts_lie in
    let undefined_is = flag_of _ undefined p.0.0 in
    let freq_error_is = flag_of _ freq_error p.0.1.0 in
    let dr_error_is = flag_of _ dr_error p.0.1.1.0 in
    rw (s.listed.port_is, s.listed.direction_is, s.lies.cid_is, undefined_is, freq_error_is, dr_error_is, ← s.whole, has_bytes _ _ _ _ p.1) cc
only (McClassBSessionAns id undefined freq_error dr_error (Some start)) port dir bytes at next s =
    let p = s.lies.parts_lie in
    let undefined_is = flag_of _ undefined p.0.0 in
    let freq_error_is = flag_of _ freq_error p.0.1.0 in
    let dr_error_is = flag_of _ dr_error p.0.1.1.0 in
    rw (s.listed.port_is, s.listed.direction_is, s.lies.cid_is, undefined_is, freq_error_is, dr_error_is, ← s.whole, has_bytes _ _ _ _ p.1.1) cc
only _ port dir bytes at next s = rw (s.listed.port_is, s.listed.direction_is, s.lies.cid_is, has_bytes _ _ _ _ s.lies.parts_lie.1) cc
