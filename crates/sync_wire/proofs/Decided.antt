-- Each test is true exactly where its fact holds, and the samples have every identifier of the table.
use Rattle.std.proofs.Common.{◌≡◌, ℕ, ℤ, true, refl, subst, inl, inr}
use Rattle.std.specs.Bool.{Decides}
use Rattle.std.specs.Cmp.{booleans_Decides}
use Rattle.std.specs.Int.{w32}
use Rattle.std.specs.Int.RustNames.{FitsSigned}
use Rattle.std.proofs.lemmas.Bool.Decides.{Decides-int_eq, Decides-like}
use Rattle.std.proofs.lemmas.Int.{SFits-int_wrap, int_wrap_fits}
use Rattle.wire_base.specs.declared.refusal.Direction.{Direction}
use Rattle.wire_base.specs.Rows.{IsListed}
use Rattle.wire_base.specs.Tests.{has_cid}
use Rattle.wire_base.proofs.Decided as base
use Rattle.sync_wire.specs.declared.cmd.Cmd.{Cmd}
use Rattle.sync_wire.specs.declared.cmd.Cmd.TheVariants.{PackageVersionReq, PackageVersionAns, AppTimeAns, DevUpgradeImageAns}
use Rattle.sync_wire.specs.Table.{row, IsWhole, IsKnown}
use Rattle.sync_wire.specs.Tests.{is_whole, samples, is_known}

pub whole_tells : (c : Cmd) → Decides (is_whole c) (IsWhole c)
whole_tells (AppTimeAns correction token) =
    Decides-like _ (λ is. subst (λ (z : ℤ). FitsSigned w32 z) is (SFits-int_wrap w32 correction)) (λ fits. int_wrap_fits w32 correction fits) (Decides-int_eq _ _)
whole_tells (DevUpgradeImageAns status next) = booleans_Decides _ _
whole_tells _ = (λ _. tt, λ _. refl)

-- each row has its sample
sampled : (cmd : Cmd) (port : ℕ) (dir : Direction) → IsListed (row cmd) port dir → has_cid row port dir (row cmd).cid samples ≡ true
unfolding samples
sampled PackageVersionReq port dir l = elim l.port_is [ inl on ↦ rw (on, l.direction_is) refl | inr on ↦ rw (on, l.direction_is) refl ]
sampled (PackageVersionAns a b) port dir l = elim l.port_is [ inl on ↦ rw (on, l.direction_is) refl | inr on ↦ rw (on, l.direction_is) refl ]
sampled _ port dir l = rw (l.port_is, l.direction_is) refl

pub known_tells : (port : ℕ) (dir : Direction) (cid : ℕ) → Decides (is_known port dir cid) (IsKnown port dir cid)
unfolding is_known
known_tells port dir cid = base.known_tells row samples sampled port dir cid
