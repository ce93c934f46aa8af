-- A device whose memory is taken when its first event comes.
use Rattle.std.proofs.Common.{◌≡◌, ◌∙◌, ℕ, List, [], Option, Some, None, Err, refl, sym, ap, subst}
use Rattle.report_lines.specs.Devices.{◌⧺◌, standing_of, standing_line, counts_line}
use Rattle.device_core.specs.Device.{DeviceState, first_device}
use Rattle.flash_session.specs.Flashes.{Cells}
use Rattle.device_core.specs.HeldDevice.{HeldDevice}
use Rattle.device_core.specs.Configuration.{Configuration}
use Rattle.device_core.proofs.Outboxes.{outbox_is}
use Rattle.frag_session.specs.Session.{view_of}
use Rattle.campaign_server.specs.declared.stage.Stage.{Stage}
use Rattle.campaign_world.specs.declared.recovery.NoFile.TheVariants as no_file
use Rattle.campaign_world.specs.Recovery.{recovery_by}
use Rattle.campaign_world.specs.Report.{named_part}
use Rattle.campaign_world.specs.declared.numbered.NumberedUplink.{NumberedUplink}
use Rattle.campaign_world.specs.HeldLate.{Late, IsAtRest, RestsBy, DeviceRests}
use Rattle.campaign_world.specs.HeldEvent.{Happens}

-- what is here rests as the device does
pub here_rests : (late : Late) (held : HeldDevice Cells) (d : DeviceState) → late.device ≡ Some held → DeviceRests late d → IsAtRest held d
here_rests late held d here rests = subst (λ (o : Option (HeldDevice Cells)). RestsBy late.config o d) here rests

pub rests_here : (late : Late) (held : HeldDevice Cells) (d : DeviceState) → late.device ≡ Some held → IsAtRest held d → DeviceRests late d
rests_here late held d here rests = subst (λ (o : Option (HeldDevice Cells)). RestsBy late.config o d) (sym here) rests

-- before the first event it is as its configuration says
pub first_rests : (late : Late) (d : DeviceState) → late.device ≡ None → DeviceRests late d → d ≡ first_device late.config
first_rests late d none rests = subst (λ (o : Option (HeldDevice Cells)). RestsBy late.config o d) none rests

-- the first event happens at the device that is created for it
pub first_happens : (late new : Late) (made there : HeldDevice Cells) (after : DeviceState → DeviceState) (id : ℕ) (uplinks more : List NumberedUplink)
    → late.device ≡ None → new.device ≡ Some there → IsAtRest made (first_device late.config)
    → Happens IsAtRest after id made there uplinks more → Happens DeviceRests after id late new uplinks more
first_happens late new made there after id uplinks more none here rests happens =
    let first : (d : DeviceState) → DeviceRests late d → IsAtRest made d =
    λ d is. subst (λ (x : DeviceState). IsAtRest made x) (sym (first_rests late d none is)) rests in record {
      rests = λ d is. rests_here new there _ here (happens.rests d (first d is));
      numbered = λ d is. happens.numbered d (first d is);
      made = happens.made;
    }

-- its outbox is empty
empty_by : (config : Configuration) (device : Option (HeldDevice Cells)) (d : DeviceState) → RestsBy config device d → d.outbox ≡ []
empty_by config None d is = ap (λ (x : DeviceState). x.outbox) is
empty_by config (Some held) d rests = outbox_is held d rests.stands ∙ rests.empty

pub rests_empty : (late : Late) (d : DeviceState) → DeviceRests late d → d.outbox ≡ []
rests_empty late d rests = empty_by late.config late.device d rests

-- ---- what holds for one without an event

pub first_file : (late : Late) (d : DeviceState) → late.device ≡ None → DeviceRests late d → recovery_by (Some d) ≡ Err no_file.None
unfolding view_of
first_file late d none rests = rw (first_rests late d none rests) refl

pub first_view : (late : Late) (d : DeviceState) → late.device ≡ None → DeviceRests late d → view_of d.sessions.first ≡ None
unfolding view_of
first_view late d none rests = rw (first_rests late d none rests) refl

-- its lines show how it stands at its start, that nothing was counted, and no session
pub first_lines : (image name : List ℕ) (stage : Stage) (late : Late) (d : DeviceState) → late.device ≡ None → DeviceRests late d
    → standing_line name stage (standing_of (first_device late.config))
    ⧺ counts_line (record { deaf = 0; refused = 0; full = 0; dropped = 0 }) ⧺ [] ≡ named_part image name stage d
unfolding view_of
first_lines image name stage late d none rests = rw (first_rests late d none rests) refl
