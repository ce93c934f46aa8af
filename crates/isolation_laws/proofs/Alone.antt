-- A campaign next to another is the one that it would be alone, except for the counters of its devices.
use Rattle.std.proofs.Common.{◌≡◌, inl, inr, ℕ, zero, suc, ◌+◌, ◌-◌, ◌==◌, Bool, true, false, not, cond, List, [], ◌∷◌, ◌++◌, map, slice_get, nat_le, Option, Some, None, Result, Ok, Err, refl, sym, ap, ◌∙◌, subst, append-nil}
use Rattle.std.specs.List.{AllZip, slice_set}
use Rattle.std.proofs.lemmas.Bool.{and_parts}
use Rattle.wire_base.specs.Numbered.{numbered}
use Rattle.wire_base.specs.declared.refusal.Direction.TheVariants.{Down as Downwards}
use Rattle.package_grammar.specs.declared.downlink.Downlink.{Downlink}
use Rattle.package_grammar.specs.Reading.{reading_of}
use Rattle.device_core.specs.declared.uplink.Uplink.{Uplink}
use Rattle.device_core.specs.Device.{DeviceState}
use Rattle.device_core.specs.Events.{Event, Receives, event_step, uplinks_taken}
use Rattle.campaign_server.specs.declared.stage.Stage.{Stage}
use Rattle.campaign_server.specs.Server.{ServerState, ledger}
use Rattle.campaign_server.proofs.LineItems.{if_some}
use Rattle.script_lines.specs.declared.forms.Campaign.{Campaign}
use Rattle.script_lines.specs.declared.forms.Campaign.TheVariants as campaign
use Rattle.script_lines.specs.Limits.{max_lines}
use Rattle.report_lines.specs.declared.faults.LineWhy.{LineWhy}
use Rattle.report_lines.specs.declared.faults.LineFault.{LineFault}
use Rattle.report_lines.specs.declared.faults.LineWhy.TheVariants as why
use Rattle.campaign_world.specs.declared.section.Section.{Section}
use Rattle.campaign_world.specs.declared.section.Section.TheVariants as section
use Rattle.campaign_world.specs.World.{WorldState, first_world}
use Rattle.campaign_world.specs.Said.{Said, Own, Elsewhere, Reached, Line}
use Rattle.campaign_world.specs.Causes.{has_ended, takes_events, said_cause, cause_of}
use Rattle.campaign_world.specs.Making.{with_device, with_event, made_by, at_events, after_said}
use Rattle.campaign_world.specs.Script.{one_line_more, after_line, line_result, read_line, read_lines, campaign_of}
use Rattle.campaign_world.specs.Honest.{are_for_others, has_raw}
use Rattle.campaign_world.specs.Report.{numbered_lines, lines_under}
use Rattle.campaign_world.proofs.Lines.{ended, is_ended}
use Rattle.campaign_world.proofs.Zips.{numbered_found}
use Rattle.campaign_laws.proofs.HeadlineCommands.{cut_of}
use Rattle.campaign_laws.proofs.HeadlineEnds.{IsDeviceFor}
use Rattle.campaign_laws.proofs.HeadlineForms.{reached_passes}
use Rattle.campaign_laws.proofs.Items.{is_there}
use Rattle.campaign_laws.proofs.HonestLines.{Stands}
use Rattle.pair_run.specs.Counting.{counting, IsAlike}
use Rattle.pair_run.specs.Pair.{PairState, first_pair, side}
use Rattle.pair_run.specs.PairScript.{after_pair_line, read_pair_lines, pair_has_ended}
use Rattle.pair_run.specs.PairLines.{line_to, lines_to, image_of}
use Rattle.isolation_laws.specs.Isolation.{unreached, lines_alone, DifferInCounters, part_counting, AreToldAlike, IsOneOf, CampaignsAreIsolated, NoOtherCampaignMatters}
use Rattle.isolation_laws.proofs.Rested.{Rested, reached_alike}
use Rattle.isolation_laws.proofs.Goes.{pair_read, pair_first, pair_last, AllGo, all_go}
use Rattle.isolation_laws.proofs.Alike.{IsPlace, Like, form_like, form_fine}
use Rattle.pair_run.proofs.Unrefused.{cause_is}
use Rattle.campaign_world.proofs.Sections.{by_section, never}

-- ---- a payload of the other reaches a device

-- another one at a place, that stands for the same as the one before
zip_moved : {A B : Type 0} (R : A → B → Type 0) (xs : List A) (ys : List B) (n : ℕ) (x new : A) → AllZip R xs ys → numbered xs n ≡ Some x
    → ((y : B) → R x y → R new y) → AllZip R (slice_set xs (n - 1) new) ys
zip_moved {A} {B} R xs ys n x new all there moves = by (n == 0) there
  where
    at : (older : List A) (others : List B) (k : ℕ) → AllZip R older others → slice_get older k ≡ Some x → AllZip R (slice_set older k new) others
    at [] others k zip is = absurd cc
    at (a ∷ older) [] k zip is = absurd zip
    at (a ∷ older) (b ∷ others) zero zip is =
        let same : a ≡ x = cc in (moves b (subst (λ (z : A). R z b) same zip.0), zip.1)
    at (a ∷ older) (b ∷ others) (suc k) zip is = (zip.0, at older others k zip.1 is)

    by : (b : Bool) → cond b None (slice_get xs (n - 1)) ≡ Some x → AllZip R (slice_set xs (n - 1) new) ys
    by true is = absurd cc
    by false is = at xs ys (n - 1) all is

-- where it held no uplink, it is still the same except for its counters
still_alike : (d e one : DeviceState) → IsAlike d e → d.outbox ≡ [] → IsAlike d one → IsAlike (uplinks_taken e) one
still_alike d e one alike empty same =
    subst (λ (x : DeviceState). IsAlike (uplinks_taken x) one) alike
    (ap (λ (us : List Uplink). record d { outbox = us; counts = one.counts }) (sym empty) ∙ same)

nothing_up : (d e : DeviceState) → IsAlike d e → d.outbox ≡ [] → e.outbox ≡ []
nothing_up d e alike empty = sym (ap (λ (x : DeviceState). x.outbox) alike) ∙ empty

events_place : (here place : Section) → takes_events here ≡ true → IsPlace here place → IsPlace section.Events place
events_place here place takes (inl same) =
    by_section (λ (x : Section). takes_events x ≡ true → place ≡ x → IsPlace section.Events place) never never never never never
    (λ events is. inr (refl, is)) (λ events is. inl is) never here takes same
events_place here place takes (inr both) = inr (refl, both.1)

put_like : (w v : WorldState) (n : ℕ) (d e : DeviceState) → Like w v → takes_events w.section ≡ true → numbered w.devices n ≡ Some d
    → IsAlike d e → d.outbox ≡ [] → Like (at_events (with_device w n e)) v
unfolding with_device
put_like w v n d e like takes there alike empty =
    let none : w.uplinks ++ map (λ u. made_by n u) e.outbox ≡ w.uplinks =
    ap (λ (us : List Uplink). w.uplinks ++ map (λ u. made_by n u) us) (nothing_up d e alike empty) ∙ append-nil w.uplinks in
    record {
      devices = zip_moved IsAlike w.devices v.devices n d (uplinks_taken e) like.devices there (λ one same. still_alike d e one alike empty same);
      rest = like.rest ∙ ap (λ us. record w { devices = v.devices; section = v.section; uplinks = us }) (sym none);
      place = events_place w.section v.section takes like.place;
    }

reached_like : (w v : WorldState) (n : ℕ) (d : DeviceState) (event : Event) → Like w v → takes_events w.section ≡ true
    → numbered w.devices n ≡ Some d → IsAlike d (event_step d event) → d.outbox ≡ [] → Like (with_event w n (Some event)) v
reached_like w v n d event like takes there alike empty =
    rw there (put_like w v n d (event_step d event) like takes there alike empty)

empty_at : (image : List ℕ) (index : ℕ) (w : WorldState) → Stands image index w → (n : ℕ) (d : DeviceState) → numbered w.devices n ≡ Some d → d.outbox ≡ []
empty_at image index w stands n d there =
    (if_some (IsDeviceFor image (cut_of w.server.plan)) (numbered w.devices n) d there (stands.keeps.devices n)).empty

others_by : (b : Bool) → not b ≡ false → b ≡ true
others_by true is = refl
others_by false is = absurd cc

-- ---- a line

pub said_like : (image : List ℕ) (index : ℕ) (w v : WorldState) (n word : ℕ) (down : Downlink) → Stands image index w → Rested index w
    → said_cause w (Reached n word down) ≡ None → has_raw index (Ok (Reached n word down)) ≡ false → Like w v
    → Like (after_said w (Reached n word down)) v
said_like image index w v n word down stands rested fine honest like =
    let passes = reached_passes w n word down fine in
    let there = (is_there w.devices n passes.1).1 in
    reached_like w v n there.0 (Receives w.time word (w.lines + 1) down) like passes.0 there.1
    (reached_alike image index w n word down there.0 stands rested fine
    (others_by (are_for_others index (reading_of down.port Downwards down.payload)) honest) there.1)
    (empty_at image index w stands n there.0 there.1)

pub line_more : (w v : WorldState) → Like w v → Like (one_line_more w) (one_line_more v)
line_more w v like = record { devices = like.devices; rest = ap (λ (x : WorldState). one_line_more x) like.rest; place = like.place }

abbrev ThenLike : (w v : WorldState) → (said : Said) → Line → Type 0
ThenLike w v said (Err cause) = ⊥
ThenLike w v said (Ok other) = (said_cause v other ≡ None) × Like (after_said w said) (after_said v other)

-- the line alone is not refused, and both go on alike
goes_alike : (image : List ℕ) (index : ℕ) (w v : WorldState) (said : Said) → Stands image index w → Rested index w → said_cause w said ≡ None
    → has_raw index (Ok said) ≡ false → Like w v → ThenLike w v said (unreached (Ok said))
goes_alike image index w v (Own form) stands rested fine honest like = (form_fine w v form like fine, form_like w v form like)
goes_alike image index w v Elsewhere stands rested fine honest like = (refl, like)
goes_alike image index w v (Reached n word down) stands rested fine honest like =
    (refl, said_like image index w v n word down stands rested fine honest like)

-- as the next line
record Reads (w v : WorldState) (said : Said) : Type 0 where
  other : Said
  is : unreached (Ok said) ≡ Ok other
  cause : cause_of v (Ok other) ≡ None
  like : Like (after_line w (Ok said)) (after_line v (Ok other))

few_by : (full : Bool) (rest : Option LineWhy) → cond full (Some why.Limit) rest ≡ None → full ≡ false
few_by true rest fine = absurd cc
few_by false rest fine = refl

few_lines : (w : WorldState) (line : Line) → cause_of w line ≡ None → nat_le max_lines w.lines ≡ false
unfolding cause_of
few_lines w line fine = few_by (nat_le max_lines w.lines) _ fine

reads : (image : List ℕ) (index : ℕ) (w v : WorldState) (said : Said) → Stands image index w → Rested index w → said_cause w said ≡ None
    → cause_of w (Ok said) ≡ None → has_raw index (Ok said) ≡ false → Like w v → Reads w v said
reads image index w v said stands rested fine cause honest like = by (unreached (Ok said)) refl (goes_alike image index w v said stands rested fine honest like)
  where
    by : (line : Line) → unreached (Ok said) ≡ line → ThenLike w v said line → Reads w v said
    by (Err why) is k = absurd k
    by (Ok other) is k = record {
      other = other;
      is = is;
      cause = cause_is v other (ap (λ (x : WorldState). nat_le max_lines x.lines) like.rest ∙ few_lines w (Ok said) cause) k.0;
      like = line_more (after_said w said) (after_said v other) k.1;
    }

-- ---- all lines

read_next : (v : WorldState) (line : Line) (lines : List Line) → cause_of v line ≡ None
    → read_lines (Ok v) (line ∷ lines) ≡ read_lines (Ok (after_line v line)) lines
unfolding read_lines read_line
read_next v line lines none = ap (λ (c : Option LineWhy). read_lines (line_result v line c) lines) none

record Ends (w v : WorldState) (lines : List Line) : Type 0 where
  last : WorldState
  is : read_lines (Ok v) lines ≡ Ok last
  like : Like w last

none_left : (w v : WorldState) → Like w v → Ends w v []
unfolding read_lines
none_left w v like = record { last = v; is = refl; like = like }

all_alone : (x : Campaign) (image : List ℕ) (index : ℕ) (lines : List (List ℕ)) (pair last : PairState) (v : WorldState) → AllGo x image index pair lines
    → read_pair_lines (Ok pair) lines ≡ Ok last → Like (side pair x) v → Ends (side last x) v (map unreached (lines_to x pair lines))
unfolding lines_to
all_alone x image index [] pair last v k is like =
    none_left (side last x) v (subst (λ (p : PairState). Like (side p x) v) (pair_last pair last is) like)
all_alone x image index (line ∷ lines) pair last v k is like =
    let g = k.0 in
    let first = pair_first pair last line lines is in
    let one = reads image index (side pair x) v g.said g.stands g.rested g.taken.fine g.taken.cause g.honest like in
    let says : unreached (line_to x pair line) ≡ Ok one.other = ap unreached g.taken.says ∙ one.is in
    let on : Like (side (after_pair_line pair line) x) (after_line v (Ok one.other)) =
    subst (λ (w : WorldState). Like w (after_line v (Ok one.other))) (sym g.taken.behind) one.like in
    let more = all_alone x image index lines (after_pair_line pair line) last (after_line v (Ok one.other)) k.1 first.1 on in
    record {
      last = more.last;
      is = ap (λ (l : Line). read_lines (Ok v) (l ∷ map unreached (lines_to x (after_pair_line pair line) lines))) says
          ∙ (read_next v (Ok one.other) (map unreached (lines_to x (after_pair_line pair line) lines)) one.cause ∙ more.is);
      like = more.like;
    }

pub first_side : (x : Campaign) (image_a image_b : List ℕ) → side (first_pair image_a image_b) x ≡ first_world (image_of x image_a image_b)
first_side campaign.A image_a image_b = refl
first_side campaign.B image_a image_b = refl

first_like : (w : WorldState) (image : List ℕ) → w ≡ first_world image → Like w (first_world image)
first_like w image is =
    subst (λ (x : WorldState). Like x (first_world image)) (sym is) (record { devices = tt; rest = refl; place = inl refl })

-- ---- to its end

ended_place : (here place : Section) → here ≡ section.Ended → IsPlace here place → place ≡ section.Ended
ended_place here place is (inl same) = same ∙ is
ended_place here place is (inr both) = let no : section.Ended ≡ section.Events = sym is ∙ both.0 in absurd cc

pub ended_side : (x : Campaign) (pair : PairState) → pair_has_ended pair ≡ true → has_ended (side pair x).section ≡ true
ended_side campaign.A pair is = (and_parts (has_ended pair.a.section) (has_ended pair.b.section) is).0
ended_side campaign.B pair is = (and_parts (has_ended pair.a.section) (has_ended pair.b.section) is).1

whole : (image : List ℕ) (lines : List Line) (last : WorldState) → read_lines (Ok (first_world image)) lines ≡ Ok last → last.section ≡ section.Ended
    → campaign_of image lines ≡ Ok last
unfolding campaign_of
whole image lines last is ends = rw is (ended last ends)

rest_is : (w v : WorldState) → Like w v → v.section ≡ w.section → v ≡ record w { devices = v.devices }
rest_is w v like same = like.rest ∙ ap (λ (s : Section). record w { devices = v.devices; section = s }) same

-- ---- what the report says

-- the lines of a device that is there show all of it except its counters
pub told_by : (w : WorldState) (id : ℕ) (name : List ℕ) (stage : Stage) (d one : DeviceState) → IsAlike d one → ledger w.server id ≡ Some stage
    → numbered w.devices id ≡ Some d → lines_under name id w ≡ part_counting w.server.image name stage one d.counts
told_by w id name stage d one alike stage_is there =
    rw (stage_is, there) (ap (λ (x : DeviceState). part_counting w.server.image name stage x d.counts) alike)

told_alike : (w v : WorldState) (id : ℕ) (name : List ℕ) (stage : Stage) (d one : DeviceState) → v.server ≡ w.server → IsAlike d one
    → numbered w.devices id ≡ Some d → numbered v.devices id ≡ Some one → ledger w.server id ≡ Some stage → AreToldAlike w v id name stage d one
told_alike w v id name stage d one server alike there found stage_is = record {
  beside = told_by w id name stage d one alike stage_is there;
  alone_is = ap (λ (s : ServerState). numbered_lines name id s v.devices) server
      ∙ rw (stage_is, found) refl;
}

each_of : (w v : WorldState) → v.server ≡ w.server → AllZip IsAlike w.devices v.devices → (id : ℕ) (d : DeviceState) → numbered w.devices id ≡ Some d
    → (one : DeviceState) × IsOneOf w v id d one
each_of w v server zip id d there =
    let found = numbered_found IsAlike w.devices v.devices id d zip there in (
      found.0,
      record {
        there = found.1;
        alike = found.2;
        told = λ name stage stage_is. told_alike w v id name stage d found.0 server found.2 there found.1 stage_is;
      },
    )

pub isolated : CampaignsAreIsolated
isolated x image_a image_b lines pair script =
    let image : List ℕ = image_of x image_a image_b in
    let read = pair_read image_a image_b lines pair script.accepted in
    let first = first_like (side (first_pair image_a image_b) x) image (first_side x image_a image_b) in
    let ends = all_alone x image (side pair x).server.plan.index lines (first_pair image_a image_b) pair (first_world image)
    (all_go x image_a image_b lines pair script.bytes_a script.bytes_b script.accepted) read.0 first in
    let over : (side pair x).section ≡ section.Ended = is_ended (side pair x).section (ended_side x pair read.1) in
    let here : ends.last.section ≡ section.Ended = ended_place (side pair x).section ends.last.section over ends.like.place in
    let rest = rest_is (side pair x) ends.last ends.like (here ∙ sym over) in (
      ends.last,
      record {
        accepted = whole image (lines_alone x image_a image_b lines) ends.last ends.is here;
        differ = record { rest = rest; devices = ends.like.devices };
        each = each_of (side pair x) ends.last (ap (λ (w : WorldState). w.server) rest) ends.like.devices;
      },
    )

-- ---- two campaigns that are the same alone

alike_between : (d e one : DeviceState) → IsAlike d one → IsAlike e one → IsAlike d e
alike_between d e one here there = ap (counting e.counts) (here ∙ sym there)

all_between : (ds es ones : List DeviceState) → AllZip IsAlike ds ones → AllZip IsAlike es ones → AllZip IsAlike ds es
all_between [] [] ones here there = tt
all_between [] (e ∷ es) [] here there = absurd there
all_between [] (e ∷ es) (one ∷ ones) here there = absurd here
all_between (d ∷ ds) es [] here there = absurd here
all_between (d ∷ ds) [] (one ∷ ones) here there = absurd there
all_between (d ∷ ds) (e ∷ es) (one ∷ ones) here there =
    (alike_between d e one here.0 there.0, all_between ds es ones here.1 there.1)

same_alone : (w v alone : WorldState) → DifferInCounters w alone → DifferInCounters v alone → DifferInCounters w v
same_alone w v alone here there = record {
  rest = ap (λ (x : WorldState). record x { devices = v.devices }) (sym there.rest ∙ here.rest);
  devices = all_between w.devices v.devices alone.devices here.devices there.devices;
}

one_alone : (one other : Result WorldState LineFault) (w v : WorldState) → one ≡ Ok w → other ≡ Ok v → one ≡ other → v ≡ w
one_alone one other w v is its same =
    let both : Ok v ≡ Ok w = sym its ∙ sym same ∙ is in cc

pub no_other_matters : NoOtherCampaignMatters
no_other_matters x image_a image_b lines pair other_a other_b others beside script other_script image_same lines_same =
    let here = isolated x image_a image_b lines pair script in
    let there = isolated x other_a other_b others beside other_script in
    let campaigns : campaign_of (image_of x image_a image_b) (lines_alone x image_a image_b lines)
    ≡ campaign_of (image_of x other_a other_b) (lines_alone x other_a other_b others) =
    ap (λ (i : List ℕ). campaign_of i (lines_alone x image_a image_b lines)) image_same
    ∙ ap (λ (ls : List Line). campaign_of (image_of x other_a other_b) ls) lines_same in
    let same = one_alone _ _ here.0 there.0 here.1.accepted there.1.accepted campaigns in
    same_alone (side pair x) (side beside x) here.0 here.1.differ (subst (DifferInCounters (side beside x)) same there.1.differ)
