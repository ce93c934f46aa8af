use Rattle.fuota_run.specs.Words.{fuota}
use Rattle.fuota_run.proofs.words.fuota.Goals as goal

pub returns : goal.returns
unfolding fuota
returns c =
    let one = c.offering-program.ensures _ _ (record { shape = c.new.ensures.app; local = c.new.ensures.local }) c.campaign_form.ensures in
    let two = c.offering-program-2.ensures _ _ one c.recover_form.ensures in
    let three = c.offering-program-3.ensures _ _ two c.replay_form.ensures in
    let four = c.offering-program-4.ensures _ _ three c.decode_form.ensures in
    let five = c.offering-program-5.ensures _ _ four c.generate_form.ensures in
    let six = c.offering-program-6.ensures _ _ five c.capture_form.ensures in
    c.offering.ensures _ _ six c.campaigns_form.ensures
