use Rattle.package_grammar.proofs.Appended.{two_put, three_put}
use Rattle.package_grammar.proofs.showing_sync.put_sync.Goals as goal

pub returns-in_ok-put_word-in-PackageVersionAns : goal.returns-in_ok-put_word-in-PackageVersionAns
returns-in_ok-put_word-in-PackageVersionAns c = rw c.in-PackageVersionAns.is (two_put _ _ _ _ _ _ c.in_ok-put_word-in-PackageVersionAns.ensures c.put_word-in-PackageVersionAns.ensures)

pub returns-in_ok-put_truth-in-AppTimeReq : goal.returns-in_ok-put_truth-in-AppTimeReq
returns-in_ok-put_truth-in-AppTimeReq c = rw c.in-AppTimeReq.is (three_put _ _ _ _ _ _ _ _ c.in_ok-put_number-in-AppTimeReq.ensures c.in_ok-put_truth-in-AppTimeReq.ensures c.put_word-in-AppTimeReq.ensures)

pub returns-in_ok-write-in-AppTimeAns : goal.returns-in_ok-write-in-AppTimeAns
returns-in_ok-write-in-AppTimeAns c = rw c.in-AppTimeAns.is (two_put _ _ _ _ _ _ c.in_ok-write-in-AppTimeAns.ensures.bytes c.put_word-in-AppTimeAns.ensures)

pub returns-in-DevVersionReq : goal.returns-in-DevVersionReq
returns-in-DevVersionReq c = rw c.in-DevVersionReq.is (c.put_text-in-DevVersionReq.ensures)

pub returns-in_ok-put_number-in-DevVersionAns : goal.returns-in_ok-put_number-in-DevVersionAns
returns-in_ok-put_number-in-DevVersionAns c = rw c.in-DevVersionAns.is (two_put _ _ _ _ _ _ c.in_ok-put_number-in-DevVersionAns.ensures c.put_number-in-DevVersionAns-2.ensures)

pub returns-in-DevRebootTimeReq : goal.returns-in-DevRebootTimeReq
returns-in-DevRebootTimeReq c = rw c.in-DevRebootTimeReq.is (c.put_number-in-DevRebootTimeReq.ensures)

pub returns-in-DevRebootTimeAns : goal.returns-in-DevRebootTimeAns
returns-in-DevRebootTimeAns c = rw c.in-DevRebootTimeAns.is (c.put_number-in-DevRebootTimeAns.ensures)

pub returns-in-DevRebootCountdownReq : goal.returns-in-DevRebootCountdownReq
returns-in-DevRebootCountdownReq c = rw c.in-DevRebootCountdownReq.is (c.put_number-in-DevRebootCountdownReq.ensures)

pub returns-in-DevRebootCountdownAns : goal.returns-in-DevRebootCountdownAns
returns-in-DevRebootCountdownAns c = rw c.in-DevRebootCountdownAns.is (c.put_number-in-DevRebootCountdownAns.ensures)

pub returns-in-DevUpgradeImageReq : goal.returns-in-DevUpgradeImageReq
returns-in-DevUpgradeImageReq c = rw c.in-DevUpgradeImageReq.is (c.put_text-in-DevUpgradeImageReq.ensures)

pub returns-in_ok-put_word-in-DevUpgradeImageAns : goal.returns-in_ok-put_word-in-DevUpgradeImageAns
returns-in_ok-put_word-in-DevUpgradeImageAns c = rw c.in-DevUpgradeImageAns.is (two_put _ _ _ _ _ _ c.in_ok-put_word-in-DevUpgradeImageAns.ensures c.put_there.ensures)

pub returns-in-DevDeleteImageReq : goal.returns-in-DevDeleteImageReq
returns-in-DevDeleteImageReq c = rw c.in-DevDeleteImageReq.is (c.put_number-in-DevDeleteImageReq.ensures)

pub returns-in-DevDeleteImageAns : goal.returns-in-DevDeleteImageAns
returns-in-DevDeleteImageAns c = rw c.in-DevDeleteImageAns.is (c.put_word-in-DevDeleteImageAns.ensures)
