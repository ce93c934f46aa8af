use Rattle.std.proofs.Common.{length}
use Rattle.session_tests.proofs.tests.flash.+make_each.Given as goal

abbrev pub decreases-make_each : goal.decreases-make_each
decreases-make_each g l = length l.calls.now
