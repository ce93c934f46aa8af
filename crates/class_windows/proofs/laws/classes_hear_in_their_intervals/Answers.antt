use Rattle.class_windows.proofs.WindowTests.{after_uplink_tests, class_b_tests, class_c_tests}
use Rattle.class_windows.proofs.laws.classes_hear_in_their_intervals.Goals as goal

pub returns-clause-class_a : goal.returns-clause-class_a
returns-clause-class_a c = after_uplink_tests

pub returns-clause-class_c : goal.returns-clause-class_c
returns-clause-class_c c = class_c_tests

pub returns-clause-class_b : goal.returns-clause-class_b
returns-clause-class_b c = class_b_tests
