use Rattle.std.proofs.Common.{sym}
use Rattle.package_grammar.proofs.showing_cast.put_cast.Goals as goal

pub returns-in-PackageVersionAns : goal.returns-in-PackageVersionAns
returns-in-PackageVersionAns c = rw c.in-PackageVersionAns.is c.put_words.ensures

pub returns-in-FragSessionStatusReq : goal.returns-in-FragSessionStatusReq
returns-in-FragSessionStatusReq c = rw c.in-FragSessionStatusReq.is c.put_flagged.ensures

pub returns-in-FragSessionStatusAns : goal.returns-in-FragSessionStatusAns
returns-in-FragSessionStatusAns c = rw c.in-FragSessionStatusAns.is c.put_counts.ensures

pub returns-in-FragSessionSetupReq : goal.returns-in-FragSessionSetupReq
returns-in-FragSessionSetupReq c = rw c.in-FragSessionSetupReq.is c.put_setup.ensures

pub returns-in-FragSessionSetupAns : goal.returns-in-FragSessionSetupAns
returns-in-FragSessionSetupAns c = rw (c.in-FragSessionSetupAns.is, sym c.refusal_bits-bits.ensures.bits) c.put_words-in-FragSessionSetupAns.ensures

pub returns-in-FragSessionDeleteReq : goal.returns-in-FragSessionDeleteReq
returns-in-FragSessionDeleteReq c = rw c.in-FragSessionDeleteReq.is c.put_word.ensures

pub returns-in-FragSessionDeleteAns : goal.returns-in-FragSessionDeleteAns
returns-in-FragSessionDeleteAns c = rw c.in-FragSessionDeleteAns.is c.put_flagged-in-FragSessionDeleteAns.ensures

pub returns-in-McGroupStatusReq : goal.returns-in-McGroupStatusReq
returns-in-McGroupStatusReq c = rw c.in-McGroupStatusReq.is c.put_word-in-McGroupStatusReq.ensures

pub returns-in-McGroupSetupAns : goal.returns-in-McGroupSetupAns
returns-in-McGroupSetupAns c = rw c.in-McGroupSetupAns.is c.put_flagged-in-McGroupSetupAns.ensures

pub returns-in-McGroupDeleteReq : goal.returns-in-McGroupDeleteReq
returns-in-McGroupDeleteReq c = rw c.in-McGroupDeleteReq.is c.put_word-in-McGroupDeleteReq.ensures

pub returns-in-McGroupDeleteAns : goal.returns-in-McGroupDeleteAns
returns-in-McGroupDeleteAns c = rw c.in-McGroupDeleteAns.is c.put_flagged-in-McGroupDeleteAns.ensures

pub returns-in-McClassCSessionReq : goal.returns-in-McClassCSessionReq
returns-in-McClassCSessionReq c = rw c.in-McClassCSessionReq.is c.put_class_c.ensures

pub returns-in-McClassBSessionReq : goal.returns-in-McClassBSessionReq
returns-in-McClassBSessionReq c = rw c.in-McClassBSessionReq.is c.put_class_b.ensures
