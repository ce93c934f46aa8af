use Rattle.cast_wire.proofs.writing.write_one.Goals as goal

pub returns-in-FragSessionSetupReq : goal.returns-in-FragSessionSetupReq
returns-in-FragSessionSetupReq c = rw c.in-FragSessionSetupReq.is c.put_setup_request.ensures

pub returns-in-McClassCSessionReq : goal.returns-in-McClassCSessionReq
returns-in-McClassCSessionReq c = rw c.in-McClassCSessionReq.is c.put_class_c_request.ensures

pub returns-in-McClassBSessionReq : goal.returns-in-McClassBSessionReq
returns-in-McClassBSessionReq c = rw c.in-McClassBSessionReq.is c.put_class_b_request.ensures
