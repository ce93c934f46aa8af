use Rattle.std.proofs.Common.{ap, sym, ◌∙◌, lit≤}
use Rattle.frag_session.specs.Setup.{memory_room}
use Rattle.frag_model.specs.Fragments.{Shape}
use Rattle.frag_session.proofs.Calls.{accepted, set_up_fine, room_for, begun_holds}
use Rattle.frag_session.proofs.idle_state.Idle.setup.Goals as goal

pub begin-requires : goal.begin-requires
begin-requires g c =
    let fine = accepted c.args.limits (memory_room g.row.W g.row.B c.self.inside.solver.extent) c.args.req (sym c.refusal-bits.ensures ∙ c.if-bits-ne0.false) in
    let makes = set_up_fine c.args.req fine.0 in
    let room = room_for _ c.args.limits.rows c.args.req fine.1 in
    (lit≤ tt, (makes.some, (room.most, (room.small, (makes.short, c.rows_of.ensures.few)))))

pub begin-requires-in-Ok : goal.begin-requires-in-Ok
begin-requires-in-Ok g c =
    let fine = accepted c.args.limits (memory_room g.row.W g.row.B c.self.inside.solver.extent) c.args.req (sym c.refusal-bits.ensures ∙ c.if-bits-ne0.false) in
    let shape = c.in-Ok.ensures.begins.shape in
    (lit≤ tt, (lit≤ tt, (c.in-Ok.ensures.begins.begun, (ap (λ (x : Shape). x.nb_frag) shape, (ap (λ (x : Shape). x.frag_size) shape, (set_up_fine c.args.req fine.0).short)))))

pub returns-in-Ok-clause-stands : goal.returns-in-Ok-clause-stands
returns-in-Ok-clause-stands g c =
    let fine = accepted c.args.limits (memory_room g.row.W g.row.B c.self.inside.solver.extent) c.args.req (sym c.refusal-bits.ensures ∙ c.if-bits-ne0.false) in
    rw c.begin-in-Ok.ensures (begun_holds c.args.limits c.args.req c.begin.new.self fine.0 c.in-Ok.ensures.begins.begun (c.in-Ok.ensures.begins.shape ∙ ap (λ n. let x : Shape = record { nb_frag = c.args.req.nb_frag; frag_size = c.args.req.frag_size; rows = n } in x) c.rows_of.ensures.value))

pub returns-in-Ok-clause-two : goal.returns-in-Ok-clause-two
returns-in-Ok-clause-two g c = rw c.begin-in-Ok.ensures c.in-Ok.ensures.begins.two

pub returns-in-Err-clause-bits : goal.returns-in-Err-clause-bits
returns-in-Err-clause-bits g c =
    let fine = accepted c.args.limits (memory_room g.row.W g.row.B c.self.inside.solver.extent) c.args.req (sym c.refusal-bits.ensures ∙ c.if-bits-ne0.false) in
    let room = room_for _ c.args.limits.rows c.args.req fine.1 in
    absurd (let none = c.in-Err.ensures.room in let some = room.room_is in let rows = c.rows_of.ensures.value in cc)
