use Rattle.std.proofs.Common.{vec_len, sym, ◌∙◌, arith}
use Rattle.bc_model.specs.Rows.{lists_of}
use Rattle.bc_turn.proofs.RoomLemmas.{room-fitted}
use Rattle.bc_turn.proofs.TurnLemmas.{some-left}
use Rattle.bc_turn.proofs.rooms.fit_room.Goals as goal

pub returns-else-is_empty-clause-busy : goal.returns-else-is_empty-clause-busy
returns-else-is_empty-clause-busy c =
    let some = some-left (vec_len c.args.room.now.spares) (sym c.is_empty.ensures ∙ c.if-is_empty.false) in
    let long = c.args.room.now.spares.ok.0 in
    (room-fitted c.args.holders.now c.args.slots (lists_of c.args.lanes.now) (lists_of c.args.replies.now) c.args.room.now c.drop_idle.new.spares.items c.requires.kept (omega arith) c.drop_idle.ensures.kept).0

pub returns-else-is_empty-clause-spares : goal.returns-else-is_empty-clause-spares
returns-else-is_empty-clause-spares c =
    let some = some-left (vec_len c.args.room.now.spares) (sym c.is_empty.ensures ∙ c.if-is_empty.false) in
    let long = c.args.room.now.spares.ok.0 in
    (room-fitted c.args.holders.now c.args.slots (lists_of c.args.lanes.now) (lists_of c.args.replies.now) c.args.room.now c.drop_idle.new.spares.items c.requires.kept (omega arith) c.drop_idle.ensures.kept).1
