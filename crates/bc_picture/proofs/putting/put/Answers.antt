use Rattle.std.proofs.Common.{[], ◌∷◌}
use Rattle.bc_picture.specs.SpaceListing.{item_bytes}
use Rattle.bc_picture.proofs.StreamLemmas.{on-err, room-none, breaks-more, puts-then, puts-pushed}
use Rattle.bc_picture.proofs.putting.put.Goals as goal

pub make_room-requires : goal.make_room-requires
make_room-requires g c = record { room = room-none _ _ (item_bytes (c.args.item ∷ [])) c.requires.room }

pub returns-in_err-make_room-clause-breaks : goal.returns-in_err-make_room-clause-breaks
returns-in_err-make_room-clause-breaks g c = on-err _ c.from_residual.result (breaks-more _ _ [] (item_bytes (c.args.item ∷ [])) c.in_err-make_room.ensures.breaks)

pub push-requires : goal.push-requires
push-requires g c = c.in_ok-make_room.ensures.place

pub returns-clause-puts : goal.returns-clause-puts
returns-clause-puts g c = puts-then _ _ _ [] (item_bytes (c.args.item ∷ [])) c.in_ok-make_room.ensures.puts (puts-pushed _ c.args.item c.push.new.self c.push.ensures)
