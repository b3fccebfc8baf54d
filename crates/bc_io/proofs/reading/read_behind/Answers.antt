use Rattle.std.proofs.Common.{◌≡◌, take, length, ◌++◌, ap, ◌∙◌, arith, length-take}
use Rattle.bc_io.proofs.Telling.{take-written}
use Rattle.bc_io.proofs.reading.read_behind.Goals as goal

pub returns-clause-given : goal.returns-clause-given
returns-clause-given g c =
    let count = c.in_ok-count.count in
    let within = c.in_ok-count.ensures.within in
    let room = c.in_ok-make_room.ensures.room in
    let bytes = c.deref_mut.result.now in
    let front : take c.args.filled bytes ≡ take c.args.filled c.args.bytes.now.items
    = ap (take c.args.filled) c.deref_mut.ensures.value ∙ c.make_room.ensures.front in
    let at : length (take c.args.filled bytes) ≡ c.args.filled
    = omega (arith, length-take c.args.filled bytes, c.deref_mut.ensures.len, room) in
    let copied = take-written (take c.args.filled bytes) c.read.new.buf _ _ c.make_room.new.bytes.len c.args.filled count at within (omega (arith, room, within)) in (
      take count c.read.new.buf,
      omega (arith, length-take count c.read.new.buf, within),
      copied ∙ ap (λ front. front ++ take count c.read.new.buf) front,
      c.in_ok-count.ensures.given,
    )
