use Rattle.std.proofs.Common.{arith}
use Rattle.bc_pins.proofs.ReadLemmas.{looked}
use Rattle.bc_pins.proofs.pins.Pins.look.Goals as goal

pub load-found-requires : goal.load-found-requires
load-found-requires c =
    let size = c.args.self.now.words in
    let lt = c.requires.page in
    let entry = c.page_entry.ensures in
    (c.requires.seat.table, omega arith, looked _ _ _ _ _ _ _ entry lt c.requires.seat.about c.requires.seat.role)
