use Rattle.std.proofs.Common.{arith}
use Rattle.bc_pins.proofs.NoticeSteps.{takes_notice}
use Rattle.bc_pins.proofs.pins.Pins.claim_notice.Goals as goal

pub fetch_add-requires : goal.fetch_add-requires
fetch_add-requires c =
    let self = c.args.self.now in
    let size = self.words in
    let many = self.counted in
    let framed = self.framed in
    let entry = c.notice_entry-at.ensures in
    (c.requires.seat.table, omega arith, takes_notice _ _ _ _ _ _ (omega arith) c.requires.seat.about c.requires.seat.role)
