use Rattle.std.proofs.Common.{sym, subst}
use Rattle.bc_pins.specs.Contents.{IsContent}
use Rattle.bc_pins.proofs.HeldLemmas.{set_fixed}
use Rattle.bc_pins.proofs.holding.Held.set.Goals as goal

pub returns-clause-fixed : goal.returns-clause-fixed
returns-clause-fixed c = λ s cell index whole old at is packed names.
    subst (IsContent s c.args.self.now.page) (sym c.set.ensures.written)
    (set_fixed s c.args.self.now.page c.args.self.now.homed.page cell index c.args.offset c.args.bits whole old at is packed names)
