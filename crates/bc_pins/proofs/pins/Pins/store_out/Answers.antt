use Rattle.std.proofs.Common.{◌≡◌, ◌∙◌}
use Rattle.bc_pins.specs.declared.views.Lodged.TheVariants.{Away}
use Rattle.bc_pins.specs.Key.{store_slot}
use Rattle.bc_pins.proofs.GivingLemmas.{lying_at}
use Rattle.bc_pins.proofs.pins.Pins.store_out.Goals as goal

pub exchange-found-requires : goal.exchange-found-requires
exchange-found-requires c =
    let self = c.args.self.now in
    let at : c.store_entry-slot.result ≡ store_slot self.table.shared.key c.args.page = c.store_entry-slot.ensures in
    let lies = c.requires.slots in
    (c.turn.ensures.0 ∙ c.requires.seat.table, (Away lies.0, lying_at self.table.shared.key c.args.page _ (Away lies.0) _ _ at lies.1 c.turn.ensures.2))
