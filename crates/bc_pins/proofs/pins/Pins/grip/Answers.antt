use Rattle.std.proofs.Common.{ℕ, ◌∷◌, ◌∙◌, ap, sym, arith}
use Rattle.atomic_table.specs.Table.{rest}
use Rattle.bc_pins.specs.declared.views.Lodged.TheVariants.{Home}
use Rattle.bc_pins.specs.Steps.{Mine}
use Rattle.bc_pins.proofs.TakeLemmas.{takes_from}
use Rattle.bc_pins.proofs.CallLemmas.{headed}
use Rattle.bc_pins.proofs.pins.Pins.grip.Goals as goal

pub compare_exchange-found-requires : goal.compare_exchange-found-requires
compare_exchange-found-requires c =
    let size = c.args.self.now.words in
    let entry = c.page_entry.ensures in
    let lt = c.requires.page in (
      c.requires.seat.table,
      omega arith,
      takes_from _ _ _ _ _ _ _ _ entry lt c.requires.old.0 c.requires.old.1 c.requires.seat.about c.requires.free.hand c.requires.seat.role c.requires.free.slots,
    )

pub exchange-requires : goal.exchange-requires
exchange-requires c =
    let took = c.compare_exchange-found.ensures in
    let hit = took.2.hit c.args.page c.page_entry.ensures c.if-found-old.false in (
      took.0 ∙ c.requires.seat.table,
      (
        Home hit.0,
        headed _ _ _ (ap (λ (m : Mine). m.1) hit.1) ∙ ap (λ (i : ℕ). (i, Home hit.0) ∷ rest c.compare_exchange-found.new.seat.me.1) (sym c.home_entry-slot.ensures),
      ),
    )
