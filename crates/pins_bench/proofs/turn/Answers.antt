use Rattle.std.proofs.Common.{rules}
use Rattle.bc_pins.proofs.CallerLemmas.{dealt_back}
use Rattle.pins_bench.proofs.turn.Goals as goal

pub close-space-requires : goal.close-space-requires
close-space-requires g c =
    let opened = c.in-Ok.ensures.opened in
    record { back = dealt_back _ _ c.as_slice-2.result.now _ opened.seats_are (search rules) opened.roles_are }
