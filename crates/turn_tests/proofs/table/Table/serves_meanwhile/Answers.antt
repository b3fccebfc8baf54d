-- The page that was taken is in hand.
use Rattle.std.proofs.Common.{rules, ◌<◌, sym, subst}
use Rattle.bc_pins.specs.Key.{Key, pages_of}
use Rattle.bc_pins.specs.Calls.{key_of}
use Rattle.bc_pins.proofs.VisitLemmas.{holds_taken}
use Rattle.turn_tests.proofs.table.Table.serves_meanwhile.Goals as goal

pub put-requires-clause-held : goal.put-requires-clause-held
put-requires-clause-held c =
    let lt : c.args.page < pages_of (key_of c.self.inside.pins) = search rules in
    holds_taken _ _ _ _ c.in-Ok.ensures.ok (subst (λ (k : Key). c.args.page < pages_of k) (sym c.self.invariant.0.first.at.about) lt)
