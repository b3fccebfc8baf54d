use Rattle.std.proofs.Common.{◌∷◌, take, refl, arith}
use Rattle.std.proofs.lemmas.List.{length-take}
use Rattle.bc_trace.proofs.LinesAhead.{turn_is_ahead}
use Rattle.bc_trace.proofs.operations.turn_ahead.Goals as goal

pub returns-clause-ahead : goal.returns-clause-ahead
returns-clause-ahead c =
    let hints = take c.in_ok-count.count c.hints_ahead.new.hints in
    let rest = c.in_ok-count.rest.now in
    turn_is_ahead c.args.progress.now c.args.text.now c.in_ok-rest.rest.now (10 ∷ rest) rest refl hints c.requires (omega (arith, length-take c.in_ok-count.count c.hints_ahead.new.hints, c.in_ok-count.ensures.few)) c.in_ok-count.ensures.hints c.in_ok-rest.ensures c.in_ok-count.ensures.text
