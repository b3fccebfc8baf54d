use Rattle.std.proofs.Common.{refl, arith, length-take}
use Rattle.bc_io.proofs.Telling.{GivesAtMost-from_exactly, GivesExactly-more}
use Rattle.bc_io.proofs.reading.read_all.Goals as goal

pub returns-then-count-limit-clause-too_long_given : goal.returns-then-count-limit-clause-too_long_given
returns-then-count-limit-clause-too_long_given g c is =
    let given = c.in_ok-count.ensures.given in
    GivesExactly-more _ _ _ _ given.0 _ c.loop-bytes.invariant.given given.3
    (omega (arith, length-take c.loop-bytes.filled c.loop-bytes.bytes.items, given.1, c.in_ok-count.ensures.within))

pub returns-then-count-limit-clause-front : goal.returns-then-count-limit-clause-front
returns-then-count-limit-clause-front g c =
    GivesAtMost-from_exactly _ _ _ (returns-then-count-limit-clause-too_long_given g c refl)
