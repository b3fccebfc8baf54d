-- The two seats of a table that was opened.
use Rattle.std.proofs.Common.{rules, ◌≡◌, [], ◌∷◌, length, ap, arith}
use Rattle.turn_tests.proofs.SeatedLemmas.{opened-seated}
use Rattle.turn_tests.proofs.table.Table.seat.Goals as goal

pub invariant_of-result : goal.invariant_of-result
invariant_of-result c =
    let roles : c.as_slice.result.now ≡ c.args.one ∷ c.args.other ∷ [] = search rules in
    let seated = opened-seated c.args.space c.args.turn c.holders_in.result.now c.as_slice.result.now c.args.one c.args.other c.in-Ok.pins _ _ _ c.in-Some-pop.first c.in-Some.second c.holders_in.ensures roles c.in-Ok.ensures.opened
    c.in-Some.ensures.items c.in-Some-pop.ensures.items in
    let long = c.in-Ok.ensures.opened.seats_are.long in
    let two = ap length roles in
    let has = c.in-Ok.seats.ok.0 in
    let fits = c.in-Ok.seats.ok.1 in
    let stays = c.pop.ensures.capacity in
    let still = c.pop-in-Ok.ensures.capacity in
    (seated.0, seated.1, omega arith)
