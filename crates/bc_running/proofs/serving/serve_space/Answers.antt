use Rattle.bc_running.proofs.MovingLemmas.{moves-settled, moves-then}
use Rattle.bc_running.proofs.serving.serve_space.Goals as goal

pub returns-clause-moves : goal.returns-clause-moves
returns-clause-moves c =
    let u = c.give_up_all.new.space in
    let t = c.settle.new.space in
    moves-then c.args.space.now u t c.give_up_all.ensures.moves
    (moves-settled u t c.settle.ensures.settled (c.settle.ensures.summarised c.give_up_all.ensures.moves.summarised))
