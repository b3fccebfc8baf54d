use Rattle.std.proofs.Common.{◌≡◌, drop, max}
use Rattle.bc_model.specs.TurnLines.{hints_in}
use Rattle.bc_engine.specs.Rounds.{longest_of}
use Rattle.bc_engine.proofs.notices.longest_line.Given as goal

abbrev pub invariant-loop-line : goal.invariant-loop-line
invariant-loop-line l = max l.most (longest_of (drop l.line-index (hints_in l.lines))) ≡ longest_of (hints_in l.lines)
