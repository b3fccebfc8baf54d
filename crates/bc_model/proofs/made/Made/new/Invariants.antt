use Rattle.std.proofs.Common.{◌≡◌, [], map, replicate}
use Rattle.bc_model.proofs.made.Made.new.Given as goal

abbrev pub invariant-loop : goal.invariant-loop
invariant-loop l = map (λ v. v.items) l.made.items ≡ replicate l.counter []
