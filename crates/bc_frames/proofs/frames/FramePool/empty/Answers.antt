use Rattle.std.proofs.Common.{◌≡◌, [], refl, arith}
use Rattle.bc_frames.specs.FrameBits.{flags_in}
use Rattle.bc_frames.proofs.WordLemmas.{blank-none, blank-bits}
use Rattle.bc_frames.proofs.frames.FramePool.empty.Goals as goal

pub invariant_of-result : goal.invariant_of-result
invariant_of-result c =
    let none : c.new.result.items ≡ [] = c.new.ensures.items in
    rw none (blank-bits [] 0 (blank-none 0 0 (omega arith) (omega arith)) (omega arith))

pub returns : goal.returns
unfolding flags_in
returns c = record { none = refl }
