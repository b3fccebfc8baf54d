use Rattle.std.proofs.Common.{◌+◌, ◌≤◌, ◌≡◌, [], length, arith}
use Rattle.bc_picture.proofs.StreamLemmas.{on-ok-map, puts-none}
use Rattle.bc_picture.proofs.putting.make_room.Goals as goal

pub returns-then-is_full-clause-place : goal.returns-then-is_full-clause-place
returns-then-is_full-clause-place g c = on-ok-map (c.flush.new.waiting ≡ []) (length c.flush.new.waiting + 8 ≤ 4096) c.flush.result (λ e. rw e (omega arith)) c.flush.ensures.empty

pub returns-clause-puts : goal.returns-clause-puts
returns-clause-puts g c = puts-none _
