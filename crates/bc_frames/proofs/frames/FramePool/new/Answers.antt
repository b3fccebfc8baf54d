use Rattle.std.proofs.Common.{◌≡◌, ℕ, ◌+◌, ◌/◌, replicate, rules, arith}
use Rattle.bc_frames.proofs.WordLemmas.{AreBlank, blank-some, blank-none, blank-flags, blank-bits}
use Rattle.bc_frames.proofs.frames.FramePool.new.Goals.{Joined-count-gt0, then-count-gt0, else-count-gt0}
use Rattle.bc_frames.proofs.frames.FramePool.new.Goals as goal

blank : (c : Joined-count-gt0) → AreBlank c.if-count-gt0.words.items c.args.frames
blank c =
    let zeros : c.in_ok-words.words.items ≡ replicate {A = ℕ} ((c.args.frames + 63) / 64) 0 = search rules in
    elim c.if-count-gt0.branch [
      | then-count-gt0 w ↦ rw w.words-is (rw zeros (blank-some c.args.frames ((c.args.frames + 63) / 64) w.bits_behind.result (omega arith) (omega arith) (omega arith) w.bits_behind.ensures.bits))
      | else-count-gt0 w ↦ rw w.words-is (rw zeros (blank-none c.args.frames ((c.args.frames + 63) / 64) (omega arith) (omega arith)))
    ]

pub invariant_of-result : goal.invariant_of-result
invariant_of-result c = blank-bits c.if-count-gt0.words.items c.args.frames (blank c) (omega arith)

pub returns : goal.returns
returns c = record { all_free = blank-flags c.if-count-gt0.words.items c.args.frames (blank c) }
