use Rattle.std.proofs.Common.{◌≡◌, ◌+◌, ◌*◌, ℕ, length, min, sym, subst, arith}
use Rattle.core.specs.Mem.Slots.{slots_items}
use Rattle.bc_pins.specs.Closing.{PoolSet}
use Rattle.bc_pins.proofs.WordLemmas.{at_or}
use Rattle.bc_pins.proofs.PoolLemmas.{pool_none, pool_more}
use Rattle.bc_pins.proofs.gathering.put_frames.Goals as goal

pub loop-word-init : goal.loop-word-init
loop-word-init c = subst (λ (n : ℕ). PoolSet c.args.pool.now c.args.pool.now n c.args.start (slots_items c.args.closed.now.words)) (omega arith) (pool_none c.args.pool.now c.args.start (slots_items c.args.closed.now.words))

pub loop-word-preserved : goal.loop-word-preserved
loop-word-preserved c =
    pool_more _ _ _ _ _ _ _ c.loop-word.invariant c.put_frame_word.ensures.long c.put_frame_word.ensures.here c.put_frame_word.ensures.others
    (sym (at_or (slots_items c.args.closed.now.words) (c.args.start + c.loop-word.word) c.word.result 0 c.word.ensures))

pub returns : goal.returns
returns c =
    let done = c.loop-word-test.false in
    let frames = c.frames.ensures.count in
    let all : min (64 * c.loop-word.word) (length c.args.pool.now) ≡ length c.args.pool.now = omega arith in
    record { set = subst (λ (n : ℕ). PoolSet c.args.pool.now c.loop-word.pool n c.args.start (slots_items c.args.closed.now.words)) all c.loop-word.invariant }
