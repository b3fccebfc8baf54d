-- The word that is put: its bits say which of its frames are free, and how many are.
use Rattle.std.proofs.Common.{◌≡◌, ◌+◌, ◌-◌, length, set, bit_or, ap, ◌∙◌, sym, arith}
use Rattle.std.specs.Int.Count.{ones}
use Rattle.std.proofs.lemmas.List.{get_or_read}
use Rattle.std.proofs.lemmas.Nat.{or_lt, ones-le}
use Rattle.bc_frames.specs.FrameBits.{flags_in}
use Rattle.bc_frames.proofs.PoolLemmas.{free_count-le}
use Rattle.bc_frames.proofs.FlagLemmas.{length-flags_in}
use Rattle.bc_frames.proofs.WordLemmas.{put-here, put-others, put-count, bits-put}
use Rattle.bc_frames.proofs.frames.FramePool.put_word.Goals as goal

pub overflow_cast-free-then-word-len-2 : goal.overflow_cast-free-then-word-len-2
overflow_cast-free-then-word-len-2 c =
    let le = ones-le 64 (bit_or c.args.bits c.bits_behind.result) (or_lt 64 c.args.bits c.bits_behind.result (omega arith) (omega arith)) in
    omega arith

pub overflow_sub-free : goal.overflow_sub-free
overflow_sub-free c =
    let read = get_or_read c.self.inside.words.items c.args.word c.index-was.result.now (omega arith) c.index-was.ensures 0 in
    let was = ap ones read in
    let count = put-count c.self.inside.words.items c.self.inside.frames c.self.inside.free c.self.inside.first c.args.word c.args.bits c.bits_behind.result c.self.invariant (omega arith) (omega arith) (omega arith) c.bits_behind.ensures.bits in
    omega arith

pub overflow_cast-self : goal.overflow_cast-self
overflow_cast-self c =
    let read = get_or_read c.self.inside.words.items c.args.word c.index-was.result.now (omega arith) c.index-was.ensures 0 in
    let was = ap ones read in
    let now = bit_or c.args.bits c.bits_behind.result in
    let count = put-count c.self.inside.words.items c.self.inside.frames c.self.inside.free c.self.inside.first c.args.word c.args.bits c.bits_behind.result c.self.invariant (omega arith) (omega arith) (omega arith) c.bits_behind.ensures.bits in
    let most = free_count-le (flags_in (set c.self.inside.words.items c.args.word now) c.self.inside.frames) in
    let size = length-flags_in (set c.self.inside.words.items c.args.word now) c.self.inside.frames in
    let few = c.self.invariant.few in
    omega arith

pub invariant_of-self : goal.invariant_of-self
invariant_of-self c =
    let read = get_or_read c.self.inside.words.items c.args.word c.index-was.result.now (omega arith) c.index-was.ensures 0 in
    let was = ap ones read in
    let low = c.min-self-inside.ensures in
    let count = put-count c.self.inside.words.items c.self.inside.frames c.self.inside.free c.self.inside.first c.args.word c.args.bits c.bits_behind.result c.self.invariant (omega arith) (omega arith) (omega arith) c.bits_behind.ensures.bits in
    bits-put c.self.inside.words.items c.self.inside.frames c.self.inside.free c.self.inside.first c.args.word c.args.bits c.bits_behind.result c.self.invariant (omega arith) (omega arith) (omega arith) c.bits_behind.ensures.bits c.min-self-inside.result
    (c.self.inside.free + ones c.index-was.result.now - ones (bit_or c.args.bits c.bits_behind.result)) (omega arith) (omega arith) (omega arith)

pub returns-then-word-len-clause-long : goal.returns-then-word-len-clause-long
returns-then-word-len-clause-long c = length-flags_in _ c.self.inside.frames ∙ sym (length-flags_in c.self.inside.words.items c.self.inside.frames) ∙ ap length c.self.view_is

pub returns-then-word-len-clause-here : goal.returns-then-word-len-clause-here
returns-then-word-len-clause-here c = λ f here lt.
    let size = length-flags_in c.self.inside.words.items c.self.inside.frames in
    let long : length (flags_in c.self.inside.words.items c.self.inside.frames) ≡ length c.args.self.now = ap length c.self.view_is in
    put-here c.self.inside.words.items c.self.inside.frames c.self.inside.free c.self.inside.first c.args.word c.args.bits c.bits_behind.result c.self.invariant (omega arith) (omega arith) (omega arith) c.bits_behind.ensures.bits f here (omega arith)

pub returns-then-word-len-clause-others : goal.returns-then-word-len-clause-others
returns-then-word-len-clause-others c = λ f other.
    rw (← c.self.view_is) (put-others c.self.inside.words.items c.self.inside.frames c.self.inside.free c.self.inside.first c.args.word c.args.bits c.bits_behind.result c.self.invariant (omega arith) (omega arith) (omega arith) c.bits_behind.ensures.bits f other)

pub returns-else-word-len-clause-here : goal.returns-else-word-len-clause-here
returns-else-word-len-clause-here c = λ f here lt.
    let size = length-flags_in c.self.inside.words.items c.self.inside.frames in
    let long : length (flags_in c.self.inside.words.items c.self.inside.frames) ≡ length c.args.self.now = ap length c.self.view_is in
    let words = c.self.invariant.long in
    absurd (omega arith)
