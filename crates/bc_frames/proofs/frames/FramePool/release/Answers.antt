use Rattle.std.proofs.Common.{◌≡◌, ◌/◌, ◌<◌, false, true, length, set, arith}
use Rattle.std.proofs.lemmas.List.{get_or_read, length-set}
use Rattle.bc_bits.specs.BitChanges.{without_bit}
use Rattle.bc_frames.specs.Pool.{is_free}
use Rattle.bc_frames.specs.FrameBits.{flags_in}
use Rattle.bc_frames.proofs.PoolLemmas.{free_count-le}
use Rattle.bc_frames.proofs.FlagLemmas.{frame-word, flags-released, count-released, bits-released, length-flags_in}
use Rattle.bc_frames.proofs.frames.FramePool.release.Goals as goal

pub index_mut-requires : goal.index_mut-requires
index_mut-requires c =
    let size = length-flags_in c.self.inside.words.items c.self.inside.frames in
    let inside : c.args.number < length (flags_in c.self.inside.words.items c.self.inside.frames) = rw c.self.view_is c.requires.below in
    let below : c.args.number < c.self.inside.frames = omega arith in
    let word = frame-word _ _ _ _ c.args.number c.self.invariant below in
    omega arith

pub overflow_add-self : goal.overflow_add-self
overflow_add-self c =
    let size = length-flags_in c.self.inside.words.items c.self.inside.frames in
    let inside : c.args.number < length (flags_in c.self.inside.words.items c.self.inside.frames) = rw c.self.view_is c.requires.below in
    let below : c.args.number < c.self.inside.frames = omega arith in
    let taken : is_free (flags_in c.self.inside.words.items c.self.inside.frames) c.args.number ≡ false = rw c.self.view_is c.requires.taken in
    let count = count-released c.self.inside.words.items c.self.inside.frames c.self.inside.free c.self.inside.first c.args.number c.self.invariant below taken in
    let most = free_count-le (set (flags_in c.self.inside.words.items c.self.inside.frames) c.args.number true) in
    let long = length-set (flags_in c.self.inside.words.items c.self.inside.frames) c.args.number true in
    let few = c.self.invariant.few in
    omega arith

pub invariant_of-self : goal.invariant_of-self
unfolding without_bit
invariant_of-self c =
    let size = length-flags_in c.self.inside.words.items c.self.inside.frames in
    let inside : c.args.number < length (flags_in c.self.inside.words.items c.self.inside.frames) = rw c.self.view_is c.requires.below in
    let below : c.args.number < c.self.inside.frames = omega arith in
    let taken : is_free (flags_in c.self.inside.words.items c.self.inside.frames) c.args.number ≡ false = rw c.self.view_is c.requires.taken in
    let read = get_or_read c.self.inside.words.items (c.args.number / 64) c.index_mut.result.now (frame-word _ _ _ _ c.args.number c.self.invariant below) c.index_mut.ensures.value 0 in
    let low = c.min-self-inside.ensures in
    rw read (bits-released c.self.inside.words.items c.self.inside.frames c.self.inside.free c.self.inside.first c.args.number c.min-self-inside.result c.self.invariant below taken (omega arith) (omega arith))

pub returns : goal.returns
unfolding without_bit
returns c =
    let size = length-flags_in c.self.inside.words.items c.self.inside.frames in
    let inside : c.args.number < length (flags_in c.self.inside.words.items c.self.inside.frames) = rw c.self.view_is c.requires.below in
    let below : c.args.number < c.self.inside.frames = omega arith in
    let read = get_or_read c.self.inside.words.items (c.args.number / 64) c.index_mut.result.now (frame-word _ _ _ _ c.args.number c.self.invariant below) c.index_mut.ensures.value 0 in
    record { given = rw (read, ← c.self.view_is) (flags-released c.self.inside.words.items c.self.inside.frames c.args.number below) }
