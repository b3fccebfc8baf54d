use Rattle.std.proofs.Common.{◌≡◌, ◌/◌, true, arith}
use Rattle.std.proofs.lemmas.List.{get_or_read}
use Rattle.bc_bits.specs.BitChanges.{with_bit}
use Rattle.bc_frames.specs.Pool.{is_free}
use Rattle.bc_frames.specs.FrameBits.{flags_in}
use Rattle.bc_frames.proofs.FlagLemmas.{free-frame, frame-word, flags-occupied, bits-occupied}
use Rattle.bc_frames.proofs.frames.FramePool.occupy.Goals as goal

pub index_mut-requires : goal.index_mut-requires
index_mut-requires c =
    let on : is_free (flags_in c.self.inside.words.items c.self.inside.frames) c.args.number ≡ true = rw c.self.view_is c.requires.free in
    let word = frame-word _ _ _ _ c.args.number c.self.invariant (free-frame _ _ _ on) in
    omega arith

pub invariant_of-self : goal.invariant_of-self
unfolding with_bit
invariant_of-self c =
    let on : is_free (flags_in c.self.inside.words.items c.self.inside.frames) c.args.number ≡ true = rw c.self.view_is c.requires.free in
    let word = frame-word _ _ _ _ c.args.number c.self.invariant (free-frame _ _ _ on) in
    let read = get_or_read c.self.inside.words.items (c.args.number / 64) c.index_mut.result.now word c.index_mut.ensures.value 0 in
    rw read (bits-occupied c.self.inside.words.items c.self.inside.frames c.self.inside.free c.self.inside.first c.args.number c.self.invariant on)

pub returns : goal.returns
unfolding with_bit
returns c =
    let on : is_free (flags_in c.self.inside.words.items c.self.inside.frames) c.args.number ≡ true = rw c.self.view_is c.requires.free in
    let word = frame-word _ _ _ _ c.args.number c.self.invariant (free-frame _ _ _ on) in
    let read = get_or_read c.self.inside.words.items (c.args.number / 64) c.index_mut.result.now word c.index_mut.ensures.value 0 in
    record { taken = rw (read, ← c.self.view_is) (flags-occupied c.self.inside.words.items c.self.inside.frames c.self.inside.free c.self.inside.first c.args.number c.self.invariant on) }
