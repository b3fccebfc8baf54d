use Rattle.std.proofs.Common.{◌≡◌, ℕ, ◌*◌, ◌<◌, ◌≤◌, false, true, length}
use Rattle.bc_bits.specs.Bits.{has}
use Rattle.bc_frames.proofs.FlagLemmas.{bits-first, clear-free, set-none}
use Rattle.bc_frames.proofs.frames.FramePool.claim.Goals as goal

pub returns-in_err-number-clause-none : goal.returns-in_err-number-clause-none
returns-in_err-number-clause-none c =
    let all : (i : ℕ) → 64 * c.self.inside.first ≤ i → i < 64 * length c.self.inside.words.items → has c.self.inside.words.items i ≡ true = rw (← c.as_slice.ensures.value) c.in_err-number.ensures.none in
    rw (c.from_residual.ensures, ← c.self.view_is) (λ n. set-none c.self.inside.words.items c.self.inside.frames c.self.inside.free c.self.inside.first n c.self.invariant all)

pub invariant_of-self : goal.invariant_of-self
invariant_of-self c =
    let before : (i : ℕ) → 64 * c.self.inside.first ≤ i → i < c.in_ok-number.number → has c.self.inside.words.items i ≡ true = rw (← c.as_slice.ensures.value) c.in_ok-number.ensures.first in
    bits-first c.self.inside.words.items c.self.inside.frames c.self.inside.free c.self.inside.first c.in_ok-number.number c.self.invariant before

pub occupy-requires : goal.occupy-requires
occupy-requires c =
    let off : has c.self.inside.words.items c.in_ok-number.number ≡ false = rw (← c.as_slice.ensures.value) c.in_ok-number.ensures.clear in
    let below : c.in_ok-number.number < 64 * length c.self.inside.words.items = rw (← c.as_slice.ensures.value) c.in_ok-number.ensures.below in
    record { free = clear-free c.self.inside.words.items c.self.inside.frames c.self.inside.free c.self.inside.first c.in_ok-number.number c.self.invariant below off }

pub returns-clause-free : goal.returns-clause-free
returns-clause-free c =
    let off : has c.self.inside.words.items c.in_ok-number.number ≡ false = rw (← c.as_slice.ensures.value) c.in_ok-number.ensures.clear in
    let below : c.in_ok-number.number < 64 * length c.self.inside.words.items = rw (← c.as_slice.ensures.value) c.in_ok-number.ensures.below in
    rw (← c.self.view_is) (clear-free c.self.inside.words.items c.self.inside.frames c.self.inside.free c.self.inside.first c.in_ok-number.number c.self.invariant below off)
