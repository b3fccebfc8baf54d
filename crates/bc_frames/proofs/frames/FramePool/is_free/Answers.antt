use Rattle.std.proofs.Common.{◌≡◌, ℕ, ◌*◌, ◌/◌, ◌%◌, ◌^◌, ◌<◌, ◌==◌, Bool, List, ap, sym, ◌∙◌, arith, length, nat_lt, nat_eq, bit_and, false, true, tests, not}
use Rattle.std.proofs.lemmas.List.{get_or_read}
use Rattle.std.specs.Int.{bit_at}
use Rattle.bc_bits.proofs.BitLemmas.{word_test}
use Rattle.bc_bits.specs.Bits.{has}
use Rattle.bc_frames.specs.Pool.{is_free}
use Rattle.bc_frames.proofs.FlagLemmas.{is_free-in, is_free-out, frame-word}
use Rattle.bc_frames.proofs.frames.FramePool.is_free.Goals as goal

word-clear : (n k : ℕ) → k < 64 → nat_eq (bit_and n (1 * 2 ^ k % 2 ^ 64)) 0 ≡ not (bit_at n k == 1)
word-clear n k lt = turned (nat_eq (bit_and n (1 * 2 ^ k % 2 ^ 64)) 0) (bit_at n k == 1) (word_test n k lt)
  where
    turned : (a b : Bool) → not a ≡ b → a ≡ not b
    turned true b e = ap not e
    turned false b e = ap not e

pub returns-then-number-self : goal.returns-then-number-self
unfolding has
returns-then-number-self c =
    let word : c.args.number / 64 < length c.self.inside.words.items = frame-word _ _ _ _ c.args.number c.self.invariant c.if-number-self.true in
    let read = get_or_read c.self.inside.words.items (c.args.number / 64) c.index.result.now word c.index.ensures 0 in
    let clear = word-clear c.index.result.now (c.args.number % 64) (omega arith) in
    let told = ap (λ (n : ℕ). not (bit_at n (c.args.number % 64) == 1)) read in
    record { free = clear ∙ told ∙ sym (is_free-in c.self.inside.words.items c.self.inside.frames c.args.number c.if-number-self.true) ∙ ap (λ (fs : List Bool). is_free fs c.args.number) c.self.view_is }

pub returns-else-number-self : goal.returns-else-number-self
returns-else-number-self c =
    let none : nat_lt c.args.number c.self.inside.frames ≡ false = grind (arith, tests, c.if-number-self.false) in
    record { free = none ∙ sym (is_free-out c.self.inside.words.items c.self.inside.frames c.args.number c.if-number-self.false) ∙ ap (λ (fs : List Bool). is_free fs c.args.number) c.self.view_is }
