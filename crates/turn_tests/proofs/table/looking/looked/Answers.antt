-- No bit is set, so none needs a reason.
use Rattle.std.proofs.Common.{arith}
use Rattle.std.proofs.lemmas.Nat.Bits.{bit_at-zero}
use Rattle.turn_tests.proofs.table.looking.looked.Goals as goal

pub shade-requires-clause-may : goal.shade-requires-clause-may
shade-requires-clause-may c = λ b few on. absurd (let none = bit_at-zero b in omega arith)

pub done_bit-requires-clause-may : goal.done_bit-requires-clause-may
done_bit-requires-clause-may c = λ b few on. absurd (let none = bit_at-zero b in omega arith)
