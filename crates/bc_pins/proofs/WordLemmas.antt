-- Words that are read.
use Rattle.std.proofs.Common.{◌≡◌, ℕ, List, [], ◌∷◌, get_or, sym}
use Prim.Native.Nat.{zero, suc}
use mathlib.Core.Option.{some, some-injective, some-ne-none}
use lib.ListN.{get_elem?}

pub at_or : {A : Type 0} (xs : List A) (i : ℕ) (y d : A) → get_elem? xs i ≡ some y → get_or xs i d ≡ y
at_or [] i y d e = absurd (some-ne-none y (sym e))
at_or (x ∷ xs) zero y d e = some-injective x y e
at_or (x ∷ xs) (suc i) y d e = at_or xs i y d e
