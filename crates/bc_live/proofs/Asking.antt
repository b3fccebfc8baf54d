-- What the words give, and what was found.
use Rattle.std.proofs.Common.{◌≡◌, Option, None, Some, subst}
use Rattle.std.specs.Prelude.{IfSome}
use Rattle.bc_live.specs.declared.words.LiveWords.{LiveWords}

-- what is said of what was found
pub given : (P : LiveWords → Type 0) (found : Option LiveWords) (w : LiveWords) → IfSome found P → found ≡ Some w → P w
given P None w h e = cc
given P (Some v) w h e = let same : v ≡ w = cc in subst P same h
