-- The question that was found, and the one that the words are.
use Rattle.std.proofs.Common.{◌≡◌, Option, None, Some, subst}
use Rattle.std.specs.Prelude.{IfNone, IfSome}
use Rattle.bc_heapview.specs.declared.question.Question.{Question}

-- what is said of the question that was found
pub asked : (P : Question → Type 0) (found : Option Question) (q : Question) → IfSome found P → found ≡ Some q → P q
asked P None q h e = cc
asked P (Some d) q h e = let same : d ≡ q = cc in subst P same h

pub none-asked : (P : Type 0) (found : Option Question) → IfNone found P → found ≡ None → P
none-asked P None h e = h
none-asked P (Some d) h e = cc

-- there is one
pub same-asked : (P : Question → Type 0) (found : Option Question) (q r : Question) → found ≡ Some q → found ≡ Some r → P q → P r
same-asked P found q r first second h = let same : q ≡ r = cc in subst P same h
