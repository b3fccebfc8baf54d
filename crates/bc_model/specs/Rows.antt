-- The lists that a list of vectors holds.
use Rattle.std.specs.Prelude.{List, Vec, map}
use Rattle.std.specs.declared.alloc.Global.{Global}

-- lists of lists
abbrev pub lists_of : {X : Type 0} → List (Vec X Global) → List (List X)
lists_of vs = map (λ v. v.items) vs
