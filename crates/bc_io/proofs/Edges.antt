-- What a writer took, and what the sink over it answers.
use Rattle.std.proofs.Common.{◌≡◌, ℕ, zero, suc, ◌<◌, ◌⊎◌, Bool, true, false, List, [], Option, None, Some, Result, Ok, Err, refl, sym, ◌∙◌, subst, inl, inr, append-nil, arith}
use Rattle.std.specs.Prelude.{IfOk, OnErr, IsErr, IsTrue, IsFalse}
use Rattle.std.specs.Io.KnownBytes.{Appends, Keeps, WriteAppends}

-- where nothing was appended all stays
Keeps-nothing : (a b : Option (List ℕ)) → Appends a b [] → Keeps a b
Keeps-nothing None b p = tt
Keeps-nothing (Some xs) None p = absurd p
Keeps-nothing (Some xs) (Some ys) p = p ∙ append-nil xs

-- A write that took none of some bytes is answered as a failed one: it took nothing either way.
pub WriteAppends-answered : {E F : Type 0} (a b : Option (List ℕ)) (taken : Result ℕ E) (answer : Result ℕ F) (empty : Bool) (bytes : List ℕ)
    → WriteAppends a b taken bytes → IfOk taken (λ count. 0 < count ⊎ IsTrue empty → answer ≡ Ok count) → (taken ≡ Ok 0 → IsFalse empty → IsErr answer)
    → OnErr taken (IsErr answer) → WriteAppends a b answer bytes
WriteAppends-answered a b (Err e) (Err f) empty bytes w ok none err = w
WriteAppends-answered a b (Err e) (Ok m) empty bytes w ok none err = absurd cc
WriteAppends-answered a b (Ok (suc n)) answer empty bytes w ok none err = subst (λ r. WriteAppends a b r bytes) (sym (ok (inl (omega arith)))) w
WriteAppends-answered a b (Ok zero) answer true bytes w ok none err = subst (λ r. WriteAppends a b r bytes) (sym (ok (inr refl))) w
WriteAppends-answered a b (Ok zero) (Ok m) false bytes w ok none err = let e = none refl refl in absurd cc
WriteAppends-answered a b (Ok zero) (Err f) false bytes w ok none err = Keeps-nothing a b w
