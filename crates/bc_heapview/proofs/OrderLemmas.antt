-- The order of ways, determined by lists of fields.
use Rattle.std.proofs.Common.{◌≡◌, ◌⊎◌, ℕ, ◌+◌, ◌<◌, ◌≤◌, List, [], ◌∷◌, length, map, refl, sym, ◌∙◌, ap, subst, inl, inr, arith}
use Rattle.std.proofs.lemmas.Bool.{cases_lt}
use Rattle.bc_heapview.specs.Answers.{ComesFirst, fields_of}
use Rattle.bc_heapview.specs.Backs.{go_on}
use Rattle.bc_heapview.specs.Ways.{Way, from_slot, by_field, Before, AtMost}
use Rattle.bc_heapview.specs.declared.steps.Step.{Step}
use Rattle.bc_heapview.proofs.WayLemmas.{before-not, at_most-before}

-- a way and then fields
abbrev pub along : Way → List ℕ → Way
along w [] = w
along w (i ∷ is) = along (by_field w i) is

pub along-steps : (w : Way) (steps : List Step) → go_on w steps ≡ along w (fields_of steps)
along-steps w [] = refl
along-steps w (s ∷ steps) = along-steps (by_field w s.field) steps

abbrev depth : Way → ℕ
depth (from_slot r) = 0
depth (by_field w i) = depth w + 1

shorter-before : (w v : Way) → depth w < depth v → Before w v
shorter-before (from_slot r) (from_slot s) h = absurd (omega arith)
shorter-before (from_slot r) (by_field v j) h = tt
shorter-before (by_field w i) (from_slot s) h = absurd (omega arith)
shorter-before (by_field w i) (by_field v j) h = inl (shorter-before w v (omega arith))

depth-along : (w : Way) (fs : List ℕ) → depth (along w fs) ≡ depth w + length fs
depth-along w [] = omega arith
depth-along w (i ∷ fs) = depth-along (by_field w i) fs ∙ omega arith

by-head : (w v : Way) (i j : ℕ) (fs gs : List ℕ) → w ≡ v → (i < j) ⊎ ((i ≡ j) × ComesFirst fs gs) → Before (by_field w i) (by_field v j) ⊎ ((by_field w i ≡ by_field v j) × ComesFirst fs gs)
by-head w v i j fs gs e (inl lt) = inl (inr (e, lt))
by-head w v i j fs gs e (inr h) = inr (ap (λ (x : Way). by_field x i) e ∙ ap (by_field v) h.0, h.1)

first-before : (w v : Way) (fs gs : List ℕ) → length fs ≡ length gs → Before w v ⊎ ((w ≡ v) × ComesFirst fs gs) → Before (along w fs) (along v gs)
first-before w v [] [] same (inl h) = h
first-before w v [] [] same (inr h) = absurd h.1
first-before w v [] (j ∷ gs) same h = absurd (omega arith)
first-before w v (i ∷ fs) [] same h = absurd (omega arith)
first-before w v (i ∷ fs) (j ∷ gs) same (inl h) = first-before (by_field w i) (by_field v j) fs gs (omega arith) (inl (inl h))
first-before w v (i ∷ fs) (j ∷ gs) same (inr h) = first-before (by_field w i) (by_field v j) fs gs (omega arith) (by-head w v i j fs gs h.0 h.1)

-- what no way comes before is no longer than any, and none of its length comes first
module _ (p q : ℕ) (fs gs : List ℕ) (least : AtMost (along (from_slot q) gs) (along (from_slot p) fs)) where
  pub least-shortest : length gs ≤ length fs
  least-shortest = elim (cases_lt (length fs) (length gs)) [
    | inl lt ↦ absurd (before-not (along (from_slot q) gs) (at_most-before (along (from_slot q) gs) (along (from_slot p) fs) (along (from_slot q) gs) least (shorter-before (along (from_slot p) fs) (along (from_slot q) gs) (omega (arith, depth-along (from_slot p) fs, depth-along (from_slot q) gs)))))
    | inr ge ↦ ge
  ]

  pub least-earliest : length fs ≡ length gs → ComesFirst (p ∷ fs) (q ∷ gs) → ⊥
  least-earliest same first =
      let before : Before (along (from_slot p) fs) (along (from_slot q) gs) = first-before (from_slot p) (from_slot q) fs gs same (by-slot first) in
      before-not (along (from_slot q) gs) (at_most-before (along (from_slot q) gs) (along (from_slot p) fs) (along (from_slot q) gs) least before)
    where
      by-slot : (p < q) ⊎ ((p ≡ q) × ComesFirst fs gs) → Before (from_slot p) (from_slot q) ⊎ ((from_slot p ≡ from_slot q) × ComesFirst fs gs)
      by-slot (inl lt) = inl lt
      by-slot (inr h) = inr (ap from_slot h.0, h.1)
