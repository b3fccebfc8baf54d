-- The list of the lanes that have operations left.
use Rattle.std.proofs.Common.{◌≡◌, ◌⊎◌, ℕ, ◌<◌, List, [], ◌∷◌, length, get_or, inl, inr, subst, arith}
use Rattle.std.proofs.lemmas.Bool.{cases_eq, cases_lt}
use Prim.Native.Nat.{suc}
use Rattle.bc_model.specs.declared.operations.Op.{Op}
use Rattle.bc_model.specs.declared.operations.Reply.{Reply}
use Rattle.bc_reach.specs.Distinct.{Has}
use Rattle.bc_turn.specs.Begun.{AreBusyLanes, HasLeft}
use Rattle.bc_reach.proofs.Pushed.{place_of}

pub find-index : (xs : List ℕ) (n : ℕ) → ((i : ℕ) × (i < length xs) × (get_or xs i 0 ≡ n)) ⊎ (Has xs n → ⊥)
find-index [] n = inr (λ has. has)
find-index (x ∷ xs) n = elim (cases_eq x n) [
  | inl e ↦ inl (0, omega arith, e)
  | inr ne ↦ elim (find-index xs n) [
    | inl r ↦ inl (suc r.0, (let lt = r.1 in omega arith), r.2)
    | inr none ↦ inr (λ has. elim has [
      | inl e ↦ ne e
      | inr more ↦ none more
    ])
  ]
]

module _ (lanes : List (List Op)) (before : List (List Reply)) (busy : List ℕ) (are : AreBusyLanes lanes before busy) where
  -- no lane stands there twice
  pub same-index : (i j : ℕ) → i < length busy → j < length busy → get_or busy i 0 ≡ get_or busy j 0 → i ≡ j
  same-index i j li lj e = elim (cases_lt i j) [
    | inl lt ↦ let up = are.rising i j lt lj in absurd (omega arith)
    | inr le ↦ elim (cases_lt j i) [
      | inl lt ↦ let up = are.rising j i lt li in absurd (omega arith)
      | inr ge ↦ omega arith
    ]
  ]

  -- one that stands there has operations left, and one that doesn't has none
  pub has-left : (l : ℕ) → Has busy l → HasLeft lanes before l
  has-left l has = let r = place_of busy l has in subst (HasLeft lanes before) r.2 (are.more r.0 r.1)
