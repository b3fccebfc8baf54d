-- Lists of steps, one after another.
use Rattle.std.proofs.Common.{◌≡◌, ℕ, Bool, true, false, if◌then◌else◌, ◌==◌, List, [], ◌∷◌, ◌++◌, map, refl, ap, ◌∙◌}
use Rattle.std.proofs.lemmas.List.{map-append}
use Rattle.std.proofs.lemmas.List.Elements.{filter-append}
use Rattle.std.specs.List.{filter}
use Rattle.bc_model.specs.Interleaving.{LaneOp, after_steps, replies_by, ops_by}
use Rattle.bc_model.specs.State.{State}
use Rattle.bc_model.specs.Step.{step}
use Rattle.bc_model.specs.declared.operations.Reply.{Reply}

pub after_steps-append : (s : State) (xs ys : List LaneOp) → after_steps s (xs ++ ys) ≡ after_steps (after_steps s xs) ys
unfolding after_steps
after_steps-append s [] ys = refl
after_steps-append s (x ∷ xs) ys = after_steps-append (step s x.lane x.op).0 xs ys

pub ops_by-append : (j : ℕ) (xs ys : List LaneOp) → ops_by j (xs ++ ys) ≡ ops_by j xs ++ ops_by j ys
ops_by-append j xs ys =
    ap (map (λ (x : LaneOp). x.op)) (filter-append (λ (x : LaneOp). x.lane == j) xs ys)
    ∙ map-append (λ (x : LaneOp). x.op) (filter (λ (x : LaneOp). x.lane == j) xs) (filter (λ (x : LaneOp). x.lane == j) ys)

pub replies_by-append : (s : State) (j : ℕ) (xs ys : List LaneOp) → replies_by s j (xs ++ ys) ≡ replies_by s j xs ++ replies_by (after_steps s xs) j ys
unfolding after_steps replies_by
replies_by-append s j [] ys = refl
replies_by-append s j (x ∷ xs) ys =
    go (x.lane == j) (step s x.lane x.op).1 (replies_by (step s x.lane x.op).0 j (xs ++ ys)) (replies_by (step s x.lane x.op).0 j xs) (replies_by (after_steps (step s x.lane x.op).0 xs) j ys)
    (replies_by-append (step s x.lane x.op).0 j xs ys)
  where
    go : (t : Bool) (r : Reply) (all front back : List Reply) → all ≡ front ++ back → (if t then r ∷ all else all) ≡ (if t then r ∷ front else front) ++ back
    go true r all front back e = ap (λ (rs : List Reply). r ∷ rs) e
    go false r all front back e = e

-- one step alone
pub after_steps-one : (s : State) (x : LaneOp) → after_steps s (x ∷ []) ≡ (step s x.lane x.op).0
unfolding after_steps
after_steps-one s x = refl

pub replies_by-one : (s : State) (j : ℕ) (x : LaneOp) → replies_by s j (x ∷ []) ≡ (if x.lane == j then (step s x.lane x.op).1 ∷ [] else [])
unfolding replies_by
replies_by-one s j x = refl

pub replies_by-none : (s : State) (j : ℕ) → replies_by s j [] ≡ []
unfolding replies_by
replies_by-none s j = refl

pub after_steps-none : (s : State) → after_steps s [] ≡ s
unfolding after_steps
after_steps-none s = refl
