-- The way of a find, from its end on.
use Rattle.std.proofs.Common.{◌≡◌, ◌⊎◌, ℕ, ◌+◌, ◌<◌, ◌≤◌, List, [], ◌∷◌, ◌++◌, length, reverse, map, Some, refl, sym, ◌∙◌, ap, subst, inl, inr, arith}
use Rattle.std.proofs.lemmas.Grind.{reverse_onto}
use Rattle.bc_model.specs.declared.values.Birth.{Birth}
use Rattle.bc_image.specs.Cells.{CellList}
use Rattle.bc_heapview.specs.Targets.{leads}
use Rattle.bc_heapview.specs.Ways.{Way, from_slot, by_field}
use Rattle.bc_heapview.specs.Searches.{find_at, HasOrigin, IsSearched}
use Rattle.bc_heapview.specs.Backs.{birth_at, go_on, WayLeadsTo, AreSteps, IsWayBack}
use Rattle.bc_heapview.specs.declared.steps.Step.{Step}
use Rattle.bc_heapview.specs.declared.search.Found.{Found}
use Rattle.bc_heapview.specs.declared.search.Origin.{Origin}
use Rattle.bc_heapview.specs.declared.search.Origin.TheVariants.{Slot, Field}

-- a way and then steps, the last of them first
abbrev pub extend : Way → List Step → Way
extend w [] = w
extend w (x ∷ xs) = by_field (extend w xs) x.field

abbrev pub AreStepsBack : List ℕ → List CellList → Way → List Step → Type 0
AreStepsBack roots cells w [] = Unit {0}
AreStepsBack roots cells w (x ∷ xs) = WayLeadsTo roots cells (extend w (x ∷ xs)) x.birth × AreStepsBack roots cells w xs

-- from a find on, these steps lead to the entry, the last of them first
pub record IsBack (roots : List ℕ) (cells : List CellList) (ways : ℕ → Way) (at entry : ℕ) (steps : List Step) : Type 0 where
  pub way : extend (ways at) steps ≡ ways entry
  pub births : AreStepsBack roots cells (ways at) steps

extend-push : (w : Way) (xs : List Step) (y : Step) → extend w (xs ++ y ∷ []) ≡ extend (by_field w y.field) xs
extend-push w [] y = refl
extend-push w (x ∷ xs) y = ap (λ (v : Way). by_field v x.field) (extend-push w xs y)

back-push : (roots : List ℕ) (cells : List CellList) (w : Way) (xs : List Step) (y : Step) → AreStepsBack roots cells (by_field w y.field) xs → WayLeadsTo roots cells (by_field w y.field) y.birth → AreStepsBack roots cells w (xs ++ y ∷ [])
back-push roots cells w [] y h to = (to, tt)
back-push roots cells w (x ∷ xs) y h to =
    (subst (λ (v : Way). WayLeadsTo roots cells (by_field v x.field) x.birth) (sym (extend-push w xs y)) h.0, back-push roots cells w xs y h.1 to)

pub back-begin : (roots : List ℕ) (cells : List CellList) (ways : ℕ → Way) (entry : ℕ) → IsBack roots cells ways entry entry []
back-begin roots cells ways entry = record { way = refl; births = tt }

pub back-more : (roots : List ℕ) (cells : List CellList) (ways : ℕ → Way) (at entry before : ℕ) (y : Step) (steps : List Step) → ways at ≡ by_field (ways before) y.field → WayLeadsTo roots cells (ways at) y.birth → IsBack roots cells ways at entry steps → IsBack roots cells ways before entry (steps ++ y ∷ [])
back-more roots cells ways at entry before y steps from to back = record {
  way = extend-push (ways before) steps y ∙ ap (λ (w : Way). extend w steps) (sym from) ∙ back.way;
  births = back-push roots cells (ways before) steps y (subst (λ (w : Way). AreStepsBack roots cells w steps) from back.births) (subst (λ (w : Way). WayLeadsTo roots cells w y.birth) from to);
}

go_on-push : (w : Way) (ys : List Step) (x : Step) → go_on w (ys ++ x ∷ []) ≡ by_field (go_on w ys) x.field
go_on-push w [] x = refl
go_on-push w (y ∷ ys) x = go_on-push (by_field w y.field) ys x

steps-push : (roots : List ℕ) (cells : List CellList) (w : Way) (ys : List Step) (x : Step) → AreSteps roots cells w ys → WayLeadsTo roots cells (by_field (go_on w ys) x.field) x.birth → AreSteps roots cells w (ys ++ x ∷ [])
steps-push roots cells w [] x h to = (to, tt)
steps-push roots cells w (y ∷ ys) x h to = (h.0, steps-push roots cells (by_field w y.field) ys x h.1 to)

go_on-reverse : (w : Way) (xs : List Step) → go_on w (reverse xs) ≡ extend w xs
go_on-reverse w [] = refl
go_on-reverse w (x ∷ xs) = ap (go_on w) (reverse_onto xs x []) ∙ go_on-push w (reverse xs) x ∙ ap (λ (v : Way). by_field v x.field) (go_on-reverse w xs)

steps-reverse : (roots : List ℕ) (cells : List CellList) (w : Way) (xs : List Step) → AreStepsBack roots cells w xs → AreSteps roots cells w (reverse xs)
steps-reverse roots cells w [] h = tt
steps-reverse roots cells w (x ∷ xs) h =
    subst (AreSteps roots cells w) (sym (reverse_onto xs x [])) (steps-push roots cells w (reverse xs) x (steps-reverse roots cells w xs h.1) (subst (λ (v : Way). WayLeadsTo roots cells (by_field v x.field) x.birth) (sym (go_on-reverse w xs)) h.0))

pub back-end : (roots : List ℕ) (cells : List CellList) (ways : ℕ → Way) (at entry place : ℕ) (first : Birth) (steps : List Step) → ways at ≡ from_slot place → WayLeadsTo roots cells (ways at) first → IsBack roots cells ways at entry steps → IsWayBack roots cells ways entry place first (reverse steps)
back-end roots cells ways at entry place first steps from to back = record {
  way = go_on-reverse (from_slot place) steps ∙ ap (λ (w : Way). extend w steps) (sym from) ∙ back.way;
  begins = subst (λ (w : Way). WayLeadsTo roots cells w first) from to;
  births = steps-reverse roots cells (from_slot place) steps (subst (λ (w : Way). AreStepsBack roots cells w steps) from back.births);
}
