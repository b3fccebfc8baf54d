-- The places of a store, as contracts see them.
use Rattle.std.proofs.Common.{◌≡◌, ℕ, ◌+◌, List, [], ◌∷◌, ◌++◌, map, get_or, set, Option, Some, None, replicate, refl, ap, ◌∙◌}
use Prim.Native.Nat.{zero, suc}
use Rattle.std.proofs.lemmas.List.{map-set, replicate-append-replicate}
use Rattle.bc_frames.specs.declared.storage.Place.{Place}
use Rattle.bc_frames.specs.declared.storage.Place.TheVariants.{Empty, Unused}
use Rattle.bc_frames.specs.Lying.{lying_in}

pub unused-new : (n : ℕ) → map lying_in (replicate n Unused) ≡ replicate n (Some (replicate 512 0))
unused-new zero = refl
unused-new (suc n) = ap (λ (xs : List (Option (List ℕ))). Some (replicate 512 0) ∷ xs) (unused-new n)

-- one place changes
pub lying_set : (ps : List Place) (i : ℕ) (p : Place) → map lying_in (set ps i p) ≡ set (map lying_in ps) i (lying_in p)
lying_set ps i p = map-set lying_in ps i p

pub lying_at : (ps : List Place) (i : ℕ) → get_or (map lying_in ps) i None ≡ lying_in (get_or ps i Empty)
lying_at [] i = refl
lying_at (p ∷ ps) zero = refl
lying_at (p ∷ ps) (suc i) = lying_at ps i

-- a list of zeros with one more
pub zeros-more : (xs : List (List ℕ)) (n : ℕ) (z : List ℕ) → xs ≡ replicate n z → xs ++ z ∷ [] ≡ replicate (n + 1) z
zeros-more xs n z same = ap (λ (ys : List (List ℕ)). ys ++ z ∷ []) same ∙ replicate-append-replicate n 1 z
