-- The order of ways.
use Rattle.std.proofs.Common.{◌≡◌, ◌⊎◌, ℕ, ◌+◌, ◌<◌, refl, sym, ◌∙◌, ap, subst, inl, inr, arith}
use Rattle.bc_heapview.specs.Ways.{Way, from_slot, by_field, Before, AtMost}

pub before-trans : (w v u : Way) → Before w v → Before v u → Before w u
before-trans (from_slot r) (from_slot s) (from_slot t) h k = omega arith
before-trans (from_slot r) (from_slot s) (by_field u l) h k = tt
before-trans (from_slot r) (by_field v j) (from_slot t) h k = absurd k
before-trans (from_slot r) (by_field v j) (by_field u l) h k = tt
before-trans (by_field w i) (from_slot s) u h k = absurd h
before-trans (by_field w i) (by_field v j) (from_slot t) h k = absurd k
before-trans (by_field w i) (by_field v j) (by_field u l) (inl h) (inl k) = inl (before-trans w v u h k)
before-trans (by_field w i) (by_field v j) (by_field u l) (inl h) (inr k) = inl (subst (λ x. Before w x) k.0 h)
before-trans (by_field w i) (by_field v j) (by_field u l) (inr h) (inl k) = inl (subst (λ x. Before x u) (sym h.0) k)
before-trans (by_field w i) (by_field v j) (by_field u l) (inr h) (inr k) = inr (h.0 ∙ k.0, let a : i < j = h.1 in let b : j < l = k.1 in omega arith)

pub before-not : (w : Way) → Before w w → ⊥
before-not (from_slot r) h = omega arith
before-not (by_field w i) (inl h) = before-not w h
before-not (by_field w i) (inr h) = let a : i < i = h.1 in omega arith

pub at_most-before : (w v u : Way) → AtMost w v → Before v u → Before w u
at_most-before w v u (inl e) k = subst (λ x. Before x u) (sym e) k
at_most-before w v u (inr h) k = before-trans w v u h k

pub at_most-trans : (w v u : Way) → AtMost w v → AtMost v u → AtMost w u
at_most-trans w v u h (inl e) = subst (λ x. AtMost w x) e h
at_most-trans w v u h (inr k) = inr (at_most-before w v u h k)

pub at_most-field : (w v : Way) (i : ℕ) → AtMost w v → AtMost (by_field w i) (by_field v i)
at_most-field w v i (inl e) = inl (ap (λ x. by_field x i) e)
at_most-field w v i (inr h) = inr (inl h)

-- what comes before some slot's way comes before all ways by a field
pub slot-before_field : (w v : Way) (s j : ℕ) → Before w (from_slot s) → Before w (by_field v j)
slot-before_field (from_slot r) v s j h = tt
slot-before_field (by_field w i) v s j h = absurd h

pub at_most-slot : (w : Way) (r : ℕ) → AtMost w (from_slot r) → Before w (from_slot (r + 1))
at_most-slot w r h = at_most-before w (from_slot r) (from_slot (r + 1)) h (let g : r < r + 1 = omega arith in g)

pub at_most-next : (w v : Way) (i : ℕ) → AtMost w (by_field v i) → Before w (by_field v (i + 1))
at_most-next w v i h = at_most-before w (by_field v i) (by_field v (i + 1)) h (inr (refl, omega arith))
