-- Texts that loops make piece by piece.
use Rattle.std.proofs.Common.{◌≡◌, ℕ, suc, ◌+◌, ◌<◌, ◌≤◌, List, [], ◌∷◌, ◌++◌, length, take, get_or, map, refl, sym, ap, ◌∙◌, append_assoc, arith}
use Rattle.std.proofs.lemmas.List.{map_more, append-nil, length-map, length-take}
use Rattle.bc_model.specs.declared.operations.Reply.{Reply}
use Rattle.std.specs.List.{sum_by}
use Rattle.std.proofs.lemmas.List.Sums.{sum_by-cons, sum_by-take-le, sum_by_more}
use Rattle.std.specs.Prelude.{codes}
use Rattle.std.specs.Fmt.{decimal}
use Rattle.bc_trace.specs.Replies.{lane_text, lanes_text, phase_text, phases_text}

lanes_text-append : (j : ℕ) (xs : List (List Reply)) (y : List Reply) → lanes_text j (xs ++ y ∷ []) ≡ lanes_text j xs ++ lane_text (j + length xs) y
lanes_text-append j [] y = append-nil (lane_text j y) ∙ ap (λ k. lane_text k y) (omega arith)
lanes_text-append j (x ∷ xs) y =
    let k : suc j + length xs ≡ j + suc (length xs) = omega arith in
    ap (λ t. lane_text j x ++ t) (lanes_text-append (suc j) xs y ∙ rw k refl) ∙ sym (append_assoc (lane_text j x) (lanes_text (suc j) xs) (lane_text (j + suc (length xs)) y))

-- one more lane
pub lanes_text-more : {V : Type 0} (f : V → List Reply) (vs : List V) (i : ℕ) (d : V) (before text new : List ℕ) → i < length vs → text ≡ before ++ lanes_text 0 (map f (take i vs)) → new ≡ text ++ lane_text i (f (get_or vs i d)) → new ≡ before ++ lanes_text 0 (map f (take (i + 1) vs))
lanes_text-more f vs i d before text new lt so_far e =
    let long : 0 + length (map f (take i vs)) ≡ i = simp length-map (omega (arith, length-take i vs)) in
    let one : lanes_text 0 (map f (take (i + 1) vs)) ≡ lanes_text 0 (map f (take i vs)) ++ lane_text i (f (get_or vs i d)) = rw (map_more f vs i d lt, lanes_text-append 0 (map f (take i vs)) (f (get_or vs i d)), long) refl in
    e ∙ ap (λ t. t ++ lane_text i (f (get_or vs i d))) so_far ∙ append_assoc before (lanes_text 0 (map f (take i vs))) (lane_text i (f (get_or vs i d))) ∙ ap (λ t. before ++ t) (sym one)

-- the phase's line, and the lanes
pub phase_text-made : (k : ℕ) (lanes : List (List Reply)) (before head text : List ℕ) → head ≡ before ++ (codes "phase " ++ decimal k ++ 10 ∷ []) → text ≡ head ++ lanes_text 0 lanes → text ≡ before ++ phase_text k lanes
unfolding phase_text
phase_text-made k lanes before head text h e =
    e ∙ ap (λ t. t ++ lanes_text 0 lanes) h ∙ append_assoc before (codes "phase " ++ decimal k ++ 10 ∷ []) (lanes_text 0 lanes)

-- ---- how many replies there are

count-map : {V : Type 0} (f : V → List Reply) (vs : List V) → sum_by length (map f vs) ≡ sum_by (λ v. length (f v)) vs
count-map f [] = refl
count-map {V} f (v ∷ vs) =
    omega (arith, count-map f vs, sum_by-cons (length {A = Reply}) (f v) (map f vs), sum_by-cons (λ (w : V). length (f w)) v vs)

-- those of one lane more
pub count-more : {V : Type 0} (f : V → List Reply) (vs : List V) (i : ℕ) (d : V) → i < length vs → sum_by (λ v. length (f v)) (take (i + 1) vs) ≡ sum_by (λ v. length (f v)) (take i vs) + length (f (get_or vs i d))
count-more {V} f vs i d lt = sum_by_more (λ (v : V). length (f v)) vs i d lt

-- with those of the lanes before it they are no more than all
pub count-within : {V : Type 0} (f : V → List Reply) (vs : List V) (i : ℕ) → sum_by (λ v. length (f v)) (take i vs) ≤ sum_by length (map f vs)
count-within {V} f vs i = omega (arith, count-map f vs, sum_by-take-le (λ (v : V). length (f v)) vs i)

-- ---- the texts of phases

pub phases_text-nil : (k : ℕ) → phases_text k [] ≡ []
unfolding phases_text
phases_text-nil k = refl

pub phases_text-cons : (k : ℕ) (p : List (List Reply)) (ps : List (List (List Reply))) → phases_text k (p ∷ ps) ≡ phase_text k p ++ phases_text (suc k) ps
unfolding phases_text
phases_text-cons k p ps = refl

pub phases_text-append : (k : ℕ) (ps qs : List (List (List Reply))) → phases_text k (ps ++ qs) ≡ phases_text k ps ++ phases_text (k + length ps) qs
unfolding phases_text
phases_text-append k [] qs = ap (λ n. phases_text n qs) (omega arith)
phases_text-append k (p ∷ ps) qs =
    ap (λ t. phase_text k p ++ t) (phases_text-append (suc k) ps qs)
    ∙ sym (append_assoc (phase_text k p) (phases_text (suc k) ps) _)
    ∙ ap (λ n. (phase_text k p ++ phases_text (suc k) ps) ++ phases_text n qs) (omega arith)
