-- Runs of a lane's operations and of gives and freezes, one at a time.
use Rattle.std.proofs.Common.{append_assoc, Vec, Global, ◌≡◌, ℕ, ◌+◌, ◌<◌, ◌≤◌, List, [], ◌∷◌, ◌++◌, length, get_or, drop, sym, ap, ◌∙◌}
use Rattle.std.specs.List.{AllByRecursion}
use Rattle.std.proofs.lemmas.List.{drop_more, drop_all, get_or-map}
use Rattle.std.proofs.lemmas.List.Elements.{All-from_recursion, All-get_or}
use Rattle.bc_model.specs.Rows.{lists_of}
use Rattle.bc_model.specs.Run.{after_ops, replies_to, after_lanes, replies_to_lanes, after_changes}
use Rattle.bc_model.specs.State.{State, changed}
use Rattle.bc_model.specs.Step.{step}
use Rattle.bc_model.specs.declared.operations.Op.{Op}
use Rattle.bc_model.specs.declared.operations.Reply.{Reply}
use Rattle.bc_model.specs.declared.traces.Change.{Change}

pub at-index : {X : Type 0} (P : X → Type 0) (xs : List X) (i : ℕ) (d : X) → AllByRecursion P xs → i < length xs → P (get_or xs i d)
at-index P xs i d h within = All-get_or P xs i d within (All-from_recursion P xs h)

pub after_ops-more : (s : State) (j : ℕ) (ops : List Op) (i : ℕ) (o : Op) → i < length ops → o ≡ get_or ops i o → after_ops s j (drop i ops) ≡ after_ops (step s j o).0 j (drop (i + 1) ops)
unfolding after_ops
after_ops-more s j ops i o within is =
    ap (after_ops s j) (drop_more ops i o within) ∙ ap (λ (x : Op). after_ops (step s j x).0 j (drop (i + 1) ops)) (sym is)

pub replies_to-more : (s : State) (j : ℕ) (ops : List Op) (i : ℕ) (o : Op) → i < length ops → o ≡ get_or ops i o → replies_to s j (drop i ops) ≡ (step s j o).1 ∷ replies_to (step s j o).0 j (drop (i + 1) ops)
unfolding replies_to
replies_to-more s j ops i o within is =
    ap (replies_to s j) (drop_more ops i o within) ∙ ap (λ (x : Op). (step s j x).1 ∷ replies_to (step s j x).0 j (drop (i + 1) ops)) (sym is)

pub after_ops-end : (s : State) (j : ℕ) (ops : List Op) (i : ℕ) → length ops ≤ i → after_ops s j (drop i ops) ≡ s
unfolding after_ops
after_ops-end s j ops i past = ap (after_ops s j) (drop_all i ops past)

pub replies_to-end : (s : State) (j : ℕ) (ops : List Op) (i : ℕ) → length ops ≤ i → replies_to s j (drop i ops) ≡ []
unfolding replies_to
replies_to-end s j ops i past = ap (replies_to s j) (drop_all i ops past)

pub after_changes-more : (s : State) (gives : List Change) (i : ℕ) (g : Change) → i < length gives → g ≡ get_or gives i g → after_changes s (drop i gives) ≡ after_changes (changed s g) (drop (i + 1) gives)
unfolding after_changes
after_changes-more s gives i g within is =
    ap (after_changes s) (drop_more gives i g within) ∙ ap (λ (x : Change). after_changes (changed s x) (drop (i + 1) gives)) (sym is)

pub after_changes-end : (s : State) (gives : List Change) (i : ℕ) → length gives ≤ i → after_changes s (drop i gives) ≡ s
unfolding after_changes
after_changes-end s gives i past = ap (after_changes s) (drop_all i gives past)

pub after_lanes-more : (s : State) (j : ℕ) (lanes : List (List Op)) (i : ℕ) (ops : List Op) → i < length lanes → ops ≡ get_or lanes i ops → after_lanes s j (drop i lanes) ≡ after_lanes (after_ops s j ops) (j + 1) (drop (i + 1) lanes)
unfolding after_lanes
after_lanes-more s j lanes i ops within is =
    ap (after_lanes s j) (drop_more lanes i ops within) ∙ ap (λ (x : List Op). after_lanes (after_ops s j x) (j + 1) (drop (i + 1) lanes)) (sym is)

pub replies_to_lanes-more : (s : State) (j : ℕ) (lanes : List (List Op)) (i : ℕ) (ops : List Op) → i < length lanes → ops ≡ get_or lanes i ops → replies_to_lanes s j (drop i lanes) ≡ replies_to s j ops ∷ replies_to_lanes (after_ops s j ops) (j + 1) (drop (i + 1) lanes)
unfolding replies_to_lanes
replies_to_lanes-more s j lanes i ops within is =
    ap (replies_to_lanes s j) (drop_more lanes i ops within) ∙ ap (λ (x : List Op). replies_to s j x ∷ replies_to_lanes (after_ops s j x) (j + 1) (drop (i + 1) lanes)) (sym is)

pub after_lanes-end : (s : State) (j : ℕ) (lanes : List (List Op)) (i : ℕ) → length lanes ≤ i → after_lanes s j (drop i lanes) ≡ s
unfolding after_lanes
after_lanes-end s j lanes i past = ap (after_lanes s j) (drop_all i lanes past)

pub replies_to_lanes-end : (s : State) (j : ℕ) (lanes : List (List Op)) (i : ℕ) → length lanes ≤ i → replies_to_lanes s j (drop i lanes) ≡ []
unfolding replies_to_lanes
replies_to_lanes-end s j lanes i past = ap (replies_to_lanes s j) (drop_all i lanes past)

-- one more operation of a run, by what the step gave
pub run-state : (s t : State) (j : ℕ) (ops : List Op) (i : ℕ) (o : Op) (r : Reply) → i < length ops → o ≡ get_or ops i o → (t, r) ≡ step s j o → after_ops t j (drop (i + 1) ops) ≡ after_ops s j (drop i ops)
run-state s t j ops i o r within is ok =
    ap (λ (x : State × Reply). after_ops x.0 j (drop (i + 1) ops)) ok ∙ sym (after_ops-more s j ops i o within is)

pub run-reply : (s t : State) (j : ℕ) (ops : List Op) (i : ℕ) (o : Op) (r : Reply) (rs : List Reply) → i < length ops → o ≡ get_or ops i o → (t, r) ≡ step s j o → (rs ++ r ∷ []) ++ replies_to t j (drop (i + 1) ops) ≡ rs ++ replies_to s j (drop i ops)
run-reply s t j ops i o r rs within is ok =
    append_assoc rs (r ∷ []) (replies_to t j (drop (i + 1) ops))
    ∙ ap (λ (x : State × Reply). rs ++ x.1 ∷ replies_to x.0 j (drop (i + 1) ops)) ok
    ∙ ap (λ (xs : List Reply). rs ++ xs) (sym (replies_to-more s j ops i o within is))

-- the list of what is after the element at i
pub lists_of-at : {X : Type 0} (vs : List (Vec X Global)) (i : ℕ) (v : Vec X Global) (xs : List X) → i < length vs → v ≡ get_or vs i v → xs ≡ v.items → xs ≡ get_or (lists_of vs) i xs
lists_of-at vs i v xs within is e = e ∙ ap (λ x. x.items) is ∙ sym (get_or-map (λ x. x.items) vs i v xs within)

-- one more lane of a run
pub lane-state : (s t : State) (j : ℕ) (lanes : List (List Op)) (ops : List Op) → j < length lanes → ops ≡ get_or lanes j ops → t ≡ after_ops s j ops → after_lanes t (j + 1) (drop (j + 1) lanes) ≡ after_lanes s j (drop j lanes)
lane-state s t j lanes ops within is after =
    ap (λ (x : State). after_lanes x (j + 1) (drop (j + 1) lanes)) after ∙ sym (after_lanes-more s j lanes j ops within is)

pub lane-replies : (s t : State) (j : ℕ) (lanes : List (List Op)) (ops : List Op) (r : List Reply) (rs : List (List Reply)) → j < length lanes → ops ≡ get_or lanes j ops → t ≡ after_ops s j ops → r ≡ replies_to s j ops → (rs ++ r ∷ []) ++ replies_to_lanes t (j + 1) (drop (j + 1) lanes) ≡ rs ++ replies_to_lanes s j (drop j lanes)
lane-replies s t j lanes ops r rs within is after replied =
    append_assoc rs (r ∷ []) (replies_to_lanes t (j + 1) (drop (j + 1) lanes))
    ∙ ap (λ (x : State). rs ++ r ∷ replies_to_lanes x (j + 1) (drop (j + 1) lanes)) after
    ∙ ap (λ (x : List Reply). rs ++ x ∷ replies_to_lanes (after_ops s j ops) (j + 1) (drop (j + 1) lanes)) replied
    ∙ ap (λ (xs : List (List Reply)). rs ++ xs) (sym (replies_to_lanes-more s j lanes j ops within is))
