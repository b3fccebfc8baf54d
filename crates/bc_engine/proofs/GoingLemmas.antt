-- Lanes that go on: nothing done, one operation done, and one stretch after another.
use Rattle.std.proofs.Common.{◌≡◌, ◌≢◌, ℕ, ◌+◌, ◌<◌, ◌≤◌, Bool, true, false, if◌then◌else◌, ◌==◌, List, [], ◌∷◌, ◌++◌, length, take, map, get_or, set, refl, sym, ap, subst, ◌∙◌, inl, inr, arith, append_assoc, append-nil, eq-eqb, eqb-true, get_or-set_same, get_or-set_other}
use Rattle.std.proofs.lemmas.Bool.{cases_eq}
use Rattle.std.proofs.lemmas.List.{take_more, length_push}
use Rattle.bc_model.specs.Interleaving.{LaneOp, after_steps, replies_by, ops_by}
use Rattle.bc_model.specs.State.{State}
use Rattle.bc_model.specs.Step.{step}
use Rattle.bc_model.specs.declared.operations.Op.{Op}
use Rattle.bc_model.specs.declared.operations.Reply.{Reply}
use Rattle.bc_engine.specs.Lanes.{of_lane, Does, LanesWentOn}
use Rattle.bc_engine.proofs.StepLists.{after_steps-append, ops_by-append, replies_by-append, after_steps-one, replies_by-one, after_steps-none, replies_by-none}
use Rattle.bc_running.specs.Running.{RunningView, RunningStands}
use Rattle.bc_model.proofs.RunStates.{all-append}

-- no operation was done: the heap stands for what it stood for
pub goes-none : (lanes : List (List Op)) (r q : RunningView) (told : List (List Reply)) → ((state : State) → RunningStands r state → RunningStands q state) → LanesWentOn lanes r told q told
goes-none lanes r q told same = record {
  steps = [];
  below = tt;
  ops = λ j. sym (append-nil (take (length (of_lane told j)) (of_lane lanes j)));
  means = λ state st. subst (λ (s : State). RunningStands q s) (sym (after_steps-none state)) (same state st);
  replies = λ state st j. sym (append-nil (of_lane told j)) ∙ ap (λ (rs : List Reply). of_lane told j ++ rs) (sym (replies_by-none state j));
  more = λ j. omega arith;
}

pub goes-then : {lanes : List (List Op)} {r q x : RunningView} {told mid answers : List (List Reply)} → LanesWentOn lanes r told q mid → LanesWentOn lanes q mid x answers → LanesWentOn lanes r told x answers
goes-then {lanes} {r} {q} {x} {told} {mid} {answers} g e = record {
  steps = g.steps ++ e.steps;
  below = all-append (λ (o : LaneOp). o.lane < length lanes) g.steps e.steps g.below e.below;
  ops = λ j.
      e.ops j
      ∙ ap (λ (os : List Op). os ++ ops_by j e.steps) (g.ops j)
      ∙ append_assoc (take (length (of_lane told j)) (of_lane lanes j)) (ops_by j g.steps) (ops_by j e.steps)
      ∙ ap (λ (os : List Op). take (length (of_lane told j)) (of_lane lanes j) ++ os) (sym (ops_by-append j g.steps e.steps));
  means = λ state st. subst (λ (s : State). RunningStands x s) (sym (after_steps-append state g.steps e.steps)) (e.means (after_steps state g.steps) (g.means state st));
  replies = λ state st j.
      e.replies (after_steps state g.steps) (g.means state st) j
      ∙ ap (λ (rs : List Reply). rs ++ replies_by (after_steps state g.steps) j e.steps) (g.replies state st j)
      ∙ append_assoc (of_lane told j) (replies_by state j g.steps) (replies_by (after_steps state g.steps) j e.steps)
      ∙ ap (λ (rs : List Reply). of_lane told j ++ rs) (sym (replies_by-append state j g.steps e.steps));
  more = λ j. omega (arith, g.more j, e.more j);
}

-- the lists with one reply more of a lane
abbrev pub with_reply : List (List Reply) → ℕ → Reply → List (List Reply)
with_reply told lane reply = set told lane (of_lane told lane ++ reply ∷ [])

-- a lane's own step among one, and another's
pub own-one : {X : Type 0} (lane : ℕ) (x : X) → (if lane == lane then x ∷ [] else []) ≡ x ∷ []
own-one lane x = ap (λ (t : Bool). if t then x ∷ [] else []) (eq-eqb lane lane refl)

pub other-one : {X : Type 0} (lane j : ℕ) (x : X) → j ≢ lane → (if lane == j then x ∷ [] else []) ≡ []
other-one lane j x ne = go (lane == j) refl
  where
    go : (t : Bool) → (lane == j) ≡ t → (if t then x ∷ [] else []) ≡ []
    go true e = absurd (ne (sym (eqb-true lane j e)))
    go false e = refl

pub ops-one : (lane j : ℕ) (op : Op) → ops_by j (record { lane = lane; op = op } ∷ []) ≡ (if lane == j then op ∷ [] else [])
ops-one lane j op = go (lane == j)
  where
    go : (t : Bool) → map (λ (x : LaneOp). x.op) (if t then record { lane = lane; op = op } ∷ [] else []) ≡ (if t then op ∷ [] else [])
    go true = refl
    go false = refl

pub goes-step : (lanes : List (List Op)) {r q : RunningView} (told : List (List Reply)) (lane : ℕ) (op : Op) (reply : Reply) → lane < length lanes → lane < length told → length (of_lane told lane) < length (of_lane lanes lane) → op ≡ get_or (of_lane lanes lane) (length (of_lane told lane)) op → Does lane op r reply q → LanesWentOn lanes r told q (with_reply told lane reply)
goes-step lanes {r} {q} told lane op reply within there less is does =
    let n = length (of_lane told lane) in
    let x : LaneOp = record { lane = lane; op = op } in
    let own : of_lane (with_reply told lane reply) lane ≡ of_lane told lane ++ reply ∷ [] = get_or-set_same told lane (of_lane told lane ++ reply ∷ []) [] there in
    let long : length (of_lane (with_reply told lane reply) lane) ≡ n + 1 = ap length own ∙ length_push (of_lane told lane) reply in
    let other : (j : ℕ) → j ≢ lane → of_lane (with_reply told lane reply) j ≡ of_lane told j = λ j ne. get_or-set_other told lane j (of_lane told lane ++ reply ∷ []) [] ne in
    record {
      steps = x ∷ [];
      below = (within, tt);
      ops = λ j. elim (cases_eq j lane) [
        | inl e ↦
            subst (λ (m : ℕ). take (length (of_lane (with_reply told lane reply) m)) (of_lane lanes m) ≡ take (length (of_lane told m)) (of_lane lanes m) ++ ops_by m (x ∷ [])) (sym e)
            (ap (λ (m : ℕ). take m (of_lane lanes lane)) long
            ∙ take_more (of_lane lanes lane) n op less
            ∙ ap (λ (o : Op). take n (of_lane lanes lane) ++ o ∷ []) (sym is)
            ∙ ap (λ (os : List Op). take n (of_lane lanes lane) ++ os) (sym (ops-one lane lane op ∙ own-one lane op)))
        | inr ne ↦
            ap (λ (rs : List Reply). take (length rs) (of_lane lanes j)) (other j ne)
            ∙ sym (append-nil (take (length (of_lane told j)) (of_lane lanes j)))
            ∙ ap (λ (os : List Op). take (length (of_lane told j)) (of_lane lanes j) ++ os) (sym (ops-one lane j op ∙ other-one lane j op ne))
      ];
      means = λ state st. subst (λ (s : State). RunningStands q s) (sym (after_steps-one state x)) (does.means state st).1;
      replies = λ state st j. elim (cases_eq j lane) [
        | inl e ↦
            subst (λ (m : ℕ). of_lane (with_reply told lane reply) m ≡ of_lane told m ++ replies_by state m (x ∷ [])) (sym e)
            (own ∙ ap (λ (a : Reply). of_lane told lane ++ a ∷ []) (sym (does.means state st).0)
            ∙ ap (λ (rs : List Reply). of_lane told lane ++ rs) (sym (replies_by-one state lane x ∙ own-one lane (step state lane op).1)))
        | inr ne ↦
            other j ne
            ∙ sym (append-nil (of_lane told j))
            ∙ ap (λ (rs : List Reply). of_lane told j ++ rs) (sym (replies_by-one state j x ∙ other-one lane j (step state lane op).1 ne))
      ];
      more = λ j. elim (cases_eq j lane) [
        | inl e ↦ subst (λ (m : ℕ). length (of_lane told m) ≤ length (of_lane (with_reply told lane reply) m)) (sym e) (omega (arith, long))
        | inr ne ↦ omega (arith, ap length (other j ne))
      ];
    }
