-- No reply of a run of version 1 is `frozen`.
use Rattle.std.proofs.Common.{◌≡◌, ℕ, ◌+◌, ◌≤◌, ◌<◌, ◌==◌, Bool, true, false, nat_lt, if◌then◌else◌, List, [], ◌∷◌, suc, length, take, inl, inr, refl, sym, subst, ◌∙◌, arith}
use Rattle.std.specs.List.{AllByRecursion, list_all}
use Rattle.std.proofs.lemmas.Bool.{cases_Bool, cond-true, cond-false}
use Rattle.std.proofs.lemmas.List.Sums.{sum_by-cons}
use Rattle.bc_model.specs.Consistent.{IsState, IsValue}
use Rattle.bc_model.specs.Lists.{PhaseLists, TraceLists}
use Rattle.bc_model.specs.Run.{opening, after_ops, after_phase, after_phases, replies_to, replies_to_lanes, replies_of_phases, replies_of}
use Rattle.bc_model.specs.State.{State, object_of, slot_of, field_of, reads, NoneFrozen}
use Rattle.bc_model.specs.StateSizes.{sizes_of}
use Rattle.bc_model.specs.Step.{act, domains_of, target_writes, on_object, on_field, on_own_field, step, told, loaded, is_same}
use Rattle.bc_model.specs.WellFormed.{IsOp, IsPhase, IsTrace}
use Rattle.bc_model.specs.declared.operations.Op.{Op}
use Rattle.bc_model.specs.declared.operations.Op.TheVariants as op
use Rattle.bc_model.specs.declared.operations.Reply.{Reply}
use Rattle.bc_model.specs.declared.operations.Reply.TheVariants as replies
use Rattle.bc_model.specs.declared.traces.Setup.{Setup}
use Rattle.bc_model.specs.declared.values.Birth.{Birth}
use Rattle.bc_model.specs.declared.values.Value.{Value}
use Rattle.bc_model.specs.declared.values.Value.TheVariants.{Nil, Num, Obj}
use Rattle.bc_model.proofs.Callers.{IsPhase-from_setup}
use Rattle.bc_model.proofs.Changes.{rest-stays}
use Rattle.bc_model.proofs.FirstVersion.{NoneFrozen-before}
use Rattle.bc_model.proofs.Holders.{own-field-open, target-open}
use Rattle.bc_model.proofs.InOrder.{IsState-after_ops, SameSizes-after_ops, FitLanes-same}
use Rattle.bc_model.proofs.Openings.{IsState-opening, HasSizes-opening}
use Rattle.bc_model.proofs.RunStates.{OfSetup, OfSetup-after_phase, all-append}
use Rattle.bc_model.proofs.Steps.{SameSizes-step, IsState-step, IsOps-same}
use Rattle.bc_churn.specs.Counts.{all_replies, count_of_kind, kind_of_reply, phase_replies}
use Rattle.bc_churn.proofs.Cleared.{holders-ops}

-- a reply that a lane may get where no domain is frozen
abbrev IsOther : Reply → Type 0
IsOther replies.Frozen = ⊥
IsOther _ = Unit {0}

-- ---- one reply

other-if : (b : Bool) (x y : State × Reply) → IsOther x.1 → IsOther y.1 → IsOther (if b then x else y).1
other-if true x y h g = h
other-if false x y h g = g

other-either : (b : Bool) (r q : Reply) → IsOther r → IsOther q → IsOther (if b then r else q)
other-either true r q h g = h
other-either false r q h g = g

other-on_object : (s : State) (j : ℕ) (v : Value) (next : Birth → State × Reply) → ((b : Birth) → IsOther (next b).1) → IsOther (on_object s j v next).1
other-on_object s j Nil next f = tt
other-on_object s j (Num v) next f = tt
other-on_object s j (Obj b) next f = other-if (reads s j (object_of s.made b).domain) (next b) (s, replies.Foreign) (f b) tt

other-on_field : (s : State) (j : ℕ) (v : Value) (i : ℕ) (next : Birth → State × Reply) → ((b : Birth) → IsOther (next b).1) → IsOther (on_field s j v i next).1
other-on_field s j v i next f =
    other-on_object s j v _ (λ b. other-if (nat_lt i (length (object_of s.made b).fields)) (next b) (s, replies.Range) (f b) tt)

other-on_own_field : (s : State) (j : ℕ) (v : Value) (i : ℕ) (next : Birth → State × Reply) → NoneFrozen s.holders → IsState s → IsValue s.made v → ((b : Birth) → IsOther (next b).1) → IsOther (on_own_field s j v i next).1
other-on_own_field s j v i next none hs h f =
    subst (λ (x : State × Reply). IsOther x.1) (sym (own-field-open s j v i next none hs h)) (other-on_field s j v i next f)

other-told : (s : State) (j : ℕ) (v : Value) → IsOther (told s j v)
other-told s j Nil = tt
other-told s j (Num v) = tt
other-told s j (Obj b) = other-either (reads s j (object_of s.made b).domain) (replies.Obj b) replies.Foreign tt tt

other-loaded : (v : Value) → IsOther (loaded v)
other-loaded Nil = tt
other-loaded (Num v) = tt
other-loaded (Obj b) = tt

other-act : (s : State) (j : ℕ) (o : Op) → NoneFrozen s.holders → IsState s → IsOther (act s j o).1
other-act s j (op.New p n) none hs = tt
other-act s j (op.Who p) none hs = other-told s j (slot_of s p)
other-act s j (op.Len p) none hs = other-on_object s j (slot_of s p) _ (λ b. tt)
other-act s j (op.Set p i v) none hs = other-on_own_field s j (slot_of s p) i _ none hs (hs.values _) (λ b. tt)
other-act s j (op.Cut p i) none hs = other-on_own_field s j (slot_of s p) i _ none hs (hs.values _) (λ b. tt)
other-act s j (op.Link p i q) none hs = other-on_own_field s j (slot_of s p) i _ none hs (hs.values _) (λ b. tt)
other-act s j (op.Load p i q) none hs = other-on_field s j (slot_of s p) i _ (λ b. other-loaded (field_of s b i))
other-act s j (op.Copy p q) none hs = tt
other-act s j (op.Clear p) none hs = tt
other-act s j (op.Same p q) none hs = other-either (is_same (slot_of s p) (slot_of s q)) replies.Yes replies.No tt tt

other-step : (s : State) (j : ℕ) (o : Op) → NoneFrozen s.holders → IsState s → IsOp (sizes_of s) o → IsOther (step s j o).1
other-step s j o none hs fits =
    let test = list_all (reads s j) (domains_of o) in
    let inner : State × Reply = (if target_writes s j o then act s j o else (s, replies.Frozen)) in
    elim (cases_Bool test) [
      | inl held ↦ subst (λ (x : State × Reply). IsOther x.1) (sym (cond-true test inner (s, replies.Foreign) held ∙ cond-true (target_writes s j o) (act s j o) (s, replies.Frozen) (target-open s j o none fits held))) (other-act s j o none hs)
      | inr off ↦ subst (λ (x : State × Reply). IsOther x.1) (sym (cond-false test inner (s, replies.Foreign) off)) tt
    ]

-- ---- those of a run

other-ops : (s : State) (j : ℕ) (ops : List Op) → NoneFrozen s.holders → IsState s → j < length s.made → AllByRecursion (IsOp (sizes_of s)) ops → AllByRecursion IsOther (replies_to s j ops)
unfolding replies_to
other-ops s j [] none hs lane fits = tt
other-ops s j (o ∷ ops) none hs lane fits =
    let same = SameSizes-step s j o hs fits.0 in (
      other-step s j o none hs fits.0,
      other-ops (step s j o).0 j ops (subst NoneFrozen (sym (rest-stays s j o).holders) none) (IsState-step s j o hs lane fits.0) (omega (arith, lane, same.lanes)) (IsOps-same s (step s j o).0 ops same fits.1),
    )

other-lanes : (s : State) (j : ℕ) (lanes : List (List Op)) → NoneFrozen s.holders → IsState s → j + length lanes ≤ length s.made → AllByRecursion (AllByRecursion (IsOp (sizes_of s))) lanes → AllByRecursion IsOther (phase_replies (replies_to_lanes s j lanes))
unfolding replies_to_lanes
other-lanes s j [] none hs small fits = tt
other-lanes s j (ops ∷ lanes) none hs small fits =
    let lane : j < length s.made = omega arith in
    let same = SameSizes-after_ops s j ops hs lane fits.0 in
    all-append IsOther (replies_to s j ops) (phase_replies (replies_to_lanes (after_ops s j ops) (j + 1) lanes)) (other-ops s j ops none hs lane fits.0)
    (other-lanes (after_ops s j ops) (j + 1) lanes (subst NoneFrozen (sym (holders-ops s j ops)) none) (IsState-after_ops s j ops hs lane fits.0) (omega (arith, small, same.lanes)) (FitLanes-same s (after_ops s j ops) lanes same fits.1))

other-phases : (setup : Setup) (s : State) (phases : List PhaseLists) → OfSetup setup s → AllByRecursion (IsPhase setup) phases → ((k : ℕ) → NoneFrozen (after_phases s (take k phases)).holders) → AllByRecursion IsOther (all_replies (replies_of_phases s phases))
unfolding replies_of_phases after_phases
other-phases setup s [] of fits none = tt
other-phases setup s (p ∷ phases) of fits none =
    let here = IsPhase-from_setup setup s p of.sizes fits.0 in
    let small : 0 + length p.lanes ≤ length s.made = omega (arith, here.lanes) in
    all-append IsOther (phase_replies (replies_to_lanes s 0 p.lanes)) (all_replies (replies_of_phases (after_phase s p) phases)) (other-lanes s 0 p.lanes (none 0) of.state small here.ops)
    (other-phases setup (after_phase s p) phases (OfSetup-after_phase setup s p of fits.0) fits.1 (λ k. none (suc k)))

-- ---- so none is counted

abbrev frozen_in : Reply → ℕ
frozen_in r = if kind_of_reply r == 11 then 1 else 0

other-kind : (r : Reply) → IsOther r → frozen_in r ≡ 0
unfolding kind_of_reply
other-kind (replies.Obj b) h = refl
other-kind replies.Done h = refl
other-kind replies.Nil h = refl
other-kind (replies.Num v) h = refl
other-kind replies.Ref h = refl
other-kind (replies.Len n) h = refl
other-kind replies.Yes h = refl
other-kind replies.No h = refl
other-kind replies.NotObj h = refl
other-kind replies.Range h = refl
other-kind replies.Foreign h = refl
other-kind replies.Frozen h = absurd h

none-counted : (rs : List Reply) → AllByRecursion IsOther rs → count_of_kind 11 rs ≡ 0
none-counted [] h = refl
none-counted (r ∷ rs) h = omega (arith, sum_by-cons frozen_in r rs, none-counted rs h.1, other-kind r h.0)

pub frozen-none : (t : TraceLists) → IsTrace t → t.version ≡ 1 → count_of_kind 11 (all_replies (replies_of t)) ≡ 0
frozen-none t h first =
    none-counted (all_replies (replies_of t))
    (other-phases t.setup (opening t.setup) t.phases (record { state = IsState-opening t.setup h.setup; sizes = HasSizes-opening t.setup }) h.phases (λ k. NoneFrozen-before t k h first))
