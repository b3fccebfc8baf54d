-- Where there is no line there is no notice, and no answer.
use Rattle.std.specs.Result.{IfOk, OnOk}
use Rattle.std.proofs.Common.{◌≡◌, ℕ, List, [], ◌∷◌, length, Result, Ok, Err, refl, ap, subst, ◌∙◌, arith}
use Prim.Native.Nat.{zero, suc}
use Rattle.std.proofs.lemmas.List.{get_or_past}
use Rattle.bc_cycle.specs.Causes.{IfOutOfHeap}
use Rattle.bc_cycle.specs.Collecting.{CollectsBeside, EmptiesBeside, HasKeptWhereItFits, IsCollectedHeap, IsEmptiedBy, StaysBeside}
use Rattle.bc_cycle.specs.Emptying.{SurvivorsFit}
use Rattle.bc_cycle.specs.Staying.{StaysSettled}
use Rattle.bc_cycle.specs.declared.emptying.CycleError.{CycleError}
use Rattle.bc_cycle.specs.declared.emptying.EmptyingKind.{EmptyingKind}
use Rattle.bc_cycle.specs.declared.emptying.CycleError.TheVariants.{NoMemory, OutOfHeap}
use Rattle.bc_marking.specs.Lines.{HasTold, hints_along, hints_at, line_along}
use Rattle.bc_marking.specs.declared.lines.Cursor.{Cursor}
use Rattle.bc_pager.specs.declared.answers.Answer.{Answer}
use Rattle.bc_whole_heap.specs.Heaps.{HeapView}

no-hints : (from turns : ℕ) → hints_along [] from turns ≡ 0
no-hints from zero = refl
no-hints from (suc turns) =
    let none : hints_at [] (line_along [] from turns) ≡ [] = get_or_past {X = List ℕ} [] (line_along [] from turns) [] (omega arith) in
    let long : length (hints_at [] (line_along [] from turns)) ≡ 0 = ap (λ (hints : List ℕ). length hints) none in
    let before = no-hints from turns in
    omega arith

no-told : (from : Cursor) (turns : ℕ) (to : Cursor) (before after told : List Answer) → HasTold [] from before turns to after told → told ≡ []
no-told from turns to before after told has = none told (has.long ∙ no-hints (from.line) turns)
  where
    none : (xs : List Answer) → length xs ≡ 0 → xs ≡ []
    none [] e = refl
    none (x ∷ xs) e = absurd (omega arith)

-- so a collection, an emptying and a refusal name no page
pub collects-unasked : {h k : HeapView} {from to : Cursor} {before after : List Answer} → CollectsBeside [] h from before k to after → IsCollectedHeap h [] k
collects-unasked {h} {k} {from} {to} {before} {after} c = subst (λ (told : List Answer). IsCollectedHeap h told k) (no-told from c.turns to before after c.told c.uses) c.collected

module _ (h k : HeapView) (from to : Cursor) (before after : List Answer) where
  pub empties-unasked : (r : Result EmptyingKind CycleError) → IfOk r (λ kind. EmptiesBeside kind [] h from before k to after) → OnOk r ((SurvivorsFit h → ⊥) → HasKeptWhereItFits h [] k)
  empties-unasked (Ok kind) e = λ none. subst (λ (told : List Answer). HasKeptWhereItFits h told k) (no-told from e.turns to before after e.told e.uses) (e.kept none)
  empties-unasked (Err fault) e = tt

  pub kinds-unasked : (r : Result EmptyingKind CycleError) → IfOk r (λ kind. EmptiesBeside kind [] h from before k to after) → IfOk r (λ kind. IsEmptiedBy kind h [] k)
  kinds-unasked (Ok kind) e = subst (λ (told : List Answer). IsEmptiedBy kind h told k) (no-told from e.turns to before after e.told e.uses) e.by
  kinds-unasked (Err fault) e = tt

  pub stays-unasked : (r : Result EmptyingKind CycleError) → IfOutOfHeap r (λ need. StaysBeside [] h from before k to after) → IfOutOfHeap r (λ need. StaysSettled h.space k.space)
  stays-unasked (Ok kind) s = tt
  stays-unasked (Err (OutOfHeap need)) s = s.still (no-told from s.turns to before after s.told s.uses)
  stays-unasked (Err NoMemory) s = tt
