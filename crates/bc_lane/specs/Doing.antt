-- Operations of a lane, done one after another on a whole heap.
use Rattle.std.specs.Prelude.{◌≡◌, ℕ, ◌+◌, ◌-◌, nat_lt, List, [], ◌∷◌}
use Rattle.bc_bits.specs.Counting.{one_if}
use Rattle.bc_model.specs.declared.operations.Op.{Op}
use Rattle.bc_model.specs.declared.operations.Reply.{Reply}
use Rattle.bc_model.specs.declared.values.Holder.{Holder}
use Rattle.bc_mutator.specs.Effects.{DidOperation}
use Rattle.bc_whole_heap.specs.Heaps.{HeapView}

-- from the first heap to the last each operation was done, in order, and answered its reply. The lane had `serial` births before
-- and has `next` after
abbrev pub DidAll : List Holder → ℕ → List Op → List Reply → HeapView → ℕ → HeapView → ℕ → Type 0
DidAll holders lane [] [] h serial k next = (k ≡ h) × (next ≡ serial)
DidAll holders lane [] (reply ∷ replies) h serial k next = ⊥
DidAll holders lane (op ∷ ops) [] h serial k next = ⊥
DidAll holders lane (op ∷ ops) (reply ∷ replies) h serial k next =
    (m : HeapView) × (n : ℕ) × DidOperation h m holders lane serial n op reply × DidAll holders lane ops replies m n k next

-- how many operations a lane tried that has `count` of them, had done `before` and has now done `after`: those that it did in between, and
-- the next one where there is one
abbrev pub tried_from : ℕ → ℕ → ℕ → ℕ
tried_from count before after = (after - before) + one_if (nat_lt after count)
