-- The need of a heap whose nurseries couldn't be emptied, by what is said of the heap that is left.
use Rattle.std.proofs.Common.{◌≡◌, ℕ, ◌<◌, Err, arith, subst}
use Rattle.bc_cycle.specs.Causes.{IfOutOfHeap}
use Rattle.bc_cycle.specs.Emptying.{KeepsMeaning}
use Rattle.bc_cycle.specs.declared.emptying.CycleError.{CycleError}
use Rattle.bc_cycle.specs.declared.emptying.CycleError.TheVariants.{OutOfHeap}
use Rattle.bc_cycle.proofs.MeaningLemmas.{need-kept}
use Rattle.bc_failsafe.specs.Packing.{NeedOfHeap}
use Rattle.bc_superpages.specs.Layout.{superpages}
use Rattle.bc_whole_heap.specs.Heaps.{HeapView}

-- the heap that was given has the need of the one that is left
pub refused-need : (T : Type 0) (h k : HeapView) (cause : CycleError) (need : ℕ) → cause ≡ OutOfHeap need
    → IfOutOfHeap {T = T} (Err cause) (λ n. KeepsMeaning h k)
    → IfOutOfHeap {T = T} (Err cause) (λ n. NeedOfHeap k.space k.roots k.chunks n × (superpages k.space < n))
    → NeedOfHeap h.space h.roots h.chunks need × (superpages h.space < need)
refused-need T h k cause need is meaning above =
    let told : (P : ℕ → Type 0) → IfOutOfHeap {T = T} (Err cause) P → P need = λ P given. subst (λ (x : CycleError). IfOutOfHeap {T = T} (Err x) P) is given in
    let kept : KeepsMeaning h k = told (λ n. KeepsMeaning h k) meaning in
    let left : NeedOfHeap k.space k.roots k.chunks need × (superpages k.space < need) =
    told (λ n. NeedOfHeap k.space k.roots k.chunks n × (superpages k.space < n)) above in
    (need-kept need kept left.0, omega (arith, kept.sizes.supers, left.1))
