-- Why an operation is refused, said of the heap that a runtime has open.
use Rattle.std.proofs.Common.{◌≡◌, ℕ, ◌<◌, true, Result, Ok, Err, sym, subst}
use Rattle.std.specs.Result.{IfErr, IfOk, OnErr, OnOk}
use Rattle.bc_failsafe.specs.Packing.{NeedOfHeap}
use Rattle.bc_model.specs.Need.{IsNeed}
use Rattle.bc_model.specs.State.{State}
use Rattle.bc_model.specs.Step.{step}
use Rattle.bc_model.specs.declared.operations.Op.{Op}
use Rattle.bc_model.specs.declared.operations.Reply.{Reply}
use Rattle.bc_model.specs.declared.operations.Reply.TheVariants.{Done}
use Rattle.bc_model.specs.declared.traces.Setup.{Setup}
use Rattle.bc_running.specs.Running.{RunningView, RunningStands}
use Rattle.sorvekla.specs.Heaps.{OpenHeap}
use Rattle.sorvekla.proofs.ReplyLemmas.{step-told}
use Rattle.sorvekla.specs.Steps.{DidStep, IsCauseOf, IsCauseOfNone, IsFreezeCause, IsGiveCause, IsOpFault, IsReplyFault, IsShort, IsShortFault, IsStepOf, KeepsStanding, StaysSame, is_reply_to}
use Rattle.sorvekla.specs.declared.errors.HeapError.{HeapError}
use Rattle.sorvekla.specs.declared.errors.HeapError.TheVariants.{Foreign, Frozen, NoBirthLeft, NoDomain, NoField, NoLane, NoRootLeft, NoSlot, NotObject, OutOfHeap, OutOfRange}

-- an operation that isn't begun
pub cause-unbegun : (h k : OpenHeap) (lane : ℕ) (o : Op) (e : HeapError) → IsOpFault h lane o e → k ≡ h → IsCauseOf h lane o e k
cause-unbegun h k lane o (OutOfHeap need supers) fault same = absurd fault
cause-unbegun h k lane o NoLane fault same = (fault, same)
cause-unbegun h k lane o NoDomain fault same = (fault, same)
cause-unbegun h k lane o NoSlot fault same = (fault, same)
cause-unbegun h k lane o OutOfRange fault same = (fault, same)
cause-unbegun h k lane o NoBirthLeft fault same = (fault, same)
cause-unbegun h k lane o NoRootLeft fault same = (fault, same)
cause-unbegun h k lane o NotObject fault same = absurd fault
cause-unbegun h k lane o NoField fault same = absurd fault
cause-unbegun h k lane o Foreign fault same = absurd fault
cause-unbegun h k lane o Frozen fault same = absurd fault

-- one that the plain heap refuses too
pub cause-told : (h k : OpenHeap) (lane : ℕ) (o : Op) (e : HeapError) (r : Reply) → IsReplyFault r e → DidStep h lane o r k → IsCauseOf h lane o e k
cause-told h k lane o (OutOfHeap need supers) r fault did = absurd fault
cause-told h k lane o NoLane r fault did = absurd fault
cause-told h k lane o NoDomain r fault did = absurd fault
cause-told h k lane o NoSlot r fault did = absurd fault
cause-told h k lane o OutOfRange r fault did = absurd fault
cause-told h k lane o NoBirthLeft r fault did = absurd fault
cause-told h k lane o NoRootLeft r fault did = absurd fault
cause-told h k lane o NotObject r fault did = subst (λ (x : Reply). DidStep h lane o x k) fault did
cause-told h k lane o NoField r fault did = subst (λ (x : Reply). DidStep h lane o x k) fault did
cause-told h k lane o Foreign r fault did = subst (λ (x : Reply). DidStep h lane o x k) fault did
cause-told h k lane o Frozen r fault did = subst (λ (x : Reply). DidStep h lane o x k) fault did

-- a heap that is too small
pub cause-short : (h k : OpenHeap) (lane : ℕ) (o : Op) (e : HeapError) → IsShortFault h.setup h.running e → StaysSame h k → k.counts ≡ h.counts → IsCauseOf h lane o e k
cause-short h k lane o (OutOfHeap need supers) short same uncounted = (same, record { there = short.there; above = short.above; needed = short.needed }, uncounted)
cause-short h k lane o NoLane short same uncounted = absurd short
cause-short h k lane o NoDomain short same uncounted = absurd short
cause-short h k lane o NoSlot short same uncounted = absurd short
cause-short h k lane o OutOfRange short same uncounted = absurd short
cause-short h k lane o NoBirthLeft short same uncounted = absurd short
cause-short h k lane o NoRootLeft short same uncounted = absurd short
cause-short h k lane o NotObject short same uncounted = absurd short
cause-short h k lane o NoField short same uncounted = absurd short
cause-short h k lane o Foreign short same uncounted = absurd short
cause-short h k lane o Frozen short same uncounted = absurd short

pub none-short : (h k : OpenHeap) (e : HeapError) → IsShortFault h.setup h.running e → StaysSame h k → k.counts ≡ h.counts → IsCauseOfNone h e k
none-short h k (OutOfHeap need supers) short same uncounted = (same, record { there = short.there; above = short.above; needed = short.needed }, uncounted)
none-short h k NoLane short same uncounted = absurd short
none-short h k NoDomain short same uncounted = absurd short
none-short h k NoSlot short same uncounted = absurd short
none-short h k OutOfRange short same uncounted = absurd short
none-short h k NoBirthLeft short same uncounted = absurd short
none-short h k NoRootLeft short same uncounted = absurd short
none-short h k NotObject short same uncounted = absurd short
none-short h k NoField short same uncounted = absurd short
none-short h k Foreign short same uncounted = absurd short
none-short h k Frozen short same uncounted = absurd short

-- the need of the heap that is left is that of what lanes ran on before
pub need-before : {r q : RunningView} (need : ℕ) → KeepsStanding r q → NeedOfHeap q.heap.space q.heap.roots q.heap.chunks need → (state : State) → RunningStands r state → IsNeed state need
need-before need keeps needs = λ state st. let later = keeps state st in needs state later.stands (sym later.domains)

-- that it was too small after something that kept what it stood for, it was before
pub short-before : (setup : Setup) {r q : RunningView} (e : HeapError) → KeepsStanding r q → IsShortFault setup q e → IsShortFault setup r e
short-before setup (OutOfHeap need supers) keeps short = record { there = short.there; above = short.above; needed = λ state st. short.needed state (keeps state st) }
short-before setup NoLane keeps short = absurd short
short-before setup NoDomain keeps short = absurd short
short-before setup NoSlot keeps short = absurd short
short-before setup OutOfRange keeps short = absurd short
short-before setup NoBirthLeft keeps short = absurd short
short-before setup NoRootLeft keeps short = absurd short
short-before setup NotObject keeps short = absurd short
short-before setup NoField keeps short = absurd short
short-before setup Foreign keeps short = absurd short
short-before setup Frozen keeps short = absurd short

-- what an operation does after something that kept what it stood for, it does from before that
pub step-after : (lane : ℕ) (o : Op) (x : Result Reply HeapError) {r q : RunningView} (k : RunningView) → KeepsStanding r q → IfOk x (λ answer. IsStepOf q lane o answer k) → IfOk x (λ answer. IsStepOf r lane o answer k)
step-after lane o (Ok answer) k keeps step = λ state st. step state (keeps state st)
step-after lane o (Err e) k keeps step = tt

pub stands-after : (x : Result Reply HeapError) {r q : RunningView} (k : RunningView) → KeepsStanding r q → OnErr x (KeepsStanding q k) → OnErr x (KeepsStanding r k)
stands-after (Ok answer) k keeps later = tt
stands-after (Err e) k keeps later = λ state st. later state (keeps state st)

pub short-after : (setup : Setup) (x : Result Reply HeapError) {r q : RunningView} → KeepsStanding r q → IfErr x (IsShortFault setup q) → IfErr x (IsShortFault setup r)
short-after setup (Ok answer) keeps short = tt
short-after setup (Err e) keeps short = short-before setup e keeps short

-- nurseries that weren't emptied, whatever the answer is
pub none-any : {T : Type 0} (h k : OpenHeap) (x : Result T HeapError) → IfErr x (IsShortFault h.setup h.running) → StaysSame h k → OnErr x (k.counts ≡ h.counts) → IfErr x (λ e. IsCauseOfNone h e k)
none-any h k (Ok done) short same uncounted = tt
none-any h k (Err e) short same uncounted = none-short h k e short same uncounted

pub give-short : (h k : OpenHeap) (domain lane : ℕ) (e : HeapError) → IsShortFault h.setup h.running e → StaysSame h k → k.counts ≡ h.counts → IsGiveCause h domain lane e k
give-short h k domain lane (OutOfHeap need supers) short same uncounted = (same, record { there = short.there; above = short.above; needed = short.needed }, uncounted)
give-short h k domain lane NoLane short same uncounted = absurd short
give-short h k domain lane NoDomain short same uncounted = absurd short
give-short h k domain lane NoSlot short same uncounted = absurd short
give-short h k domain lane OutOfRange short same uncounted = absurd short
give-short h k domain lane NoBirthLeft short same uncounted = absurd short
give-short h k domain lane NoRootLeft short same uncounted = absurd short
give-short h k domain lane NotObject short same uncounted = absurd short
give-short h k domain lane NoField short same uncounted = absurd short
give-short h k domain lane Foreign short same uncounted = absurd short
give-short h k domain lane Frozen short same uncounted = absurd short

pub freeze-short : (h k : OpenHeap) (domain : ℕ) (e : HeapError) → IsShortFault h.setup h.running e → StaysSame h k → k.counts ≡ h.counts → IsFreezeCause h domain e k
freeze-short h k domain (OutOfHeap need supers) short same uncounted = (same, record { there = short.there; above = short.above; needed = short.needed }, uncounted)
freeze-short h k domain NoLane short same uncounted = absurd short
freeze-short h k domain NoDomain short same uncounted = absurd short
freeze-short h k domain NoSlot short same uncounted = absurd short
freeze-short h k domain OutOfRange short same uncounted = absurd short
freeze-short h k domain NoBirthLeft short same uncounted = absurd short
freeze-short h k domain NoRootLeft short same uncounted = absurd short
freeze-short h k domain NotObject short same uncounted = absurd short
freeze-short h k domain NoField short same uncounted = absurd short
freeze-short h k domain Foreign short same uncounted = absurd short
freeze-short h k domain Frozen short same uncounted = absurd short

-- the reply to an operation that was done is one that it can have
pub told-any : (lane : ℕ) (o : Op) (x : Result Reply HeapError) {r : RunningView} (q : RunningView) (state : State) → RunningStands r state → IfOk x (λ answer. IsStepOf r lane o answer q) → IfOk x (λ answer. is_reply_to o answer ≡ true)
told-any lane o (Ok answer) q state st is = subst (λ (x : Reply). is_reply_to o x ≡ true) (is state st).0 (step-told state lane o)
told-any lane o (Err e) q state st is = tt

-- what a reply says, as the answer of a method
pub told-done : {T : Type 0} {h k : OpenHeap} {lane : ℕ} {o : Op} {answer : Reply} (x : Result T HeapError) (f : T → Reply) → IfOk x (λ t. answer ≡ f t) → DidStep h lane o answer k → IfOk x (λ t. DidStep h lane o (f t) k)
told-done {T} {h} {k} {lane} {o} (Ok t) f is did = subst (λ (r : Reply). DidStep h lane o r k) is did
told-done (Err e) f is did = tt

pub told-change : {T : Type 0} {h k : OpenHeap} {lane : ℕ} {o : Op} {answer : Reply} (x : Result T HeapError) → OnOk x (answer ≡ Done) → DidStep h lane o answer k → OnOk x (DidStep h lane o Done k)
told-change {T} {h} {k} {lane} {o} (Ok t) is did = subst (λ (r : Reply). DidStep h lane o r k) is did
told-change (Err e) is did = tt

pub told-refused : {T : Type 0} {h k : OpenHeap} {lane : ℕ} {o : Op} {answer : Reply} (x : Result T HeapError) → IfErr x (IsReplyFault answer) → DidStep h lane o answer k → IfErr x (λ e. IsCauseOf h lane o e k)
told-refused (Ok t) is did = tt
told-refused {T} {h} {k} {lane} {o} {answer} (Err e) is did = cause-told h k lane o e answer is did
