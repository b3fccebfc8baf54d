-- From an operation that is done to the step of the state.
use Rattle.std.proofs.Common.{◌≡◌, ◌≢◌, ℕ, ◌<◌, Bool, true, false, if◌then◌else◌, List, length, set, Result, Ok, Err, sym, ap, subst, ◌∙◌, arith, length-set}
use Rattle.std.specs.List.{list_all}
use Rattle.std.specs.Result.{IfOk, OnErr}
use Rattle.bc_superpages.specs.RootWords.{RootWords}
use Rattle.bc_whole_heap.specs.Heaps.{HeapView}
use Rattle.bc_whole_heap.specs.Running.{IsRunning}
use Rattle.bc_whole_heap.specs.LaneStates.{StandsAs}
use Rattle.bc_whole_heap.proofs.ChunkLemmas.{AreApart-laid}
use Rattle.bc_model.specs.State.{State, holder_of, lets_read, reads}
use Rattle.bc_model.specs.Step.{step, act, domains_of, target_of, target_writes}
use Rattle.bc_model.specs.declared.operations.Op.{Op}
use Rattle.bc_model.specs.declared.operations.Reply.{Reply}
use Rattle.bc_model.specs.declared.operations.Reply.TheVariants.{Foreign, Frozen}
use Rattle.bc_mutator.specs.Effects.{DidAct, DidOperation}
use Rattle.bc_mutator.specs.Objects.{MayOperate, own_chunk}
use Rattle.bc_mutator.specs.Operations.{NoneLater, slot_open, target_open}
use Rattle.bc_mutator.proofs.ChangeLemmas.{foreign-changes, frozen-changes}
use Rattle.bc_model.specs.declared.values.Holder.{Holder}
use Rattle.bc_mutator.proofs.HolderLemmas.{open-same}
use Rattle.bc_mutator.proofs.ObjectLemmas.{LieBehind-laid}
use Rattle.bc_mutator.proofs.RecordLemmas.{foreign-records, frozen-records}
use Rattle.bc_mutator.proofs.RootLemmas.{done-nothing}

-- a lane that may read what the operation names and write the slot that it writes does it
named-same : (state : State) (hs : List Holder) (lane : ℕ) (op : Op) (t : Bool) → state.holders ≡ hs → list_all (λ d. lets_read (holder_of hs d) lane) (domains_of op) ≡ t → list_all (reads state lane) (domains_of op) ≡ t
named-same state hs lane op t same held = ap (λ (xs : List Holder). list_all (λ d. lets_read (holder_of xs d) lane) (domains_of op)) same ∙ held

target-same : (state : State) (hs : List Holder) (lane : ℕ) (op : Op) (t : Bool) → state.holders ≡ hs → target_open hs lane op ≡ t → target_writes state lane op ≡ t
target-same state hs lane op t same own = open-same state lane (target_of op) ∙ ap (λ (xs : List Holder). slot_open xs lane (target_of op)) same ∙ own

abbrev tested : State → ℕ → Op → Bool → Bool → State × Reply
tested state lane op named free = if named then (if free then act state lane op else (state, Frozen)) else (state, Foreign)

step-act : (state : State) (hs : List Holder) (lane : ℕ) (op : Op) → state.holders ≡ hs → list_all (λ d. lets_read (holder_of hs d) lane) (domains_of op) ≡ true → target_open hs lane op ≡ true → step state lane op ≡ act state lane op
step-act state hs lane op same held own =
    ap (λ (t : Bool). tested state lane op t (target_writes state lane op)) (named-same state hs lane op true same held)
    ∙ ap (λ (t : Bool). tested state lane op true t) (target-same state hs lane op true same own)

pub did-step : (h k : HeapView) (hs : List Holder) (lane serial next : ℕ) (op : Op) (reply : Reply) → list_all (λ d. lets_read (holder_of hs d) lane) (domains_of op) ≡ true → target_open hs lane op ≡ true → DidAct h k hs lane serial next op reply → DidOperation h k hs lane serial next op reply
did-step h k hs lane serial next op reply held own done = record {
  step = λ serials state means e.
      subst (λ (x : State × Reply). (x.1 ≡ reply) × StandsAs k hs (set serials lane next) x.0) (sym (step-act state hs lane op means.held held own))
      (done.step serials state means e);
  running = done.running;
  later = done.later;
  others_later = done.others_later;
  layout = done.layout;
  whole = done.whole;
  leaves = done.leaves;
  recorded = done.recorded;
  changed = done.changed;
}

-- and one that doesn't is answered so
step-foreign : (state : State) (hs : List Holder) (lane : ℕ) (op : Op) → state.holders ≡ hs → list_all (λ d. lets_read (holder_of hs d) lane) (domains_of op) ≡ false → step state lane op ≡ (state, Foreign)
step-foreign state hs lane op same off =
    ap (λ (t : Bool). tested state lane op t (target_writes state lane op)) (named-same state hs lane op false same off)

step-frozen : (state : State) (hs : List Holder) (lane : ℕ) (op : Op) → state.holders ≡ hs → list_all (λ d. lets_read (holder_of hs d) lane) (domains_of op) ≡ true → target_open hs lane op ≡ false → step state lane op ≡ (state, Frozen)
step-frozen state hs lane op same held off =
    ap (λ (t : Bool). tested state lane op t (target_writes state lane op)) (named-same state hs lane op true same held)
    ∙ ap (λ (t : Bool). tested state lane op true t) (target-same state hs lane op false same off)

pub frozen-step : (h : HeapView) (hs : List Holder) (lane serial : ℕ) (op : Op) → MayOperate h hs lane → list_all (λ d. lets_read (holder_of hs d) lane) (domains_of op) ≡ true → target_open hs lane op ≡ false → DidOperation h h hs lane serial serial op Frozen
frozen-step h hs lane serial op ready held off =
    done-nothing (λ state. step state lane op) h hs lane serial op Frozen ready (λ serials state means. step-frozen state hs lane op means.held held off)
    (frozen-records h hs lane op Frozen off) (frozen-changes h hs lane serial op)

pub foreign-step : (h : HeapView) (hs : List Holder) (lane serial : ℕ) (op : Op) → MayOperate h hs lane → list_all (λ d. lets_read (holder_of hs d) lane) (domains_of op) ≡ false → DidOperation h h hs lane serial serial op Foreign
foreign-step h hs lane serial op ready off =
    done-nothing (λ state. step state lane op) h hs lane serial op Foreign ready (λ serials state means. step-foreign state hs lane op means.held off)
    (foreign-records h hs lane op Foreign off) (foreign-changes h hs lane serial op)

-- no birth is later than the lane's number of them
pub record StayBorn (h k : HeapView) (lane serial next : ℕ) : Type 0 where
  pub own : NoneLater h.space h.chunks lane serial → NoneLater k.space k.chunks lane next
  pub others : (l n : ℕ) → l ≢ lane → NoneLater h.space h.chunks l n → NoneLater k.space k.chunks l n

pub stay-born : {E : Type 0} (h k : HeapView) (hs : List Holder) (lane serial next : ℕ) (op : Op) (r : Result Reply E) → IfOk r (λ reply. DidOperation h k hs lane serial next op reply) → OnErr r ((k ≡ h) × (next ≡ serial)) → StayBorn h k lane serial next
stay-born h k hs lane serial next op (Ok reply) done same = record { own = done.later; others = done.others_later }
stay-born h k hs lane serial next op (Err stop) done same =
    subst (λ (x : HeapView). StayBorn h x lane serial next) (sym same.0)
    (subst (λ (n : ℕ). StayBorn h h lane serial n) (sym same.1) (record { own = λ none. none; others = λ l n ne none. none }))

-- the lane may operate again
pub next-ready : (h k : HeapView) (hs : List Holder) (lane serial next : ℕ) (op : Op) (reply : Reply) → MayOperate h hs lane → DidOperation h k hs lane serial next op reply → NoneLater h.space h.chunks lane serial → MayOperate k hs lane
next-ready h k hs lane serial next op reply ready done none =
    let running : IsRunning k hs = done.running none in
    let within : lane < length k.chunks =
    (let long = ap length done.leaves.chunks ∙ length-set h.chunks lane (own_chunk k lane) in let lt = ready.lane_within in omega arith) in
    record {
      running = running;
      layout = done.layout;
      few_domains = (let same = ap (λ (r : RootWords). r.domains) done.leaves.roots in let few = ready.few_domains in omega arith);
      lane_within = within;
      whole = done.whole;
      apart = AreApart-laid _ running.laid.0 k.chunks running.laid.1 done.whole;
      behind = LieBehind-laid k.space running.laid.0 k.chunks lane running.laid.1 within (done.whole lane within);
    }
