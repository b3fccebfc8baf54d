-- What an operation that is done or stops means to the lanes.
use Rattle.std.proofs.Common.{◌≡◌, ◌⊎◌, ℕ, ◌*◌, ◌<◌, ◌≤◌, List, [], length, get_or, Result, Ok, Err, refl, sym, ap, subst, ◌∙◌, arith, get_or-set_other, length-set, inl, inr}
use Rattle.std.specs.Result.{IfOk, OnErr}
use Rattle.std.specs.Prelude.{IsErrOf}
use Rattle.bc_classes.proofs.ClassLemmas.{class_of-class}
use Rattle.bc_whole_heap.specs.Closed.{buffer_of}
use Rattle.bc_whole_heap.specs.LaneChunks.{chunk_of}
use Rattle.bc_bookmarks.specs.Moves.{MovesPages, NoPageGoes}
use Rattle.bc_whole_heap.proofs.MovingLemmas.{running-moved, stands-moved}
use Rattle.bc_running.specs.Running.{RunningView, RunningStands}
use Rattle.bc_running.specs.RunningFacts.{IsSound, StaysBut, with_space}
use Rattle.bc_running.specs.Touching.{LooksAtGone, SameRemembered}
use Rattle.bc_running.proofs.MovingLemmas.{needs-kept}
use Rattle.bc_running.proofs.SoundLemmas.{none-young}
use Rattle.bc_model.specs.State.{State}
use Rattle.bc_model.specs.Step.{step}
use Rattle.bc_model.specs.declared.operations.Op.{Op}
use Rattle.bc_model.specs.declared.operations.Op.TheVariants.{New, Who, Len, Set, Cut, Link, Load, Copy, Clear, Same}
use Rattle.bc_model.specs.declared.operations.Reply.{Reply}
use Rattle.bc_model.specs.declared.traces.Setup.{Setup}
use Rattle.bc_model.specs.declared.values.Holder.{Holder}
use Rattle.bc_model.proofs.Steps.{made-step}
use Rattle.bc_mutator.specs.Operations.{IsOpOf, WantsMore, NeedsEntry}
use Rattle.bc_mutator.specs.declared.operations.Stop.{Stop}
use Rattle.bc_mutator.specs.declared.operations.Stop.TheVariants.{NurseryFull, BufferFull, NoFrame}
use Rattle.bc_mutator.proofs.NewLemmas.{births-count, none-later}
use Rattle.bc_nursery.specs.Entries.{Entries}
use Rattle.bc_nursery.specs.Objects.{left_of, words_of}
use Rattle.bc_nursery.specs.Nurseries.{Nursery}
use Rattle.bc_superpages.specs.Layout.{Layout, superpages}
use Rattle.bc_superpages.specs.RootWords.{RootWords}
use Rattle.bc_engine.specs.EngineFacts.{CanRunLanes, IsUnrecorded}
use Rattle.bc_engine.specs.Lanes.{Does, Stops}
use Rattle.bc_engine.proofs.Sizes.{fits-moved, fits-step}
use Rattle.bc_lane.proofs.WholeLemmas.{op-fits}

-- what the operation is to every state that the heap stands for
abbrev pub IsStep : ℕ → Op → RunningView → RunningView → Reply → Type 0
IsStep lane op r q reply = (state : State) → RunningStands r state → ((step state lane op).1 ≡ reply) × RunningStands q (step state lane op).0

-- lanes run on a heap that is in order
pub ready-sound : {setup : Setup} {r : RunningView} → CanRunLanes setup r → IsSound r
ready-sound {setup} {r} ready = record {
  running = ready.order;
  later = λ l lt. none-later r.heap r.holders r.serials ready.meant.0 ready.meant.1 l;
  frames = ready.fits.two;
  lanes = ready.fits.lanes ∙ sym ready.lanes;
  few = omega (arith, ready.lanes, ready.range.lanes.1);
}

pub does-step : {setup : Setup} {r q : RunningView} (lane : ℕ) (op : Op) (reply : Reply) → CanRunLanes setup r → lane < length r.serials → IsOpOf r.heap.roots op → StaysBut lane r q → IsStep lane op r q reply → Does lane op r reply q
does-step {setup} {r} {q} lane op reply ready within fits stays is =
    let state = ready.meant.0 in
    let st = ready.meant.1 in
    let next = (is state st).1 in
    let before = births-count r.holders r.serials lane state st in
    let now = births-count q.holders q.serials lane (step state lane op).0 next in
    let made : lane < length state.made = omega (arith, within, ready.lanes, ready.fits.lanes, st.lanes) in
    let few = made-step state lane op lane st.consistent made (op-fits r.heap r.holders r.serials state op st fits) in
    record {
      means = is;
      own = omega (arith, before, now, few);
      others = λ l ne. ap (λ (ns : List ℕ). get_or ns l 0) stays.serials ∙ get_or-set_other r.serials lane l (get_or q.serials lane 0) 0 ne;
      held = stays.holders;
    }

-- where pages move lanes can run on
pub ready-moved : (setup : Setup) {r q : RunningView} → MovesPages r.heap.space q.heap.space → q ≡ with_space r q.heap.space → CanRunLanes setup r → CanRunLanes setup q
ready-moved setup {r} {q} moves rest ready = subst (CanRunLanes setup) (sym rest) (record {
  range = ready.range;
  order = running-moved r.heap q.heap.space r.holders moves ready.order;
  fits = fits-moved setup moves ready.fits;
  lanes = ready.lanes;
  meant = (ready.meant.0, stands-moved r.heap q.heap.space r.holders r.serials ready.meant.0 moves ready.meant.1);
})

pub means-moved : {r q : RunningView} → MovesPages r.heap.space q.heap.space → q ≡ with_space r q.heap.space → (state : State) → RunningStands r state → RunningStands q state
means-moved {r} {q} moves rest state stands =
    subst (λ (x : RunningView). RunningStands x state) (sym rest) (stands-moved r.heap q.heap.space r.holders r.serials state moves stands)

-- pages moved, and nothing else changed
abbrev pub IsMoved : RunningView → RunningView → Type 0
IsMoved r q = MovesPages r.heap.space q.heap.space × (q ≡ with_space r q.heap.space)

pub ready-step : (setup : Setup) {r q : RunningView} (lane : ℕ) (op : Op) (x : Result Reply Stop) → StaysBut lane r q → IsSound q → IfOk x (IsStep lane op r q) → OnErr x (IsMoved r q) → CanRunLanes setup r → CanRunLanes setup q
ready-step setup {r} {q} lane op (Ok reply) stays sound is same ready = record {
  range = ready.range;
  order = sound.running;
  fits = fits-step setup stays ready.fits;
  lanes = ap length stays.serials ∙ length-set r.serials lane (get_or q.serials lane 0) ∙ ready.lanes;
  meant = ((step ready.meant.0 lane op).0, (is ready.meant.0 ready.meant.1).1);
}
ready-step setup lane op (Err stop) stays sound is same ready = ready-moved setup same.0 same.1 ready

-- an empty chunk has room for every object
never-full : (hs : List Holder) (lane words : ℕ) (c : Nursery) (op : Op) → c.objects ≡ [] → 512 ≤ c.words → WantsMore hs lane (left_of c) op → ⊥
never-full hs lane words c (New p n) none long wants =
    let left : words_of c.objects ≡ 0 = ap words_of none in
    let class = class_of-class n in
    grind (arith)
never-full hs lane words c (Who p) none long wants = wants
never-full hs lane words c (Len p) none long wants = wants
never-full hs lane words c (Set p i v) none long wants = wants
never-full hs lane words c (Cut p i) none long wants = wants
never-full hs lane words c (Link p i q) none long wants = wants
never-full hs lane words c (Load p i q) none long wants = wants
never-full hs lane words c (Copy p q) none long wants = wants
never-full hs lane words c (Clear p) none long wants = wants
never-full hs lane words c (Same p q) none long wants = wants

-- and nothing that is to be recorded refers to it
never-recorded : (hs : List Holder) (lane : ℕ) (s : Layout) (roots : RootWords) (c : Nursery) (b : Entries) (op : Op) → c.objects ≡ [] → NeedsEntry hs lane s roots c b op → ⊥
never-recorded hs lane s roots c b (Link p i q) none needs = none-young c needs.0.young.0 none needs.0.there
never-recorded hs lane s roots c b (New p n) none needs = needs
never-recorded hs lane s roots c b (Who p) none needs = needs
never-recorded hs lane s roots c b (Len p) none needs = needs
never-recorded hs lane s roots c b (Set p i v) none needs = needs
never-recorded hs lane s roots c b (Cut p i) none needs = needs
never-recorded hs lane s roots c b (Load p i q) none needs = needs
never-recorded hs lane s roots c b (Copy p q) none needs = needs
never-recorded hs lane s roots c b (Clear p) none needs = needs
never-recorded hs lane s roots c b (Same p q) none needs = needs

pub never-stops : {setup : Setup} {r : RunningView} (lane : ℕ) (op : Op) (x : Result Reply Stop) → CanRunLanes setup r → lane < setup.lanes → (chunk_of r.heap.chunks lane).objects ≡ [] → (IsErrOf x NurseryFull → WantsMore r.holders lane (left_of (chunk_of r.heap.chunks lane)) op) → (IsErrOf x BufferFull → NeedsEntry r.holders lane r.heap.space r.heap.roots (chunk_of r.heap.chunks lane) (buffer_of r.heap.buffers lane) op) → (IsErrOf x NoFrame → ⊥) → OnErr x ⊥
never-stops lane op (Ok reply) ready within none full wants frame = tt
never-stops {setup} {r} lane op (Err NurseryFull) ready within none full wants frame =
    let long : (chunk_of r.heap.chunks lane).words ≡ 512 * setup.nursery = ready.fits.words lane within in
    never-full r.holders lane 0 (chunk_of r.heap.chunks lane) op none (omega (arith, long, ready.range.nursery.0)) (full refl)
never-stops {setup} {r} lane op (Err BufferFull) ready within none full wants frame =
    never-recorded r.holders lane r.heap.space r.heap.roots (chunk_of r.heap.chunks lane) (buffer_of r.heap.buffers lane) op none (wants refl)
never-stops lane op (Err NoFrame) ready within none full wants frame = frame refl

-- why an operation stopped
pub why-stopped : (A B C : Type 0) (r : Result Reply Stop) → (IsErrOf r NurseryFull → A) → (IsErrOf r BufferFull → B) → (IsErrOf r NoFrame → C) → OnErr r (A ⊎ (B ⊎ C))
why-stopped A B C (Ok reply) full wants frame = tt
why-stopped A B C (Err NurseryFull) full wants frame = inl (full refl)
why-stopped A B C (Err BufferFull) full wants frame = inr (inl (wants refl))
why-stopped A B C (Err NoFrame) full wants frame = inr (inr (frame refl))

-- of the heap of which pages moved
pub still-stops : (lane : ℕ) (op : Op) {r q : RunningView} → IsMoved r q
    → (WantsMore r.holders lane (left_of (chunk_of r.heap.chunks lane)) op) ⊎ ((NeedsEntry r.holders lane r.heap.space r.heap.roots (chunk_of r.heap.chunks lane) (buffer_of r.heap.buffers lane) op) ⊎ (LooksAtGone r.holders lane r.heap.space r.heap.roots op × NoPageGoes r.heap.space × (q ≡ r)))
    → Stops lane op q
still-stops lane op {r} {q} moved (inl wants) = subst (Stops lane op) (sym moved.1) (inl wants)
still-stops lane op {r} {q} moved (inr (inl needs)) =
    subst (Stops lane op) (sym moved.1) (inr (inl (needs-kept r.holders lane r.heap.roots (chunk_of r.heap.chunks lane) (buffer_of r.heap.buffers lane) op moved.0 needs)))
still-stops lane op {r} {q} moved (inr (inr frame)) = subst (Stops lane op) (sym frame.2) (inr (inr (frame.0, frame.1)))

-- where nothing was recorded nothing is, if no buffer changed and no page became Remembered
pub unrecorded-kept : {lane : ℕ} {r q : RunningView} → (q.heap.buffers ≡ r.heap.buffers) × SameRemembered r.heap.space q.heap.space → StaysBut lane r q → IsUnrecorded r.heap → IsUnrecorded q.heap
unrecorded-kept {lane} {r} {q} same stays none = record {
  entries = λ l. ap (λ (bs : List Entries). (buffer_of bs l).entries) same.0 ∙ none.entries l;
  remembered = λ p lt is.
      none.remembered p (let long = ap (λ (s : Layout). superpages s) stays.space in omega arith)
      ((same.1 p).0 is);
}
