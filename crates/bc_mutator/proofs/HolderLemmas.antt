-- Who may read and write a domain, by its holder, and what words of it refer to.
use Rattle.std.proofs.Common.{◌≡◌, ◌⊎◌, ℕ, true, List, Option, Some, None, inl, inr, refl, subst, eqb-true}
use Rattle.bc_model.specs.State.{State, lets_read}
use Rattle.bc_model.specs.Step.{may_write}
use Rattle.bc_model.specs.declared.values.Holder.{Holder}
use Rattle.bc_model.specs.declared.values.Holder.TheVariants.{Lane, Frozen}
use Rattle.bc_model.specs.declared.values.Slot.{Slot}
use Rattle.bc_nursery.specs.Entries.{Entries}
use Rattle.bc_nursery.specs.Nurseries.{Nursery}
use Rattle.bc_nursery.specs.Objects.{has_object}
use Rattle.bc_superpages.specs.Layout.{Layout}
use Rattle.bc_superpages.specs.LayoutAt.{IsAllocated}
use Rattle.bc_whole_heap.specs.Closed.{IsCellOrYoung, IsRecorded, buffer_for}
use Rattle.bc_whole_heap.proofs.HolderLemmas.{none-young}
use Rattle.bc_whole_heap.specs.LaneChunks.{chunk_of, chunk_for}
use Rattle.bc_mutator.specs.Operations.{slot_open}

-- what a word of a domain refers to that the lane may read is a cell, or lies in the lane's own chunk
pub read-own : (s : Layout) (cs : List Nursery) (x : Holder) (lane a : ℕ) → lets_read x lane ≡ true → IsCellOrYoung s (chunk_for cs x) a → IsCellOrYoung s (chunk_of cs lane) a
read-own s cs (Lane l) lane a may there = subst (λ (k : ℕ). IsCellOrYoung s (chunk_of cs k) a) (eqb-true l lane may) there
read-own s cs Frozen lane a may (inl on) = inl on
read-own s cs Frozen lane a may (inr on) = absurd (none-young a on)

-- what each lane's words refer to that they did before, words of each domain do
pub for-holder : (s : Layout) (cs ds : List Nursery) → ((l a : ℕ) → IsCellOrYoung s (chunk_of cs l) a → IsCellOrYoung s (chunk_of ds l) a) → (x : Holder) (a : ℕ) → IsCellOrYoung s (chunk_for cs x) a → IsCellOrYoung s (chunk_for ds x) a
for-holder s cs ds kept (Lane l) a there = kept l a there
for-holder s cs ds kept Frozen a there = there

-- the same of words that are recorded
abbrev pub Named : Layout → List Nursery → List Entries → Holder → ℕ → ℕ → ℕ → Type 0
Named s cs bs x a k b = IsAllocated s b ⊎ ((has_object (chunk_for cs x) b ≡ true) × IsRecorded (buffer_for bs x) a k)

pub named-for : (s t : Layout) (cs ds : List Nursery) (bs es : List Entries) (a k b : ℕ) → (IsAllocated s b → IsAllocated t b)
    → ((l : ℕ) → Named s cs bs (Lane l) a k b → Named t ds es (Lane l) a k b) → (x : Holder) → Named s cs bs x a k b → Named t ds es x a k b
named-for s t cs ds bs es a k b cells kept (Lane l) named = kept l named
named-for s t cs ds bs es a k b cells kept Frozen (inl on) = inl (cells on)
named-for s t cs ds bs es a k b cells kept Frozen (inr named) = absurd (none-young b named.0)

pub read-named : (s : Layout) (cs : List Nursery) (bs : List Entries) (x : Holder) (lane a k b : ℕ) → lets_read x lane ≡ true → Named s cs bs x a k b → IsCellOrYoung s (chunk_of cs lane) b
read-named s cs bs (Lane l) lane a k b may (inl on) = inl on
read-named s cs bs (Lane l) lane a k b may (inr on) = inr (subst (λ (j : ℕ). has_object (chunk_of cs j) b ≡ true) (eqb-true l lane may) on.0)
read-named s cs bs Frozen lane a k b may (inl on) = inl on
read-named s cs bs Frozen lane a k b may (inr on) = absurd (none-young b on.0)

-- the slot that is written, told of a state
pub open-same : (state : State) (lane : ℕ) (t : Option Slot) → may_write state lane t ≡ slot_open state.holders lane t
open-same state lane None = refl
open-same state lane (Some p) = refl
