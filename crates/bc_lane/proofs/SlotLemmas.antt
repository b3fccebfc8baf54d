-- What root words have of the slots that a lane may read.
use Rattle.std.proofs.Common.{◌≡◌, ◌≢◌, ℕ, ◌+◌, ◌<◌, true, List, length, get_or, set, ap, sym, subst, ◌∙◌, inl, inr, arith, get_or-set_same, get_or-set_other, length-set}
use Rattle.std.proofs.lemmas.Bool.{cases_eq, cases_lt}
use Rattle.std.proofs.lemmas.Nat.{mul-add-lt, same_from_place}
use Rattle.bc_lane.specs.Shown.{ShowsSlots, slot_bits}
use Rattle.bc_model.proofs.Holders.{held-reader, reader}
use Rattle.bc_model.specs.State.{holder_of, lets_read}
use Rattle.bc_model.specs.WellFormed.{IsSlot}
use Rattle.bc_model.specs.declared.values.Holder.{Holder}
use Rattle.bc_model.specs.declared.values.Holder.TheVariants as holder
use Rattle.bc_model.specs.declared.values.Slot.{Slot}
use Rattle.bc_mutator.specs.Effects.{with_root}
use Rattle.bc_mutator.specs.Objects.{slot_word}
use Rattle.bc_mutator.specs.Operations.{setup_of}
use Rattle.bc_superpages.specs.RootWords.{RootWords}
use Rattle.bc_superpages.specs.RootSlots.{root_place}
use Rattle.bc_word.specs.WordBits.{IsPacked, word_bits}
use Rattle.bc_word.specs.Words.{word_of_bits}
use Rattle.bc_word.specs.declared.words.Word.{Word}

no-lane : (x : Holder) (lane : ℕ) → x ≡ holder.Frozen → x ≡ holder.Lane lane → ⊥
no-lane x lane e f = clash (sym e ∙ f)
  where
    clash : holder.Frozen ≡ holder.Lane lane → ⊥
    clash g = cc

module _ (hs : List Holder) (lane slots : ℕ) (shared : RootWords) (starts words : List ℕ) (r : RootWords) (p : Slot) (shown : ShowsSlots hs lane slots shared starts words r) (is : IsSlot (setup_of r) p) (own : holder_of hs p.domain ≡ holder.Lane lane) where
  abbrev pub place : ℕ
  place = get_or starts p.domain 0 + p.slot

  pub own-domain : p.domain < length hs
  own-domain = let lt = is.0 in let e = shown.domains_are in omega arith

  pub own-start : p.domain < length starts
  own-start = let lt = own-domain in let e = shown.starts_long in omega arith

  pub own-slot : p.slot < slots
  own-slot = let lt = is.1 in let e = shown.slots_are p.domain own-domain own in omega arith

  pub own-place : place < length words
  own-place = let lt = own-slot in let le = shown.within p.domain own-domain own in omega arith

  pub own-word : slot_word r p ≡ word_of_bits (get_or words place 0)
  own-word = ap word_of_bits (shown.same p.domain p.slot own-domain own own-slot)

  -- the slot becomes the word
  here : (bits : ℕ) → get_or (set r.words (root_place r p.domain p.slot) bits) (root_place r p.domain p.slot) 0 ≡ get_or (set words place bits) place 0
  here bits =
      let lt : root_place r p.domain p.slot < length r.words = (let a = mul-add-lt p.domain r.slots p.slot r.domains is.0 is.1 in let long = shown.long in omega arith) in
      get_or-set_same r.words _ bits 0 lt ∙ sym (get_or-set_same words place bits 0 own-place)

  apart : (d t : ℕ) → d < length hs → holder_of hs d ≡ holder.Lane lane → t < slots → (d ≡ p.domain → t ≢ p.slot) → get_or starts d 0 + t ≢ place
  apart d t within own_d lt ne e = elim (cases_eq d p.domain) [
    | inl same ↦ ne same (let z = ap (λ (x : ℕ). get_or starts x 0) same in omega arith)
    | inr other ↦ elim (cases_lt d p.domain) [
      | inl less ↦ let le = shown.apart d p.domain less own-domain own_d own in let lt_p = own-slot in omega arith
      | inr more ↦ let le = shown.apart p.domain d (omega arith) within own own_d in let lt_p = own-slot in omega arith
    ]
  ]

  there : (bits d t : ℕ) → d < length hs → holder_of hs d ≡ holder.Lane lane → t < slots → (d ≡ p.domain → t ≢ p.slot)
      → get_or (set r.words (root_place r p.domain p.slot) bits) (root_place r d t) 0 ≡ get_or (set words place bits) (get_or starts d 0 + t) 0
  there bits d t within own_d lt ne =
      let width = shown.slots_are p.domain own-domain own in
      let less : t < r.slots = omega arith in
      let other : root_place r d t ≢ root_place r p.domain p.slot = λ e. (let two = same_from_place d t p.domain p.slot r.slots less is.1 e in ne two.0 two.1) in
      get_or-set_other r.words _ _ bits 0 other ∙ shown.same d t within own_d lt ∙ sym (get_or-set_other words place _ bits 0 (apart d t within own_d lt ne))

  each : (bits d t : ℕ) → d < length hs → holder_of hs d ≡ holder.Lane lane → t < slots
      → get_or (set r.words (root_place r p.domain p.slot) bits) (root_place r d t) 0 ≡ get_or (set words place bits) (get_or starts d 0 + t) 0
  each bits d t within own_d lt = elim (cases_eq d p.domain) [
    | inl same ↦ elim (cases_eq t p.slot) [
      | inl one ↦
          subst (λ (x : ℕ). get_or (set r.words (root_place r p.domain p.slot) bits) (root_place r x t) 0 ≡ get_or (set words place bits) (get_or starts x 0 + t) 0) (sym same)
          (subst (λ (x : ℕ). get_or (set r.words (root_place r p.domain p.slot) bits) (root_place r p.domain x) 0 ≡ get_or (set words place bits) (get_or starts p.domain 0 + x) 0) (sym one) (here bits))
      | inr ne ↦ there bits d t within own_d lt (λ _. ne)
    ]
    | inr other ↦ there bits d t within own_d lt (λ e. absurd (other e))
  ]

  packed-set : (bits : ℕ) → IsPacked bits → (k : ℕ) → IsPacked (get_or (set words place bits) k 0)
  packed-set bits packed k = elim (cases_eq k place) [
    | inl e ↦ subst IsPacked (sym (ap (λ (x : ℕ). get_or (set words place bits) x 0) e ∙ get_or-set_same words place bits 0 own-place)) packed
    | inr ne ↦ subst IsPacked (sym (get_or-set_other words place k bits 0 ne)) (shown.packed k)
  ]

  -- a slot of a frozen domain is another one
  still : (bits d t : ℕ) → holder_of hs d ≡ holder.Frozen → t < r.slots → get_or (set r.words (root_place r p.domain p.slot) bits) (root_place r d t) 0 ≡ get_or r.words (root_place r d t) 0
  still bits d t frozen lt =
      let other : root_place r d t ≢ root_place r p.domain p.slot = λ e.
      (let two = same_from_place d t p.domain p.slot r.slots lt is.1 e in no-lane (holder_of hs d) lane frozen (ap (holder_of hs) two.0 ∙ own)) in
      get_or-set_other r.words _ _ bits 0 other

  pub shows-set : (w : Word) → IsPacked (word_bits w) → ShowsSlots hs lane slots shared starts (set words place (word_bits w)) (with_root r p w)
  shows-set w packed = record {
    domains_are = shown.domains_are;
    slots_are = shown.slots_are;
    long = length-set r.words (root_place r p.domain p.slot) (word_bits w) ∙ shown.long;
    starts_long = shown.starts_long;
    within = λ d lt own_d. let le = shown.within d lt own_d in let long = length-set words place (word_bits w) in omega arith;
    apart = shown.apart;
    same = each (word_bits w);
    packed = packed-set (word_bits w) packed;
    shared_sizes = shown.shared_sizes;
    frozen = λ d t within fz lt. still (word_bits w) d t fz lt ∙ shown.frozen d t within fz lt;
  }

-- a slot that the lane may read, of its own or of a frozen domain
module _ (hs : List Holder) (lane slots : ℕ) (shared : RootWords) (starts words : List ℕ) (r : RootWords) (p : Slot) (shown : ShowsSlots hs lane slots shared starts words r) (is : IsSlot (setup_of r) p) (may : lets_read (holder_of hs p.domain) lane ≡ true) where
  abbrev bits-of : Holder → ℕ
  bits-of x = slot_bits x starts words shared p

  pub read-domain : p.domain < length hs
  read-domain = let lt = is.0 in let e = shown.domains_are in omega arith

  pub read-own : (l : ℕ) → holder_of hs p.domain ≡ holder.Lane l → (p.domain < length starts) × (get_or starts p.domain 0 + p.slot < length words)
  read-own l own =
      let mine : holder_of hs p.domain ≡ holder.Lane lane = own ∙ ap holder.Lane (held-reader (holder_of hs p.domain) l lane own may) in
      (own-start hs lane slots shared starts words r p shown is mine, own-place hs lane slots shared starts words r p shown is mine)

  pub read-frozen : holder_of hs p.domain ≡ holder.Frozen → (p.domain < shared.domains) × (p.slot < shared.slots)
  read-frozen frozen =
      let a = shown.shared_sizes.0 in
      let b = shown.shared_sizes.1 in
      let lt = is.0 in
      let less = is.1 in
      (omega arith, omega arith)

  pub read-word : slot_word r p ≡ word_of_bits (slot_bits (holder_of hs p.domain) starts words shared p)
  read-word = elim (reader (holder_of hs p.domain) lane may) [
    | inl own ↦ own-word hs lane slots shared starts words r p shown is own ∙ sym (ap (λ (x : Holder). word_of_bits (bits-of x)) own)
    | inr frozen ↦ ap word_of_bits (shown.frozen p.domain p.slot read-domain frozen is.1) ∙ sym (ap (λ (x : Holder). word_of_bits (bits-of x)) frozen)
  ]
