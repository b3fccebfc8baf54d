-- The flags of a pool as its bits show them, and what a frame that is taken or given leaves of them.
use Rattle.std.proofs.Common.{◌≡◌, ◌≢◌, ℕ, ◌+◌, ◌-◌, ◌*◌, ◌/◌, ◌<◌, ◌≤◌, inl, inr, Bool, true, false, not, List, length, set, ap, sym, ◌∙◌, arith, length-set, get_or-set_same, get_or-set_other}
use Rattle.std.proofs.lemmas.Bool.{cases_eq, cases_lt}
use Rattle.std.proofs.lemmas.List.{get_or_past, ext_get_or}
use Rattle.std.proofs.lemmas.List.FromFn.{length-map-range_with_len, get_or-map-range_with_len}
use Rattle.bc_bits.specs.Bits.{has}
use Rattle.bc_bits.specs.BitChanges.{with_bit, without_bit}
use Rattle.bc_bits.specs.Counting.{one_if}
use Rattle.bc_bits.proofs.BitLemmas.{length-with_bit, length-without_bit, has-with_bit_same, has-with_bit_other, has-without_bit_same, has-without_bit_other, AreWords-with_bit, AreWords-without_bit}
use Rattle.bc_frames.specs.Pool.{is_free, free_count}
use Rattle.bc_frames.specs.FrameBits.{flags_in, HasFrameBits}
use Rattle.bc_frames.proofs.PoolLemmas.{free-below, free_count-set}

pub length-flags_in : (ws : List ℕ) (n : ℕ) → length (flags_in ws n) ≡ n
unfolding flags_in
length-flags_in ws n = length-map-range_with_len (λ f. not (has ws f)) 0 n

pub is_free-in : (ws : List ℕ) (n f : ℕ) → f < n → is_free (flags_in ws n) f ≡ not (has ws f)
unfolding flags_in
is_free-in ws n f lt = get_or-map-range_with_len (λ g. not (has ws g)) 0 n f f false lt (omega arith)

pub is_free-out : (ws : List ℕ) (n f : ℕ) → n ≤ f → is_free (flags_in ws n) f ≡ false
is_free-out ws n f le = get_or_past (flags_in ws n) f false (rw length-flags_in le)

-- a frame of a pool that is free is one of its frames
pub free-frame : (ws : List ℕ) (n f : ℕ) → is_free (flags_in ws n) f ≡ true → f < n
free-frame ws n f free = let lt = free-below (flags_in ws n) f free in let long = length-flags_in ws n in omega arith

-- a pool of which each frame is known by its flag
pub flags_in-are : (ws : List ℕ) (n : ℕ) (fs : List Bool) → length fs ≡ n → ((f : ℕ) → f < n → not (has ws f) ≡ is_free fs f) → flags_in ws n ≡ fs
flags_in-are ws n fs long each =
    ext_get_or false (flags_in ws n) fs (length-flags_in ws n ∙ sym long) (λ f lt.
    let below : f < n = let size = length-flags_in ws n in omega arith in
    is_free-in ws n f below ∙ each f below)

-- where one bit changed, one flag did
pub flags_in-set : (ws vs : List ℕ) (n f : ℕ) (v : Bool) → f < n → not (has vs f) ≡ v → ((i : ℕ) → i ≢ f → has vs i ≡ has ws i) → flags_in vs n ≡ set (flags_in ws n) f v
flags_in-set ws vs n f v lt here others =
    flags_in-are vs n (set (flags_in ws n) f v) (length-set (flags_in ws n) f v ∙ length-flags_in ws n) (λ i below.
    elim (cases_eq i f) [
      | inl same ↦ rw same (here ∙ sym (get_or-set_same (flags_in ws n) f v false (rw length-flags_in lt)))
      | inr other ↦ ap not (others i other) ∙ sym (is_free-in ws n i below) ∙ sym (get_or-set_other (flags_in ws n) f i v false other)
    ])

-- the word of a frame is one of the pool's
pub frame-word : (ws : List ℕ) (n free first f : ℕ) → HasFrameBits ws n free first → f < n → f / 64 < length ws
frame-word ws n free first f h lt = let long = h.long in omega arith

-- a frame is taken
pub flags-occupied : (ws : List ℕ) (n free first f : ℕ) → HasFrameBits ws n free first → is_free (flags_in ws n) f ≡ true → flags_in (with_bit ws f) n ≡ set (flags_in ws n) f false
flags-occupied ws n free first f h on =
    let lt = free-frame ws n f on in
    let word = frame-word ws n free first f h lt in
    flags_in-set ws (with_bit ws f) n f false lt (ap not (has-with_bit_same ws f (omega arith))) (λ i ne. has-with_bit_other ws f i ne)

pub count-occupied : (ws : List ℕ) (n free first f : ℕ) → HasFrameBits ws n free first → is_free (flags_in ws n) f ≡ true → free_count (set (flags_in ws n) f false) + 1 ≡ free
count-occupied ws n free first f h on =
    let lt = free-below (flags_in ws n) f on in
    let changed = free_count-set (flags_in ws n) f false lt in
    let one : one_if (is_free (flags_in ws n) f) ≡ 1 = ap one_if on in
    let count = h.count in
    omega arith

pub bits-occupied : (ws : List ℕ) (n free first f : ℕ) → HasFrameBits ws n free first → is_free (flags_in ws n) f ≡ true → HasFrameBits (with_bit ws f) n (free - 1) first
bits-occupied ws n free first f h on =
    let flags = flags-occupied ws n free first f h on in
    let counted = count-occupied ws n free first f h on in
    let lt = free-frame ws n f on in
    let size = length-with_bit ws f in
    record {
      long = size ∙ h.long;
      fits = AreWords-with_bit ws f (h.fits);
      behind = λ g le below. has-with_bit_other ws f g (λ e. omega arith) ∙ h.behind g le (omega arith);
      count = rw flags (omega arith);
      none = λ g below. rw flags (elim (cases_eq g f) [
        | inl same ↦ rw same (get_or-set_same (flags_in ws n) f false false (rw length-flags_in lt))
        | inr other ↦ get_or-set_other (flags_in ws n) f g false false other ∙ h.none g below
      ]);
      few = h.few;
    }

-- a frame is given
pub flags-released : (ws : List ℕ) (n f : ℕ) → f < n → flags_in (without_bit ws f) n ≡ set (flags_in ws n) f true
flags-released ws n f lt = flags_in-set ws (without_bit ws f) n f true lt (ap not (has-without_bit_same ws f)) (λ i ne. has-without_bit_other ws f i ne)

pub count-released : (ws : List ℕ) (n free first f : ℕ) → HasFrameBits ws n free first → f < n → is_free (flags_in ws n) f ≡ false → free_count (set (flags_in ws n) f true) ≡ free + 1
count-released ws n free first f h lt off =
    let changed = free_count-set (flags_in ws n) f true (rw length-flags_in lt) in
    let none : one_if (is_free (flags_in ws n) f) ≡ 0 = ap one_if off in
    let count = h.count in
    omega arith

pub bits-released : (ws : List ℕ) (n free first f low : ℕ) → HasFrameBits ws n free first → f < n → is_free (flags_in ws n) f ≡ false → low ≤ first → low ≤ f / 64 → HasFrameBits (without_bit ws f) n (free + 1) low
bits-released ws n free first f low h lt off before under =
    let flags = flags-released ws n f lt in
    let counted = count-released ws n free first f h lt off in
    let size = length-without_bit ws f in
    record {
      long = size ∙ h.long;
      fits = AreWords-without_bit ws f (h.fits);
      behind = λ g le below. has-without_bit_other ws f g (λ e. omega arith) ∙ h.behind g le (omega arith);
      count = rw flags (sym counted);
      none = λ g below. rw flags (get_or-set_other (flags_in ws n) f g true false (λ e. omega arith) ∙ h.none g (omega arith));
      few = h.few;
    }

-- no word before that of the first clear bit has a free frame
pub bits-first : (ws : List ℕ) (n free first f : ℕ) → HasFrameBits ws n free first → ((i : ℕ) → 64 * first ≤ i → i < f → has ws i ≡ true) → HasFrameBits ws n free (f / 64)
bits-first ws n free first f h set_before =
    record {
      long = h.long;
      fits = h.fits;
      behind = h.behind;
      count = h.count;
      none = λ g below. elim (cases_lt g (64 * first)) [
        | inl before ↦ h.none g before
        | inr from ↦ elim (cases_lt g n) [
          | inl lt ↦ is_free-in ws n g lt ∙ ap not (set_before g from (omega arith))
          | inr out ↦ is_free-out ws n g out
        ]
      ];
      few = h.few;
    }

-- a clear bit is that of a free frame
pub clear-free : (ws : List ℕ) (n free first f : ℕ) → HasFrameBits ws n free first → f < 64 * length ws → has ws f ≡ false → is_free (flags_in ws n) f ≡ true
clear-free ws n free first f h below off =
    elim (cases_lt f n) [
      | inl lt ↦ is_free-in ws n f lt ∙ ap not off
      | inr out ↦ absurd (let e : true ≡ false = sym (h.behind f out below) ∙ off in cc)
    ]

-- where all bits are set no frame is free
pub set-none : (ws : List ℕ) (n free first f : ℕ) → HasFrameBits ws n free first → ((i : ℕ) → 64 * first ≤ i → i < 64 * length ws → has ws i ≡ true) → is_free (flags_in ws n) f ≡ false
set-none ws n free first f h all =
    elim (cases_lt f n) [
      | inl lt ↦
          let word = frame-word ws n free first f h lt in
          elim (cases_lt f (64 * first)) [
            | inl before ↦ h.none f before
            | inr from ↦ is_free-in ws n f lt ∙ ap not (all f from (omega arith))
          ]
      | inr out ↦ is_free-out ws n f out
    ]
