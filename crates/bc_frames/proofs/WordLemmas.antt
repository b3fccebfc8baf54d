-- A pool's words of 64 frames: a new pool's, what a word says, and one that is put in place of another.
use Rattle.std.proofs.Common.{◌≡◌, ◌≢◌, ℕ, ◌+◌, ◌-◌, ◌*◌, ◌/◌, ◌%◌, ◌^◌, ◌<◌, ◌≤◌, ◌==◌, inl, inr, max, Bool, true, false, not, List, length, set, get_or, replicate, nat_lt, bit_or, refl, ap, sym, ◌∙◌, arith, tests, w64, length-set, get_or-set_same, get_or-set_other}
use Prim.Native.Nat.{zero, suc}
use Rattle.std.specs.Int.{bit_at, trailing_ones}
use Rattle.std.specs.Int.Count.{ones}
use Rattle.std.proofs.lemmas.Bool.{cases_eq, cases_lt, lt-ltb}
use Rattle.std.proofs.lemmas.Nat.{or_lt}
use Rattle.std.proofs.lemmas.Nat.Bits.{bit_at_or, bit_at-lt, bit_at-zero, bit_at_ones, ones_shl, bit_at_mask_inside, bit_at_mask_below, bit_at-trailing_ones}
use Rattle.std.proofs.lemmas.List.{length-replicate, get_or_past, set_past}
use Rattle.bc_bits.specs.Bits.{has}
use Rattle.bc_bits.specs.BitChanges.{AreWords}
use Rattle.bc_bits.specs.Counting.{one_if, count_below}
use Rattle.bc_bits.proofs.BitLemmas.{has-zeros, AreWords-zeros}
use Rattle.bc_bits.proofs.WordLemmas.{ones-count, has-word}
use Rattle.bc_frames.specs.Pool.{is_free, free_count}
use Rattle.bc_frames.specs.FrameBits.{flags_in, HasFrameBits}
use Rattle.bc_frames.proofs.PoolLemmas.{free_count-set, free_count-all, is_free-all}
use Rattle.bc_frames.proofs.FlagLemmas.{length-flags_in, is_free-in, is_free-out, flags_in-are}

bit-of : (n : ℕ) (c : Bool) → n < 2 → (n == 1) ≡ c → n ≡ one_if c
bit-of n c lt e = grind (arith, tests)

-- a word of the pool says which of its frames aren't free
pub word-tells : (ws : List ℕ) (n free first w b : ℕ) → HasFrameBits ws n free first → w < length ws → b < 64 → bit_at (get_or ws w 0) b ≡ one_if (not (is_free (flags_in ws n) (64 * w + b)))
word-tells ws n free first w b h within lt =
    bit-of (bit_at (get_or ws w 0) b) (not (is_free (flags_in ws n) (64 * w + b))) (bit_at-lt (get_or ws w 0) b) (sym (has-word ws w b lt) ∙ elim (cases_lt (64 * w + b) n) [
      | inl below ↦ sym (ap not (is_free-in ws n (64 * w + b) below) ∙ twice (has ws (64 * w + b)))
      | inr out ↦ h.behind (64 * w + b) out (omega arith) ∙ sym (ap not (is_free-out ws n (64 * w + b) out))
    ])
  where
    twice : (c : Bool) → not (not c) ≡ c
    twice true = refl
    twice false = refl

-- and past the last word none is free
pub word-past : (ws : List ℕ) (n free first w b : ℕ) → HasFrameBits ws n free first → length ws ≤ w → b < 64 → bit_at (2 ^ 64 - 1) b ≡ one_if (not (is_free (flags_in ws n) (64 * w + b)))
word-past ws n free first w b h out lt =
    let long = h.long in
    let none : is_free (flags_in ws n) (64 * w + b) ≡ false = is_free-out ws n (64 * w + b) (omega arith) in
    bit_at_ones 64 b lt ∙ sym (ap (λ (c : Bool). one_if (not c)) none)

-- a word that isn't full has a clear bit, and so a first one
pub first-here : (ws : List ℕ) (w : ℕ) → get_or ws w 0 + 1 < 2 ^ 64 → (has ws (64 * w + trailing_ones w64 (get_or ws w 0)) ≡ false) × ((i : ℕ) → 64 * w ≤ i → i < 64 * w + trailing_ones w64 (get_or ws w 0) → has ws i ≡ true)
first-here ws w lt =
    let lowest = bit_at-trailing_ones w64 (get_or ws w 0) lt in
    let small = lowest.0 in (
      has-word ws w (trailing_ones w64 (get_or ws w 0)) small ∙ ap (λ (n : ℕ). n == 1) lowest.1,
      λ i from below.
          let place : i ≡ 64 * w + i % 64 = omega arith in
          let before : i % 64 < trailing_ones w64 (get_or ws w 0) = omega arith in
          rw place (has-word ws w (i % 64) (omega arith) ∙ ap (λ (n : ℕ). n == 1) (lowest.2 (i % 64) before)),
    )

-- a word that is full has none
pub none-here : (ws : List ℕ) (w i : ℕ) → get_or ws w 0 ≡ 2 ^ 64 - 1 → 64 * w ≤ i → i < 64 * w + 64 → has ws i ≡ true
none-here ws w i is from below =
    let place : i ≡ 64 * w + i % 64 = omega arith in
    rw place (has-word ws w (i % 64) (omega arith) ∙ rw is (ap (λ (n : ℕ). n == 1) (bit_at_ones 64 (i % 64) (omega arith))))

-- all bits from one on
pub mask-bits : (here start frames b : ℕ) → here < 64 → here ≡ frames - start → b < 64 → bit_at ((2 ^ 64 - 1) * 2 ^ here % 2 ^ 64) b ≡ one_if (not (nat_lt (start + b) frames))
mask-bits here start frames b lt is below =
    let mask = ones_shl 64 here (omega arith) in
    elim (cases_lt b here) [
      | inl before ↦ rw mask (bit_at_mask_below here 64 b before ∙ (let inside : nat_lt (start + b) frames ≡ true = lt-ltb (start + b) frames (omega arith) in sym (ap (λ (c : Bool). one_if (not c)) inside)))
      | inr from ↦ rw mask (bit_at_mask_inside here 64 b from below ∙ (let out : nat_lt (start + b) frames ≡ false = grind (arith, tests) in sym (ap (λ (c : Bool). one_if (not c)) out)))
    ]

pub no-bits : (start frames b : ℕ) → 64 ≤ frames - start → b < 64 → bit_at 0 b ≡ one_if (not (nat_lt (start + b) frames))
no-bits start frames b le lt =
    let inside : nat_lt (start + b) frames ≡ true = lt-ltb (start + b) frames (omega arith) in
    bit_at-zero b ∙ sym (ap (λ (c : Bool). one_if (not c)) inside)

-- so many flags from one on become what a test says, as far as there are flags
set_to : List Bool → ℕ → (ℕ → Bool) → ℕ → List Bool
set_to fs s h zero = fs
set_to fs s h (suc k) = set (set_to fs s h k) (s + k) (h k)

length-set_to : (fs : List Bool) (s : ℕ) (h : ℕ → Bool) (k : ℕ) → length (set_to fs s h k) ≡ length fs
unfolding set_to
length-set_to fs s h zero = refl
length-set_to fs s h (suc k) = length-set (set_to fs s h k) (s + k) (h k) ∙ length-set_to fs s h k

set_to-else : (fs : List Bool) (s : ℕ) (h : ℕ → Bool) (k f : ℕ) → ((b : ℕ) → b < k → f ≢ s + b) → is_free (set_to fs s h k) f ≡ is_free fs f
unfolding set_to
set_to-else fs s h zero f out = refl
set_to-else fs s h (suc k) f out = get_or-set_other (set_to fs s h k) (s + k) f (h k) false (out k (omega arith)) ∙ set_to-else fs s h k f (λ b lt. out b (omega arith))

set_to-here : (fs : List Bool) (s : ℕ) (h : ℕ → Bool) (k b : ℕ) → b < k → s + b < length fs → is_free (set_to fs s h k) (s + b) ≡ h b
unfolding set_to
set_to-here fs s h zero b lt within = absurd (omega arith)
set_to-here fs s h (suc k) b lt within =
    elim (cases_eq b k) [
      | inl same ↦
          let size = length-set_to fs s h k in
          rw same (get_or-set_same (set_to fs s h k) (s + k) (h k) false (omega arith))
      | inr other ↦ get_or-set_other (set_to fs s h k) (s + k) (s + b) (h k) false (λ e. other (omega arith)) ∙ set_to-here fs s h k b (omega arith) within
    ]

-- of so many places each has a flag that is set or a bit, before and after
one_or_none : (c : Bool) → one_if c + one_if (not c) ≡ 1
one_or_none true = refl
one_or_none false = refl

set_to-count : (fs : List Bool) (s : ℕ) (h was put : ℕ → Bool) (k : ℕ) → ((b : ℕ) → b < k → was b ≡ not (is_free fs (s + b))) → ((b : ℕ) → b < k → put b ≡ not (h b)) → ((b : ℕ) → b < k → length fs ≤ s + b → h b ≡ false)
    → free_count (set_to fs s h k) + count_below put k ≡ free_count fs + count_below was k
unfolding set_to count_below
set_to-count fs s h was put zero old new out = refl
set_to-count fs s h was put (suc k) old new out =
    let rest = set_to-count fs s h was put k (λ b lt. old b (omega arith)) (λ b lt. new b (omega arith)) (λ b lt. out b (omega arith)) in
    let o : one_if (was k) ≡ one_if (not (is_free fs (s + k))) = ap one_if (old k (omega arith)) in
    let p : one_if (put k) ≡ one_if (not (h k)) = ap one_if (new k (omega arith)) in
    let one = one_or_none (is_free fs (s + k)) in
    let two = one_or_none (h k) in
    elim (cases_lt (s + k) (length fs)) [
      | inl below ↦
          let size = length-set_to fs s h k in
          let before : one_if (is_free (set_to fs s h k) (s + k)) ≡ one_if (is_free fs (s + k)) = ap one_if (set_to-else fs s h k (s + k) (λ c less e. omega arith)) in
          let changed = free_count-set (set_to fs s h k) (s + k) (h k) (omega arith) in
          omega arith
      | inr past ↦
          let size = length-set_to fs s h k in
          let same : free_count (set (set_to fs s h k) (s + k) (h k)) ≡ free_count (set_to fs s h k) = ap free_count (set_past (set_to fs s h k) (s + k) (h k) (omega arith)) in
          let none : one_if (is_free fs (s + k)) ≡ 0 = ap one_if (get_or_past fs (s + k) false past) in
          let off : one_if (h k) ≡ 0 = ap one_if (out k (omega arith) past) in
          omega arith
    ]

-- The word that is put in place of a pool's word: the bits that are wanted, and those of no frame, which are set in a third word
module _ (ws : List ℕ) (n free first w bits rest : ℕ) (h : HasFrameBits ws n free first) (within : w < length ws) (fits : bits < 2 ^ 64) (rest_fits : rest < 2 ^ 64) (behind : (b : ℕ) → b < 64 → bit_at rest b ≡ one_if (not (nat_lt (64 * w + b) n))) where
  abbrev old : ℕ
  old = get_or ws w 0

  abbrev put : ℕ
  put = bit_or bits rest

  abbrev is_given : ℕ → Bool
  is_given b = not (bit_at put b == 1)

  pub put-fits : put < 2 ^ 64
  put-fits = or_lt 64 bits rest fits rest_fits

  put-bit : (b : ℕ) → bit_at put b ≡ max (bit_at bits b) (bit_at rest b)
  put-bit b = bit_at_or bits rest b

  -- the bit of a frame in the words after it
  has-here : (b : ℕ) → b < 64 → has (set ws w put) (64 * w + b) ≡ (bit_at put b == 1)
  has-here b lt = has-word (set ws w put) w b lt ∙ ap (λ (x : ℕ). bit_at x b == 1) (get_or-set_same ws w put 0 within)

  has-else : (f : ℕ) → f / 64 ≢ w → has (set ws w put) f ≡ has ws f
  unfolding has
  has-else f ne = rw get_or-set_other refl

  rest-in : (b : ℕ) → b < 64 → 64 * w + b < n → bit_at rest b ≡ 0
  rest-in b lt below = behind b lt ∙ ap (λ (c : Bool). one_if (not c)) (lt-ltb (64 * w + b) n below)

  rest-out : (b : ℕ) → b < 64 → n ≤ 64 * w + b → bit_at rest b ≡ 1
  rest-out b lt out = behind b lt ∙ (let no_frame : nat_lt (64 * w + b) n ≡ false = grind (arith, tests) in ap (λ (c : Bool). one_if (not c)) no_frame)

  put-in : (b : ℕ) → b < 64 → 64 * w + b < n → bit_at put b ≡ bit_at bits b
  put-in b lt below = let e = put-bit b in let none = rest-in b lt below in omega arith

  put-out : (b : ℕ) → b < 64 → n ≤ 64 * w + b → bit_at put b ≡ 1
  put-out b lt out = let e = put-bit b in let one = rest-out b lt out in let few = bit_at-lt bits b in omega arith

  -- the flags after it
  flags-after : flags_in (set ws w put) n ≡ set_to (flags_in ws n) (64 * w) is_given 64
  flags-after =
      flags_in-are (set ws w put) n (set_to (flags_in ws n) (64 * w) is_given 64) (length-set_to (flags_in ws n) (64 * w) is_given 64 ∙ length-flags_in ws n) (λ f lt.
      elim (cases_eq (f / 64) w) [
        | inl here ↦
            let place : f ≡ 64 * w + f % 64 = omega arith in
            let small : f % 64 < 64 = omega arith in
            rw place (here-is (f % 64) small (omega arith))
        | inr other ↦ ap not (has-else f other) ∙ sym (is_free-in ws n f lt) ∙ sym (set_to-else (flags_in ws n) (64 * w) is_given 64 f (λ b less e. other (omega arith)))
      ])
    where
      here-is : (b : ℕ) → b < 64 → 64 * w + b < n → not (has (set ws w put) (64 * w + b)) ≡ is_free (set_to (flags_in ws n) (64 * w) is_given 64) (64 * w + b)
      here-is b lt below = ap not (has-here b lt) ∙ sym (set_to-here (flags_in ws n) (64 * w) is_given 64 b lt (rw length-flags_in below))

  -- those of the word are free whose bits are clear, and the others are as they were
  clear-is : (x : ℕ) → x < 2 → not (x == 1) ≡ (x == 0)
  clear-is x few = grind (arith, tests)

  pub put-here : (f : ℕ) → f / 64 ≡ w → f < n → is_free (flags_in (set ws w put) n) f ≡ (bit_at bits (f % 64) == 0)
  put-here f here lt =
      let place : f ≡ 64 * w + f % 64 = omega arith in
      let small : f % 64 < 64 = omega arith in
      let below : 64 * w + f % 64 < n = omega arith in
      is_free-in (set ws w put) n f lt ∙ ap (λ (g : ℕ). not (has (set ws w put) g)) place ∙ ap not (has-here (f % 64) small) ∙ ap (λ (x : ℕ). not (x == 1)) (put-in (f % 64) small below)
      ∙ clear-is (bit_at bits (f % 64)) (bit_at-lt bits (f % 64))

  pub put-others : (f : ℕ) → f / 64 ≢ w → is_free (flags_in (set ws w put) n) f ≡ is_free (flags_in ws n) f
  put-others f other =
      elim (cases_lt f n) [
        | inl lt ↦ is_free-in (set ws w put) n f lt ∙ ap not (has-else f other) ∙ sym (is_free-in ws n f lt)
        | inr out ↦ is_free-out (set ws w put) n f out ∙ sym (is_free-out ws n f out)
      ]

  -- and as many less are free as bits are more
  twice : (c : Bool) → c ≡ not (not c)
  twice true = refl
  twice false = refl

  bit-was : (b : ℕ) → b < 64 → (bit_at old b == 1) ≡ not (is_free (flags_in ws n) (64 * w + b))
  bit-was b lt =
      elim (cases_lt (64 * w + b) n) [
        | inl below ↦ sym (has-word ws w b lt) ∙ twice (has ws (64 * w + b)) ∙ ap not (sym (is_free-in ws n (64 * w + b) below))
        | inr out ↦ let long = h.long in sym (has-word ws w b lt) ∙ h.behind (64 * w + b) out (omega arith) ∙ ap not (sym (is_free-out ws n (64 * w + b) out))
      ]

  pub put-count : free_count (flags_in (set ws w put) n) + ones put ≡ free + ones old
  put-count =
      let bits_put = ones-count put put-fits in
      let bits_old = ones-count old (h.fits w) in
      let size = length-flags_in ws n in
      let count = set_to-count (flags_in ws n) (64 * w) is_given (λ b. bit_at old b == 1) (λ b. bit_at put b == 1) 64 bit-was (λ b lt. twice (bit_at put b == 1)) (λ b lt past. ap (λ (x : ℕ). not (x == 1)) (put-out b lt (omega arith))) in
      let before = h.count in
      let after = ap free_count flags-after in
      omega arith

  set-fits : AreWords (set ws w put)
  set-fits i =
      elim (cases_eq i w) [
        | inl here ↦ rw here (rw get_or-set_same put-fits)
        | inr other ↦ rw get_or-set_other (h.fits i)
      ]

  pub bits-put : (low more : ℕ) → low ≤ first → low ≤ w → more + ones put ≡ free + ones old → HasFrameBits (set ws w put) n more low
  bits-put low more before under count = record {
    long = length-set ws w put ∙ h.long;
    fits = set-fits;
    behind = λ f le below. elim (cases_eq (f / 64) w) [
      | inl here ↦
          let place : f ≡ 64 * w + f % 64 = omega arith in
          rw place (stays (f % 64) (omega arith) (omega arith))
      | inr other ↦ let size = length-set ws w put in has-else f other ∙ h.behind f le (omega arith)
    ];
    count = let now = put-count in omega arith;
    none = λ f below. put-others f (λ e. omega arith) ∙ h.none f (omega arith);
    few = h.few;
  }
    where
      stays : (b : ℕ) → b < 64 → n ≤ 64 * w + b → has (set ws w put) (64 * w + b) ≡ true
      stays b lt out = has-here b lt ∙ ap (λ (x : ℕ). x == 1) (put-out b lt out)

-- the words of a new pool: a bit is set where there is no frame
pub record AreBlank (ws : List ℕ) (n : ℕ) : Type 0 where
  pub long : length ws ≡ (n + 63) / 64
  pub fits : AreWords ws
  pub each : (f : ℕ) → f < 64 * length ws → has ws f ≡ not (nat_lt f n)

-- all words are 0 but for the last one, in which the bits are set that are of no frame
blank-each : (n count rest : ℕ) → count ≡ (n + 63) / 64 → 0 < count → ((b : ℕ) → b < 64 → bit_at rest b ≡ one_if (not (nat_lt (64 * (count - 1) + b) n))) → (f : ℕ) → f < 64 * count
    → has (set (replicate {A = ℕ} count 0) (count - 1) rest) f ≡ not (nat_lt f n)
unfolding has
blank-each n count rest long some behind f lt =
    elim (cases_eq (f / 64) (count - 1)) [
      | inl last ↦
          let place : 64 * (count - 1) + f % 64 ≡ f = omega arith in
          let tells = behind (f % 64) (omega arith) in
          let within : count - 1 < length (replicate {A = ℕ} count 0) = rw length-replicate (omega arith) in
          rw last (rw (get_or-set_same (replicate {A = ℕ} count 0) (count - 1) rest 0 within, tells, place) (whether (not (nat_lt f n))))
      | inr other ↦
          let inside : nat_lt f n ≡ true = lt-ltb f n (omega arith) in
          rw get_or-set_other (has-zeros count f ∙ sym (ap not inside))
    ]
  where
    whether : (c : Bool) → (one_if c == 1) ≡ c
    whether true = refl
    whether false = refl

pub blank-some : (n count rest : ℕ) → count ≡ (n + 63) / 64 → 0 < count → rest < 2 ^ 64 → ((b : ℕ) → b < 64 → bit_at rest b ≡ one_if (not (nat_lt (64 * (count - 1) + b) n))) → AreBlank (set (replicate {A = ℕ} count 0) (count - 1) rest) n
blank-some n count rest long some fits behind =
    let size = length-set (replicate {A = ℕ} count 0) (count - 1) rest ∙ length-replicate count 0 in
    record {
      long = size ∙ long;
      fits = λ i. elim (cases_eq i (count - 1)) [
        | inl here ↦ rw here (rw (get_or-set_same (replicate {A = ℕ} count 0) (count - 1) rest 0 (rw length-replicate (omega arith))) fits)
        | inr other ↦ rw get_or-set_other (AreWords-zeros count i)
      ];
      each = λ f lt. blank-each n count rest long some behind f (omega arith);
    }

pub blank-none : (n count : ℕ) → count ≡ (n + 63) / 64 → count ≤ 0 → AreBlank (replicate {A = ℕ} count 0) n
blank-none n count long none =
    let size = length-replicate {A = ℕ} count 0 in
    record { long = size ∙ long; fits = AreWords-zeros count; each = λ f lt. absurd (omega arith) }

-- all frames of a new pool are free
pub blank-flags : (ws : List ℕ) (n : ℕ) → AreBlank ws n → flags_in ws n ≡ replicate n true
blank-flags ws n blank =
    let long = blank.long in
    flags_in-are ws n (replicate n true) (length-replicate n true) (λ f lt. ap not (blank.each f (omega arith)) ∙ twice (nat_lt f n) ∙ sym (is_free-all n f))
  where
    twice : (c : Bool) → not (not c) ≡ c
    twice true = refl
    twice false = refl

pub blank-bits : (ws : List ℕ) (n : ℕ) → AreBlank ws n → n < 2 ^ 32 → HasFrameBits ws n n 0
blank-bits ws n blank few = record {
  long = blank.long;
  fits = blank.fits;
  behind = λ f le lt. blank.each f lt ∙ (let out : nat_lt f n ≡ false = grind (arith, tests) in ap not out);
  count = rw (blank-flags ws n blank) (sym (free_count-all n));
  none = λ f lt. absurd (omega arith);
  few = few;
}
