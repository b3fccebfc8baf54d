-- The index of a listing.
use Rattle.std.proofs.Common.{◌≡◌, ◌≢◌, ℕ, ◌+◌, ◌-◌, ◌*◌, ◌/◌, ◌%◌, ◌^◌, ◌<◌, ◌≤◌, ◌==◌, ◌||◌, Bool, true, false, if◌then◌else◌, List, [], ◌∷◌, ◌++◌, length, get_or, take, replicate, option_map, Option, Some, None, bit_and, refl, sym, ◌∙◌, ap, ap₂, subst, inl, inr, arith, rules}
use Rattle.std.proofs.lemmas.Bool.{cases_lt, cases_eq, cases_Bool, eq-eqb, ne_eqb, eqb-true}
use Prim.Native.Nat.{zero, suc}
use Rattle.std.specs.Int.{bit_at}
use Rattle.std.specs.Int.Count.{ones}
use Rattle.std.specs.Option.{is_some}
use Rattle.std.proofs.lemmas.List.{get_or_read, take_more, get_or_append_left, get_or_push}
use Rattle.std.proofs.lemmas.Nat.{mod-pow-add, ones_cat, and_mask, one_shl}
use Rattle.std.proofs.lemmas.Nat.Bits.{bit_at-lt}
use Rattle.bc_bits.specs.Bits.{has}
use Rattle.bc_bits.specs.BitChanges.{with_bit}
use Rattle.bc_bits.specs.Counting.{one_if, count_below}
use Rattle.bc_bits.proofs.BitLemmas.{has-beyond, has-zeros, has-with_bit_same, has-with_bit_other}
use Rattle.bc_bits.proofs.CountLemmas.{count_below-same, count_below-le, count_below-none}
use Rattle.bc_bits.proofs.WordLemmas.{has-word, ones-count}
use Rattle.bc_image.specs.Cells.{CellList}
use Rattle.bc_image.specs.Homes.{HasHomes}
use Rattle.bc_image.specs.Memories.{number_at, no_cell, cell_at}
use Rattle.bc_heapview.specs.Targets.{AreRanks, Rise, IsIndex}
use Rattle.bc_heapview.specs.declared.indexes.Index.{Index}
use Rattle.bc_heapview.proofs.FindLemmas.{number_at-within}
use Rattle.bc_heapview.proofs.StateLemmas.{number-address}

some-one : (o : Option ℕ) → is_some (option_map (λ (n : ℕ). n + 1) o) ≡ is_some o
some-one (Some n) = refl
some-one None = refl

-- ---- counts of bits

-- a count in two parts
count-parts : (f : ℕ → Bool) (n m : ℕ) → count_below f (m + n) ≡ count_below (λ j. f (n + j)) m + count_below f n
unfolding count_below
count-parts f n zero = let same : 0 + n ≡ n = omega arith in ap (count_below f) same ∙ nothing (count_below f n)
  where
    nothing : (x : ℕ) → x ≡ 0 + x
    nothing x = omega arith
count-parts f n (suc m) =
    let rest = count-parts f n m in
    let next : suc m + n ≡ suc (m + n) = omega arith in
    let there = ap (count_below f) next in
    let same : m + n ≡ n + m = omega arith in
    let here : one_if (f (m + n)) ≡ one_if (f (n + m)) = ap (λ (x : ℕ). one_if (f x)) same in
    omega arith

-- a count that ends inside a word
count-within : (ws : List ℕ) (w b : ℕ) → b ≤ 64 → count_below (has ws) (64 * w + b) ≡ count_below (λ j. bit_at (get_or ws w 0) j == 1) b + count_below (has ws) (64 * w)
count-within ws w b le =
    let same = count_below-same (λ j. has ws (64 * w + j)) (λ j. bit_at (get_or ws w 0) j == 1) b (λ j lt. has-word ws w j (omega arith)) in
    let parts = count-parts (has ws) (64 * w) b in
    let order : 64 * w + b ≡ b + 64 * w = omega arith in
    ap (count_below (has ws)) order ∙ parts ∙ ap (λ (n : ℕ). n + count_below (has ws) (64 * w)) same

-- a word more
pub count-more : (ws : List ℕ) (w total : ℕ) → get_or ws w 0 < 2 ^ 64 → total ≡ count_below (has ws) (64 * w) → total + ones (get_or ws w 0) ≡ count_below (has ws) (64 * (w + 1))
count-more ws w total fits so_far =
    let here = ones-count (get_or ws w 0) fits in
    let all = count-within ws w 64 (omega arith) in
    let next : 64 * (w + 1) ≡ 64 * w + 64 = omega arith in
    let end = ap (count_below (has ws)) next in
    omega arith

pub count-small : (ws : List ℕ) (w n total : ℕ) → w < n → n ≤ 2 ^ 17 → total ≡ count_below (has ws) (64 * (w + 1)) → total < 2 ^ 32
count-small ws w n total lt few e = let le = count_below-le (has ws) (64 * (w + 1)) in omega arith

pub count-nothing : (ws : List ℕ) → 0 ≡ count_below (has ws) (64 * 0)
unfolding count_below
count-nothing ws = refl

-- the lowest bits of a word
one-bit : (b : ℕ) → b < 2 → ones b ≡ one_if (b == 1)
unfolding ones
one-bit zero lt = refl
one-bit (suc zero) lt = refl
one-bit (suc (suc b)) lt = absurd (omega arith)

ones-below : (w k : ℕ) → ones (w % 2 ^ k) ≡ count_below (λ j. bit_at w j == 1) k
unfolding count_below
ones-below w zero = let none : w % 2 ^ 0 ≡ 0 = omega arith in ap ones none ∙ one-bit 0 (omega arith)
ones-below w (suc k) =
    let next : suc k ≡ 1 + k = omega arith in
    let word = ap (λ (n : ℕ). ones (w % 2 ^ n)) next ∙ ap ones (mod-pow-add w 1 k) ∙ ones_cat k (bit_at w k) (w % 2 ^ k) (small w k) in
    let rest = ones-below w k in
    let bit = one-bit (bit_at w k) (bit_at-lt w k) in
    omega arith
  where
    small : (n k : ℕ) → n % 2 ^ k < 2 ^ k
    small n k = search rules

pub masked : (w k : ℕ) → k < 64 → ones (bit_and w (1 * 2 ^ k % 2 ^ 64 - 1)) ≡ count_below (λ j. bit_at w j == 1) k
masked w k lt = ap (λ (n : ℕ). ones (bit_and w (n - 1))) (one_shl k 64 lt) ∙ ap ones (and_mask w k) ∙ ones-below w k

-- ---- the number of an object is how many lie below it

count-stretch : (f : ℕ → Bool) (n m : ℕ) → ((j : ℕ) → n ≤ j → j < n + m → f j ≡ false) → count_below f (n + m) ≡ count_below f n
count-stretch f n m none =
    let parts = count-parts f n m in
    let empty = count_below-none (λ j. f (n + j)) m (λ j lt. none (n + j) (omega arith) (omega arith)) in
    let order : n + m ≡ m + n = omega arith in
    let turned = ap (count_below f) order in
    omega arith

count-one : (f : ℕ → Bool) (n : ℕ) → f n ≡ true → count_below f (n + 1) ≡ count_below f n + 1
unfolding count_below
count-one f n on =
    let next : n + 1 ≡ suc n = omega arith in
    let there = ap (count_below f) next in
    let one = ap one_if on in
    omega arith

module _ (cells : List CellList) (there : List ℕ) (rising : Rise cells) (homes : HasHomes cells there) where
  -- where a bit is set an object lies
  home-of : (a : ℕ) → has there a ≡ true → (k : ℕ) × (number_at cells a ≡ Some k)
  home-of a on = by (number_at cells a) refl (sym (homes a) ∙ on)
    where
      by : (o : Option ℕ) → number_at cells a ≡ o → is_some o ≡ true → (k : ℕ) × (number_at cells a ≡ Some k)
      by (Some k) e is = (k, e)
      by None e is = absurd (let bad : false ≡ true = is in cc)

  -- and none lies between an object and the one before it
  between : (a n : ℕ) → ((k : ℕ) → k < length cells → (cell_at cells k).address ≡ a → ⊥) → has there a ≡ false
  between a n off = elim (cases_Bool (has there a)) [
    | inl on ↦ (let h = home-of a on in absurd (off h.0 (number_at-within cells a h.0 h.1) (number-address cells a h.0 h.1)))
    | inr isnt ↦ isnt
  ]

  below-or-not : (k j a : ℕ) → k + 1 < length cells → j < length cells → (cell_at cells k).address < a → a < (cell_at cells (k + 1)).address → (cell_at cells j).address ≡ a → ⊥
  below-or-not k j a in_k in_j low high e = elim (cases_lt j (k + 1)) [
    | inl before ↦ elim (cases_eq j k) [
      | inl same ↦ (let f : (cell_at cells j).address ≡ (cell_at cells k).address = ap (λ (n : ℕ). (cell_at cells n).address) same in absurd (omega arith))
      | inr ne ↦ (let f = rising j k (lower j k ne (omega arith)) (omega arith) in absurd (omega arith))
    ]
    | inr behind ↦ elim (cases_eq j (k + 1)) [
      | inl same ↦ (let f : (cell_at cells j).address ≡ (cell_at cells (k + 1)).address = ap (λ (n : ℕ). (cell_at cells n).address) same in absurd (omega arith))
      | inr ne ↦ (let f = rising (k + 1) j (lower (k + 1) j (λ e. ne (sym e)) behind) in_j in absurd (omega arith))
    ]
  ]
    where
      lower : (x y : ℕ) → x ≢ y → x ≤ y → x < y
      lower zero zero ne le = absurd (ne refl)
      lower zero (suc y) ne le = omega arith
      lower (suc x) zero ne le = absurd (omega arith)
      lower (suc x) (suc y) ne le = let r = lower x y (λ q. ne (ap suc q)) (omega arith) in omega arith

  first-none : (j a : ℕ) → j < length cells → a < (cell_at cells 0).address → (cell_at cells j).address ≡ a → ⊥
  first-none zero a in_j low e = absurd (omega arith)
  first-none (suc j) a in_j low e = let f = rising 0 (suc j) (omega arith) in_j in absurd (omega arith)

  here : (k : ℕ) → k < length cells → has there (cell_at cells k).address ≡ true
  here k lt = homes (cell_at cells k).address ∙ there-is cells k lt
    where
      there-is : (xs : List CellList) (k : ℕ) → k < length xs → is_some (number_at xs (cell_at xs k).address) ≡ true
      there-is [] k lt = absurd (omega arith)
      there-is (x ∷ xs) zero lt = ap (λ (b : Bool). is_some (let o : Option ℕ = if b then Some 0 else option_map (λ (n : ℕ). n + 1) (number_at xs x.address) in o)) (eq-eqb x.address x.address refl)
      there-is (x ∷ xs) (suc k) lt = at (x.address == (cell_at xs k).address) (number_at xs (cell_at xs k).address) (there-is xs k (omega arith))
        where
          at : (b : Bool) (o : Option ℕ) → is_some o ≡ true → is_some (let p : Option ℕ = if b then Some 0 else option_map (λ (n : ℕ). n + 1) o in p) ≡ true
          at true o e = refl
          at false o e = some-one o ∙ e

  pub rank-is : (k : ℕ) → k < length cells → count_below (has there) (cell_at cells k).address ≡ k
  rank-is zero lt = count_below-none (has there) (cell_at cells 0).address (λ a low. between a 0 (λ j in_j e. first-none j a in_j low e))
  rank-is (suc k) lt =
      let a : ℕ = (cell_at cells k).address in
      let b : ℕ = (cell_at cells (suc k)).address in
      let next : suc k ≡ k + 1 = omega arith in
      let up : a < b = rising k (suc k) (omega arith) lt in
      let before = rank-is k (omega arith) in
      let one = count-one (has there) a (here k (omega arith)) in
      let rest = count-stretch (has there) (a + 1) (b - (a + 1)) (λ j from to. between j 0 (λ i in_i e. below-or-not k i j (omega arith) in_i (omega arith) (subst (λ (n : ℕ). j < (cell_at cells n).address) next (omega arith)) e)) in
      let all : a + 1 + (b - (a + 1)) ≡ b = omega arith in
      let whole = ap (count_below (has there)) all in
      omega arith

  -- what lies at an address
  pub number-none : (a : ℕ) → has there a ≡ false → None ≡ number_at cells a
  number-none a off = by (number_at cells a) refl (sym (homes a) ∙ off)
    where
      by : (o : Option ℕ) → number_at cells a ≡ o → is_some o ≡ false → None ≡ number_at cells a
      by None e is = sym e
      by (Some k) e is = absurd (let bad : true ≡ false = is in cc)

  pub number-some : (a n : ℕ) → has there a ≡ true → n ≡ count_below (has there) a → Some n ≡ number_at cells a
  number-some a n on is =
      let h = home-of a on in
      let at = number-address cells a h.0 h.1 in
      let rank = rank-is h.0 (number_at-within cells a h.0 h.1) in
      let same : n ≡ h.0 = is ∙ ap (count_below (has there)) (sym at) ∙ rank in
      ap (λ (m : ℕ). Some m) same ∙ sym h.1

-- a set bit lies in the set
pub set-within : (there : List ℕ) (a : ℕ) → has there a ≡ true → a / 64 < length there
set-within there a on = elim (cases_lt (a / 64) (length there)) [
  | inl lt ↦ lt
  | inr ge ↦ absurd (let bad : true ≡ false = sym on ∙ has-beyond there a (omega arith) in cc)
]

module _ (cells : List CellList) (index : Index) (is : IsIndex cells index) (a before below : ℕ) (on : has index.there.items a ≡ true)
    (before_is : before ≡ get_or index.before.items (a / 64) 0) (below_is : below ≡ count_below (λ j. bit_at (get_or index.there.items (a / 64) 0) j == 1) (a % 64)) where
  rank : before + below ≡ count_below (has index.there.items) a
  rank =
      let inside = set-within index.there.items a on in
      let words = is.ranks.at (a / 64) inside in
      let parts = count-within index.there.items (a / 64) (a % 64) (omega arith) in
      let whole : 64 * (a / 64) + a % 64 ≡ a = omega arith in
      let all = ap (count_below (has index.there.items)) whole in
      omega arith

  pub rank-small : before + below < 2 ^ 32
  rank-small =
      let r = rank in
      let le = count_below-le (has index.there.items) a in
      let inside = set-within index.there.items a on in
      let few = is.few in
      omega arith

  pub rank-number : Some (before + below) ≡ number_at cells a
  rank-number = number-some cells index.there.items is.rising is.homes a (before + below) on rank

pub push-ranks : (there before : List ℕ) (i total : ℕ) → length before ≡ i → total ≡ count_below (has there) (64 * i) → ((w : ℕ) → w < i → get_or before w 0 ≡ count_below (has there) (64 * w)) → (w : ℕ) → w < i + 1 → get_or (before ++ total ∷ []) w 0 ≡ count_below (has there) (64 * w)
push-ranks there before i total sized is at w lt = elim (cases_lt w i) [
  | inl low ↦ get_or_append_left before (total ∷ []) 0 w (omega arith) ∙ at w low
  | inr from ↦
      let last : w ≡ length before = omega arith in
      ap (λ (n : ℕ). get_or (before ++ total ∷ []) n 0) last ∙ get_or_push before total 0 (length before) refl ∙ is ∙ ap (λ (n : ℕ). count_below (has there) (64 * n)) (sym sized ∙ sym last)
]
