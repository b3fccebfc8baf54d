-- Counters and bookmark bits at the opening and at the closing: what the space's headers say of its Gone pages is what the
-- table's words say of them.
use Rattle.std.proofs.Common.{◌≡◌, ℕ, ◌+◌, ◌-◌, ◌*◌, ◌/◌, ◌%◌, ◌<◌, ◌≤◌, ◌==◌, ◌&&◌, nat_lt, Bool, true, false, if◌then◌else◌, List, length, slice_index, Some, None, inl, inr, refl, ap, sym, subst, ◌∙◌, arith}
use Rattle.std.specs.Int.{bit_at}
use Rattle.std.proofs.lemmas.Bool.{and_from, cases_Bool, cases_lt, eqb-true, eq-eqb, ltb-true}
use Rattle.bc_bits.proofs.BitLemmas.{has-beyond}
use Rattle.bc_classes.specs.ClassNumbers.{IsClass}
use Rattle.bc_classes.proofs.ClassLemmas.{cap-few}
use Rattle.bc_word.proofs.AddressLemmas.{cell_number-few}
use Rattle.bc_bits.specs.Bits.{has}
use Rattle.bc_bits.specs.Counting.{one_if, count_below}
use Rattle.bc_memory.specs.Memory.{Memory}
use Rattle.bc_word.specs.Addresses.{page_of, offset_of, superpage_of, cell_number}
use Rattle.bc_word.specs.declared.words.Word.{Word}
use Rattle.bc_word.specs.declared.words.Word.TheVariants.{Nil, Num, Ref}
use Rattle.bc_superpages.specs.declared.headers.PageState.{PageState}
use Rattle.bc_superpages.specs.declared.headers.PageState.TheVariants as state
use Rattle.bc_superpages.specs.Headers.{is_gone}
use Rattle.bc_superpages.specs.Layout.{Layout, content_at, is_cell}
use Rattle.bc_superpages.specs.Memory.{memory_of, cell_on}
use Rattle.bc_bookmarks.specs.Targets.{names, names_in, names_cell, some_on, is_target, has_target_in}
use Rattle.bc_bookmarks.proofs.TargetLemmas.{some_on-same, some_on-weaker, in-target}
use Rattle.bc_pins.specs.Key.{Key, pages_of, page_at}
use Rattle.bc_pins.specs.Totals.{sum_to}
use Rattle.bc_pins.specs.Views.{state_word}
use Rattle.bc_pins.specs.Contents.{objects_in}
use Rattle.bc_pins.specs.Facts.{points, has_bit_of, IsBitOfTarget, Summary}
use Rattle.bc_pins.proofs.SumLemmas.{sum_same, sum_none, sum_cut, count_sum}

pub ge-nat_lt : (f m : ℕ) → m ≤ f → nat_lt f m ≡ false
ge-nat_lt f m le = elim (cases_Bool (nat_lt f m)) [
  | inl on ↦ let a : f < m = ltb-true f m on in absurd (omega arith)
  | inr off ↦ off
]

-- Gone, by the word
pub gone_word : (st : PageState) → is_gone st ≡ (state_word st == 4)
gone_word state.Remembered = refl
gone_word state.Absent = refl
gone_word state.Home = refl
gone_word state.Held = refl
gone_word state.Gone = refl

-- the objects of a page, in a space where the page has this content
pub objects_at : (s : Layout) (ps : List (List ℕ)) (p : ℕ) (c : List ℕ) → content_at ps p ≡ c → (x : ℕ) → page_of x ≡ p → objects_in s c x ≡ memory_of s.classes s.cells ps x
objects_at s ps p c e x on = ap (λ (d : List ℕ). if is_cell s.classes s.cells x then Some (cell_on d (offset_of x)) else None) (sym (ap (content_at ps) on ∙ e))

pub target_in : (s : Layout) (ps : List (List ℕ)) (p a : ℕ) (c : List ℕ) → content_at ps p ≡ c → is_target (objects_in s c) p a ≡ is_target (memory_of s.classes s.cells ps) p a
target_in s ps p a c e = some_on-same (names a) (memory_of s.classes s.cells ps) (objects_in s c) p (objects_at s ps p c e)

superpage_in : (s : Layout) (ps : List (List ℕ)) (p q : ℕ) (c : List ℕ) → content_at ps p ≡ c → has_target_in (memory_of s.classes s.cells ps) p q ≡ has_target_in (objects_in s c) p q
superpage_in s ps p q c e = sym (some_on-same (names_in q) (memory_of s.classes s.cells ps) (objects_in s c) p (objects_at s ps p c e))

-- a word that names an address names the cell there
names_it : (cs : List ℕ) (a : ℕ) (w : Word) → names a w ≡ true → names_cell cs (superpage_of a) (cell_number (slice_index cs (superpage_of a)) a) w ≡ true
names_it cs a Nil on = on
names_it cs a (Num v) on = on
names_it cs a (Ref x) on =
    let is : x.0 ≡ a = eqb-true x.0 a on in
    and_from _ _ (eq-eqb (superpage_of x.0) (superpage_of a) (ap superpage_of is))
    (eq-eqb (cell_number (slice_index cs (superpage_of a)) x.0) (cell_number (slice_index cs (superpage_of a)) a) (ap (cell_number (slice_index cs (superpage_of a))) is))

-- a target of a page is one by its bit
pub bit_of_target : (k : Key) (page : ℕ) (c : List ℕ) (w b : ℕ) → IsBitOfTarget k page c w b → has_bit_of k page c w b ≡ true
bit_of_target k page c w b is =
    let a : ℕ = is.address in
    let cs : List ℕ = k.opening.classes in
    let objects : Memory = objects_in k.opening c in
    let on = some_on-weaker (names a) (names_cell cs (superpage_of a) (cell_number (slice_index cs (superpage_of a)) a)) objects page (names_it cs a) is.target in
    subst (λ (n : ℕ). some_on (names_cell cs (w / 16) n) objects page ≡ true) is.number
    (subst (λ (q : ℕ). some_on (names_cell cs q (cell_number (slice_index cs (superpage_of a)) a)) objects page ≡ true) is.superpage on)

choice : (b y : Bool) → one_if (b && y) ≡ (if b then one_if y else 0)
choice true y = refl
choice false y = refl

-- the pages of the table that are Gone by its words, and the other pages, which aren't
pub record GoneBy (k : Key) (ps : List (List ℕ)) (gone : ℕ → Bool) (c : ℕ → List ℕ) (words : List ℕ) (all : ℕ) : Type 0 where
  pub few : pages_of k ≤ all
  pub near : (p : ℕ) → p < pages_of k → gone p ≡ (slice_index words (page_at p) == 4)
  pub behind : (p : ℕ) → pages_of k ≤ p → p < all → gone p ≡ false
  pub contents : (p : ℕ) → p < pages_of k → content_at ps p ≡ c p

module _ (k : Key) (ps : List (List ℕ)) (gone : ℕ → Bool) (c : ℕ → List ℕ) (words : List ℕ) (all : ℕ) (g : GoneBy k ps gone c words all) where
  -- a count of Gone pages is the sum over the table's pages
  pub tally : (q : ℕ) → count_below (λ p. gone p && has_target_in (memory_of k.opening.classes k.opening.cells ps) p q) all ≡ sum_to (λ p. if slice_index words (page_at p) == 4 then points k p (c p) q else 0) (pages_of k)
  tally q =
      let f : ℕ → Bool = λ p. gone p && has_target_in (memory_of k.opening.classes k.opening.cells ps) p q in
      let few = g.few in
      let cut = sum_cut (λ i. one_if (f i)) (pages_of k) (all - pages_of k) all (omega arith) in
      let front = sum_same (λ i. one_if (f i)) (λ p. if slice_index words (page_at p) == 4 then points k p (c p) q else 0) (pages_of k)
      (λ p lt. ap (λ (b : Bool). one_if (b && has_target_in (memory_of k.opening.classes k.opening.cells ps) p q)) (g.near p lt)
      ∙ ap (λ (b : Bool). one_if ((slice_index words (page_at p) == 4) && b)) (superpage_in k.opening ps p q (c p) (g.contents p lt))
      ∙ choice (slice_index words (page_at p) == 4) (has_target_in (objects_in k.opening (c p)) p q)) in
      let back = sum_none (λ i. one_if (f (pages_of k + i))) (all - pages_of k)
      (λ i lt. ap (λ (b : Bool). one_if (b && has_target_in (memory_of k.opening.classes k.opening.cells ps) (pages_of k + i) q)) (g.behind (pages_of k + i) (omega arith) (omega arith))) in
      count_sum f all ∙ cut ∙ (omega arith)

  -- where they are summarised, none has a target past the table's superpages
  pub none_behind : ((p : ℕ) → p < pages_of k → slice_index words (page_at p) ≡ 4 → Summary k words p (c p)) → (q : ℕ) → k.supers ≤ q
      → count_below (λ p. gone p && has_target_in (memory_of k.opening.classes k.opening.cells ps) p q) all ≡ 0
  none_behind summed q le = tally q ∙ sum_none (λ p. if slice_index words (page_at p) == 4 then points k p (c p) q else 0) (pages_of k) (λ p lt.
      elim (cases_Bool (slice_index words (page_at p) == 4)) [
        | inl on ↦
            let sum = summed p lt (eqb-true (slice_index words (page_at p)) 4 on) in
            ap (λ (b : Bool). if b then points k p (c p) q else 0) on ∙ elim (cases_Bool (has_target_in (objects_in k.opening (c p)) p q)) [
              | inl has_one ↦
                  let t = in-target (objects_in k.opening (c p)) p q has_one in
                  let m = (sum.targets t.address t.target).within in
                  let lies = t.lies in
                  absurd (omega arith)
              | inr none_has ↦ ap one_if none_has
            ]
        | inr off ↦ ap (λ (b : Bool). if b then points k p (c p) q else 0) off
      ])

-- a bit of a set of a header, as the set has it
pub set_bit : (ws : List ℕ) (n : ℕ) → has ws n ≡ true → bit_at (slice_index ws (n / 64)) (n % 64) ≡ 1
unfolding has
set_bit ws n on = eqb-true (bit_at (slice_index ws (n / 64)) (n % 64)) 1 on

pub bit_set : (ws : List ℕ) (n : ℕ) → bit_at (slice_index ws (n / 64)) (n % 64) ≡ 1 → has ws n ≡ true
unfolding has
bit_set ws n one = eq-eqb (bit_at (slice_index ws (n / 64)) (n % 64)) 1 one

-- bit b of word i of a set
pub bit_in : (ws : List ℕ) (i b : ℕ) → b < 64 → bit_at (slice_index ws i) b ≡ 1 → has ws (64 * i + b) ≡ true
bit_in ws i b few one =
    let word : (64 * i + b) / 64 ≡ i = omega arith in
    let bit : (64 * i + b) % 64 ≡ b = omega arith in
    bit_set ws (64 * i + b) (ap (λ (j : ℕ). bit_at (slice_index ws j) ((64 * i + b) % 64)) word ∙ ap (λ (j : ℕ). bit_at (slice_index ws i) j) bit ∙ one)

pub in_bit : (ws : List ℕ) (i b : ℕ) → b < 64 → has ws (64 * i + b) ≡ true → bit_at (slice_index ws i) b ≡ 1
in_bit ws i b few on =
    let word : (64 * i + b) / 64 ≡ i = omega arith in
    let bit : (64 * i + b) % 64 ≡ b = omega arith in
    sym (ap (λ (j : ℕ). bit_at (slice_index ws j) ((64 * i + b) % 64)) word ∙ ap (λ (j : ℕ). bit_at (slice_index ws i) j) bit) ∙ set_bit ws (64 * i + b) on

pub bit_few : (n i : ℕ) → bit_at n i ≤ 1
bit_few n i = omega arith

-- a set of sixteen words has no bit past the last
pub few_bits : (ws : List ℕ) (b : ℕ) → length ws ≡ 16 → has ws b ≡ true → b < 1024
few_bits ws b long on = elim (cases_lt b 1024) [
  | inl lt ↦ lt
  | inr past ↦ absurd (clash (sym (has-beyond ws b (omega arith)) ∙ on))
]
  where
    clash : false ≡ true → ⊥
    clash e = cc

-- a cell's number in its superpage
pub number_few : (class a : ℕ) → IsClass class → cell_number class a < 1024
number_few class a is =
    let bits = cap-few class is in
    let small = cell_number-few class a is in
    omega arith
