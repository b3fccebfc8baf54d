-- A listing of an image may be viewed.
use Rattle.std.proofs.Common.{◌≡◌, ℕ, ◌+◌, ◌-◌, ◌*◌, ◌/◌, ◌%◌, ◌^◌, ◌<◌, ◌≤◌, ◌==◌, Bool, true, false, if◌then◌else◌, List, [], ◌∷◌, length, slice_index, Option, Some, refl, sym, ◌∙◌, ap, subst, arith}
use Prim.Native.Nat.{zero, suc}
use Rattle.std.specs.List.{AllByRecursion}
use Rattle.std.proofs.lemmas.Bool.{eqb-true}
use Rattle.std.proofs.Math.Nat.{mul-le-mul_left}
use Rattle.bc_word.specs.HeadBits.{FitsHead}
use Rattle.bc_word.specs.WordBits.{IsPacked}
use Rattle.bc_word.specs.Words.{word_of_bits}
use Rattle.bc_word.specs.declared.words.Word.TheVariants.{Nil, Num, Ref}
use Rattle.bc_image.specs.Cells.{CellList}
use Rattle.bc_image.specs.Images.{IsLinked, IsListed, IsImageListing}
use Rattle.bc_image.specs.Listings.{ListingLists}
use Rattle.bc_image.specs.Memories.{cell_at, number_at}
use Rattle.bc_image.proofs.Grammar.{all-at, number-below, chain-good, chain-of}
use Rattle.bc_heapview.specs.Answers.{IsViewable}
use Rattle.bc_heapview.specs.Tallies.{AreCountable}

number-all : (P : ℕ → Type 0) (ns : List ℕ) (i : ℕ) → i < length ns → AllByRecursion P ns → P (slice_index ns i)
number-all P [] i lt a = absurd (omega arith)
number-all P (n ∷ ns) zero lt a = a.0
number-all P (n ∷ ns) (suc i) lt a = number-all P ns i (omega arith) a.1

packed-by : (cells : List CellList) (n : ℕ) (t0 t1 : Bool) → (n == 0) ≡ t0 → (n % 2 == 1) ≡ t1 → ((k a : ℕ) → number_at cells a ≡ Some k → a < 2 ^ 23) → IsLinked cells (if t0 then Nil else if t1 then Num (n / 2) else Ref (record { 0 = n / 2 - 1 })) → n % 2 ≡ 0 → n ≤ 2 ^ 33
packed-by cells n true t1 e0 e1 below h even = let z : n ≡ 0 = eqb-true n 0 e0 in omega arith
packed-by cells n false true e0 e1 below h even = let o : n % 2 ≡ 1 = eqb-true (n % 2) 1 e1 in absurd (omega arith)
packed-by cells n false false e0 e1 below h even = let lt = below h.0 (n / 2 - 1) h.1 in omega arith

word-packed : (cells : List CellList) (n : ℕ) → ((k a : ℕ) → number_at cells a ≡ Some k → a < 2 ^ 23) → (n < 2 ^ 64) × IsLinked cells (word_of_bits n) → IsPacked n
unfolding word_of_bits
word-packed cells n below h = (h.0, packed-by cells n (n == 0) (n % 2 == 1) refl refl below h.1)

-- addresses ascend, so the k-th is k at least
far : (cells : List CellList) → ((j k : ℕ) → j < k → k < length cells → (cell_at cells j).address < (cell_at cells k).address) → (k : ℕ) → k < length cells → k ≤ (cell_at cells k).address
far cells rising zero lt = omega arith
far cells rising (suc k) lt = let h = far cells rising k (omega arith) in let r = rising k (suc k) (omega arith) lt in omega arith

pub viewable : (l : ListingLists) → IsImageListing l → IsViewable l
viewable l is =
    let good = chain-good l.cells l 0 [] l.cells (chain-of l is) in
    let few_pages = is.setup.superpages.1 in
    let below : (k : ℕ) → k < length l.cells → (cell_at l.cells k).address < 2048 * l.setup.superpages = λ k lt. (let h = (all-at (IsListed l) l.cells k lt is.cells).superpage in omega arith) in
    let homes : (k a : ℕ) → number_at l.cells a ≡ Some k → a < 2 ^ 23 = λ k a h. (let b = number-below l.cells l.cells l a k good h in omega arith) in
    let rows : l.setup.domains * l.setup.slots ≤ l.setup.domains * 256 = mul-le-mul_left l.setup.domains is.setup.slots.1 in
    let few_domains = is.setup.domains.1 in
    let counted = is.slots in
    record {
      superpages = few_pages;
      slots = is.setup.slots.0;
      few_slots = omega arith;
      few = few-cells (length l.cells) (2048 * l.setup.superpages) (λ k lt. (let f = far l.cells is.rising k lt in let b = below k lt in omega arith)) (omega arith);
      below = below;
      rising = is.rising;
      packed = record {
        roots_packed = λ r lt. word-packed l.cells (slice_index l.roots r) homes (number-all (λ n. (n < 2 ^ 64) × IsLinked l.cells (word_of_bits n)) l.roots r lt is.roots);
        fields_packed = λ k i lt in_fields. word-packed l.cells (slice_index (cell_at l.cells k).fields i) homes (number-all (λ n. (n < 2 ^ 64) × IsLinked l.cells (word_of_bits n)) (cell_at l.cells k).fields i in_fields (all-at (IsListed l) l.cells k lt is.cells).fields);
        few = λ k lt. (let c = all-at (IsListed l) l.cells k lt is.cells in let n = c.count in let f = c.head.fields in omega arith);
      };
    }
  where
    few-cells : (n end : ℕ) → ((k : ℕ) → k < n → k < end) → end ≤ 2 ^ 23 → n + 1 < 2 ^ 32
    few-cells zero end h le = omega arith
    few-cells (suc n) end h le = let lt = h n (omega arith) in omega arith

-- and counted
pub countable : (l : ListingLists) → IsImageListing l → AreCountable l.cells
countable l is = record {
  domains = λ k lt. (let h = (all-at (IsListed l) l.cells k lt is.cells).domain in let few = is.setup.domains.1 in omega arith);
  fields = λ k lt. (let h = (all-at (IsListed l) l.cells k lt is.cells).head.fields in omega arith);
}
