-- What the reader takes whole is an image, and an image is what it takes whole.
use Rattle.std.proofs.Common.{◌≡◌, ◌≢◌, ◌⊎◌, ℕ, ◌+◌, ◌-◌, ◌*◌, ◌/◌, ◌%◌, ◌^◌, ◌<◌, ◌≤◌, ◌==◌, ◌&&◌, ◌||◌, nat_eq, nat_lt, nat_le, Bool, true, false, not, if◌then◌else◌, List, [], ◌∷◌, ◌++◌, length, map, Option, Some, None, option_map, refl, sym, ◌∙◌, ap, ap₂, inl, inr, arith}
use Prim.Native.Nat.{zero, suc}
use Rattle.std.specs.List.{AllByRecursion, list_any}
use Rattle.std.specs.Option.{is_some}
use Rattle.std.proofs.lemmas.Bool.{eq-eqb, ne_eqb, eqb-true, cases_eq, or_cases, and_parts}
use Rattle.std.proofs.lemmas.Bool.Decides.{nat_tests}
use Rattle.std.proofs.lemmas.List.Folds.{list_any-append}
use Rattle.bc_model.specs.declared.values.Birth.{Birth}
use Rattle.bc_model.specs.declared.values.Holder.{Holder}
use Rattle.bc_model.specs.declared.values.Holder.TheVariants.{Lane, Frozen}
use Rattle.bc_standing.specs.Standing.{birth_of}
use Rattle.bc_word.specs.HeadBits.{FitsHead}
use Rattle.bc_word.specs.Words.{word_of_bits}
use Rattle.bc_word.specs.declared.words.Word.{Word}
use Rattle.bc_word.specs.declared.words.Word.TheVariants.{Nil, Num, Ref}
use Rattle.bc_image.specs.Cells.{CellList}
use Rattle.bc_image.specs.Drafts.{numbered_holder}
use Rattle.bc_image.specs.Faults.{leads_nowhere}
use Rattle.bc_image.specs.Images.{holder_number, IsImageHolder, IsLinked, AreLinked, IsListed, IsImageListing}
use Rattle.bc_image.specs.Items.{is_root}
use Rattle.bc_image.specs.Listings.{ListingLists}
use Rattle.bc_image.specs.Memories.{cell_at, number_at}
use Rattle.bc_image.specs.declared.progress.Stage.{Stage}
use Rattle.bc_image.specs.declared.progress.Stage.TheVariants as stages
use Rattle.bc_image.proofs.ItemLemmas.{le_true, lt_true}
use Rattle.bc_image.proofs.Running.{FitsLinked}
use Rattle.bc_image.proofs.Superpages.{number_of}
use Rattle.bc_image.proofs.Chains.{Chain, IsGood, Alike, chain-above}

-- ---- lists

pub all-weaker : {X : Type 0} (P Q : X → Type 0) (xs : List X) → ((x : X) → P x → Q x) → AllByRecursion P xs → AllByRecursion Q xs
all-weaker P Q [] f a = tt
all-weaker P Q (x ∷ xs) f a = (f x a.0, all-weaker P Q xs f a.1)

pub all-map : {X Y : Type 0} (f : X → Y) (P : X → Type 0) (Q : Y → Type 0) (xs : List X) → ((x : X) → P x → Q (f x)) → AllByRecursion P xs → AllByRecursion Q (map f xs)
all-map f P Q [] h a = tt
all-map f P Q (x ∷ xs) h a = (h x a.0, all-map f P Q xs h a.1)

pub all-at : (P : CellList → Type 0) (xs : List CellList) (k : ℕ) → k < length xs → AllByRecursion P xs → P (cell_at xs k)
all-at P [] k lt a = absurd (omega arith)
all-at P (x ∷ xs) zero lt a = a.0
all-at P (x ∷ xs) (suc k) lt a = all-at P xs k (omega arith) a.1

all-made : (P : CellList → Type 0) (xs : List CellList) → ((k : ℕ) → k < length xs → P (cell_at xs k)) → AllByRecursion P xs
all-made P [] h = tt
all-made P (x ∷ xs) h = (h 0 (omega arith), all-made P xs (λ k lt. h (suc k) (omega arith)))

pub map-same : (ns : List ℕ) → map (λ n. n) ns ≡ ns
map-same [] = refl
map-same (n ∷ ns) = ap (λ (ms : List ℕ). n ∷ ms) (map-same ns)

-- ---- holders

number-holder : (lanes n : ℕ) → holder_number lanes (numbered_holder lanes n) ≡ n
number-holder lanes n = elim (cases_eq n lanes) [
  | inl e ↦ rw (eq-eqb n lanes e) (sym e)
  | inr ne ↦ rw (ne_eqb n lanes ne) refl
]

pub numbers-holders : (lanes : ℕ) (ns : List ℕ) → map (holder_number lanes) (map (numbered_holder lanes) ns) ≡ ns
numbers-holders lanes [] = refl
numbers-holders lanes (n ∷ ns) = ap₂ (λ (m : ℕ) (ms : List ℕ). m ∷ ms) (number-holder lanes n) (numbers-holders lanes ns)

holder-number : (version lanes : ℕ) (h : Holder) → IsImageHolder version lanes h → numbered_holder lanes (holder_number lanes h) ≡ h
holder-number version lanes (Lane j) is = rw (ne_eqb j lanes (λ e. absurd (omega arith))) refl
holder-number version lanes Frozen is = rw (eq-eqb lanes lanes refl) refl

pub holders-numbers : (version lanes : ℕ) (hs : List Holder) → AllByRecursion (IsImageHolder version lanes) hs → map (numbered_holder lanes) (map (holder_number lanes) hs) ≡ hs
holders-numbers version lanes [] a = refl
holders-numbers version lanes (h ∷ hs) a = ap₂ (λ (m : Holder) (ms : List Holder). m ∷ ms) (holder-number version lanes h a.0) (holders-numbers version lanes hs a.1)

pub holder-good : (version lanes n : ℕ) → (nat_lt n lanes || ((n == lanes) && nat_le 2 version)) ≡ true → IsImageHolder version lanes (numbered_holder lanes n)
holder-good version lanes n h = elim (cases_eq n lanes) [
  | inl e ↦ rw (eq-eqb n lanes e) (elim (or_cases (nat_lt n lanes) ((n == lanes) && nat_le 2 version) h) [ inl l ↦ absurd (let m = lt_true n lanes l in omega arith) | inr r ↦ le_true 2 version (and_parts (n == lanes) (nat_le 2 version) r).1 ])
  | inr ne ↦ rw (ne_eqb n lanes ne) (elim (or_cases (nat_lt n lanes) ((n == lanes) && nat_le 2 version) h) [ inl l ↦ lt_true n lanes l | inr r ↦ absurd (ne (eqb-true n lanes (and_parts (n == lanes) (nat_le 2 version) r).0)) ])
]

pub holder-tests : (version lanes : ℕ) (h : Holder) → IsImageHolder version lanes h → (let n : ℕ = holder_number lanes h in (nat_lt n lanes || ((n == lanes) && nat_le 2 version)) ≡ true)
holder-tests version lanes (Lane j) is = grind (arith, nat_tests)
holder-tests version lanes Frozen is = rw (eq-eqb lanes lanes refl) (let k : 2 ≤ version = is in grind (arith, nat_tests))

pub holder-small : (version lanes : ℕ) (h : Holder) → lanes ≤ 16 → IsImageHolder version lanes h → holder_number lanes h < 2 ^ 64
holder-small version lanes (Lane j) le is = omega arith
holder-small version lanes Frozen le is = omega arith

-- ---- words

pub linked-from : (cells : List CellList) (w : Word) → leads_nowhere cells w ≡ false → IsLinked cells w
linked-from cells Nil h = tt
linked-from cells (Num n) h = tt
linked-from cells (Ref a) h = by (number_at cells a.0) h
  where
    by : (o : Option ℕ) → not (is_some o) ≡ false → (k : ℕ) × (o ≡ Some k)
    by None k = absurd (let c : true ≡ false = k in cc)
    by (Some n) k = (n, refl)

pub linked-leads : (cells : List CellList) (w : Word) → IsLinked cells w → leads_nowhere cells w ≡ false
linked-leads cells Nil h = refl
linked-leads cells (Num n) h = refl
linked-leads cells (Ref a) h = rw h.1 refl

pub words-linked : (cells : List CellList) (st : Stage) (ns : List ℕ) → ((n : ℕ) → FitsLinked cells st n → leads_nowhere cells (word_of_bits n) ≡ false) → AllByRecursion (FitsLinked cells st) ns → AreLinked cells ns
words-linked cells st ns leads a = all-weaker (FitsLinked cells st) (λ n. (n < 2 ^ 64) × IsLinked cells (word_of_bits n)) ns (λ n f. (f.small, linked-from cells (word_of_bits n) (leads n f))) a

number-step : (a k : ℕ) (t : Bool) (o : Option ℕ) → (if t then Some 0 else option_map (λ n. n + 1) o) ≡ Some k → (t ≡ true) ⊎ ((j : ℕ) × (o ≡ Some j))
number-step a k true o h = inl refl
number-step a k false None h = absurd (let c : None ≡ Some k = h in cc)
number-step a k false (Some j) h = inr (j, refl)

pub number-below : (cells : List CellList) (all : List CellList) (l : ListingLists) (a k : ℕ) → AllByRecursion (IsGood cells l) all → number_at all a ≡ Some k → a < 2048 * l.setup.superpages
number-below cells [] l a k good h = absurd (let c : None ≡ Some k = h in cc)
number-below cells (x ∷ xs) l a k good h = elim (number-step a k (x.address == a) (number_at xs a) h) [
  | inl e ↦ (let same : x.address ≡ a = eqb-true x.address a e in let page = good.0.superpage in omega arith)
  | inr f ↦ number-below cells xs l a f.0 good.1 f.1
]

root-by : (cells : List CellList) (end n : ℕ) (t0 t1 : Bool) → ((k a : ℕ) → number_at cells a ≡ Some k → a < end) → IsLinked cells (if t0 then Nil else if t1 then Num (n / 2) else Ref (record { 0 = n / 2 - 1 })) → (t0 || (t1 || nat_le (n / 2) end)) ≡ true
root-by cells end n true t1 below h = refl
root-by cells end n false true below h = refl
root-by cells end n false false below h = (let lt = below h.0 (n / 2 - 1) h.1 in le-back (n / 2) end (omega arith))
  where
    le-back : (a b : ℕ) → a ≤ b → nat_le a b ≡ true
    le-back a b h = grind (arith, nat_tests)

pub root-true : (cells : List CellList) (end n : ℕ) → ((k a : ℕ) → number_at cells a ≡ Some k → a < end) → IsLinked cells (word_of_bits n) → is_root end n ≡ true
unfolding word_of_bits
root-true cells end n below h = root-by cells end n (n == 0) (n % 2 == 1) below h

-- ---- the list of objects

pub chain-good : (cells : List CellList) (l : ListingLists) (least : ℕ) (born : List ℕ) (xs : List CellList) → Chain cells l least born xs → AllByRecursion (IsGood cells l) xs
chain-good cells l least born [] c = tt
chain-good cells l least born (x ∷ xs) c = (c.0, chain-good cells l (x.address + 1) (born ++ number_of x ∷ []) xs c.4)

pub chain-rising : (cells : List CellList) (l : ListingLists) (xs : List CellList) (least : ℕ) (born : List ℕ) → Chain cells l least born xs → (j k : ℕ) → j < k → k < length xs → (cell_at xs j).address < (cell_at xs k).address
chain-rising cells l [] least born c j k lt in_k = absurd (omega arith)
chain-rising cells l (x ∷ xs) least born c j zero lt in_k = absurd (omega arith)
chain-rising cells l (x ∷ xs) least born c zero (suc k) lt in_k = (let h = all-at (λ y. x.address + 1 ≤ y.address) xs k (omega arith) (chain-above cells l (x.address + 1) (born ++ number_of x ∷ []) xs c.4) in omega arith)
chain-rising cells l (x ∷ xs) least born c (suc j) (suc k) lt in_k = chain-rising cells l xs (x.address + 1) (born ++ number_of x ∷ []) c.4 j k (omega arith) (omega arith)

pub chain-alike : (cells : List CellList) (l : ListingLists) (xs : List CellList) (least : ℕ) (born : List ℕ) → Chain cells l least born xs → (j k : ℕ) → j < length xs → k < length xs → Alike (cell_at xs j) (cell_at xs k)
chain-alike cells l [] least born c j k in_j in_k = absurd (omega arith)
chain-alike cells l (x ∷ xs) least born c zero zero in_j in_k = λ e. (refl, refl)
chain-alike cells l (x ∷ xs) least born c zero (suc k) in_j in_k = all-at (Alike x) xs k (omega arith) c.3
chain-alike cells l (x ∷ xs) least born c (suc j) zero in_j in_k = λ e. (let b = all-at (Alike x) xs j (omega arith) c.3 (sym e) in (sym b.0, sym b.1))
chain-alike cells l (x ∷ xs) least born c (suc j) (suc k) in_j in_k = chain-alike cells l xs (x.address + 1) (born ++ number_of x ∷ []) c.4 j k (omega arith) (omega arith)

or-first : (a b : Bool) → (a || b) ≡ false → a ≡ false
or-first true b h = h
or-first false b h = refl

or-second : (a b : Bool) → (a || b) ≡ false → b ≡ false
or-second true b h = absurd (let k : true ≡ false = h in cc)
or-second false b h = h

chain-once : (cells : List CellList) (l : ListingLists) (xs : List CellList) (least : ℕ) (born : List ℕ) → Chain cells l least born xs → (k : ℕ) → k < length xs → list_any (nat_eq (number_of (cell_at xs k))) born ≡ false
chain-once cells l [] least born c k lt = absurd (omega arith)
chain-once cells l (x ∷ xs) least born c zero lt = c.2
chain-once cells l (x ∷ xs) least born c (suc k) lt =
    let test : ℕ → Bool = nat_eq (number_of (cell_at xs k)) in
    or-first (list_any test born) (list_any test (number_of x ∷ [])) (sym (list_any-append test born (number_of x ∷ [])) ∙ chain-once cells l xs (x.address + 1) (born ++ number_of x ∷ []) c.4 k (omega arith))

chain-later : (cells : List CellList) (l : ListingLists) (x : CellList) (xs : List CellList) (least : ℕ) (born : List ℕ) → Chain cells l least (born ++ number_of x ∷ []) xs → (k : ℕ) → k < length xs → number_of (cell_at xs k) ≢ number_of x
chain-later cells l x xs least born c k lt e =
    let test : ℕ → Bool = nat_eq (number_of (cell_at xs k)) in
    let none = or-first (test (number_of x)) false (or-second (list_any test born) (list_any test (number_of x ∷ [])) (sym (list_any-append test born (number_of x ∷ [])) ∙ chain-once cells l xs least (born ++ number_of x ∷ []) c k lt)) in
    absurd (let c : true ≡ false = sym (eq-eqb (number_of (cell_at xs k)) (number_of x) e) ∙ none in cc)

pub chain-apart : (cells : List CellList) (l : ListingLists) (xs : List CellList) (least : ℕ) (born : List ℕ) → Chain cells l least born xs → (j k : ℕ) → j < length xs → k < length xs → number_of (cell_at xs j) ≡ number_of (cell_at xs k) → j ≡ k
chain-apart cells l [] least born c j k in_j in_k e = absurd (omega arith)
chain-apart cells l (x ∷ xs) least born c zero zero in_j in_k e = refl
chain-apart cells l (x ∷ xs) least born c zero (suc k) in_j in_k e = absurd (chain-later cells l x xs (x.address + 1) born c.4 k (omega arith) (sym e))
chain-apart cells l (x ∷ xs) least born c (suc j) zero in_j in_k e = absurd (chain-later cells l x xs (x.address + 1) born c.4 j (omega arith) e)
chain-apart cells l (x ∷ xs) least born c (suc j) (suc k) in_j in_k e = ap suc (chain-apart cells l xs (x.address + 1) (born ++ number_of x ∷ []) c.4 j k (omega arith) (omega arith) e)

number-is : (x : CellList) → FitsHead x.head → number_of x ≡ x.head.lane + 16 * x.head.serial
number-is x f = let a = f.fields in let b = f.domain in let c = f.lane in omega arith

pub numbers-births : (x y : CellList) → FitsHead x.head → FitsHead y.head → birth_of x.head ≡ birth_of y.head → number_of x ≡ number_of y
numbers-births x y f g e = number-is x f ∙ ap (λ (b : Birth). b.lane + 16 * b.serial) e ∙ sym (number-is y g)

births-numbers : (x y : CellList) → FitsHead x.head → FitsHead y.head → number_of x ≡ number_of y → birth_of x.head ≡ birth_of y.head
births-numbers x y f g e =
    let h = number-is x f in
    let k = number-is y g in
    let a = f.lane in
    let b = g.lane in
    let lane : x.head.lane ≡ y.head.lane = omega arith in
    let serial : x.head.serial ≡ y.head.serial = omega arith in
    ap₂ (λ (j s : ℕ). let r : Birth = record { lane = j; serial = s } in r) lane serial

pub listed-from : (l : ListingLists) (x : CellList) → IsGood l.cells l x → IsListed l x
listed-from l x g = record {
  superpage = g.superpage;
  start = g.start;
  head = g.head;
  lane = g.lane;
  positive = g.positive;
  serial = g.serial;
  domain = g.domain;
  count = g.count;
  fields = words-linked l.cells stages.Field x.fields (λ n f. f.leads) g.fields;
}

good-listed : (l : ListingLists) (x : CellList) → IsListed l x → IsGood l.cells l x
good-listed l x g = record {
  superpage = g.superpage;
  start = g.start;
  head = g.head;
  lane = g.lane;
  positive = g.positive;
  serial = g.serial;
  domain = g.domain;
  count = g.count;
  fields = all-weaker (λ n. (n < 2 ^ 64) × IsLinked l.cells (word_of_bits n)) (FitsLinked l.cells stages.Field) x.fields (λ n f. record { small = f.0; leads = linked-leads l.cells (word_of_bits n) f.1 }) g.fields;
}

-- a list with ascending addresses and so on is a chain
chain-make : (cells : List CellList) (l : ListingLists) (xs : List CellList) (least : ℕ) (born : List ℕ) → AllByRecursion (IsGood cells l) xs
    → ((k : ℕ) → k < length xs → least ≤ (cell_at xs k).address)
    → ((j k : ℕ) → j < k → k < length xs → (cell_at xs j).address < (cell_at xs k).address)
    → ((j k : ℕ) → j < length xs → k < length xs → Alike (cell_at xs j) (cell_at xs k))
    → ((j k : ℕ) → j < length xs → k < length xs → number_of (cell_at xs j) ≡ number_of (cell_at xs k) → j ≡ k)
    → ((k : ℕ) → k < length xs → list_any (nat_eq (number_of (cell_at xs k))) born ≡ false)
    → Chain cells l least born xs
chain-make cells l [] least born good low rising alike apart new = tt
chain-make cells l (x ∷ xs) least born good low rising alike apart new = (
  good.0,
  low 0 (omega arith),
  new 0 (omega arith),
  all-made (Alike x) xs (λ k lt. alike 0 (suc k) (omega arith) (omega arith)),
  chain-make cells l xs (x.address + 1) (born ++ number_of x ∷ []) good.1
      (λ k lt. (let h = rising 0 (suc k) (omega arith) (omega arith) in omega arith))
      (λ j k less lt. rising (suc j) (suc k) (omega arith) (omega arith))
      (λ j k in_j in_k. alike (suc j) (suc k) (omega arith) (omega arith))
      (λ j k in_j in_k e. (let h = apart (suc j) (suc k) (omega arith) (omega arith) e in omega arith))
      (λ k lt.
      let test : ℕ → Bool = nat_eq (number_of (cell_at xs k)) in
      let other : test (number_of x) ≡ false = ne_eqb (number_of (cell_at xs k)) (number_of x) (λ e. absurd (let h = apart (suc k) 0 (omega arith) (omega arith) e in omega arith)) in
      list_any-append test born (number_of x ∷ []) ∙ rw (new (suc k) (omega arith), other) refl),
)

pub chain-of : (l : ListingLists) → IsImageListing l → Chain l.cells l 0 [] l.cells
chain-of l is =
    let heads : AllByRecursion (λ x. FitsHead x.head) l.cells = all-weaker (IsListed l) (λ x. FitsHead x.head) l.cells (λ x g. g.head) is.cells in
    chain-make l.cells l l.cells 0 [] (all-weaker (IsListed l) (IsGood l.cells l) l.cells (good-listed l) is.cells) (λ k lt. omega arith) is.rising is.alike
    (λ j k in_j in_k e. is.apart j k in_j in_k (births-numbers (cell_at l.cells j) (cell_at l.cells k) (all-at (λ x. FitsHead x.head) l.cells j in_j heads) (all-at (λ x. FitsHead x.head) l.cells k in_k heads) e))
    (λ k lt. refl)
