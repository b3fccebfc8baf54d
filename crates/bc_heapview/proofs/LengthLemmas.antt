-- How long an answer is at most.
use Rattle.std.proofs.Common.{◌≡◌, ◌≢◌, ◌⊎◌, ◌↔◌, ℕ, ◌+◌, ◌*◌, ◌%◌, ◌/◌, ◌^◌, ◌<◌, ◌≤◌, ◌==◌, List, [], ◌∷◌, ◌++◌, length, length-append, map, get_or, Option, Some, None, option_map, refl, sym, ◌∙◌, ap, subst, inl, inr, arith}
use Prim.Native.Nat.{zero, suc}
use Rattle.std.specs.Fmt.{decimal}
use Rattle.std.specs.List.{AllByRecursion, flat_map, sum_by}
use Rattle.std.proofs.lemmas.Bool.{cases_eq, cases_lt, ne_eqb}
use Rattle.std.proofs.lemmas.Fmt.{length-decimal-le}
use Rattle.std.proofs.lemmas.List.{get_or_past, length-map}
use Rattle.std.proofs.lemmas.List.Sums.{count_by-le-length, sum_by-cons}
use Rattle.std.specs.Option.{MatchOption}
use Rattle.std.proofs.Math.Nat.{mul-le-mul}
use Rattle.bc_classes.specs.ClassNumbers.{IsClass}
use Rattle.bc_classes.specs.Classes.{classes}
use Rattle.bc_classes.proofs.ClassLemmas.{class_of-class}
use Rattle.bc_word.specs.Words.{word_of_bits}
use Rattle.bc_memory.specs.Memory.{Cell}
use Rattle.bc_reach.specs.Distinct.{Has, Distinct}
use Rattle.bc_reach.specs.Reach.{Reach, begin, onward}
use Rattle.bc_reach.proofs.Mapped.{Has-map}
use Rattle.bc_reach.proofs.Sums.{without, sum_by-without, Has-without}
use Rattle.bc_model.specs.Need.{IsNeed, count_of, is_of}
use Rattle.bc_model.specs.Paths.{value_along}
use Rattle.bc_model.specs.Reached.{Reached}
use Rattle.bc_model.specs.State.{State, Object, object_of, place_of}
use Rattle.bc_model.specs.declared.values.Birth.{Birth}
use Rattle.bc_model.specs.declared.values.Value.{Value}
use Rattle.bc_model.specs.declared.values.Value.TheVariants.{Nil, Obj}
use Rattle.bc_model.proofs.Needs.{IsNeed-unique}
use Rattle.bc_standing.specs.Standing.{birth_of, births, read}
use Rattle.bc_image.specs.Cells.{CellList}
use Rattle.bc_image.specs.Images.{ImageOf, IsListed, IsImageListing}
use Rattle.bc_image.specs.Listings.{ListingLists}
use Rattle.bc_image.specs.Memories.{number_at, cell_at, cell_of, memory_of}
use Rattle.bc_image.specs.Pictures.{PicturesObjects}
use Rattle.bc_image.proofs.Grammar.{all-at}
use Rattle.bc_image.proofs.OneListing.{one-listing}
use Rattle.bc_image.proofs.Pictured.{some-objects}
use Rattle.bc_heapview.specs.Answers.{IsPathTo, NoWay, TellBirths, fields_of}
use Rattle.bc_heapview.specs.Counts.{AreCounts, counts_of, domain_counts, pair_counts, superpages_of}
use Rattle.bc_heapview.specs.PathLists.{PathList}
use Rattle.bc_heapview.specs.Texts.{birth_text, count_text, counts_text, root_text, step_text, path_text}
use Rattle.bc_heapview.specs.Views.{AnswersQuestion, HasViewRoom, IsAnswerAbout, IsCountsAnswer, view_bytes}
use Rattle.bc_heapview.specs.declared.question.Question.{Question}
use Rattle.bc_heapview.specs.declared.question.Question.TheVariants.{Counts, Path}
use Rattle.bc_heapview.specs.declared.steps.Step.{Step}
use Rattle.bc_heapview.specs.declared.tally.Count.{Count}
use Rattle.bc_heapview.proofs.BirthLemmas.{counts-need}
use Rattle.bc_heapview.proofs.CountLemmas.{IsFit, all-fit, counts-few, domains-more, few-sum}
use Rattle.bc_heapview.proofs.FindLemmas.{number_at-within}
use Rattle.bc_heapview.proofs.ViewLemmas.{viewable}

-- ---- lists of what is elsewhere

ones : {A : Type 0} (xs : List A) → sum_by (λ (a : A). 1) xs ≡ length xs
ones [] = refl
ones (x ∷ xs) = omega (arith, sum_by-cons (λ a. 1) x xs, ones xs)

length-without : {A : Type 0} (x : A) (ys : List A) (h : Has ys x) → length ys ≡ suc (length (without x ys h))
length-without x ys h = omega (arith, sum_by-without (λ a. 1) x ys h, ones ys, ones (without x ys h))

-- a list that has each element once, and only elements of another one, isn't longer
distinct-few : {A : Type 0} (xs ys : List A) → Distinct xs → ((a : A) → Has xs a → Has ys a) → length xs ≤ length ys
distinct-few [] ys d h = omega arith
distinct-few (x ∷ xs) ys d h =
    let hx : Has ys x = h x (inl refl) in
    let rest = distinct-few xs (without x ys hx) d.1 (λ a k. elim (Has-without x ys hx a (h a (inr k))) [
      | inl e ↦ absurd (d.0 (subst (λ z. Has xs z) (sym e) k))
      | inr m ↦ m
    ]) in
    omega (arith, rest, length-without x ys hx)

all-joined : (P : Count → Type 0) (xs ys : List Count) → AllByRecursion P xs → AllByRecursion P ys → AllByRecursion P (xs ++ ys)
all-joined P [] ys h k = k
all-joined P (x ∷ xs) ys h k = (h.0, all-joined P xs ys h.1 k)

-- ---- the objects of a state that a listing pictures

cell-in : (cells : List CellList) (k : ℕ) → k < length cells → Has cells (cell_at cells k)
cell-in [] k lt = absurd (omega arith)
cell-in (c ∷ cs) zero lt = inl refl
cell-in (c ∷ cs) (suc k) lt = inr (cell-in cs k (omega arith))

number-there : (cells : List CellList) (c : Cell) (o : Option ℕ) → option_map (λ (k : ℕ). cell_of (cell_at cells k)) o ≡ Some c → (k : ℕ) × (o ≡ Some k) × (cell_of (cell_at cells k) ≡ c)
number-there cells c None e = absurd (let h : None ≡ Some c = e in cc)
number-there cells c (Some k) e = (k, refl, (let h : Some (cell_of (cell_at cells k)) ≡ Some c = e in cc))

-- a reached object is listed
record IsListedAs (l : ListingLists) (made : List (List Object)) (b : Birth) : Type 0 where
  number : ℕ
  within : number < length l.cells
  birth : birth_of (cell_at l.cells number).head ≡ b
  count : (cell_at l.cells number).head.fields ≡ length (object_of made b).fields

abbrev birth_in : CellList → Birth
birth_in c = birth_of c.head

module _ (l : ListingLists) (s : State) (is : IsImageListing l) (pictures : PicturesObjects l s) where
  listed : (b : Birth) → Reached s.slots s.made b → IsListedAs l s.made b
  listed b r =
      let home = pictures.stands.home b r in
      let at = number-there l.cells home.1 (number_at l.cells home.0) home.2.there in
      record {
        number = at.0;
        within = number_at-within l.cells home.0 at.0 at.1;
        birth = ap (λ (c : Cell). birth_of c.head) at.2 ∙ home.2.birth;
        count = ap (λ (c : Cell). c.head.fields) at.2 ∙ home.2.count;
      }

  listed-in : (b : Birth) → Reached s.slots s.made b → Has (map birth_in l.cells) b
  listed-in b r =
      let at = listed b r in
      subst (λ (x : Birth). Has (map birth_in l.cells) x) at.birth (Has-map birth_in l.cells (cell_at l.cells at.number) (cell-in l.cells at.number at.within))

  -- different objects that are reached are no more than the listed ones
  reached-few : (bs : List Birth) → Distinct bs → ((b : Birth) → Has bs b → Reached s.slots s.made b) → length bs ≤ length l.cells
  reached-few bs d reached =
      let few = distinct-few bs (map birth_in l.cells) d (λ b h. listed-in b (reached b h)) in
      omega (arith, few, length-map l.cells birth_in)

  small-birth : (b : Birth) → Reached s.slots s.made b → (b.lane < 2 ^ 32) × (b.serial < 2 ^ 32)
  small-birth b r =
      let at = listed b r in
      let fits = (all-at (IsListed l) l.cells at.number at.within is.cells).head in
      (let e = ap (λ (x : Birth). x.lane) at.birth in let lt = fits.lane in omega (arith, e, lt), let e = ap (λ (x : Birth). x.serial) at.birth in let lt = fits.serial in omega (arith, e, lt))

  few-fields : (b : Birth) → Reached s.slots s.made b → length (object_of s.made b).fields < 128
  few-fields b r =
      let at = listed b r in
      let fits = (all-at (IsListed l) l.cells at.number at.within is.cells).head in
      let lt = fits.fields in
      omega (arith, at.count, lt)

-- ---- a number's digits

short-10 : (n : ℕ) → n < 2 ^ 32 → length (decimal n) ≤ 10
short-10 n lt = length-decimal-le 10 n (omega arith) (omega arith) (omega arith)

short-20 : (n : ℕ) → n < 2 ^ 64 → length (decimal n) ≤ 20
short-20 n lt = length-decimal-le 20 n (omega arith) (omega arith) (omega arith)

-- ---- counts

record IsSmallCount (k : Count) : Type 0 where
  domain : k.domain < 2 ^ 32
  class : k.class < 2 ^ 32
  objects : k.objects < 2 ^ 64
  superpages : k.superpages < 2 ^ 64

line-short : (k : Count) → IsSmallCount k → length (count_text k) ≤ 96
line-short k small =
    let parts : length (count_text k) ≡ 36 + length (decimal k.domain) + length (decimal k.class) + length (decimal k.objects) + length (decimal k.superpages) = simp (length-append) (omega arith) in
    omega (arith, parts, short-10 k.domain small.domain, short-10 k.class small.class, short-20 k.objects small.objects, short-20 k.superpages small.superpages)

lines-short : (ks : List Count) → AllByRecursion IsSmallCount ks → length (flat_map count_text ks) ≤ 96 * length ks
lines-short [] h = omega arith
lines-short (k ∷ ks) h = omega (arith, length-append (count_text k) (flat_map count_text ks), line-short k h.0, lines-short ks h.1)

counts-short : (ks : List Count) (need : ℕ) → AllByRecursion IsSmallCount ks → need < 2 ^ 64 → length (counts_text ks need) ≤ 96 * length ks + 26
counts-short ks need h lt =
    let parts : length (counts_text ks need) ≡ length (flat_map count_text ks) + (6 + length (decimal need)) = length-append (flat_map count_text ks) _ ∙ ap (λ (n : ℕ). length (flat_map count_text ks) + n) (simp (length-append) (omega arith)) in
    omega (arith, parts, lines-short ks h, short-20 need lt)

abbrev IsSmallClass : ℕ → Type 0
IsSmallClass c = c < 2 ^ 32

small-classes : AllByRecursion IsSmallClass classes
small-classes = (omega arith, (omega arith, (omega arith, (omega arith, (omega arith, (omega arith, (omega arith, tt)))))))

fit-small : {m n : ℕ} → m ≤ n → n < 2 ^ 32 → m < 2 ^ 64
fit-small le lt = omega arith

pair-small : (d c n : ℕ) → d < 2 ^ 32 → c < 2 ^ 32 → IsFit c → n < 2 ^ 32 → AllByRecursion IsSmallCount (pair_counts d c n)
pair-small d c n ld lc fits lt = elim (cases_eq n 0) [
  | inl its ↦ rw its tt
  | inr ne ↦ rw (ne_eqb n 0 ne) (record { domain = ld; class = lc; objects = omega arith; superpages = fit-small (fits n) lt }, tt)
]

classes-small : (d : ℕ) (count : ℕ → ℕ) (cs : List ℕ) → d < 2 ^ 32 → AllByRecursion IsSmallClass cs → AllByRecursion IsFit cs → ((c : ℕ) → count c < 2 ^ 32) → AllByRecursion IsSmallCount (flat_map (λ c. pair_counts d c (count c)) cs)
classes-small d count [] ld small fits few = tt
classes-small d count (c ∷ cs) ld small fits few =
    all-joined IsSmallCount (pair_counts d c (count c)) (flat_map (λ c. pair_counts d c (count c)) cs) (pair-small d c (count c) ld small.0 fits.0 (few c)) (classes-small d count cs ld small.1 fits.1 few)

domains-small : (domains : ℕ) (count : ℕ → ℕ → ℕ) → domains ≤ 64 → ((d c : ℕ) → count d c < 2 ^ 32) → AllByRecursion IsSmallCount (counts_of domains count)
domains-small zero count le few = tt
domains-small (suc d) count le few =
    subst (AllByRecursion IsSmallCount) (sym (domains-more d count))
    (all-joined IsSmallCount (counts_of d count) (domain_counts d (count d)) (domains-small d count (omega arith) few) (classes-small d (count d) classes (omega arith) small-classes all-fit (few d)))

pub counts-bound : (l : ListingLists) (s : State) (text : List ℕ) → IsImageListing l → PicturesObjects l s → IsCountsAnswer s text → length text ≤ 43034
counts-bound l s text is pictures answer =
    let are = answer.are_counts in
    let born = are.births in
    let few_cells = (viewable l is).few in
    let few = reached-few l s is pictures born are.distinct (λ b h. (are.members b).0 h) in
    let counted : (d c : ℕ) → count_of s.made born d c < 2 ^ 32 = λ d c. (let le = count_by-le-length (λ (b : Birth). is_of d c (object_of s.made b)) born in omega (arith, le, few, few_cells)) in
    let domains : length s.holders ≤ 64 = (let e = pictures.sizes.domains in let le = is.setup.domains.1 in omega (arith, e, le)) in
    let ks : List Count = counts_of (length s.holders) (count_of s.made born) in
    let few_counts = counts-few (length s.holders) (count_of s.made born) domains counted in
    let same : answer.counts ≡ ks = are.counts_are in
    let need : answer.need ≡ superpages_of ks = IsNeed-unique s answer.need (superpages_of answer.counts) answer.is_need (counts-need s answer.counts are) ∙ ap superpages_of same in
    let most = few-sum ks few_counts in
    let short = counts-short ks answer.need (domains-small (length s.holders) (count_of s.made born) domains counted) (omega (arith, need, most)) in
    let long = few_counts.few in
    let e : length text ≡ length (counts_text ks answer.need) = ap length answer.text_is ∙ ap (λ (xs : List Count). length (counts_text xs answer.need)) same in
    omega (arith, e, short, long)

-- ---- a way

-- from an object on a way to another one, fewer fields than all are left
left-over : (made : List (List Object)) (b x : Birth) (ts : List Step) (a : Birth) → TellBirths made (Obj x) ts → value_along made (Obj x) (fields_of ts) ≡ Obj b → Has (x ∷ map (λ (t : Step). t.birth) ts) a
    → (fs : List ℕ) × (value_along made (Obj a) fs ≡ Obj b) × (length fs ≤ length ts)
left-over made b x ts a told leads (inl e) = (fields_of ts, subst (λ (y : Birth). value_along made (Obj y) (fields_of ts) ≡ Obj b) e leads, omega (arith, length-map ts (λ (t : Step). t.field)))
left-over made b x [] a told leads (inr h) = absurd h
left-over made b x (t ∷ ts) a told leads (inr h) =
    let rest = left-over made b t.birth ts a told.1 (ap (λ (v : Value). value_along made v (fields_of ts)) (sym told.0) ∙ leads) h in
    (rest.0, rest.1, omega (arith, rest.2))

-- a way that no shorter one leads around passes no object twice
once : (made : List (List Object)) (b x : Birth) (ts : List Step) → TellBirths made (Obj x) ts → value_along made (Obj x) (fields_of ts) ≡ Obj b → ((fs : List ℕ) → value_along made (Obj x) fs ≡ Obj b → length ts ≤ length fs)
    → Distinct (x ∷ map (λ (t : Step). t.birth) ts)
once made b x [] told leads least = (λ h. h, tt)
once made b x (t ∷ ts) told leads least =
    let on : value_along made (Obj t.birth) (fields_of ts) ≡ Obj b = ap (λ (v : Value). value_along made v (fields_of ts)) (sym told.0) ∙ leads in (
      λ h.
          let back = left-over made b t.birth ts x told.1 on h in
          let le = least back.0 back.1 in
          let lt = back.2 in
          omega (arith, le, lt),
      once made b t.birth ts told.1 on (λ fs e.
          let le = least (t.field ∷ fs) (ap (λ (v : Value). value_along made v fs) told.0 ∙ e) in
          omega (arith, le)),
    )

module _ (l : ListingLists) (s : State) (is : IsImageListing l) (pictures : PicturesObjects l s) where
  passed : (x : Birth) (ts : List Step) → TellBirths s.made (Obj x) ts → Reached s.slots s.made x → (a : Birth) → Has (x ∷ map (λ (t : Step). t.birth) ts) a → Reached s.slots s.made a
  passed x ts told r a (inl e) = subst (Reached s.slots s.made) e r
  passed x [] told r a (inr h) = absurd h
  passed x (t ∷ ts) told r a (inr h) = passed t.birth ts told.1 (onward x t.birth r (t.field, told.0)) a h

  birth-short : (b : Birth) → Reached s.slots s.made b → length (birth_text b) ≤ 22
  birth-short b r =
      let small = small-birth l s is pictures b r in
      let parts : length (birth_text b) ≡ 2 + length (decimal b.lane) + length (decimal b.serial) = simp (length-append) (omega arith) in
      omega (arith, parts, short-10 b.lane small.0, short-10 b.serial small.1)

  field-small : (x : Birth) (i : ℕ) (b : Birth) → Reached s.slots s.made x → get_or (object_of s.made x).fields i Nil ≡ Obj b → i < 2 ^ 32
  field-small x i b r e = elim (cases_lt i (length (object_of s.made x).fields)) [
    | inl lt ↦ omega (arith, lt, few-fields l s is pictures x r)
    | inr le ↦ absurd (let past = get_or_past (object_of s.made x).fields i Nil le in let h : Nil ≡ Obj b = sym past ∙ e in cc)
  ]

  steps-short : (x : Birth) (ts : List Step) → TellBirths s.made (Obj x) ts → Reached s.slots s.made x → length (flat_map step_text ts) ≤ 39 * length ts
  steps-short x [] told r = omega arith
  steps-short x (t ∷ ts) told r =
      let on : Reached s.slots s.made t.birth = onward x t.birth r (t.field, told.0) in
      let parts : length (step_text t) ≡ 7 + length (decimal t.field) + length (birth_text t.birth) = simp (length-append) (omega arith) in
      omega (arith, length-append (step_text t) (flat_map step_text ts), parts, short-10 t.field (field-small x t.field t.birth r told.0), birth-short t.birth on, steps-short t.birth ts told.1 on)

  slots-few : length s.slots ≤ 16384
  slots-few =
      let same : length l.roots ≡ length s.slots = sym (length-map l.roots word_of_bits) ∙ sym (length-map (map word_of_bits l.roots) (read (births (memory_of l.cells)))) ∙ ap length pictures.stands.values ∙ length-map s.slots Some in
      let most : l.setup.domains * l.setup.slots ≤ 64 * 256 = mul-le-mul is.setup.domains.1 is.setup.slots.1 in
      omega (arith, same, most, is.slots)

  root-short : (b : Birth) (p : PathList) → IsPathTo s b p → Reached s.slots s.made p.first → length (root_text p) ≤ 49
  root-short b p to r =
      let width = pictures.sizes.slots in
      let wide = is.setup.slots.1 in
      let within = to.slot in
      let place : place_of s.width p.root < length s.slots = elim (cases_lt (place_of s.width p.root) (length s.slots)) [
        | inl lt ↦ lt
        | inr le ↦ absurd (let past = get_or_past s.slots (place_of s.width p.root) Nil le in let h : Nil ≡ Obj p.first = sym past ∙ to.first in cc)
      ] in
      let domain : 1 * p.root.domain ≤ s.width * p.root.domain = mul-le-mul (omega (arith, within)) (omega arith) in
      let parts : length (root_text p) ≡ 7 + length (decimal p.root.domain) + length (decimal p.root.slot) + length (birth_text p.first) = simp (length-append) (omega arith) in
      omega (
        arith,
        parts,
        short-10 p.root.domain (omega (arith, domain, place, slots-few)),
        short-10 p.root.slot (omega (arith, within, width, wide)),
        birth-short p.first r,
      )

  way-bound : (b : Birth) (p : PathList) → IsPathTo s b p → length (root_text p ++ flat_map step_text p.steps) ≤ 49 + 39 * length l.cells
  way-bound b p to =
      let at : get_or s.slots (place_of s.width p.root) Nil ≡ Obj p.first = to.first in
      let r : Reached s.slots s.made p.first = begin p.first (place_of s.width p.root, at) in
      let leads : value_along s.made (Obj p.first) (fields_of p.steps) ≡ Obj b = ap (λ (v : Value). value_along s.made v (fields_of p.steps)) (sym at) ∙ to.least.leads in
      let least : (fs : List ℕ) → value_along s.made (Obj p.first) fs ≡ Obj b → length p.steps ≤ length fs = λ fs e.
      (let le = to.least.shortest (place_of s.width p.root) fs (ap (λ (v : Value). value_along s.made v fs) at ∙ e) in omega (arith, le, length-map p.steps (λ (t : Step). t.field))) in
      let few = reached-few l s is pictures (p.first ∷ map (λ (t : Step). t.birth) p.steps) (once s.made b p.first p.steps to.births leads least) (passed p.first p.steps to.births r) in
      omega (arith, length-append (root_text p) (flat_map step_text p.steps), root-short b p to r, steps-short p.first p.steps to.births r, few, length-map p.steps (λ (t : Step). t.birth))

path-bound : (l : ListingLists) (s : State) (b : Birth) (found : Option PathList) → IsImageListing l → PicturesObjects l s → MatchOption found (NoWay s b) (IsPathTo s b) → length (path_text found) ≤ 49 + 39 * length l.cells
path-bound l s b None is pictures to = omega arith
path-bound l s b (Some p) is pictures to = way-bound l s is pictures b p to

pub answer-bound : (l : ListingLists) (s : State) (question : Question) (text : List ℕ) → IsImageListing l → PicturesObjects l s → AnswersQuestion s question text → length text ≤ view_bytes question (length l.cells)
answer-bound l s Counts text is pictures answer = counts-bound l s text is pictures answer
answer-bound l s (Path b) text is pictures answer = omega (arith, ap length answer.text_is, path-bound l s b answer.found is pictures answer.is_found)

-- ---- how many objects there are

even : (c n : ℕ) → IsClass c → n % c ≡ 0 → n % 2 ≡ 0
even c n (inl e) h = let k : n % 2 ≡ 0 = subst (λ (m : ℕ). n % m ≡ 0) e h in k
even c n (inr (inl e)) h = let k : n % 4 ≡ 0 = subst (λ (m : ℕ). n % m ≡ 0) e h in omega arith
even c n (inr (inr (inl e))) h = let k : n % 8 ≡ 0 = subst (λ (m : ℕ). n % m ≡ 0) e h in omega arith
even c n (inr (inr (inr (inl e)))) h = let k : n % 16 ≡ 0 = subst (λ (m : ℕ). n % m ≡ 0) e h in omega arith
even c n (inr (inr (inr (inr (inl e))))) h = let k : n % 32 ≡ 0 = subst (λ (m : ℕ). n % m ≡ 0) e h in omega arith
even c n (inr (inr (inr (inr (inr (inl e)))))) h = let k : n % 64 ≡ 0 = subst (λ (m : ℕ). n % m ≡ 0) e h in omega arith
even c n (inr (inr (inr (inr (inr (inr e)))))) h = let k : n % 128 ≡ 0 = subst (λ (m : ℕ). n % m ≡ 0) e h in omega arith

-- addresses ascend and are even, so the k-th is 2 k at least
apart : (cells : List CellList) → ((j k : ℕ) → j < k → k < length cells → (cell_at cells j).address < (cell_at cells k).address) → ((k : ℕ) → k < length cells → (cell_at cells k).address % 2 ≡ 0) → (k : ℕ) → k < length cells → 2 * k ≤ (cell_at cells k).address
apart cells rising halves zero lt = omega arith
apart cells rising halves (suc k) lt = omega (arith, apart cells rising halves k (omega arith), rising k (suc k) (omega arith) lt, halves k (omega arith), halves (suc k) lt)

fewer : (n most : ℕ) → ((k : ℕ) → k < n → k < most) → n ≤ most
fewer zero most h = omega arith
fewer (suc n) most h = let lt = h n (omega arith) in omega arith

pub objects-few : (l : ListingLists) → IsImageListing l → length l.cells ≤ 1024 * l.setup.superpages
objects-few l is =
    let halves : (k : ℕ) → k < length l.cells → (cell_at l.cells k).address % 2 ≡ 0 = λ k lt. (let c = all-at (IsListed l) l.cells k lt is.cells in even _ _ (class_of-class (cell_at l.cells k).head.fields) c.start) in
    fewer (length l.cells) (1024 * l.setup.superpages) (λ k lt.
    let far = apart l.cells is.rising halves k lt in
    let low = (all-at (IsListed l) l.cells k lt is.cells).superpage in
    omega (arith, far, low))

-- ---- the room that a question wants

pub text-bound : (l : ListingLists) (question : Question) (text : List ℕ) → IsImageListing l → IsAnswerAbout l question text → length text ≤ view_bytes question (length l.cells)
text-bound l question text is answer = let some = some-objects l is in answer-bound l some.0 question text is some.2 (answer some.0 some.2)

pub room-known : (question : Question) (bytes : List ℕ) (l : ListingLists) (room : ℕ) → ImageOf bytes l [] → view_bytes question (length l.cells) ≤ room → HasViewRoom question (Some bytes) (Some room)
room-known question bytes l room image le m text can answer =
    let same : m ≡ l = (one-listing can.bytes [] [] m l can.image (subst (λ (bs : List ℕ). ImageOf bs l []) can.given image)).0 in
    let short = text-bound m question text can.image.listing answer in
    let e = ap (λ (x : ListingLists). view_bytes question (length x.cells)) same in
    omega (arith, short, e, le)

more-bytes : (question : Question) (m n : ℕ) → m ≤ n → view_bytes question m ≤ view_bytes question n
more-bytes Counts m n le = omega arith
more-bytes (Path b) m n le = omega arith

pub room-ample : (question : Question) (left : Option (List ℕ)) (room : ℕ) → view_bytes question 4194304 ≤ room → HasViewRoom question left (Some room)
room-ample question left room le l text can answer =
    let short = text-bound l question text can.image.listing answer in
    let supers = can.image.listing.setup.superpages.1 in
    let most = more-bytes question (length l.cells) 4194304 (omega (arith, objects-few l can.image.listing, supers)) in
    omega (arith, short, most, le)
