-- Counts of pairs, and the superpages that they take.
use Rattle.std.proofs.Common.{◌≡◌, ◌≢◌, ℕ, ◌+◌, ◌-◌, ◌*◌, ◌/◌, ◌^◌, ◌<◌, ◌≤◌, ◌==◌, if◌then◌else◌, List, [], ◌∷◌, ◌++◌, length, length-append, append-nil, refl, sym, ◌∙◌, ap, ap₂, subst, inl, inr, arith}
use Prim.Native.Nat.{zero, suc}
use Rattle.std.specs.List.{AllByRecursion, flat_map, sum_by}
use Rattle.std.proofs.lemmas.Bool.{cases_eq, ne_eqb}
use Rattle.std.proofs.lemmas.List.Concat.{flat_map-append}
use Rattle.std.proofs.lemmas.List.Sums.{sum_by-append, sum_by-cons}
use Rattle.bc_classes.specs.Classes.{classes, cap}
use Rattle.bc_model.specs.Need.{superpages_for, need_of}
use Rattle.bc_model.specs.State.{numbers_below}
use Rattle.bc_heapview.specs.Counts.{AreFewCounts, counts_of, domain_counts, pair_counts, superpages_of}
use Rattle.bc_heapview.specs.declared.tally.Count.{Count}

-- n objects of the class take n superpages at most
abbrev pub IsFit : ℕ → Type 0
IsFit c = (n : ℕ) → superpages_for c n ≤ n

fit-2 : (n : ℕ) → (n + 1023) / 1024 ≤ n
fit-2 n = omega arith

fit-4 : (n : ℕ) → (n + 511) / 512 ≤ n
fit-4 n = omega arith

fit-8 : (n : ℕ) → (n + 255) / 256 ≤ n
fit-8 n = omega arith

fit-16 : (n : ℕ) → (n + 127) / 128 ≤ n
fit-16 n = omega arith

fit-32 : (n : ℕ) → (n + 63) / 64 ≤ n
fit-32 n = omega arith

fit-64 : (n : ℕ) → (n + 31) / 32 ≤ n
fit-64 n = omega arith

fit-128 : (n : ℕ) → (n + 15) / 16 ≤ n
fit-128 n = omega arith

pub all-fit : AllByRecursion IsFit classes
all-fit = (fit-2, (fit-4, (fit-8, (fit-16, (fit-32, (fit-64, (fit-128, tt)))))))

-- ---- their superpages

pair-superpages : (d c n : ℕ) → IsFit c → superpages_of (pair_counts d c n) ≡ superpages_for c n
pair-superpages d c n fits = elim (cases_eq n 0) [
  | inl its ↦ rw its (let le = fits 0 in omega arith)
  | inr ne ↦ rw (ne_eqb n 0 ne) (omega arith)
]

lines-superpages : (d : ℕ) (count : ℕ → ℕ) (cs : List ℕ) → AllByRecursion IsFit cs → superpages_of (flat_map (λ c. pair_counts d c (count c)) cs) ≡ sum_by (λ c. superpages_for c (count c)) cs
lines-superpages d count [] h = refl
lines-superpages d count (c ∷ cs) h =
    sum_by-append (λ (k : Count). k.superpages) (pair_counts d c (count c)) (flat_map (λ c. pair_counts d c (count c)) cs)
    ∙ ap₂ (◌+◌) (pair-superpages d c (count c) h.0) (lines-superpages d count cs h.1)
    ∙ sym (sum_by-cons (λ c. superpages_for c (count c)) c cs)

all-superpages : (count : ℕ → ℕ → ℕ) (ds : List ℕ) → superpages_of (flat_map (λ d. domain_counts d (count d)) ds) ≡ sum_by (λ d. sum_by (λ c. superpages_for c (count d c)) classes) ds
all-superpages count [] = refl
all-superpages count (d ∷ ds) =
    sum_by-append (λ (k : Count). k.superpages) (domain_counts d (count d)) (flat_map (λ d. domain_counts d (count d)) ds)
    ∙ ap₂ (◌+◌) (lines-superpages d (count d) classes all-fit) (all-superpages count ds)
    ∙ sym (sum_by-cons (λ d. sum_by (λ c. superpages_for c (count d c)) classes) d ds)

-- together they are the need
pub superpages-need : (domains : ℕ) (count : ℕ → ℕ → ℕ) → superpages_of (counts_of domains count) ≡ need_of domains count
superpages-need domains count = all-superpages count (numbers_below domains)

-- ---- there are few of them

abbrev IsSmall : Count → Type 0
IsSmall k = k.superpages < 2 ^ 32

join-small : (xs ys : List Count) → AllByRecursion IsSmall xs → AllByRecursion IsSmall ys → AllByRecursion IsSmall (xs ++ ys)
join-small [] ys h k = k
join-small (x ∷ xs) ys h k = (h.0, join-small xs ys h.1 k)

pair-few : (d c n : ℕ) → length (pair_counts d c n) ≤ 1
pair-few d c n = elim (cases_eq n 0) [
  | inl its ↦ rw its (omega arith)
  | inr ne ↦ rw (ne_eqb n 0 ne) (omega arith)
]

small-one : {m n : ℕ} → m ≤ n → n < 2 ^ 32 → m < 2 ^ 32
small-one le lt = omega arith

pair-small : (d c n : ℕ) → IsFit c → n < 2 ^ 32 → AllByRecursion IsSmall (pair_counts d c n)
pair-small d c n fits lt = elim (cases_eq n 0) [
  | inl its ↦ rw its tt
  | inr ne ↦ rw (ne_eqb n 0 ne) (small-one (fits n) lt, tt)
]

lines-few : (d : ℕ) (count : ℕ → ℕ) (cs : List ℕ) → length (flat_map (λ c. pair_counts d c (count c)) cs) ≤ length cs
lines-few d count [] = omega arith
lines-few d count (c ∷ cs) = omega (arith, length-append (pair_counts d c (count c)) (flat_map (λ c. pair_counts d c (count c)) cs), pair-few d c (count c), lines-few d count cs)

lines-small : (d : ℕ) (count : ℕ → ℕ) (cs : List ℕ) → AllByRecursion IsFit cs → ((c : ℕ) → count c < 2 ^ 32) → AllByRecursion IsSmall (flat_map (λ c. pair_counts d c (count c)) cs)
lines-small d count [] fits small = tt
lines-small d count (c ∷ cs) fits small = join-small (pair_counts d c (count c)) (flat_map (λ c. pair_counts d c (count c)) cs) (pair-small d c (count c) fits.0 (small c)) (lines-small d count cs fits.1 small)

all-few : (count : ℕ → ℕ → ℕ) (ds : List ℕ) → length (flat_map (λ d. domain_counts d (count d)) ds) ≤ 7 * length ds
all-few count [] = omega arith
all-few count (d ∷ ds) = omega (arith, length-append (domain_counts d (count d)) (flat_map (λ d. domain_counts d (count d)) ds), lines-few d (count d) classes, all-few count ds)

all-small : (count : ℕ → ℕ → ℕ) (ds : List ℕ) → ((d c : ℕ) → count d c < 2 ^ 32) → AllByRecursion IsSmall (flat_map (λ d. domain_counts d (count d)) ds)
all-small count [] small = tt
all-small count (d ∷ ds) small = join-small (domain_counts d (count d)) (flat_map (λ d. domain_counts d (count d)) ds) (lines-small d (count d) classes all-fit (small d)) (all-small count ds small)

numbers-long : (n : ℕ) → length (numbers_below n) ≡ n
numbers-long zero = refl
numbers-long (suc n) = omega (arith, length-append (numbers_below n) (n ∷ []), numbers-long n)

pub counts-few : (domains : ℕ) (count : ℕ → ℕ → ℕ) → domains ≤ 64 → ((d c : ℕ) → count d c < 2 ^ 32) → AreFewCounts (counts_of domains count)
counts-few domains count le small = record {
  few = omega (arith, all-few count (numbers_below domains), numbers-long domains);
  small = all-small count (numbers_below domains) small;
}

-- so they can be added up
pub few-sum : (counts : List Count) → AreFewCounts counts → superpages_of counts ≤ 448 * 2 ^ 32
few-sum counts h = let le = sum-small counts h.small in let n = h.few in omega arith
  where
    sum-small : (counts : List Count) → AllByRecursion IsSmall counts → superpages_of counts ≤ length counts * 2 ^ 32
    sum-small [] h = omega arith
    sum-small (k ∷ ks) h = omega (arith, sum_by-cons (λ (k : Count). k.superpages) k ks, h.0, sum-small ks h.1)

-- ---- counts that are the same

same-domain : (d : ℕ) (f g : ℕ → ℕ) → ((c : ℕ) → c < 129 → f c ≡ g c) → domain_counts d f ≡ domain_counts d g
same-domain d f g same = rw (same 2 (omega arith), same 4 (omega arith), same 8 (omega arith), same 16 (omega arith), same 32 (omega arith), same 64 (omega arith), same 128 (omega arith)) refl

pub domains-more : (d : ℕ) (count : ℕ → ℕ → ℕ) → counts_of (suc d) count ≡ counts_of d count ++ domain_counts d (count d)
domains-more d count =
    flat_map-append (λ d. domain_counts d (count d)) (numbers_below d) (d ∷ [])
    ∙ ap (λ xs. counts_of d count ++ xs) (append-nil (domain_counts d (count d)))

pub domains-next : (d : ℕ) (count : ℕ → ℕ → ℕ) → counts_of (d + 1) count ≡ counts_of d count ++ domain_counts d (count d)
domains-next d count = let e : d + 1 ≡ suc d = omega arith in ap (λ (n : ℕ). counts_of n count) e ∙ domains-more d count

pub same-counts : (domains : ℕ) (f g : ℕ → ℕ → ℕ) → ((d c : ℕ) → d < domains → c < 129 → f d c ≡ g d c) → counts_of domains f ≡ counts_of domains g
same-counts zero f g same = refl
same-counts (suc n) f g same =
    domains-more n f
    ∙ ap₂ (◌++◌) (same-counts n f g (λ d c lt few. same d c (omega arith) few)) (same-domain n (f n) (g n) (λ c few. same n c (omega arith) few))
    ∙ sym (domains-more n g)
