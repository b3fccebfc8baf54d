-- How many there can be: different numbers below a bound, and the superpages that objects of few pairs of domain and class take.
use Rattle.std.proofs.Common.{◌≡◌, ℕ, ◌+◌, ◌-◌, ◌*◌, ◌<◌, ◌≤◌, ◌⊎◌, ◌==◌, ◌&&◌, Bool, true, false, if◌then◌else◌, List, [], ◌∷◌, map, zero, suc, length, refl, sym, subst, ◌∙◌, inl, inr, arith}
use Rattle.std.specs.List.{sum_by, count_by}
use Rattle.std.proofs.lemmas.Bool.{cases_eq, ne_eqb}
use Rattle.std.proofs.lemmas.List.Sums.{sum_by-cons}
use Rattle.std.proofs.lemmas.Bool.Decides.{eqb_tells}
use Rattle.std.proofs.lemmas.List.{length-map}
use Rattle.bc_classes.specs.Classes.{class_of, classes}
use Rattle.bc_model.specs.Need.{is_of, superpages_for, need_of, count_of}
use Rattle.bc_model.specs.State.{Object, object_of}
use Rattle.bc_model.specs.declared.values.Birth.{Birth}
use Rattle.bc_model.proofs.Objects.{same_birth}
use Rattle.bc_reach.specs.Distinct.{Has, Distinct}
use Rattle.bc_reach.proofs.Mapped.{Has-from_map, Distinct-map}
use Rattle.bc_reach.proofs.Pushed.{Has-decided}
use Rattle.bc_reach.proofs.Sums.{without, sum_by-without, Has-from_without, Distinct-without, Has-without_itself}

-- ---- different numbers

length-ones : {A : Type 0} (ys : List A) → length ys ≡ sum_by (λ y. 1) ys
length-ones [] = refl
length-ones (y ∷ ys) = omega (arith, length-ones ys, sum_by-cons (λ y. 1) y ys)

length-without : {A : Type 0} (x : A) (ys : List A) (h : Has ys x) → length ys ≡ length (without x ys h) + 1
length-without x ys h = omega (arith, length-ones ys, length-ones (without x ys h), sum_by-without (λ y. 1) x ys h)

pub few-numbers : (n : ℕ) (xs : List ℕ) → Distinct xs → ((a : ℕ) → Has xs a → a < n) → length xs ≤ n
few-numbers zero [] d below = omega arith
few-numbers zero (x ∷ xs) d below = absurd (omega (arith, below x (inl refl)))
few-numbers (suc n) xs d below =
    elim (Has-decided xs n) [
      | inl h ↦
          let rest = few-numbers n (without n xs h) (Distinct-without n xs h d) (λ a k.
          let low = below a (Has-from_without n xs h a k) in
          elim (cases_eq a n) [
            | inl e ↦ absurd (Has-without_itself n xs h d (subst (λ x. Has (without n xs h) x) e k))
            | inr ne ↦ omega (arith, low, ne)
          ]) in
          omega (arith, rest, length-without n xs h)
      | inr free ↦
          let rest = few-numbers n xs d (λ a k. elim (cases_eq a n) [
            | inl e ↦ absurd (free (subst (λ x. Has xs x) e k))
            | inr ne ↦ (let low = below a k in omega (arith, low, ne))
          ]) in
          omega (arith, rest)
    ]

-- of two lanes, each with at most m serials above a base of its own
abbrev pub InTwo : ℕ → ℕ → ℕ → Birth → Type 0
InTwo x y m b = ((b.lane ≡ 0) × (x < b.serial) × (b.serial ≤ x + m)) ⊎ ((b.lane ≡ 1) × (y < b.serial) × (b.serial ≤ y + m))

number : ℕ → ℕ → ℕ → Birth → ℕ
number x y m b = if b.lane == 0 then b.serial - x - 1 else m + (b.serial - y - 1)

if-lane : (l u v : ℕ) → l ≡ 0 → (if l == 0 then u else v) ≡ u
if-lane l u v e = subst (λ (k : ℕ). (if k == 0 then u else v) ≡ u) (sym e) refl

if-other : (l u v : ℕ) → l ≡ 1 → (if l == 0 then u else v) ≡ v
if-other l u v e = subst (λ (k : ℕ). (if k == 0 then u else v) ≡ v) (sym e) refl

number-below : (x y m : ℕ) (b : Birth) → InTwo x y m b → number x y m b < m + m
unfolding number
number-below x y m b (inl h) = let e = if-lane b.lane (b.serial - x - 1) (m + (b.serial - y - 1)) h.0 in omega (arith, e, h.1, h.2)
number-below x y m b (inr h) = let e = if-other b.lane (b.serial - x - 1) (m + (b.serial - y - 1)) h.0 in omega (arith, e, h.1, h.2)

number-tells : (x y m : ℕ) (b c : Birth) → InTwo x y m b → InTwo x y m c → number x y m b ≡ number x y m c → b ≡ c
unfolding number
number-tells x y m b c (inl h) (inl k) same =
    let e = if-lane b.lane (b.serial - x - 1) (m + (b.serial - y - 1)) h.0 in
    let f = if-lane c.lane (c.serial - x - 1) (m + (c.serial - y - 1)) k.0 in
    same_birth b c (h.0 ∙ sym k.0) (omega (arith, e, f, same, h.1, k.1))
number-tells x y m b c (inr h) (inr k) same =
    let e = if-other b.lane (b.serial - x - 1) (m + (b.serial - y - 1)) h.0 in
    let f = if-other c.lane (c.serial - x - 1) (m + (c.serial - y - 1)) k.0 in
    same_birth b c (h.0 ∙ sym k.0) (omega (arith, e, f, same, h.1, k.1))
number-tells x y m b c (inl h) (inr k) same =
    let e = if-lane b.lane (b.serial - x - 1) (m + (b.serial - y - 1)) h.0 in
    let f = if-other c.lane (c.serial - x - 1) (m + (c.serial - y - 1)) k.0 in
    absurd (omega (arith, e, f, same, h.1, h.2))
number-tells x y m b c (inr h) (inl k) same =
    let e = if-other b.lane (b.serial - x - 1) (m + (b.serial - y - 1)) h.0 in
    let f = if-lane c.lane (c.serial - x - 1) (m + (c.serial - y - 1)) k.0 in
    absurd (omega (arith, e, f, same, k.1, k.2))

pub few-births : (x y m : ℕ) (bs : List Birth) → Distinct bs → ((b : Birth) → Has bs b → InTwo x y m b) → length bs ≤ m + m
few-births x y m bs d h =
    let numbers = map (number x y m) bs in
    let distinct = Distinct-map (number x y m) bs (λ b c hb hc e. number-tells x y m b c (h b hb) (h c hc) e) d in
    let few = few-numbers (m + m) numbers distinct (λ a k.
    let p = Has-from_map (number x y m) bs a k in
    subst (λ n. n < m + m) p.2 (number-below x y m p.0 (h p.0 p.1))) in
    omega (arith, few, length-map bs (number x y m))

-- ---- superpages

-- each object of a list is of one class and of one domain
one-class : (b : Bool) (c : ℕ) → (if b && (c == 2) then 1 else 0) + (if b && (c == 4) then 1 else 0) + (if b && (c == 8) then 1 else 0) ≤ (if b then 1 else 0)
one-class false c = omega arith
one-class true c =
    elim (eqb_tells c 2) [
      | inl e ↦ subst (λ (x : ℕ). (if x == 2 then 1 else 0) + (if x == 4 then 1 else 0) + (if x == 8 then 1 else 0) ≤ 1) (sym e.1) (omega arith)
      | inr n ↦ elim (eqb_tells c 4) [
        | inl e ↦ subst (λ (x : ℕ). (if x == 2 then 1 else 0) + (if x == 4 then 1 else 0) + (if x == 8 then 1 else 0) ≤ 1) (sym e.1) (omega arith)
        | inr m ↦ rw (n.0, m.0) (at-most (c == 8))
      ]
    ]
  where
    at-most : (b : Bool) → 0 + 0 + (if b then 1 else 0) ≤ 1
    at-most true = omega arith
    at-most false = omega arith

one-domain : (d : ℕ) → (if d == 0 then 1 else 0) + (if d == 1 then 1 else 0) + (if d == 2 then 1 else 0) + (if d == 3 then 1 else 0) ≤ 1
one-domain zero = omega arith
one-domain (suc zero) = omega arith
one-domain (suc (suc zero)) = omega arith
one-domain (suc (suc (suc zero))) = omega arith
one-domain (suc (suc (suc (suc d)))) =
    let n = suc (suc (suc (suc d))) in
    rw (ne_eqb n 0 (λ h. absurd (omega (arith, h))), ne_eqb n 1 (λ h. absurd (omega (arith, h))), ne_eqb n 2 (λ h. absurd (omega (arith, h))), ne_eqb n 3 (λ h. absurd (omega (arith, h)))) (omega arith)

in-domain : List (List Object) → List Birth → ℕ → ℕ
in-domain made bs d = count_by (λ b. (object_of made b).domain == d) bs

in-domain-cons : (made : List (List Object)) (b : Birth) (bs : List Birth) (d : ℕ) → in-domain made (b ∷ bs) d ≡ (if (object_of made b).domain == d then 1 else 0) + in-domain made bs d
unfolding in-domain
in-domain-cons made b bs d = sum_by-cons (λ b. if (object_of made b).domain == d then 1 else 0) b bs

count-cons : (made : List (List Object)) (b : Birth) (bs : List Birth) (d c : ℕ) → count_of made (b ∷ bs) d c ≡ (if is_of d c (object_of made b) then 1 else 0) + count_of made bs d c
count-cons made b bs d c = sum_by-cons (λ b. if is_of d c (object_of made b) then 1 else 0) b bs

classes-of-domain : (made : List (List Object)) (bs : List Birth) (d : ℕ) → count_of made bs d 2 + count_of made bs d 4 + count_of made bs d 8 ≤ in-domain made bs d
unfolding in-domain
classes-of-domain made [] d = omega arith
classes-of-domain made (b ∷ bs) d =
    let one = one-class ((object_of made b).domain == d) (class_of (length (object_of made b).fields)) in
    omega (arith, one, classes-of-domain made bs d, count-cons made b bs d 2, count-cons made b bs d 4, count-cons made b bs d 8, in-domain-cons made b bs d)

all-domains : (made : List (List Object)) (bs : List Birth) → in-domain made bs 0 + in-domain made bs 1 + in-domain made bs 2 + in-domain made bs 3 ≤ length bs
unfolding in-domain
all-domains made [] = omega arith
all-domains made (b ∷ bs) =
    omega (arith, one-domain (object_of made b).domain, all-domains made bs, in-domain-cons made b bs 0, in-domain-cons made b bs 1, in-domain-cons made b bs 2, in-domain-cons made b bs 3)

-- small objects take small classes
small-class : (n : ℕ) → n < 8 → class_of n ≤ 8
unfolding class_of
small-class zero h = omega arith
small-class (suc zero) h = omega arith
small-class (suc (suc zero)) h = omega arith
small-class (suc (suc (suc zero))) h = omega arith
small-class (suc (suc (suc (suc zero)))) h = omega arith
small-class (suc (suc (suc (suc (suc zero))))) h = omega arith
small-class (suc (suc (suc (suc (suc (suc zero)))))) h = omega arith
small-class (suc (suc (suc (suc (suc (suc (suc zero))))))) h = omega arith
small-class (suc (suc (suc (suc (suc (suc (suc (suc n)))))))) h = absurd (omega (arith, h))

none-here : (b c : Bool) → c ≡ false → ◌≡◌ {A = ℕ} (if b && c then 1 else 0) 0
none-here false c e = refl
none-here true c e = rw e refl

none-of : (made : List (List Object)) (bs : List Birth) (d c : ℕ) → ((b : Birth) → length (object_of made b).fields < 8) → 8 < c → count_of made bs d c ≡ 0
none-of made [] d c small h = refl
none-of made (b ∷ bs) d c small h =
    let o = object_of made b in
    let low = small-class (length o.fields) (small b) in
    let other = none-here (o.domain == d) (class_of (length o.fields) == c) (ne_eqb (class_of (length o.fields)) c (λ e. absurd (omega (arith, e, low, h)))) in
    omega (arith, other, none-of made bs d c small h, count-cons made b bs d c)

-- in quarters of a superpage of the smallest cells
two : (n : ℕ) → superpages_for 2 n * 256 ≤ n + 255
two n = omega arith

four : (n : ℕ) → superpages_for 4 n * 256 ≤ n + 255
four n = omega arith

eight : (n : ℕ) → superpages_for 8 n * 256 ≤ n + 255
eight n = omega arith

none-taken : (c n : ℕ) → n ≡ 0 → superpages_for c 0 ≡ 0 → superpages_for c n ≡ 0
none-taken c n e h = subst (λ m. superpages_for c m ≡ 0) (sym e) h

classes-sum : (a b c t u v w x y z m : ℕ) → a * 256 ≤ x + 255 → b * 256 ≤ y + 255 → c * 256 ≤ z + 255 → t ≡ 0 → u ≡ 0 → v ≡ 0 → w ≡ 0 → x + y + z ≤ m → (0 + a + b + c + t + u + v + w) * 256 ≤ m + 765
classes-sum a b c t u v w x y z m ha hb hc ht hu hv hw h = omega (arith, ha, hb, hc, ht, hu, hv, hw, h)

domains-sum : (a b c d x y z w n : ℕ) → a * 256 ≤ x + 765 → b * 256 ≤ y + 765 → c * 256 ≤ z + 765 → d * 256 ≤ w + 765 → x + y + z + w ≤ n → n ≤ 4000 → 0 + a + b + c + d ≤ 27
domains-sum a b c d x y z w n ha hb hc hd h few = omega (arith, ha, hb, hc, hd, h, few)

domain-need : (made : List (List Object)) (bs : List Birth) (d : ℕ) → ((b : Birth) → length (object_of made b).fields < 8) → sum_by (λ c. superpages_for c (count_of made bs d c)) classes * 256 ≤ in-domain made bs d + 765
domain-need made bs d small =
    classes-sum _ _ _ _ _ _ _ (count_of made bs d 2) (count_of made bs d 4) (count_of made bs d 8) (in-domain made bs d)
    (two (count_of made bs d 2)) (four (count_of made bs d 4)) (eight (count_of made bs d 8))
    (none-taken 16 _ (none-of made bs d 16 small (omega arith)) refl) (none-taken 32 _ (none-of made bs d 32 small (omega arith)) refl)
    (none-taken 64 _ (none-of made bs d 64 small (omega arith)) refl) (none-taken 128 _ (none-of made bs d 128 small (omega arith)) refl)
    (classes-of-domain made bs d)

pub need-bound : (made : List (List Object)) (bs : List Birth) → ((b : Birth) → length (object_of made b).fields < 8) → length bs ≤ 4000 → need_of 4 (count_of made bs) ≤ 27
need-bound made bs small few =
    domains-sum _ _ _ _ (in-domain made bs 0) (in-domain made bs 1) (in-domain made bs 2) (in-domain made bs 3) (length bs)
    (domain-need made bs 0 small) (domain-need made bs 1 small) (domain-need made bs 2 small) (domain-need made bs 3 small) (all-domains made bs) few
