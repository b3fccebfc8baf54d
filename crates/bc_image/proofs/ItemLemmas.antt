-- What an item that passed says.
use Rattle.std.proofs.Common.{◌≡◌, ℕ, ◌+◌, ◌*◌, ◌/◌, ◌%◌, ◌^◌, ◌<◌, ◌≤◌, ◌==◌, ◌&&◌, ◌||◌, ◌-◌, ◌≢◌, Bool, if◌then◌else◌, true, false, nat_lt, nat_le, List, refl, sym, ◌∙◌, subst, inl, inr, arith}
use Rattle.std.proofs.lemmas.Bool.{and_parts, or_cases, eqb-true, eq-eqb}
use Rattle.std.proofs.lemmas.Bool.Decides.{nat_tests}
use Rattle.std.proofs.Math.Nat.{mul-le-mul_left, div-le_self}
use Rattle.bc_classes.specs.ClassNumbers.{IsClass}
use Rattle.bc_image.specs.Items.{is_within, is_head, passes, passes_at, IsSmallItem, IsBoundedProgress, IsProgress, HasPlace, HasClass, HasObjectLeft, is_class, superpage_ended, object_ended, one_stood, field_stood, advanced_at}
use Rattle.bc_image.specs.declared.progress.Progress.{Progress}
use Rattle.bc_image.specs.declared.progress.Stage.{Stage}
use Rattle.bc_image.specs.declared.progress.Stage.TheVariants as stages

pub at_most : (least most n : ℕ) → is_within least most n ≡ true → n ≤ most
at_most least most n h = grind (arith, nat_tests)

pub at_least : (least most n : ℕ) → is_within least most n ≡ true → least ≤ n
at_least least most n h = grind (arith, nat_tests)

pub le_true : (a b : ℕ) → nat_le a b ≡ true → a ≤ b
le_true a b h = grind (arith, nat_tests)

pub lt_true : (a b : ℕ) → nat_lt a b ≡ true → a < b
lt_true a b h = grind (arith, nat_tests)

-- an item that passed is as small as the number that it becomes
pub passed-small : (st : Stage) (p : Progress) (births : List ℕ) (n : ℕ) → IsBoundedProgress p → passes_at st p births n ≡ true → IsSmallItem st n
passed-small stages.Magic p births n is h = tt
passed-small stages.Version p births n is h = omega (arith, at_most 1 3 n h)
passed-small stages.Lanes p births n is h = omega (arith, at_most 1 16 n h)
passed-small stages.Domains p births n is h = omega (arith, at_most 1 64 n h)
passed-small stages.Slots p births n is h = omega (arith, at_most 1 256 n h)
passed-small stages.Superpages p births n is h = omega (arith, at_most 1 4096 n h)
passed-small stages.Nursery p births n is h = omega (arith, at_most 1 16 n h)
passed-small stages.Buffer p births n is h = omega (arith, at_most 1 4096 n h)
passed-small stages.Frames p births n is h =
    let most = at_most (p.setup.lanes * p.setup.nursery + 2) (p.setup.lanes * p.setup.nursery + 4 * p.setup.superpages) n h in
    let rows : p.setup.lanes * p.setup.nursery ≤ p.setup.lanes * 16 = mul-le-mul_left p.setup.lanes is.nursery in
    omega (arith, most, rows, is.lanes, is.superpages)
passed-small stages.Phases p births n is h = omega (arith, le_true n 4294967295 h)
passed-small stages.Holder p births n is h = tt
passed-small stages.Birth p births n is h = omega (arith, le_true n 4000000000 h)
passed-small stages.Root p births n is h = tt
passed-small stages.Pair p births n is h =
    elim (or_cases (n == 0) _ h) [
      | inl z ↦ let e : n ≡ 0 = eqb-true n 0 z in omega arith
      | inr more ↦ let lt = lt_true (n / 256) p.setup.domains (and_parts _ _ more).1 in omega (arith, lt, is.domains)
    ]
passed-small stages.Count p births n is h =
    let most = at_most 1 (2048 / p.class) n h in
    let few : 2048 / p.class ≤ 2048 = div-le_self 2048 p.class in
    omega (arith, most, few)
passed-small stages.Address p births n is h =
    let e : n / 2048 ≡ p.superpage = eqb-true (n / 2048) p.superpage (and_parts _ _ h).0 in
    omega (arith, e, is.superpage)
passed-small stages.Head p births n is h = tt
passed-small stages.Field p births n is h = tt
passed-small stages.Finished p births n is h = tt

slots-some : (p : Progress) → IsBoundedProgress p → 0 < p.setup.domains * p.setup.slots
slots-some p b =
    let rows : p.setup.domains * 1 ≤ p.setup.domains * p.setup.slots = mul-le-mul_left p.setup.domains b.some_slots in
    omega (arith, rows, b.some_domains)

slots-few : (p : Progress) → IsBoundedProgress p → p.setup.domains * p.setup.slots ≤ 16384
slots-few p b =
    let rows : p.setup.domains * p.setup.slots ≤ p.setup.domains * 256 = mul-le-mul_left p.setup.domains b.slots in
    omega (arith, rows, b.domains)

other : (x y : Bool) → (x || y) ≡ true → x ≡ false → y ≡ true
other true y h z = absurd (let k : true ≡ false = z in cc)
other false y h z = h

by-test : (p : Progress) → IsBoundedProgress p → p.superpage < p.setup.superpages → (t : Bool) → (p.superpage + 1 == p.setup.superpages) ≡ t → IsProgress (record p { superpage = p.superpage + 1; stage = if t then stages.Finished else stages.Pair })
by-test p b lt true h = record { bounded = record { some_lanes = b.some_lanes; lanes = b.lanes; some_domains = b.some_domains; domains = b.domains; some_slots = b.some_slots; slots = b.slots; some_superpages = b.some_superpages; superpages = b.superpages; nursery = b.nursery; stood = b.stood; superpage = (let s = b.superpages in omega arith); address = b.address; class = b.class }; place = tt; object = tt; classed = tt }
by-test p b lt false h =
    let ne : p.superpage + 1 ≢ p.setup.superpages = λ s. (let k : true ≡ false = sym (eq-eqb (p.superpage + 1) p.setup.superpages s) ∙ h in cc) in
    record { bounded = record { some_lanes = b.some_lanes; lanes = b.lanes; some_domains = b.some_domains; domains = b.domains; some_slots = b.some_slots; slots = b.slots; some_superpages = b.some_superpages; superpages = b.superpages; nursery = b.nursery; stood = b.stood; superpage = (let s = b.superpages in omega arith); address = b.address; class = b.class }; place = omega arith; object = tt; classed = tt }

if-kept : (t : Bool) (x y : Progress) → (t ≡ true → IsProgress x) → (t ≡ false → IsProgress y) → IsProgress (if t then x else y)
if-kept true x y f g = f refl
if-kept false x y f g = g refl

pub class-is : (n : ℕ) → is_class n ≡ true → IsClass n
class-is n h = elim (or_cases (n == 2) _ h) [
  | inl e ↦ inl (eqb-true n 2 e)
  | inr h4 ↦ inr (elim (or_cases (n == 4) _ h4) [
    | inl e ↦ inl (eqb-true n 4 e)
    | inr h8 ↦ inr (elim (or_cases (n == 8) _ h8) [
      | inl e ↦ inl (eqb-true n 8 e)
      | inr h16 ↦ inr (elim (or_cases (n == 16) _ h16) [
        | inl e ↦ inl (eqb-true n 16 e)
        | inr h32 ↦ inr (elim (or_cases (n == 32) _ h32) [
          | inl e ↦ inl (eqb-true n 32 e)
          | inr h64 ↦ inr (elim (or_cases (n == 64) (n == 128) h64) [ inl e ↦ inl (eqb-true n 64 e) | inr e ↦ inr (eqb-true n 128 e) ])
        ])
      ])
    ])
  ])
]

class-small : (c : ℕ) → IsClass c → c ≤ 255
class-small c h = grind arith

-- one more of a count
stood-kept : (p : Progress) (st next : Stage) (all : ℕ) → p.stage ≡ st → IsBoundedProgress p → all ≤ 16384 → p.stood < all → HasClass st p → HasObjectLeft st p → ((k : ℕ) → k < all → let q : Progress = record p { stood = k } in HasPlace st q × HasClass st q × HasObjectLeft st q) → (let q : Progress = record p { stood = 0; stage = next } in HasPlace next q × HasClass next q × HasObjectLeft next q) → IsProgress (one_stood p all next)
stood-kept p st next all e b few lt cl ob more last =
    if-kept (p.stood + 1 == all) (record p { stood = 0; stage = next }) (record p { stood = p.stood + 1 })
    (λ h. record { bounded = record { some_lanes = b.some_lanes; lanes = b.lanes; some_domains = b.some_domains; domains = b.domains; some_slots = b.some_slots; slots = b.slots; some_superpages = b.some_superpages; superpages = b.superpages; nursery = b.nursery; stood = omega arith; superpage = b.superpage; address = b.address; class = b.class }; place = last.0; object = last.2; classed = last.1 })
    (λ h.
    let ne : p.stood + 1 ≢ all = λ s. (let k : true ≡ false = sym (eq-eqb (p.stood + 1) all s) ∙ h in cc) in
    let less : p.stood + 1 < all = omega arith in
    let m = more (p.stood + 1) less in
    let q : Progress = record p { stood = p.stood + 1 } in
    record { bounded = record { some_lanes = b.some_lanes; lanes = b.lanes; some_domains = b.some_domains; domains = b.domains; some_slots = b.some_slots; slots = b.slots; some_superpages = b.some_superpages; superpages = b.superpages; nursery = b.nursery; stood = omega arith; superpage = b.superpage; address = b.address; class = b.class }; place = subst (λ s. HasPlace s q) (sym e) m.0; object = subst (λ s. HasObjectLeft s q) (sym e) m.2; classed = subst (λ s. HasClass s q) (sym e) m.1 })

-- a superpage, or an object, is through
superpage-kept : (p : Progress) → IsBoundedProgress p → p.superpage < p.setup.superpages → IsProgress (superpage_ended p)
superpage-kept p b lt = by-test p b lt (p.superpage + 1 == p.setup.superpages) refl

object-kept : (p : Progress) → IsBoundedProgress p → p.superpage < p.setup.superpages → IsClass p.class → IsProgress (object_ended p)
object-kept p b lt cl =
    let q : Progress = record p { left = p.left - 1; least = p.address + p.class; stage = stages.Address } in
    if-kept (p.left - 1 == 0) (superpage_ended q) q
    (λ h. superpage-kept q (record { some_lanes = b.some_lanes; lanes = b.lanes; some_domains = b.some_domains; domains = b.domains; some_slots = b.some_slots; slots = b.slots; some_superpages = b.some_superpages; superpages = b.superpages; nursery = b.nursery; stood = b.stood; superpage = b.superpage; address = b.address; class = b.class }) lt)
    (λ h.
    let ne : p.left - 1 ≢ 0 = λ s. (let k : true ≡ false = sym (eq-eqb (p.left - 1) 0 s) ∙ h in cc) in
    record { bounded = record { some_lanes = b.some_lanes; lanes = b.lanes; some_domains = b.some_domains; domains = b.domains; some_slots = b.some_slots; slots = b.slots; some_superpages = b.some_superpages; superpages = b.superpages; nursery = b.nursery; stood = b.stood; superpage = b.superpage; address = b.address; class = b.class }; place = lt; object = omega arith; classed = cl })

field-kept : (p : Progress) → p.stage ≡ stages.Field → IsBoundedProgress p → p.superpage < p.setup.superpages → IsClass p.class → 0 < p.left → IsProgress (field_stood p)
field-kept p e b lt cl left =
    if-kept (p.fields == 0) (object_ended p) p
    (λ h. object-kept p b lt cl)
    (λ h.
    let ne : p.fields ≢ 0 = λ s. (let k : true ≡ false = sym (eq-eqb p.fields 0 s) ∙ h in cc) in
    let ob : (0 < p.left) × (0 < p.fields) = (left, omega arith) in
    record { bounded = b; place = subst (λ s. HasPlace s p) (sym e) lt; object = subst (λ s. HasObjectLeft s p) (sym e) ob; classed = subst (λ s. HasClass s p) (sym e) cl })

-- what is true of a progress stays so after an item that passed
pub progress-kept : (st : Stage) (p : Progress) (births : List ℕ) (n : ℕ) → p.stage ≡ st → IsBoundedProgress p → HasPlace st p → HasClass st p → HasObjectLeft st p → passes_at st p births n ≡ true → IsProgress (advanced_at st p n)
progress-kept stages.Magic p births n e b place cl ob h = record { bounded = record { some_lanes = b.some_lanes; lanes = b.lanes; some_domains = b.some_domains; domains = b.domains; some_slots = b.some_slots; slots = b.slots; some_superpages = b.some_superpages; superpages = b.superpages; nursery = b.nursery; stood = b.stood; superpage = b.superpage; address = b.address; class = b.class }; place = place; object = tt; classed = tt }
progress-kept stages.Version p births n e b place cl ob h = record { bounded = record { some_lanes = b.some_lanes; lanes = b.lanes; some_domains = b.some_domains; domains = b.domains; some_slots = b.some_slots; slots = b.slots; some_superpages = b.some_superpages; superpages = b.superpages; nursery = b.nursery; stood = b.stood; superpage = b.superpage; address = b.address; class = b.class }; place = place; object = tt; classed = tt }
progress-kept stages.Lanes p births n e b place cl ob h = record { bounded = record { some_lanes = at_least 1 16 n h; lanes = at_most 1 16 n h; some_domains = b.some_domains; domains = b.domains; some_slots = b.some_slots; slots = b.slots; some_superpages = b.some_superpages; superpages = b.superpages; nursery = b.nursery; stood = b.stood; superpage = b.superpage; address = b.address; class = b.class }; place = place; object = tt; classed = tt }
progress-kept stages.Domains p births n e b place cl ob h = record { bounded = record { some_lanes = b.some_lanes; lanes = b.lanes; some_domains = at_least 1 64 n h; domains = at_most 1 64 n h; some_slots = b.some_slots; slots = b.slots; some_superpages = b.some_superpages; superpages = b.superpages; nursery = b.nursery; stood = b.stood; superpage = b.superpage; address = b.address; class = b.class }; place = place; object = tt; classed = tt }
progress-kept stages.Slots p births n e b place cl ob h = record { bounded = record { some_lanes = b.some_lanes; lanes = b.lanes; some_domains = b.some_domains; domains = b.domains; some_slots = at_least 1 256 n h; slots = at_most 1 256 n h; some_superpages = b.some_superpages; superpages = b.superpages; nursery = b.nursery; stood = b.stood; superpage = b.superpage; address = b.address; class = b.class }; place = place; object = tt; classed = tt }
progress-kept stages.Superpages p births n e b place cl ob h = record { bounded = record { some_lanes = b.some_lanes; lanes = b.lanes; some_domains = b.some_domains; domains = b.domains; some_slots = b.some_slots; slots = b.slots; some_superpages = at_least 1 4096 n h; superpages = at_most 1 4096 n h; nursery = b.nursery; stood = b.stood; superpage = b.superpage; address = b.address; class = b.class }; place = place; object = tt; classed = tt }
progress-kept stages.Nursery p births n e b place cl ob h = record { bounded = record { some_lanes = b.some_lanes; lanes = b.lanes; some_domains = b.some_domains; domains = b.domains; some_slots = b.some_slots; slots = b.slots; some_superpages = b.some_superpages; superpages = b.superpages; nursery = at_most 1 16 n h; stood = b.stood; superpage = b.superpage; address = b.address; class = b.class }; place = place; object = tt; classed = tt }
progress-kept stages.Buffer p births n e b place cl ob h = record { bounded = record { some_lanes = b.some_lanes; lanes = b.lanes; some_domains = b.some_domains; domains = b.domains; some_slots = b.some_slots; slots = b.slots; some_superpages = b.some_superpages; superpages = b.superpages; nursery = b.nursery; stood = b.stood; superpage = b.superpage; address = b.address; class = b.class }; place = place; object = tt; classed = tt }
progress-kept stages.Frames p births n e b place cl ob h = record { bounded = record { some_lanes = b.some_lanes; lanes = b.lanes; some_domains = b.some_domains; domains = b.domains; some_slots = b.some_slots; slots = b.slots; some_superpages = b.some_superpages; superpages = b.superpages; nursery = b.nursery; stood = b.stood; superpage = b.superpage; address = b.address; class = b.class }; place = place; object = tt; classed = tt }
progress-kept stages.Phases p births n e b place cl ob h = record { bounded = record { some_lanes = b.some_lanes; lanes = b.lanes; some_domains = b.some_domains; domains = b.domains; some_slots = b.some_slots; slots = b.slots; some_superpages = b.some_superpages; superpages = b.superpages; nursery = b.nursery; stood = b.stood; superpage = b.superpage; address = b.address; class = b.class }; place = (let z : p.stood ≡ 0 = place.0 in let d = b.some_domains in omega arith, place.1); object = tt; classed = tt }
progress-kept stages.Holder p births n e b place cl ob h = stood-kept p stages.Holder stages.Birth p.setup.domains e b (let d = b.domains in omega arith) place.0 cl ob (λ k lt. ((lt, place.1), tt, tt)) ((let d = b.some_lanes in omega arith, place.1), tt, tt)
progress-kept stages.Birth p births n e b place cl ob h = stood-kept p stages.Birth stages.Root p.setup.lanes e b (let d = b.lanes in omega arith) place.0 cl ob (λ k lt. ((lt, place.1), tt, tt)) ((slots-some p b, place.1), tt, tt)
progress-kept stages.Root p births n e b place cl ob h = stood-kept p stages.Root stages.Pair (p.setup.domains * p.setup.slots) e b (slots-few p b) place.0 cl ob (λ k lt. ((lt, place.1), tt, tt)) ((let z : p.superpage ≡ 0 = place.1 in let d = b.some_superpages in omega arith), tt, tt)
progress-kept stages.Pair p births n e b place cl ob h =
    if-kept (n == 0) (superpage_ended p) (record p { class = n % 256; domain = n / 256; stage = stages.Count })
    (λ z. superpage-kept p b place)
    (λ z.
    let parts = and_parts (is_class (n % 256)) (nat_lt (n / 256) p.setup.domains) (other (n == 0) _ h z) in
    let c : IsClass (n % 256) = class-is (n % 256) parts.0 in
    record { bounded = record { some_lanes = b.some_lanes; lanes = b.lanes; some_domains = b.some_domains; domains = b.domains; some_slots = b.some_slots; slots = b.slots; some_superpages = b.some_superpages; superpages = b.superpages; nursery = b.nursery; stood = b.stood; superpage = b.superpage; address = b.address; class = class-small (n % 256) c }; place = place; object = tt; classed = c })
progress-kept stages.Count p births n e b place cl ob h = record { bounded = record { some_lanes = b.some_lanes; lanes = b.lanes; some_domains = b.some_domains; domains = b.domains; some_slots = b.some_slots; slots = b.slots; some_superpages = b.some_superpages; superpages = b.superpages; nursery = b.nursery; stood = b.stood; superpage = b.superpage; address = b.address; class = b.class }; place = place; object = at_least 1 (2048 / p.class) n h; classed = cl }
progress-kept stages.Address p births n e b place cl ob h =
    let q : n / 2048 ≡ p.superpage = eqb-true (n / 2048) p.superpage (and_parts (n / 2048 == p.superpage) ((n % p.class == 0) && nat_le p.least n) h).0 in
    record { bounded = record { some_lanes = b.some_lanes; lanes = b.lanes; some_domains = b.some_domains; domains = b.domains; some_slots = b.some_slots; slots = b.slots; some_superpages = b.some_superpages; superpages = b.superpages; nursery = b.nursery; stood = b.stood; superpage = b.superpage; address = (let s = b.superpage in omega arith); class = b.class }; place = place; object = ob; classed = cl }
progress-kept stages.Head p births n e b place cl ob h = field-kept (record p { fields = n % 128; stage = stages.Field }) refl (record { some_lanes = b.some_lanes; lanes = b.lanes; some_domains = b.some_domains; domains = b.domains; some_slots = b.some_slots; slots = b.slots; some_superpages = b.some_superpages; superpages = b.superpages; nursery = b.nursery; stood = b.stood; superpage = b.superpage; address = b.address; class = b.class }) place cl ob
progress-kept stages.Field p births n e b place cl ob h = field-kept (record p { fields = p.fields - 1 }) e (record { some_lanes = b.some_lanes; lanes = b.lanes; some_domains = b.some_domains; domains = b.domains; some_slots = b.some_slots; slots = b.slots; some_superpages = b.some_superpages; superpages = b.superpages; nursery = b.nursery; stood = b.stood; superpage = b.superpage; address = b.address; class = b.class }) place cl ob.0
progress-kept stages.Finished p births n e b place cl ob h = record { bounded = b; place = subst (λ s. HasPlace s p) (sym e) tt; object = subst (λ s. HasObjectLeft s p) (sym e) tt; classed = subst (λ s. HasClass s p) (sym e) tt }

-- what the items of some stages are
pub passed-holder : (p : Progress) (births : List ℕ) (n : ℕ) → IsBoundedProgress p → p.stage ≡ stages.Holder → passes p births n ≡ true → n < 2 ^ 32
unfolding passes
passed-holder p births n b e h =
    let k : passes_at stages.Holder p births n ≡ true = subst (λ s. passes_at s p births n ≡ true) e h in
    elim (or_cases (nat_lt n p.setup.lanes) ((n == p.setup.lanes) && nat_le 2 p.version) k) [
      | inl l ↦ let m = lt_true n p.setup.lanes l in let few = b.lanes in omega arith
      | inr r ↦ let m : n ≡ p.setup.lanes = eqb-true n p.setup.lanes (and_parts (n == p.setup.lanes) (nat_le 2 p.version) r).0 in let few = b.lanes in omega arith
    ]

pub passed-birth : (p : Progress) (births : List ℕ) (n : ℕ) → p.stage ≡ stages.Birth → passes p births n ≡ true → n < 2 ^ 32
unfolding passes
passed-birth p births n e h =
    let k : nat_le n 4000000000 ≡ true = subst (λ s. passes_at s p births n ≡ true) e h in
    let m = le_true n 4000000000 k in omega arith

pub passed-head : (p : Progress) (births : List ℕ) (n : ℕ) → p.stage ≡ stages.Head → passes p births n ≡ true → n < 2 ^ 49
unfolding passes
passed-head p births n e h =
    let k : passes_at stages.Head p births n ≡ true = subst (λ s. passes_at s p births n ≡ true) e h in
    lt_true n (2 ^ 49) (and_parts (nat_lt n (2 ^ 49)) (is_head p births n) k).0
