-- A page in memory that has a gray cell is queued or owed.
use Rattle.std.proofs.Common.{◌≡◌, ℕ, ◌+◌, ◌<◌, Bool, false, if◌then◌else◌, List, [], ◌∷◌, inl, inr, ap, arith}
use Rattle.std.proofs.lemmas.Bool.{cases_eq, eq-eqb}
use Rattle.bc_word.specs.Addresses.{page_of}
use Rattle.bc_pins.specs.declared.views.View.{View}
use Rattle.bc_pins.specs.Key.{Key}
use Rattle.bc_pins.specs.Totals.{total, times}
use Rattle.bc_pins.specs.Facts.{Table}
use Rattle.bc_pins.specs.Owing.{may_be_gray, covers, queued_bit, IsGrayCell, IsResident}
use Rattle.bc_pins.specs.Rule.{Ruled}

-- a view that answers for a cell owes its page
covers_owed : (k : Key) (a : ℕ) (v : View) → 0 < covers k a v → 0 < times (page_of a) v.owed
covers_owed k a v lt = elim (cases_eq (times (page_of a) v.owed) 0) [
  | inl none ↦
      let is : covers k a v ≡ 0 = ap (λ (b : Bool). if b then 0 else may_be_gray k a v) (eq-eqb (times (page_of a) v.owed) 0 none) in
      absurd (omega arith)
  | inr some ↦ omega arith
]

total_some : (f g : View → ℕ) (vs : List View) → ((v : View) → 0 < f v → 0 < g v) → 0 < total f vs → 0 < total g vs
total_some f g [] each lt = lt
total_some f g (v ∷ vs) each lt = elim (cases_eq (f v) 0) [
  | inl none ↦ let rest = total_some f g vs each (omega arith) in omega arith
  | inr some ↦ let here = each v (omega arith) in omega arith
]

pub gray_pages : (k : Key) (s : Table) → Ruled k s → k.lanes ≡ false → (a : ℕ) → IsGrayCell k s a → IsResident s (page_of a) → 0 < queued_bit k s (page_of a) + total (λ (v : View). times (page_of a) v.owed) s.views
gray_pages k s r turn a gray resident =
    let due = r.owing turn a gray resident in
    elim (cases_eq (queued_bit k s (page_of a)) 0) [
      | inl none ↦ let owed = total_some (covers k a) (λ (v : View). times (page_of a) v.owed) s.views (covers_owed k a) (omega arith) in omega arith
      | inr some ↦ omega arith
    ]
