-- The numbers of a turn's pagers: no two have one, and their seats have them between them when they are back.
use Rattle.std.proofs.Common.{◌≡◌, ℕ, ◌<◌, ◌≤◌, ◌==◌, ◌⊎◌, List, ◌∷◌, [], length, inl, inr, refl, ap, sym, ◌∙◌, arith}
use Prim.Native.Nat.{suc, zero}
use Rattle.std.proofs.lemmas.Bool.{cases_eq}
use Rattle.bc_pager.specs.Paging.{pager_roles}
use Rattle.bc_pager.proofs.SeatedLemmas.{ArePagersBack, pager-at, pagers-long}
use Rattle.bc_pins.specs.Calls.{view_of}
use Rattle.bc_pins.specs.Key.{role_number}
use Rattle.bc_pins.specs.Totals.{times, total}
use Rattle.bc_pins.specs.Views.{has_role}
use Rattle.bc_pins.specs.declared.key.Role.{Role}
use Rattle.bc_pins.specs.declared.key.Role.TheVariants.{Lane, Pager}
use Rattle.bc_pins.specs.declared.pins.Pins.{Pins}
use Rattle.bc_pins.specs.declared.pins.Seat.{Seat}
use Rattle.bc_pins.proofs.TotalLemmas.{one_few, one_other}
use Rattle.bc_turn.proofs.SumLemmas.{roles-sum}
use Rattle.bc_turn.proofs.TableLemmas.{no-pager, numbers-more, pager_numbers}

-- no two pagers have one number
pub pagers-apart : (n r : ℕ) → times r (pager_numbers n) ≤ 1
pagers-apart zero r = omega arith
pagers-apart (suc n) r =
    let all = numbers-more n r in
    elim (cases_eq (role_number (Pager n)) r) [
      | inl e ↦
          let none = no-pager n r (λ i lt same. absurd (omega arith)) in
          let one = one_few (role_number (Pager n) == r) in
          omega arith
      | inr ne ↦
          let none = one_other (role_number (Pager n)) r ne in
          let rest = pagers-apart n r in
          omega arith
    ]

-- a number is one of the pagers', or none of them has it
pub pager-or-none : (n r : ℕ) → ((i : ℕ) × (role_number (Pager i) ≡ r)) ⊎ (times r (pager_numbers n) ≡ 0)
pager-or-none zero r = inr refl
pager-or-none (suc n) r =
    let all = numbers-more n r in
    elim (cases_eq (role_number (Pager n)) r) [
      | inl e ↦ inl (n, e)
      | inr ne ↦
          let none = one_other (role_number (Pager n)) r ne in
          elim (pager-or-none n r) [
            | inl is ↦ inl is
            | inr rest ↦ inr (omega arith)
          ]
    ]

-- they have the pagers' roles between them
pub pagers-roles : (pins : Pins) (seats : List Seat) → ArePagersBack pins seats → (r : ℕ) → total (λ (s : Seat). has_role (view_of s) r) seats ≡ times r (pager_numbers (length seats))
pagers-roles pins seats back r =
    let n : ℕ = length seats in
    roles-sum role_number (pager_roles n) (Lane 0) seats r (sym (pagers-long n))
    (λ i lt d. let inside : i < n = (let long = pagers-long n in omega arith) in (back i inside d).roles ∙ ap (λ (x : Role). role_number x ∷ []) (sym (pager-at n i (Lane 0) inside)))
