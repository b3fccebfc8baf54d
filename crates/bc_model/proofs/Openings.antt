-- The state that a run begins with.
use Rattle.std.proofs.Common.{◌≡◌, ℕ, ◌*◌, ◌%◌, ◌^◌, ◌<◌, List, [], length, get_or, replicate, zero, suc, refl, sym, ap, subst, ◌∙◌, inl, inr, arith}
use Rattle.std.proofs.lemmas.Bool.{cases_lt}
use Rattle.std.proofs.lemmas.List.{get_or-replicate, get_or_past, length-replicate, length-map, get_or-map, length_push}
use Rattle.bc_model.specs.Consistent.{IsState, IsHolder}
use Rattle.bc_model.specs.StateSizes.{HasSizes, HasSerials}
use Rattle.bc_model.specs.Run.{opening}
use Rattle.bc_model.specs.State.{Object, made_by, numbers_below}
use Rattle.bc_model.specs.WellFormed.{IsSetup}
use Rattle.bc_model.specs.declared.traces.Setup.{Setup}
use Rattle.bc_model.specs.declared.values.Holder.TheVariants.{Lane, Frozen}
use Rattle.bc_model.specs.declared.values.Value.TheVariants.{Nil}
use Rattle.bc_model.proofs.States.{AreValues-nil}

pub length-numbers_below : (n : ℕ) → length (numbers_below n) ≡ n
length-numbers_below zero = refl
length-numbers_below (suc n) = omega (arith, length_push (numbers_below n) n, length-numbers_below n)

-- no lane has made anything
pub made_by-opening : (n j : ℕ) → made_by (replicate n []) j ≡ []
made_by-opening n j =
    elim (cases_lt j n) [
      | inl within ↦ get_or-replicate n j [] [] within
      | inr past ↦ get_or_past (replicate n []) j [] (let e = length-replicate {A = List Object} n [] in omega (arith, past, e))
    ]

-- each domain has a holder at the opening
pub length-holders : (s : Setup) → length (opening s).holders ≡ s.domains
length-holders s = length-map (numbers_below s.domains) (λ d. Lane (d % s.lanes)) ∙ length-numbers_below s.domains

length-lanes : (s : Setup) → length (opening s).made ≡ s.lanes
length-lanes s = length-replicate s.lanes []

pub HasSizes-opening : (s : Setup) → HasSizes s (opening s)
HasSizes-opening s = record { lanes = length-lanes s; domains = length-holders s; slots = refl }

pub HasSerials-opening : (s : Setup) (n : ℕ) → n < 2 ^ 32 → HasSerials n (opening s)
HasSerials-opening s n h = record { below = λ j. omega (arith, h, ap length (made_by-opening s.lanes j)) }

pub IsState-opening : (s : Setup) → IsSetup s → IsState (opening s)
IsState-opening s h = record {
  lanes = omega (arith, h.lanes, length-lanes s);
  domains = omega (arith, h.domains, length-holders s);
  width = h.slots.1;
  slots = length-replicate (s.slots * s.domains) Nil ∙ ap (λ (n : ℕ). s.slots * n) (sym (length-holders s));
  values = AreValues-nil (opening s).made (s.slots * s.domains);
  objects = λ b born. absurd (omega (arith, born.serial, born.positive, ap length (made_by-opening s.lanes b.lane)));
  holders = λ d within.
      let positive : 0 < s.lanes = omega (arith, h.lanes.0) in
      let at : d < length (numbers_below s.domains) = omega (arith, within, length-map (numbers_below s.domains) (λ d. Lane (d % s.lanes))) in
      let value = get_or-map (λ d. Lane (d % s.lanes)) (numbers_below s.domains) d 0 Frozen at in
      let low : get_or (numbers_below s.domains) d 0 % s.lanes < s.lanes = omega (arith, positive) in
      subst (IsHolder (length (opening s).made)) (sym value) (omega (arith, low, length-lanes s));
}
