-- Domains that a lane holds, and that none of some lanes holds.
use Rattle.std.proofs.Common.{◌≡◌, ◌≢◌, ◌⊎◌, ℕ, ◌<◌, List, [], ◌∷◌, length, map, get_or, inl, inr, refl, ap, sym, subst, ◌∙◌, arith}
use Rattle.bc_model.proofs.Holders.{holder-map, same-lane}
use Rattle.bc_model.specs.State.{holder_of}
use Rattle.bc_model.specs.declared.values.Holder.{Holder}
use Rattle.bc_model.specs.declared.values.Holder.TheVariants.{Frozen, Lane}
use Rattle.bc_pins.specs.Key.{lane_role, owner_role}
use Rattle.bc_pins.specs.Totals.{times}
use Rattle.bc_pins.proofs.TotalLemmas.{one_is, one_other}
use Rattle.bc_reach.specs.Distinct.{Has}
use Rattle.bc_turn.proofs.BusyLemmas.{find-index}

-- the owner of a page by its domain's holder: nobody is past the last domain
pub owner-of : (hs : List Holder) (d : ℕ) → get_or (map owner_role hs) d 0 ≡ owner_role (holder_of hs d)
owner-of hs d = holder-map owner_role hs d

one-role : (a b : ℕ) → 0 < times (lane_role a) (lane_role b ∷ []) → b ≡ a
one-role a b lt = let same = one_is (lane_role b) (lane_role a) (omega arith) in omega arith

-- who has the owner's role holds the domain
pub role-holder : (x : Holder) (lane : ℕ) → 0 < times (owner_role x) (lane_role lane ∷ []) → x ≡ Lane lane
role-holder (Lane l) lane lt = ap Lane (sym (one-role l lane lt))
role-holder Frozen lane lt = let none = one_other (lane_role lane) 0 (λ e. absurd (omega arith)) in absurd (omega arith)

-- a domain without an owner is frozen
pub no-owner-frozen : (x : Holder) → owner_role x ≡ 0 → x ≡ Frozen
no-owner-frozen (Lane l) none = absurd (omega arith)
no-owner-frozen Frozen none = refl

pub nobody-holds : (l : ℕ) → Frozen ≡ Lane l → ⊥
nobody-holds l e = cc

-- and one that a lane holds has an owner
pub lane-owner : (x : Holder) (l : ℕ) → x ≡ Lane l → owner_role x ≢ 0
lane-owner x l is none = nobody-holds l (sym (no-owner-frozen x none) ∙ is)

-- none of these lanes holds what has this holder
abbrev pub NoneHolds : (ℕ → Type 0) → Holder → Type 0
NoneHolds Mine x = (lane : ℕ) → x ≡ Lane lane → Mine lane → ⊥

-- the holder is one of these lanes, or none of them
pub find-holder : (busy : List ℕ) (x : Holder) → ((i : ℕ) × (i < length busy) × (x ≡ Lane (get_or busy i 0))) ⊎ NoneHolds (Has busy) x
find-holder busy (Lane l) = elim (find-index busy l) [
  | inl r ↦ inl (r.0, r.1, ap Lane (sym r.2))
  | inr none ↦ inr (λ lane e has. none (subst (Has busy) (sym (same-lane l lane e)) has))
]
find-holder busy Frozen = inr (λ lane e has. nobody-holds lane e)
