-- Whose a page is, by who holds its domain.
use Rattle.std.proofs.Common.{◌≡◌, ℕ, ◌/◌, ◌<◌, List, length, map, get_or, ap, ◌∙◌}
use Rattle.std.proofs.lemmas.List.{get_or-map}
use Rattle.bc_model.specs.State.{holder_of}
use Rattle.bc_model.specs.declared.values.Holder.{Holder}
use Rattle.bc_model.specs.declared.values.Holder.TheVariants as holder
use Rattle.bc_pins.specs.Key.{Key, lane_role, owner, owner_role}

pub role-of : (k : Key) (hs : List Holder) (who : Holder) (page : ℕ) → k.owners ≡ map owner_role hs → get_or k.opening.domains (page / 4) 0 < length hs → holder_of hs (get_or k.opening.domains (page / 4) 0) ≡ who → owner k page ≡ owner_role who
role-of k hs who page owners within owned =
    let d : ℕ = get_or k.opening.domains (page / 4) 0 in
    ap (λ (l : List ℕ). get_or l d 0) owners ∙ get_or-map owner_role hs d holder.Frozen 0 within ∙ ap owner_role owned

pub own-role : (k : Key) (hs : List Holder) (lane page : ℕ) → k.owners ≡ map owner_role hs → get_or k.opening.domains (page / 4) 0 < length hs → holder_of hs (get_or k.opening.domains (page / 4) 0) ≡ holder.Lane lane → owner k page ≡ lane_role lane
own-role k hs lane page owners within owned = role-of k hs (holder.Lane lane) page owners within owned
