-- A seat into which others are joined while the table goes on.
use Rattle.std.proofs.Common.{◌≡◌, ℕ, ◌+◌, ◌-◌, ◌^◌, ◌<◌, ◌≤◌, List, [], ◌∷◌, ◌++◌, length, min, ap, sym, subst, ◌∙◌, arith, length-append}
use Rattle.atomic_table.specs.Seated.{TableId}
use Rattle.bc_pins.specs.declared.views.Lodged.{Lodged}
use Rattle.bc_pins.specs.declared.views.View.{View}
use Rattle.bc_pins.specs.declared.key.Role.{Role}
use Rattle.bc_pins.specs.declared.pins.Pins.{Pins}
use Rattle.bc_pins.specs.declared.pins.Seat.{Seat}
use Rattle.bc_pins.specs.Key.{Key, role_number}
use Rattle.bc_pins.specs.Totals.{times}
use Rattle.bc_pins.specs.Views.{has_role}
use Rattle.bc_pins.specs.Steps.{Mine, united}
use Rattle.bc_pins.specs.Calls.{view_of, slots_of, IsAt, CountsFetches}
use Rattle.bc_pins.specs.Closing.{AreBack, Gathered}
use Rattle.bc_pins.proofs.TotalLemmas.{times_append}
use Rattle.bc_pins.proofs.GatherLemmas.{gathered_more, seat_is_back}

-- what a seat has after a join
pub record HasJoined (old other new : Seat) : Type 0 where
  pub view : view_of new ≡ united (view_of old) (view_of other)
  pub slots : slots_of new ≡ slots_of old
  pub opens : new.opens ≡ min (old.opens + other.opens) (2 ^ 64 - 1)
  pub role : new.role ≡ old.role
  pub table : new.inner.table_id ≡ old.inner.table_id

paired : (m : Mine) (v : View) (l : List (ℕ × Lodged)) → m.0 ≡ v → m.1 ≡ l → m ≡ (v, l)
paired m v l e f = ap (λ (x : View). (x, m.1)) e ∙ ap (λ (y : List (ℕ × Lodged)). (v, y)) f

-- it is at the table still
pub still_at : (pins : Pins) (old other new : Seat) → HasJoined old other new → IsAt pins old → IsAt pins new
still_at pins old other new j at =
    let more = times_append (role_number old.role) (view_of old).roles (view_of other).roles in
    let had = at.role in
    let has : has_role (view_of new) (role_number old.role) ≡ times (role_number old.role) ((view_of old).roles ++ (view_of other).roles) = ap (λ (v : View). has_role v (role_number old.role)) j.view in
    record {
      table = j.table ∙ at.table;
      about = ap (λ (v : View). v.about) j.view ∙ at.about;
      alive = ap (λ (v : View). v.alive) j.view ∙ at.alive;
      role = subst (λ (r : Role). 0 < has_role (view_of new) (role_number r)) (sym j.role) (omega arith);
    }

-- the boxes that both opened are counted
pub counts_both : (old other new : Seat) → HasJoined old other new → CountsFetches old → CountsFetches other → CountsFetches new
counts_both old other new j mine theirs =
    let long = length-append (view_of old).fetched (view_of other).fetched in
    let is : length (view_of new).fetched ≡ length ((view_of old).fetched ++ (view_of other).fetched) = ap (λ (v : View). length v.fetched) j.view in
    let opens = j.opens in
    omega arith

module _ (id : TableId) (k : Key) (apart : (r : ℕ) → times r k.roles ≤ 1) (all front : List Seat) (other : Seat) (back : AreBack id k all) where
  pub joined_more : (old new : Seat) → HasJoined old other new → Gathered id k all (front ++ other ∷ []) old.inner → Gathered id k all front new.inner
  joined_more old new j g = gathered_more id k apart all front other back old.inner new.inner g j.table (paired new.inner.me (united (view_of old) (view_of other)) old.inner.me.1 j.view j.slots)

  pub joined_counts : (old new : Seat) → HasJoined old other new → Gathered id k all (front ++ other ∷ []) old.inner → CountsFetches old → CountsFetches new
  joined_counts old new j g mine = counts_both old other new j mine (seat_is_back id k apart all front other back old.inner g).opens
