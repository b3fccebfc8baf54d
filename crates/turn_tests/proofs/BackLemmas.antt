-- What the tests' lane needs that reloads a page in the turn.
use Rattle.std.proofs.Common.{◌≡◌, ℕ, ◌+◌, ◌-◌, ◌^◌, ◌<◌, false, true, min, List, [], ◌∷◌, length, Some, refl, ap, sym, subst, ◌∙◌, arith}
use Rattle.std.proofs.lemmas.Option.{same_Some}
use Rattle.bc_frames.specs.Places.{one_more}
use Rattle.bc_pins.specs.declared.key.Role.{Role}
use Rattle.bc_pins.specs.declared.pins.Pins.{Pins}
use Rattle.bc_pins.specs.declared.pins.Seat.{Seat}
use Rattle.bc_pins.specs.declared.holding.Held.{Held}
use Rattle.bc_pins.specs.declared.views.Hand.{Hand}
use Rattle.bc_pins.specs.declared.views.View.{View}
use Rattle.bc_pins.specs.declared.views.Lodged.TheVariants.{Nothing}
use Rattle.bc_pins.specs.Key.{Key, pages_of, role_number}
use Rattle.bc_pins.specs.Seating.{IsDealt}
use Rattle.bc_pins.specs.Contents.{IsContent, RefersYoung}
use Rattle.bc_pins.specs.Steps.{Mine, fresh, both_slots}
use Rattle.bc_pins.specs.Calls.{key_of, view_of, HoldsPage, MayPut, IsSameSeat, IsSameWorker, CountsFetches}
use Rattle.bc_evict.specs.Reloading.{HasReloaded}

-- a call that leaves the seat that seat, and calls one after another
pub worker-of : (a b : Seat) → IsSameSeat a b → IsSameWorker a b
worker-of a b x = record { table = x.table; id = x.id; role = x.role; about = x.about; alive = x.alive; roles = x.roles }

pub worker-then : (a b c : Seat) → IsSameWorker a b → IsSameWorker b c → IsSameWorker a c
worker-then a b c x y = record {
  table = y.table ∙ x.table;
  id = y.id ∙ x.id;
  role = y.role ∙ x.role;
  about = y.about ∙ x.about;
  alive = y.alive ∙ x.alive;
  roles = y.roles ∙ x.roles;
}

-- as many boxes were opened as pages taken from Gone, also after one more
pub counts-same : (a b : Seat) → IsSameSeat a b → CountsFetches a → CountsFetches b
counts-same a b x counts = let opens = x.opens in let fetched = ap length x.fetched in omega arith

pub counts-more : (a b : Seat) (page : ℕ) → b.opens ≡ one_more a.opens → (view_of b).fetched ≡ page ∷ (view_of a).fetched → CountsFetches a → CountsFetches b
counts-more a b page opens fetched counts = let long = ap length fetched in omega arith

-- a seat that was dealt took no page from Gone and has no right
module _ (pins : Pins) (role : Role) (seat : Seat) (d : IsDealt pins.table.shared.table_id (key_of pins) role seat) where
  dealt_view : view_of seat ≡ fresh (key_of pins) (role_number role ∷ [])
  dealt_view = ap (λ (m : Mine). m.0) d.me

  pub dealt-counts : CountsFetches seat
  dealt-counts = let none = ap (λ (v : View). length v.fetched) dealt_view in let opens = d.opens in omega arith

  pub dealt-rights : (view_of seat).rights ≡ []
  dealt-rights = ap (λ (v : View). v.rights) dealt_view

-- a page that came back is in hand, and may be put
module _ (v : View) (page frame : ℕ) (seat : Seat) (held : Held) (r : HasReloaded v page frame seat held) where
  about_now : (view_of seat).about ≡ v.about
  about_now = ap (λ (w : View). w.about) r.view

  abbrev hand_now : Hand
  hand_now = record { page = page; remembered = false; frame = frame; content = held.homed.page; counted = []; marked = [] }

  in_hand : (hand : Hand) → (view_of seat).hand ≡ Some hand → hand ≡ hand_now
  in_hand hand has = same_Some hand hand_now (sym has ∙ ap (λ (w : View). w.hand) r.view)

  pub reloaded-held : page < pages_of v.about → HoldsPage seat held
  reloaded-held lt = record {
    hand = hand_now;
    has = ap (λ (w : View). w.hand) r.view;
    page = sym r.is;
    inside = subst (λ (n : ℕ). n < pages_of (view_of seat).about) (sym r.is) (subst (λ (k : Key). page < pages_of k) (sym about_now) lt);
    frame = sym r.frame_is;
    slots = r.slots ∙ ap (λ (k : Key). both_slots k page Nothing Nothing) (sym about_now) ∙ ap (λ (n : ℕ). both_slots (view_of seat).about n Nothing Nothing) (sym r.is);
  }

  pub reloaded-may-put : MayPut seat held
  reloaded-may-put = record {
    fixed = subst (λ (n : ℕ). IsContent (view_of seat).about.opening n held.homed.page) (sym r.is) (subst (λ (k : Key). IsContent k.opening page held.homed.page) (sym about_now) r.fetches.fixed);
    young = λ y. absurd (r.fetches.old (subst (λ (k : Key). RefersYoung k.opening page held.homed.page) about_now (subst (λ (n : ℕ). RefersYoung (view_of seat).about.opening n held.homed.page) r.is y)));
    remembered = λ hand has on. absurd (clash (sym (ap (λ (h : Hand). h.remembered) (in_hand hand has)) ∙ on));
    others = λ hand has z. (sym (ap (λ (h : Hand). h.content) (in_hand hand has)), r.quiet ∙ sym (ap (λ (h : Hand). h.remembered) (in_hand hand has)));
    counted = λ hand has. ap (λ (h : Hand). h.counted) (in_hand hand has);
    marked = λ hand has. ap (λ (h : Hand). h.marked) (in_hand hand has);
  }
    where
      clash : false ≡ true → ⊥
      clash e = cc
