-- What the seats of a test's table keep: how they are dealt, how calls leave them, and how they come back.
use Rattle.std.proofs.Common.{◌≡◌, ℕ, ◌/◌, ◌<◌, true, false, inl, inr, List, [], ◌∷◌, ◌++◌, map, slice_index, refl, ap, sym, subst, ◌∙◌, arith}
use Prim.Native.Nat.{zero, suc}
use Rattle.bc_model.specs.declared.values.Holder.{Holder}
use Rattle.bc_superpages.specs.Layout.{Layout}
use Rattle.bc_pins.specs.declared.key.Role.{Role}
use Rattle.bc_pins.specs.declared.key.Role.TheVariants.{Lane}
use Rattle.bc_pins.specs.declared.key.Turn.{Turn}
use Rattle.bc_pins.specs.declared.key.Turn.TheVariants.{Lanes, Mark}
use Rattle.bc_pins.specs.declared.pins.Pins.{Pins}
use Rattle.bc_pins.specs.declared.pins.Seat.{Seat}
use Rattle.bc_pins.specs.declared.taking.Want.TheVariants.{Work}
use Rattle.bc_pins.specs.Key.{Key, owner, owner_role, role_number, lane_role, is_lanes, IsFrozenIn}
use Rattle.bc_pins.specs.Totals.{times}
use Rattle.bc_pins.specs.Tidy.{IsTidy}
use Rattle.bc_pins.specs.Views.{has_role}
use Rattle.bc_pins.specs.Seating.{IsDealt}
use Rattle.bc_pins.specs.Opened.{Opened}
use Rattle.bc_pins.specs.Closing.{IsBack, AreBack}
use Rattle.bc_pins.specs.Calls.{key_of, view_of, IsAt, IsFree, IsSameSeat, IsSameWorker, CountsFetches, MayWork, MayFetch}
use Rattle.bc_pins.proofs.TotalLemmas.{one_same}
use Rattle.bc_pins.proofs.VisitLemmas.{popped_two, dealt_at, dealt_free, visited_roles, two_back}
use Rattle.bc_evict.proofs.MarkLemmas.{same_seat}
use Rattle.turn_tests.specs.Seating.{AreSeated, IsSeated, HasOneRole, LanesHold, holders_in}
use Rattle.turn_tests.proofs.BackLemmas.{worker-of, counts-same, dealt-counts, dealt-rights}

clash : {A : Type 0} → true ≡ false → A
clash e = absurd cc

-- who holds the domains, by the kind of turn
pub held-lanes : (turn : Turn) → is_lanes turn ≡ true → holders_in turn ≡ holders_in Lanes
held-lanes Lanes on = refl
held-lanes Mark on = clash (sym on)

pub held-mark : (turn : Turn) → is_lanes turn ≡ false → holders_in turn ≡ []
held-mark Lanes off = clash off
held-mark Mark off = refl

-- a seat that was dealt
dealt-seated : (pins : Pins) (role : Role) (seat : Seat) → IsDealt pins.table.shared.table_id (key_of pins) role seat → IsSeated pins seat
dealt-seated pins role seat d = record {
  at = dealt_at pins role seat d;
  free = dealt_free pins role seat d;
  rights = dealt-rights pins role seat d;
  counts = dealt-counts pins role seat d;
  roles = λ r. visited_roles pins role seat d seat (same_seat seat) r ∙ ap (λ (x : Role). times r (role_number x ∷ [])) (sym d.its_role);
}

-- the two seats of a table that was opened, the last first
pub opened-seated : (space : Layout) (turn : Turn) (holders : List Holder) (roles : List Role) (one other : Role) (pins : Pins) (seats middle last : List Seat) (a b : Seat)
    → holders ≡ holders_in turn → roles ≡ one ∷ other ∷ [] → Opened space turn holders roles pins seats → seats ≡ middle ++ b ∷ [] → middle ≡ last ++ a ∷ [] → AreSeated pins a b × (last ≡ [])
opened-seated space turn holders roles one other pins seats middle last a b held are o first second =
    let two = popped_two pins.table.shared.table_id (key_of pins) roles one other seats middle last a b are o.seats_are first second in (
      record {
        first = dealt-seated pins one a two.0.0;
        second = dealt-seated pins other b two.0.1;
        roles = o.roles_are ∙ ap (map role_number) are ∙ ap (λ (r : Role). map role_number (r ∷ other ∷ [])) (sym two.0.0.its_role) ∙ ap (λ (r : Role). map role_number (a.role ∷ r ∷ [])) (sym two.0.1.its_role);
        lanes = λ on. o.owners ∙ ap (map owner_role) (held ∙ held-lanes turn (sym o.lanes ∙ on));
      },
      two.1,
    )

-- a seat after a call
pub worker-seated : (pins : Pins) (a b : Seat) → IsSeated pins a → IsSameWorker a b → IsFree b → (view_of b).rights ≡ [] → CountsFetches b → IsSeated pins b
worker-seated pins a b s same free rights counts = record {
  at = record {
    table = same.table ∙ s.at.table;
    about = same.about ∙ s.at.about;
    alive = same.alive ∙ s.at.alive;
    role = subst (λ (l : List ℕ). 0 < times (role_number b.role) l) (sym same.roles) (subst (λ (r : Role). 0 < has_role (view_of a) (role_number r)) (sym same.role) s.at.role);
  };
  free = free;
  rights = rights;
  counts = counts;
  roles = λ r. ap (times r) same.roles ∙ s.roles r ∙ ap (λ (x : Role). times r (role_number x ∷ [])) (sym same.role);
}

-- the first seat's call, and the second's
pub worker-first : (pins : Pins) (a b c : Seat) → AreSeated pins a b → IsSameWorker a c → IsFree c → (view_of c).rights ≡ [] → CountsFetches c → AreSeated pins c b
worker-first pins a b c s same free rights counts = record {
  first = worker-seated pins a c s.first same free rights counts;
  second = s.second;
  roles = s.roles ∙ ap (λ (r : Role). map role_number (r ∷ b.role ∷ [])) (sym same.role);
  lanes = s.lanes;
}

pub same-first : (pins : Pins) (a b c : Seat) → AreSeated pins a b → IsSameSeat a c → IsFree c → (view_of c).rights ≡ [] → AreSeated pins c b
same-first pins a b c s same free rights = worker-first pins a b c s (worker-of a c same) free rights (counts-same a c same s.first.counts)

pub same-second : (pins : Pins) (a b c : Seat) → AreSeated pins a b → IsSameSeat b c → IsFree c → (view_of c).rights ≡ [] → AreSeated pins a c
same-second pins a b c s same free rights = record {
  first = s.first;
  second = worker-seated pins b c s.second (worker-of b c same) free rights (counts-same b c same s.second.counts);
  roles = s.roles ∙ ap (λ (r : Role). map role_number (a.role ∷ r ∷ [])) (sym same.role);
  lanes = s.lanes;
}

-- a call of each
pub same-both : (pins : Pins) (a b c d : Seat) → AreSeated pins a b → IsSameSeat a c → IsFree c → (view_of c).rights ≡ [] → IsSameSeat b d → IsFree d → (view_of d).rights ≡ [] → AreSeated pins c d
same-both pins a b c d s x free rights y its_free its_rights = same-second pins c b d (same-first pins a b c s x free rights) y its_free its_rights

-- the seats may come back
seated-back : (pins : Pins) (seat : Seat) → IsSeated pins seat → IsTidy (view_of seat) → IsBack pins.table.shared.table_id (key_of pins) seat
seated-back pins seat s tidy = record {
  table = s.at.table;
  about = s.at.about;
  hand = s.free.hand;
  slots = s.free.slots;
  rights = s.rights;
  opens = s.counts;
  tidy = tidy;
}

pub both-back : (pins : Pins) (a b : Seat) → AreSeated pins a b → IsTidy (view_of a) → IsTidy (view_of b) → AreBack pins.table.shared.table_id (key_of pins) (a ∷ b ∷ [])
both-back pins a b s first second =
    two_back pins.table.shared.table_id (key_of pins) a.role b.role a b (seated-back pins a s.first first) (seated-back pins b s.second second) s.first.roles s.second.roles s.roles

-- who holds a page of a domain
owner-at : (k : Key) (page domain : ℕ) → k.owners ≡ map owner_role (holders_in Lanes) → slice_index k.opening.domains (page / 4) ≡ domain → owner k page ≡ slice_index (map owner_role (holders_in Lanes)) domain
owner-at k page domain owners is = ap (λ (l : List ℕ). slice_index l (slice_index k.opening.domains (page / 4))) owners ∙ ap (slice_index (map owner_role (holders_in Lanes))) is

own-role : (lane : ℕ) → lane < 2 → slice_index (map owner_role (holders_in Lanes)) lane ≡ lane_role lane
own-role zero lt = refl
own-role (suc zero) lt = refl
own-role (suc (suc lane)) lt = absurd (omega arith)

-- the lane of a seat holds the pages of its domain
pub seat-holds : (k : Key) (seat : Seat) (page lane : ℕ) → LanesHold k → k.lanes ≡ true → HasOneRole seat → seat.role ≡ Lane lane → lane < 2 → slice_index k.opening.domains (page / 4) ≡ lane → 0 < has_role (view_of seat) (owner k page)
seat-holds k seat page lane hold on roles is lt domain =
    let own = owner-at k page lane (hold on) domain ∙ own-role lane lt in
    let one = one_same (lane_role lane) in
    let r : has_role (view_of seat) (owner k page) ≡ has_role (view_of seat) (lane_role lane) = ap (has_role (view_of seat)) own in
    let z = roles (lane_role lane) ∙ ap (λ (x : Role). times (lane_role lane) (role_number x ∷ [])) is in
    omega arith

-- nobody holds the pages of domain 2
pub frozen-page : (k : Key) (page : ℕ) → LanesHold k → k.lanes ≡ true → slice_index k.opening.domains (page / 4) ≡ 2 → IsFrozenIn k page
frozen-page k page hold on domain = (on, owner-at k page 2 (hold on) domain)

-- so every lane may work on them
pub frozen-work : (pins : Pins) (seat : Seat) (page : ℕ) → IsAt pins seat → IsFrozenIn (key_of pins) page → MayWork seat page Work
frozen-work pins seat page at frozen =
    let there : IsFrozenIn (view_of seat).about page = subst (λ (k : Key). IsFrozenIn k page) (sym at.about) frozen in
    (λ off. clash (sym there.0 ∙ off), λ _. inr there.1)

-- a lane may bring back an own page, and one that is frozen, also after a call
pub own-fetch : (pins : Pins) (seat : Seat) (page : ℕ) → IsAt pins seat → 0 < has_role (view_of seat) (owner (key_of pins) page) → MayFetch (view_of seat) page
own-fetch pins seat page at own = inl (subst (λ (k : Key). 0 < has_role (view_of seat) (owner k page)) (sym at.about) own)

pub frozen-fetch : (pins : Pins) (seat : Seat) (page : ℕ) → IsAt pins seat → IsFrozenIn (key_of pins) page → MayFetch (view_of seat) page
frozen-fetch pins seat page at frozen = inr (subst (λ (k : Key). IsFrozenIn k page) (sym at.about) frozen)

pub fetch-same : (a b : Seat) (page : ℕ) → IsSameSeat a b → MayFetch (view_of a) page → MayFetch (view_of b) page
fetch-same a b page x (inl own) =
    inl (subst (λ (k : Key). 0 < has_role (view_of b) (owner k page)) (sym x.about) (subst (λ (l : List ℕ). 0 < times (owner (view_of a).about page) l) (sym x.roles) own))
fetch-same a b page x (inr frozen) = inr (subst (λ (k : Key). IsFrozenIn k page) (sym x.about) frozen)
