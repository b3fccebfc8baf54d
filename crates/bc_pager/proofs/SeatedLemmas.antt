-- The seats of a turn's pagers: they are dealt after the others, and come back with nothing in hand.
use Prim.Native.Nat.{suc, zero}
use Rattle.std.proofs.Common.{◌≡◌, ℕ, ◌+◌, ◌-◌, ◌<◌, ◌≤◌, ◌^◌, List, [], ◌∷◌, ◌++◌, length, length-append, map, get_or, min, replicate, inl, inr, refl, ap, sym, subst, ◌∙◌, arith}
use Rattle.std.specs.List.{AllByRecursion}
use Rattle.std.proofs.lemmas.Bool.{cases_lt}
use Rattle.std.proofs.lemmas.List.{get_or-append_right, get_or-map, get_or-replicate, get_or_append_left, get_or_push, length-map, length-replicate, length_push}
use Rattle.bc_pager.specs.Answering.{says_discarded, says_evicted}
use Rattle.bc_pager.specs.Claiming.{AreAnsweredAsClaimed}
use Rattle.bc_pager.specs.Paging.{AllPagersReady, AreDealtPagers, HasPaged, HaveAllPaged, pager_roles, rooms_of, seats_of}
use Rattle.bc_pager.specs.Placing.{AnsweredByPagers, HasNumbersBelow, Paged, paged_of}
use Rattle.bc_pager.specs.Serving.{KeptAnswers, no_answers}
use Rattle.bc_pager.specs.declared.answers.Answer.{Answer}
use Rattle.bc_pager.specs.declared.paging.Paging.{Paging}
use Rattle.bc_pager.proofs.ToldLemmas.{paged-keep, told-home, told-total, total_paged}
use Rattle.bc_pins.specs.Calls.{IsFree, key_of, view_of}
use Rattle.bc_pins.specs.Closing.{IsBack}
use Rattle.bc_pins.specs.Key.{pages_of, role_number}
use Rattle.bc_pins.specs.Seating.{AreDealt, IsDealt}
use Rattle.bc_pins.specs.Steps.{Mine, fresh}
use Rattle.bc_pins.specs.Totals.{times, total}
use Rattle.bc_pins.specs.Views.{reads_as}
use Rattle.bc_pins.specs.declared.key.Role.{Role}
use Rattle.bc_pins.specs.declared.key.Role.TheVariants.{Lane, Pager}
use Rattle.bc_pins.specs.declared.pins.Pins.{Pins}
use Rattle.bc_pins.specs.declared.pins.Seat.{Seat}
use Rattle.bc_pins.specs.declared.views.View.{View}
use Rattle.bc_pins.proofs.TotalLemmas.{total_append, total_in}

-- a list has an element
pub first-of : {X : Type 0} (xs : List X) → 0 < length xs → X
first-of [] lt = absurd (omega arith)
first-of (x ∷ xs) lt = x

-- the pagers with the first numbers
pub pagers-long : (n : ℕ) → length (pager_roles n) ≡ n
pagers-long zero = refl
pagers-long (suc n) = let long = length_push (pager_roles n) (Pager n) in let rest = pagers-long n in omega arith

pub pager-at : (n i : ℕ) (d : Role) → i < n → get_or (pager_roles n) i d ≡ Pager i
pager-at zero i d lt = absurd (omega arith)
pager-at (suc n) i d lt =
    let long = pagers-long n in
    elim (cases_lt i n) [
      | inl less ↦ get_or_append_left (pager_roles n) (Pager n ∷ []) d i (omega arith) ∙ pager-at n i d less
      | inr last ↦ let is : n ≡ i = omega arith in get_or_push (pager_roles n) (Pager n) d i (omega arith) ∙ ap (λ (m : ℕ). Pager m) is
    ]

pub seats-long : (pagers : List Paging) → length (seats_of pagers) ≡ length pagers
seats-long pagers = length-map pagers (λ (p : Paging). p.seat)

-- as many pagers as rooms
pub rooms-count : (pagers : List Paging) (n : ℕ) (room : KeptAnswers) → rooms_of pagers ≡ replicate n room → length pagers ≡ n
rooms-count pagers n room is = sym (length-map pagers (λ (p : Paging). p.answers)) ∙ ap (λ (rs : List KeptAnswers). length rs) is ∙ length-replicate n room

pub rooms-all : (pagers : List Paging) (n : ℕ) (room : KeptAnswers) → rooms_of pagers ≡ replicate n room → rooms_of pagers ≡ replicate (length pagers) room
rooms-all pagers n room is = is ∙ ap (λ (m : ℕ). replicate m room) (sym (rooms-count pagers n room is))

-- a table whose seats were dealt to holders of these roles, and to pagers after them
module _ (pins : Pins) (roles : List Role) (seats : List Seat) (pagers : List Paging)
    (dealt : AreDealt pins.table.shared.table_id (key_of pins) (roles ++ pager_roles (length pagers)) (length (roles ++ pager_roles (length pagers))) (seats ++ seats_of pagers)) where
  pub all-long : length (roles ++ pager_roles (length pagers)) ≡ length roles + length pagers
  all-long = let both = length-append roles (pager_roles (length pagers)) in let others = pagers-long (length pagers) in omega arith

  pub front-long : length seats ≡ length roles
  front-long =
      let all = dealt.long in
      let count = all-long in
      let both = length-append seats (seats_of pagers) in
      let others = seats-long pagers in
      omega arith

  -- the first seats are those of the other roles
  pub front-dealt : (i : ℕ) → i < length roles → (d : Seat) → IsDealt pins.table.shared.table_id (key_of pins) (get_or roles i (Lane 0)) (get_or seats i d)
  front-dealt i lt d =
      let long = front-long in
      let count = all-long in
      subst (λ (r : Role). IsDealt pins.table.shared.table_id (key_of pins) r (get_or seats i d)) (get_or_append_left roles (pager_roles (length pagers)) (Lane 0) i lt)
      (subst (IsDealt pins.table.shared.table_id (key_of pins) (get_or (roles ++ pager_roles (length pagers)) i (Lane 0))) (get_or_append_left seats (seats_of pagers) d i (omega arith)) (dealt.each i (omega arith) d))

  -- and the last ones the pagers', in the order of their numbers
  pub pagers-dealt : AreDealtPagers pins pagers
  pagers-dealt i lt d =
      let count = all-long in
      let n : ℕ = length roles + i in
      let back : n - length roles ≡ i = omega arith in
      let at : get_or (seats ++ seats_of pagers) n d.seat ≡ (get_or pagers i d).seat =
      get_or-append_right seats (seats_of pagers) (length roles) n d.seat front-long (omega arith)
      ∙ ap (λ (m : ℕ). get_or (seats_of pagers) m d.seat) back ∙ get_or-map (λ (p : Paging). p.seat) pagers i d d.seat lt in
      let role : get_or (roles ++ pager_roles (length pagers)) n (Lane 0) ≡ Pager i =
      get_or-append_right roles (pager_roles (length pagers)) (length roles) n (Lane 0) refl (omega arith)
      ∙ ap (λ (m : ℕ). get_or (pager_roles (length pagers)) m (Lane 0)) back ∙ pager-at (length pagers) i (Lane 0) lt in
      subst (λ (r : Role). IsDealt pins.table.shared.table_id (key_of pins) r (get_or pagers i d).seat) role
      (subst (IsDealt pins.table.shared.table_id (key_of pins) (get_or (roles ++ pager_roles (length pagers)) n (Lane 0))) at (dealt.each n (omega arith) d.seat))

  pub pagers-ready : (hints : List ℕ) → rooms_of pagers ≡ replicate (length pagers) (no_answers (length hints)) → AllPagersReady pins hints pagers
  pagers-ready hints rooms i lt d =
      let own = pagers-dealt i lt d in
      record {
        role = (i, own.its_role);
        seat = subst (λ (r : Role). IsDealt pins.table.shared.table_id (key_of pins) r (get_or pagers i d).seat) (sym own.its_role) own;
        answers =
            sym (get_or-map (λ (p : Paging). p.answers) pagers i d d.answers lt) ∙ ap (λ (rs : List KeptAnswers). get_or rs i d.answers) rooms
            ∙ get_or-replicate (length pagers) i (no_answers (length hints)) d.answers lt;
      }

-- the numbers of pagers that have answered are below the count of the notices
numbers-below : (notices : ℕ) (pagers : List Paging) → ((i : ℕ) → i < length pagers → (d : Paging) → HasNumbersBelow notices (get_or pagers i d)) → AllByRecursion (HasNumbersBelow notices) pagers
numbers-below notices [] each = tt
numbers-below notices (p ∷ ps) each = (each 0 (omega arith) p, numbers-below notices ps (λ i lt d. each (suc i) (omega arith) d))

pub paged-below : (pins : Pins) (hints : List ℕ) (old new : List Paging) → HaveAllPaged pins hints old new → AllByRecursion (HasNumbersBelow (length hints)) new
paged-below pins hints old new paged = numbers-below (length hints) new (λ i lt d. (paged.each i (let long = paged.long in omega arith) d).within)

-- a pager's seat when it is back
pub record IsPagerBack (pins : Pins) (number : ℕ) (seat : Seat) : Type 0 where
  pub table : seat.inner.table_id ≡ pins.table.shared.table_id
  pub about : (view_of seat).about ≡ key_of pins
  pub roles : (view_of seat).roles ≡ role_number (Pager number) ∷ []
  pub free : IsFree seat
  pub rights : (view_of seat).rights ≡ []
  pub fetched : (view_of seat).fetched ≡ []
  pub changed : (view_of seat).changed ≡ []
  pub recorded : (view_of seat).recorded ≡ []
  pub returned : (view_of seat).returned ≡ []
  pub opens : seat.opens ≡ 0

-- those of all pagers, in the order of their numbers
abbrev pub ArePagersBack : Pins → List Seat → Type 0
ArePagersBack pins seats = (i : ℕ) → i < length seats → (d : Seat) → IsPagerBack pins i (get_or seats i d)

-- so it is where the pager has answered all notices that it claimed
pager-back : (pins : Pins) (hints : List ℕ) (number : ℕ) (old new : Paging) → IsDealt pins.table.shared.table_id (key_of pins) (Pager number) old.seat → HasPaged pins hints old new → IsPagerBack pins number new.seat
pager-back pins hints number old new dealt paged =
    let view = ap (λ (m : Mine). m.0) dealt.me in
    let each = subst (λ (r : Role). AreAnsweredAsClaimed (key_of pins) hints new.answers.numbers new.answers.list (fresh (key_of pins) (role_number r ∷ [])) (view_of new.seat)) dealt.its_role paged.each in
    let kept = paged-keep (key_of pins) hints number (paged_of new) (record { each = each; within = paged.within; claims = paged.claims }) in
    record {
      table = paged.same.table ∙ dealt.table;
      about = paged.same.about ∙ ap (λ (v : View). v.about) view;
      roles = paged.same.roles ∙ ap (λ (v : View). v.roles) view;
      free = paged.free;
      rights = paged.rights;
      fetched = kept.fetched;
      changed = kept.changed;
      recorded = kept.recorded;
      returned = kept.returned;
      opens = paged.same.opens ∙ dealt.opens;
    }

pub pagers-back : (pins : Pins) (hints : List ℕ) (old new : List Paging) → AreDealtPagers pins old → HaveAllPaged pins hints old new → ArePagersBack pins (seats_of new)
pagers-back pins hints old new dealt paged i lt d =
    let long = seats-long new in
    let same = paged.long in
    let e : Paging = first-of new (omega arith) in
    subst (IsPagerBack pins i) (sym (get_or-map (λ (p : Paging). p.seat) new i e d (omega arith)))
    (pager-back pins hints i (get_or old i e) (get_or new i e) (dealt i (omega arith) e) (paged.each i (omega arith) e))

-- the table may have it
pub pager-counts : (pins : Pins) (number : ℕ) (seat : Seat) → IsPagerBack pins number seat → IsBack pins.table.shared.table_id (key_of pins) seat
pager-counts pins number seat back = record {
  table = back.table;
  about = back.about;
  hand = back.free.hand;
  slots = back.free.slots;
  rights = back.rights;
  opens = (
      let none = ap (λ (l : List ℕ). length l) back.fetched in
      let opens = back.opens in
      let is : seat.opens ≡ min (length (view_of seat).fetched) (2 ^ 64 - 1) = omega arith in
      is
      );
  tidy = seat.tidy;
}

-- what pagers' answers say, said of what their seats did: each page that they made Gone or Absent the answers name, and they read no
-- other as Home
pub record ArePagersTold (pins : Pins) (seats : List Seat) (told : List Answer) : Type 0 where
  pub left : (p : ℕ) → total (λ (s : Seat). times p (view_of s).left) seats ≡ total (says_evicted p) told
  pub emptied : (p : ℕ) → total (λ (s : Seat). times p (view_of s).emptied) seats ≡ total (says_discarded p) told
  pub homes : (p : ℕ) → p < pages_of (key_of pins) → total (λ (s : Seat). reads_as p 1 (view_of s)) seats ≡ total (says_evicted p) told + total (says_discarded p) told

-- what each pager's seat has of a page is what its answers say
named-sum : (f : View → ℕ) (g : Answer → ℕ) (xs : List Paging) → ((i : ℕ) → i < length xs → (d : Paging) → f (view_of (get_or xs i d).seat) ≡ total g (get_or xs i d).answers.list)
    → total (λ (s : Seat). f (view_of s)) (seats_of xs) ≡ total (λ (p : Paged). total g p.answers) (map paged_of xs)
named-sum f g [] each = refl
named-sum f g (x ∷ xs) each =
    let here = each 0 (omega arith) x in
    let rest = named-sum f g xs (λ i lt d. each (suc i) (omega arith) d) in
    omega arith

pub pagers-told : (pins : Pins) (hints : List ℕ) (old new : List Paging) (told : List Answer) → HaveAllPaged pins hints old new → AnsweredByPagers (key_of pins) hints (map paged_of new) told → ArePagersTold pins (seats_of new) told
pagers-told pins hints old new told paged shared = record {
  left = λ p. named-sum (λ (v : View). times p v.left) (says_evicted p) new (λ i lt d. (paged.each i (let long = paged.long in omega arith) d).left p) ∙ sym (told-total (key_of pins) hints (map paged_of new) told shared (says_evicted p));
  emptied = λ p. named-sum (λ (v : View). times p v.emptied) (says_discarded p) new (λ i lt d. (paged.each i (let long = paged.long in omega arith) d).emptied p) ∙ sym (told-total (key_of pins) hints (map paged_of new) told shared (says_discarded p));
  homes = λ p near. total_paged (λ (v : View). reads_as p 1 v) new ∙ told-home (key_of pins) hints (map paged_of new) told shared p near;
}

-- what one of them read is among what all have read
pub pagers-logged : (seats : List Seat) (new : List Paging) (i : ℕ) → i < length (map paged_of new) → (d : Paged) (p n : ℕ) → reads_as p n (get_or (map paged_of new) i d).end ≤ total (λ (s : Seat). reads_as p n (view_of s)) (seats ++ seats_of new)
pagers-logged seats new i lt d p n =
    let here = total_in (λ (x : Paged). reads_as p n x.end) (map paged_of new) i d lt in
    let pagers = total_paged (λ (v : View). reads_as p n v) new in
    let both = total_append (λ (s : Seat). reads_as p n (view_of s)) seats (seats_of new) in
    omega arith
