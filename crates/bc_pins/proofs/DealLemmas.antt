-- Seats that are dealt one by one.
use Rattle.std.proofs.Common.{◌≡◌, ℕ, ◌+◌, ◌<◌, List, [], ◌∷◌, ◌++◌, length, get_or, map, drop, take, inl, inr, refl, ap, sym, subst, ◌∙◌, arith, length-append}
use Prim.Native.Nat.{zero, suc}
use Rattle.std.proofs.lemmas.Bool.{cases_eq}
use Rattle.atomic_table.specs.Table.{Splits}
use Rattle.atomic_table.specs.Seated.{TableId}
use Rattle.bc_pins.specs.declared.key.Role.{Role}
use Rattle.bc_pins.specs.declared.key.Role.TheVariants.{Lane}
use Rattle.bc_pins.specs.declared.pins.Seat.{Seat}
use Rattle.bc_pins.specs.declared.views.View.{View}
use Rattle.bc_pins.specs.Key.{Key, role_number}
use Rattle.bc_pins.specs.Rule.{Ruled}
use Rattle.bc_pins.specs.Steps.{Mine, fresh, dealer, dealt}
use Rattle.bc_pins.specs.Seating.{IsDealt, AreDealt}
use Rattle.bc_pins.proofs.SeatLemmas.{deals}

pub front_of : {A : Type 0} (d : A) (xs : List A) (y : A) (i : ℕ) → i < length xs → get_or (xs ++ y ∷ []) i d ≡ get_or xs i d
front_of d [] y i lt = absurd (omega arith)
front_of d (x ∷ xs) y zero lt = refl
front_of d (x ∷ xs) y (suc i) lt = front_of d xs y i (omega arith)

pub end_of : {A : Type 0} (d : A) (xs : List A) (y : A) (i : ℕ) → i ≡ length xs → get_or (xs ++ y ∷ []) i d ≡ y
end_of d [] y zero e = refl
end_of d [] y (suc i) e = absurd (omega arith)
end_of d (x ∷ xs) y zero e = absurd (omega arith)
end_of d (x ∷ xs) y (suc i) e = end_of d xs y i (omega arith)

-- the roles that are left: the first of them, and the rest
pub roles_left : (roles : List Role) (n : ℕ) → n < length roles → map role_number (drop n roles) ≡ role_number (get_or roles n (Lane 0)) ∷ map role_number (drop (suc n) roles)
roles_left [] n lt = absurd (omega arith)
roles_left (x ∷ xs) zero lt = refl
roles_left (x ∷ xs) (suc n) lt = roles_left xs n (omega arith)

pub last_left : (roles : List Role) (n : ℕ) → n + 1 ≡ length roles → map role_number (drop n roles) ≡ role_number (get_or roles n (Lane 0)) ∷ []
last_left [] n e = absurd (omega arith)
last_left (x ∷ []) zero e = refl
last_left (x ∷ (y ∷ ys)) zero e = absurd (omega arith)
last_left (x ∷ xs) (suc n) e = last_left xs n (omega arith)

pub deals_from : (k : Key) (id : ℕ) (me : Mine) (rs : List ℕ) → me ≡ (fresh k rs, []) → Splits (Ruled k) id me.0 (dealer me.0) (dealt me.0)
deals_from k id me rs e =
    subst (λ (v : View). Splits (Ruled k) id v (dealer v) (dealt v)) (sym (ap (λ (m : Mine). m.0) e))
    (deals k id (fresh k rs) (record { hand = refl; rights = refl; recorded = refl; left = refl; emptied = refl; returned = refl; fetched = refl; bookmarked = refl; won = refl; known = refl; finished = refl; read = refl; notices = refl }) refl refl refl)

-- the two seats after a split
pub rest_is : (k : Key) (roles : List Role) (n : ℕ) (me new : Mine) → n < length roles → me ≡ (fresh k (map role_number (drop n roles)), []) → new ≡ (dealer me.0, me.1)
    → new ≡ (fresh k (map role_number (drop (n + 1) roles)), [])
rest_is k roles n me new lt e is =
    let one : suc n ≡ n + 1 = omega arith in
    is ∙ ap (λ (m : Mine). (dealer m.0, m.1)) e
    ∙ ap (λ (l : List ℕ). (fresh k (drop 1 l), [])) (roles_left roles n lt)
    ∙ ap (λ (j : ℕ). (fresh k (map role_number (drop j roles)), [])) one

pub first_is : (k : Key) (roles : List Role) (n : ℕ) (me new : Mine) → n < length roles → me ≡ (fresh k (map role_number (drop n roles)), []) → new ≡ (dealt me.0, [])
    → new ≡ (fresh k (role_number (get_or roles n (Lane 0)) ∷ []), [])
first_is k roles n me new lt e is =
    is ∙ ap (λ (m : Mine). (dealt m.0, [])) e
    ∙ ap (λ (l : List ℕ). (fresh k (take 1 l), [])) (roles_left roles n lt)

pub dealt_more : (id : TableId) (k : Key) (roles : List Role) (n : ℕ) (seats : List Seat) (seat : Seat) → AreDealt id k roles n seats → IsDealt id k (get_or roles n (Lane 0)) seat
    → AreDealt id k roles (n + 1) (seats ++ seat ∷ [])
dealt_more id k roles n seats seat old new =
    let size = old.long in
    record {
      long = length-append seats (seat ∷ []) ∙ omega arith;
      each = λ j lt d. elim (cases_eq j n) [
        | inl e ↦ subst (IsDealt id k (get_or roles j (Lane 0))) (sym (end_of d seats seat j (omega arith))) (subst (λ (i : ℕ). IsDealt id k (get_or roles i (Lane 0)) seat) (sym e) new)
        | inr ne ↦ subst (IsDealt id k (get_or roles j (Lane 0))) (sym (front_of d seats seat j (omega arith))) (old.each j (omega arith) d)
      ];
    }

-- the seat from which the others were split has the last role
pub last_dealt : (id : TableId) (k : Key) (roles : List Role) (n at : ℕ) (seats : List Seat) (seat : Seat) → n + 1 ≡ length roles → AreDealt id k roles n seats → seat.inner.table_id ≡ id
    → seat.inner.me ≡ (fresh k (map role_number (drop n roles)), []) → seat.role ≡ get_or roles at (Lane 0) → at ≡ n → seat.opens ≡ 0
    → AreDealt id k roles (length roles) (seats ++ seat ∷ [])
last_dealt id k roles n at seats seat last old table me role same none_opened =
    subst (λ (m : ℕ). AreDealt id k roles m (seats ++ seat ∷ [])) last
    (dealt_more id k roles n seats seat old (record {
      table = table;
      me = me ∙ ap (λ (l : List ℕ). (fresh k l, [])) (last_left roles n last);
      its_role = role ∙ ap (λ (i : ℕ). get_or roles i (Lane 0)) same;
      opens = none_opened;
    }))
