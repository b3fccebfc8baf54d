-- The seats of an opened turn: the lanes' first, and then the pagers'.
use Rattle.std.proofs.Common.{◌≡◌, ℕ, Bool, true, false, ◌+◌, ◌<◌, List, [], ◌∷◌, ◌++◌, length, length-append, map, get_or, replicate, take, drop, Option, Some, None, refl, ap, sym, subst, ◌∙◌, arith}
use Rattle.std.specs.Prelude.{IfNone, IfSome, option_to_list}
use Rattle.std.proofs.Math.ListN as list
use Rattle.std.proofs.lemmas.List.{get_or-map, get_or-replicate, get_or_append_left, get_or_push, length-map, map-append}
use Rattle.std.proofs.Math.Seq.{drop-append_seam, take-append_seam}
use mir.Val.{bool_byte}
use Rattle.bc_bits.specs.Counting.{one_if}
use Rattle.bc_model.specs.declared.values.Holder.{Holder}
use Rattle.bc_pager.specs.Feeding.{IsLivePagerReady, rooms_of_live}
use Rattle.bc_pager.specs.Paging.{AllPagersReady, AreDealtPagers, pager_roles, rooms_of, seats_of}
use Rattle.bc_pager.specs.Serving.{KeptAnswers, no_answers}
use Rattle.bc_pager.specs.declared.paging.Paging.{Paging}
use Rattle.bc_pager.proofs.SeatedLemmas as seated
use Rattle.bc_pins.specs.Calls.{key_of}
use Rattle.bc_pins.specs.Opened.{Opened}
use Rattle.bc_pins.specs.Seating.{IsDealt}
use Rattle.bc_pins.specs.declared.key.Role.{Role}
use Rattle.bc_pins.specs.declared.key.Role.TheVariants.{Lane, Pager}
use Rattle.bc_pins.specs.declared.key.Turn.TheVariants.{Lanes}
use Rattle.bc_pins.specs.declared.pins.Pins.{Pins}
use Rattle.bc_pins.specs.declared.pins.Seat.{Seat}
use Rattle.bc_superpages.specs.Layout.{Layout}
use Rattle.bc_turn.specs.Taking.{turn_roles}
use Rattle.bc_turn.proofs.LiveLemmas.{IsLiveDealt}

-- the roles of the lanes
abbrev lane_roles : List ℕ → List Role
lane_roles busy = map (λ (lane : ℕ). Lane lane) busy

lanes-long : (busy : List ℕ) → length (lane_roles busy) ≡ length busy
lanes-long busy = length-map busy (λ (lane : ℕ). Lane lane)

-- as many roles as lanes and pagers
pub roles-long : (busy : List ℕ) (pagers : ℕ) → length (turn_roles busy pagers) ≡ length busy + pagers
roles-long busy pagers =
    let both = length-append (lane_roles busy) (pager_roles pagers) in
    let lanes = lanes-long busy in
    let others = seated.pagers-long pagers in
    omega arith

-- a table that was opened for some lanes and pagers
module _ (pins : Pins) (space : Layout) (hs : List Holder) (busy : List ℕ) (seats : List Seat) (pagers : List Paging) (opened : Opened space Lanes hs (turn_roles busy (length pagers)) pins (seats ++ seats_of pagers)) where
  pub lane-seats : length seats ≡ length busy
  lane-seats = seated.front-long pins (lane_roles busy) seats pagers opened.seats_are ∙ lanes-long busy

  pub lane-dealt : (i : ℕ) → i < length busy → (d : Seat) → IsDealt pins.table.shared.table_id (key_of pins) (Lane (get_or busy i 0)) (get_or seats i d)
  lane-dealt i lt d =
      let count = lanes-long busy in
      subst (λ (r : Role). IsDealt pins.table.shared.table_id (key_of pins) r (get_or seats i d)) (list.get_or-map (λ (lane : ℕ). Lane lane) busy i 0)
      (seated.front-dealt pins (lane_roles busy) seats pagers opened.seats_are i (omega arith) d)

  all-dealt : AreDealtPagers pins pagers
  all-dealt = seated.pagers-dealt pins (lane_roles busy) seats pagers opened.seats_are

-- the pagers of a turn and after them the live one, where there is one, at a table that was opened for them
module _ (pins : Pins) (space : Layout) (hs : List Holder) (busy : List ℕ) (seats : List Seat) (pagers : List Paging) (live : Option Paging)
    (opened : Opened space Lanes hs (turn_roles busy (length (pagers ++ option_to_list live))) pins (seats ++ seats_of (pagers ++ option_to_list live))) where
  pub pagers-dealt : AreDealtPagers pins pagers
  pagers-dealt i lt d =
      let both = length-append pagers (option_to_list live) in
      subst (λ (p : Paging). IsDealt pins.table.shared.table_id (key_of pins) (Pager i) p.seat) (get_or_append_left pagers (option_to_list live) d i lt)
      (all-dealt pins space hs busy seats (pagers ++ option_to_list live) opened i (omega arith) d)

  -- the live one has the next number
  pub live-dealt : IsLiveDealt pins (length pagers) live
  live-dealt = last live (all-dealt pins space hs busy seats (pagers ++ option_to_list live) opened)
    where
      last : (o : Option Paging) → AreDealtPagers pins (pagers ++ option_to_list o) → IsLiveDealt pins (length pagers) o
      last None dealt = tt
      last (Some p) dealt =
          let both = length-append pagers (p ∷ []) in
          subst (λ (q : Paging). IsDealt pins.table.shared.table_id (key_of pins) (Pager (length pagers)) q.seat) (get_or_push pagers p p (length pagers) refl) (dealt (length pagers) (omega arith) p)

  -- who are ready to work
  pub pagers-ready : (hints : List ℕ) → rooms_of pagers ≡ replicate (length pagers) (no_answers (length hints)) → AllPagersReady pins hints pagers
  pagers-ready hints rooms i lt d =
      let own = pagers-dealt i lt d in
      record {
        role = (i, own.its_role);
        seat = subst (λ (r : Role). IsDealt pins.table.shared.table_id (key_of pins) r (get_or pagers i d).seat) (sym own.its_role) own;
        answers =
            sym (get_or-map (λ (p : Paging). p.answers) pagers i d d.answers lt) ∙ ap (λ (rs : List KeptAnswers). get_or rs i d.answers) rooms
            ∙ get_or-replicate (length pagers) i (no_answers (length hints)) d.answers lt;
      }

  pub live-ready : (coming : Bool) → rooms_of (option_to_list live) ≡ rooms_of_live coming → IfSome live (IsLivePagerReady pins)
  live-ready coming rooms = ready live coming live-dealt rooms
    where
      ready : (o : Option Paging) (coming : Bool) → IsLiveDealt pins (length pagers) o → rooms_of (option_to_list o) ≡ rooms_of_live coming → IfSome o (IsLivePagerReady pins)
      ready None coming dealt rooms = tt
      ready (Some p) false dealt rooms = let long = ap (λ (rs : List KeptAnswers). length rs) rooms in absurd (omega arith)
      ready (Some p) true dealt rooms = record {
        role = (length pagers, dealt.its_role);
        seat = subst (λ (r : Role). IsDealt pins.table.shared.table_id (key_of pins) r p.seat) (sym dealt.its_role) dealt;
        answers = ap (λ (rs : List KeptAnswers). get_or rs 0 p.answers) rooms;
      }

-- there is a live pager where more notices may come, and else none
pub live-count : (live : Option Paging) (coming : Bool) → rooms_of (option_to_list live) ≡ rooms_of_live coming → length (option_to_list live) ≡ one_if coming
live-count None false rooms = refl
live-count None true rooms = let long = ap (λ (rs : List KeptAnswers). length rs) rooms in absurd (omega arith)
live-count (Some p) true rooms = refl
live-count (Some p) false rooms = let long = ap (λ (rs : List KeptAnswers). length rs) rooms in absurd (omega arith)

-- what is known where there is one is so where more notices may come, and the like where there is none
pub some-live : (live : Option Paging) (coming : Bool) → rooms_of (option_to_list live) ≡ rooms_of_live coming → (P : Type 0) → coming ≡ true → IfSome live (λ _. P) → P
some-live None coming rooms P is known = let none = live-count None coming rooms in let one = ap one_if is in absurd (omega arith)
some-live (Some p) coming rooms P is known = known

pub none-live : (live : Option Paging) (coming : Bool) → rooms_of (option_to_list live) ≡ rooms_of_live coming → (P : Type 0) → coming ≡ false → IfNone live P → P
none-live None coming rooms P is known = known
none-live (Some p) coming rooms P is known = let one = live-count (Some p) coming rooms in let none = ap one_if is in absurd (omega arith)

pub if-live : (live : Option Paging) (coming : Bool) → rooms_of (option_to_list live) ≡ rooms_of_live coming → (P : Type 0) → (coming ≡ true → P) → IfSome live (λ _. P)
if-live None coming rooms P known = tt
if-live (Some p) true rooms P known = known refl
if-live (Some p) false rooms P known = let one = live-count (Some p) false rooms in absurd (omega arith)

-- room for the answers of pagers, of which the last are these
pub rooms-split : (xs ys : List Paging) (count : ℕ) (room : KeptAnswers) (more : List KeptAnswers) → rooms_of (xs ++ ys) ≡ replicate count room ++ more → length ys ≡ length more → (rooms_of xs ≡ replicate count room) × (rooms_of ys ≡ more)
rooms-split xs ys count room more is same =
    let split : rooms_of xs ++ rooms_of ys ≡ replicate count room ++ more = sym (map-append (λ (p : Paging). p.answers) xs ys) ∙ is in
    let both = length-append (rooms_of xs) (rooms_of ys) in
    let all = length-append (replicate count room) more in
    let long = ap (λ (rs : List KeptAnswers). length rs) split in
    let last = length-map ys (λ (p : Paging). p.answers) in
    let at : length (rooms_of xs) ≡ length (replicate count room) = omega arith in (
      sym (take-append_seam (rooms_of xs) (rooms_of ys)) ∙ ap (take (length (rooms_of xs))) split ∙ ap (λ (n : ℕ). take n (replicate count room ++ more)) at ∙ take-append_seam (replicate count room) more,
      sym (drop-append_seam (rooms_of xs) (rooms_of ys)) ∙ ap (drop (length (rooms_of xs))) split ∙ ap (λ (n : ℕ). drop n (replicate count room ++ more)) at ∙ drop-append_seam (replicate count room) more,
    )

-- so many pagers with the live one
pub all-count : (live : Bool) → length (rooms_of_live live) ≡ one_if live
all-count true = refl
all-count false = refl

pub byte-one : (b : Bool) → bool_byte b ≡ one_if b
byte-one true = refl
byte-one false = refl
