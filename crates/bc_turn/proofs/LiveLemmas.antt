-- The live pager of a turn, where there is one: its seat, what it answered, and what all pagers have with it.
use Rattle.std.proofs.Common.{◌≡◌, ◌⊎◌, ℕ, ◌+◌, ◌<◌, ◌≤◌, List, [], ◌∷◌, ◌++◌, length, length-append, map, get_or, append-nil, Option, Some, None, inl, inr, refl, ap, sym, subst, ◌∙◌, arith}
use Rattle.std.specs.Prelude.{IfNone, IfSome, option_to_list}
use Rattle.std.proofs.lemmas.Bool.{cases_lt}
use Rattle.std.proofs.lemmas.List.{get_or_append_left, get_or_push, length-map, map-append}
use Rattle.bc_pager.specs.Answering.{AreAnswered, says_declined, says_discarded, says_evicted}
use Rattle.bc_pager.specs.Claiming.{hints_of}
use Rattle.bc_pager.specs.Feeding.{ServedOut, ServesLive, answers_of_live, live_room}
use Rattle.bc_pager.specs.Paging.{seats_of}
use Rattle.bc_pager.specs.Placing.{AnsweredByPagers, ClaimAsMany, Paged, paged_of}
use Rattle.bc_pager.specs.Serving.{told_with}
use Rattle.bc_pager.specs.declared.answers.Answer.{Answer}
use Rattle.bc_pager.specs.declared.notices.Notice.{Notice}
use Rattle.bc_pager.specs.declared.paging.Paging.{Paging}
use Rattle.bc_pager.proofs.DeclinedLemmas.{LooksFound, answered-looks}
use Rattle.bc_pager.proofs.FeedingLemmas.{live-back, live-told}
use Rattle.bc_pager.proofs.HomeLemmas.{declined-beside, fetches, leaves, looked-by}
use Rattle.bc_pager.proofs.SeatedLemmas.{ArePagersBack, ArePagersTold, IsPagerBack, seats-long}
use Rattle.bc_pager.proofs.ServeLemmas.{told-none}
use Rattle.bc_pager.proofs.ToldLemmas.{answered-even, answered-none, total_paged}
use Rattle.bc_pins.specs.Calls.{key_of, view_of}
use Rattle.bc_pins.specs.Closing.{Closed}
use Rattle.bc_pins.specs.Key.{Key, pages_of, role_number}
use Rattle.bc_pins.specs.Seating.{IsDealt}
use Rattle.bc_pins.specs.Steps.{fresh}
use Rattle.bc_pins.specs.Totals.{times, total}
use Rattle.bc_pins.specs.Views.{reads_as}
use Rattle.bc_pins.specs.declared.key.Role.{Role}
use Rattle.bc_pins.specs.declared.key.Role.TheVariants.{Pager}
use Rattle.bc_pins.specs.declared.pins.Pins.{Pins}
use Rattle.bc_pins.specs.declared.pins.Seat.{Seat}
use Rattle.bc_pins.specs.declared.views.View.{View}
use Rattle.bc_pins.proofs.TotalLemmas.{total_append, total_in}
use Rattle.bc_superpages.specs.declared.headers.PageState.TheVariants.{Home}
use Rattle.bc_superpages.specs.Layout.{Layout, superpages}
use Rattle.bc_superpages.specs.LayoutAt.{state_at}
use Rattle.bc_turn.specs.Answered.{AnsweredLive}

pub live-absent : (k : Key) (number : ℕ) → AnsweredLive k number [] []
live-absent k number = record { end = fresh k (role_number (Pager number) ∷ []); each = refl; unclaimed = refl; few = omega arith }

-- it names no page past the table
pub live-far : (k : Key) (number : ℕ) (fed : List Notice) (told : List Answer) → AnsweredLive k number fed told → (p : ℕ) → pages_of k ≤ p → (total (says_evicted p) told ≡ 0) × (total (says_discarded p) told ≡ 0)
live-far k number fed told is p far = answered-none k (hints_of fed) told (fresh k (role_number (Pager number) ∷ [])) is.end is.each p far

-- what the seats of two lists of pagers have between them
pub seats-both : (f : Seat → ℕ) (xs ys : List Paging) → total f (seats_of (xs ++ ys)) ≡ total f (seats_of xs) + total f (seats_of ys)
seats-both f xs ys = ap (total f) (map-append (λ (p : Paging). p.seat) xs ys) ∙ total_append f (seats_of xs) (seats_of ys)

-- the live pager has the seat after those of the others
abbrev pub IsLiveDealt : Pins → ℕ → Option Paging → Type 0
IsLiveDealt pins number live = IfSome live (λ p. IsDealt pins.table.shared.table_id (key_of pins) (Pager number) p.seat)

-- all pagers with one more
with-last : (pins : Pins) (later : List Paging) (p : Paging) → ArePagersBack pins (seats_of later) → IsPagerBack pins (length later) p.seat → ArePagersBack pins (seats_of (later ++ p ∷ []))
with-last pins later p back last =
    subst (ArePagersBack pins) (sym (map-append (λ (q : Paging). q.seat) later (p ∷ []))) (λ i lt d.
    let long = seats-long later in
    let both = length-append (seats_of later) (p.seat ∷ []) in
    elim (cases_lt i (length (seats_of later))) [
      | inl near ↦ subst (IsPagerBack pins i) (sym (get_or_append_left (seats_of later) (p.seat ∷ []) d i near)) (back i near d)
      | inr past ↦
          let here : length later ≡ i = omega arith in
          subst (IsPagerBack pins i) (sym (get_or_push (seats_of later) p.seat d i (omega arith))) (subst (λ (n : ℕ). IsPagerBack pins n p.seat) here last)
    ])

-- it has the seat after those of pagers that are through
pub dealt-later : (pins : Pins) (pagers later : List Paging) (live : Option Paging) → length later ≡ length pagers → IsLiveDealt pins (length pagers) live → IsLiveDealt pins (length later) live
dealt-later pins pagers later live long dealt = subst (λ (n : ℕ). IsLiveDealt pins n live) (sym long) dealt

-- a turn's pagers that are through, and its live pager, which served
module _ (pins : Pins) (told more_told : Option (List Notice)) (given more_given : Option (List View)) where
  -- as many as before
  pub live-long : (old new : Option Paging) → ServesLive pins told more_told given more_given old new → length (option_to_list new) ≡ length (option_to_list old)
  live-long None new serves = ap (λ (o : Option Paging). length (option_to_list o)) serves.0
  live-long (Some old) new serves = ap (λ (o : Option Paging). length (option_to_list o)) serves.1

  -- what it took, and answered
  pub live-answered : (number : ℕ) (old new : Option Paging) → IsLiveDealt pins number old → ServesLive pins told more_told given more_given old new
      → (fed : List Notice) × (more_told ≡ told_with told fed) × AnsweredLive (key_of pins) number fed (answers_of_live new)
  live-answered number None new dealt serves =
      ([], serves.1 ∙ told-none told, subst (λ (o : Option Paging). AnsweredLive (key_of pins) number [] (answers_of_live o)) (sym serves.0) (live-absent (key_of pins) number))
  live-answered number (Some old) new dealt serves =
      let p = serves.0 in
      let did = serves.2 in (
        did.notices,
        did.taken,
        subst (λ (o : Option Paging). AnsweredLive (key_of pins) number did.notices (answers_of_live o)) (sym serves.1)
            (record {
              end = view_of p.seat;
              each = subst (λ (r : Role). AreAnswered (key_of pins) (hints_of did.notices) p.answers.list (fresh (key_of pins) (role_number r ∷ [])) (view_of p.seat)) dealt.its_role did.each;
              unclaimed = did.unclaimed;
              few = did.few;
            }),
      )

  -- it has answered no more than there was room for
  pub live-fits : (old new : Option Paging) → ServesLive pins told more_told given more_given old new → (n room : ℕ) → IfSome old (λ _. n + live_room ≤ room) → n ≤ room → n + length (answers_of_live new) ≤ room
  live-fits None new serves n room enough within = let none = ap (λ (o : Option Paging). length (answers_of_live o)) serves.0 in omega arith
  live-fits (Some old) new serves n room enough within =
      let did = serves.2 in
      let same = ap (λ (o : Option Paging). length (answers_of_live o)) serves.1 in
      let even = answered-even (key_of pins) (hints_of did.notices) serves.0.answers.list (fresh (key_of pins) (role_number old.seat.role ∷ [])) (view_of serves.0.seat) did.each in
      let long = length-map did.notices (λ (notice : Notice). notice.hint) in
      let few = did.few in
      omega arith

  -- where there is one its source was asked until it had none, or until it had answered so many
  pub live-asked : (old new : Option Paging) → ServesLive pins told more_told given more_given old new → (ends more_ends : ℕ) (lived last : List Answer) → IfSome new (λ p. ServedOut ends more_ends 0 (length p.answers.list)) → last ≡ lived ++ answers_of_live new
      → IfSome old (λ _. ServedOut ends more_ends (length lived) (length last))
  live-asked None new serves ends more_ends lived last ended is = tt
  live-asked (Some old) new serves ends more_ends lived last ended is =
      let here : ServedOut ends more_ends 0 (length serves.0.answers.list) = subst (λ (o : Option Paging). IfSome o (λ p. ServedOut ends more_ends 0 (length p.answers.list))) serves.1 ended in
      let same = ap (λ (o : Option Paging). length (answers_of_live o)) serves.1 in
      let long = ap (λ (l : List Answer). length l) is in
      let both = length-append lived (answers_of_live new) in
      elim here [
        | inl none_left ↦ inl none_left
        | inr full ↦ inr (full.0, let all = full.1 in omega arith)
      ]

  -- and where there is none no answer was added
  pub live-idle : (old new : Option Paging) → ServesLive pins told more_told given more_given old new → (P : Type 0) (lived last : List Answer) → IfNone old P → last ≡ lived ++ answers_of_live new → IfNone old (P × (last ≡ lived))
  live-idle None new serves P lived last same is = (same, is ∙ ap (λ (o : Option Paging). lived ++ answers_of_live o) serves.0 ∙ append-nil lived)
  live-idle (Some old) new serves P lived last same is = tt

  module _ (later : List Paging) (old new : Option Paging) (serves : ServesLive pins told more_told given more_given old new) where
    abbrev all : List Paging
    all = later ++ option_to_list new

    pub back-with : IsLiveDealt pins (length later) old → ArePagersBack pins (seats_of later) → ArePagersBack pins (seats_of all)
    back-with dealt back = back-of old new dealt serves
      where
        back-of : (o n : Option Paging) → IsLiveDealt pins (length later) o → ServesLive pins told more_told given more_given o n → ArePagersBack pins (seats_of (later ++ option_to_list n))
        back-of None n dealt serves = subst (λ (x : Option Paging). ArePagersBack pins (seats_of (later ++ option_to_list x))) (sym serves.0) (subst (λ (ps : List Paging). ArePagersBack pins (seats_of ps)) (sym (append-nil later)) back)
        back-of (Some o) n dealt serves =
            subst (λ (x : Option Paging). ArePagersBack pins (seats_of (later ++ option_to_list x))) (sym serves.1)
            (with-last pins later serves.0 back (live-back pins told more_told given more_given (length later) o serves.0 dealt serves.2))

    -- what its seat did is what its answers say
    live-named : ArePagersTold pins (seats_of (option_to_list new)) (answers_of_live new)
    live-named = named-of old new serves
      where
        named-of : (o n : Option Paging) → ServesLive pins told more_told given more_given o n → ArePagersTold pins (seats_of (option_to_list n)) (answers_of_live n)
        named-of None n serves = subst (λ (x : Option Paging). ArePagersTold pins (seats_of (option_to_list x)) (answers_of_live x)) (sym serves.0) (record { left = λ p. refl; emptied = λ p. refl; homes = λ p near. refl })
        named-of (Some o) n serves = subst (λ (x : Option Paging). ArePagersTold pins (seats_of (option_to_list x)) (answers_of_live x)) (sym serves.1) (live-told pins told more_told given more_given o serves.0 serves.2)

    pub told-with-live : (answers : List Answer) → ArePagersTold pins (seats_of later) answers → ArePagersTold pins (seats_of all) (answers ++ answers_of_live new)
    told-with-live answers are =
        let live = live-named in
        record {
          left = λ p.
              let seats = seats-both (λ (s : Seat). times p (view_of s).left) later (option_to_list new) in
              let says = total_append (says_evicted p) answers (answers_of_live new) in
              let one = are.left p in
              let two = live.left p in
              omega arith;
          emptied = λ p.
              let seats = seats-both (λ (s : Seat). times p (view_of s).emptied) later (option_to_list new) in
              let says = total_append (says_discarded p) answers (answers_of_live new) in
              let one = are.emptied p in
              let two = live.emptied p in
              omega arith;
          homes = λ p near.
              let seats = seats-both (λ (s : Seat). reads_as p 1 (view_of s)) later (option_to_list new) in
              let gone = total_append (says_evicted p) answers (answers_of_live new) in
              let absent = total_append (says_discarded p) answers (answers_of_live new) in
              let one = are.homes p near in
              let two = live.homes p near in
              omega arith;
        }

    -- it claimed nothing, so all claims are those of the others
    live-unclaimed : (f : List ℕ → ℕ) → f [] ≡ 0 → total (λ (s : Seat). f (view_of s).notices) (seats_of (option_to_list new)) ≡ 0
    live-unclaimed f none = of old new serves
      where
        of : (o n : Option Paging) → ServesLive pins told more_told given more_given o n → total (λ (s : Seat). f (view_of s).notices) (seats_of (option_to_list n)) ≡ 0
        of None n serves = ap (λ (x : Option Paging). total (λ (s : Seat). f (view_of s).notices) (seats_of (option_to_list x))) serves.0
        of (Some o) n serves =
            let same = ap (λ (x : Option Paging). total (λ (s : Seat). f (view_of s).notices) (seats_of (option_to_list x))) serves.1 in
            let own = ap f serves.2.unclaimed in
            omega arith

    pub claims-with-live : (seats : List Seat) → ClaimAsMany seats (seats_of all) → ClaimAsMany seats (seats_of later)
    claims-with-live seats many = record {
      count =
          let both = seats-both (λ (s : Seat). length (view_of s).notices) later (option_to_list new) in
          let none = live-unclaimed (λ (l : List ℕ). length l) refl in
          let count = many.count in
          omega arith;
      each = λ n.
          let both = seats-both (λ (s : Seat). times n (view_of s).notices) later (option_to_list new) in
          let none = live-unclaimed (times n) refl in
          let each = many.each n in
          omega arith;
    }

    -- what one of the others read is among what all have read
    pub logged-with-live : (seats : List Seat) (i : ℕ) → i < length (map paged_of later) → (d : Paged) (p n : ℕ) → reads_as p n (get_or (map paged_of later) i d).end ≤ total (λ (s : Seat). reads_as p n (view_of s)) (seats ++ seats_of all)
    logged-with-live seats i lt d p n =
        let f : Seat → ℕ = λ s. reads_as p n (view_of s) in
        let here = total_in (λ (x : Paged). reads_as p n x.end) (map paged_of later) i d lt in
        let pagers = total_paged (λ (v : View). reads_as p n v) later in
        let split = seats-both f later (option_to_list new) in
        let both = total_append f seats (seats_of all) in
        omega arith

    -- and so is what the live one read: where it declined a notice it looked at each page
    pub live-found : (seats : List Seat) → 0 < total says_declined (answers_of_live new) → (w : View) × LooksFound (key_of pins) w × ((p n : ℕ) → reads_as p n w ≤ total (λ (s : Seat). reads_as p n (view_of s)) (seats ++ seats_of all))
    live-found seats some = of old new serves some (λ f. total_append f seats (seats_of all)) (λ f. seats-both f later (option_to_list new))
      where
        of : (o n : Option Paging) → ServesLive pins told more_told given more_given o n → 0 < total says_declined (answers_of_live n)
            → ((f : Seat → ℕ) → total f (seats ++ seats_of all) ≡ total f seats + total f (seats_of all)) → ((f : Seat → ℕ) → total f (seats_of all) ≡ total f (seats_of later) + total f (seats_of (option_to_list n)))
            → (w : View) × LooksFound (key_of pins) w × ((p n : ℕ) → reads_as p n w ≤ total (λ (s : Seat). reads_as p n (view_of s)) (seats ++ seats_of all))
        of None n serves some both split = let none = ap (λ (x : Option Paging). total says_declined (answers_of_live x)) serves.0 in absurd (omega arith)
        of (Some o) n serves some both split =
            let w = view_of serves.0.seat in
            let same = ap (λ (x : Option Paging). total says_declined (answers_of_live x)) serves.1 in (
              w,
              answered-looks (key_of pins) (hints_of serves.2.notices) serves.0.answers.list (fresh (key_of pins) (role_number o.seat.role ∷ [])) w serves.2.each (omega arith),
              λ p m.
                  let f : Seat → ℕ = λ s. reads_as p m (view_of s) in
                  let whole = both f in
                  let parts = split f in
                  let own = ap (λ (x : Option Paging). total f (seats_of (option_to_list x))) serves.1 in
                  omega arith,
            )

    -- where a notice was declined each page that is Home afterwards is looked at
    pub declined-with-live : (back : List Seat) (hints : List ℕ) (t : Layout) (answers : List Answer) (IsLooked : ℕ → Type 0) → Closed (key_of pins) (back ++ seats_of all) t → length t.states ≡ superpages t
        → AnsweredByPagers (key_of pins) hints (map paged_of later) answers → ((p : ℕ) → 0 < fetches (back ++ seats_of all) p → IsLooked p)
        → ((p : ℕ) → p < pages_of (key_of pins) → 0 < total (λ (s : Seat). reads_as p 1 (view_of s)) (back ++ seats_of all) → (0 < leaves (back ++ seats_of all) p) ⊎ IsLooked p)
        → 0 < total says_declined (answers ++ answers_of_live new) → (p : ℕ) → state_at t.states p ≡ Home → IsLooked p
    declined-with-live back hints t answers IsLooked closed long shared fetched homes some =
        let both = total_append says_declined answers (answers_of_live new) in
        elim (cases_lt 0 (total says_declined answers)) [
          | inl one ↦ declined-beside (key_of pins) t (back ++ seats_of all) hints (map paged_of later) answers IsLooked closed long shared (logged-with-live back) fetched homes one
          | inr none ↦ let found = live-found back (omega arith) in looked-by (key_of pins) t (back ++ seats_of all) IsLooked closed long fetched homes found.0 found.2 found.1
        ]
