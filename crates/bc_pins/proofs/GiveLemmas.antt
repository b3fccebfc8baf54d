-- Putting a page back, as Home or as Home and remembered.
use Rattle.std.proofs.Common.{◌≡◌, ℕ, ◌+◌, ◌<◌, ◌≤◌, ◌≢◌, ◌==◌, ◌&&◌, ◌⊎◌, Bool, true, false, List, [], ◌∷◌, length, set, Some, None, if◌then◌else◌, inl, inr, refl, ap, sym, subst, ◌∙◌, arith}
use mathlib.Core.Option.{some}
use mathlib.Core.Option as maybe
use lib.ListN.{get_elem?}
use Rattle.std.proofs.lemmas.Bool.{cases_eq, cases_lt, cases_Bool, eq-eqb, eqb-true, ne_eqb, ltb-true, lt-ltb}
use Rattle.std.proofs.lemmas.List.{length-set}
use Rattle.atomic_table.specs.Table.{Allows, step, gives, chain}
use Rattle.atomic_table.proofs.Lists.{set_here, set_else}
use Rattle.bc_bits.specs.Counting.{one_if}
use Rattle.bc_superpages.specs.declared.spaces.Homed.{Homed}
use Rattle.bc_pins.specs.declared.views.Lodged.{Lodged}
use Rattle.bc_pins.specs.declared.views.Lodged.TheVariants.{Nothing, Home}
use Rattle.bc_pins.specs.declared.views.Hand.{Hand}
use Rattle.bc_pins.specs.declared.views.View.{View}
use Rattle.bc_pins.specs.Key.{Key, pages_of, owner, page_at, frame_slot, store_slot, home_slot}
use Rattle.bc_pins.specs.Totals.{total, times}
use Rattle.bc_pins.specs.Contents.{IsContent, RefersYoung}
use Rattle.bc_pins.specs.Views.{grips, grips_remembered, frame_in_hand, counted_for, marked_for, has_role, withholds, entries, look_up, opened_content}
use Rattle.bc_pins.specs.Facts.{Table, fetched_ever, slot, IsHomed, Lies, RecordsContent, Marking, frame_lodged, points, page_word, IsBitOfTarget, MarksTargets, has_bit_of, puts_with}
use Rattle.bc_pins.specs.Tidy.{IsTidy}
use Rattle.bc_pins.specs.Rule.{Rule, Ruled}
use Rattle.bc_pins.specs.Steps.{Mine, owns, both_slots, released, Gave}
use Rattle.bc_pins.proofs.NoticeLemmas.{claims_aside}
use Rattle.bc_pins.proofs.OwingLemmas.{held_word, owing_page}
use Rattle.bc_pins.proofs.TotalLemmas.{total_set, total_at, one_same, one_other, one_is}
use Rattle.bc_pins.proofs.WithholdLemmas.{foreign_few, foreign_own}
use Rattle.bc_pins.proofs.PageSteps.{after, sets_marked, left_gone, PageStep, page_step}
use Rattle.bc_pins.proofs.ReadLemmas.{same_page, saw_kept}
use Rattle.bc_pins.proofs.TakeLemmas.{Slots, flag_is, flag_other, none_either}

pub no_hand : (z : Hand) → None ≡ Some z → ⊥
no_hand z e = cc

lies_homed : (n : ℕ) (a b : maybe.Option (maybe.Option Lodged)) (c : List ℕ) → 1 ≤ n → n ≤ 2 → IsHomed a b c → Lies n a b c
lies_homed n a b c lo hi l = elim (cases_eq n 1) [
  | inl one ↦ subst (λ (j : ℕ). Lies j a b c) (sym one) l
  | inr ne ↦ let two : n ≡ 2 = omega arith in subst (λ (j : ℕ). Lies j a b c) (sym two) l
]

pub recorded_times : (b : Bool) (q p : ℕ) (l : List ℕ) → times q (if b then p ∷ l else l) ≡ (if b then one_if (p == q) else 0) + times q l
recorded_times true q p l = refl
recorded_times false q p l = omega arith

-- of two tests that both hold
both_few : (b c : Bool) → one_if (b && c) ≤ one_if b
both_few true true = omega arith
both_few true false = omega arith
both_few false c = omega arith

both_on : (b c : Bool) → c ≡ true → one_if (b && c) ≡ one_if b
both_on true c on = ap one_if on
both_on false c on = refl

both_off : (b c : Bool) (n : ℕ) → c ≡ false → (if b && c then n else 0) ≡ 0
both_off true c n off = ap (λ (t : Bool). if t then n else 0) off
both_off false c n off = refl

returned_other : (b : Bool) (q p : ℕ) (l : List ℕ) → q ≢ p → times q (if b then l else p ∷ l) ≡ times q l
returned_other true q p l ne = refl
returned_other false q p l ne = let z = one_other p q (λ e. ne (sym e)) in omega arith

changed_entries : (b : Bool) (q p : ℕ) (c : List ℕ) (l : List (ℕ × List ℕ)) → entries q (if b then (p, c) ∷ l else l) ≡ (if b then one_if (p == q) else 0) + entries q l
changed_entries true q p c l = refl
changed_entries false q p c l = omega arith

-- no content is forgotten by it, and the new one is among those that were put back
changed_more : (own : Bool) (k : Key) (q p i b : ℕ) (c : List ℕ) (l : List (ℕ × List ℕ)) → puts_with k q i b l ≤ puts_with k q i b (if own then (p, c) ∷ l else l)
changed_more true k q p i b c l = omega arith
changed_more false k q p i b c l = omega arith

changed_with : (own : Bool) (k : Key) (p i b : ℕ) (c : List ℕ) (l : List (ℕ × List ℕ)) → own ≡ true → has_bit_of k p c i b ≡ true → 0 < puts_with k p i b (if own then (p, c) ∷ l else l)
changed_with true k p i b c l e on =
    let here : (if p == p then one_if (has_bit_of k p c i b) else 0) ≡ one_if (has_bit_of k p c i b) = ap (λ (t : Bool). if t then one_if (has_bit_of k p c i b) else 0) (eq-eqb p p refl) in
    let one : one_if (has_bit_of k p c i b) ≡ 1 = ap one_if on in
    omega arith
changed_with false k p i b c l e on = absurd (cc)

pub look_other : (b : Bool) (q p : ℕ) (c d : List ℕ) (l : List (ℕ × List ℕ)) → p ≢ q → look_up q (if b then (p, c) ∷ l else l) d ≡ look_up q l d
look_other true q p c d l ne = ap (λ (b : Bool). if b then c else look_up q l d) (ne_eqb p q ne)
look_other false q p c d l ne = refl

pub look_here : (b : Bool) (p : ℕ) (c d : List ℕ) (l : List (ℕ × List ℕ)) → b ≡ true → look_up p (if b then (p, c) ∷ l else l) d ≡ c
look_here true p c d l e = ap (λ (b : Bool). if b then c else look_up p l d) (eq-eqb p p refl)
look_here false p c d l e = absurd (cc)

here_is : (a p : ℕ) (b c : List ℕ) → a ≡ p → (if a == p then b else c) ≡ b
here_is a p b c e = ap (λ (t : Bool). if t then b else c) (eq-eqb a p e)

there_is : (a p : ℕ) (b c : List ℕ) → a ≢ p → (if a == p then b else c) ≡ c
there_is a p b c e = ap (λ (t : Bool). if t then b else c) (ne_eqb a p e)

-- a frame that moves from a hand into its slot
given_frame : (f : ℕ) (hs : Slots) (p q : ℕ) (h : Homed) → p ≢ q → get_elem? hs p ≡ some maybe.none → get_elem? hs q ≡ some maybe.none
    → total (frame_lodged f) (set (set hs p (some (Home h))) q (some Nothing)) ≡ total (frame_lodged f) hs + one_if (h.frame == f)
given_frame f hs p q h ne one two =
    let a = total_set (frame_lodged f) hs p maybe.none (some (Home h)) one in
    let b = total_set (frame_lodged f) (set hs p (some (Home h))) q maybe.none (some Nothing) (set_else hs p q (some (Home h)) (λ e. ne (sym e)) ∙ two) in
    omega arith

module _ (k : Key) (s : Table) (r : Rule k s) (id x role : ℕ) (v : View) (g : Hand) (h : Homed) (at : get_elem? s.views id ≡ some v) (lo : 1 ≤ x) (hi : x ≤ 2)
    (about : v.about ≡ k) (has : v.hand ≡ Some g) (some_role : 0 < has_role v role) (frame : h.frame ≡ g.frame)
    (fixed : IsContent k.opening g.page h.page) (young : RefersYoung k.opening g.page h.page → x ≡ 2) (flag : g.remembered ≡ true → x ≡ 2)
    (others : has_role v (owner k g.page) ≡ 0 → (h.page ≡ g.content) × (x ≡ 2 → g.remembered ≡ true)) (uncounted : g.counted ≡ []) (unmarked : g.marked ≡ []) where
  abbrev p : ℕ
  p = g.page

  abbrev w : View
  w = released v p (x == 2) h.page

  abbrev homes : Slots
  homes = set (set s.homes (frame_slot k p) (some (Home h))) (store_slot k p) (some Nothing)

  abbrev rec' : ℕ → List ℕ
  rec' q = if q == p then h.page else r.rec q

  near : p < pages_of k
  near = ((r.seats id v at).records.in_hand g has).0

  wide : page_at p < length s.words
  wide = let long = r.words in let n = near in omega arith

  grip_is : (q : ℕ) → grips q v.hand ≡ one_if (p == q)
  grip_is q = ap (grips q) has

  flag_was : (q : ℕ) → grips_remembered q v.hand ≡ (if g.remembered then one_if (p == q) else 0)
  flag_was q = ap (grips_remembered q) has

  was_held : page_word s p ≡ 3
  was_held =
      let held = (r.place p near).held in
      let mine = total_at (λ (u : View). grips p u.hand) s.views id v at in
      let is = grip_is p in
      let one = one_same p in
      one_is (page_word s p) 3 (omega arith)

  word_is : (n : ℕ) → n ≢ 3 → one_if (page_word s p == n) ≡ 0
  word_is n ne = one_other (page_word s p) n (λ e. ne (sym e ∙ was_held))

  three_is : one_if (page_word s p == 3) ≡ 1
  three_is = ap (λ (n : ℕ). one_if (n == 3)) was_held

  now_is : (n : ℕ) → n ≢ 1 → n ≢ 2 → one_if (x == n) ≡ 0
  now_is n a b = one_other x n (λ e. elim (cases_eq x 1) [ inl one ↦ a (sym e ∙ one) | inr ne ↦ let two : x ≡ 2 = omega arith in b (sym e ∙ two) ])

  two_if : x ≡ 2 → one_if (x == 2) ≡ 1
  two_if e = ap one_if (eq-eqb x 2 e)

  flag_now : grips_remembered p v.hand ≤ one_if (x == 2)
  flag_now = elim (cases_Bool g.remembered) [
    | inl on ↦
        let a = flag_was p in
        let b : (if g.remembered then one_if (p == p) else 0) ≡ one_if g.remembered = flag_is g.remembered p in
        let c : one_if g.remembered ≡ 1 = ap one_if on in
        let d = two_if (flag on) in
        omega arith
    | inr off ↦
        let a = flag_was p in
        let b : (if g.remembered then one_if (p == p) else 0) ≡ one_if g.remembered = flag_is g.remembered p in
        let c : one_if g.remembered ≡ 0 = ap one_if off in
        omega arith
  ]

  fewer : one_if (page_word s p == 2) + grips_remembered p v.hand ≤ one_if (x == 2) + grips_remembered p w.hand
  fewer = let a = word_is 2 (λ e. omega arith) in let b = flag_now in omega arith

  else_flag : (q : ℕ) → q ≢ p → grips_remembered q w.hand ≡ grips_remembered q v.hand
  else_flag q ne = sym (flag_was q ∙ flag_other g.remembered p q (λ e. ne (sym e)))

  not_four : page_word s p ≡ 4 → ⊥
  not_four e = let a = was_held in omega arith

  old_record : g.content ≡ r.rec p
  old_record = ((r.seats id v at).records.in_hand g has).1

  same_here : rec' p ≡ h.page
  same_here = here_is p p h.page (r.rec p) refl

  lane_kept : has_role v (owner k p) ≡ 0 → rec' p ≡ r.rec p
  lane_kept none_has = same_here ∙ (others none_has).0 ∙ old_record

  owning : 0 < has_role v (owner k p) → owns v p ≡ true
  owning lt = lt-ltb 0 _ (subst (λ (a : Key). 0 < has_role v (owner a p)) (sym about) lt)

  not_owning : (q : ℕ) → q ≡ p → has_role v (owner k q) ≡ 0 → owns v p ≡ true → ⊥
  not_owning q e none_has on =
      let a : 0 < has_role v (owner v.about p) = ltb-true 0 _ on in
      let b : 0 < has_role v (owner k p) = subst (λ (y : Key). 0 < has_role v (owner y p)) about a in
      let c : has_role v (owner k p) ≡ 0 = subst (λ (n : ℕ). has_role v (owner k n) ≡ 0) e none_has in
      omega arith

  records_kept : RecordsContent k rec' w
  records_kept =
      let facts = (r.seats id v at).records in
      record {
        mine = λ q lt. elim (cases_eq q p) [
          | inl e ↦
              let mine : 0 < has_role v (owner k p) = subst (λ (n : ℕ). 0 < has_role v (owner k n)) e lt in
              here_is q p h.page (r.rec q) e ∙ sym (ap (λ (n : ℕ). look_up n w.changed (opened_content v.about n)) e ∙ look_here (owns v p) p h.page (opened_content v.about p) v.changed (owning mine))
          | inr ne ↦ there_is q p h.page (r.rec q) ne ∙ facts.mine q lt ∙ sym (look_other (owns v p) q p h.page (opened_content v.about q) v.changed (λ e. ne (sym e)))
        ];
        others = λ q none_has. elim (cases_eq q p) [
          | inl e ↦ elim (cases_Bool (owns v p)) [
            | inl on ↦ absurd (not_owning q e none_has on)
            | inr off ↦ changed_entries (owns v p) q p h.page v.changed ∙ (let a : (if owns v p then one_if (p == q) else 0) ≡ 0 = ap (λ (b : Bool). if b then one_if (p == q) else 0) off in let b = facts.others q none_has in omega arith)
          ]
          | inr ne ↦ changed_entries (owns v p) q p h.page v.changed ∙ (let a = flag_other (owns v p) p q (λ e. ne (sym e)) in let b = facts.others q none_has in omega arith)
        ];
        unrecorded = λ q none_has.
            let more = recorded_times ((x == 2) && owns v p) q p v.recorded in
            let was = facts.unrecorded q none_has in
            elim (cases_eq q p) [
              | inl e ↦ elim (cases_Bool (owns v p)) [
                | inl on ↦ absurd (not_owning q e none_has on)
                | inr off ↦ let none_new = both_off (x == 2) (owns v p) (one_if (p == q)) off in omega arith
              ]
              | inr ne ↦ let none_new = flag_other ((x == 2) && owns v p) p q (λ e. ne (sym e)) in omega arith
            ];
        unfetched = facts.unfetched;
        in_hand = λ z e. absurd (no_hand z e);
      }

  hand_counted : (j q : ℕ) → counted_for j q v.hand ≡ 0
  hand_counted j q = ap (counted_for j q) has ∙ none_either (p == j) (times q g.counted) (ap (times q) uncounted)

  never_four : (n : ℕ) → (if x == 4 then n else 0) ≡ 0
  never_four n = ap (λ (b : Bool). if b then n else 0) (ne_eqb x 4 (λ e. omega arith))

  was_no_four : (n : ℕ) → (if page_word s p == 4 then n else 0) ≡ 0
  was_no_four n = ap (λ (b : Bool). if b then n else 0) (ne_eqb (page_word s p) 4 not_four)

  marking_kept : Marking w
  marking_kept =
      let old_marks = (r.seats id v at).marking in
      record {
        once = λ z e q. absurd (no_hand z e);
        whose = λ j lt. elim (old_marks.whose j lt) [
          | inl held ↦
              let is : p ≡ j = one_is p j (let a = grip_is j in omega arith) in
              inr (subst (λ (n : ℕ). 0 < times n v.left) is (old_marks.unmarked g has unmarked (subst (λ (n : ℕ). 0 < marked_for n v.bookmarked) (sym is) lt)))
          | inr gone ↦ inr gone
        ];
        unmarked = λ z e _ lt. absurd (no_hand z e);
      }

  -- what was bookmarked for other pages. This one hasn't left, or was taken from Gone
  fetched_same : (q : ℕ) → fetched_ever (after s p x homes id w) q ≡ fetched_ever s q
  fetched_same q = let a = total_set (λ (u : View). times q u.fetched) s.views id v w at in omega arith

  targets_now : MarksTargets k (after s p x homes id w) rec' w
  targets_now =
      let facts = r.seats id v at in
      record {
        each = λ q y b few on.
            let was = facts.targets.each q y b few on in (
              was.0,
              λ none_fetched. let same = fetched_same q in let none_before : fetched_ever s q ≡ 0 = omega arith in elim (cases_eq q p) [
                | inl e ↦ absurd (
                    let lt = facts.marking.unmarked g has unmarked (subst (λ (n : ℕ). 0 < marked_for n v.bookmarked) e (sets_marked q y b v.bookmarked on)) in
                    not_four (left_gone k s r p id v at near lt (subst (λ (n : ℕ). fetched_ever s n ≡ 0) e none_before)))
                | inr ne ↦ subst (λ (c : List ℕ). IsBitOfTarget k q c y b) (sym (there_is q p h.page (r.rec q) ne)) (was.1 none_before)
              ],
            );
        had = λ q y b few on.
            let was = facts.targets.had q y b few on in
            let sum = total_set (λ (u : View). puts_with k q y b u.changed) s.views id v w at in
            let more = changed_more (owns v p) k q p y b h.page v.changed in
            omega arith;
      }

  -- in a mark turn it is Remembered only where it was taken so
  again : k.lanes ≡ false → times p v.recorded < times p w.recorded → 0 < one_if (page_word s p == 2) + grips_remembered p v.hand
  again turn more =
      let each = r.roles.each (owner k p) in
      let none_holds = r.unheld turn p in
      let mine = total_at (λ (u : View). times (owner k p) u.roles) s.views id v at in
      let two : x ≡ 2 = elim (cases_Bool (x == 2)) [
        | inl on ↦ eqb-true x 2 on
        | inr off ↦ let rt : times p w.recorded ≡ times p v.recorded = ap (λ (b : Bool). times p (if b && owns v p then p ∷ v.recorded else v.recorded)) off in absurd (omega arith)
      ] in
      let on = (others (omega arith)).1 two in
      let one : (if g.remembered then one_if (p == p) else 0) ≡ 1 = flag_is g.remembered p ∙ ap one_if on in
      let a = flag_was p in
      omega arith

  -- it is Remembered where it was in hand so, or the seat recorded it
  noted : 0 < one_if (x == 2) + grips_remembered p w.hand → (0 < one_if (page_word s p == 2) + grips_remembered p v.hand) ⊎ (0 < times p w.recorded)
  noted lt = elim (cases_lt 0 (has_role v (owner k p))) [
    | inl has_it ↦
        let more = recorded_times ((x == 2) && owns v p) p p v.recorded in
        let once = flag_is ((x == 2) && owns v p) p in
        let same = both_on (x == 2) (owns v p) (owning has_it) in
        inr (omega arith)
    | inr le ↦
        let two : x ≡ 2 = one_is x 2 (omega arith) in
        let on = (others (omega arith)).1 two in
        let one : (if g.remembered then one_if (p == p) else 0) ≡ 1 = flag_is g.remembered p ∙ ap one_if on in
        let a = flag_was p in
        inl (omega arith)
  ]

  -- whoever isn't the page's lane returned it
  withheld : withholds k p v + one_if (page_word s p == 4) + one_if (page_word s p == 0) ≤ withholds k p w + one_if (x == 4) + one_if (x == 0)
  withheld = let y4 = word_is 4 (λ e. omega arith) in let y0 = word_is 0 (λ e. omega arith) in elim (cases_lt 0 (has_role v (owner k p))) [
    | inl mine ↦
        let a = foreign_own k p v mine in
        let b : times p w.returned ≡ times p v.returned = ap (λ (b : Bool). times p (if b then v.returned else p ∷ v.returned)) (owning mine) in
        omega arith
    | inr le ↦
        let off : owns v p ≡ false = not_true (owns v p) (not_owning p refl (omega arith)) in
        let a = foreign_few k p v in
        let b : times p w.returned ≡ times p (p ∷ v.returned) = ap (λ (b : Bool). times p (if b then v.returned else p ∷ v.returned)) off in
        let c = grip_is p in
        omega arith
  ]
    where
      not_true : (b : Bool) → (b ≡ true → ⊥) → b ≡ false
      not_true true no_true = absurd (no_true refl)
      not_true false no_true = refl

  give_step : PageStep k s r.rec rec' p x homes id v w
  give_step =
      let slots = r.slots in
      let place = r.place p near in
      let inside = near in
      let facts = r.seats id v at in
      let out = subst (λ (n : ℕ). Lies n (slot s (frame_slot k p)) (slot s (store_slot k p)) (r.rec p)) was_held place.lies in
      let c = grip_is p in
      let one = one_same p in
      let three = three_is in
      let x3 = now_is 3 (λ e. omega arith) (λ e. omega arith) in
      let x4 = now_is 4 (λ e. omega arith) (λ e. omega arith) in
      let x0 = now_is 0 (λ e. omega arith) (λ e. omega arith) in
      let w4 = word_is 4 (λ e. omega arith) in
      let w0 = word_is 0 (λ e. omega arith) in
      let rt = recorded_times ((x == 2) && owns v p) p p v.recorded in
      let rf = flag_is ((x == 2) && owns v p) p in
      let few = both_few (x == 2) (owns v p) in
      let long : length (set s.homes (frame_slot k p) (some (Home h))) ≡ length s.homes = length-set s.homes (frame_slot k p) (some (Home h)) in
      record {
        near = near;
        long = length-set (set s.homes (frame_slot k p) (some (Home h))) (store_slot k p) (some Nothing) ∙ long;
        else_home = λ i a b. set_else (set s.homes (frame_slot k p) (some (Home h))) (store_slot k p) i (some Nothing) b ∙ set_else s.homes (frame_slot k p) i (some (Home h)) a;
        lies = lies_homed x _ _ _ lo hi (
          h,
          set_else (set s.homes (frame_slot k p) (some (Home h))) (store_slot k p) (frame_slot k p) (some Nothing) (λ e. omega arith) ∙ set_here s.homes (frame_slot k p) (some (Home h)) (omega arith),
          set_here (set s.homes (frame_slot k p) (some (Home h))) (store_slot k p) (some Nothing) (omega arith),
          sym same_here,
        );
        frame = λ f.
            let a = given_frame f s.homes (frame_slot k p) (store_slot k p) h (λ e. omega arith) out.0 out.1 in
            let b : frame_in_hand f v.hand ≡ one_if (g.frame == f) = ap (frame_in_hand f) has in
            let d : one_if (h.frame == f) ≡ one_if (g.frame == f) = ap (λ (n : ℕ). one_if (n == f)) frame in
            omega arith;
        grip = omega arith;
        else_grip = λ q ne. sym (grip_is q ∙ one_other p q (λ e. ne (sym e)));
        else_rec = λ q ne. there_is q p h.page (r.rec q) ne;
        lane = lane_kept;
        hands = λ z. absurd (omega arith);
        fixed = subst (IsContent k.opening p) (sym same_here) fixed;
        young = λ y. inr (let e = two_if (young (subst (RefersYoung k.opening p) same_here y)) in omega arith);
        bare = λ z. absurd (omega arith);
        summarised = λ e. absurd (omega arith);
        not_fewer = fewer;
        else_remembered = else_flag;
        again = again;
        put_back = omega arith;
        noted = noted;
        kept = λ lt. omega arith;
        else_recorded = λ q ne. recorded_times ((x == 2) && owns v p) q p v.recorded ∙ (let z = flag_other ((x == 2) && owns v p) p q (λ e. ne (sym e)) in omega arith);
        went = omega arith;
        emptied = omega arith;
        else_fetched = λ q ne. refl;
        else_left = λ q ne. refl;
        else_emptied = λ q ne. refl;
        withheld = inr withheld;
        noted_busy = λ lt. absurd (omega arith);
        else_returned = λ q ne. returned_other (owns v p) q p v.returned ne;
        else_busy = λ q ne. refl;
        stays = λ e. absurd (not_four e);
        fetched_more = omega arith;
        stays_absent = λ e. absurd (let a = was_held in omega arith);
        read_more = λ n. omega arith;
        read_held = λ lt. absurd (omega arith);
        read_away = λ lt. absurd (omega arith);
        else_read = λ q n ne. refl;
        far_read = λ j less. refl;
        count = λ q lt. let a = hand_counted p q in let b = never_four (points k p (rec' p) q) in let c = was_no_four (points k p (r.rec p) q) in omega arith;
        else_count = λ j q ne. sym (hand_counted j q);
        bookmarked = refl;
        put_more = λ q i b. changed_more (owns v p) k q p i b h.page v.changed;
        put_new = λ i b on. elim (cases_lt 0 (has_role v (owner k p))) [
          | inl mine ↦ inr (changed_with (owns v p) k p i b h.page v.changed (owning mine) (subst (λ (c : List ℕ). has_bit_of k p c i b ≡ true) same_here on))
          | inr le ↦ inl (subst (λ (c : List ℕ). has_bit_of k p c i b ≡ true) (lane_kept (omega arith)) on)
        ];
        won = refl;
        known = refl;
        finished = refl;
        left_marked = λ e. absurd (omega arith);
        marking = marking_kept;
        targets = targets_now;
        roles = refl;
        seated = record {
          about = facts.seated.about;
          idle = λ e. let z : has_role v role ≡ 0 = ap (times role) e in absurd (omega arith);
        };
        records = records_kept;
        saw = saw_kept k s p x homes id v w at wide fewer else_flag refl refl refl refl (λ e. absurd (not_four e)) (λ q lt. absurd (omega arith)) facts.saw;
      }

  pub give_rule : Rule k (after s p x homes id w)
  give_rule = page_step k s r rec' p x homes id v w at give_step

abbrev second : List (ℕ × Lodged) → Lodged
second [] = Nothing
second (y ∷ ys) = y.1

home_is : (a b : Homed) → Home a ≡ Home b → a ≡ b
home_is a b e = cc

pub first_homed : (p q : ℕ) (a b : Homed) (l m : List (ℕ × Lodged)) → (p, Home a) ∷ l ≡ (q, Home b) ∷ m → a ≡ b
first_homed p q a b l m e = home_is a b (ap second e)

-- whatever the table is, putting a page back keeps the rule
pub gave : (k : Key) (slots id x role : ℕ) (v : View) (g : Hand) (h : Homed) → 1 ≤ x → x ≤ 2 → v.about ≡ k → v.hand ≡ Some g → 0 < has_role v role → h.frame ≡ g.frame
    → IsContent k.opening g.page h.page → (RefersYoung k.opening g.page h.page → x ≡ 2) → (g.remembered ≡ true → x ≡ 2)
    → (has_role v (owner k g.page) ≡ 0 → (h.page ≡ g.content) × (x ≡ 2 → g.remembered ≡ true)) → g.counted ≡ [] → g.marked ≡ []
    → Allows (Ruled k) slots id (v, both_slots k g.page (Home h) Nothing) (page_at g.page) (λ _. x)
    (λ _. Gave (step slots (page_at g.page) x 0 maybe.none) (v, both_slots k g.page (Home h) Nothing))
gave k slots id x role v g h lo hi about has some_role frame fixed young flag others uncounted unmarked s r size at fits = (
  released v g.page (x == 2) h.page,
  chain gives gives,
  (tt, tt),
  record {
    facts = give_rule k s r.facts id x role v g h at lo hi about has some_role frame fixed young flag others uncounted unmarked;
    claims = let near = ((r.facts.seats id v at).records.in_hand g has).0 in claims_aside k s _ _ id _ _ _ at (λ e. omega arith) refl r.claims;
    owing = λ turn. let near = ((r.facts.seats id v at).records.in_hand g has).0 in let held = held_word k s r.facts id v at g has near in owing_page k s g.page _ _ id v _ at near r.facts.words (λ _ _. (omega arith, omega arith)) refl refl refl (r.owing turn);
  },
  record {
    slots = refl;
    view = λ q z is e. ap (λ (y : Homed). released v g.page (x == 2) y.page) (first_homed (home_slot g.page) (home_slot q) h z _ _ e) ∙ ap (λ (n : ℕ). released v n (x == 2) z.page) (same_page g.page q is);
  },
)

pub gives_from : (k : Key) (slots id x role : ℕ) (me : Mine) (v : View) (g : Hand) (h : Homed) (p i : ℕ) → i ≡ page_at p → me ≡ (v, both_slots k p (Home h) Nothing) → g.page ≡ p → 1 ≤ x → x ≤ 2
    → v.about ≡ k → v.hand ≡ Some g → 0 < has_role v role → h.frame ≡ g.frame
    → IsContent v.about.opening p h.page → (RefersYoung v.about.opening p h.page → x ≡ 2) → (g.remembered ≡ true → x ≡ 2)
    → (has_role v (owner v.about p) ≡ 0 → (h.page ≡ g.content) × (x ≡ 2 → g.remembered ≡ true)) → g.counted ≡ [] → g.marked ≡ []
    → Allows (Ruled k) slots id me i (λ _. x) (λ _. Gave (step slots i x 0 maybe.none) me)
gives_from k slots id x role me v g h p i entry is page lo hi about has some_role frame fixed young flag others uncounted unmarked =
    subst (λ (j : ℕ). Allows (Ruled k) slots id me j (λ _. x) (λ _. Gave (step slots j x 0 maybe.none) me)) (sym entry)
    (subst (λ (m : Mine). Allows (Ruled k) slots id m (page_at p) (λ _. x) (λ _. Gave (step slots (page_at p) x 0 maybe.none) m)) (sym is)
    (subst (λ (q : ℕ). Allows (Ruled k) slots id (v, both_slots k q (Home h) Nothing) (page_at q) (λ _. x) (λ _. Gave (step slots (page_at q) x 0 maybe.none) (v, both_slots k q (Home h) Nothing))) page
    (gave k slots id x role v g h lo hi about has some_role frame
    (subst (λ (q : ℕ). IsContent k.opening q h.page) (sym page) (subst (λ (a : Key). IsContent a.opening p h.page) about fixed))
    (λ y. young (subst (λ (a : Key). RefersYoung a.opening p h.page) (sym about) (subst (λ (q : ℕ). RefersYoung k.opening q h.page) page y)))
    flag
    (λ z. others (subst (λ (a : Key). has_role v (owner a p) ≡ 0) (sym about) (subst (λ (q : ℕ). has_role v (owner k q) ≡ 0) page z))) uncounted unmarked)))

-- a view that is tidy stays so when a page was put back
pub tidy_released : (v : View) (p : ℕ) (b : Bool) (c : List ℕ) → IsTidy v → IsTidy (released v p b c)
tidy_released v p b c old q none_has =
    let was = old q none_has in
    let now = changed_entries (owns v p) q p c v.changed in
    elim (cases_eq q p) [
      | inl e ↦ elim (cases_Bool (owns v p)) [
        | inl on ↦
            let a : 0 < has_role v (owner v.about p) = ltb-true 0 _ on in
            let z : has_role v (owner v.about p) ≡ 0 = subst (λ (n : ℕ). has_role v (owner v.about n) ≡ 0) e none_has in
            absurd (omega arith)
        | inr off ↦ let a : (if owns v p then one_if (p == q) else 0) ≡ 0 = ap (λ (b : Bool). if b then one_if (p == q) else 0) off in omega arith
      ]
      | inr ne ↦ let a = flag_other (owns v p) p q (λ e. ne (sym e)) in omega arith
    ]
