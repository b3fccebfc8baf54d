-- What a step on a page word owes, and that the rule then holds after it: the frame lemma of the page words.
use Rattle.std.proofs.Common.{true, ◌≡◌, ℕ, ◌+◌, ◌<◌, ◌≤◌, ◌*◌, ◌/◌, ◌%◌, ◌≢◌, ◌==◌, ◌&&◌, ◌⊎◌, nat_lt, List, length, set, if◌then◌else◌, Some, inl, inr, ap, sym, subst, ◌∙◌, arith, get_or-set_same, get_or-set_other, Bool, [], ◌∷◌, false}
use mathlib.Core.Option.{some}
use mathlib.Core.Option as maybe
use lib.ListN.{get_elem?}
use Rattle.std.proofs.lemmas.Bool.{cases_eq, cases_lt, eq-eqb, ne_eqb}
use Rattle.std.proofs.lemmas.List.{length-set}
use Rattle.atomic_table.proofs.Lists.{at_set}
use Rattle.bc_bits.specs.Counting.{one_if}
use Rattle.bc_word.specs.Addresses.{page_of}
use Rattle.bc_pins.specs.declared.views.Lodged.{Lodged}
use Rattle.bc_pins.specs.declared.views.Hand.{Hand}
use Rattle.bc_pins.specs.declared.views.View.{View}
use Rattle.bc_pins.specs.Key.{Key, pages_of, owner, counter_at, bookmark_at, frame_at, notice_at, mark_at, finished_at, page_at, pages_end, frame_slot, store_slot}
use Rattle.std.specs.Int.{bit_at}
use Rattle.bc_pins.specs.Totals.{total, times}
use Rattle.bc_pins.specs.Contents.{IsContent, RefersYoung, IsBarePage}
use Rattle.bc_pins.specs.Views.{grips, grips_remembered, frame_in_hand, counted_for, sets_bit, has_role, withholds, reads_of, reads_as, opened_content, sets_for, marked_for}
use Rattle.bc_pins.specs.Facts.{Table, word, Lies, Place, remembered_now, Summary, Content, Standing, RecordsContent, Saw, Seated, Marking, Roles, frame_lodged, Frames, points, adds_to, Counters, bookmark_bit, is_clear, Bits, page_word, IsBitOfTarget, MarksTargets, HasBookmarkBit, fetched_ever, had_with, has_bit_of, puts_with}
use Rattle.bc_pins.specs.Tracing.{RefersToCell, HasMarkBit, tells, Knows}
use Rattle.bc_pins.specs.Rule.{SeatFacts, Rule}
use Rattle.bc_pins.proofs.TotalLemmas.{total_set, total_at, total_only, total_two, one_few, one_is}
use Rattle.bc_pins.proofs.SumLemmas.{sum_same}
use Rattle.bc_pins.proofs.MarkedLemmas.{summary_more}
use Rattle.bc_pins.proofs.TracingLemmas.{leads_bookmarked, KeepsMarks, keeps_set, knows_stay, knows_read, tracing_kept}
use Rattle.bc_pins.proofs.WithholdLemmas.{foreign_same}

-- the table after a step of seat id on the word of page p
abbrev pub after : Table → ℕ → ℕ → List (maybe.Option Lodged) → ℕ → View → Table
after s p x homes id w = record { words = set s.words (page_at p) x; homes = homes; views = set s.views id w }

-- what such a step owes: p's word becomes x, and the seat's view v becomes w
pub record PageStep (k : Key) (s : Table) (rec rec' : ℕ → List ℕ) (p x : ℕ) (homes : List (maybe.Option Lodged)) (id : ℕ) (v w : View) : Type 0 where
  pub near : p < pages_of k
  -- slots
  pub long : length homes ≡ length s.homes
  pub else_home : (i : ℕ) → i ≢ frame_slot k p → i ≢ store_slot k p → get_elem? homes i ≡ get_elem? s.homes i
  pub lies : Lies x (get_elem? homes (frame_slot k p)) (get_elem? homes (store_slot k p)) (rec' p)
  pub frame : (f : ℕ) → total (frame_lodged f) homes + (frame_in_hand f w.hand + times f w.rights) ≡ total (frame_lodged f) s.homes + (frame_in_hand f v.hand + times f v.rights)
  -- what is in hand
  pub grip : grips p w.hand + one_if (page_word s p == 3) ≡ grips p v.hand + one_if (x == 3)
  pub else_grip : (q : ℕ) → q ≢ p → grips q w.hand ≡ grips q v.hand
  -- records
  pub else_rec : (q : ℕ) → q ≢ p → rec' q ≡ rec q
  pub lane : has_role v (owner k p) ≡ 0 → rec' p ≡ rec p
  pub hands : grips p v.hand ≡ 0 → rec' p ≡ rec p
  pub fixed : IsContent k.opening p (rec' p)
  pub young : RefersYoung k.opening p (rec' p) → RefersYoung k.opening p (rec p) ⊎ (0 < one_if (x == 2) + grips_remembered p w.hand)
  pub bare : x ≡ 0 → IsBarePage k.opening p
  pub summarised : x ≡ 4 → Summary k s.words p (rec' p)
  -- remembered
  pub not_fewer : one_if (page_word s p == 2) + grips_remembered p v.hand ≤ one_if (x == 2) + grips_remembered p w.hand
  pub else_remembered : (q : ℕ) → q ≢ p → grips_remembered q w.hand ≡ grips_remembered q v.hand
  pub again : k.lanes ≡ false → times p v.recorded < times p w.recorded → 0 < one_if (page_word s p == 2) + grips_remembered p v.hand
  pub put_back : times p v.recorded ≤ times p w.recorded
  pub noted : 0 < one_if (x == 2) + grips_remembered p w.hand → (0 < one_if (page_word s p == 2) + grips_remembered p v.hand) ⊎ (0 < times p w.recorded)
  pub kept : times p v.recorded < times p w.recorded → 0 < one_if (x == 2) + grips_remembered p w.hand
  pub else_recorded : (q : ℕ) → q ≢ p → times q w.recorded ≡ times q v.recorded
  -- gone and absent
  pub went : one_if (x == 4) + times p w.fetched + times p v.left ≡ one_if (page_word s p == 4) + times p v.fetched + times p w.left
  pub emptied : one_if (x == 0) + times p v.emptied ≡ one_if (page_word s p == 0) + times p w.emptied
  pub else_fetched : (q : ℕ) → q ≢ p → times q w.fetched ≡ times q v.fetched
  pub else_left : (q : ℕ) → q ≢ p → times q w.left ≡ times q v.left
  pub else_emptied : (q : ℕ) → q ≢ p → times q w.emptied ≡ times q v.emptied
  -- kept from its lane
  pub withheld : ((times p w.busy ≡ 0) × (0 < has_role v (owner k p)))
      ⊎ (withholds k p v + one_if (page_word s p == 4) + one_if (page_word s p == 0) ≤ withholds k p w + one_if (x == 4) + one_if (x == 0))
  pub noted_busy : times p v.busy < times p w.busy → 0 < total (withholds k p) s.views
  pub else_returned : (q : ℕ) → q ≢ p → times q w.returned ≡ times q v.returned
  pub else_busy : (q : ℕ) → q ≢ p → times q w.busy ≡ times q v.busy
  -- none is taken from Absent, and from Gone by its lane alone, or where no lane holds it
  pub stays : page_word s p ≡ 4 → (x ≡ 4) ⊎ (((0 < has_role v (owner k p)) ⊎ (owner k p ≡ 0)) × (times p v.fetched < times p w.fetched))
  pub fetched_more : times p v.fetched ≤ times p w.fetched
  pub stays_absent : page_word s p ≡ 0 → x ≡ 0
  -- what its word was read as
  pub read_more : (n : ℕ) → reads_as p n v ≤ reads_as p n w
  pub read_held : reads_as p 3 v < reads_as p 3 w → 0 < total (reads_as p 1) s.views + total (reads_as p 2) s.views + fetched_ever s p
  pub read_away : reads_as p 0 v + reads_as p 2 v + reads_as p 4 v < reads_as p 0 w + reads_as p 2 w + reads_as p 4 w → (x ≡ 0) ⊎ ((x ≡ 4) ⊎ (0 < one_if (x == 2) + grips_remembered p w.hand + times p w.fetched))
  pub else_read : (q n : ℕ) → q ≢ p → reads_as q n w ≡ reads_as q n v
  pub far_read : (j : ℕ) → notice_at k < j → reads_of j w.read ≡ reads_of j v.read
  -- counters and bits
  pub count : (q : ℕ) → q < k.supers → (if x == 4 then points k p (rec' p) q else 0) + counted_for p q w.hand ≡ (if page_word s p == 4 then points k p (rec p) q else 0) + counted_for p q v.hand
  pub else_count : (r q : ℕ) → r ≢ p → counted_for r q w.hand ≡ counted_for r q v.hand
  pub bookmarked : w.bookmarked ≡ v.bookmarked
  -- contents: none is forgotten, and a new record was put back
  pub put_more : (q i b : ℕ) → puts_with k q i b v.changed ≤ puts_with k q i b w.changed
  pub put_new : (i b : ℕ) → has_bit_of k p (rec' p) i b ≡ true → (has_bit_of k p (rec p) i b ≡ true) ⊎ (0 < puts_with k p i b w.changed)
  -- marks
  pub won : w.won ≡ v.won
  pub known : w.known ≡ v.known
  pub finished : w.finished ≡ v.finished
  pub left_marked : x ≡ 4 → page_word s p ≢ 4 → k.lanes ≡ false → (a b : ℕ) → page_of a ≡ p → RefersToCell k.opening a b → HasMarkBit k s.words b
  -- the seat
  pub marking : Marking w
  pub targets : MarksTargets k (after s p x homes id w) rec' w
  pub roles : w.roles ≡ v.roles
  pub seated : Seated k w
  pub records : RecordsContent k rec' w
  pub saw : Saw k (after s p x homes id w) w

-- a bit that was set for a page
pub sets_marked : (p w b : ℕ) (l : List (ℕ × ℕ × ℕ)) → 0 < sets_for p w b l → 0 < marked_for p l
sets_marked p w b [] lt = absurd (omega arith)
sets_marked p w b (e ∷ l) lt = elim (cases_eq e.0 p) [
  | inl is ↦ let a : one_if (e.0 == p) ≡ 1 = ap one_if (eq-eqb e.0 p is) in omega arith
  | inr ne ↦
      let a : (if (e.0 == p) && (e.1 == w) then bit_at e.2 b else 0) ≡ 0 = ap (λ (c : Bool). if c && (e.1 == w) then bit_at e.2 b else 0) (ne_eqb e.0 p ne) in
      let c = sets_marked p w b l (omega arith) in
      omega arith
]

-- a page that a seat made Gone is Gone, where none has taken it from Gone
pub left_gone : (k : Key) (s : Table) (r : Rule k s) (p j : ℕ) (u : View) → get_elem? s.views j ≡ some u → p < pages_of k → 0 < times p u.left → fetched_ever s p ≡ 0 → page_word s p ≡ 4
left_gone k s r p j u is near lt none_fetched =
    let gone = (r.standing p near).gone in
    let mine = total_at (λ (z : View). times p z.left) s.views j u is in
    one_is (page_word s p) 4 (omega arith)

module _ (k : Key) (s : Table) (r : Rule k s) (rec' : ℕ → List ℕ) (p x : ℕ) (homes : List (maybe.Option Lodged)) (id : ℕ) (v w : View) (at : get_elem? s.views id ≡ some v) (d : PageStep k s r.rec rec' p x homes id v w) where
  abbrev t : Table
  t = after s p x homes id w

  sum : (f : View → ℕ) → total f t.views + f v ≡ total f s.views + f w
  sum f = total_set f s.views id v w at

  here : page_word t p ≡ x
  here = let long = r.words in let near = d.near in get_or-set_same s.words (page_at p) x 0 (omega arith)

  there : (q : ℕ) → q ≢ p → page_word t q ≡ page_word s q
  there q ne = get_or-set_other s.words (page_at p) (page_at q) x 0 (λ e. ne (omega arith))

  at_page : (F : ℕ → Type 0) → F p → ((q : ℕ) → q ≢ p → F q) → (q : ℕ) → F q
  at_page F a b q = elim (cases_eq q p) [ inl e ↦ subst F (sym e) a | inr ne ↦ b q ne ]

  same_sum : (f : View → ℕ) → f w ≡ f v → total f t.views ≡ total f s.views
  same_sum f e = let c = sum f in omega arith

  else_now : (q : ℕ) → q ≢ p → remembered_now t q ≡ remembered_now s q
  else_now q ne =
      let a : one_if (page_word t q == 2) ≡ one_if (page_word s q == 2) = ap (λ (n : ℕ). one_if (n == 2)) (there q ne) in
      let b = same_sum (λ u. grips_remembered q u.hand) (d.else_remembered q ne) in
      omega arith

  here_now : remembered_now t p + grips_remembered p v.hand ≡ one_if (x == 2) + (total (λ (u : View). grips_remembered p u.hand) s.views + grips_remembered p w.hand)
  here_now =
      let a : one_if (page_word t p == 2) ≡ one_if (x == 2) = ap (λ (n : ℕ). one_if (n == 2)) here in
      let b = sum (λ u. grips_remembered p u.hand) in
      omega arith

  grown : (q : ℕ) → remembered_now s q ≤ remembered_now t q
  grown = at_page (λ q. remembered_now s q ≤ remembered_now t q)
      (let a = here_now in let b = d.not_fewer in omega arith)
      (λ q ne. let a = else_now q ne in omega arith)

  held_by : 0 < one_if (x == 2) + grips_remembered p w.hand → 0 < remembered_now t p
  held_by lt =
      let a = here_now in
      let b = total_at (λ (u : View). grips_remembered p u.hand) s.views id v at in
      omega arith

  far : (i : ℕ) → pages_end k ≤ i → word t i ≡ word s i
  far i le = let near = d.near in get_or-set_other s.words (page_at p) i x 0 (λ e. omega arith)

  summary_kept : (q : ℕ) (c : List ℕ) → Summary k s.words q c → Summary k t.words q c
  summary_kept q c = summary_more k s.words t.words q c (λ i b less e. ap (λ (n : ℕ). bit_at n b) (far (bookmark_at k i) (omega arith)) ∙ e)

  -- none is fewer times taken from Gone
  fetched_grows : (q : ℕ) → fetched_ever s q ≤ fetched_ever t q
  fetched_grows = at_page (λ q. fetched_ever s q ≤ fetched_ever t q)
      (let a = sum (λ u. times p u.fetched) in let b = d.fetched_more in omega arith)
      (λ q ne. let a = same_sum (λ u. times q u.fetched) (d.else_fetched q ne) in omega arith)

  -- and none of its contents is forgotten
  had_grows : (q i b : ℕ) → had_with k s q i b ≤ had_with k t q i b
  had_grows q i b =
      let a = sum (λ u. puts_with k q i b u.changed) in
      let c = d.put_more q i b in
      let e = total_at (λ (u : View). puts_with k q i b u.changed) s.views id v at in
      omega arith

  had_here : (i b : ℕ) → 0 < puts_with k p i b w.changed → 0 < had_with k t p i b
  had_here i b lt =
      let a = sum (λ u. puts_with k p i b u.changed) in
      let e = total_at (λ (u : View). puts_with k p i b u.changed) s.views id v at in
      omega arith

  place_there : (q : ℕ) → q ≢ p → q < pages_of k → Place k t rec' q
  place_there q ne lt =
      let old = r.place q lt in
      let near = d.near in
      let first : get_elem? homes (frame_slot k q) ≡ get_elem? s.homes (frame_slot k q) = d.else_home (frame_slot k q) (λ e. ne (omega arith)) (λ e. omega arith) in
      let second : get_elem? homes (store_slot k q) ≡ get_elem? s.homes (store_slot k q) = d.else_home (store_slot k q) (λ e. omega arith) (λ e. ne (omega arith)) in
      let lies : Lies (page_word t q) (get_elem? homes (frame_slot k q)) (get_elem? homes (store_slot k q)) (rec' q) = rw (there q ne, first, second, d.else_rec q ne) old.lies in
      let a : one_if (page_word t q == 3) ≡ one_if (page_word s q == 3) = ap (λ (n : ℕ). one_if (n == 3)) (there q ne) in
      let b = same_sum (λ u. grips q u.hand) (d.else_grip q ne) in
      let held = old.held in
      record { lies = lies; held = omega arith }

  place_here : p < pages_of k → Place k t rec' p
  place_here lt =
      let old = r.place p lt in
      let a : one_if (page_word t p == 3) ≡ one_if (x == 3) = ap (λ (n : ℕ). one_if (n == 3)) here in
      let b = sum (λ u. grips p u.hand) in
      let c = d.grip in
      let held = old.held in
      record { lies = rw here d.lies; held = omega arith }

  content_there : (q : ℕ) → q ≢ p → q < pages_of k → Content k t rec' q
  content_there q ne lt =
      let old = r.content q lt in
      let same = d.else_rec q ne in
      let more = grown q in
      record {
        fixed = rw same old.fixed;
        young = λ y. let was = old.young (subst (λ c. RefersYoung k.opening q c) same y) in omega arith;
        bare = λ z. old.bare (sym (there q ne) ∙ z);
        gone = λ e. summary_kept q (rec' q) (subst (Summary k s.words q) (sym same) (old.gone (sym (there q ne) ∙ e)));
        had = λ i b on. let was = old.had i b (subst (λ c. has_bit_of k q c i b ≡ true) same on) in let c = had_grows q i b in omega arith;
      }

  content_here : p < pages_of k → Content k t rec' p
  content_here lt = record {
    fixed = d.fixed;
    young = λ y. elim (d.young y) [ inl was ↦ let a = (r.content p lt).young was in let b = grown p in omega arith | inr now ↦ held_by now ];
    bare = λ z. d.bare (sym here ∙ z);
    gone = λ e. summary_kept p (rec' p) (d.summarised (sym here ∙ e));
    had = λ i b on. elim (d.put_new i b on) [ inl was ↦ let a = (r.content p lt).had i b was in let c = had_grows p i b in omega arith | inr new ↦ had_here i b new ];
  }

  withheld_else : (q : ℕ) → q ≢ p → withholds k q w ≡ withholds k q v
  withheld_else q ne =
      let a = foreign_same k q v w (d.else_grip q ne) d.roles in
      let b = d.else_returned q ne in
      omega arith

  held_there : (q : ℕ) → q ≢ p → q < pages_of k → 0 < total (reads_as q 3) t.views → 0 < total (reads_as q 1) t.views + total (reads_as q 2) t.views + fetched_ever t q
  held_there q ne near lt =
      let one = same_sum (reads_as q 1) (d.else_read q 1 ne) in
      let two = same_sum (reads_as q 2) (d.else_read q 2 ne) in
      let three = same_sum (reads_as q 3) (d.else_read q 3 ne) in
      let grows = fetched_grows q in
      let a = (r.standing q near).held (omega arith) in
      omega arith

  away_there : (q : ℕ) → q ≢ p → q < pages_of k → 0 < total (reads_as q 0) t.views + total (reads_as q 2) t.views + total (reads_as q 4) t.views → (page_word t q ≡ 0) ⊎ ((page_word t q ≡ 4) ⊎ (0 < remembered_now t q + fetched_ever t q))
  away_there q ne near lt =
      let none_is = same_sum (reads_as q 0) (d.else_read q 0 ne) in
      let two = same_sum (reads_as q 2) (d.else_read q 2 ne) in
      let four = same_sum (reads_as q 4) (d.else_read q 4 ne) in
      let grows = fetched_grows q in
      let now = else_now q ne in
      elim ((r.standing q near).away (omega arith)) [
        | inl e ↦ inl (there q ne ∙ e)
        | inr other ↦ elim other [ inl e ↦ inr (inl (there q ne ∙ e)) | inr was ↦ inr (inr (omega arith)) ]
      ]

  standing_there : (q : ℕ) → q ≢ p → q < pages_of k → Standing k t q
  standing_there q ne near =
      let old = r.standing q near in
      let now = else_now q ne in
      let ever = same_sum (λ u. times q u.recorded) (d.else_recorded q ne) in
      let f = same_sum (λ u. times q u.fetched) (d.else_fetched q ne) in
      let l = same_sum (λ u. times q u.left) (d.else_left q ne) in
      let e = same_sum (λ u. times q u.emptied) (d.else_emptied q ne) in
      let four : one_if (page_word t q == 4) ≡ one_if (page_word s q == 4) = ap (λ (n : ℕ). one_if (n == 4)) (there q ne) in
      let zeros : one_if (page_word t q == 0) ≡ one_if (page_word s q == 0) = ap (λ (n : ℕ). one_if (n == 0)) (there q ne) in
      let busy = same_sum (λ u. times q u.busy) (d.else_busy q ne) in
      let kept_from = same_sum (withholds k q) (withheld_else q ne) in
      let gone = old.gone in
      let absent = old.absent in
      record {
        remembered = λ lt. let a = old.remembered (omega arith) in omega arith;
        recorded = λ lt. let a = old.recorded (omega arith) in omega arith;
        as_opened = λ turn lt. old.as_opened turn (omega arith);
        gone = omega arith;
        absent = omega arith;
        busy = λ lt. let a = old.busy (omega arith) in omega arith;
        held = held_there q ne near;
        away = away_there q ne near;
      }

  -- none but its lane notes a page as busy
  busy_alone : 0 < has_role v (owner k p) → total (λ (u : View). times p u.busy) s.views ≡ times p v.busy
  busy_alone mine = total_only (λ (u : View). times p u.busy) s.views id v at (λ j u ne is. elim (cases_lt 0 (times p u.busy)) [
    | inl some_busy ↦ absurd (
        let theirs = (r.seats j u is).saw.busy p some_busy in
        let two = total_two (λ (z : View). times (owner k p) z.roles) s.views j id u v ne is at in
        let each = r.roles.each (owner k p) in
        let apart = r.roles.apart (owner k p) in
        omega arith)
    | inr none_busy ↦ omega arith
  ])

  busy_here : p < pages_of k → 0 < total (λ (u : View). times p u.busy) t.views → 0 < total (withholds k p) t.views + one_if (page_word t p == 4) + one_if (page_word t p == 0)
  busy_here near lt =
      let noted = sum (λ u. times p u.busy) in
      let kept_from = sum (withholds k p) in
      let own = total_at (withholds k p) s.views id v at in
      let four : one_if (page_word t p == 4) ≡ one_if (x == 4) = ap (λ (n : ℕ). one_if (n == 4)) here in
      let zeros : one_if (page_word t p == 0) ≡ one_if (x == 0) = ap (λ (n : ℕ). one_if (n == 0)) here in
      elim d.withheld [
        | inl none_left ↦ absurd (let alone = busy_alone none_left.1 in let z = none_left.0 in omega arith)
        | inr more ↦ elim (cases_lt (times p v.busy) (times p w.busy)) [
          | inl newly ↦ let a = d.noted_busy newly in omega arith
          | inr before ↦ let a = (r.standing p near).busy (omega arith) in omega arith
        ]
      ]

  -- it was read as Held by one who may not have it, while another does, who took it
  held_here : p < pages_of k → 0 < total (reads_as p 3) t.views → 0 < total (reads_as p 1) t.views + total (reads_as p 2) t.views + fetched_ever t p
  held_here near lt =
      let one = sum (reads_as p 1) in
      let two = sum (reads_as p 2) in
      let three = sum (reads_as p 3) in
      let more = d.read_more 1 in
      let and_more = d.read_more 2 in
      let grows = fetched_grows p in
      elim (cases_lt (reads_as p 3 v) (reads_as p 3 w)) [
        | inl newly ↦ let a = d.read_held newly in omega arith
        | inr before ↦ let a = (r.standing p near).held (omega arith) in omega arith
      ]

  away_here : p < pages_of k → 0 < total (reads_as p 0) t.views + total (reads_as p 2) t.views + total (reads_as p 4) t.views → (page_word t p ≡ 0) ⊎ ((page_word t p ≡ 4) ⊎ (0 < remembered_now t p + fetched_ever t p))
  away_here near lt =
      let own_fetched = total_at (λ (u : View). times p u.fetched) s.views id v at in
      let grows = fetched_grows p in
      let none_is = sum (reads_as p 0) in
      let two = sum (reads_as p 2) in
      let four = sum (reads_as p 4) in
      let more = grown p in
      elim (cases_lt (reads_as p 0 v + reads_as p 2 v + reads_as p 4 v) (reads_as p 0 w + reads_as p 2 w + reads_as p 4 w)) [
        | inl newly ↦ elim (d.read_away newly) [
          | inl e ↦ inl (here ∙ e)
          | inr other ↦ elim other [
            | inl e ↦ inr (inl (here ∙ e))
            | inr now ↦ inr (inr (elim (cases_lt 0 (times p w.fetched)) [
              | inl fetched ↦ let a = sum (λ u. times p u.fetched) in let b = own_fetched in omega arith
              | inr none_has ↦ let a = held_by (omega arith) in omega arith
            ]))
          ]
        ]
        | inr before ↦ elim ((r.standing p near).away (omega arith)) [
          | inl e ↦ inl (here ∙ d.stays_absent e)
          | inr other ↦ elim other [
            | inl e ↦ elim (d.stays e) [ inl still ↦ inr (inl (here ∙ still)) | inr taken ↦ let a = sum (λ u. times p u.fetched) in let b = own_fetched in let c = taken.1 in inr (inr (omega arith)) ]
            | inr was ↦ inr (inr (omega arith))
          ]
        ]
      ]

  standing_here : p < pages_of k → Standing k t p
  standing_here lt =
      let old = r.standing p lt in
      let now = here_now in
      let more = grown p in
      let ever = sum (λ u. times p u.recorded) in
      let back = d.put_back in
      let f = sum (λ u. times p u.fetched) in
      let l = sum (λ u. times p u.left) in
      let e = sum (λ u. times p u.emptied) in
      let four : one_if (page_word t p == 4) ≡ one_if (x == 4) = ap (λ (n : ℕ). one_if (n == 4)) here in
      let zeros : one_if (page_word t p == 0) ≡ one_if (x == 0) = ap (λ (n : ℕ). one_if (n == 0)) here in
      let went = d.went in
      let emptied = d.emptied in
      let gone = old.gone in
      let absent = old.absent in
      let own = total_at (λ (u : View). times p u.recorded) s.views id v at in
      let grip = total_at (λ (u : View). grips_remembered p u.hand) s.views id v at in
      record {
        remembered = λ lt. elim (cases_lt (times p v.recorded) (times p w.recorded)) [
          | inl newly ↦ held_by (d.kept newly)
          | inr before ↦ let a = old.remembered (omega arith) in omega arith
        ];
        recorded = λ lt. elim (cases_lt 0 (remembered_now s p)) [
          | inl was ↦ let a = old.recorded was in omega arith
          | inr none_was ↦ elim (d.noted (omega arith)) [
            | inl a ↦ omega arith
            | inr b ↦ omega arith
          ]
        ];
        as_opened = λ turn lt. elim (cases_lt (times p v.recorded) (times p w.recorded)) [
          | inl newly ↦ let flagged = d.again turn newly in let was = old.recorded (omega arith) in old.as_opened turn was
          | inr before ↦ old.as_opened turn (omega arith)
        ];
        gone = omega arith;
        absent = omega arith;
        busy = busy_here lt;
        held = held_here lt;
        away = away_here lt;
      }

  -- another view
  lane_else : (j : ℕ) (u : View) → j ≢ id → get_elem? s.views j ≡ some u → (q : ℕ) → 0 < has_role u (owner k q) → rec' q ≡ r.rec q
  lane_else j u ne is q mine = elim (cases_eq q p) [
    | inl e ↦
        let two = total_two (λ (z : View). times (owner k q) z.roles) s.views j id u v ne is at in
        let each = r.roles.each (owner k q) in
        let apart = r.roles.apart (owner k q) in
        let nothing : has_role v (owner k q) ≡ 0 = omega arith in
        subst (λ (n : ℕ). rec' n ≡ r.rec n) (sym e) (d.lane (subst (λ (n : ℕ). has_role v (owner k n) ≡ 0) e nothing))
    | inr other ↦ d.else_rec q other
  ]

  hand_else : (j : ℕ) (u : View) → j ≢ id → get_elem? s.views j ≡ some u → (h : Hand) → u.hand ≡ Some h → h.page < pages_of k → rec' h.page ≡ r.rec h.page
  hand_else j u ne is h has lt = elim (cases_eq h.page p) [
    | inl e ↦
        let two = total_two (λ (z : View). grips p z.hand) s.views j id u v ne is at in
        let held = (r.place p d.near).held in
        let mine : grips p u.hand ≡ 1 = ap (grips p) has ∙ ap one_if (eq-eqb h.page p e) in
        let few = one_few (page_word s p == 3) in
        subst (λ (n : ℕ). rec' n ≡ r.rec n) (sym e) (d.hands (omega arith))
    | inr other ↦ d.else_rec h.page other
  ]

  -- a page of another seat's lane
  word_four : (j : ℕ) (u : View) → j ≢ id → get_elem? s.views j ≡ some u → (q : ℕ) → 0 < has_role u (owner k q) → page_word s q ≡ 4 → page_word t q ≡ 4
  word_four j u ne is q mine four = elim (cases_eq q p) [
    | inl e ↦ elim (d.stays (ap (page_word s) (sym e) ∙ four)) [
      | inl still ↦ ap (page_word t) e ∙ here ∙ still
      | inr taken ↦ absurd (
          let two = total_two (λ (z : View). times (owner k p) z.roles) s.views j id u v ne is at in
          let each = r.roles.each (owner k p) in
          let apart = r.roles.apart (owner k p) in
          let same : 0 < has_role u (owner k p) = subst (λ (n : ℕ). 0 < has_role u (owner k n)) e mine in
          elim taken.0 [
            | inl has_it ↦ omega arith
            | inr nobody ↦ absurd (
                let none_has : times (owner k p) k.roles ≡ 0 = ap (λ (n : ℕ). times n k.roles) nobody ∙ r.roles.nobody in
                omega arith)
          ])
    ]
    | inr other ↦ there q other ∙ four
  ]

  -- a page that another seat bookmarked has left, and isn't in this one's hands
  targets_else : (j : ℕ) (u : View) → j ≢ id → get_elem? s.views j ≡ some u → MarksTargets k t rec' u
  targets_else j u ne is = record {
    each = λ q w b few on.
        let was = (r.seats j u is).targets.each q w b few on in (
          was.0,
          λ none_fetched.
              let grows = fetched_grows q in
              let none_before : fetched_ever s q ≡ 0 = omega arith in
              subst (λ (c : List ℕ). IsBitOfTarget k q c w b) (sym (elim (cases_eq q p) [
                | inl e ↦ subst (λ (n : ℕ). rec' n ≡ r.rec n) (sym e) (d.hands (elim (cases_lt 0 (grips p v.hand)) [
                  | inl has ↦ absurd (
                      let held = (r.place p d.near).held in
                      let two = total_two (λ (z : View). grips p z.hand) s.views j id u v ne is at in
                      let few_held = one_few (page_word s p == 3) in
                      elim ((r.seats j u is).marking.whose p (subst (λ (n : ℕ). 0 < marked_for n u.bookmarked) e (sets_marked q w b u.bookmarked on))) [
                        | inl gripped ↦ omega arith
                        | inr gone ↦
                            let four = left_gone k s r p j u is d.near gone (subst (λ (n : ℕ). fetched_ever s n ≡ 0) e none_before) in
                            let three : one_if (page_word s p == 3) ≡ 0 = ap (λ (n : ℕ). one_if (n == 3)) four in
                            omega arith
                      ])
                  | inr none_has ↦ omega arith
                ]))
                | inr other ↦ d.else_rec q other
              ])) (was.1 none_before),
        );
    had = λ q w b few on. let was = (r.seats j u is).targets.had q w b few on in let c = had_grows q w b in omega arith;
  }

  unowned_kept : (q : ℕ) → times (owner k q) k.roles ≡ 0 → rec' q ≡ opened_content k q
  unowned_kept q none_has = elim (cases_eq q p) [
    | inl e ↦
        let mine = total_at (λ (z : View). times (owner k q) z.roles) s.views id v at in
        let each = r.roles.each (owner k q) in
        let nothing : has_role v (owner k q) ≡ 0 = omega arith in
        let same : rec' q ≡ r.rec q = subst (λ (n : ℕ). rec' n ≡ r.rec n) (sym e) (d.lane (subst (λ (n : ℕ). has_role v (owner k n) ≡ 0) e nothing)) in
        same ∙ r.unowned q none_has
    | inr other ↦ d.else_rec q other ∙ r.unowned q none_has
  ]

  -- what a page refers to that goes now is bookmarked and marked
  page_went : k.lanes ≡ false → p < pages_of k → page_word t p ≡ 4 → (page_word s p ≡ 4) ⊎ ((a b : ℕ) → page_of a ≡ p → RefersToCell k.opening a b → HasBookmarkBit k t.words b × HasMarkBit k s.words b)
  page_went turn near e = elim (cases_eq (page_word s p) 4) [
    | inl was ↦ inl was
    | inr ne ↦ inr (λ a b on l. (
      leads_bookmarked k t.words p a b (subst (Summary k t.words p) (unowned_kept p (r.unheld turn p)) ((content_here near).gone e)) on l,
      d.left_marked (sym here ∙ e) ne turn a b on l,
    ))
  ]

  keeps_marks : k.lanes ≡ false → KeepsMarks k s t
  keeps_marks turn = record {
    marks = λ i lt. far (mark_at k i) (omega arith);
    ends = λ i lt. far (finished_at k i) (omega arith);
    won = λ i b. same_sum (λ u. tells i b u.won) (ap (tells i b) d.won);
    finished = λ i b. same_sum (λ u. tells i b u.finished) (ap (tells i b) d.finished);
    set = λ i b less e. ap (λ (n : ℕ). bit_at n b) (far (bookmark_at k i) (omega arith)) ∙ e;
    pages = at_page (λ q. q < pages_of k → page_word t q ≡ 4 → (page_word s q ≡ 4) ⊎ ((a b : ℕ) → page_of a ≡ q → RefersToCell k.opening a b → HasBookmarkBit k t.words b × HasMarkBit k s.words b))
        (page_went turn) (λ q ne near e. inl (sym (there q ne) ∙ e));
  }

  knows_here : k.lanes ≡ false → Knows k t w
  knows_here turn = knows_read k s t v w (keeps_set k s t (keeps_marks turn)) ((r.seats id v at).knows turn) d.known d.far_read

  seat_else : (j : ℕ) (u : View) → j ≢ id → get_elem? s.views j ≡ some u → SeatFacts k t rec' u
  seat_else j u ne is =
      let old = r.seats j u is in
      record {
        seated = old.seated;
        records = record {
          mine = λ q mine. lane_else j u ne is q mine ∙ old.records.mine q mine;
          others = old.records.others;
          unrecorded = old.records.unrecorded;
          unfetched = old.records.unfetched;
          in_hand = λ h has. let was = old.records.in_hand h has in (was.0, was.1 ∙ sym (hand_else j u ne is h has was.0));
        };
        saw = record {
          seen = λ q lt. let was = old.saw.seen q lt in let has = was.1 in let more = grown q in (was.0, omega arith);
          busy = old.saw.busy;
          gone = λ q lt. let was = old.saw.gone q lt in (was.0, was.1, word_four j u ne is q was.1 was.2);
          taken = old.saw.taken;
        };
        marking = old.marking;
        targets = targets_else j u ne is;
        knows = λ turn. knows_stay k s t u (keeps_set k s t (keeps_marks turn)) (old.knows turn);
      }

  seat_each : (j : ℕ) (u : View) → get_elem? t.views j ≡ some u → SeatFacts k t rec' u
  seat_each j u is = elim (at_set s.views id j w u is) [
    | inl e ↦ subst (SeatFacts k t rec') e.1 (record { seated = d.seated; records = d.records; saw = d.saw; marking = d.marking; targets = d.targets; knows = knows_here })
    | inr o ↦ seat_else j u o.0 o.1
  ]

  roles_kept : Roles k t
  roles_kept = record {
    each = λ n. same_sum (λ u. times n u.roles) (ap (times n) d.roles) ∙ r.roles.each n;
    apart = r.roles.apart;
    nobody = r.roles.nobody;
  }

  counts_same : (q j : ℕ) → q < k.supers → adds_to k t rec' q j ≡ adds_to k s r.rec q j
  counts_same q j lt = elim (cases_eq j p) [
    | inl e ↦
        let a : (if page_word t p == 4 then points k p (rec' p) q else 0) ≡ (if x == 4 then points k p (rec' p) q else 0) = ap (λ (n : ℕ). if n == 4 then points k p (rec' p) q else 0) here in
        let b = sum (λ u. counted_for p q u.hand) in
        let c = d.count q lt in
        let same : adds_to k t rec' q p ≡ adds_to k s r.rec q p = omega arith in
        subst (λ (n : ℕ). adds_to k t rec' q n ≡ adds_to k s r.rec q n) (sym e) same
    | inr ne ↦
        let a : (if page_word t j == 4 then points k j (rec' j) q else 0) ≡ (if page_word s j == 4 then points k j (rec' j) q else 0) = ap (λ (n : ℕ). if n == 4 then points k j (rec' j) q else 0) (there j ne) in
        let b : (if page_word s j == 4 then points k j (rec' j) q else 0) ≡ (if page_word s j == 4 then points k j (r.rec j) q else 0) = ap (λ (c : List ℕ). if page_word s j == 4 then points k j c q else 0) (d.else_rec j ne) in
        let c = same_sum (λ u. counted_for j q u.hand) (d.else_count j q ne) in
        omega arith
  ]

  counters_kept : (q : ℕ) → q < k.supers → Counters k t rec' q
  counters_kept q lt = far (counter_at k q) (omega arith) ∙ r.counters q lt ∙ sym (sum_same (adds_to k t rec' q) (adds_to k s r.rec q) (pages_of k) (λ j _. counts_same q j lt))

  bits_kept : (i b : ℕ) → i < 16 * k.supers → b < 64 → Bits k t i b
  bits_kept i b lt few =
      let old = r.bits i b lt few in
      let bit : bookmark_bit k t.words i b ≡ bookmark_bit k s.words i b = ap (λ (n : ℕ). bit_at n b) (far (bookmark_at k i) (omega arith)) in
      let ever = same_sum (λ u. sets_bit i b u.bookmarked) (ap (sets_bit i b) d.bookmarked) in
      record {
        kept = λ lt. bit ∙ old.kept (omega arith);
        only = λ lt. let a = old.only (omega arith) in omega arith;
        cell = λ lt. old.cell (omega arith);
      }

  frame_kept : (f : ℕ) → Frames k t f
  frame_kept f =
      let old = r.frames f in
      let views = sum (λ u. frame_in_hand f u.hand + times f u.rights) in
      let home = d.frame f in
      let word_is = far (frame_at k (f / 64)) (omega arith) in
      let clear : is_clear k t.words f ≡ is_clear k s.words f = ap (λ (n : ℕ). nat_lt f k.frames && (bit_at n (f % 64) == 0)) word_is in
      let used = old.used in
      record { used = omega (arith, ap one_if clear); past = λ le lt. ap (λ (n : ℕ). bit_at n (f % 64)) word_is ∙ old.past le lt }

  pub page_step : Rule k t
  page_step = record {
    rec = rec';
    words = length-set s.words (page_at p) x ∙ r.words;
    slots = d.long ∙ r.slots;
    few = r.few;
    place = at_page (λ q. q < pages_of k → Place k t rec' q) place_here place_there;
    content = at_page (λ q. q < pages_of k → Content k t rec' q) content_here content_there;
    standing = at_page (λ q. q < pages_of k → Standing k t q) standing_here standing_there;
    seats = seat_each;
    roles = roles_kept;
    unheld = r.unheld;
    unowned = unowned_kept;
    frames = frame_kept;
    counters = counters_kept;
    bits = bits_kept;
    tracing = λ turn. tracing_kept k s t (keeps_marks turn) (r.tracing turn);
  }
