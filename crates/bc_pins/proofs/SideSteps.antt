-- What a step on a word that is no page's owes, and that the rule then holds after it: no box moves, and what is in hand and
-- remembered stays. What it changes of counters, bits and frames each kind of step says itself.
use Rattle.std.proofs.Common.{◌≡◌, ℕ, ◌+◌, ◌*◌, ◌<◌, ◌≤◌, ◌/◌, ◌%◌, ◌≢◌, ◌==◌, ◌&&◌, ◌⊎◌, nat_lt, if◌then◌else◌, Bool, false, List, get_or, set, inl, inr, ap, sym, subst, ◌∙◌, arith, get_or-set_other, refl}
use mathlib.Core.Option.{some}
use lib.ListN.{get_elem?}
use Rattle.std.proofs.lemmas.Bool.{cases_lt}
use Rattle.std.proofs.lemmas.List.{length-set}
use Rattle.atomic_table.proofs.Lists.{at_set}
use Rattle.bc_bits.specs.Counting.{one_if}
use Rattle.bc_pins.specs.declared.views.View.{View}
use Rattle.bc_pins.specs.Key.{Key, pages_of, owner, counter_at, bookmark_at, frame_at, frame_words, notice_at, mark_at, finished_at, page_at, pages_end}
use Rattle.std.specs.Int.{bit_at}
use Rattle.bc_pins.specs.Totals.{total, times}
use Rattle.bc_pins.specs.Views.{grips, grips_remembered, frame_in_hand, counted_for, sets_bit, withholds, reads_of, reads_as}
use Rattle.bc_pins.specs.Facts.{Table, word, Place, remembered_now, Content, Standing, RecordsContent, Saw, Seated, Marking, Frames, points, adds_to, Counters, bookmark_bit, frame_bit, is_clear, Bits, page_word, MarksTargets, fetched_ever, had_with, puts_with}
use Rattle.bc_pins.specs.Tracing.{tells, Tracing, Knows}
use Rattle.bc_pins.specs.Rule.{SeatFacts, Rule}
use Rattle.bc_pins.proofs.TotalLemmas.{total_set}
use Rattle.bc_pins.proofs.SumLemmas.{sum_same}
use Rattle.bc_pins.proofs.MarkedLemmas.{KeepsBits, summary_more, targets_more}
use Rattle.bc_pins.proofs.TallyLemmas.{ge-nat_lt}
use Rattle.bc_pins.proofs.TracingLemmas.{KeepsMarks, KeepsSet, knows_stay}
use Rattle.bc_pins.proofs.WithholdLemmas.{foreign_same}

-- the table after a step of seat id on the word i
abbrev pub aside : Table → ℕ → ℕ → ℕ → View → Table
aside s i x id w = record { words = set s.words i x; homes = s.homes; views = set s.views id w }

-- what such a step owes: the word i becomes x, and the seat's view v becomes w
pub record SideStep (k : Key) (s : Table) (rec : ℕ → List ℕ) (i x id : ℕ) (v w : View) : Type 0 where
  pub far : pages_end k ≤ i
  pub grip : (p : ℕ) → grips p w.hand ≡ grips p v.hand
  pub flag : (p : ℕ) → grips_remembered p w.hand ≡ grips_remembered p v.hand
  pub recorded : w.recorded ≡ v.recorded
  pub left : w.left ≡ v.left
  pub emptied : w.emptied ≡ v.emptied
  pub fetched : w.fetched ≡ v.fetched
  pub changed : w.changed ≡ v.changed
  pub returned : w.returned ≡ v.returned
  pub busy : w.busy ≡ v.busy
  pub seen : w.seen ≡ v.seen
  pub gone : w.gone ≡ v.gone
  pub roles : w.roles ≡ v.roles
  pub read : (j : ℕ) → j ≢ i → reads_of j w.read ≡ reads_of j v.read
  pub read_more : (j n : ℕ) → times n (reads_of j v.read) ≤ times n (reads_of j w.read)
  pub seated : Seated k w
  pub records : RecordsContent k rec w
  pub marking : Marking w
  pub targets : MarksTargets k (aside s i x id w) rec w
  -- marks
  pub stay : k.lanes ≡ false → KeepsSet k s (aside s i x id w)
  pub knows : k.lanes ≡ false → Knows k (aside s i x id w) w
  pub tracing : k.lanes ≡ false → Tracing k (aside s i x id w)
  -- counters, bits and frames
  pub set : KeepsBits k s.words (aside s i x id w).words
  pub counters : (q : ℕ) → q < k.supers → Counters k (aside s i x id w) rec q
  pub bits : (j b : ℕ) → j < 16 * k.supers → b < 64 → Bits k (aside s i x id w) j b
  pub frames : (f : ℕ) → Frames k (aside s i x id w) f

module _ (k : Key) (s : Table) (r : Rule k s) (i x id : ℕ) (v w : View) (at : get_elem? s.views id ≡ some v) (d : SideStep k s r.rec i x id v w) where
  abbrev t : Table
  t = aside s i x id w

  there : (j : ℕ) → j ≢ i → word t j ≡ word s j
  there j ne = get_or-set_other s.words i j x 0 ne

  page_same : (p : ℕ) → p < pages_of k → page_word t p ≡ page_word s p
  page_same p lt = let far = d.far in there (page_at p) (λ e. omega arith)

  same_sum : (f : View → ℕ) → f w ≡ f v → total f t.views ≡ total f s.views
  same_sum f e = let c = total_set f s.views id v w at in omega arith

  now_same : (p : ℕ) → p < pages_of k → remembered_now t p ≡ remembered_now s p
  now_same p lt =
      let a : one_if (page_word t p == 2) ≡ one_if (page_word s p == 2) = ap (λ (n : ℕ). one_if (n == 2)) (page_same p lt) in
      let b = same_sum (λ u. grips_remembered p u.hand) (d.flag p) in
      omega arith

  place_kept : (p : ℕ) → p < pages_of k → Place k t r.rec p
  place_kept p lt =
      let old = r.place p lt in
      let a : one_if (page_word t p == 3) ≡ one_if (page_word s p == 3) = ap (λ (n : ℕ). one_if (n == 3)) (page_same p lt) in
      let b = same_sum (λ u. grips p u.hand) (d.grip p) in
      let held = old.held in
      record { lies = rw (page_same p lt) old.lies; held = omega arith }

  had_same : (p i b : ℕ) → had_with k t p i b ≡ had_with k s p i b
  had_same p i b = let a = same_sum (λ u. puts_with k p i b u.changed) (ap (puts_with k p i b) d.changed) in omega arith

  content_kept : (p : ℕ) → p < pages_of k → Content k t r.rec p
  content_kept p lt =
      let old = r.content p lt in
      let same = now_same p lt in
      record {
        fixed = old.fixed;
        young = λ y. let was = old.young y in omega arith;
        bare = λ z. old.bare (sym (page_same p lt) ∙ z);
        gone = λ e. summary_more k s.words t.words p (r.rec p) d.set (old.gone (sym (page_same p lt) ∙ e));
        had = λ i b on. let was = old.had i b on in let a = had_same p i b in omega arith;
      }

  withheld_same : (p : ℕ) → withholds k p w ≡ withholds k p v
  withheld_same p =
      let a = foreign_same k p v w (d.grip p) d.roles in
      let b = ap (times p) d.returned in
      omega arith

  -- of page words nothing was read
  read_same : (p n : ℕ) → p < pages_of k → total (reads_as p n) t.views ≡ total (reads_as p n) s.views
  read_same p n lt = same_sum (reads_as p n) (ap (times n) (let far = d.far in d.read (page_at p) (λ e. omega arith)))

  fetched_same : (p : ℕ) → fetched_ever t p ≡ fetched_ever s p
  fetched_same p = same_sum (λ u. times p u.fetched) (ap (times p) d.fetched)

  held_kept : (p : ℕ) → p < pages_of k → 0 < total (reads_as p 3) t.views → 0 < total (reads_as p 1) t.views + total (reads_as p 2) t.views + fetched_ever t p
  held_kept p near lt =
      let one = read_same p 1 near in
      let two = read_same p 2 near in
      let three = read_same p 3 near in
      let got = fetched_same p in
      let a = (r.standing p near).held (omega arith) in
      omega arith

  away_kept : (p : ℕ) → p < pages_of k → 0 < total (reads_as p 0) t.views + total (reads_as p 2) t.views + total (reads_as p 4) t.views → (page_word t p ≡ 0) ⊎ ((page_word t p ≡ 4) ⊎ (0 < remembered_now t p + fetched_ever t p))
  away_kept p near lt =
      let none_is = read_same p 0 near in
      let two = read_same p 2 near in
      let four = read_same p 4 near in
      let now = now_same p near in
      let got = fetched_same p in
      elim ((r.standing p near).away (omega arith)) [
        | inl e ↦ inl (page_same p near ∙ e)
        | inr other ↦ elim other [ inl e ↦ inr (inl (page_same p near ∙ e)) | inr was ↦ inr (inr (omega arith)) ]
      ]

  standing_kept : (p : ℕ) → p < pages_of k → Standing k t p
  standing_kept p near =
      let old = r.standing p near in
      let now = now_same p near in
      let ever = same_sum (λ u. times p u.recorded) (ap (times p) d.recorded) in
      let f = same_sum (λ u. times p u.fetched) (ap (times p) d.fetched) in
      let l = same_sum (λ u. times p u.left) (ap (times p) d.left) in
      let e = same_sum (λ u. times p u.emptied) (ap (times p) d.emptied) in
      let four : one_if (page_word t p == 4) ≡ one_if (page_word s p == 4) = ap (λ (n : ℕ). one_if (n == 4)) (page_same p near) in
      let zeros : one_if (page_word t p == 0) ≡ one_if (page_word s p == 0) = ap (λ (n : ℕ). one_if (n == 0)) (page_same p near) in
      let busy = same_sum (λ u. times p u.busy) (ap (times p) d.busy) in
      let kept_from = same_sum (withholds k p) (withheld_same p) in
      let gone = old.gone in
      let absent = old.absent in
      record {
        remembered = λ lt. let a = old.remembered (omega arith) in omega arith;
        recorded = λ lt. let a = old.recorded (omega arith) in omega arith;
        as_opened = λ turn lt. old.as_opened turn (omega arith);
        gone = omega arith;
        absent = omega arith;
        busy = λ lt. let a = old.busy (omega arith) in omega arith;
        held = held_kept p near;
        away = away_kept p near;
      }

  saw_same : (u : View) → Saw k s u → Saw k t u
  saw_same u old = record {
    seen = λ p lt. let was = old.seen p lt in let has = was.1 in let now = now_same p was.0 in (was.0, omega arith);
    gone = λ p lt. let was = old.gone p lt in (was.0, was.1, page_same p was.0 ∙ was.2);
    busy = old.busy;
    taken = old.taken;
  }

  -- the seat has read nothing more
  saw_here : Saw k t w
  saw_here =
      let old = saw_same v (r.seats id v at).saw in
      record {
        seen = λ p lt. old.seen p (subst (λ (l : List ℕ). 0 < times p l) d.seen lt);
        busy = λ p lt. subst (λ (l : List ℕ). 0 < times (owner k p) l) (sym d.roles) (old.busy p (subst (λ (l : List ℕ). 0 < times p l) d.busy lt));
        gone = λ p lt.
            let was = old.gone p (subst (λ (l : List ℕ). 0 < times p l) d.gone lt) in
            (was.0, subst (λ (l : List ℕ). 0 < times (owner k p) l) (sym d.roles) was.1, was.2);
        taken = λ p lt.
            let grip = d.grip p in
            let was = old.taken p (omega arith) in
            let one = d.read_more (page_at p) 1 in
            let two = d.read_more (page_at p) 2 in
            let got = ap (times p) d.fetched in
            omega arith;
      }

  seat_else : (j : ℕ) (u : View) → get_elem? s.views j ≡ some u → SeatFacts k t r.rec u
  seat_else j u is = let old = r.seats j u is in record { seated = old.seated; records = old.records; saw = saw_same u old.saw; marking = old.marking; targets = targets_more k s t r.rec u u (λ q. let a = fetched_same q in omega arith) (λ q i b. let a = had_same q i b in omega arith) refl old.targets; knows = λ turn. knows_stay k s t u (d.stay turn) (old.knows turn) }

  seat_each : (j : ℕ) (u : View) → get_elem? t.views j ≡ some u → SeatFacts k t r.rec u
  seat_each j u is = elim (at_set s.views id j w u is) [
    | inl e ↦ subst (SeatFacts k t r.rec) e.1 (record { seated = d.seated; records = d.records; saw = saw_here; marking = d.marking; targets = d.targets; knows = d.knows })
    | inr o ↦ seat_else j u o.1
  ]

  pub side_step : Rule k t
  side_step = record {
    rec = r.rec;
    words = length-set s.words i x ∙ r.words;
    slots = r.slots;
    few = r.few;
    place = place_kept;
    content = content_kept;
    standing = standing_kept;
    seats = seat_each;
    roles = record { each = λ n. same_sum (λ u. times n u.roles) (ap (times n) d.roles) ∙ r.roles.each n; apart = r.roles.apart; nobody = r.roles.nobody };
    unheld = r.unheld;
    unowned = r.unowned;
    frames = d.frames;
    counters = d.counters;
    bits = d.bits;
    tracing = d.tracing;
  }

-- of the three groups of words a step on one leaves the others as they are
pub counters_same : (k : Key) (s : Table) (r : Rule k s) (i x id : ℕ) (v w : View) (q : ℕ) → get_elem? s.views id ≡ some v → pages_end k ≤ i → q < k.supers → counter_at k q ≢ i → ((p : ℕ) → counted_for p q w.hand ≡ counted_for p q v.hand)
    → Counters k (aside s i x id w) r.rec q
counters_same k s r i x id v w q at far lt other same =
    let t : Table = aside s i x id w in
    get_or-set_other s.words i (counter_at k q) x 0 other ∙ r.counters q lt
    ∙ sum_same (adds_to k s r.rec q) (adds_to k t r.rec q) (pages_of k) (λ p less.
    let word_is : page_word t p ≡ page_word s p = get_or-set_other s.words i (page_at p) x 0 (λ e. omega arith) in
    let a : (if page_word t p == 4 then points k p (r.rec p) q else 0) ≡ (if page_word s p == 4 then points k p (r.rec p) q else 0) = ap (λ (n : ℕ). if n == 4 then points k p (r.rec p) q else 0) word_is in
    let b = total_set (λ (u : View). counted_for p q u.hand) s.views id v w at in
    let c = same p in
    omega arith)

pub bits_same : (k : Key) (s : Table) (r : Rule k s) (i x id : ℕ) (v w : View) (j b : ℕ) → get_elem? s.views id ≡ some v → j < 16 * k.supers → b < 64 → bookmark_at k j ≢ i → sets_bit j b w.bookmarked ≡ sets_bit j b v.bookmarked
    → Bits k (aside s i x id w) j b
bits_same k s r i x id v w j b at lt few other same =
    let t : Table = aside s i x id w in
    let old = r.bits j b lt few in
    let bit : bookmark_bit k t.words j b ≡ bookmark_bit k s.words j b = ap (λ (n : ℕ). bit_at n b) (get_or-set_other s.words i (bookmark_at k j) x 0 other) in
    let a = total_set (λ (u : View). sets_bit j b u.bookmarked) s.views id v w at in
    record {
      kept = λ lt. bit ∙ old.kept (omega arith);
      only = λ lt. let z = old.only (omega arith) in omega arith;
      cell = λ lt. old.cell (omega arith);
    }

pub frames_same : (k : Key) (s : Table) (r : Rule k s) (i x id : ℕ) (v w : View) → get_elem? s.views id ≡ some v → ((j : ℕ) → j < frame_words k → frame_at k j ≢ i) → ((f : ℕ) → frame_in_hand f w.hand + times f w.rights ≡ frame_in_hand f v.hand + times f v.rights)
    → (f : ℕ) → Frames k (aside s i x id w) f
frames_same k s r i x id v w at other same f =
    let old = r.frames f in
    let a = total_set (λ (u : View). frame_in_hand f u.hand + times f u.rights) s.views id v w at in
    let b = same f in
    let word_is : f / 64 < frame_words k → get_or (set s.words i x) (frame_at k (f / 64)) 0 ≡ get_or s.words (frame_at k (f / 64)) 0 = λ less. get_or-set_other s.words i (frame_at k (f / 64)) x 0 (other (f / 64) less) in
    let clear : is_clear k (set s.words i x) f ≡ is_clear k s.words f = elim (cases_lt f k.frames) [
      | inl lt ↦ ap (λ (n : ℕ). nat_lt f k.frames && (bit_at n (f % 64) == 0)) (word_is (omega arith))
      | inr le ↦ ap (λ (c : Bool). c && (frame_bit k (set s.words i x) f == 0)) (ge-nat_lt f k.frames le) ∙ sym (ap (λ (c : Bool). c && (frame_bit k s.words f == 0)) (ge-nat_lt f k.frames le))
    ] in
    let used = old.used in
    record { used = omega (arith, ap one_if clear); past = λ le lt. ap (λ (n : ℕ). bit_at n (f % 64)) (word_is (omega arith)) ∙ old.past le lt }

-- and marks, where it lies before them
pub keeps_aside : (k : Key) (s : Table) (i x id : ℕ) (v w : View) → get_elem? s.views id ≡ some v → pages_end k ≤ i → i ≤ notice_at k → KeepsBits k s.words (aside s i x id w).words → w.won ≡ v.won → w.finished ≡ v.finished → KeepsMarks k s (aside s i x id w)
keeps_aside k s i x id v w at far low set won finished = record {
  marks = λ j lt. get_or-set_other s.words i (mark_at k j) x 0 (λ e. omega arith);
  ends = λ j lt. get_or-set_other s.words i (finished_at k j) x 0 (λ e. omega arith);
  won = λ j b. let a = total_set (λ (u : View). tells j b u.won) s.views id v w at in let e = ap (tells j b) won in omega arith;
  finished = λ j b. let a = total_set (λ (u : View). tells j b u.finished) s.views id v w at in let e = ap (tells j b) finished in omega arith;
  set = set;
  pages = λ p lt four. inl (sym (get_or-set_other s.words i (page_at p) x 0 (λ e. omega arith)) ∙ four);
}
