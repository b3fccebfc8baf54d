-- Taking a page, from Home or from Home and remembered.
use Rattle.std.proofs.Common.{◌≡◌, ℕ, ◌+◌, ◌<◌, ◌≤◌, ◌≢◌, ◌==◌, Bool, true, false, List, [], length, set, Some, None, if◌then◌else◌, inl, inr, refl, ap, sym, subst, ◌∙◌, arith}
use mathlib.Core.Option.{some}
use mathlib.Core.Option as maybe
use lib.ListN.{get_elem?}
use prog.Atomic.{either}
use Rattle.std.proofs.lemmas.Bool.{cases_eq, eq-eqb, ne_eqb}
use Rattle.std.proofs.lemmas.List.{length-set}
use Rattle.atomic_table.specs.Table.{Act, Allows, Valid, stepped, carried_after, step, keeps, takes, chain}
use Rattle.atomic_table.proofs.Lists.{set_here, set_else, exchanged}
use Rattle.bc_bits.specs.Counting.{one_if}
use Rattle.bc_superpages.specs.declared.spaces.Homed.{Homed}
use Rattle.bc_pins.specs.declared.views.Lodged.{Lodged}
use Rattle.bc_pins.specs.declared.views.Lodged.TheVariants.{Nothing, Home}
use Rattle.bc_pins.specs.declared.views.Hand.{Hand}
use Rattle.bc_pins.specs.declared.views.View.{View}
use Rattle.bc_pins.specs.Key.{Key, pages_of, owner, page_at, frame_slot, store_slot}
use Rattle.bc_pins.specs.Totals.{total, times}
use Rattle.bc_pins.specs.Contents.{IsContent, RefersYoung}
use Rattle.bc_pins.specs.Views.{grips, grips_remembered, frame_in_hand, counted_for, marked_for, has_role, reads_as, opened_content, opened_word}
use Rattle.bc_pins.specs.Facts.{Table, slot, IsHomed, Lies, remembered_now, RecordsContent, Seated, Marking, frame_lodged, points, page_word}
use Rattle.bc_pins.specs.Rule.{Rule, Ruled}
use Rattle.bc_pins.specs.Steps.{Mine, both_slots, gripping, having_read, ReadsWord, Takes, Took}
use Rattle.bc_pins.proofs.NoticeLemmas.{claims_aside}
use Rattle.bc_pins.proofs.OwingLemmas.{owing_page}
use Rattle.bc_pins.proofs.TotalLemmas.{total_set, total_at, total_none, total_only, total_two, one_same, one_other, one_is}
use Rattle.bc_pins.proofs.WithholdLemmas.{foreign_none}
use Rattle.bc_pins.proofs.MarkedLemmas.{targets_kept}
use Rattle.bc_pins.proofs.LogLemmas.{reads-else, reads-more, pages-else, gripped_read, gripped_two, gripped_not}
use Rattle.bc_pins.proofs.PageSteps.{after, PageStep, page_step}
use Rattle.bc_pins.proofs.ReadLemmas.{same_page, saw_kept, remembered_word, reads, look_step}

abbrev pub Slots : Type 0
Slots = List (maybe.Option Lodged)

pub flag_is : (b : Bool) (p : ℕ) → (if b then one_if (p == p) else 0) ≡ one_if b
flag_is true p = one_same p
flag_is false p = refl

pub flag_other : (b : Bool) (p q : ℕ) → p ≢ q → (if b then one_if (p == q) else 0) ≡ 0
flag_other true p q ne = one_other p q ne
flag_other false p q ne = refl

pub homed_lies : (n : ℕ) (a b : maybe.Option (maybe.Option Lodged)) (c : List ℕ) → 1 ≤ n → n ≤ 2 → Lies n a b c → IsHomed a b c
homed_lies n a b c lo hi l = elim (cases_eq n 1) [
  | inl one ↦ subst (λ (j : ℕ). Lies j a b c) one l
  | inr ne ↦ let two : n ≡ 2 = omega arith in subst (λ (j : ℕ). Lies j a b c) two l
]

pub none_either : (b : Bool) (n : ℕ) → n ≡ 0 → (if b then n else 0) ≡ 0
none_either true n e = e
none_either false n e = refl

pub some_hand : (g h : Hand) → Some g ≡ Some h → g ≡ h
some_hand g h e = cc

-- a frame that moves from its slot into a hand
pub taken_frame : (f : ℕ) (hs : Slots) (p q : ℕ) (h : Homed) → p ≢ q → get_elem? hs p ≡ some (some (Home h)) → get_elem? hs q ≡ some (some Nothing)
    → total (frame_lodged f) (set (set hs q maybe.none) p maybe.none) + one_if (h.frame == f) ≡ total (frame_lodged f) hs
taken_frame f hs p q h ne one two =
    let a = total_set (frame_lodged f) hs q (some Nothing) maybe.none two in
    let b = total_set (frame_lodged f) (set hs q maybe.none) p (some (Home h)) maybe.none (set_else hs q p maybe.none ne ∙ one) in
    omega arith

module _ (k : Key) (s : Table) (r : Rule k s) (p id old role : ℕ) (v : View) (at : get_elem? s.views id ≡ some v) (near : p < pages_of k) (lo : 1 ≤ old) (hi : old ≤ 2) (is : page_word s p ≡ old)
    (about : v.about ≡ k) (nothing : v.hand ≡ None) (some_role : 0 < has_role v role) (h : Homed)
    (frame : slot s (frame_slot k p) ≡ some (some (Home h))) (store : slot s (store_slot k p) ≡ some (some Nothing)) (content : h.page ≡ r.rec p) where
  abbrev flag : Bool
  flag = old == 2

  abbrev w : View
  w = gripping v p flag h

  abbrev homes : Slots
  homes = set (set s.homes (store_slot k p) maybe.none) (frame_slot k p) maybe.none

  wide : page_at p < length s.words
  wide = let long = r.words in omega arith

  no_grip : (q : ℕ) → grips q v.hand ≡ 0
  no_grip q = ap (grips q) nothing

  no_flag : (q : ℕ) → grips_remembered q v.hand ≡ 0
  no_flag q = ap (grips_remembered q) nothing

  two_is : one_if (page_word s p == 2) ≡ one_if flag
  two_is = ap (λ (n : ℕ). one_if (n == 2)) is

  other_is : (n : ℕ) → n ≢ 1 → n ≢ 2 → one_if (page_word s p == n) ≡ 0
  other_is n a b = one_other (page_word s p) n (λ e. absurd (elim (cases_eq old 1) [ inl one ↦ a (sym e ∙ is ∙ one) | inr ne ↦ let two : old ≡ 2 = omega arith in b (sym e ∙ is ∙ two) ]))

  gripped : grips_remembered p w.hand ≡ one_if flag
  gripped = flag_is flag p

  fewer : one_if (page_word s p == 2) + grips_remembered p v.hand ≤ one_if (3 == 2) + grips_remembered p w.hand
  fewer = let a = two_is in let b = no_flag p in let c = gripped in omega arith

  else_flag : (q : ℕ) → q ≢ p → grips_remembered q w.hand ≡ grips_remembered q v.hand
  else_flag q ne = flag_other flag p q (λ e. ne (sym e)) ∙ sym (no_flag q)

  not_four : page_word s p ≡ 4 → ⊥
  not_four e = omega arith

  frames_kept : (f : ℕ) → total (frame_lodged f) homes + (frame_in_hand f w.hand + times f w.rights) ≡ total (frame_lodged f) s.homes + (frame_in_hand f v.hand + times f v.rights)
  frames_kept f =
      let a = taken_frame f s.homes (frame_slot k p) (store_slot k p) h (λ e. omega arith) frame store in
      let b : frame_in_hand f v.hand ≡ 0 = ap (frame_in_hand f) nothing in
      omega arith

  records_kept : RecordsContent k r.rec w
  records_kept =
      let old_facts = (r.seats id v at).records in
      record {
        mine = old_facts.mine;
        others = old_facts.others;
        unrecorded = old_facts.unrecorded;
        unfetched = old_facts.unfetched;
        in_hand = λ g e. subst (λ (x : Hand). (x.page < pages_of k) × (x.content ≡ r.rec x.page)) (some_hand _ g e) (near, content);
      }

  seated_kept : Seated k w
  seated_kept =
      let old_facts = (r.seats id v at).seated in
      record {
        about = old_facts.about;
        idle = λ e. let z : has_role v role ≡ 0 = ap (times role) e in absurd (omega arith);
      }

  no_count : (j q : ℕ) → counted_for j q v.hand ≡ 0
  no_count j q = ap (counted_for j q) nothing

  hand_counts : (j q : ℕ) → counted_for j q w.hand ≡ 0
  hand_counts j q = none_either (p == j) (times q []) refl

  not_gone : (n : ℕ) → (if page_word s p == 4 then n else 0) ≡ 0
  not_gone n = ap (λ (b : Bool). if b then n else 0) (ne_eqb (page_word s p) 4 not_four)

  marking_kept : Marking w
  marking_kept =
      let old_marks = (r.seats id v at).marking in
      let given_up : (j : ℕ) → 0 < marked_for j v.bookmarked → 0 < times j v.left = λ j lt. elim (old_marks.whose j lt) [
        | inl held ↦ let none_held = no_grip j in absurd (omega arith)
        | inr gone ↦ gone
      ] in
      record {
        once = λ g e q. subst (λ (x : Hand). times q x.counted ≤ 1) (some_hand _ g e) (omega arith);
        whose = λ j lt. inr (given_up j lt);
        unmarked = λ g e _ lt. given_up g.page lt;
      }

  -- the page was read as what it was
  took : (q : ℕ) → 0 < grips q w.hand → 0 < reads_as q 1 w + reads_as q 2 w + times q w.fetched
  took q lt = subst (λ (n : ℕ). 0 < reads_as n 1 w + reads_as n 2 w + times n w.fetched) (one_is p q lt) (let a = gripped_read flag p v.read in omega arith)

  -- and as Remembered only where it is in hand so
  read_two : reads_as p 0 v + reads_as p 2 v + reads_as p 4 v < reads_as p 0 w + reads_as p 2 w + reads_as p 4 w → 0 < grips_remembered p w.hand
  read_two lt =
      let a = gripped_not flag p 0 v.read (λ x. omega arith) (λ x. omega arith) in
      let b = gripped_two flag p v.read in
      let c = gripped_not flag p 4 v.read (λ x. omega arith) (λ x. omega arith) in
      let d = gripped in
      omega arith

  hit_step : PageStep k s r.rec r.rec p 3 homes id v w
  hit_step =
      let slots = r.slots in
      let first = two_is in
      let c = no_grip p in
      let d = gripped in
      let three = other_is 3 (λ e. omega arith) (λ e. omega arith) in
      let four = other_is 4 (λ e. omega arith) (λ e. omega arith) in
      let none_zero = other_is 0 (λ e. omega arith) (λ e. omega arith) in
      let one = one_same p in
      let e = no_flag p in
      let long : length (set s.homes (store_slot k p) maybe.none) ≡ length s.homes = length-set s.homes (store_slot k p) maybe.none in
      record {
        near = near;
        long = length-set (set s.homes (store_slot k p) maybe.none) (frame_slot k p) maybe.none ∙ long;
        else_home = λ i a b. set_else (set s.homes (store_slot k p) maybe.none) (frame_slot k p) i maybe.none a ∙ set_else s.homes (store_slot k p) i maybe.none b;
        lies = (
          set_here (set s.homes (store_slot k p) maybe.none) (frame_slot k p) maybe.none (omega arith),
          set_else (set s.homes (store_slot k p) maybe.none) (frame_slot k p) (store_slot k p) maybe.none (λ x. omega arith) ∙ set_here s.homes (store_slot k p) maybe.none (omega arith),
        );
        frame = frames_kept;
        grip = omega arith;
        else_grip = λ q ne. one_other p q (λ x. ne (sym x)) ∙ sym (no_grip q);
        else_rec = λ q ne. refl;
        lane = λ _. refl;
        hands = λ _. refl;
        fixed = (r.content p near).fixed;
        young = λ y. inl y;
        bare = λ z. absurd (omega arith);
        summarised = λ e. absurd (omega arith);
        not_fewer = fewer;
        else_remembered = else_flag;
        again = λ turn lt. absurd (omega arith);
        put_back = omega arith;
        noted = λ lt. inl (omega arith);
        kept = λ lt. absurd (omega arith);
        else_recorded = λ q ne. refl;
        went = omega arith;
        emptied = omega arith;
        else_fetched = λ q ne. refl;
        else_left = λ q ne. refl;
        else_emptied = λ q ne. refl;
        withheld = inr (let z = foreign_none k p v nothing in omega arith);
        noted_busy = λ lt. absurd (omega arith);
        else_returned = λ q ne. refl;
        else_busy = λ q ne. refl;
        stays = λ x. absurd (not_four x);
        fetched_more = omega arith;
        stays_absent = λ x. absurd (omega arith);
        read_more = λ n. reads-more (page_at p) (page_at p) (if flag then 2 else 1) n v.read;
        read_held = λ lt. absurd (let a = gripped_not flag p 3 v.read (λ x. omega arith) (λ x. omega arith) in omega arith);
        read_away = λ lt. inr (inr (let a = read_two lt in omega arith));
        else_read = λ q n ne. pages-else p q (if flag then 2 else 1) n v.read ne;
        far_read = λ j less. reads-else j (page_at p) (if flag then 2 else 1) v.read (λ e. omega arith);
        count = λ q lt. let a = no_count p q in let b = hand_counts p q in let c = not_gone (points k p (r.rec p) q) in omega arith;
        else_count = λ j q ne. hand_counts j q ∙ sym (no_count j q);
        bookmarked = refl;
        put_more = λ q i b. omega arith;
        put_new = λ i b on. inl on;
        won = refl;
        known = refl;
        finished = refl;
        left_marked = λ e. absurd (omega arith);
        marking = marking_kept;
        targets = targets_kept k s r.rec (set s.words (page_at p) 3) homes id v w at (λ q. omega arith) refl refl (r.seats id v at).targets;
        roles = refl;
        seated = seated_kept;
        records = records_kept;
        saw = saw_kept k s p 3 homes id v w at wide fewer else_flag refl refl refl refl (λ x. absurd (not_four x)) took (r.seats id v at).saw;
      }

  -- no other seat has the role of the lane that holds the page's domain, so none records that the page is remembered
  recorded_alone : 0 < has_role v (owner k p) → total (λ (u : View). times p u.recorded) s.views ≡ times p v.recorded
  recorded_alone mine = total_only (λ (u : View). times p u.recorded) s.views id v at (λ j u ne is. (r.seats j u is).records.unrecorded p (
      let two = total_two (λ (z : View). has_role z (owner k p)) s.views j id u v ne is at in
      let each = r.roles.each (owner k p) in
      let apart = r.roles.apart (owner k p) in
      omega arith))

  -- nobody has the role of nobody
  nobody_has : (j : ℕ) (u : View) → get_elem? s.views j ≡ some u → has_role u 0 ≡ 0
  nobody_has j u is =
      let one = total_at (λ (w : View). times 0 w.roles) s.views j u is in
      let each = r.roles.each 0 in
      let none = r.roles.nobody in
      omega arith

  fetched_alone : 0 < has_role v (owner k p) → total (λ (u : View). times p u.fetched) s.views ≡ times p v.fetched
  fetched_alone mine = total_only (λ (u : View). times p u.fetched) s.views id v at (λ j u ne is. (r.seats j u is).records.unfetched p (
      let two = total_two (λ (z : View). has_role z (owner k p)) s.views j id u v ne is at in
      let each = r.roles.each (owner k p) in
      let apart = r.roles.apart (owner k p) in
      omega arith)
      (λ frozen. absurd (let z : has_role v (owner k p) ≡ 0 = ap (has_role v) frozen.1 ∙ nobody_has id v at in omega arith)))

  is_two : (n : ℕ) → 0 < one_if (n == 2) → n ≡ 2
  is_two n lt = elim (cases_eq n 2) [
    | inl e ↦ e
    | inr ne ↦ absurd (let no = ap one_if (ne_eqb n 2 ne) in omega arith)
  ]

  told : Takes v p flag h
  told =
      let facts = r.seats id v at in
      let place = r.content p near in
      let standing = r.standing p near in
      let flagged : 0 < remembered_now s p → flag ≡ true = λ lt. eq-eqb old 2 (sym is ∙ remembered_word k s r p near (λ e. omega arith) lt) in
      record {
        mine = λ lt. content ∙ facts.records.mine p (subst (λ (a : Key). 0 < has_role v (owner a p)) about lt);
        unowned = λ z. content ∙ r.unowned p (subst (λ (a : Key). times (owner a p) a.roles ≡ 0) about z) ∙ ap (λ (a : Key). opened_content a p) (sym about);
        plain = λ nobody on.
            let none : total (λ (u : View). times p u.recorded) s.views ≡ 0 =
            total_none (λ (u : View). times p u.recorded) s.views (λ j u is. (r.seats j u is).records.unrecorded p
            (ap (has_role u) (subst (λ (a : Key). owner a p ≡ 0) about nobody) ∙ nobody_has j u is)) in
            let now : one_if (page_word s p == 2) ≡ 1 = ap (λ (n : ℕ). one_if (n == 2)) is ∙ ap one_if on in
            let ever = standing.recorded (omega arith) in
            subst (λ (a : Key). opened_word a p ≡ 2) (sym about) (is_two (opened_word k p) (omega arith));
        fixed = subst (λ (a : Key). IsContent a.opening p h.page) (sym about) (subst (IsContent k.opening p) (sym content) place.fixed);
        young = λ y. flagged (place.young (subst (RefersYoung k.opening p) content (subst (λ (a : Key). RefersYoung a.opening p h.page) about y)));
        recorded = λ lt.
            let own = total_at (λ (u : View). times p u.recorded) s.views id v at in
            let was : 0 < one_if (opened_word k p == 2) + times p v.recorded = subst (λ (a : Key). 0 < one_if (opened_word a p == 2) + times p v.recorded) about lt in
            flagged (standing.remembered (omega arith));
        found = λ on lt.
            let alone = recorded_alone (subst (λ (a : Key). 0 < has_role v (owner a p)) about lt) in
            let now : one_if (page_word s p == 2) ≡ 1 = ap (λ (n : ℕ). one_if (n == 2)) is ∙ ap one_if on in
            let ever = standing.recorded (omega arith) in
            subst (λ (a : Key). 0 < one_if (opened_word a p == 2) + times p v.recorded) (sym about) (omega arith);
        here = λ e lt.
            let four = other_is 4 (λ x. omega arith) (λ x. omega arith) in
            let alone = fetched_alone (subst (λ (a : Key). 0 < has_role v (owner a p)) about lt) in
            let was : one_if (opened_word k p == 4) ≡ 1 = ap (λ (n : ℕ). one_if (n == 4)) (subst (λ (a : Key). opened_word a p ≡ 4) about e) in
            let sum = standing.gone in
            omega arith;
      }

  pub hit_rule : Rule k (after s p 3 homes id w)
  hit_rule = page_step k s r r.rec p 3 homes id v w at hit_step

  pub hit_told : Takes v p flag h
  hit_told = told

-- whatever the table is, a try to take keeps the rule and says what it found
pub taken : (k : Key) (slots p id old role : ℕ) (v : View) → p < pages_of k → 1 ≤ old → old ≤ 2 → v.about ≡ k → v.hand ≡ None → 0 < has_role v role
    → Allows (Ruled k) slots id (v, []) (page_at p) (λ n. either (n == old) 3 n) (Took (step slots (page_at p) old 3 maybe.none) (v, []))
taken k slots p id old role v near lo hi about nothing some_role s r size at fits =
    exchanged (page_word s p) old 3
    (λ n. (w : View) × (a : Act Lodged) × Valid s.homes [] a × Ruled k (stepped s (page_at p) n id [] w a) × Took (step slots (page_at p) old 3 maybe.none) (v, []) (page_word s p) (w, carried_after [] a))
    (λ e.
    let place = (r.facts.place p near).lies in
    let homed = homed_lies (page_word s p) _ _ _ (omega arith) (omega arith) place in
    let h = homed.0 in
    let rule = hit_rule k s r.facts p id old role v at near lo hi e about nothing some_role h homed.1 homed.2 homed.3 in (
      gripping v p (old == 2) h,
      chain (takes (store_slot k p) Nothing) (takes (frame_slot k p) (Home h)),
      (homed.2, set_else s.homes (store_slot k p) (frame_slot k p) maybe.none (λ x. omega arith) ∙ homed.1),
      record { facts = rule; claims = claims_aside k s _ _ id _ _ _ at (λ e. omega arith) refl r.claims; owing = λ turn. owing_page k s p _ _ id v _ at near r.facts.words (λ _ _. (omega arith, omega arith)) refl refl refl (r.owing turn) },
      record {
        hit = λ q is _. subst (λ (n : ℕ). (x : Homed) × ◌≡◌ {A = Mine} (gripping v p (old == 2) h, both_slots k p (Home h) Nothing) (gripping v n (old == 2) x, both_slots v.about n (Home x) Nothing) × Takes v n (old == 2) x) (same_page p q is)
            (h, ap (λ (a : Key). (gripping v p (old == 2) h, both_slots a p (Home h) Nothing)) (sym about), hit_told k s r.facts p id old role v at near lo hi e about nothing some_role h homed.1 homed.2 homed.3);
        miss = λ q is ne. absurd (ne e);
      },
    ))
    (λ ne. (
      having_read v p (page_word s p),
      keeps,
      tt,
      record { facts = look_step k s r.facts p id role v at near about some_role; claims = claims_aside k s _ _ id _ _ _ at (λ e. omega arith) refl r.claims; owing = λ turn. owing_page k s p _ _ id v _ at near r.facts.words (λ low high. (low, high)) refl refl refl (r.owing turn) },
      record {
        hit = λ q is e. absurd (ne e);
        miss = λ q is _. (
          ap (λ (n : ℕ). (having_read v n (page_word s p), [])) (same_page p q is),
          subst (λ (n : ℕ). ReadsWord v n (page_word s p)) (same_page p q is) (reads k s r.facts p id v near at about),
        );
      },
    ))

pub takes_from : (k : Key) (slots p i id old role : ℕ) (me : Mine) → i ≡ page_at p → p < pages_of k → 1 ≤ old → old ≤ 2 → me.0.about ≡ k → me.0.hand ≡ None → 0 < has_role me.0 role → me.1 ≡ []
    → Allows (Ruled k) slots id me i (λ n. either (n == old) 3 n) (Took (step slots i old 3 maybe.none) me)
takes_from k slots p i id old role me is near lo hi about nothing some_role free =
    subst (λ (j : ℕ). Allows (Ruled k) slots id me j (λ n. either (n == old) 3 n) (Took (step slots j old 3 maybe.none) me)) (sym is)
    (subst (λ (l : List (ℕ × Lodged)). Allows (Ruled k) slots id (me.0, l) (page_at p) (λ n. either (n == old) 3 n) (Took (step slots (page_at p) old 3 maybe.none) (me.0, l))) (sym free)
    (taken k slots p id old role me.0 near lo hi about nothing some_role))
