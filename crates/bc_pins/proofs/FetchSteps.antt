-- Taking a page from Gone, by the lane that holds its domain or by any where that is frozen.
use Rattle.std.proofs.Common.{◌≡◌, ℕ, ◌+◌, ◌<◌, ◌≤◌, ◌≢◌, ◌==◌, ◌⊎◌, Bool, true, false, List, [], ◌∷◌, length, set, None, if◌then◌else◌, inl, inr, refl, ap, sym, subst, ◌∙◌, arith, get_or-set_other}
use Prim.Native.Nat.{zero, suc}
use mathlib.Core.Option.{some}
use mathlib.Core.Option as maybe
use lib.ListN.{get_elem?}
use prog.Atomic.{either}
use Rattle.std.proofs.lemmas.Bool.{cases_eq, cases_lt, cases_Bool, eq-eqb, ne_eqb}
use Rattle.std.proofs.lemmas.List.{length-set}
use Rattle.atomic_table.specs.Table.{Act, Allows, Valid, stepped, carried_after, step, keeps, takes, chain}
use Rattle.atomic_table.proofs.Lists.{set_here, set_else, exchanged}
use Rattle.bc_bits.specs.Counting.{one_if}
use Rattle.bc_bookmarks.specs.Targets.{has_target_in, HasCell}
use Rattle.bc_pins.specs.declared.views.Lodged.{Lodged}
use Rattle.bc_pins.specs.declared.views.Lodged.TheVariants.{Nothing, Away}
use Rattle.bc_pins.specs.declared.views.Hand.{Hand}
use Rattle.bc_pins.specs.declared.views.View.{View}
use Rattle.bc_pins.specs.Key.{Key, pages_of, owner, IsFrozenIn, page_at, frame_slot, store_slot}
use Rattle.bc_pins.specs.Totals.{total, times}
use Rattle.bc_pins.specs.Contents.{IsContent, RefersYoung, objects_in}
use Rattle.bc_pins.specs.Views.{grips, grips_remembered, frame_in_hand, counted_for, grips_foreign, withholds, marked_for, has_role, opened_content, opened_word, record_of}
use Rattle.bc_pins.specs.Facts.{Table, slot, IsAway, Lies, remembered_now, RecordsContent, Saw, Marking, frame_lodged, points, page_word}
use Rattle.bc_pins.specs.Rule.{Rule, Ruled}
use Rattle.bc_pins.specs.Steps.{Mine, both_slots, fetching, without, named_below, having_read, ReadsWord, Fetches, Fetched}
use Rattle.bc_pins.proofs.NoticeLemmas.{claims_aside}
use Rattle.bc_pins.proofs.OwingLemmas.{owing_page}
use Rattle.bc_pins.proofs.TotalLemmas.{total_set, total_at, one_same, one_other, one_is, one_few}
use Rattle.bc_pins.proofs.LogLemmas.{reads-else, reads-here, reads-more, pages-else}
use Rattle.bc_pins.proofs.MarkedLemmas.{targets_kept}
use Rattle.bc_pins.proofs.PageSteps.{after, PageStep, page_step}
use Rattle.bc_pins.proofs.JoinLemmas.{look_none}
use Rattle.bc_pins.proofs.WithholdLemmas.{foreign_all, foreign_none}
use Rattle.bc_pins.proofs.ReadLemmas.{same_page, now_grows, remembered_word, reads, look_step}
use Rattle.bc_pins.proofs.TakeLemmas.{Slots, some_hand}

-- a list without a number has all others
pub times_without : (n : ℕ) (l : List ℕ) → times n (without n l) ≡ 0
times_without n [] = refl
times_without n (x ∷ l) = elim (cases_Bool (x == n)) [
  | inl on ↦ ap (λ (b : Bool). times n (if b then without n l else x ∷ without n l)) on ∙ times_without n l
  | inr off ↦ ap (λ (b : Bool). times n (if b then without n l else x ∷ without n l)) off ∙ (let a : one_if (x == n) ≡ 0 = ap one_if off in let b = times_without n l in omega arith)
]

pub times_left : (f n : ℕ) (l : List ℕ) → f ≢ n → times f (without n l) ≡ times f l
times_left f n [] ne = refl
times_left f n (x ∷ l) ne =
    let rest = times_left f n l ne in
    elim (cases_eq x n) [
      | inl e ↦ ap (λ (b : Bool). times f (if b then without n l else x ∷ without n l)) (eq-eqb x n e) ∙ (let a = one_other x f (λ z. ne (sym z ∙ e)) in omega arith)
      | inr other ↦ ap (λ (b : Bool). times f (if b then without n l else x ∷ without n l)) (ne_eqb x n other) ∙ (let y : times f (x ∷ without n l) ≡ times f (x ∷ l) = omega arith in y)
    ]

-- the superpages below a bound that a page names
pub named_past : (k : Key) (page : ℕ) (c : List ℕ) (n q : ℕ) → n ≤ q → times q (named_below k page c n) ≡ 0
unfolding named_below
named_past k page c zero q le = refl
named_past k page c (suc n) q le =
    let rest = named_past k page c n q (omega arith) in
    elim (cases_Bool (has_target_in (objects_in k.opening c) page n)) [
      | inl on ↦ ap (λ (b : Bool). times q (if b then n ∷ named_below k page c n else named_below k page c n)) on ∙ (let a = one_other n q (λ e. omega arith) in omega arith)
      | inr off ↦ ap (λ (b : Bool). times q (if b then n ∷ named_below k page c n else named_below k page c n)) off ∙ rest
    ]

pub named_here : (k : Key) (page : ℕ) (c : List ℕ) (n q : ℕ) → q < n → times q (named_below k page c n) ≡ points k page c q
unfolding named_below
named_here k page c zero q lt = absurd (omega arith)
named_here k page c (suc n) q lt = elim (cases_eq n q) [
  | inl e ↦
      let past = named_past k page c n q (omega arith) in
      elim (cases_Bool (has_target_in (objects_in k.opening c) page n)) [
        | inl on ↦
            ap (λ (b : Bool). times q (if b then n ∷ named_below k page c n else named_below k page c n)) on
            ∙ (let a : one_if (n == q) ≡ 1 = ap one_if (eq-eqb n q e) in let b : points k page c n ≡ 1 = ap one_if on in let d : points k page c n ≡ points k page c q = ap (points k page c) e in omega arith)
        | inr off ↦
            ap (λ (b : Bool). times q (if b then n ∷ named_below k page c n else named_below k page c n)) off
            ∙ (let b : points k page c n ≡ 0 = ap one_if off in let d : points k page c n ≡ points k page c q = ap (points k page c) e in omega arith)
      ]
  | inr ne ↦
      let rest = named_here k page c n q (omega arith) in
      elim (cases_Bool (has_target_in (objects_in k.opening c) page n)) [
        | inl on ↦ ap (λ (b : Bool). times q (if b then n ∷ named_below k page c n else named_below k page c n)) on ∙ (let a = one_other n q ne in omega arith)
        | inr off ↦ ap (λ (b : Bool). times q (if b then n ∷ named_below k page c n else named_below k page c n)) off ∙ rest
      ]
]

pub named_once : (k : Key) (page : ℕ) (c : List ℕ) (n q : ℕ) → times q (named_below k page c n) ≤ 1
named_once k page c n q = elim (cases_lt q n) [
  | inl lt ↦ let a = named_here k page c n q lt in let b = one_few (has_target_in (objects_in k.opening c) page q) in omega arith
  | inr le ↦ let a = named_past k page c n q le in omega arith
]

module _ (k : Key) (s : Table) (r : Rule k s) (p id frame role : ℕ) (v : View) (at : get_elem? s.views id ≡ some v) (near : p < pages_of k) (is : page_word s p ≡ 4)
    (about : v.about ≡ k) (nothing : v.hand ≡ None) (some_role : 0 < has_role v role) (may : (0 < has_role v (owner k p)) ⊎ IsFrozenIn k p) (right : v.rights ≡ frame ∷ []) where
  abbrev c : List ℕ
  c = r.rec p

  abbrev w : View
  w = fetching v p c frame

  abbrev homes : Slots
  homes = set (set s.homes (store_slot k p) maybe.none) (frame_slot k p) maybe.none

  abbrev t : Table
  t = after s p 3 homes id w

  wide : page_at p < length s.words
  wide = let long = r.words in omega arith

  lies : IsAway (slot s (frame_slot k p)) (slot s (store_slot k p)) c
  lies = subst (λ (n : ℕ). Lies n (slot s (frame_slot k p)) (slot s (store_slot k p)) c) is (r.place p near).lies

  no_grip : (q : ℕ) → grips q v.hand ≡ 0
  no_grip q = ap (grips q) nothing

  no_flag : (q : ℕ) → grips_remembered q v.hand ≡ 0
  no_flag q = ap (grips_remembered q) nothing

  word_is : (n : ℕ) → n ≢ 4 → one_if (page_word s p == n) ≡ 0
  word_is n ne = one_other (page_word s p) n (λ e. ne (sym e ∙ is))

  four_is : one_if (page_word s p == 4) ≡ 1
  four_is = ap (λ (n : ℕ). one_if (n == 4)) is

  not_now : remembered_now s p ≡ 0
  not_now = elim (cases_lt 0 (remembered_now s p)) [
    | inl lt ↦ let two = remembered_word k s r p near (λ e. omega arith) lt in absurd (omega arith)
    | inr le ↦ omega arith
  ]

  frames_kept : (f : ℕ) → total (frame_lodged f) homes + (frame_in_hand f w.hand + times f w.rights) ≡ total (frame_lodged f) s.homes + (frame_in_hand f v.hand + times f v.rights)
  frames_kept f =
      let a = total_set (frame_lodged f) s.homes (store_slot k p) (some (Away c)) maybe.none lies.1 in
      let b = total_set (frame_lodged f) (set s.homes (store_slot k p) maybe.none) (frame_slot k p) (some Nothing) maybe.none (set_else s.homes (store_slot k p) (frame_slot k p) maybe.none (λ e. omega arith) ∙ lies.0) in
      let d : frame_in_hand f v.hand ≡ 0 = ap (frame_in_hand f) nothing in
      let e : times f v.rights ≡ one_if (frame == f) + 0 = ap (times f) right in
      let g : times f (without frame v.rights) ≡ 0 = ap (λ (l : List ℕ). times f (without frame l)) right ∙ ap (λ (b : Bool). times f (if b then [] else frame ∷ [])) (eq-eqb frame frame refl) in
      omega arith

  records_kept : RecordsContent k r.rec w
  records_kept =
      let old = (r.seats id v at).records in
      record {
        mine = old.mine;
        others = old.others;
        unrecorded = old.unrecorded;
        unfetched = λ q z held.
            let was = old.unfetched q z held in
            let ne : p ≢ q = λ e. elim may [
              | inl mine ↦ absurd (let same : has_role v (owner k p) ≡ has_role v (owner k q) = ap (λ (n : ℕ). has_role v (owner k n)) e in omega arith)
              | inr frozen ↦ absurd (held (subst (IsFrozenIn k) e frozen))
            ] in
            let other = one_other p q ne in
            omega arith;
        in_hand = λ g e. subst (λ (x : Hand). (x.page < pages_of k) × (x.content ≡ r.rec x.page)) (some_hand _ g e) (near, refl);
      }

  no_count : (j q : ℕ) → counted_for j q v.hand ≡ 0
  no_count j q = ap (counted_for j q) nothing

  counts_here : (q : ℕ) → q < k.supers → counted_for p q w.hand ≡ points k p c q
  counts_here q lt =
      ap (λ (b : Bool). if b then times q (named_below v.about p c v.about.supers) else 0) (eq-eqb p p refl)
      ∙ ap (λ (a : Key). times q (named_below a p c a.supers)) about ∙ named_here k p c k.supers q lt

  counts_else : (j q : ℕ) → j ≢ p → counted_for j q w.hand ≡ 0
  counts_else j q ne = ap (λ (b : Bool). if b then times q (named_below v.about p c v.about.supers) else 0) (ne_eqb p j (λ e. ne (sym e)))

  marking_kept : Marking w
  marking_kept =
      let old = (r.seats id v at).marking in
      let given_up : (j : ℕ) → 0 < marked_for j v.bookmarked → 0 < times j v.left = λ j lt. elim (old.whose j lt) [
        | inl held ↦ let none_held = no_grip j in absurd (omega arith)
        | inr gone ↦ gone
      ] in
      record {
        once = λ g e q. subst (λ (x : Hand). times q x.counted ≤ 1) (some_hand _ g e) (named_once v.about p c v.about.supers q);
        whose = λ j lt. inr (given_up j lt);
        unmarked = λ g e _ lt. given_up g.page lt;
      }

  saw_now : Saw k t w
  saw_now =
      let old = (r.seats id v at).saw in
      let two = word_is 2 (λ e. omega arith) in
      let flag = no_flag p in
      let none_else : (q : ℕ) → q ≢ p → grips_remembered q w.hand ≡ grips_remembered q v.hand = λ q ne. sym (no_flag q) in
      record {
        seen = λ q lt. let was = old.seen q lt in let has = was.1 in let more = now_grows k s p 3 homes id v w at wide (omega arith) none_else q in (was.0, omega arith);
        gone = λ q lt.
            let ne : q ≢ p = λ e. absurd (let z = times_without p v.gone in let same : times q (without p v.gone) ≡ times p (without p v.gone) = ap (λ (n : ℕ). times n (without p v.gone)) e in omega arith) in
            let left = times_left q p v.gone ne in
            let was = old.gone q (omega arith) in
            (was.0, was.1, get_or-set_other s.words (page_at p) (page_at q) 3 0 (λ e. ne (omega arith)) ∙ was.2);
        busy = λ q lt.
            let ne : q ≢ p = λ e. absurd (let z = times_without p v.busy in let same : times q (without p v.busy) ≡ times p (without p v.busy) = ap (λ (n : ℕ). times n (without p v.busy)) e in omega arith) in
            let left = times_left q p v.busy ne in
            old.busy q (omega arith);
        taken = λ q lt. let e = one_is p q lt in let one : one_if (p == q) ≡ 1 = ap one_if (eq-eqb p q e) in omega arith;
      }

  allowed : (0 < has_role v (owner k p)) ⊎ (owner k p ≡ 0)
  allowed = elim may [ inl mine ↦ inl mine | inr frozen ↦ inr frozen.1 ]

  -- a page that isn't the seat's own is in a stranger's hands now
  withheld_now : ((times p w.busy ≡ 0) × (0 < has_role v (owner k p)))
      ⊎ (withholds k p v + one_if (page_word s p == 4) + one_if (page_word s p == 0) ≤ withholds k p w + one_if (3 == 4) + one_if (3 == 0))
  withheld_now = elim (cases_eq (has_role v (owner k p)) 0) [
    | inl none_has ↦ inr (
        let a : grips_foreign k p v ≡ 0 = foreign_none k p v nothing in
        let b : grips_foreign k p w ≡ one_if (p == p) = foreign_all k p w none_has in
        let one = one_same p in
        let four = four_is in
        let none_zero = word_is 0 (λ e. omega arith) in
        omega arith)
    | inr has ↦ inl (times_without p v.busy, omega arith)
  ]

  fetch_step : PageStep k s r.rec r.rec p 3 homes id v w
  fetch_step =
      let slots = r.slots in
      let a = no_grip p in
      let b = no_flag p in
      let two = word_is 2 (λ e. omega arith) in
      let three = word_is 3 (λ e. omega arith) in
      let none_zero = word_is 0 (λ e. omega arith) in
      let four = four_is in
      let one = one_same p in
      let long : length (set s.homes (store_slot k p) maybe.none) ≡ length s.homes = length-set s.homes (store_slot k p) maybe.none in
      record {
        near = near;
        long = length-set (set s.homes (store_slot k p) maybe.none) (frame_slot k p) maybe.none ∙ long;
        else_home = λ i x y. set_else (set s.homes (store_slot k p) maybe.none) (frame_slot k p) i maybe.none x ∙ set_else s.homes (store_slot k p) i maybe.none y;
        lies = (
          set_here (set s.homes (store_slot k p) maybe.none) (frame_slot k p) maybe.none (omega arith),
          set_else (set s.homes (store_slot k p) maybe.none) (frame_slot k p) (store_slot k p) maybe.none (λ x. omega arith) ∙ set_here s.homes (store_slot k p) maybe.none (omega arith),
        );
        frame = frames_kept;
        grip = omega arith;
        else_grip = λ q ne. one_other p q (λ x. ne (sym x)) ∙ sym (no_grip q);
        else_rec = λ q ne. refl;
        lane = λ _. refl;
        hands = λ _. refl;
        fixed = (r.content p near).fixed;
        young = λ y. inl y;
        bare = λ z. absurd (omega arith);
        summarised = λ e. absurd (omega arith);
        not_fewer = omega arith;
        else_remembered = λ q ne. sym (no_flag q);
        again = λ turn lt. absurd (omega arith);
        put_back = omega arith;
        noted = λ lt. absurd (omega arith);
        kept = λ lt. absurd (omega arith);
        else_recorded = λ q ne. refl;
        went = omega arith;
        emptied = omega arith;
        else_fetched = λ q ne. let z = one_other p q (λ x. ne (sym x)) in omega arith;
        else_left = λ q ne. refl;
        else_emptied = λ q ne. refl;
        withheld = withheld_now;
        noted_busy = λ lt. absurd (let z = times_without p v.busy in omega arith);
        else_returned = λ q ne. refl;
        else_busy = λ q ne. times_left q p v.busy ne;
        stays = λ _. inr (allowed, omega arith);
        fetched_more = omega arith;
        stays_absent = λ x. absurd (omega arith);
        read_more = λ n. reads-more (page_at p) (page_at p) 4 n v.read;
        read_held = λ lt. absurd (let z = reads-here (page_at p) 4 3 v.read in omega arith);
        read_away = λ lt. inr (inr (omega arith));
        else_read = λ q n ne. pages-else p q 4 n v.read ne;
        far_read = λ j less. reads-else j (page_at p) 4 v.read (λ e. omega arith);
        count = λ q lt. let h = counts_here q lt in let d = no_count p q in let e : (if page_word s p == 4 then points k p c q else 0) ≡ points k p c q = ap (λ (b : Bool). if b then points k p c q else 0) (eq-eqb (page_word s p) 4 is) in omega arith;
        else_count = λ j q ne. counts_else j q ne ∙ sym (no_count j q);
        bookmarked = refl;
        put_more = λ q i b. omega arith;
        put_new = λ i b on. inl on;
        won = refl;
        known = refl;
        finished = refl;
        left_marked = λ e. absurd (omega arith);
        marking = marking_kept;
        targets = targets_kept k s r.rec (set s.words (page_at p) 3) homes id v w at (λ q. omega arith) refl refl (r.seats id v at).targets;
        roles = refl;
        seated = record { about = (r.seats id v at).seated.about; idle = λ e. let z : has_role v role ≡ 0 = ap (times role) e in absurd (omega arith) };
        records = records_kept;
        saw = saw_now;
      }

  pub fetch_rule : Rule k t
  fetch_rule = page_step k s r r.rec p 3 homes id v w at fetch_step

  -- what a seat records of a page whose domain nobody holds is the opening's
  record_kept : c ≡ record_of v p
  record_kept =
      let facts = r.seats id v at in
      elim may [
        | inl mine ↦ facts.records.mine p mine
        | inr frozen ↦
            let none_given : times (owner k p) k.roles ≡ 0 = ap (λ (n : ℕ). times n k.roles) frozen.1 ∙ r.roles.nobody in
            let own = total_at (λ (u : View). times (owner k p) u.roles) s.views id v at in
            let each = r.roles.each (owner k p) in
            r.unowned p none_given ∙ ap (λ (a : Key). opened_content a p) (sym about)
            ∙ sym (look_none p v.changed (opened_content v.about p) (facts.records.others p (omega arith)))
      ]

  pub fetch_told : Fetches v p c
  fetch_told =
      let facts = r.seats id v at in
      let place = r.content p near in
      let standing = r.standing p near in
      let none_now = not_now in
      record {
        mine = record_kept;
        unowned = λ nobody. r.unowned p (subst (λ (a : Key). times (owner a p) k.roles ≡ 0) about (ap (λ (n : ℕ). times n k.roles) nobody ∙ r.roles.nobody)) ∙ ap (λ (a : Key). opened_content a p) (sym about);
        fixed = subst (λ (a : Key). IsContent a.opening p c) (sym about) place.fixed;
        there = subst (λ (a : Key). HasCell a.opening p) (sym about) (place.gone is).there;
        old = λ y. absurd (let now = place.young (subst (λ (a : Key). RefersYoung a.opening p c) about y) in omega arith);
        quiet = subst (λ (a : Key). one_if (opened_word a p == 2) + times p v.recorded ≡ 0) (sym about) (
            let own = total_at (λ (u : View). times p u.recorded) s.views id v at in
            elim (cases_lt 0 (one_if (opened_word k p == 2) + times p v.recorded)) [
              | inl lt ↦ let now = standing.remembered (omega arith) in absurd (omega arith)
              | inr le ↦ omega arith
            ]);
      }

-- nobody may take a page from Gone in a mark turn
no_fetch : (k : Key) (s : Table) (r : Rule k s) (p id : ℕ) (v : View) → get_elem? s.views id ≡ some v → (0 < has_role v (owner k p)) ⊎ IsFrozenIn k p → k.lanes ≡ false → ⊥
no_fetch k s r p id v at may turn = elim may [
  | inl mine ↦
      let none_has = r.unheld turn p in
      let each = r.roles.each (owner k p) in
      let own = total_at (λ (z : View). times (owner k p) z.roles) s.views id v at in
      absurd (omega arith)
  | inr frozen ↦ clash (sym turn ∙ frozen.0)
]
  where
    clash : false ≡ true → ⊥
    clash e = cc

-- whatever the table is, a try to take a page from Gone keeps the rule and says what it found
pub fetched : (k : Key) (slots p id frame role : ℕ) (v : View) → p < pages_of k → v.about ≡ k → v.hand ≡ None → 0 < has_role v role → (0 < has_role v (owner k p)) ⊎ IsFrozenIn k p → v.rights ≡ frame ∷ []
    → Allows (Ruled k) slots id (v, []) (page_at p) (λ n. either (n == 4) 3 n) (Fetched (step slots (page_at p) 4 3 maybe.none) (v, []))
fetched k slots p id frame role v near about nothing some_role may right s r size at fits =
    exchanged (page_word s p) 4 3
    (λ n. (w : View) × (a : Act Lodged) × Valid s.homes [] a × Ruled k (stepped s (page_at p) n id [] w a) × Fetched (step slots (page_at p) 4 3 maybe.none) (v, []) (page_word s p) (w, carried_after [] a))
    (λ e.
    let away = lies k s r.facts p id frame role v at near e about nothing some_role may right in (
      fetching v p (r.facts.rec p) frame,
      chain (takes (store_slot k p) (Away (r.facts.rec p))) (takes (frame_slot k p) Nothing),
      (away.1, set_else s.homes (store_slot k p) (frame_slot k p) maybe.none (λ x. omega arith) ∙ away.0),
      record { facts = fetch_rule k s r.facts p id frame role v at near e about nothing some_role may right; claims = claims_aside k s _ _ id _ _ _ at (λ e. omega arith) refl r.claims; owing = λ turn. owing_page k s p _ _ id v _ at near r.facts.words (λ _ _. absurd (no_fetch k s r.facts p id v at may turn)) refl refl refl (r.owing turn) },
      record {
        hit = λ q f is one _. subst
            (λ (n : ℕ). (x : List ℕ) × ◌≡◌ {A = Mine} (fetching v p (r.facts.rec p) frame, both_slots k p Nothing (Away (r.facts.rec p))) (fetching v n x f, both_slots v.about n Nothing (Away x)) × Fetches v n x) (same_page p q is)
            (r.facts.rec p, ap (λ (j : ℕ). (fetching v p (r.facts.rec p) j, both_slots k p Nothing (Away (r.facts.rec p)))) (same_frame frame f (sym right ∙ one)) ∙ ap (λ (a : Key). (fetching v p (r.facts.rec p) f, both_slots a p Nothing (Away (r.facts.rec p)))) (sym about), fetch_told k s r.facts p id frame role v at near e about nothing some_role may right);
        miss = λ q is ne. absurd (ne e);
      },
    ))
    (λ ne. (
      having_read v p (page_word s p),
      keeps,
      tt,
      record { facts = look_step k s r.facts p id role v at near about some_role; claims = claims_aside k s _ _ id _ _ _ at (λ e. omega arith) refl r.claims; owing = λ turn. owing_page k s p _ _ id v _ at near r.facts.words (λ low high. (low, high)) refl refl refl (r.owing turn) },
      record {
        hit = λ q f is one e. absurd (ne e);
        miss = λ q is _. (
          ap (λ (n : ℕ). (having_read v n (page_word s p), [])) (same_page p q is),
          subst (λ (n : ℕ). ReadsWord v n (page_word s p)) (same_page p q is) (reads k s r.facts p id v near at about),
        );
      },
    ))
  where
    same_frame : (a b : ℕ) → a ∷ [] ≡ b ∷ [] → a ≡ b
    same_frame a b e = cc

pub fetches_from : (k : Key) (slots p i id frame role : ℕ) (me : Mine) → i ≡ page_at p → p < pages_of k → me.0.about ≡ k → me.0.hand ≡ None → 0 < has_role me.0 role → (0 < has_role me.0 (owner k p)) ⊎ IsFrozenIn k p → me.0.rights ≡ frame ∷ [] → me.1 ≡ []
    → Allows (Ruled k) slots id me i (λ n. either (n == 4) 3 n) (Fetched (step slots i 4 3 maybe.none) me)
fetches_from k slots p i id frame role me is near about nothing some_role may right free =
    subst (λ (j : ℕ). Allows (Ruled k) slots id me j (λ n. either (n == 4) 3 n) (Fetched (step slots j 4 3 maybe.none) me)) (sym is)
    (subst (λ (l : List (ℕ × Lodged)). Allows (Ruled k) slots id (me.0, l) (page_at p) (λ n. either (n == 4) 3 n) (Fetched (step slots (page_at p) 4 3 maybe.none) (me.0, l))) (sym free)
    (fetched k slots p id frame role me.0 near about nothing some_role may right))
