-- What was read stays so, through a step on a page word, and a word that is read alone.
use Rattle.std.proofs.Common.{◌≡◌, ℕ, ◌+◌, ◌-◌, ◌<◌, ◌≤◌, ◌≢◌, ◌==◌, ◌&&◌, ◌⊎◌, Bool, true, false, List, ◌∷◌, length, set, Option, Some, None, if◌then◌else◌, inl, inr, refl, ap, sym, subst, ◌∙◌, arith, get_or-set_same, get_or-set_other}
use Prim.Native.Nat.{suc}
use mathlib.Core.Option.{some}
use mathlib.Core.Option as maybe
use lib.ListN.{get_elem?}
use Rattle.std.proofs.lemmas.Bool.{cases_eq, cases_lt, cases_Bool, eqb-true, ltb-true, and_parts}
use Rattle.atomic_table.specs.Table.{Allows, step, keeps}
use Rattle.bc_bits.specs.Counting.{one_if}
use Rattle.bc_bookmarks.specs.Targets.{HasCell}
use Rattle.bc_pins.specs.declared.views.Lodged.{Lodged}
use Rattle.bc_pins.specs.declared.views.Hand.{Hand}
use Rattle.bc_pins.specs.declared.views.View.{View}
use Rattle.bc_pins.specs.Key.{Key, pages_of, owner, page_at}
use Rattle.bc_pins.specs.Totals.{total, times}
use Rattle.bc_pins.specs.Contents.{IsBarePage}
use Rattle.bc_pins.specs.Views.{is_empty_handed, grips, grips_remembered, has_role, opened_word, reads_as}
use Rattle.bc_pins.specs.Facts.{Table, Lies, remembered_now, fetched_ever, Saw, page_word}
use Rattle.bc_pins.specs.Rule.{Rule, Ruled}
use Rattle.bc_pins.specs.Steps.{Mine, owns, having_read, ReadsWord, Looked}
use Rattle.bc_pins.proofs.NoticeLemmas.{claims_aside}
use Rattle.bc_pins.proofs.OwingLemmas.{owing_page}
use Rattle.bc_pins.proofs.TotalLemmas.{total_set, one_other, one_is, total_less}
use Rattle.bc_pins.proofs.WithholdLemmas.{added_other, noted_busy}
use Rattle.bc_pins.proofs.MarkedLemmas.{targets_kept}
use Rattle.bc_pins.proofs.LogLemmas.{reads-else, reads-here, reads-more, pages-else, held_read}
use Rattle.bc_pins.proofs.PageSteps.{after, page_step}
use Rattle.bc_pins.proofs.AloneLemmas.{none_held}

-- no two pages have one word
pub same_page : (p q : ℕ) → page_at p ≡ page_at q → p ≡ q
same_page p q e = omega arith

none_past : (n : ℕ) (a b : maybe.Option (maybe.Option Lodged)) (c : List ℕ) → 4 < n → Lies n a b c → ⊥
none_past n a b c more l =
    let m : ℕ = n - 5 in
    let is : n ≡ suc (suc (suc (suc (suc m)))) = omega arith in
    subst (λ (j : ℕ). Lies j a b c) is l

-- a word of a page is one of five
pub lies_few : (n : ℕ) (a b : maybe.Option (maybe.Option Lodged)) (c : List ℕ) → Lies n a b c → n ≤ 4
lies_few n a b c l = elim (cases_lt 4 n) [
  | inl more ↦ absurd (none_past n a b c more l)
  | inr le ↦ le
]

module _ (k : Key) (s : Table) (p x : ℕ) (homes : List (maybe.Option Lodged)) (id : ℕ) (v w : View) (at : get_elem? s.views id ≡ some v) (near : page_at p < length s.words)
    (not_fewer : one_if (page_word s p == 2) + grips_remembered p v.hand ≤ one_if (x == 2) + grips_remembered p w.hand)
    (else_remembered : (q : ℕ) → q ≢ p → grips_remembered q w.hand ≡ grips_remembered q v.hand) where
  abbrev t : Table
  t = after s p x homes id w

  word_here : page_word t p ≡ x
  word_here = get_or-set_same s.words (page_at p) x 0 near

  word_there : (q : ℕ) → q ≢ p → page_word t q ≡ page_word s q
  word_there q ne = get_or-set_other s.words (page_at p) (page_at q) x 0 (λ e. ne (omega arith))

  grows_here : remembered_now s p ≤ remembered_now t p
  grows_here =
      let a : one_if (page_word t p == 2) ≡ one_if (x == 2) = ap (λ (n : ℕ). one_if (n == 2)) word_here in
      let b = total_set (λ (u : View). grips_remembered p u.hand) s.views id v w at in
      omega arith

  pub now_grows : (q : ℕ) → remembered_now s q ≤ remembered_now t q
  now_grows q = elim (cases_eq q p) [
    | inl e ↦ subst (λ (n : ℕ). remembered_now s n ≤ remembered_now t n) (sym e) grows_here
    | inr ne ↦
        let a : one_if (page_word t q == 2) ≡ one_if (page_word s q == 2) = ap (λ (n : ℕ). one_if (n == 2)) (word_there q ne) in
        let b = total_set (λ (u : View). grips_remembered q u.hand) s.views id v w at in
        let c = else_remembered q ne in
        omega arith
  ]

  -- a seat that read nothing more, but where it took a page
  pub saw_kept : w.seen ≡ v.seen → w.gone ≡ v.gone → w.busy ≡ v.busy → w.roles ≡ v.roles → (page_word s p ≡ 4 → x ≡ 4) → ((q : ℕ) → 0 < grips q w.hand → 0 < reads_as q 1 w + reads_as q 2 w + times q w.fetched) → Saw k s v → Saw k t w
  saw_kept seen gone busy roles stays took old = record {
    seen = λ q lt. let was = old.seen q (subst (λ l. 0 < times q l) seen lt) in let has = was.1 in let more = now_grows q in (was.0, omega arith);
    gone = λ q lt.
        let was = old.gone q (subst (λ l. 0 < times q l) gone lt) in (
          was.0,
          subst (λ l. 0 < times (owner k q) l) (sym roles) was.1,
          elim (cases_eq q p) [
            | inl e ↦ ap (page_word t) e ∙ word_here ∙ stays (ap (page_word s) (sym e) ∙ was.2)
            | inr ne ↦ word_there q ne ∙ was.2
          ],
        );
    busy = λ q lt. subst (λ l. 0 < times (owner k q) l) (sym roles) (old.busy q (subst (λ l. 0 < times q l) busy lt));
    taken = took;
  }

pub choice_less : (b : Bool) (n : ℕ) → (if b then n else 0) ≤ n
choice_less true n = omega arith
choice_less false n = omega arith

flag_less : (p : ℕ) (h : Option Hand) → grips_remembered p h ≤ grips p h
flag_less p None = omega arith
flag_less p (Some h) = choice_less h.remembered (one_if (h.page == p))

-- a page that is Remembered now, where nobody has it in hand, is so by its word
pub remembered_word : (k : Key) (s : Table) (r : Rule k s) (p : ℕ) → p < pages_of k → page_word s p ≢ 3 → 0 < remembered_now s p → page_word s p ≡ 2
remembered_word k s r p near ne lt =
    let held = (r.place p near).held in
    let nobody_has : one_if (page_word s p == 3) ≡ 0 = one_other (page_word s p) 3 ne in
    let less = total_less (λ (u : View). grips_remembered p u.hand) (λ (u : View). grips p u.hand) s.views (λ u. flag_less p u.hand) in
    one_is (page_word s p) 2 (omega arith)

-- what a word says
pub reads : (k : Key) (s : Table) (r : Rule k s) (p id : ℕ) (v : View) → p < pages_of k → get_elem? s.views id ≡ some v → v.about ≡ k → ReadsWord v p (page_word s p)
reads k s r p id v near at about =
    let facts = (r.seats id v at).saw in
    let place = r.place p near in
    record {
      word = lies_few _ _ _ _ place.lies;
      bare = λ e. subst (λ (a : Key). IsBarePage a.opening p) (sym about) ((r.content p near).bare e);
      there = λ e. subst (λ (a : Key). HasCell a.opening p) (sym about) ((r.content p near).gone e).there;
      seen = λ lt ne. elim (cases_eq (page_word s p) 3) [
        | inl e ↦ e
        | inr other ↦ absurd (ne (remembered_word k s r p near other (facts.seen p lt).1))
      ];
      gone = λ lt. (facts.gone p lt).2;
      quiet = λ four two.
          let opened : one_if (opened_word k p == 2) ≡ 1 = ap (λ (n : ℕ). one_if (n == 2)) (subst (λ (a : Key). opened_word a p ≡ 2) about two) in
          let now = remembered_word k s r p near (λ x. omega arith) ((r.standing p near).remembered (omega arith)) in
          omega arith;
      alone = λ all nothing. none_held k s r id v at (λ n. all n ∙ ap (λ (a : Key). times n a.roles) about) nothing p near;
    }

-- a word that is read and stays
seen_more : (n q p : ℕ) (l : List ℕ) → 0 < times q (if n == 2 then p ∷ l else l) → (0 < times q l) ⊎ ((q ≡ p) × (n ≡ 2))
seen_more n q p l lt = elim (cases_Bool (n == 2)) [
  | inl on ↦ elim (cases_eq q p) [
    | inl e ↦ inr (e, eqb-true n 2 on)
    | inr ne ↦ inl (let was = subst (λ (b : Bool). 0 < times q (if b then p ∷ l else l)) on lt in let z = one_other p q (λ e. ne (sym e)) in omega arith)
  ]
  | inr off ↦ inl (subst (λ (b : Bool). 0 < times q (if b then p ∷ l else l)) off lt)
]

gone_more : (b : Bool) (q p : ℕ) (l : List ℕ) → 0 < times q (if b then p ∷ l else l) → (0 < times q l) ⊎ ((q ≡ p) × (b ≡ true))
gone_more true q p l lt = elim (cases_eq q p) [
  | inl e ↦ inr (e, refl)
  | inr ne ↦ inl (let z = one_other p q (λ e. ne (sym e)) in omega arith)
]
gone_more false q p l lt = inl lt

pub looked_saw : (k : Key) (s : Table) (p id : ℕ) (v : View) → get_elem? s.views id ≡ some v → page_at p < length s.words → p < pages_of k → v.about ≡ k → Saw k s v
    → Saw k (after s p (page_word s p) s.homes id (having_read v p (page_word s p))) (having_read v p (page_word s p))
looked_saw k s p id v at long near about old =
    let w : View = having_read v p (page_word s p) in
    let grows = now_grows k s p (page_word s p) s.homes id v w at long (omega arith) (λ q ne. refl) in
    let same : (q : ℕ) → page_word (after s p (page_word s p) s.homes id w) q ≡ page_word s q =
    λ q. elim (cases_eq q p) [ inl e ↦ ap (page_word (after s p (page_word s p) s.homes id w)) e ∙ get_or-set_same s.words (page_at p) (page_word s p) 0 long ∙ ap (page_word s) (sym e) | inr ne ↦ get_or-set_other s.words (page_at p) (page_at q) (page_word s p) 0 (λ e. ne (omega arith)) ] in
    record {
      seen = λ q lt. elim (seen_more (page_word s p) q p v.seen lt) [
        | inl was ↦ let a = old.seen q was in let c = a.1 in let b = grows q in (a.0, omega arith)
        | inr new ↦
            let a : one_if (page_word (after s p (page_word s p) s.homes id w) q == 2) ≡ 1 = ap (λ (n : ℕ). one_if (n == 2)) (same q ∙ ap (page_word s) new.0 ∙ new.1) in
            (subst (λ (n : ℕ). n < pages_of k) (sym new.0) near, omega arith)
      ];
      gone = λ q lt. elim (gone_more ((page_word s p == 4) && owns v p) q p v.gone lt) [
        | inl was ↦ let a = old.gone q was in (a.0, a.1, same q ∙ a.2)
        | inr new ↦
            let both = and_parts (page_word s p == 4) (owns v p) new.1 in
            let mine : 0 < has_role v (owner v.about p) = ltb-true 0 _ both.1 in (
              subst (λ (n : ℕ). n < pages_of k) (sym new.0) near,
              subst (λ (n : ℕ). 0 < has_role v (owner k n)) (sym new.0) (subst (λ (a : Key). 0 < has_role v (owner a p)) about mine),
              same q ∙ ap (page_word s) new.0 ∙ eqb-true (page_word s p) 4 both.0,
            )
      ];
      busy = λ q lt. elim (gone_more ((page_word s p == 3) && (owns v p && is_empty_handed v.hand)) q p v.busy lt) [
        | inl was ↦ old.busy q was
        | inr new ↦
            let both = and_parts (page_word s p == 3) (owns v p && is_empty_handed v.hand) new.1 in
            let own = and_parts (owns v p) (is_empty_handed v.hand) both.1 in
            let mine : 0 < has_role v (owner v.about p) = ltb-true 0 _ own.0 in
            subst (λ (n : ℕ). 0 < has_role v (owner k n)) (sym new.0) (subst (λ (a : Key). 0 < has_role v (owner a p)) about mine)
      ];
      taken = λ q lt.
          let a = old.taken q lt in
          let one = reads-more (page_at q) (page_at p) (page_word s p) 1 v.read in
          let two = reads-more (page_at q) (page_at p) (page_word s p) 2 v.read in
          omega arith;
    }

-- a word that was read as Held, and as Absent, Remembered or Gone
read_held : (k : Key) (s : Table) (r : Rule k s) (p : ℕ) (v : View) → p < pages_of k → reads_as p 3 v < reads_as p 3 (having_read v p (page_word s p)) → 0 < total (reads_as p 1) s.views + total (reads_as p 2) s.views + fetched_ever s p
read_held k s r p v near more =
    let a = reads-here (page_at p) (page_word s p) 3 v.read in
    held_read k s r p near (one_is (page_word s p) 3 (omega arith))

read_away : (n p : ℕ) (v : View) → reads_as p 0 v + reads_as p 2 v + reads_as p 4 v < reads_as p 0 (having_read v p n) + reads_as p 2 (having_read v p n) + reads_as p 4 (having_read v p n)
    → (n ≡ 0) ⊎ ((n ≡ 4) ⊎ (0 < one_if (n == 2) + grips_remembered p v.hand + times p v.fetched))
read_away n p v more =
    let a = reads-here (page_at p) n 0 v.read in
    let b = reads-here (page_at p) n 2 v.read in
    let c = reads-here (page_at p) n 4 v.read in
    elim (cases_eq n 0) [
      | inl e ↦ inl e
      | inr there ↦ elim (cases_eq n 4) [
        | inl e ↦ inr (inl e)
        | inr here ↦ inr (inr (let x = one_other n 0 there in let y = one_other n 4 here in omega arith))
      ]
    ]

pub look_step : (k : Key) (s : Table) (r : Rule k s) (p id role : ℕ) (v : View) → get_elem? s.views id ≡ some v → p < pages_of k → v.about ≡ k → 0 < has_role v role
    → Rule k (after s p (page_word s p) s.homes id (having_read v p (page_word s p)))
look_step k s r p id role v at near about some_role =
    let w : View = having_read v p (page_word s p) in
    let long = r.words in
    let wide : page_at p < length s.words = omega arith in
    let facts = r.seats id v at in
    let content = r.content p near in
    page_step k s r r.rec p (page_word s p) s.homes id v w at record {
      near = near;
      long = refl;
      else_home = λ i _ _. refl;
      lies = (r.place p near).lies;
      frame = λ f. refl;
      grip = refl;
      else_grip = λ q ne. refl;
      else_rec = λ q ne. refl;
      lane = λ _. refl;
      hands = λ _. refl;
      fixed = content.fixed;
      young = λ y. inl y;
      bare = content.bare;
      summarised = content.gone;
      not_fewer = omega arith;
      else_remembered = λ q ne. refl;
      again = λ turn lt. absurd (omega arith);
      put_back = omega arith;
      noted = λ lt. inl lt;
      kept = λ lt. absurd (omega arith);
      else_recorded = λ q ne. refl;
      went = omega arith;
      emptied = omega arith;
      else_fetched = λ q ne. refl;
      else_left = λ q ne. refl;
      else_emptied = λ q ne. refl;
      withheld = inr (omega arith);
      noted_busy = noted_busy k s r p id v near at about;
      else_returned = λ q ne. refl;
      else_busy = λ q ne. added_other ((page_word s p == 3) && (owns v p && is_empty_handed v.hand)) q p v.busy ne;
      stays = λ e. inl e;
      fetched_more = omega arith;
      stays_absent = λ e. e;
      read_more = λ n. reads-more (page_at p) (page_at p) (page_word s p) n v.read;
      read_held = read_held k s r p v near;
      read_away = read_away (page_word s p) p v;
      else_read = λ q n ne. pages-else p q (page_word s p) n v.read ne;
      far_read = λ j less. reads-else j (page_at p) (page_word s p) v.read (λ e. omega arith);
      count = λ q lt. refl;
      else_count = λ j q ne. refl;
      bookmarked = refl;
      put_more = λ q i b. omega arith;
      put_new = λ i b on. inl on;
      won = refl;
      known = refl;
      finished = refl;
      left_marked = λ e ne. absurd (ne e);
      marking = record { once = facts.marking.once; whose = facts.marking.whose; unmarked = facts.marking.unmarked };
      targets = targets_kept k s r.rec (set s.words (page_at p) (page_word s p)) s.homes id v w at (λ q. omega arith) refl refl facts.targets;
      roles = refl;
      seated = record {
        about = facts.seated.about;
        idle = λ e. let z : has_role v role ≡ 0 = ap (times role) e in absurd (omega arith);
      };
      records = record { mine = facts.records.mine; others = facts.records.others; unrecorded = facts.records.unrecorded; unfetched = facts.records.unfetched; in_hand = facts.records.in_hand };
      saw = looked_saw k s p id v at wide near about facts.saw;
    }

-- whatever the table is, a look keeps the rule and says what it found
looks : (k : Key) (slots p id role : ℕ) (me : Mine) → p < pages_of k → me.0.about ≡ k → 0 < has_role me.0 role → Allows (Ruled k) slots id me (page_at p) (λ n. n) (Looked (step slots (page_at p) 0 0 maybe.none) me)
looks k slots p id role me near about some_role s r size at fits = (
  having_read me.0 p (page_word s p),
  keeps,
  tt,
  record { facts = look_step k s r.facts p id role me.0 at near about some_role; claims = claims_aside k s _ _ id _ _ _ at (λ e. omega arith) refl r.claims; owing = λ turn. owing_page k s p _ _ id me.0 _ at near r.facts.words (λ low high. (low, high)) refl refl refl (r.owing turn) },
  record {
    view = λ q e. ap (λ (n : ℕ). (having_read me.0 n (page_word s p), me.1)) (same_page p q e);
    reads = λ q e. subst (λ (n : ℕ). ReadsWord me.0 n (page_word s p)) (same_page p q e) (reads k s r.facts p id me.0 near at about);
  },
)

pub looked : (k : Key) (slots p i id role : ℕ) (me : Mine) → i ≡ page_at p → p < pages_of k → me.0.about ≡ k → 0 < has_role me.0 role → Allows (Ruled k) slots id me i (λ n. n) (Looked (step slots i 0 0 maybe.none) me)
looked k slots p i id role me is near about some_role = subst (λ (j : ℕ). Allows (Ruled k) slots id me j (λ n. n) (Looked (step slots j 0 0 maybe.none) me)) (sym is) (looks k slots p id role me near about some_role)
