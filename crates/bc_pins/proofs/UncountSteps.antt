-- Counting a superpage no more for a page in hand.
use Rattle.std.proofs.Common.{◌≡◌, ℕ, ◌+◌, ◌-◌, ◌%◌, ◌^◌, ◌<◌, ◌≤◌, ◌≢◌, ◌==◌, Bool, if◌then◌else◌, set, Some, inl, inr, refl, ap, sym, subst, ◌∙◌, arith, get_or-set_same, get_or-set_other}
use mathlib.Core.Option.{some}
use mathlib.Core.Option as maybe
use lib.ListN.{get_elem?}
use Rattle.std.specs.Int.{bit_at}
use Rattle.std.proofs.lemmas.Bool.{cases_eq, eq-eqb, ne_eqb}
use Rattle.atomic_table.specs.Table.{Allows, step, keeps}
use Rattle.bc_bits.specs.Counting.{one_if}
use Rattle.bc_pins.specs.declared.views.Hand.{Hand}
use Rattle.bc_pins.specs.declared.views.View.{View}
use Rattle.bc_pins.specs.Key.{Key, pages_of, counter_at, bookmark_at, page_at}
use Rattle.bc_pins.specs.Totals.{times}
use Rattle.bc_pins.specs.Views.{grips, grips_remembered, frame_in_hand, counted_for, marked_for, has_role}
use Rattle.bc_pins.specs.Facts.{Table, word, points, adds_to, Counters, Marking, page_word}
use Rattle.bc_pins.specs.Rule.{Rule, Ruled}
use Rattle.bc_pins.specs.Steps.{Mine, discounting, without, Discounted}
use Rattle.bc_pins.proofs.NoticeLemmas.{claims_aside}
use Rattle.bc_pins.proofs.OwingLemmas.{owing_aside}
use Rattle.bc_pins.proofs.TotalLemmas.{total_set}
use Rattle.bc_pins.proofs.SumLemmas.{sum_one}
use Rattle.bc_pins.proofs.MarkedLemmas.{targets_kept}
use Rattle.bc_pins.proofs.LogLemmas.{reads-else, reads-more}
use Rattle.bc_pins.proofs.TracingLemmas.{KeepsMarks, keeps_set, knows_read, tracing_kept}
use Rattle.bc_pins.proofs.SideSteps.{aside, SideStep, side_step, counters_same, bits_same, frames_same, keeps_aside}
use Rattle.bc_pins.proofs.TakeLemmas.{some_hand}
use Rattle.bc_pins.proofs.MarkSteps.{seated_kept, records_kept}
use Rattle.bc_pins.proofs.FetchSteps.{times_without, times_left}

module _ (k : Key) (s : Table) (r : Rule k s) (id role : ℕ) (v : View) (h : Hand) (at : get_elem? s.views id ≡ some v) (about : v.about ≡ k) (has_one : v.hand ≡ Some h) (some_role : 0 < has_role v role)
    (q found : ℕ) (lt : q < k.supers) (counted : 0 < times q h.counted) (fits : word s (counter_at k q) < 2 ^ 64) where
  abbrev i : ℕ
  i = counter_at k q

  abbrev x : ℕ
  x = (word s i + (2 ^ 64 - 1)) % 2 ^ 64

  abbrev u : View
  u = discounting v h q found

  abbrev t : Table
  t = aside s i x id u

  near : h.page < pages_of k
  near = ((r.seats id v at).records.in_hand h has_one).0

  here : word t i ≡ x
  here = let long = r.words in get_or-set_same s.words i x 0 (omega arith)

  page_same : (p : ℕ) → p < pages_of k → page_word t p ≡ page_word s p
  page_same p less = get_or-set_other s.words i (page_at p) x 0 (λ e. omega arith)

  mine_counted : (p : ℕ) → counted_for p q v.hand ≡ (if h.page == p then times q h.counted else 0)
  mine_counted p = ap (counted_for p q) has_one

  once : times q h.counted ≡ 1
  once = let few = (r.seats id v at).marking.once h has_one q in omega arith

  counts_else : (p : ℕ) → p < pages_of k → p ≢ h.page → adds_to k t r.rec q p ≡ adds_to k s r.rec q p
  counts_else p less ne =
      let a : (if page_word t p == 4 then points k p (r.rec p) q else 0) ≡ (if page_word s p == 4 then points k p (r.rec p) q else 0) = ap (λ (n : ℕ). if n == 4 then points k p (r.rec p) q else 0) (page_same p less) in
      let b = total_set (λ (z : View). counted_for p q z.hand) s.views id v u at in
      let c : counted_for p q u.hand ≡ 0 = ap (λ (b : Bool). if b then times q (without q h.counted) else 0) (ne_eqb h.page p (λ e. ne (sym e))) in
      let d : counted_for p q v.hand ≡ 0 = mine_counted p ∙ ap (λ (b : Bool). if b then times q h.counted else 0) (ne_eqb h.page p (λ e. ne (sym e))) in
      omega arith

  counts_here : adds_to k t r.rec q h.page + 1 ≡ adds_to k s r.rec q h.page
  counts_here =
      let a : (if page_word t h.page == 4 then points k h.page (r.rec h.page) q else 0) ≡ (if page_word s h.page == 4 then points k h.page (r.rec h.page) q else 0) = ap (λ (n : ℕ). if n == 4 then points k h.page (r.rec h.page) q else 0) (page_same h.page near) in
      let b = total_set (λ (z : View). counted_for h.page q z.hand) s.views id v u at in
      let self = eq-eqb h.page h.page refl in
      let c : counted_for h.page q u.hand ≡ times q (without q h.counted) = ap (λ (b : Bool). if b then times q (without q h.counted) else 0) self in
      let d : counted_for h.page q v.hand ≡ times q h.counted = mine_counted h.page ∙ ap (λ (b : Bool). if b then times q h.counted else 0) self in
      let none_left = times_without q h.counted in
      let one = once in
      omega arith

  counters_now : (j : ℕ) → j < k.supers → Counters k t r.rec j
  counters_now j less = elim (cases_eq j q) [
    | inl e ↦ subst (λ (n : ℕ). Counters k t r.rec n) (sym e) (
        let sum = r.counters q lt in
        let one = sum_one (adds_to k t r.rec q) (adds_to k s r.rec q) (pages_of k) h.page near counts_else in
        let a = counts_here in
        let b = here in
        omega arith)
    | inr ne ↦ counters_same k s r i x id v u j at (omega arith) less (λ e. ne (omega arith)) (λ p.
        ap (λ (n : ℕ). if h.page == p then n else 0) (times_left j q h.counted ne) ∙ sym (ap (counted_for p j) has_one))
  ]

  marking_now : Marking u
  marking_now =
      let old = (r.seats id v at).marking in
      record {
        once = λ z e j. subst (λ (g : Hand). times j g.counted ≤ 1) (some_hand _ z e) (elim (cases_eq j q) [
          | inl is ↦ let a = times_without q h.counted in let b : times j (without q h.counted) ≡ times q (without q h.counted) = ap (λ (n : ℕ). times n (without q h.counted)) is in omega arith
          | inr ne ↦ let a = times_left j q h.counted ne in let b = old.once h has_one j in omega arith
        ]);
        whose = λ p on. elim (old.whose p on) [ inl held ↦ inl (let a : grips p v.hand ≡ one_if (h.page == p) = ap (grips p) has_one in omega arith) | inr gone ↦ inr gone ];
        unmarked = λ z e none_set on.
            let is = some_hand _ z e in
            subst (λ (g : Hand). 0 < times g.page v.left) is
            (old.unmarked h has_one (ap (λ (g : Hand). g.marked) is ∙ none_set) (subst (λ (g : Hand). 0 < marked_for g.page v.bookmarked) (sym is) on));
      }

  marks_kept : KeepsMarks k s t
  marks_kept = keeps_aside k s i x id v u at (omega arith) (omega arith) (λ j b less one. ap (λ (n : ℕ). bit_at n b) (get_or-set_other s.words i (bookmark_at k j) x 0 (λ e. omega arith)) ∙ one) refl refl

  uncount_step : SideStep k s r.rec i x id v u
  uncount_step =
      let size = r.words in
      record {
        far = omega arith;
        stay = λ turn. keeps_set k s t marks_kept;
        knows = λ turn. knows_read k s t v u (keeps_set k s t marks_kept) ((r.seats id v at).knows turn) refl (λ j less. reads-else j (counter_at v.about q) found v.read (λ e. let f = ap (λ (a : Key). counter_at a q) about in omega arith));
        tracing = λ turn. tracing_kept k s t marks_kept (r.tracing turn);
        grip = λ p. sym (ap (grips p) has_one);
        flag = λ p. sym (ap (grips_remembered p) has_one);
        recorded = refl;
        left = refl;
        emptied = refl;
        fetched = refl;
        changed = refl;
        returned = refl;
        busy = refl;
        seen = refl;
        gone = refl;
        roles = refl;
        read = λ j ne. reads-else j (counter_at v.about q) found v.read (λ e. ne (sym e ∙ ap (λ (a : Key). counter_at a q) about));
        read_more = λ j n. reads-more j (counter_at v.about q) found n v.read;
        seated = seated_kept k s r id role v h at about has_one some_role u refl refl refl;
        records = records_kept k s r id role v h at about has_one some_role u (record h { counted = without q h.counted }) refl refl refl refl refl refl refl refl;
        marking = marking_now;
        targets = targets_kept k s r.rec (set s.words i x) s.homes id v u at (λ q. omega arith) refl refl (r.seats id v at).targets;
        set = λ j b less one. ap (λ (n : ℕ). bit_at n b) (get_or-set_other s.words i (bookmark_at k j) x 0 (λ e. omega arith)) ∙ one;
        counters = counters_now;
        bits = λ j b less few. bits_same k s r i x id v u j b at less few (λ e. omega arith) refl;
        frames = frames_same k s r i x id v u at (λ j less e. omega arith) (λ f. ap (λ (n : ℕ). n + times f v.rights) (sym (ap (frame_in_hand f) has_one)));
      }

  pub uncount_rule : Rule k t
  uncount_rule = side_step k s r i x id v u at uncount_step

pub uncounts_from : (k : Key) (slots id role : ℕ) (me : Mine) (h : Hand) (q i : ℕ) → i ≡ counter_at k q → q < k.supers → me.0.about ≡ k → me.0.hand ≡ Some h → 0 < has_role me.0 role → 0 < times q h.counted
    → Allows (Ruled k) slots id me i (λ n. (n + (2 ^ 64 - 1)) % 2 ^ 64) (Discounted (step slots i 1 0 maybe.none) me)
uncounts_from k slots id role me h q i is lt about has_one some_role counted s r size at fits = (
  discounting me.0 h q (word s i),
  keeps,
  tt,
  record {
    facts = subst (λ (j : ℕ). Rule k (aside s j ((word s j + (2 ^ 64 - 1)) % 2 ^ 64) id (discounting me.0 h q (word s i)))) (sym is)
        (uncount_rule k s r.facts id role me.0 h at about has_one some_role q (word s i) lt counted (subst (λ (j : ℕ). word s j < 2 ^ 64) is fits));
    claims = claims_aside k s _ _ id _ _ _ at (λ e. omega arith) refl r.claims;
    owing = λ turn. owing_aside k s i _ id me.0 _ at (omega arith) (omega arith) refl refl refl (r.owing turn);
  },
  record {
    view = λ g x e f.
        let same = some_hand h g (sym has_one ∙ e) in
        let word_is : q ≡ x = (let a : counter_at me.0.about x ≡ counter_at k x = ap (λ (z : Key). counter_at z x) about in omega arith) in
        ap (λ (z : Hand). (discounting me.0 z q (word s i), me.1)) same ∙ ap (λ (n : ℕ). (discounting me.0 g n (word s i), me.1)) word_is;
  },
)
