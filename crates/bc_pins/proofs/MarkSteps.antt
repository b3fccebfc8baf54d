-- Setting bookmark bits for the page in hand, and counting a superpage for it.
use Rattle.std.proofs.Common.{◌≡◌, ℕ, ◌+◌, ◌*◌, ◌/◌, ◌%◌, ◌^◌, ◌<◌, ◌≤◌, ◌≢◌, ◌==◌, Bool, true, false, if◌then◌else◌, List, [], ◌∷◌, Option, Some, None, max, bit_or, length, get_or, set, inl, inr, refl, ap, sym, subst, ◌∙◌, arith, get_or-set_same, get_or-set_other, ◌&&◌}
use mathlib.Core.Option.{some}
use mathlib.Core.Option as maybe
use lib.ListN.{get_elem?}
use Rattle.std.specs.Int.{bit_at}
use Rattle.std.proofs.lemmas.Bool.{cases_eq, cases_lt, cases_Bool, eq-eqb, eqb-true, ne_eqb}
use Rattle.std.proofs.lemmas.Nat.Bits.{bit_at_or}
use Rattle.std.proofs.lemmas.Option.{same_Some}
use Rattle.atomic_table.specs.Table.{Allows, step, keeps}
use Rattle.bc_bits.specs.Bits.{has}
use Rattle.bc_bits.specs.Counting.{one_if}
use Rattle.bc_memory.specs.Memory.{Cell}
use Rattle.bc_word.specs.declared.words.Word.{Word}
use Rattle.bc_word.specs.declared.words.Word.TheVariants.{Nil, Num, Ref}
use Rattle.bc_word.specs.Words.{word_of_bits}
use Rattle.bc_word.specs.Heads.{fields_of_bits}
use Rattle.bc_word.specs.Addresses.{superpage_of, offset_of, cell_number}
use Rattle.bc_word.proofs.WordsLemmas.{length-words_from, get_or-words_from}
use Rattle.bc_superpages.specs.Layout.{Layout, superpages, set_of, is_cell}
use Rattle.bc_superpages.specs.LayoutAt.{IsAllocated}
use Rattle.bc_superpages.specs.Memory.{cell_on}
use Rattle.bc_superpages.specs.Calls.{fields_at, class_at}
use Rattle.bc_superpages.proofs.CellLemmas.{is_cell-bit}
use Rattle.bc_bookmarks.specs.Targets.{is_target}
use Rattle.bc_bookmarks.proofs.TargetLemmas.{target-refers}
use Rattle.bc_pins.specs.declared.views.Hand.{Hand}
use Rattle.bc_pins.specs.declared.views.View.{View}
use Rattle.bc_pins.specs.Key.{Key, pages_of, owner, counter_at, bookmark_at, page_at}
use Rattle.bc_pins.specs.Totals.{times}
use Rattle.bc_pins.specs.Contents.{IsContent, IsFieldOn, NamesFixed, field_bits, objects_in}
use Rattle.bc_pins.specs.Views.{grips, grips_remembered, frame_in_hand, counted_for, sets_bit, marked_for, has_role, entries, look_up, opened_content, sets_for}
use Rattle.bc_pins.specs.Facts.{Table, word, RecordsContent, Seated, Marking, points, adds_to, Counters, bookmark_bit, ever_set, cell_bit, Bits, page_word, IsBitOfTarget, MarksTargets, had_with, has_bit_of, puts_with}
use Rattle.bc_pins.specs.Rule.{Rule, Ruled}
use Rattle.bc_pins.specs.Steps.{Mine, bookmarking, counting, AreTargets, SetBits, Counted}
use Rattle.bc_pins.proofs.NoticeLemmas.{claims_aside}
use Rattle.bc_pins.proofs.OwingLemmas.{owing_aside}
use Rattle.bc_pins.proofs.TotalLemmas.{total_set, total_less_at, one_same, one_other, one_few}
use Rattle.bc_pins.proofs.SumLemmas.{sum_few_below, sum_one}
use Rattle.bc_pins.proofs.TakeLemmas.{some_hand}
use Rattle.bc_pins.proofs.TallyLemmas.{bit_of_target, in_bit, bit_few}
use Rattle.bc_pins.proofs.MarkedLemmas.{targets_kept, KeepsBits}
use Rattle.bc_pins.proofs.LogLemmas.{reads-else, reads-more}
use Rattle.bc_pins.proofs.TracingLemmas.{KeepsMarks, keeps_set, knows_read, tracing_kept}
use Rattle.bc_pins.proofs.SideSteps.{aside, SideStep, side_step, counters_same, bits_same, frames_same, keeps_aside}

-- what is counted for a page is no more than that it is in hand
hand_few : (p q : ℕ) (o : Option Hand) → ((g : Hand) → o ≡ Some g → times q g.counted ≤ 1) → counted_for p q o ≤ grips p o
hand_few p q None once = omega arith
hand_few p q (Some g) once = choice_few (g.page == p) (times q g.counted) (once g refl)
  where
    choice_few : (b : Bool) (n : ℕ) → n ≤ 1 → (if b then n else 0) ≤ one_if b
    choice_few true n few = few
    choice_few false n few = omega arith

some_none : (e : ℕ × ℕ) (l : List (ℕ × ℕ)) → e ∷ l ≡ [] → ⊥
some_none e l z = cc

-- a number that stands where two tests are passed
both_are : (a b : Bool) (n : ℕ) → 0 < (if a && b then n else 0) → (a ≡ true) × (b ≡ true) × (0 < n)
both_are true true n lt = (refl, refl, lt)
both_are true false n lt = absurd (omega arith)
both_are false b n lt = absurd (omega arith)

object_there : (b : Bool) (c d : Cell) → (if b then Some c else None) ≡ Some d → (b ≡ true) × (c ≡ d)
object_there true c d e = (refl, same_Some c d e)
object_there false c d e = absurd (cc)

abbrev number_of : Word → ℕ
number_of Nil = 0
number_of (Num v) = 0
number_of (Ref b) = b.0

ref_number : (w : Word) (a : ℕ) → w ≡ Ref (record { 0 = a }) → (s : Layout) → NamesFixed s w → superpage_of a < superpages s → IsAllocated s a
ref_number Nil a e s n lt = absurd (cc)
ref_number (Num v) a e s n lt = absurd (cc)
ref_number (Ref b) a e s n lt =
    let is : b.0 ≡ a = ap number_of e in
    elim n [
      | inl there ↦ subst (IsAllocated s) is there
      | inr past ↦ absurd (omega arith)
    ]

-- a target of a page in one of the space's superpages is an allocated cell
pub target_cell : (s : Layout) (page : ℕ) (c : List ℕ) (a : ℕ) → IsContent s page c → superpage_of a < superpages s → is_target (objects_in s c) page a ≡ true → IsAllocated s a
target_cell s page c a k lt on =
    let h = target-refers (objects_in s c) page a on in
    let o = object_there (is_cell s.classes s.cells h.address) (cell_on c (offset_of h.address)) h.object h.is in
    let many : length (cell_on c (offset_of h.address)).fields ≡ fields_of_bits (get_or c (offset_of h.address) 0) = length-words_from c (offset_of h.address + 1) (fields_of_bits (get_or c (offset_of h.address) 0)) in
    let less : h.index < length (cell_on c (offset_of h.address)).fields = subst (λ (x : Cell). h.index < length x.fields) (sym o.1) h.within in
    let inside : h.index < fields_of_bits (get_or c (offset_of h.address) 0) = omega arith in
    let within : h.index < fields_at s h.address = subst (λ (x : ℕ). h.index < fields_of_bits x) (k.heads h.address o.0 h.on) inside in
    let field : IsFieldOn s page h.address h.index = record { allocated = o.0; on = h.on; within = within } in
    let read = get_or-words_from c (offset_of h.address + 1) (fields_of_bits (get_or c (offset_of h.address) 0)) h.index Nil inside in
    let word_is : get_or h.object.fields h.index Nil ≡ word_of_bits (field_bits c h.address h.index) = ap (λ (x : Cell). get_or x.fields h.index Nil) (sym o.1) ∙ read in
    ref_number _ a (sym word_is ∙ h.refers) s (k.names h.address h.index field) lt

module _ (k : Key) (s : Table) (r : Rule k s) (id role : ℕ) (v : View) (h : Hand) (at : get_elem? s.views id ≡ some v) (about : v.about ≡ k) (has_one : v.hand ≡ Some h) (some_role : 0 < has_role v role) where
  near : h.page < pages_of k
  near = ((r.seats id v at).records.in_hand h has_one).0

  content : h.content ≡ r.rec h.page
  content = ((r.seats id v at).records.in_hand h has_one).1

  -- a view that changed its hand, and not the page and its content there
  pub seated_kept : (u : View) → u.about ≡ v.about → u.roles ≡ v.roles → u.fetched ≡ v.fetched → Seated k u
  seated_kept u a b c = record {
    about = λ e. a ∙ about;
    idle = λ e. let z : has_role v role ≡ 0 = ap (times role) (sym b ∙ e) in absurd (omega arith);
  }

  pub records_kept : (u : View) (g : Hand) → u.hand ≡ Some g → g.page ≡ h.page → g.content ≡ h.content → u.changed ≡ v.changed → u.recorded ≡ v.recorded → u.fetched ≡ v.fetched → u.about ≡ v.about → u.roles ≡ v.roles → RecordsContent k r.rec u
  records_kept u g hand page same changed noted got a b =
      let old = (r.seats id v at).records in
      record {
        mine = λ p lt. old.mine p (subst (λ (l : List ℕ). 0 < times (owner k p) l) b lt)
            ∙ ap (λ (x : Key). look_up p v.changed (opened_content x p)) (sym a) ∙ ap (λ (l : List (ℕ × List ℕ)). look_up p l (opened_content u.about p)) (sym changed);
        others = λ p z. ap (entries p) changed ∙ old.others p (subst (λ (l : List ℕ). times (owner k p) l ≡ 0) b z);
        unrecorded = λ p z. ap (times p) noted ∙ old.unrecorded p (subst (λ (l : List ℕ). times (owner k p) l ≡ 0) b z);
        unfetched = λ p z held. ap (times p) got ∙ old.unfetched p (subst (λ (l : List ℕ). times (owner k p) l ≡ 0) b z) held;
        in_hand = λ x e.
            let is = some_hand g x (sym hand ∙ e) in
            subst (λ (y : Hand). (y.page < pages_of k) × (y.content ≡ r.rec y.page)) is
            (subst (λ (n : ℕ). n < pages_of k) (sym page) near, same ∙ content ∙ ap r.rec (sym page));
      }

  -- bookmark bits
  module _ (w bits found : ℕ) (lt : w < 16 * k.supers) (targets : AreTargets k h w bits) (within : k.supers ≤ superpages k.opening) where
    abbrev i : ℕ
    i = bookmark_at k w

    abbrev x : ℕ
    x = bit_or (word s i) bits

    abbrev u : View
    u = bookmarking v h w bits found

    abbrev t : Table
    t = aside s i x id u

    here : word t i ≡ x
    here = let long = r.words in get_or-set_same s.words i x 0 (omega arith)

    bit_here : (b : ℕ) → bookmark_bit k t.words w b ≡ max (bookmark_bit k s.words w b) (bit_at bits b)
    bit_here b = ap (λ (n : ℕ). bit_at n b) here ∙ bit_at_or (word s i) bits b

    bit_there : (j b : ℕ) → j ≢ w → bookmark_bit k t.words j b ≡ bookmark_bit k s.words j b
    bit_there j b ne = ap (λ (n : ℕ). bit_at n b) (get_or-set_other s.words i (bookmark_at k j) x 0 (λ e. ne (omega arith)))

    keeps_marked : KeepsBits k s.words t.words
    keeps_marked j b less one = elim (cases_eq j w) [
      | inl e ↦
          let a = bit_here b in
          let c = bit_few (word s i) b in
          let d = bit_few bits b in
          let f : bookmark_bit k s.words w b ≡ 1 = ap (λ (n : ℕ). bookmark_bit k s.words n b) (sym e) ∙ one in
          subst (λ (n : ℕ). bookmark_bit k t.words n b ≡ 1) (sym e) (omega arith)
      | inr ne ↦ bit_there j b ne ∙ one
    ]

    new_bit : (b : ℕ) → b < 64 → 0 < bit_at bits b → 0 < cell_bit k w b
    new_bit b few on =
        let m = targets b few on in
        let is = m.superpage in
        let fixed = (r.content h.page near).fixed in
        let there = target_cell k.opening h.page h.content m.address (subst (IsContent k.opening h.page) (sym content) fixed) (omega arith) m.target in
        let cell = is_cell-bit k.opening.classes k.opening.cells m.address there in
        let one : has (set_of k.opening.cells (w / 16)) (64 * (w % 16) + b) ≡ true = subst (λ (n : ℕ). has (set_of k.opening.cells (w / 16)) n ≡ true) m.number
        (subst (λ (q : ℕ). has (set_of k.opening.cells q) (cell_number (class_at k.opening m.address) m.address) ≡ true) is cell) in
        let z = in_bit (set_of k.opening.cells (w / 16)) (w % 16) b few one in
        omega arith

    bits_now : (j b : ℕ) → j < 16 * k.supers → b < 64 → Bits k t j b
    bits_now j b less few = elim (cases_eq j w) [
      | inl e ↦ subst (λ (n : ℕ). Bits k t n b) (sym e) (
          let old = r.bits w b lt few in
          let a = bit_here b in
          let c = bit_few (word s i) b in
          let d = bit_few bits b in
          let sum = total_set (λ (z : View). sets_bit w b z.bookmarked) s.views id v u at in
          let self : (if w == w then bit_at bits b else 0) ≡ bit_at bits b = ap (λ (y : Bool). if y then bit_at bits b else 0) (eq-eqb w w refl) in
          record {
            kept = λ on. elim (cases_lt 0 (ever_set k s w b)) [
              | inl was ↦ let z = old.kept was in omega arith
              | inr none_was ↦ omega arith
            ];
            only = λ on. elim (cases_lt 0 (bookmark_bit k s.words w b)) [
              | inl was ↦ let z = old.only was in omega arith
              | inr none_was ↦ omega arith
            ];
            cell = λ on. elim (cases_lt 0 (bookmark_bit k s.words w b)) [
              | inl was ↦ old.cell was
              | inr none_was ↦ new_bit b few (omega arith)
            ];
          })
      | inr ne ↦ bits_same k s r i x id v u j b at less few (λ e. ne (omega arith))
          (let a : (if w == j then bit_at bits b else 0) ≡ 0 = ap (λ (y : Bool). if y then bit_at bits b else 0) (ne_eqb w j (λ e. ne (sym e))) in omega arith)
    ]

    marking_now : Marking u
    marking_now =
        let old = (r.seats id v at).marking in
        let grip : (p : ℕ) → grips p v.hand ≡ one_if (h.page == p) = λ p. ap (grips p) has_one in
        record {
          once = λ z e q. subst (λ (y : Hand). times q y.counted ≤ 1) (some_hand _ z e) (old.once h has_one q);
          whose = λ p on. elim (cases_eq h.page p) [
            | inl e ↦ inl (let a : one_if (h.page == p) ≡ 1 = ap one_if (eq-eqb h.page p e) in omega arith)
            | inr ne ↦
                let a = one_other h.page p ne in
                elim (old.whose p (omega arith)) [
                  | inl held ↦ let c = grip p in absurd (omega arith)
                  | inr gone ↦ inr gone
                ]
          ];
          unmarked = λ z e none_set _. absurd (some_none (w, bits) h.marked (ap (λ (y : Hand). y.marked) (some_hand _ z e) ∙ none_set));
        }

    targets_now : MarksTargets k t r.rec u
    targets_now =
        let old = (r.seats id v at).targets in
        record {
          each = λ p j b few on. elim (cases_lt 0 (sets_for p j b v.bookmarked)) [
            | inl was ↦ let a = old.each p j b few was in (a.0, λ z. a.1 (let c = total_set (λ (y : View). times p y.fetched) s.views id v u at in omega arith))
            | inr none_was ↦
                let new = both_are (h.page == p) (w == j) (bit_at bits b) (omega arith) in
                let page : h.page ≡ p = eqb-true h.page p new.0 in
                let word_is : w ≡ j = eqb-true w j new.1 in
                let target : IsBitOfTarget k h.page h.content w b = targets b few new.2 in (
                  subst (λ (n : ℕ). n < pages_of k) page near,
                  λ _. subst (λ (n : ℕ). IsBitOfTarget k p (r.rec p) n b) word_is
                      (subst (λ (n : ℕ). IsBitOfTarget k n (r.rec n) w b) page (subst (λ (c : List ℕ). IsBitOfTarget k h.page c w b) content target)),
                )
          ];
          had = λ p j b few on.
              let kept = total_set (λ (y : View). puts_with k p j b y.changed) s.views id v u at in
              elim (cases_lt 0 (sets_for p j b v.bookmarked)) [
                | inl was ↦ let a = old.had p j b few was in omega arith
                | inr none_was ↦
                    let new = both_are (h.page == p) (w == j) (bit_at bits b) (omega arith) in
                    let page : h.page ≡ p = eqb-true h.page p new.0 in
                    let word_is : w ≡ j = eqb-true w j new.1 in
                    let on_target = bit_of_target k h.page h.content w b (targets b few new.2) in
                    let a = (r.content h.page near).had w b (subst (λ (c : List ℕ). has_bit_of k h.page c w b ≡ true) content on_target) in
                    let here : 0 < had_with k s p j b = subst (λ (n : ℕ). 0 < had_with k s n j b) page (subst (λ (n : ℕ). 0 < had_with k s h.page n b) word_is a) in
                    omega arith
              ];
        }

    marks_kept : KeepsMarks k s t
    marks_kept = keeps_aside k s i x id v u at (omega arith) (omega arith) keeps_marked refl refl

    mark_step : SideStep k s r.rec i x id v u
    mark_step =
        let size = r.words in
        record {
          far = omega arith;
          stay = λ turn. keeps_set k s t marks_kept;
          knows = λ turn. knows_read k s t v u (keeps_set k s t marks_kept) ((r.seats id v at).knows turn) refl (λ j less. reads-else j (bookmark_at v.about w) found v.read (λ e. let f = ap (λ (a : Key). bookmark_at a w) about in omega arith));
          tracing = λ turn. tracing_kept k s t marks_kept (r.tracing turn);
          grip = λ p. sym (ap (grips p) has_one);
          flag = λ p. sym (ap (grips_remembered p) has_one);
          recorded = refl;
          left = refl;
          emptied = refl;
          fetched = refl;
          changed = refl;
          returned = refl;
          busy = refl;
          seen = refl;
          gone = refl;
          roles = refl;
          read = λ j ne. reads-else j (bookmark_at v.about w) found v.read (λ e. ne (sym e ∙ ap (λ (a : Key). bookmark_at a w) about));
          read_more = λ j n. reads-more j (bookmark_at v.about w) found n v.read;
          seated = seated_kept u refl refl refl;
          records = records_kept u (record h { marked = (w, bits) ∷ h.marked }) refl refl refl refl refl refl refl refl;
          marking = marking_now;
          targets = targets_now;
          set = keeps_marked;
          counters = λ q less. counters_same k s r i x id v u q at (omega arith) less (λ e. omega arith) (λ p. sym (ap (counted_for p q) has_one));
          bits = bits_now;
          frames = frames_same k s r i x id v u at (λ j less e. omega arith) (λ f. ap (λ (n : ℕ). n + times f v.rights) (sym (ap (frame_in_hand f) has_one)));
        }

    pub mark_rule : Rule k t
    mark_rule = side_step k s r i x id v u at mark_step

  -- counting a superpage
  module _ (q found : ℕ) (lt : q < k.supers) (uncounted : times q h.counted ≡ 0) where
    abbrev c_at : ℕ
    c_at = counter_at k q

    abbrev y : ℕ
    y = (word s c_at + 1) % 2 ^ 64

    abbrev c_view : View
    c_view = counting v h q found

    abbrev c_table : Table
    c_table = aside s c_at y id c_view

    -- a page adds at most one to a counter
    counts_few : (p : ℕ) → p < pages_of k → adds_to k s r.rec q p ≤ 1
    counts_few p less =
        let held = (r.place p less).held in
        let fewer = total_less_at (λ (z : View). counted_for p q z.hand) (λ (z : View). grips p z.hand) s.views (λ j z is. hand_few p q z.hand (λ g e. (r.seats j z is).marking.once g e q)) in
        elim (cases_Bool (page_word s p == 4)) [
          | inl on ↦
              let a : (if page_word s p == 4 then points k p (r.rec p) q else 0) ≤ 1 = subst (λ (b : Bool). (if b then points k p (r.rec p) q else 0) ≤ 1) (sym on) (one_few _) in
              let four : page_word s p ≡ 4 = eqb-true (page_word s p) 4 on in
              let b = one_other (page_word s p) 3 (λ e. omega arith) in
              omega arith
          | inr off ↦
              let a : (if page_word s p == 4 then points k p (r.rec p) q else 0) ≡ 0 = ap (λ (b : Bool). if b then points k p (r.rec p) q else 0) off in
              let b = one_few (page_word s p == 3) in
              omega arith
        ]

    -- so none overflows
    grown : y ≡ word s c_at + 1
    grown =
        let sum = r.counters q lt in
        let few = sum_few_below (adds_to k s r.rec q) (pages_of k) counts_few in
        let small = r.few in
        omega arith

    count_here : word c_table c_at ≡ y
    count_here = let long = r.words in get_or-set_same s.words c_at y 0 (omega arith)

    page_same : (p : ℕ) → p < pages_of k → page_word c_table p ≡ page_word s p
    page_same p less = get_or-set_other s.words c_at (page_at p) y 0 (λ e. omega arith)

    mine_counted : (p : ℕ) → counted_for p q v.hand ≡ (if h.page == p then times q h.counted else 0)
    mine_counted p = ap (counted_for p q) has_one

    counts_else : (p : ℕ) → p < pages_of k → p ≢ h.page → adds_to k c_table r.rec q p ≡ adds_to k s r.rec q p
    counts_else p less ne =
        let a : (if page_word c_table p == 4 then points k p (r.rec p) q else 0) ≡ (if page_word s p == 4 then points k p (r.rec p) q else 0) = ap (λ (n : ℕ). if n == 4 then points k p (r.rec p) q else 0) (page_same p less) in
        let b = total_set (λ (z : View). counted_for p q z.hand) s.views id v c_view at in
        let c : counted_for p q c_view.hand ≡ 0 = ap (λ (b : Bool). if b then times q (q ∷ h.counted) else 0) (ne_eqb h.page p (λ e. ne (sym e))) in
        let d : counted_for p q v.hand ≡ 0 = mine_counted p ∙ ap (λ (b : Bool). if b then times q h.counted else 0) (ne_eqb h.page p (λ e. ne (sym e))) in
        omega arith

    counts_here : adds_to k c_table r.rec q h.page ≡ adds_to k s r.rec q h.page + 1
    counts_here =
        let a : (if page_word c_table h.page == 4 then points k h.page (r.rec h.page) q else 0) ≡ (if page_word s h.page == 4 then points k h.page (r.rec h.page) q else 0) = ap (λ (n : ℕ). if n == 4 then points k h.page (r.rec h.page) q else 0) (page_same h.page near) in
        let b = total_set (λ (z : View). counted_for h.page q z.hand) s.views id v c_view at in
        let self = eq-eqb h.page h.page refl in
        let c : counted_for h.page q c_view.hand ≡ times q (q ∷ h.counted) = ap (λ (b : Bool). if b then times q (q ∷ h.counted) else 0) self in
        let d : counted_for h.page q v.hand ≡ times q h.counted = mine_counted h.page ∙ ap (λ (b : Bool). if b then times q h.counted else 0) self in
        let one = one_same q in
        omega arith

    counters_now : (j : ℕ) → j < k.supers → Counters k c_table r.rec j
    counters_now j less = elim (cases_eq j q) [
      | inl e ↦ subst (λ (n : ℕ). Counters k c_table r.rec n) (sym e) (
          let sum = r.counters q lt in
          let one = sum_one (adds_to k c_table r.rec q) (adds_to k s r.rec q) (pages_of k) h.page near counts_else in
          let a = counts_here in
          let b = count_here in
          let c = grown in
          omega arith)
      | inr ne ↦ counters_same k s r c_at y id v c_view j at (omega arith) less (λ e. ne (omega arith)) (λ p.
          let a : times j (q ∷ h.counted) ≡ times j h.counted = (let z = one_other q j (λ e. ne (sym e)) in omega arith) in
          ap (λ (n : ℕ). if h.page == p then n else 0) a ∙ sym (ap (counted_for p j) has_one))
    ]

    c_marking : Marking c_view
    c_marking =
        let old = (r.seats id v at).marking in
        record {
          once = λ z e j. subst (λ (g : Hand). times j g.counted ≤ 1) (some_hand _ z e) (elim (cases_eq q j) [
            | inl is ↦ let a = one_few (q == j) in let b : times j h.counted ≡ 0 = ap (λ (n : ℕ). times n h.counted) (sym is) ∙ uncounted in omega arith
            | inr ne ↦ let a = one_other q j ne in let b = old.once h has_one j in omega arith
          ]);
          whose = λ p on. elim (old.whose p on) [ inl held ↦ inl (let a : grips p v.hand ≡ one_if (h.page == p) = ap (grips p) has_one in omega arith) | inr gone ↦ inr gone ];
          unmarked = λ z e none_set on.
              let is = some_hand _ z e in
              subst (λ (g : Hand). 0 < times g.page v.left) is
              (old.unmarked h has_one (ap (λ (g : Hand). g.marked) is ∙ none_set) (subst (λ (g : Hand). 0 < marked_for g.page v.bookmarked) (sym is) on));
        }

    c_kept : KeepsMarks k s c_table
    c_kept = keeps_aside k s c_at y id v c_view at (omega arith) (omega arith) (λ j b less one. ap (λ (n : ℕ). bit_at n b) (get_or-set_other s.words c_at (bookmark_at k j) y 0 (λ e. omega arith)) ∙ one) refl refl

    count_step : SideStep k s r.rec c_at y id v c_view
    count_step =
        let size = r.words in
        record {
          far = omega arith;
          stay = λ turn. keeps_set k s c_table c_kept;
          knows = λ turn. knows_read k s c_table v c_view (keeps_set k s c_table c_kept) ((r.seats id v at).knows turn) refl (λ j less. reads-else j (counter_at v.about q) found v.read (λ e. let f = ap (λ (a : Key). counter_at a q) about in omega arith));
          tracing = λ turn. tracing_kept k s c_table c_kept (r.tracing turn);
          grip = λ p. sym (ap (grips p) has_one);
          flag = λ p. sym (ap (grips_remembered p) has_one);
          recorded = refl;
          left = refl;
          emptied = refl;
          fetched = refl;
          changed = refl;
          returned = refl;
          busy = refl;
          seen = refl;
          gone = refl;
          roles = refl;
          read = λ j ne. reads-else j (counter_at v.about q) found v.read (λ e. ne (sym e ∙ ap (λ (a : Key). counter_at a q) about));
          read_more = λ j n. reads-more j (counter_at v.about q) found n v.read;
          seated = seated_kept c_view refl refl refl;
          records = records_kept c_view (record h { counted = q ∷ h.counted }) refl refl refl refl refl refl refl refl;
          marking = c_marking;
          targets = targets_kept k s r.rec (set s.words c_at y) s.homes id v c_view at (λ q. omega arith) refl refl (r.seats id v at).targets;
          set = λ j b less one. ap (λ (n : ℕ). bit_at n b) (get_or-set_other s.words c_at (bookmark_at k j) y 0 (λ e. omega arith)) ∙ one;
          counters = counters_now;
          bits = λ j b less few. bits_same k s r c_at y id v c_view j b at less few (λ e. omega arith) refl;
          frames = frames_same k s r c_at y id v c_view at (λ j less e. omega arith) (λ f. ap (λ (n : ℕ). n + times f v.rights) (sym (ap (frame_in_hand f) has_one)));
        }

    pub count_rule : Rule k c_table
    count_rule = side_step k s r c_at y id v c_view at count_step

-- whatever the table is, both keep the rule, and the view is as it says
pub marks_from : (k : Key) (slots id role : ℕ) (me : Mine) (h : Hand) (w bits i : ℕ) → i ≡ bookmark_at k w → w < 16 * k.supers → k.supers ≤ superpages k.opening → me.0.about ≡ k → me.0.hand ≡ Some h → 0 < has_role me.0 role
    → AreTargets k h w bits → Allows (Ruled k) slots id me i (λ n. bit_or n bits) (SetBits (step slots i bits 0 maybe.none) me)
marks_from k slots id role me h w bits i is lt within about has_one some_role targets s r size at fits = (
  bookmarking me.0 h w bits (word s i),
  keeps,
  tt,
  record {
    facts = subst (λ (j : ℕ). Rule k (aside s j (bit_or (word s j) bits) id (bookmarking me.0 h w bits (word s i)))) (sym is) (mark_rule k s r.facts id role me.0 h at about has_one some_role w bits (word s i) lt targets within);
    claims = claims_aside k s _ _ id _ _ _ at (λ e. omega arith) refl r.claims;
    owing = λ turn. owing_aside k s i _ id me.0 _ at (omega arith) (omega arith) refl refl refl (r.owing turn);
  },
  record {
    view = λ g x e f.
        let same = some_hand h g (sym has_one ∙ e) in
        let word_is : w ≡ x = (let a : bookmark_at me.0.about x ≡ bookmark_at k x = ap (λ (z : Key). bookmark_at z x) about in omega arith) in
        ap (λ (z : Hand). (bookmarking me.0 z w bits (word s i), me.1)) same ∙ ap (λ (n : ℕ). (bookmarking me.0 g n bits (word s i), me.1)) word_is;
  },
)

pub counts_from : (k : Key) (slots id role : ℕ) (me : Mine) (h : Hand) (q i : ℕ) → i ≡ counter_at k q → q < k.supers → me.0.about ≡ k → me.0.hand ≡ Some h → 0 < has_role me.0 role → times q h.counted ≡ 0
    → Allows (Ruled k) slots id me i (λ n. (n + 1) % 2 ^ 64) (Counted (step slots i 1 0 maybe.none) me)
counts_from k slots id role me h q i is lt about has_one some_role uncounted s r size at fits = (
  counting me.0 h q (word s i),
  keeps,
  tt,
  record {
    facts = subst (λ (j : ℕ). Rule k (aside s j ((word s j + 1) % 2 ^ 64) id (counting me.0 h q (word s i)))) (sym is) (count_rule k s r.facts id role me.0 h at about has_one some_role q (word s i) lt uncounted);
    claims = claims_aside k s _ _ id _ _ _ at (λ e. omega arith) refl r.claims;
    owing = λ turn. owing_aside k s i _ id me.0 _ at (omega arith) (omega arith) refl refl refl (r.owing turn);
  },
  record {
    view = λ g x e f.
        let same = some_hand h g (sym has_one ∙ e) in
        let word_is : q ≡ x = (let a : counter_at me.0.about x ≡ counter_at k x = ap (λ (z : Key). counter_at z x) about in omega arith) in
        ap (λ (z : Hand). (counting me.0 z q (word s i), me.1)) same ∙ ap (λ (n : ℕ). (counting me.0 g n (word s i), me.1)) word_is;
  },
)
