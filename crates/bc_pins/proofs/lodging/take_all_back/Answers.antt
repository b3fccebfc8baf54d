use Rattle.std.proofs.Common.{◌≡◌, ℕ, ◌+◌, ◌*◌, ◌/◌, ◌%◌, false, List, Option, None, get_or, set, inl, inr, ap, sym, subst, ◌∙◌, arith}
use Rattle.std.proofs.lemmas.Bool.{cases_eq, cases_lt}
use Rattle.core.specs.Mem.Slots.{slots_counts, slots_filled, slots_items}
use Rattle.bc_frames.specs.Places.{StoreView}
use Rattle.bc_superpages.specs.declared.spaces.Homed.{Homed}
use Rattle.bc_pins.specs.declared.views.Lodged.{Lodged}
use Rattle.bc_pins.specs.declared.views.Lodged.TheVariants.{Nothing}
use Rattle.bc_pins.specs.Key.{home_slot}
use Rattle.bc_pins.specs.Lodging.{Replaced, box_of, place_of}
use Rattle.bc_pins.proofs.WordLemmas.{at_or}
use Rattle.bc_pins.proofs.LodgeLemmas.{replaced_more, slot_else, slot_one, slot_two}
use Rattle.bc_pins.proofs.lodging.take_all_back.Goals as goal

pub loop-page-preserved : goal.loop-page-preserved
loop-page-preserved c =
    let inv = c.loop-page.invariant in
    let lt = c.loop-page-test.true in
    let all = c.requires.pages in
    let page : ℕ = c.loop-page.page in
    let i : ℕ = c.home_entry.result in
    let j : ℕ = c.store_entry.result in
    let at_home : i ≡ home_slot page = c.home_entry.ensures in
    let at_store : j ≡ home_slot page + 4 = c.store_entry.ensures in
    let one = c.take-frame.ensures.others in
    let two = c.take-away.ensures.others in
    let back = c.put_back.ensures in
    let put : c.put_back.new.store.places ≡ set c.loop-page.store.places page (place_of c.take-away.result) = ap (λ (s : StoreView). s.places) back.store in
    let counts = slots_counts c.loop-page.closed.slots in
    let size = inv.size in
    let long = c.requires.slots.1 in
    let first : List Lodged = slots_items c.args.closed.now.slots in
    let frame : get_or first (home_slot page) Nothing ≡ c.take-frame.result =
    ap (λ (l : List Lodged). get_or l (home_slot page) Nothing) (sym inv.same) ∙ ap (λ (n : ℕ). get_or (slots_items c.loop-page.closed.slots) n Nothing) (sym at_home)
    ∙ at_or (slots_items c.loop-page.closed.slots) i c.take-frame.result Nothing c.take-frame.ensures.value in
    let away : get_or first (home_slot page + 4) Nothing ≡ c.take-away.result =
    ap (λ (l : List Lodged). get_or l (home_slot page + 4) Nothing) (sym (one.0 ∙ inv.same)) ∙ ap (λ (n : ℕ). get_or (slots_items c.take-frame.new.self.slots) n Nothing) (sym at_store)
    ∙ at_or (slots_items c.take-frame.new.self.slots) j c.take-away.result Nothing c.take-away.ensures.value in
    record {
      boxes = subst (λ (l : List (Option Homed)). Replaced None c.args.boxes.now.items l (page + 1) (λ p. box_of (get_or first (home_slot p) Nothing))) (sym back.boxes)
          (replaced_more None _ _ page _ (λ p. box_of (get_or first (home_slot p) Nothing)) inv.boxes (omega arith) (ap box_of (sym frame)));
      store = back.store ∙ ap (λ (s : StoreView). record s { places = set c.loop-page.store.places page (place_of c.take-away.result) }) inv.store
          ∙ ap (λ (l : List (Option (List ℕ))). record c.args.store.now { places = l }) (sym put);
      places = subst (λ (l : List (Option (List ℕ))). Replaced None c.args.store.now.places l (page + 1) (λ p. place_of (get_or first (home_slot p + 4) Nothing))) (sym put)
          (replaced_more None _ _ page _ (λ p. place_of (get_or first (home_slot p + 4) Nothing)) inv.places (omega arith) (ap place_of (sym away)));
      full = λ p le less.
          let old = inv.full p (omega arith) less in (
            slot_else _ _ _ i j one.1 two.1 (home_slot p) (λ e. omega arith) (λ e. omega arith) ∙ old.0,
            slot_else _ _ _ i j one.1 two.1 (home_slot p + 4) (λ e. omega arith) (λ e. omega arith) ∙ old.1,
          );
      emptied = λ p less. elim (cases_eq p page) [
        | inl e ↦ (
          ap (λ (n : ℕ). get_or (slots_filled c.take-away.new.self.slots) n false) (let z : home_slot p ≡ i = omega arith in z) ∙ slot_one _ _ _ i j one.1 two.1 (omega arith) (λ z. omega arith),
          ap (λ (n : ℕ). get_or (slots_filled c.take-away.new.self.slots) n false) (let z : home_slot p + 4 ≡ j = omega arith in z) ∙ slot_two _ _ _ i j one.1 two.1 (omega arith),
        )
        | inr ne ↦
            let old = inv.emptied p (omega arith) in (
              slot_else _ _ _ i j one.1 two.1 (home_slot p) (λ e. omega arith) (λ e. omega arith) ∙ old.0,
              slot_else _ _ _ i j one.1 two.1 (home_slot p + 4) (λ e. omega arith) (λ e. omega arith) ∙ old.1,
            )
      ];
      same = two.0 ∙ one.0 ∙ inv.same;
      size = two.2 ∙ one.2 ∙ inv.size;
      words = two.3 ∙ one.3 ∙ inv.words;
    }

pub returns-clause-emptied : goal.returns-clause-emptied
returns-clause-emptied c = λ k less.
    let inv = c.loop-page.invariant in
    let done = c.loop-page-test.false in
    let all = c.requires.pages in
    let long = c.requires.slots.1 in
    let size = inv.size in
    let p : ℕ = 4 * (k / 8) + k % 4 in
    let old = inv.emptied p (omega arith) in
    elim (cases_lt (k % 8) 4) [
      | inl front ↦ ap (λ (n : ℕ). get_or (slots_filled c.loop-page.closed.slots) n false) (let z : k ≡ home_slot p = omega arith in z) ∙ old.0
      | inr behind ↦ ap (λ (n : ℕ). get_or (slots_filled c.loop-page.closed.slots) n false) (let z : k ≡ home_slot p + 4 = omega arith in z) ∙ old.1
    ]
