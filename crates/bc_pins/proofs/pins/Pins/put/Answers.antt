use Rattle.std.proofs.Common.{ℕ, Bool, ◌<◌, ◌==◌, [], ◌∷◌, ◌∙◌, List, sym, ap, subst, arith, refl}
use Rattle.atomic_table.specs.Table.{rest}
use Rattle.bc_pins.specs.declared.views.Lodged.{Lodged}
use Rattle.bc_pins.specs.declared.views.Lodged.TheVariants.{Nothing, Home}
use Rattle.bc_pins.specs.declared.views.View.{View}
use Rattle.bc_pins.specs.Key.{Key, pages_of, store_slot, home_slot}
use Rattle.bc_pins.specs.Steps.{Mine, released}
use Rattle.bc_pins.specs.Tidy.{IsTidy}
use Rattle.bc_pins.proofs.GiveLemmas.{gives_from, tidy_released}
use Rattle.bc_pins.proofs.CallLemmas.{headed, is_home_word}
use Rattle.bc_pins.proofs.pins.Pins.put.Goals as goal
use Rattle.std.proofs.lemmas.Bool.{eq-eqb}

pub store-requires : goal.store-requires
store-requires c =
    let size = c.args.self.now.words in
    let entry = c.page_entry.ensures in
    let holds = c.requires.held in
    let may = c.requires.may in
    let seat = c.requires.seat in
    let w = is_home_word _ _ c.word_at_home.ensures in
    let v : View = c.args.seat.now.inner.me.0 in
    let p : ℕ = c.args.held.page in
    let slots = ap rest holds.slots ∙ ap (λ (a : Key). (store_slot a p, Nothing) ∷ []) seat.about in
    let is = c.exchange.ensures.3 ∙ ap (λ (i : ℕ). (v, (i, Home c.args.held.homed) ∷ rest c.args.seat.now.inner.me.1)) c.home_entry-slot.ensures ∙ ap (λ (l : List (ℕ × Lodged)). (v, (home_slot p, Home c.args.held.homed) ∷ l)) slots in
    let inside : p < pages_of c.args.self.now.table.shared.key = subst (λ (a : Key). p < pages_of a) seat.about holds.inside in (
      c.exchange.ensures.0 ∙ seat.table,
      omega arith,
      gives_from _ _ _ _ _ _ v holds.hand c.args.held.homed p _ c.page_entry.ensures is holds.page w.low w.high seat.about holds.has seat.role (sym holds.frame)
          may.fixed (λ y. w.flag (may.young y)) (λ on. w.flag (may.remembered holds.hand holds.has on)) (λ z. let o = may.others holds.hand holds.has z in (o.0, λ two. sym o.1 ∙ sym w.test ∙ eq-eqb _ 2 two)) (may.counted holds.hand holds.has) (may.marked holds.hand holds.has),
    )

pub returns-clause-same : goal.returns-clause-same
returns-clause-same c =
    let swapped = c.exchange.ensures.3 in
    let slots = ap (λ (m : Mine). m.1) swapped ∙ ap (λ (i : ℕ). (i, Home c.args.held.homed) ∷ rest c.args.seat.now.inner.me.1) c.home_entry-slot.ensures in
    let was = ap (λ (m : Mine). m.0) swapped in
    let view = c.store.ensures.2.view c.args.held.page c.args.held.homed c.page_entry.ensures (headed _ _ _ slots) in
    record {
      table = c.store.ensures.0 ∙ c.exchange.ensures.0;
      id = c.store.ensures.1 ∙ c.exchange.ensures.1;
      role = refl;
      opens = refl;
      about = ap (λ (u : View). u.about) view ∙ ap (λ (u : View). u.about) was;
      alive = ap (λ (u : View). u.alive) view ∙ ap (λ (u : View). u.alive) was;
      roles = ap (λ (u : View). u.roles) view ∙ ap (λ (u : View). u.roles) was;
      fetched = ap (λ (u : View). u.fetched) view ∙ ap (λ (u : View). u.fetched) was;
    }

pub returns-clause-free : goal.returns-clause-free
returns-clause-free c =
    let swapped = c.exchange.ensures.3 in
    let slots = ap (λ (m : Mine). m.1) swapped ∙ ap (λ (i : ℕ). (i, Home c.args.held.homed) ∷ rest c.args.seat.now.inner.me.1) c.home_entry-slot.ensures in
    let view = c.store.ensures.2.view c.args.held.page c.args.held.homed c.page_entry.ensures (headed _ _ _ slots) in
    record {
      hand = ap (λ (u : View). u.hand) view;
      slots = c.store.ensures.2.slots ∙ ap (λ (l : List (ℕ × Lodged)). rest (rest l)) slots ∙ ap (λ (l : List (ℕ × Lodged)). rest (rest l)) c.requires.held.slots;
    }

pub invariant_of-seat : goal.invariant_of-seat
invariant_of-seat c =
    let swapped = c.exchange.ensures.3 in
    let slots = ap (λ (m : Mine). m.1) swapped ∙ ap (λ (i : ℕ). (i, Home c.args.held.homed) ∷ rest c.args.seat.now.inner.me.1) c.home_entry-slot.ensures in
    let was = ap (λ (m : Mine). m.0) swapped in
    let held = c.args.held in
    let view = c.store.ensures.2.view held.page held.homed c.page_entry.ensures (headed _ _ _ slots) in
    record { tidy = subst IsTidy (sym view) (tidy_released c.exchange.new.seat.me.0 held.page (c.word_at_home.result == 2) held.homed.page (subst IsTidy (sym was) c.args.seat.now.tidy)) }

pub returns-clause-view : goal.returns-clause-view
returns-clause-view c =
    let swapped = c.exchange.ensures.3 in
    let slots = ap (λ (m : Mine). m.1) swapped ∙ ap (λ (i : ℕ). (i, Home c.args.held.homed) ∷ rest c.args.seat.now.inner.me.1) c.home_entry-slot.ensures in
    let was = ap (λ (m : Mine). m.0) swapped in
    let held = c.args.held in
    let v : View = c.args.seat.now.inner.me.0 in
    c.store.ensures.2.view held.page held.homed c.page_entry.ensures (headed _ _ _ slots)
    ∙ ap (λ (u : View). released u held.page (c.word_at_home.result == 2) held.homed.page) was
    ∙ ap (λ (b : Bool). released v held.page b held.homed.page) (is_home_word _ _ c.word_at_home.ensures).test
