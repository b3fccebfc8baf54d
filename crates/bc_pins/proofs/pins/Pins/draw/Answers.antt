use Rattle.std.proofs.Common.{◌≡◌, false, ℕ, ◌≤◌, List, ◌∙◌, ap, sym, subst, length}
use Rattle.bc_pins.specs.declared.key.Role.{Role}
use Rattle.bc_pins.specs.Seating.{AreDealt}
use Rattle.bc_superpages.specs.Layout.{superpages}
use Rattle.bc_superpages.specs.Parts.{parts_layout}
use Rattle.bc_pins.specs.Key.{Key}
use Rattle.bc_pins.specs.Facts.{IsUnheld}
use Rattle.bc_pins.specs.Totals.{times}
use Rattle.bc_pins.specs.Rule.{Ruled}
use Rattle.bc_pins.specs.Opening.{opened, IsMarkable}
use Rattle.bc_superpages.specs.declared.headers.Header.{Header}
use Rattle.bc_pins.specs.Filling.{IsFilled}
use Rattle.bc_pins.proofs.DrawLemmas.{sized, drawn_rule, drawn_inside, drawn_apart, drawn_unheld, drawn_markable, drawn_opened}
use Rattle.bc_pins.proofs.pins.Pins.draw.Goals as goal

pub new-requires : goal.new-requires
new-requires c =
    let drawn = c.requires.drawn in
    let size = sized _ _ _ _ _ _ drawn in
    subst (λ (words : List ℕ). Ruled c.args.about (opened c.args.about words c.lodge_all.new.slots.items)) (sym c.as_slice-2.ensures.value)
    (drawn_rule c.args.about c.args.parts c.args.superpages c.args.turn c.args.room.holders.items c.args.room.roles.items drawn _ _
    (subst (λ (hs : List Header). IsFilled c.args.about hs c.fill_words.new.words.items) c.as_slice.ensures.value (c.fill_words.ensures.filled c.args.about size))
    c.lodge_all.ensures.slots)

pub returns-in-Ok-clause-opened : goal.returns-in-Ok-clause-opened
returns-in-Ok-clause-opened c =
    let drawn = c.requires.drawn in
    let ok = c.in-Ok.ensures.ok in
    drawn_opened c.args.about c.args.parts c.args.superpages c.args.turn c.args.room.holders.items c.args.room.roles.items drawn _ _ ok.5
    (subst (λ (rs : List Role). AreDealt c.in-Ok.table.shared.table_id c.in-Ok.table.shared.key rs (length rs) c.deal_all.new.seats.items) c.as_slice-in-Ok.ensures.value c.deal_all.ensures.dealt)

pub invariant_of-pins-in-Ok-clause-inside : goal.invariant_of-pins-in-Ok-clause-inside
invariant_of-pins-in-Ok-clause-inside c =
    let same = c.in-Ok.ensures.ok.5 in
    let at = drawn_inside c.args.about c.args.parts c.args.superpages c.args.turn c.args.room.holders.items c.args.room.roles.items c.requires.drawn in
    subst (λ (k : Key). k.supers ≤ superpages k.opening) (sym same) at

pub invariant_of-pins-in-Ok-clause-apart : goal.invariant_of-pins-in-Ok-clause-apart
invariant_of-pins-in-Ok-clause-apart c =
    let same = c.in-Ok.ensures.ok.5 in
    let at = drawn_apart c.args.about c.args.parts c.args.superpages c.args.turn c.args.room.holders.items c.args.room.roles.items c.requires.drawn in
    subst (λ (k : Key). (r : ℕ) → times r k.roles ≤ 1) (sym same) at

pub invariant_of-pins-in-Ok-clause-opened : goal.invariant_of-pins-in-Ok-clause-opened
invariant_of-pins-in-Ok-clause-opened c = ap parts_layout c.of-whole.ensures ∙ c.requires.drawn.layout ∙ ap (λ (k : Key). k.opening) (sym c.in-Ok.ensures.ok.5)

pub invariant_of-pins-in-Ok-clause-unheld : goal.invariant_of-pins-in-Ok-clause-unheld
invariant_of-pins-in-Ok-clause-unheld c =
    let same = c.in-Ok.ensures.ok.5 in
    let at = drawn_unheld c.args.about c.args.parts c.args.superpages c.args.turn c.args.room.holders.items c.args.room.roles.items c.requires.drawn in
    subst IsUnheld (sym same) at

pub invariant_of-pins-in-Ok-clause-markable : goal.invariant_of-pins-in-Ok-clause-markable
invariant_of-pins-in-Ok-clause-markable c =
    let same = c.in-Ok.ensures.ok.5 in
    let at = drawn_markable c.args.about c.args.parts c.args.superpages c.args.turn c.args.room.holders.items c.args.room.roles.items c.requires.drawn in
    subst (λ (k : Key). k.lanes ≡ false → IsMarkable k.opening) (sym same) at
