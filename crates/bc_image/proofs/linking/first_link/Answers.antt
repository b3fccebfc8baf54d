use Rattle.std.proofs.Common.{◌≡◌, ℕ, ◌+◌, List, length, ap, sym, subst, ◌∙◌, arith}
use Rattle.bc_image.specs.Cells.{CellList}
use Rattle.bc_image.specs.Homes.{HasHomes, LieBelow}
use Rattle.bc_image.specs.Numbered.{numbered, words_below, first_lost}
use Rattle.bc_image.proofs.LinkLemmas.{below-words, lost-first, lost-behind}
use Rattle.bc_image.proofs.linking.first_link.Goals as goal

pub homes-requires : goal.homes-requires
homes-requires c = below-words c.deref-2.result.now c.end_of.result (subst (λ (cells : List CellList). LieBelow cells c.end_of.result) (c.deref.ensures.value ∙ sym c.deref-2.ensures.value) c.end_of.ensures)

pub returns-in-Some : goal.returns-in-Some
returns-in-Some c =
    let homes = subst (λ (cells : List CellList). HasHomes cells c.in_ok-there.there.items) c.deref-2.ensures.value c.in_ok-there.ensures.homes in
    let there = subst (HasHomes c.args.draft.now.cells.items) (sym c.deref-3.ensures.value) homes in
    let found = sym c.in-Some.is ∙ c.lost_word.ensures c.args.draft.now.cells.items there in
    let holders = c.len.ensures ∙ c.args.draft.now.holders.ok.0 in
    let births = c.len-2.ensures ∙ c.args.draft.now.births.ok.0 in
    let first : 10 + c.len.result + c.len-2.result ≡ 10 + length c.args.draft.now.holders.items + length c.args.draft.now.births.items = omega (arith, holders, births) in
    lost-first c.args.draft.now.cells.items
    (numbered (10 + length c.args.draft.now.holders.items + length c.args.draft.now.births.items) c.args.draft.now.roots.items)
    (words_below c.args.draft.now.heads.items c.args.draft.now.cells.items (length c.args.draft.now.cells.items)) c.in-Some.number
    (found ∙ ap (λ (n : ℕ). first_lost c.args.draft.now.cells.items (numbered n c.deref-4.result.now)) first ∙ ap (λ (ws : List ℕ). first_lost c.args.draft.now.cells.items (numbered (10 + length c.args.draft.now.holders.items + length c.args.draft.now.births.items) ws)) c.deref-4.ensures.value)

pub returns : goal.returns
returns c =
    let homes = subst (λ (cells : List CellList). HasHomes cells c.in_ok-there.there.items) c.deref-2.ensures.value c.in_ok-there.ensures.homes in
    let there = subst (HasHomes c.args.draft.now.cells.items) (sym c.deref-3.ensures.value) homes in
    let none = sym c.in_default.is ∙ c.lost_word.ensures c.args.draft.now.cells.items there in
    let holders = c.len.ensures ∙ c.args.draft.now.holders.ok.0 in
    let births = c.len-2.ensures ∙ c.args.draft.now.births.ok.0 in
    let first : 10 + c.len.result + c.len-2.result ≡ 10 + length c.args.draft.now.holders.items + length c.args.draft.now.births.items = omega (arith, holders, births) in
    let roots = none ∙ ap (λ (n : ℕ). first_lost c.args.draft.now.cells.items (numbered n c.deref-4.result.now)) first ∙ ap (λ (ws : List ℕ). first_lost c.args.draft.now.cells.items (numbered (10 + length c.args.draft.now.holders.items + length c.args.draft.now.births.items) ws)) c.deref-4.ensures.value in
    let there2 = subst (HasHomes c.args.draft.now.cells.items) (sym c.deref-5.ensures.value) homes in
    let fields = c.lost_field.ensures c.args.draft.now.cells.items there2 in
    fields
    ∙ ap (λ (ns : List ℕ). first_lost c.args.draft.now.cells.items (words_below ns c.deref-6.result.now (length c.deref-6.result.now))) c.deref-7.ensures.value
    ∙ ap (λ (cs : List CellList). first_lost c.args.draft.now.cells.items (words_below c.args.draft.now.heads.items cs (length cs))) c.deref-6.ensures.value
    ∙ sym (lost-behind c.args.draft.now.cells.items
    (numbered (10 + length c.args.draft.now.holders.items + length c.args.draft.now.births.items) c.args.draft.now.roots.items)
    (words_below c.args.draft.now.heads.items c.args.draft.now.cells.items (length c.args.draft.now.cells.items)) (sym roots))
