use Rattle.std.proofs.Common.{ℕ, inl, inr, refl, ap, sym, ◌∙◌, arith, set, get_or, get_or-set_same, get_or-set_other}
use Rattle.std.proofs.lemmas.Bool.{cases_eq}
use Rattle.std.proofs.lemmas.List.{length-set}
use Rattle.bc_superpages.specs.declared.headers.PageState.TheVariants.{Absent}
use Rattle.bc_pins.specs.Views.{state_word}
use Rattle.bc_pins.proofs.filling.page_words.Goals as goal

pub loop-place-init : goal.loop-place-init
loop-place-init c = record { long = refl; pages = λ i lt. absurd (omega arith) }

pub loop-place-preserved : goal.loop-place-preserved
loop-place-preserved c =
    let inv = c.loop-place.invariant in
    let long = inv.long in
    let lt = c.loop-place-test.true in
    let place : ℕ = c.loop-place.place in
    record {
      long = length-set c.loop-place.words place c.word_of.result ∙ inv.long;
      pages = λ i less. elim (cases_eq i place) [
        | inl e ↦
            ap (λ (j : ℕ). get_or (set c.loop-place.words place c.word_of.result) j 0) e
            ∙ get_or-set_same c.loop-place.words place c.word_of.result 0 (omega arith)
            ∙ c.word_of.ensures.word ∙ ap (λ (j : ℕ). state_word (get_or c.args.header.now.pages j Absent)) (sym e)
        | inr ne ↦ get_or-set_other c.loop-place.words place i c.word_of.result 0 ne ∙ inv.pages i (omega arith)
      ];
    }

pub returns : goal.returns
returns c =
    let done = c.loop-place-test.false in
    record { pages = λ i lt. c.loop-place.invariant.pages i (omega arith) }
