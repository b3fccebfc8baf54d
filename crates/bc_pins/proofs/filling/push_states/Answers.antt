use Rattle.std.proofs.Common.{◌≡◌, ℕ, List, ◌++◌, ◌+◌, ◌<◌, length, length-append, ap, sym, subst, ◌∙◌, arith}
use Rattle.std.proofs.lemmas.List.{get_or_default}
use Rattle.bc_superpages.specs.Headers.{unused_header}
use Rattle.bc_pins.specs.Filling.{AddsStates}
use Rattle.bc_pins.proofs.FillLemmas.{states_none, states_block}
use Rattle.bc_pins.proofs.filling.push_states.Goals as goal

pub loop-superpage-init : goal.loop-superpage-init
loop-superpage-init c = record { room = omega arith; added = states_none _ _ }

pub loop-superpage-preserved : goal.loop-superpage-preserved
loop-superpage-preserved c =
    let inv = c.loop-superpage.invariant in
    let added = c.push_block.ensures in
    let room = added.room in
    let kept = inv.room in
    let q : ℕ = c.loop-superpage.superpage in
    let block : List ℕ = c.page_words.result in
    let both = length-append c.loop-superpage.words.items block in
    let long : length (c.loop-superpage.words.items ++ block) ≡ length c.loop-superpage.words.items + 16 = ap length (sym added.items) ∙ added.long in
    let lt = c.loop-superpage-test.true in
    let few = c.requires.superpages in
    let within : q < length c.args.headers.now = omega arith in
    record {
      room = omega arith;
      added = subst (λ (l : List ℕ). AddsStates c.args.headers.now c.args.words.now.items l (q + 1)) (sym added.items)
          (states_block _ _ _ block q _ inv.added (omega arith) (get_or_default c.args.headers.now q _ unused_header within) c.page_words.ensures.pages);
    }
