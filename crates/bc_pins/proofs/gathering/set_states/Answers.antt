use Rattle.std.proofs.Common.{ℕ, ◌+◌, ◌*◌, ◌≤◌, ◌≡◌, get_or, ap, sym, subst, ◌∙◌, arith}
use Rattle.core.specs.Mem.Slots.{slots_items}
use Rattle.bc_pins.proofs.WordLemmas.{at_or}
use Rattle.bc_pins.proofs.HeaderLemmas.{pages_start, pages_step}
use Rattle.bc_pins.proofs.gathering.set_states.Goals as goal

pub loop-place-init : goal.loop-place-init
loop-place-init c = pages_start _ _ _

pub state_of-requires : goal.state_of-requires
state_of-requires c =
    let lt = c.loop-place-test.true in
    let entry = c.page_entry.ensures in
    let there : c.page_entry.result ≡ 16 * c.args.superpage + c.loop-place.place = omega arith in
    let read : get_or (slots_items c.args.closed.now.words) (16 * c.args.superpage + c.loop-place.place) 0 ≡ c.word.result =
    ap (λ (i : ℕ). get_or (slots_items c.args.closed.now.words) i 0) (sym there) ∙ at_or _ c.page_entry.result c.word.result 0 c.word.ensures in
    subst (λ (n : ℕ). n ≤ 4) read (c.requires.few c.loop-place.place lt)

pub loop-place-preserved : goal.loop-place-preserved
loop-place-preserved c =
    let lt = c.loop-place-test.true in
    let entry = c.page_entry.ensures in
    let there : c.page_entry.result ≡ 16 * c.args.superpage + c.loop-place.place = omega arith in
    let read : get_or (slots_items c.args.closed.now.words) (16 * c.args.superpage + c.loop-place.place) 0 ≡ c.word.result =
    ap (λ (i : ℕ). get_or (slots_items c.args.closed.now.words) i 0) (sym there) ∙ at_or _ c.page_entry.result c.word.result 0 c.word.ensures in
    pages_step _ _ _ c.loop-place.place c.state_of.result _ c.loop-place.invariant c.requires.four lt (c.state_of.ensures.state ∙ sym read)
