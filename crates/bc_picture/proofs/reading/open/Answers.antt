use Rattle.std.proofs.Common.{◌≡◌, ◌/◌, ◌%◌, true, false, refl, sym, ◌∙◌, arith}
use Rattle.bc_superpages.specs.declared.headers.PageState.TheVariants.{Gone}
use Rattle.bc_superpages.specs.LayoutAt.{state_at}
use Rattle.bc_bookmarks.proofs.MovingLemmas.{MovesPages-none}
use Rattle.bc_picture.proofs.ReadLemmas.{makes-room, is-here, home-here}
use Rattle.bc_picture.proofs.reading.open.Goals as goal

pub reload_from-requires-clause-targets : goal.reload_from-requires-clause-targets
reload_from-requires-clause-targets c = λ p _ _. c.requires.readable.names p

pub unreachable-requires : goal.unreachable-requires
unreachable-requires c = c.in_default.ensures.finds (makes-room c.args.space.now c.requires.readable)

pub returns-in-Ok-clause-here : goal.returns-in-Ok-clause-here
returns-in-Ok-clause-here c = home-here _ c.in-Ok.ensures.here

pub returns-else-eq-clause-moves : goal.returns-else-eq-clause-moves
returns-else-eq-clause-moves c = MovesPages-none c.args.space.now c.requires.readable.summarised

pub returns-else-eq-clause-here : goal.returns-else-eq-clause-here
returns-else-eq-clause-here c =
    is-here (state_at c.args.space.now.states c.args.page) c.requires.there
    ((c.facts.ensures.kept.each (c.args.page / 4) (let lt = c.requires.page in omega arith)).not_held (c.args.page % 4))
    (c.requires.readable.calm.remembered c.args.page)
    (λ e. let gone : c.state.result ≡ Gone = c.state.ensures.state ∙ e in
    let same : c.eq.result ≡ true = rw (c.eq.ensures, gone) refl in
    absurd (let bad : true ≡ false = sym same ∙ c.if-eq.false in cc))
