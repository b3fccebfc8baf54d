-- The one right is given back.
use Rattle.std.proofs.Common.{◌≡◌, ℕ, List, [], ◌∷◌, ap, sym, ◌∙◌}
use Rattle.bc_pins.specs.declared.views.View.{View}
use Rattle.bc_pins.specs.Calls.{view_of}
use Rattle.bc_evict.proofs.RightLemmas.{rights-gone}
use Rattle.turn_tests.proofs.table.evicting.give_up.Goals as goal

pub returns-clause-rights : goal.returns-clause-rights
returns-clause-rights c =
    let before : (view_of c.bookmark.new.seat).rights ≡ [] = ap (λ (v : View). v.rights) (c.bookmark.ensures.bookmarked c.requires.held.hand c.requires.held.has).same ∙ c.requires.none in
    rights-gone (view_of c.evict-right.new.seat) (view_of c.give_frame.new.seat) c.evict-right.result.frame c.give_frame.ensures.given
    (ap (λ (v : View). v.rights) c.evict-right.ensures.view ∙ ap (λ (l : List ℕ). c.args.held.homed.frame ∷ l) before ∙ ap (λ (f : ℕ). f ∷ []) (sym c.evict-right.ensures.frame))
