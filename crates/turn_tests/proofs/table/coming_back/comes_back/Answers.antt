-- The page may come back, is in hand then and may be put back.
use Rattle.std.proofs.Common.{◌<◌, sym, subst, ◌∙◌}
use Rattle.bc_pins.specs.Key.{Key, pages_of}
use Rattle.bc_pins.specs.Calls.{view_of}
use Rattle.turn_tests.proofs.BackLemmas.{reloaded-held, reloaded-may-put}
use Rattle.turn_tests.proofs.SeatedLemmas.{fetch-same}
use Rattle.turn_tests.proofs.table.coming_back.comes_back.Goals as goal

pub put-requires-clause-held : goal.put-requires-clause-held
put-requires-clause-held c =
    reloaded-held (view_of c.claim_frame.new.seat) c.args.page c.in-Some-claim_frame.right.frame c.reload.new.seat c.in-Ok.held c.in-Ok.ensures.ok.0
    (subst (λ (k : Key). c.args.page < pages_of k) (sym (c.claim_frame.ensures.same.about ∙ c.give_frame.ensures.same.about ∙ c.free_frame.ensures.same.about ∙ c.requires.at.about)) c.requires.page)

pub put-requires-clause-may : goal.put-requires-clause-may
put-requires-clause-may c = reloaded-may-put (view_of c.claim_frame.new.seat) c.args.page c.in-Some-claim_frame.right.frame c.reload.new.seat c.in-Ok.held c.in-Ok.ensures.ok.0

pub reload-requires-clause-may : goal.reload-requires-clause-may
reload-requires-clause-may c =
    fetch-same c.give_frame.new.seat c.claim_frame.new.seat c.args.page c.claim_frame.ensures.same
    (fetch-same c.free_frame.new.seat c.give_frame.new.seat c.args.page c.give_frame.ensures.same (fetch-same c.args.lane.now c.free_frame.new.seat c.args.page c.free_frame.ensures.same c.requires.may))
