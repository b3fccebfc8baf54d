-- The hint is some number, and the call that gave it changed nothing that contracts see.
use Rattle.std.proofs.Common.{subst}
use Rattle.std.proofs.lemmas.Result.{on_err_weaker, on_ok_weaker}
use Rattle.bc_bookmarks.specs.Choices.{MadeRoom}
use Rattle.bc_bookmarks.specs.Moves.{NoPageGoes}
use Rattle.bc_superpages.specs.Layout.{Layout}
use Rattle.bc_running.proofs.touching.reload_by_clock.Goals as goal

pub returns-clause-back : goal.returns-clause-back
returns-clause-back c =
    on_ok_weaker c.reload_from_hint.result
    (λ back. (c.least_used-hint.result, back.0, subst (λ (x : Layout). MadeRoom x c.least_used-hint.result back.0) c.least_used-hint.ensures.same back.1, back.2))
    c.reload_from_hint.ensures.back

pub returns-clause-full : goal.returns-clause-full
returns-clause-full c =
    on_err_weaker c.reload_from_hint.result (λ full. subst NoPageGoes c.least_used-hint.ensures.same full) c.reload_from_hint.ensures.full
