-- The page that was taken is put back as it was.
use Rattle.std.proofs.Common.{◌<◌, sym, subst}
use Rattle.bc_pins.specs.Key.{Key, pages_of}
use Rattle.bc_pins.proofs.VisitLemmas.{holds_taken, may_put_taken}
use Rattle.turn_tests.proofs.table.meeting.is_visited.Goals as goal

pub put-requires-clause-held : goal.put-requires-clause-held
put-requires-clause-held g c = holds_taken _ _ _ _ c.in-Ok.ensures.ok (subst (λ (k : Key). 0 < pages_of k) (sym c.requires.at.about) c.requires.page)

pub put-requires-clause-may : goal.put-requires-clause-may
put-requires-clause-may g c = may_put_taken _ _ _ _ c.in-Ok.ensures.ok c.in-Ok.ensures.taken
