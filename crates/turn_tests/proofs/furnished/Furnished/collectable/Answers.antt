-- What lies on a page that isn't gone refers to cells alone.
use Rattle.std.proofs.Common.{ap}
use Rattle.bc_superpages.specs.RootWords.{RootWords}
use Rattle.turn_tests.proofs.RootedLemmas.{can-rooted}
use Rattle.turn_tests.proofs.TestLemmas.{sound-openable}
use Rattle.turn_tests.proofs.furnished.Furnished.collectable.Goals as goal

pub answer_one-evicted-requires : goal.answer_one-evicted-requires
answer_one-evicted-requires c = record { openable = sound-openable c.self.inside.space c.self.invariant (c.are_plain.ensures.promised c.if-not-are_plain.false) }

pub returns : goal.returns
returns c = record {
  can = can-rooted c.self.inside.space c.answer_one-evicted.new.space c.in_ok-roots.roots 1 c.self.invariant c.answer_one-evicted.ensures.moves c.answer_one-evicted.ensures.openable (ap (λ (r : RootWords). r.words) c.in_ok-roots.ensures.nil);
}
