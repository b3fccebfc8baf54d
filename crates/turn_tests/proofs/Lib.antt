-- What the tests need
mod TestLemmas
-- A page that comes back in the turn, in the tests
mod BackLemmas
-- A heap without chunks whose cells can be collected, in the tests
mod RootedLemmas
-- What the seats of a test's table keep: how they are dealt, stay and come back
mod SeatedLemmas
