-- What the space keeps that the tests make by hand
mod BenchLemmas
-- What the small heap keeps that the tests make by hand
mod SmallLemmas
-- A heap that tests make by hand stays fit to be collected.
mod WorkbenchLemmas
