-- The objects that a lane may look at, in the heap as one memory.
pub mod ObjectLemmas
-- What the words of a heap are read as in the state that it stands for.
pub mod MeaningLemmas
-- What is returned to a lane that asks about its slots.
pub mod TellingLemmas
-- A root slot becomes another word
pub mod RootLemmas
-- The states of pages, where one page is made Remembered.
pub mod StateLemmas
-- A layout with one page made Remembered is a layout, and so is one with a field of a cell written.
pub mod LayoutLemmas
-- A Vec in which an element is written back as it was is the same Vec.
pub mod VecLemmas
-- A field of a cell is written
pub mod MatureLemmas
-- A field of an object of the lane's chunk is written
pub mod YoungLemmas
-- A field of an object is written.
pub mod WritingLemmas
-- From what a lane has in hand to the whole heap that it belongs to.
pub mod PartLemmas
-- What a write to a field records, and so what a link does.
pub mod RecordLemmas
-- What an operation changes in the heap as one memory
pub mod ChangeLemmas
-- A new object at the end of the lane's chunk, and a root slot that refers to it.
pub mod NewLemmas
-- From an operation that is done to the step of the state.
pub mod StepLemmas
-- Each operation in the whole heap that the lane's parts belong to.
pub mod ActLemmas
-- Who may read and write a domain
pub mod HolderLemmas
