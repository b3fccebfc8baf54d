-- A phase of a trace that was run and whose replies are counted, and a workload that was drawn and run to its end.
pub mod Counted
-- The command that was found, and the one that the words are.
pub mod Asking
-- The output of `churn` is short.
pub mod ChurnRoom
-- What reading an image and the trace after it says.
pub mod ParseLemmas
-- An engine that goes on with an image
pub mod Resuming
-- The room that `resume` wants: four times the bytes that are read, and forty more.
pub mod ResumeRoom
-- The room that `save` wants: that of the largest image.
pub mod SaveRoom
-- `resume` goes on with what `save` wrote.
pub mod GoingOn
-- The first phases of a trace that were run, and the image of the heap after them.
pub mod Saving
-- How a command ends once all that takes memory is done
pub mod Writing
