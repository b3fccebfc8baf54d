-- In the theorem.
-- How much input a command takes, and how many threads may mark.
use Rattle.std.specs.Prelude.{ℕ}
use Rattle.bc_words.specs.declared.command.Command.{Command}
use Rattle.bc_words.specs.declared.command.Command.TheVariants.{Run, Churn, Save, Resume}
use Rattle.bc_replay.specs.Outcomes.{longest_trace}

-- the most bytes of an image and a trace: 134,217,728 for the image, and 16,777,216 for the trace
abbrev pub longest_resumed : ℕ
longest_resumed = 150994944

-- the most bytes that a command reads
abbrev pub longest_of : Command → ℕ
longest_of (Run workers) = longest_trace
longest_of (Churn start ops workers) = longest_trace
longest_of (Save phases workers) = longest_trace
longest_of (Resume workers) = longest_resumed

-- how many threads may mark, by the command
abbrev pub workers_of : Command → ℕ
workers_of (Run workers) = workers
workers_of (Churn start ops workers) = workers
workers_of (Save phases workers) = workers
workers_of (Resume workers) = workers
