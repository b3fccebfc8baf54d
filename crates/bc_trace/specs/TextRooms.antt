-- How many bytes the texts may have that a replay prints. Each of their lines has a bounded number of them.
use Rattle.std.specs.Prelude.{ℕ, ◌+◌, ◌*◌}

-- The line of a lane, or of a reply. A lane's is five bytes, at most twenty digits, and a line feed. That of a birth is the longest
-- of a reply: four bytes, ten digits, a dot, ten digits, and a line feed.
abbrev pub line_bytes : ℕ
line_bytes = 26

-- the text of a phase of so many lanes, with so many replies in all: its own line is six bytes, at most twenty digits, and a line
-- feed, and each lane and each reply has a line
abbrev pub phase_bytes : ℕ → ℕ → ℕ
phase_bytes lanes replies = 27 + line_bytes * (lanes + replies)

-- the line of a need: twelve bytes, at most twenty digits, and a line feed
abbrev pub need_bytes : ℕ
need_bytes = 33
