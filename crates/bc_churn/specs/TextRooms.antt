-- How many bytes the output of `churn` may have.
use Rattle.std.specs.Prelude.{ℕ, ◌+◌}

-- The output of `churn`. Its first line has two numbers, of at most twenty and ten digits, and eight bytes more; the eleven counts
-- have forty bytes of names, and each a space, at most twenty digits and a line feed; `done` has five bytes.
abbrev pub churn_bytes : ℕ
churn_bytes = 38 + 282 + 5
