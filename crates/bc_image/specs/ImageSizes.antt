-- In the theorem.
-- How many bytes an image may have.
use Rattle.std.specs.Prelude.{ℕ}

-- the most bytes of an image, fewer than 134,217,728: eight for each of ten numbers, 64 holders, 16 counts of births, 64 times 256 root
-- words, and 3,074 items in each of 4,096 superpages. These are its pair, the number of its objects, and 1,024 objects of an address, a
-- head and a field
abbrev pub most_image_bytes : ℕ
most_image_bytes = 100860624
