-- In the theorem.
-- The size classes of cells, in words, and how many cells of each a page and a superpage hold.
use Rattle.std.specs.Prelude.{ℕ, ◌*◌, ◌/◌, List, [], ◌∷◌, nat_lt, if◌then◌else◌}

-- the seven size classes, in words
abbrev pub classes : List ℕ
classes = 2 ∷ 4 ∷ 8 ∷ 16 ∷ 32 ∷ 64 ∷ 128 ∷ []

-- the class that an object with this number of fields takes; it means something up to 127 fields
unfoldable pub class_of : ℕ → ℕ
class_of fields =
    if nat_lt fields 2 then 2 else
    if nat_lt fields 4 then 4 else
    if nat_lt fields 8 then 8 else
    if nat_lt fields 16 then 16 else
    if nat_lt fields 32 then 32 else
    if nat_lt fields 64 then 64 else 128

-- how many cells of a class lie on a page of 512 words
abbrev pub cells_a_page : ℕ → ℕ
cells_a_page class = 512 / class

-- how many cells of a class lie on the four pages of a superpage
abbrev pub cap : ℕ → ℕ
cap class = 4 * cells_a_page class
