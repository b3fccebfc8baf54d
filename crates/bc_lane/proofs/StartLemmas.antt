-- Where the words of each domain's slots begin.
use Rattle.std.proofs.Common.{◌≡◌, ℕ, ◌*◌, ◌<◌, List, length, get_or}

-- the stretches begin one after another, as far as the list was read
abbrev pub ArePlaced : List ℕ → ℕ → ℕ → List ℕ → Type 0
ArePlaced domains slots number starts =
    ((i j : ℕ) → i < j → j < length domains → get_or domains i 0 < get_or domains j 0)
    → (i : ℕ) → i < number → get_or starts (get_or domains i 0) 0 ≡ i * slots
