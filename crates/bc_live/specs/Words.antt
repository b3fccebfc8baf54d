-- Which words the program takes, and what they give. They come without the program's name.
use Rattle.std.specs.Prelude.{◌≡◌, ℕ, ◌<◌, ◌≤◌, ◌^◌, ◌⊎◌, List, [], ◌∷◌}
use Rattle.std.specs.Fmt.{decimal}
use Rattle.bc_words.specs.Commands.{Word}
use Rattle.bc_live.specs.declared.words.LiveWords.{LiveWords}

-- The words are two numbers or three: the one that hints are drawn from, below 2^63, how many hints are handed in at most, up to 100,000,
-- and how many workers there are, from 1 to 16, or 1 where it is left out. A number has no sign and no leading zero.
pub record IsLiveWords (words : List Word) (w : LiveWords) : Type 0 where
  pub start : w.start < 2 ^ 63
  pub count : w.count ≤ 100000
  pub workers : (1 ≤ w.workers) × (w.workers ≤ 16)
  pub spelled :
      ((words ≡ decimal w.start ∷ decimal w.count ∷ []) × (w.workers ≡ 1))
      ⊎ (words ≡ decimal w.start ∷ decimal w.count ∷ decimal w.workers ∷ [])

-- two words are the numbers of hints, and the number of workers is this one
abbrev pub AreTheNumbers : Word → Word → ℕ → LiveWords → Type 0
AreTheNumbers start count workers w =
    (start ≡ decimal w.start) × (w.start < 2 ^ 63) × (count ≡ decimal w.count) × (w.count ≤ 100000) × (w.workers ≡ workers)
