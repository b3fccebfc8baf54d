-- In the theorem.
-- What is known of the bytes that a source has left, and of the bytes that a sink holds and the room that it has.
-- Each is `None` where it isn't known. What is known stays known, and what isn't stays unknown.
use Rattle.std.specs.Prelude.{◌≡◌, ℕ, ◌≤◌, List, ◌++◌, length, Option, None, Some, ⊤}
use Rattle.std.specs.Io.KnownBytes.{append_known, prepend_known}

-- a source gave these bytes: it had them left, and after them what it has left now
abbrev pub LeftFalls : Option (List ℕ) → Option (List ℕ) → List ℕ → Type 0
LeftFalls old new bytes = old ≡ prepend_known bytes new

-- a sink holds these bytes more, after those that it held
abbrev pub HeldGrows : Option (List ℕ) → Option (List ℕ) → List ℕ → Type 0
HeldGrows old new bytes = new ≡ append_known old bytes

-- this number of bytes is at most the room, where that is known
abbrev pub HasRoom : Option ℕ → ℕ → Type 0
HasRoom None count = ⊤
HasRoom (Some room) count = count ≤ room

-- these bytes begin with that prefix
abbrev pub IsPrefix : List ℕ → List ℕ → Type 0
IsPrefix front whole = (rest : List ℕ) × (whole ≡ front ++ rest)

-- A source gave some bytes, at most so many: what it has left is the end of what it had left.
pub record GivesAtMost (old new : Option (List ℕ)) (most : ℕ) : Type 0 where
  pub given : List ℕ
  pub count : length given ≤ most
  pub falls : LeftFalls old new given

-- A source gave just so many bytes.
pub record GivesExactly (old new : Option (List ℕ)) (count : ℕ) : Type 0 where
  pub given : List ℕ
  pub counted : length given ≡ count
  pub falls : LeftFalls old new given
