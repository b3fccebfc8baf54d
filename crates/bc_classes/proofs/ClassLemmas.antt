-- What the crates above need of classes, on plain numbers.
use Rattle.std.proofs.Common.{◌≡◌, ℕ, ◌+◌, ◌*◌, ◌<◌, ◌≤◌, arith}
use Rattle.std.proofs.lemmas.Grind.{common_steps}
use Rattle.bc_classes.specs.Classes.{class_of, cells_a_page, cap}
use Rattle.bc_classes.specs.ClassNumbers.{IsClass}

pub class_of-class : (n : ℕ) → IsClass (class_of n)
unfolding class_of
class_of-class n = grind (arith, common_steps)

-- an object with its head fits the cell
pub class_of-holds : (n : ℕ) → n ≤ 127 → n + 1 ≤ class_of n
unfolding class_of
class_of-holds n few = grind (arith, common_steps)

pub class_of-smallest : (n c : ℕ) → IsClass c → n + 1 ≤ c → class_of n ≤ c
unfolding class_of
class_of-smallest n c k holds = grind (arith, common_steps)

-- the cells of a class tile a page
pub cells_a_page-tile : (c : ℕ) → IsClass c → c * cells_a_page c ≡ 512
cells_a_page-tile c k = grind (arith, common_steps)

-- and a superpage
pub cap-tile : (c : ℕ) → IsClass c → c * cap c ≡ 2048
cap-tile c k = grind (arith, common_steps)

pub class-positive : (c : ℕ) → IsClass c → 0 < c
class-positive c k = omega arith

pub cap-positive : (c : ℕ) → IsClass c → 0 < cap c
cap-positive c k = grind (arith, common_steps)

pub cap-few : (c : ℕ) → IsClass c → cap c ≤ 1024
cap-few c k = grind (arith, common_steps)
