-- In the theorem.
-- How many superpages a state needs at least.
use Rattle.std.specs.Prelude.{◌≡◌, ℕ, ◌+◌, ◌-◌, ◌/◌, ◌==◌, ◌&&◌, ◌↔◌, Bool, List, length}
use Rattle.std.specs.List.{sum_by, count_by}
use Rattle.bc_classes.specs.Classes.{class_of, cap, classes}
use Rattle.bc_reach.specs.Distinct.{Has, Distinct}
use Rattle.bc_model.specs.Reached.{Reached}
use Rattle.bc_model.specs.State.{State, Object, object_of, numbers_below}
use Rattle.bc_model.specs.declared.values.Birth.{Birth}

-- the object is in the domain and takes cells of the class
abbrev pub is_of : ℕ → ℕ → Object → Bool
is_of domain class o = (o.domain == domain) && (class_of (length o.fields) == class)

-- superpages that n objects of a class take: n divided by the class's capacity, rounded up
abbrev pub superpages_for : ℕ → ℕ → ℕ
superpages_for class n = (n + (cap class - 1)) / cap class

-- superpages that objects take, from how many there are of each pair of domain and class
abbrev pub need_of : ℕ → (ℕ → ℕ → ℕ) → ℕ
need_of domains count = sum_by (λ d. sum_by (λ c. superpages_for c (count d c)) classes) (numbers_below domains)

-- how many of the objects are of a pair
abbrev pub count_of : List (List Object) → List Birth → ℕ → ℕ → ℕ
count_of made births d c = count_by (λ b. is_of d c (object_of made b)) births

-- n is the state's need: what the reached objects take, each counted once
pub record IsNeed (s : State) (n : ℕ) : Type 0 where
  pub births : List Birth
  pub distinct : Distinct births
  pub members : (b : Birth) → Has births b ↔ Reached s.slots s.made b
  pub need : n ≡ need_of (length s.holders) (count_of s.made births)
