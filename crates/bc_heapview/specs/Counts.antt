-- How many objects of each domain and class a state reaches, as a list.
use Rattle.std.specs.Prelude.{◌≡◌, ℕ, ◌*◌, ◌^◌, ◌<◌, ◌≤◌, ◌==◌, ◌↔◌, if◌then◌else◌, List, [], ◌∷◌, length}
use Rattle.std.specs.List.{AllByRecursion, flat_map, sum_by}
use Rattle.bc_classes.specs.Classes.{classes}
use Rattle.bc_reach.specs.Distinct.{Has, Distinct}
use Rattle.bc_model.specs.Need.{superpages_for, count_of}
use Rattle.bc_model.specs.Reached.{Reached}
use Rattle.bc_model.specs.State.{State, numbers_below}
use Rattle.bc_model.specs.declared.values.Birth.{Birth}
use Rattle.bc_heapview.specs.declared.tally.Count.{Count}

-- what n objects of a pair of domain and class are counted as: nothing where there are none
abbrev pub pair_counts : ℕ → ℕ → ℕ → List Count
pair_counts d c n = if n == 0 then [] else record { domain = d; class = c; objects = n; superpages = superpages_for c n } ∷ []

-- the counts of a domain, class after class
abbrev pub domain_counts : ℕ → (ℕ → ℕ) → List Count
domain_counts d count = flat_map (λ c. pair_counts d c (count c)) classes

-- the counts of all pairs that have an object, by domain and then by class
abbrev pub counts_of : ℕ → (ℕ → ℕ → ℕ) → List Count
counts_of domains count = flat_map (λ d. domain_counts d (count d)) (numbers_below domains)

-- these are the counts of what the state reaches, each object counted once
pub record AreCounts (s : State) (counts : List Count) : Type 0 where
  pub births : List Birth
  pub distinct : Distinct births
  pub members : (b : Birth) → Has births b ↔ Reached s.slots s.made b
  pub counts_are : counts ≡ counts_of (length s.holders) (count_of s.made births)

-- the superpages of all counts together
abbrev pub superpages_of : List Count → ℕ
superpages_of counts = sum_by (λ (k : Count). k.superpages) counts

-- no more counts than pairs of domain and class, and each of fewer than 2 ^ 32 superpages
pub record AreFewCounts (counts : List Count) : Type 0 where
  pub few : length counts ≤ 448
  pub small : AllByRecursion (λ (k : Count). k.superpages < 2 ^ 32) counts
