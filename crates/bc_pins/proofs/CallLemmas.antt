-- What a seat has once its slots were exchanged, and the words of pages at home.
use Rattle.std.proofs.Common.{◌≡◌, ℕ, ◌≤◌, ◌==◌, Bool, true, false, List, ◌∷◌, refl, ap, sym, subst, ◌∙◌, arith}
use Rattle.atomic_table.specs.Table.{rest}
use Rattle.bc_pins.specs.declared.views.Lodged.{Lodged}
use Rattle.bc_pins.specs.Views.{home_word}

pub headed : (l : List (ℕ × Lodged)) (x : ℕ × Lodged) (xs : List (ℕ × Lodged)) → l ≡ x ∷ xs → l ≡ x ∷ rest l
headed l x xs e = e ∙ ap (λ (m : List (ℕ × Lodged)). x ∷ m) (sym (ap rest e))

-- the word of a page at home is Home or Remembered
pub record IsHomeWord (remembered : Bool) (x : ℕ) : Type 0 where
  pub low : 1 ≤ x
  pub high : x ≤ 2
  pub flag : remembered ≡ true → x ≡ 2
  pub test : (x == 2) ≡ remembered

not_so : false ≡ true → ⊥
not_so e = cc

at_flag : (b : Bool) → IsHomeWord b (home_word b)
at_flag true = record { low = omega arith; high = omega arith; flag = λ _. refl; test = refl }
at_flag false = record { low = omega arith; high = omega arith; flag = λ e. absurd (not_so e); test = refl }

pub is_home_word : (b : Bool) (x : ℕ) → x ≡ home_word b → IsHomeWord b x
is_home_word b x e = subst (IsHomeWord b) (sym e) (at_flag b)
