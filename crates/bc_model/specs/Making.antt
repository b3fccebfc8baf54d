-- Which operations make an object, so that they ask for memory.
use Rattle.bc_model.specs.declared.operations.Op.{Op}
use Rattle.bc_model.specs.declared.operations.Op.TheVariants.{New, Who, Len, Set, Cut, Link, Load, Copy, Clear, Same}

-- the operation is a new
abbrev pub IsNew : Op → Type 0
IsNew (New p n) = Unit {0}
IsNew (Who p) = ⊥
IsNew (Len p) = ⊥
IsNew (Set p i v) = ⊥
IsNew (Cut p i) = ⊥
IsNew (Link p i q) = ⊥
IsNew (Load p i q) = ⊥
IsNew (Copy p q) = ⊥
IsNew (Clear p) = ⊥
IsNew (Same p q) = ⊥
