-- Objects are never forgotten and keep their shape.
use Rattle.std.specs.Prelude.{◌≡◌, List, length}
use Rattle.bc_model.specs.State.{Object, IsBorn, object_of}
use Rattle.bc_model.specs.declared.values.Birth.{Birth}

-- all that was born stays so, with its domain and its number of fields
pub record Grows (old new : List (List Object)) : Type 0 where
  pub lanes : length new ≡ length old
  pub born : (b : Birth) → IsBorn old b → IsBorn new b
  pub domain : (b : Birth) → IsBorn old b → (object_of new b).domain ≡ (object_of old b).domain
  pub fields : (b : Birth) → IsBorn old b → length (object_of new b).fields ≡ length (object_of old b).fields
