-- What the ranges keep small.
use Rattle.std.proofs.Common.{◌≡◌, ℕ, ◌+◌, ◌≤◌, true, ◌&&◌, leb, arith}
use Rattle.std.proofs.lemmas.Bool.{leb-true, and_parts}
use Rattle.bc_trace.specs.declared.grammar.Progress.{Progress}
use Rattle.bc_trace.specs.declared.words.Setting.TheVariants as settings
use Rattle.bc_trace.specs.Lines.{Line, version, setting, phase, turn, lane, op, give, freeze, end, done}
use Rattle.bc_trace.specs.Grammar.{after}
use Rattle.bc_trace.specs.Reading.{in_range, is_setting}
use Rattle.bc_trace.specs.Said.{IsSmall}

most : (n m : ℕ) → (leb 1 n && leb n m) ≡ true → n ≤ m
most n m e = leb-true n m (and_parts (leb 1 n) (leb n m) e).1

-- after a line whose numbers are in range
pub IsSmall-after : (l : Line) (s : Progress) (n : ℕ) → in_range s l ≡ true → IsSmall s n → IsSmall (after l s) (n + 1)
unfolding in_range is_setting
IsSmall-after (version v) s n e h = record { lanes = h.lanes; nursery = h.nursery; superpages = h.superpages; stood = omega (arith, h.stood) }
IsSmall-after (setting settings.Lanes v) s n e h = record { lanes = most v 16 e; nursery = h.nursery; superpages = h.superpages; stood = omega (arith, h.stood) }
IsSmall-after (setting settings.Domains v) s n e h = record { lanes = h.lanes; nursery = h.nursery; superpages = h.superpages; stood = omega (arith, h.stood) }
IsSmall-after (setting settings.Slots v) s n e h = record { lanes = h.lanes; nursery = h.nursery; superpages = h.superpages; stood = omega (arith, h.stood) }
IsSmall-after (setting settings.Superpages v) s n e h = record { lanes = h.lanes; nursery = h.nursery; superpages = most v 4096 e; stood = omega (arith, h.stood) }
IsSmall-after (setting settings.Nursery v) s n e h = record { lanes = h.lanes; nursery = most v 16 e; superpages = h.superpages; stood = omega (arith, h.stood) }
IsSmall-after (setting settings.Buffer v) s n e h = record { lanes = h.lanes; nursery = h.nursery; superpages = h.superpages; stood = omega (arith, h.stood) }
IsSmall-after (setting settings.Frames v) s n e h = record { lanes = h.lanes; nursery = h.nursery; superpages = h.superpages; stood = omega (arith, h.stood) }
IsSmall-after phase s n e h = record { lanes = h.lanes; nursery = h.nursery; superpages = h.superpages; stood = omega arith }
IsSmall-after (turn shift hints) s n e h = record { lanes = h.lanes; nursery = h.nursery; superpages = h.superpages; stood = omega (arith, h.stood) }
IsSmall-after (lane j) s n e h = record { lanes = h.lanes; nursery = h.nursery; superpages = h.superpages; stood = omega (arith, h.stood) }
IsSmall-after (op o) s n e h = record { lanes = h.lanes; nursery = h.nursery; superpages = h.superpages; stood = omega (arith, h.stood) }
IsSmall-after (give g) s n e h = record { lanes = h.lanes; nursery = h.nursery; superpages = h.superpages; stood = omega (arith, h.stood) }
IsSmall-after (freeze d) s n e h = record { lanes = h.lanes; nursery = h.nursery; superpages = h.superpages; stood = omega (arith, h.stood) }
IsSmall-after end s n e h = record { lanes = h.lanes; nursery = h.nursery; superpages = h.superpages; stood = omega (arith, h.stood) }
IsSmall-after done s n e h = record { lanes = h.lanes; nursery = h.nursery; superpages = h.superpages; stood = omega (arith, h.stood) }
