-- Short lists of words, and what asks for a command.
use Rattle.std.proofs.Common.{◌≡◌, ℕ, ◌<◌, ◌≤◌, List, [], ◌∷◌, Bor, drop, length, map, slice_index_or, refl, arith}
use Rattle.bc_words.specs.Commands.{AsksFor, GivesWorkers, Word}
use Rattle.bc_words.specs.declared.command.Command.{Command}
use Rattle.bc_words.specs.declared.command.Command.TheVariants.{Run, Churn, Save, Resume}

abbrev pub texts : List (Bor Word) → List Word
texts = map (λ w. w.now)

-- the first word, where there is one
abbrev pub leading : List (Bor Word) → Word
leading ws = (slice_index_or ws 0 (record { ref_ptr = (0, 0); now = [] })).now

pub leads : (ws : List (Bor Word)) → 1 ≤ length ws → texts ws ≡ leading ws ∷ drop 1 (texts ws)
leads [] some = absurd (omega (arith, some))
leads (w ∷ ws) some = refl

pub no_words : (ws : List (Bor Word)) → length ws < 1 → texts ws ≡ []
no_words [] few = refl
no_words (w ∷ ws) few = absurd (omega (arith, few))

pub one_word : (ws : List (Bor Word)) (d : Bor Word) (a : Word) → 1 ≤ length ws → length ws < 2 → (slice_index_or ws 0 d).now ≡ a → texts ws ≡ a ∷ []
one_word [] d a some few e = absurd (omega (arith, some))
one_word (w ∷ []) d a some few e = rw (← e) refl
one_word (w ∷ v ∷ ws) d a some few e = absurd (omega (arith, few))

pub two_words : (ws : List (Bor Word)) (d : Bor Word) (a b : Word) → 2 ≤ length ws → length ws < 3
    → (slice_index_or ws 0 d).now ≡ a → (slice_index_or ws 1 d).now ≡ b → texts ws ≡ a ∷ b ∷ []
two_words [] d a b some few e f = absurd (omega (arith, some))
two_words (w ∷ []) d a b some few e f = absurd (omega (arith, some))
two_words (w ∷ v ∷ []) d a b some few e f = rw (← e, ← f) refl
two_words (w ∷ v ∷ u ∷ ws) d a b some few e f = absurd (omega (arith, few))

-- whatever is asked for has a number of workers
pub asked_workers : (first : Word) (values plain : List Word) (c : Command) → AsksFor first values plain c → (n : ℕ) × GivesWorkers values n
asked_workers first values plain (Run workers) a = (workers, a.2)
asked_workers first values plain (Churn start ops workers) a = (workers, a.4)
asked_workers first values plain (Save phases workers) a = (workers, a.3)
asked_workers first values plain (Resume workers) a = (workers, a.2)
