-- A list, cut where a byte stands first.
use Rattle.std.proofs.Common.{◌≡◌, ◌≢◌, ℕ, zero, suc, ◌+◌, ◌<◌, ◌≤◌, Bool, false, not, eqb, Some, None, List, [], ◌∷◌, length, get_or, take, drop, refl, ◌∙◌, arith, add-one, drop-cons}
use Rattle.std.specs.List.{slice_split}
use Rattle.std.proofs.lemmas.Bool.{eq-eqb, ne_eqb}
use Rattle.std.proofs.lemmas.List.{drop_all}
use Rattle.std.proofs.lemmas.List.Splits.{slice_split-cons_yes, slice_split-cons_no}
use Rattle.bc_trace.specs.Faults.{line_words}
use Rattle.bc_trace.specs.Reading.{next_fresh, formed_from, words_after}

abbrev pub parts : ℕ → List ℕ → List (List ℕ)
parts c bytes = slice_split (λ b. eqb b c) bytes

-- the first part ends at the first such byte
pub parts_at : (bytes : List ℕ) (c i : ℕ) → i < length bytes → ((k : ℕ) → k < i → get_or bytes k 0 ≢ c) → get_or bytes i 0 ≡ c → parts c bytes ≡ take i bytes ∷ parts c (drop (i + 1) bytes)
parts_at [] c i lt before here = absurd (omega arith)
parts_at (b ∷ bs) c zero lt before here = slice_split-cons_yes (λ b. eqb b c) b bs (eq-eqb b c here)
parts_at (b ∷ bs) c (suc i) lt before here =
    let rest = parts_at bs c i (omega arith) (λ k h. before (suc k) (omega arith)) here in
    let no : eqb b c ≡ false = ne_eqb b c (before 0 (omega arith)) in
    slice_split-cons_no (λ b. eqb b c) b bs no ∙ rw (rest, add-one, add-one) refl

-- where there is no such byte, the list is the one part
pub parts_none : (bytes : List ℕ) (c : ℕ) → ((k : ℕ) → k < length bytes → get_or bytes k 0 ≢ c) → parts c bytes ≡ bytes ∷ []
parts_none [] c none = refl
parts_none (b ∷ bs) c none =
    let rest = parts_none bs c (λ k h. none (suc k) (omega arith)) in
    let no : eqb b c ≡ false = ne_eqb b c (none 0 (omega arith)) in
    slice_split-cons_no (λ b. eqb b c) b bs no ∙ rw rest refl

-- the words after the space at i
pub words_after-drop : (line : List ℕ) (i : ℕ) → i < length line → words_after (drop i line) ≡ line_words (drop (i + 1) line)
words_after-drop line i lt = rw (drop-cons line i 0 lt, add-one) refl

-- ---- the bytes of a line

pub formed-next : (line : List ℕ) (i : ℕ) (fresh next : Bool) → i < length line → next_fresh fresh (get_or line i 0) ≡ Some next → formed_from fresh (drop i line) ≡ formed_from next (drop (i + 1) line)
unfolding formed_from
formed-next line i fresh next lt e = rw (drop-cons line i 0 lt, add-one) (rw e refl)

pub formed-stop : (line : List ℕ) (i : ℕ) (fresh : Bool) → i < length line → next_fresh fresh (get_or line i 0) ≡ None → formed_from fresh (drop i line) ≡ false
unfolding formed_from
formed-stop line i fresh lt e = rw (drop-cons line i 0 lt) (rw e refl)

pub formed-end : (line : List ℕ) (i : ℕ) (fresh : Bool) → length line ≤ i → formed_from fresh (drop i line) ≡ not fresh
unfolding formed_from
formed-end line i fresh le = rw (drop_all i line le) refl
