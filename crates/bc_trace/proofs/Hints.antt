-- Numbers of the buffer.
use Rattle.std.proofs.Common.{◌≡◌, ℕ, zero, suc, ◌^◌, ◌<◌, true, false, ltb, List, [], ◌∷◌, take, Result, Ok, Err, refl, sym, ap, ◌∙◌, arith}
use Rattle.std.specs.Prelude.{IfOk}
use Rattle.std.specs.List.{list_all}
use Rattle.std.proofs.lemmas.Bool.{ltb-true, and_parts, lt-leb, ne_eqb}
use Rattle.std.proofs.lemmas.List.{take-take, take_all, length-take}
use Rattle.bc_trace.specs.declared.fault.Cause.{Cause}
use Rattle.bc_trace.specs.declared.line.Line.{Line as ReadLine}
use Rattle.bc_trace.specs.declared.line.Line.TheVariants as lines
use Rattle.bc_trace.specs.declared.words.Verb.TheVariants as verbs
use Rattle.bc_trace.specs.declared.words.Keyword.{Keyword}
use Rattle.bc_trace.specs.declared.words.Keyword.TheVariants as words
use Rattle.bc_trace.specs.Lines.{Line, turn}
use Rattle.bc_trace.specs.Grammar.{arity}
use Rattle.bc_trace.specs.Reading.{has_count}
use Rattle.bc_trace.specs.Said.{said, Reads, AreHints, HoldsAllHints, FitsBuffer}

pub hints_all : (ns : List ℕ) → list_all (λ h. ltb h (2 ^ 32)) ns ≡ true → AreHints ns
hints_all [] e i = omega arith
hints_all (n ∷ ns) e zero = ltb-true n (2 ^ 32) (and_parts (ltb n (2 ^ 32)) (list_all (λ h. ltb h (2 ^ 32)) ns) e).0
hints_all (n ∷ ns) e (suc i) = hints_all ns (and_parts (ltb n (2 ^ 32)) (list_all (λ h. ltb h (2 ^ 32)) ns) e).1 i

-- the numbers of a line are the first ones of the buffer
said-take : (l : ReadLine) (n : ℕ) (ns : List ℕ) → HoldsAllHints l (take n ns) → said l (take n ns) ≡ said l ns
said-take (lines.Version v) n ns h = refl
said-take (lines.Setting k m) n ns h = refl
said-take lines.Phase n ns h = refl
said-take (lines.Turn shift count) n ns h = ap (turn shift) (take-take count n ns (omega (arith, length-take n ns)))
said-take (lines.Lane j) n ns h = refl
said-take (lines.Op o) n ns h = refl
said-take (lines.Give g) n ns h = refl
said-take (lines.Freeze d) n ns h = refl
said-take lines.End n ns h = refl
said-take lines.Done n ns h = refl

pub Reads-take : (line : Result Line Cause) (r : Result ReadLine Cause) (n : ℕ) (ns : List ℕ) → IfOk r (λ l. HoldsAllHints l (take n ns)) → Reads line r (take n ns) → Reads line r ns
Reads-take line (Ok l) n ns h e = e ∙ ap Ok (said-take l n ns h)
Reads-take line (Err cause) n ns h e = e

fits-take : (l : ReadLine) (n : ℕ) (ns : List ℕ) → HoldsAllHints l (take n ns) → FitsBuffer l ns
fits-take (lines.Version v) n ns h = tt
fits-take (lines.Setting k m) n ns h = tt
fits-take lines.Phase n ns h = tt
fits-take (lines.Turn shift count) n ns h =
    let all : take count ns ≡ take n ns = sym (take-take count n ns (omega (arith, length-take n ns))) ∙ take_all count (take n ns) (omega arith) in
    (omega (arith, length-take n ns), λ i. rw all (h.1 i))
fits-take (lines.Lane j) n ns h = tt
fits-take (lines.Op o) n ns h = tt
fits-take (lines.Give g) n ns h = tt
fits-take (lines.Freeze d) n ns h = tt
fits-take lines.End n ns h = tt
fits-take lines.Done n ns h = tt

pub FitsBuffer-take : (r : Result ReadLine Cause) (n : ℕ) (ns : List ℕ) → IfOk r (λ l. HoldsAllHints l (take n ns)) → IfOk r (λ l. FitsBuffer l ns)
FitsBuffer-take (Ok l) n ns h = fits-take l n ns h
FitsBuffer-take (Err cause) n ns h = tt

-- no word has more than 64 operands
pub has_count-many : (w : Keyword) (n : ℕ) → 64 < n → has_count w n ≡ false
unfolding has_count arity
has_count-many words.Version n many = ne_eqb n 1 (omega arith)
has_count-many (words.Setting k) n many = ne_eqb n 1 (omega arith)
has_count-many words.Phase n many = ne_eqb n 0 (omega arith)
has_count-many words.Turn n many = lt-leb n 64 many
has_count-many words.Lane n many = ne_eqb n 1 (omega arith)
has_count-many words.Give n many = ne_eqb n 2 (omega arith)
has_count-many words.Freeze n many = ne_eqb n 1 (omega arith)
has_count-many words.End n many = ne_eqb n 0 (omega arith)
has_count-many words.Done n many = ne_eqb n 0 (omega arith)
has_count-many (words.Op verbs.New) n many = ne_eqb n 3 (omega arith)
has_count-many (words.Op verbs.Who) n many = ne_eqb n 2 (omega arith)
has_count-many (words.Op verbs.Len) n many = ne_eqb n 2 (omega arith)
has_count-many (words.Op verbs.Set) n many = ne_eqb n 4 (omega arith)
has_count-many (words.Op verbs.Cut) n many = ne_eqb n 3 (omega arith)
has_count-many (words.Op verbs.Link) n many = ne_eqb n 5 (omega arith)
has_count-many (words.Op verbs.Load) n many = ne_eqb n 5 (omega arith)
has_count-many (words.Op verbs.Copy) n many = ne_eqb n 4 (omega arith)
has_count-many (words.Op verbs.Clear) n many = ne_eqb n 2 (omega arith)
has_count-many (words.Op verbs.Same) n many = ne_eqb n 4 (omega arith)
