-- Notices of a list, which are numbered from 0.
use Prim.Native.Nat.{zero, suc}
use Rattle.std.proofs.Common.{◌≡◌, ℕ, ◌+◌, ◌<◌, ◌≤◌, List, [], ◌∷◌, ◌++◌, length, take, get_or, refl, ap, sym, ◌∙◌, arith}
use Rattle.std.proofs.lemmas.List.{get_or_default, length-take, take_more}
use Rattle.bc_pager.specs.Serving.{HintList, given_of, numbered}
use Rattle.bc_pager.specs.declared.notices.Notice.{Notice}

pub numbered-long : (from : ℕ) (hints : List ℕ) → length (numbered from hints) ≡ length hints
numbered-long from [] = refl
numbered-long from (h ∷ hs) = let rest = numbered-long (from + 1) hs in omega arith

numbered-at : (from : ℕ) (hints : List ℕ) (n : ℕ) (d : Notice) → n < length hints → get_or (numbered from hints) n d ≡ record { hint = get_or hints n 0; number = from + n }
numbered-at from [] n d lt = absurd (omega arith)
numbered-at from (h ∷ hs) zero d lt = let same : from ≡ from + 0 = omega arith in ap (λ (m : ℕ). record { hint = h; number = m }) same
numbered-at from (h ∷ hs) (suc n) d lt =
    let same : from + 1 + n ≡ from + suc n = omega arith in
    numbered-at (from + 1) hs n d (omega arith) ∙ ap (λ (m : ℕ). record { hint = get_or hs n 0; number = m }) same

-- one notice more was given
pub numbered-more : (hints : List ℕ) (n hint : ℕ) → n < length hints → hint ≡ get_or hints n hint → take (n + 1) (numbered 0 hints) ≡ take n (numbered 0 hints) ++ record { hint = hint; number = n } ∷ []
numbered-more hints n hint lt is =
    let none : Notice = record { hint = 0; number = 0 } in
    let long = numbered-long 0 hints in
    let at : get_or (numbered 0 hints) n none ≡ record { hint = hint; number = n } =
    numbered-at 0 hints n none lt ∙ ap (λ (h : ℕ). record { hint = h; number = 0 + n }) (get_or_default hints n 0 hint lt ∙ sym is) ∙ ap (λ (m : ℕ). record { hint = hint; number = m }) zero-plus in
    take_more (numbered 0 hints) n none (omega arith) ∙ ap (λ (x : Notice). take n (numbered 0 hints) ++ x ∷ []) at
  where
    zero-plus : 0 + n ≡ n
    zero-plus = omega arith

-- no more were given than there are
pub given-few : (n : HintList) → length (given_of n) ≤ length n.hints
given-few n = let long = numbered-long 0 n.hints in let first = length-take n.given (numbered 0 n.hints) in omega arith
