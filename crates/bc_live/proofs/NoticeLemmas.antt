-- Notices that are numbered from 0 on, as one more comes.
use Rattle.std.proofs.Common.{◌≡◌, ◌∙◌, ℕ, ◌+◌, List, [], ◌∷◌, ◌++◌, length, ap, arith}
use Rattle.std.proofs.lemmas.List.{length-append}
use Rattle.bc_pager.specs.declared.notices.Notice.{Notice}
use Rattle.bc_pager.specs.Serving.{numbered}

numbered-on : (from : ℕ) (hints : List ℕ) (hint : ℕ) → numbered from (hints ++ hint ∷ []) ≡ numbered from hints ++ record { hint = hint; number = from + length hints } ∷ []
numbered-on from [] hint = let same : from ≡ from + 0 = omega arith in ap (λ (n : ℕ). record { hint = hint; number = n } ∷ []) same
numbered-on from (h ∷ hs) hint =
    let same : from + 1 + length hs ≡ from + length (h ∷ hs) = omega arith in
    ap (λ ns. record { hint = h; number = from } ∷ ns) (numbered-on (from + 1) hs hint ∙ ap (λ (n : ℕ). numbered (from + 1) hs ++ record { hint = hint; number = n } ∷ []) same)

-- the notice of the hint that was taken last has the number of those before it
pub numbered-next : (before after : List ℕ) (hint number : ℕ) → after ≡ before ++ hint ∷ [] → number + 1 ≡ length after → numbered 0 after ≡ numbered 0 before ++ record { hint = hint; number = number } ∷ []
numbered-next before after hint number more is =
    let long = length-append before (hint ∷ []) in
    let whole : length after ≡ length (before ++ hint ∷ []) = ap length more in
    let same : 0 + length before ≡ number = omega arith in
    ap (numbered 0) more ∙ numbered-on 0 before hint ∙ ap (λ (n : ℕ). numbered 0 before ++ record { hint = hint; number = n } ∷ []) same
