-- What traces withhold: by version, and line by line.
use Rattle.std.proofs.Common.{◌≡◌, ℕ, zero, suc, ◌+◌, ◌<◌, ◌≤◌, true, ltb, None, List, [], ◌∷◌, length, take, subst, ap, ◌∙◌, inl, inr, arith, add-one}
use Rattle.std.specs.Prelude.{◌⊎◌}
use Rattle.std.specs.List.{AllByRecursion, sum_by}
use Rattle.std.specs.Char.{is_ascii_digit}
use Rattle.std.specs.Str.{all_ascii_digits}
use Rattle.std.proofs.lemmas.Bool.{cases_Bool, and_parts, ltb-true, ltb-false}
use Rattle.std.proofs.lemmas.Fmt.{digits_decimal}
use Rattle.std.proofs.lemmas.List.Sums.{sum_by-cons}
use Rattle.bc_model.specs.Lists.{PhaseLists, TraceLists, TurnLists}
use Rattle.bc_model.specs.TurnLines.{budget_at}
use Rattle.bc_model.specs.WellFormed.{KnowsLine, IsKnown}
use Rattle.bc_trace.specs.declared.grammar.Progress.{Progress}
use Rattle.bc_trace.specs.declared.words.Keyword.TheVariants as words
use Rattle.bc_trace.specs.Words.{name}
use Rattle.bc_trace.specs.Lines.{turn, shift_between, turn_lines, Spells}
use Rattle.bc_trace.specs.Balances.{more_withheld, returned, withheld_by, returned_by}
use Rattle.bc_trace.specs.Grammar.{MayStand}
use Rattle.bc_trace.specs.Faults.{line_words, IsFormed, IsNumeral, CountFails, NumberFails, sign_of}
use Rattle.bc_trace.proofs.Meaning.{own}
use Rattle.bc_trace.proofs.Signs.{cases_sign, counted-plain, unsigned-plain, low_digit}

-- ---- before version 3

no_sign : (v : ℕ) (others : List (List ℕ)) → v < 3 → sign_of v words.Turn others ≡ None
no_sign v others old =
    elim (cases_sign v words.Turn others) [
      | inl off ↦ off
      | inr h ↦ absurd (omega (arith, h.later))
    ]

sign_no_number : (b : ℕ) (digits : List ℕ) → (b ≡ 43) ⊎ (b ≡ 45) → ¬ IsNumeral (b ∷ digits)
sign_no_number b digits sign (n, lt, e) =
    let all : all_ascii_digits (b ∷ digits) ≡ true = ap (λ (bs : List ℕ). all_ascii_digits bs) e ∙ digits_decimal own n (omega (arith, lt)) in
    let low = low_digit b (and_parts (is_ascii_digit b) (all_ascii_digits digits) all).0 in
    small sign low
  where
    small : (b ≡ 43) ⊎ (b ≡ 45) → 48 ≤ b → ⊥
    small (inl is) low = omega (arith, is, low)
    small (inr is) low = omega (arith, is, low)

module _ (s : Progress) (line digits : List ℕ) (b : ℕ) (others : List (List ℕ)) (old : s.version < 3) (formed : IsFormed line) (stands : MayStand s words.Turn) (sign : (b ≡ 43) ⊎ (b ≡ 45)) (parts : line_words line ≡ name words.Turn ∷ ((b ∷ digits) ∷ others)) where
  abbrev all : List (List ℕ)
  all = (b ∷ digits) ∷ others

  pub sign_is_number_fault : length others < 64 → NumberFails s line
  sign_is_number_fault few =
      let off = no_sign s.version all old in
      record {
        formed = formed;
        word = words.Turn;
        others = all;
        begins = (tt, parts);
        stands = stands;
        count = rw (counted-plain s.version words.Turn all off) (omega arith);
        number = λ h. sign_no_number b digits sign (subst (λ (ws : List (List ℕ)). AllByRecursion IsNumeral ws) (unsigned-plain s.version words.Turn all off) h).0;
      }

  pub sign_counts : 64 ≤ length others → CountFails s line
  sign_counts many =
      let off = no_sign s.version all old in
      record {
        formed = formed;
        word = words.Turn;
        others = all;
        begins = (tt, parts);
        stands = stands;
        count = λ h. let few : length all ≤ 64 = subst (λ (ws : List (List ℕ)). length ws ≤ 64) (counted-plain s.version words.Turn all off) h in absurd (omega (arith, few));
      }

none_held : (v : ℕ) (ts : List TurnLists) → v < 3 → AllByRecursion (KnowsLine v) ts → AllByRecursion (λ t. t.withheld ≡ 0) ts
none_held v [] old h = tt
none_held v (t ∷ ts) old (inl new, hs) = absurd (omega (arith, new))
none_held v (t ∷ ts) old (inr none, hs) = (none, none_held v ts old hs)

none_in : (v : ℕ) (ps : List PhaseLists) → v < 3 → AllByRecursion (IsKnown v) ps → AllByRecursion (λ p. AllByRecursion (λ line. line.withheld ≡ 0) p.turns) ps
none_in v [] old h = tt
none_in v (p ∷ ps) old h = (none_held v p.turns old h.0.turns, none_in v ps old h.1)

pub none_withheld : (bytes : List ℕ) (t : TraceLists) → Spells bytes t → t.version < 3 → AllByRecursion (λ p. AllByRecursion (λ line. line.withheld ≡ 0) p.turns) t.phases
none_withheld bytes t h old = none_in t.version t.phases old h.trace.known

-- ---- line by line

balance : (before now : ℕ) → before + more_withheld (shift_between before now) ≡ now + returned (shift_between before now)
unfolding shift_between
balance before now =
    elim (cases_Bool (ltb before now)) [
      | inl more ↦ rw more (omega (arith, ltb-true before now more))
      | inr isnt ↦ elim (cases_Bool (ltb now before)) [
        | inl less ↦ rw (isnt, less) (omega (arith, ltb-true now before less))
        | inr same ↦ rw (isnt, same) (omega (arith, ltb-false before now isnt, ltb-false now before same))
      ]
    ]

sums_on : (ts : List TurnLists) (before i : ℕ) → i < length ts → before + sum_by withheld_by (take (suc i) (turn_lines before ts)) ≡ budget_at ts i + sum_by returned_by (take (suc i) (turn_lines before ts))
sums_on [] before i lt = absurd (omega arith)
sums_on (t ∷ ts) before zero lt =
    let l = turn (shift_between before t.withheld) t.hints in
    omega (arith, balance before t.withheld, sum_by-cons withheld_by l [], sum_by-cons returned_by l [])
sums_on (t ∷ ts) before (suc i) lt =
    let l = turn (shift_between before t.withheld) t.hints in
    let rest = take (suc i) (turn_lines t.withheld ts) in
    omega (arith, balance before t.withheld, sums_on ts t.withheld i (omega arith), sum_by-cons withheld_by l rest, sum_by-cons returned_by l rest)

-- after each line as much is withheld as the lines up to it withhold, less what they return
pub running_sums : (ts : List TurnLists) (i : ℕ) → i < length ts → sum_by withheld_by (take (i + 1) (turn_lines 0 ts)) ≡ budget_at ts i + sum_by returned_by (take (i + 1) (turn_lines 0 ts))
running_sums ts i lt = rw add-one (omega (arith, sums_on ts 0 i lt))
