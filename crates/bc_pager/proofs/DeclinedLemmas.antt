-- What the log of page words of a pager says of a notice that it declined, and answers of one that shares notices as those of any pager.
use Rattle.std.proofs.Common.{◌≡◌, ℕ, ◌+◌, ◌<◌, ◌≤◌, ◌==◌, List, [], ◌∷◌, ◌++◌, inl, inr, refl, ap, sym, subst, arith}
use Rattle.std.proofs.lemmas.Bool.{cases_eq, eq-eqb}
use Rattle.bc_bits.specs.Counting.{one_if}
use Rattle.bc_pager.specs.Answering.{AreAnswered, ButClaims, HasDeclined, IsAnswer, TookAfter, says_declined, says_discarded, says_evicted}
use Rattle.bc_evict.specs.Looking.{IsAccountedFor, MayStay, all_pages}
use Rattle.bc_pager.specs.Claiming.{AreAnsweredAsClaimed}
use Rattle.bc_pager.specs.Paging.{hints_numbered}
use Rattle.bc_pager.specs.declared.answers.Answer.{Answer}
use Rattle.bc_pager.specs.declared.answers.Answer.TheVariants.{Declined, Discarded, Evicted}
use Rattle.bc_pins.specs.Key.{Key, page_at, pages_of}
use Rattle.bc_pins.specs.Steps.{taking_notice}
use Rattle.bc_pins.specs.Totals.{times, total}
use Rattle.bc_pins.specs.Views.{reads_at}
use Rattle.bc_pins.specs.declared.views.View.{View}
use Rattle.bc_pins.proofs.LogLemmas.{pages-else, reads-here, times-reads}
use Rattle.bc_pins.proofs.TotalLemmas.{one_other}

-- answers of a pager that shares notices are answers to the notices with the numbers that it claimed
pub claimed-answered : (k : Key) (hints ns : List ℕ) (told : List Answer) (v w : View) → AreAnsweredAsClaimed k hints ns told v w → AreAnswered k (hints_numbered hints ns) told v w
claimed-answered k hints [] [] v w (inl is) = subst (ButClaims v) (sym is) refl
claimed-answered k hints [] [] v w (inr past) = subst (ButClaims v) (sym past.2) refl
claimed-answered k hints [] (answer ∷ told) v w is = absurd is
claimed-answered k hints (n ∷ ns) [] v w is = absurd is
claimed-answered k hints (n ∷ ns) (answer ∷ told) v w is = (taking_notice v n, is.1, refl, is.2, claimed-answered k hints ns told is.1 w is.3)

-- how often a page's word was read as Home in an answer: where it was given up, and else not
took-home : (k : Key) (v : View) (looks : List (ℕ × ℕ)) (page : ℕ) (w : View) → TookAfter k v looks page w → (p : ℕ) → p < pages_of k → times 1 (reads_at p w.read) ≡ one_if (page == p) + times 1 (reads_at p v.read)
took-home k v looks page w took p near =
    let whole = ap (λ (l : List (ℕ × ℕ)). times 1 (reads_at p l)) took.read in
    let all = times-reads 1 (page_at p) (took.later ++ (page_at page, 1) ∷ looks) v.read in
    let since = times-reads 1 (page_at p) took.later ((page_at page, 1) ∷ looks) in
    let none_later = ap (times 1) (took.else_none p near) in
    let none = took.none p near in
    elim (cases_eq page p) [
      | inl is ↦
          let here = reads-here (page_at p) 1 1 looks in
          let same = ap (λ (q : ℕ). times 1 (reads_at p ((page_at q, 1) ∷ looks))) is in
          let one : one_if (page == p) ≡ 1 = ap one_if (eq-eqb page p is) in
          omega arith
      | inr ne ↦
          let other = pages-else page p 1 1 looks (λ e. ne (sym e)) in
          let zero_is = one_other page p ne in
          omega arith
    ]

pub answer-home : (k : Key) (v : View) (hint : ℕ) (answer : Answer) (w : View) → IsAnswer k v hint answer w → (p : ℕ) → p < pages_of k
    → times 1 (reads_at p w.read) ≡ (says_evicted p answer + says_discarded p answer) + times 1 (reads_at p v.read)
answer-home k v hint (Discarded page) w is p near = let took = took-home k v is.looks page w is.took p near in omega arith
answer-home k v hint (Evicted page) w is p near = let took = took-home k v is.looks page w is.took p near in omega arith
answer-home k v hint Declined w is p near =
    let whole = ap (λ (x : View). times 1 (reads_at p x.read)) is.view in
    let both = times-reads 1 (page_at p) is.looks v.read in
    let none = is.none p near in
    omega arith

-- a page's word was read as Home as often as the answers name it
pub answered-home : (k : Key) (hints : List ℕ) (told : List Answer) (v w : View) → AreAnswered k hints told v w → (p : ℕ) → p < pages_of k
    → times 1 (reads_at p w.read) ≡ (total (says_evicted p) told + total (says_discarded p) told) + times 1 (reads_at p v.read)
answered-home k [] [] v w but p near = let same = ap (λ (x : View). times 1 (reads_at p x.read)) but in omega arith
answered-home k [] (answer ∷ told) v w is p near = absurd is
answered-home k (hint ∷ hints) [] v w is p near = absurd is
answered-home k (hint ∷ hints) (answer ∷ told) v w is p near =
    let same = ap (λ (x : View). times 1 (reads_at p x.read)) is.2 in
    let one = answer-home k is.0 hint answer is.1 is.3 p near in
    let rest = answered-home k hints told is.1 w is.4 p near in
    omega arith

-- what was read stays in the log
took-more : (k : Key) (v : View) (looks : List (ℕ × ℕ)) (page : ℕ) (w : View) → TookAfter k v looks page w → (p n : ℕ) → times n (reads_at p v.read) ≤ times n (reads_at p w.read)
took-more k v looks page w took p n =
    let whole = ap (λ (l : List (ℕ × ℕ)). times n (reads_at p l)) took.read in
    let all = times-reads n (page_at p) (took.later ++ (page_at page, 1) ∷ looks) v.read in
    omega arith

pub answer-more : (k : Key) (v : View) (hint : ℕ) (answer : Answer) (w : View) → IsAnswer k v hint answer w → (p n : ℕ) → times n (reads_at p v.read) ≤ times n (reads_at p w.read)
answer-more k v hint (Discarded page) w is p n = took-more k v is.looks page w is.took p n
answer-more k v hint (Evicted page) w is p n = took-more k v is.looks page w is.took p n
answer-more k v hint Declined w is p n =
    let whole = ap (λ (x : View). times n (reads_at p x.read)) is.view in
    let both = times-reads n (page_at p) is.looks v.read in
    omega arith

answered-more : (k : Key) (hints : List ℕ) (told : List Answer) (v w : View) → AreAnswered k hints told v w → (p n : ℕ) → times n (reads_at p v.read) ≤ times n (reads_at p w.read)
answered-more k [] [] v w but p n = let same = ap (λ (x : View). times n (reads_at p x.read)) but in omega arith
answered-more k [] (answer ∷ told) v w is p n = absurd is
answered-more k (hint ∷ hints) [] v w is p n = absurd is
answered-more k (hint ∷ hints) (answer ∷ told) v w is p n =
    let same = ap (λ (x : View). times n (reads_at p x.read)) is.2 in
    let one = answer-more k is.0 hint answer is.1 is.3 p n in
    let rest = answered-more k hints told is.1 w is.4 p n in
    omega arith

-- where a notice was declined, each page was looked at, and what was found is in the log
pub record LooksFound (k : Key) (w : View) : Type 0 where
  pub looks : List (ℕ × ℕ)
  pub each : (q : ℕ) → q < all_pages k → IsAccountedFor k looks q MayStay
  pub more : (q n : ℕ) → times n (reads_at q looks) ≤ times n (reads_at q w.read)

-- so it is where one was declined and what was read then is in the log
pub declined-looks : (k : Key) (v u w : View) → HasDeclined k v u → ((p n : ℕ) → times n (reads_at p u.read) ≤ times n (reads_at p w.read)) → LooksFound k w
declined-looks k v u w is more = record {
  looks = is.looks;
  each = is.each;
  more = λ q n.
      let whole = ap (λ (x : View). times n (reads_at q x.read)) is.view in
      let both = times-reads n (page_at q) is.looks v.read in
      let rest = more q n in
      omega arith;
}

pub answered-looks : (k : Key) (hints : List ℕ) (told : List Answer) (v w : View) → AreAnswered k hints told v w → 0 < total says_declined told → LooksFound k w
answered-looks k [] [] v w is some = absurd (omega arith)
answered-looks k [] (answer ∷ told) v w is some = absurd is
answered-looks k (hint ∷ hints) [] v w is some = absurd is
answered-looks k (hint ∷ hints) (Discarded page ∷ told) v w is some = answered-looks k hints told is.1 w is.4 (omega arith)
answered-looks k (hint ∷ hints) (Evicted page ∷ told) v w is some = answered-looks k hints told is.1 w is.4 (omega arith)
answered-looks k (hint ∷ hints) (Declined ∷ told) v w is some = declined-looks k is.0 is.1 w is.3 (answered-more k hints told is.1 w is.4)
