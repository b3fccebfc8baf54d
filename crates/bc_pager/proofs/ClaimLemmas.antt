-- Claims of notices, one after another.
use Rattle.std.proofs.Common.{◌≡◌, ℕ, ◌+◌, ◌<◌, ◌≤◌, List, [], ◌∷◌, ◌++◌, length, inl, inr, Option, Some, None, refl, ap, sym, subst, ◌∙◌, arith, append-nil}
use Rattle.std.specs.Prelude.{slice_index}
use Rattle.std.specs.List.{AllByRecursion}
use Rattle.std.proofs.lemmas.List.{map-append}
use Rattle.bc_pins.specs.Key.{Key}
use Rattle.bc_pins.specs.Steps.{taking_notice}
use Rattle.bc_pins.specs.Totals.{times}
use Rattle.bc_pins.specs.declared.views.View.{View}
use Rattle.bc_pins.proofs.TotalLemmas.{one_same}
use Rattle.bc_pager.specs.Answering.{ButClaims, IsAnswer}
use Rattle.bc_pager.specs.Claiming.{AreAnsweredAsClaimed, ClaimedFor, ClaimedPast, ClaimsNotice, IsNoticeOf, Sharing, claimed, numbers_of}
use Rattle.bc_pager.specs.declared.answers.Answer.{Answer}
use Rattle.bc_pager.specs.declared.answers.Answer.TheVariants.{Declined, Discarded, Evicted}
use Rattle.bc_pager.specs.declared.notices.Notice.{Notice}

-- a claim, and then another
pub but-then : (v u w : View) → ButClaims v u → ButClaims u w → ButClaims v w
but-then v u w first next = next ∙ ap (λ (x : View). record x { notices = w.notices }) first

-- a call for the next notice does no more than claim one
pub claims-but : (shared : Option Sharing) (found : Option Notice) (v w : View) → ClaimsNotice shared found v w → ButClaims v w
claims-but None found v w same = same ∙ ap (λ (l : List ℕ). record v { notices = l }) (sym (ap (λ (x : View). x.notices) same))
claims-but (Some x) found v w c = c.1 ∙ ap (λ (l : List ℕ). record v { notices = l }) (sym (ap (λ (y : View). y.notices) c.1))

-- an answer claims nothing
pub answer-claims : (k : Key) (v : View) (hint : ℕ) (answer : Answer) (w : View) → IsAnswer k v hint answer w → w.notices ≡ v.notices
answer-claims k v hint (Discarded page) w is = ap (λ (x : View). x.notices) is.view
answer-claims k v hint (Evicted page) w is = ap (λ (x : View). x.notices) is.view
answer-claims k v hint Declined w is = ap (λ (x : View). x.notices) is.view

-- one number more is claimed after the others
pub claimed-more : (before numbers : List ℕ) (number : ℕ) → claimed before (numbers ++ number ∷ []) ≡ number ∷ claimed before numbers
claimed-more before [] number = refl
claimed-more before (n ∷ ns) number = claimed-more (n ∷ before) ns number

-- how often a number was claimed then, and how many were
pub claimed-times : (n : ℕ) (before numbers : List ℕ) → times n (claimed before numbers) ≡ times n before + times n numbers
claimed-times n before [] = omega arith
claimed-times n before (m ∷ ms) = let rest = claimed-times n (m ∷ before) ms in omega arith

pub claimed-long : (before numbers : List ℕ) → length (claimed before numbers) ≡ length before + length numbers
claimed-long before [] = omega arith
claimed-long before (m ∷ ms) = let rest = claimed-long (m ∷ before) ms in omega arith

pub all-append : {A : Type 0} (P : A → Type 0) (xs ys : List A) → AllByRecursion P xs → AllByRecursion P ys → AllByRecursion P (xs ++ ys)
all-append P [] ys first next = next
all-append P (x ∷ xs) ys first next = (first.0, all-append P xs ys first.1 next)

-- numbers that were claimed and answered, with none claimed after them
abbrev pub AreAnsweredExactly : Key → List ℕ → List ℕ → List Answer → View → View → Type 0
AreAnsweredExactly k hints [] [] v w = w ≡ v
AreAnsweredExactly k hints [] (answer ∷ answers) v w = ⊥
AreAnsweredExactly k hints (number ∷ numbers) [] v w = ⊥
AreAnsweredExactly k hints (number ∷ numbers) (answer ∷ answers) v w =
    (number < length hints) × (u : View) × IsAnswer k (taking_notice v number) (slice_index hints number) answer u × AreAnsweredExactly k hints numbers answers u w

-- one more
exactly-more : (k : Key) (hints numbers : List ℕ) (answers : List Answer) (v u : View) (number : ℕ) (answer : Answer) (w : View) → AreAnsweredExactly k hints numbers answers v u → number < length hints
    → IsAnswer k (taking_notice u number) (slice_index hints number) answer w → AreAnsweredExactly k hints (numbers ++ number ∷ []) (answers ++ answer ∷ []) v w
exactly-more k hints [] [] v u number answer w is lt a = (lt, w, subst (λ (x : View). IsAnswer k (taking_notice x number) (slice_index hints number) answer w) is a, refl)
exactly-more k hints [] (other ∷ answers) v u number answer w none lt a = absurd none
exactly-more k hints (n ∷ ns) [] v u number answer w none lt a = absurd none
exactly-more k hints (n ∷ ns) (other ∷ answers) v u number answer w m lt a = (m.0, m.1, m.2, exactly-more k hints ns answers m.1 u number answer w m.3 lt a)

exactly-now : (k : Key) (hints numbers : List ℕ) (answers : List Answer) (v w : View) → AreAnsweredExactly k hints numbers answers v w → AreAnsweredAsClaimed k hints numbers answers v w
exactly-now k hints [] [] v w is = inl is
exactly-now k hints [] (other ∷ answers) v w none = absurd none
exactly-now k hints (n ∷ ns) [] v w none = absurd none
exactly-now k hints (n ∷ ns) (other ∷ answers) v w m = (m.0, m.1, m.2, exactly-now k hints ns answers m.1 w m.3)

exactly-past : (k : Key) (hints numbers : List ℕ) (answers : List Answer) (v u : View) (past : ℕ) (w : View) → AreAnsweredExactly k hints numbers answers v u → length hints ≤ past → w ≡ taking_notice u past
    → AreAnsweredAsClaimed k hints numbers answers v w
exactly-past k hints [] [] v u past w is far took = inr (past, far, took ∙ ap (λ (x : View). taking_notice x past) is)
exactly-past k hints [] (other ∷ answers) v u past w none far took = absurd none
exactly-past k hints (n ∷ ns) [] v u past w none far took = absurd none
exactly-past k hints (n ∷ ns) (other ∷ answers) v u past w m far took = (m.0, m.1, m.2, exactly-past k hints ns answers m.1 u past w m.3 far took)

-- each notice so far was claimed and answered, and nothing else was claimed
pub record ClaimedSoFar (k : Key) (hints : List ℕ) (notices : List Notice) (answers : List Answer) (v w : View) : Type 0 where
  pub claims : w.notices ≡ claimed v.notices (numbers_of notices)
  pub own : AllByRecursion (IsNoticeOf hints) notices
  pub each : AreAnsweredExactly k hints (numbers_of notices) answers v w

abbrev pub ClaimedSoFarFor : Key → Option Sharing → List Notice → List Answer → View → View → Type 0
ClaimedSoFarFor k None notices answers v w = w.notices ≡ v.notices
ClaimedSoFarFor k (Some x) notices answers v w = ClaimedSoFar k x.hints notices answers v w

pub claims-none : (k : Key) (shared : Option Sharing) (v : View) → ClaimedSoFarFor k shared [] [] v v
claims-none k None v = refl
claims-none k (Some x) v = record { claims = refl; own = tt; each = refl }

-- one notice more
pub claims-more : (k : Key) (shared : Option Sharing) (notices : List Notice) (answers : List Answer) (v u g w : View) (notice : Notice) (answer : Answer) → ClaimedSoFarFor k shared notices answers v u → ClaimsNotice shared (Some notice) u g
    → IsAnswer k g notice.hint answer w → ClaimedSoFarFor k shared (notices ++ notice ∷ []) (answers ++ answer ∷ []) v w
claims-more k None notices answers v u g w notice answer was same a = answer-claims k g notice.hint answer w a ∙ ap (λ (x : View). x.notices) same ∙ was
claims-more k (Some x) notices answers v u g w notice answer was c a =
    let same : numbers_of (notices ++ notice ∷ []) ≡ numbers_of notices ++ notice.number ∷ [] = map-append (λ (n : Notice). n.number) notices (notice ∷ []) in
    let number : notice.number ≡ c.0 = c.2.0 in
    let took : g ≡ taking_notice u notice.number = c.1 ∙ ap (λ (n : ℕ). taking_notice u n) (sym number) in
    let mine : IsNoticeOf x.hints notice = c.2.1 in
    let at : slice_index x.hints notice.number ≡ notice.hint = mine.1 in
    record {
      claims = answer-claims k g notice.hint answer w a
          ∙ ap (λ (y : View). y.notices) took
          ∙ ap (λ (l : List ℕ). notice.number ∷ l) was.claims
          ∙ sym (claimed-more v.notices (numbers_of notices) notice.number)
          ∙ ap (λ (l : List ℕ). claimed v.notices l) (sym same);
      own = all-append (IsNoticeOf x.hints) notices (notice ∷ []) was.own (mine, tt);
      each = subst (λ (l : List ℕ). AreAnsweredExactly k x.hints l (answers ++ answer ∷ []) v w) (sym same)
          (exactly-more k x.hints (numbers_of notices) answers v u notice.number answer w was.each mine.0
          (subst (λ (h : ℕ). IsAnswer k (taking_notice u notice.number) h answer w) (sym at) (subst (λ (y : View). IsAnswer k y notice.hint answer w) took a)));
    }

-- no notice is claimed after them
pub claims-now : (k : Key) (shared : Option Sharing) (notices : List Notice) (answers : List Answer) (v w : View) → ClaimedSoFarFor k shared notices answers v w → ClaimedFor k shared notices answers v w
claims-now k None notices answers v w was = was
claims-now k (Some x) notices answers v w was = record {
  over = [];
  claims = was.claims ∙ ap (λ (l : List ℕ). claimed v.notices l) (sym (append-nil (numbers_of notices)));
  own = was.own;
  past = tt;
  few = omega arith;
  each = exactly-now k x.hints (numbers_of notices) answers v w was.each;
}

-- a number past the hints is claimed after them
pub claims-past : (k : Key) (shared : Option Sharing) (notices : List Notice) (answers : List Answer) (v u w : View) → ClaimedSoFarFor k shared notices answers v u → ClaimsNotice shared None u w → ClaimedFor k shared notices answers v w
claims-past k None notices answers v u w was same = ap (λ (x : View). x.notices) same ∙ was
claims-past k (Some x) notices answers v u w was c = record {
  over = c.0 ∷ [];
  claims = ap (λ (y : View). y.notices) c.1 ∙ ap (λ (l : List ℕ). c.0 ∷ l) was.claims ∙ sym (claimed-more v.notices (numbers_of notices) c.0);
  own = was.own;
  past = (c.2, tt);
  few = omega arith;
  each = exactly-past k x.hints (numbers_of notices) answers v u c.0 w was.each c.2 c.1;
}

pub claims-ended : (k : Key) (shared : Option Sharing) (notices : List Notice) (answers : List Answer) (v u w : View) → ClaimedSoFarFor k shared notices answers v u → ClaimsNotice shared None u w → ClaimedPast shared v w
claims-ended k None notices answers v u w was same = tt
claims-ended k (Some x) notices answers v u w was c = (c.0, c.2, more)
  where
    more : times c.0 v.notices < times c.0 w.notices
    more =
        let now = ap (λ (y : View). times c.0 y.notices) c.1 in
        let before = ap (times c.0) was.claims in
        let sum = claimed-times c.0 v.notices (numbers_of notices) in
        let one = one_same c.0 in
        omega arith
