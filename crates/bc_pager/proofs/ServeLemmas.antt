-- Answers, one after another.
use Rattle.std.proofs.Common.{◌≡◌, ℕ, ◌+◌, ◌==◌, List, [], ◌∷◌, ◌++◌, Option, Some, None, refl, ap, sym, subst, ◌∙◌, arith, append_assoc, append-nil}
use Rattle.std.proofs.lemmas.List.{map-append}
use Rattle.bc_bits.specs.Counting.{one_if}
use Rattle.bc_pins.specs.declared.views.View.{View}
use Rattle.bc_pins.specs.Key.{Key}
use Rattle.bc_pins.specs.Owing.{OwesNoMore}
use Rattle.bc_pins.specs.Totals.{times, total}
use Rattle.bc_pins.proofs.TotalLemmas.{total_append}
use Rattle.bc_pager.specs.declared.answers.Answer.{Answer}
use Rattle.bc_pager.specs.declared.answers.Answer.TheVariants.{Discarded, Evicted, Declined}
use Rattle.bc_pager.specs.declared.notices.Notice.{Notice}
use Rattle.bc_pager.specs.Answering.{IsAnswer, AreAnswered, AreAnsweredSince, ButClaims, says_evicted, says_discarded}
use Rattle.bc_pager.specs.Claiming.{ClaimsNotice, Sharing, hints_of, numbers_of}
use Rattle.bc_pager.specs.Serving.{KeptAnswers, HasServed, told_with}
use Rattle.bc_pager.proofs.ClaimLemmas.{ClaimedSoFarFor, but-then, claims-but, claims-more, claims-none, claims-now, claims-past}

-- one more
answered-more : (k : Key) (hints : List ℕ) (answers : List Answer) (views : List View) (v u g : View) (hint : ℕ) (answer : Answer) (w : View) → AreAnsweredSince k hints answers views v u → ButClaims u g → IsAnswer k g hint answer w
    → AreAnsweredSince k (hints ++ hint ∷ []) (answers ++ answer ∷ []) (views ++ g ∷ []) v w
answered-more k [] [] [] v u g hint answer w is but a = (but-then v u g is but, w, a, refl)
answered-more k [] [] (given ∷ views) v u g hint answer w none but a = absurd none
answered-more k [] (other ∷ answers) views v u g hint answer w none but a = absurd none
answered-more k (other ∷ hints) [] views v u g hint answer w none but a = absurd none
answered-more k (first ∷ hints) (other ∷ answers) [] v u g hint answer w none but a = absurd none
answered-more k (first ∷ hints) (other ∷ answers) (given ∷ views) v u g hint answer w m but a = (m.0, m.1, m.2, answered-more k hints answers views m.1 u g hint answer w m.3 but a)

-- a claim after them
answered-then : (k : Key) (hints : List ℕ) (answers : List Answer) (views : List View) (v u w : View) → AreAnsweredSince k hints answers views v u → ButClaims u w → AreAnsweredSince k hints answers views v w
answered-then k [] [] [] v u w is but = but-then v u w is but
answered-then k [] [] (given ∷ views) v u w none but = absurd none
answered-then k [] (other ∷ answers) views v u w none but = absurd none
answered-then k (other ∷ hints) [] views v u w none but = absurd none
answered-then k (first ∷ hints) (other ∷ answers) [] v u w none but = absurd none
answered-then k (first ∷ hints) (other ∷ answers) (given ∷ views) v u w m but = (m.0, m.1, m.2, answered-then k hints answers views m.1 u w m.3 but)

-- answers that begin where their notices were given follow one another
pub since-answered : (k : Key) (hints : List ℕ) (answers : List Answer) (views : List View) (v w : View) → AreAnsweredSince k hints answers views v w → AreAnswered k hints answers v w
since-answered k [] [] [] v w is = is
since-answered k [] [] (given ∷ views) v w none = absurd none
since-answered k [] (other ∷ answers) views v w none = absurd none
since-answered k (other ∷ hints) [] views v w none = absurd none
since-answered k (first ∷ hints) (other ∷ answers) [] v w none = absurd none
since-answered k (first ∷ hints) (other ∷ answers) (given ∷ views) v w m = (given, m.1, m.0, m.2, since-answered k hints answers views m.1 w m.3)

-- what is known, with nothing after it, and with some and then more
pub told-none : {A : Type 0} (told : Option (List A)) → told ≡ told_with told []
told-none None = refl
told-none (Some before) = ap (λ l. Some l) (sym (append-nil before))

pub told-more : {A : Type 0} (told : Option (List A)) (some more : List A) → told_with (told_with told some) more ≡ told_with told (some ++ more)
told-more None some more = refl
told-more (Some before) some more = ap (λ l. Some l) (append_assoc before some more)

-- what one answer says of pages that left
left_once : (k : Key) (u : View) (hint : ℕ) (answer : Answer) (w : View) (page : ℕ) → IsAnswer k u hint answer w → times page w.left ≡ times page u.left + says_evicted page answer
left_once k u hint (Discarded p) w page a = let e : times page w.left ≡ times page u.left = ap (λ (x : View). times page x.left) a.view in omega arith
left_once k u hint (Evicted p) w page a = let e : times page w.left ≡ one_if (p == page) + times page u.left = ap (λ (x : View). times page x.left) a.view in omega arith
left_once k u hint Declined w page a = let e : times page w.left ≡ times page u.left = ap (λ (x : View). times page x.left) a.view in omega arith

emptied_once : (k : Key) (u : View) (hint : ℕ) (answer : Answer) (w : View) (page : ℕ) → IsAnswer k u hint answer w → times page w.emptied ≡ times page u.emptied + says_discarded page answer
emptied_once k u hint (Discarded p) w page a = let e : times page w.emptied ≡ one_if (p == page) + times page u.emptied = ap (λ (x : View). times page x.emptied) a.view in omega arith
emptied_once k u hint (Evicted p) w page a = let e : times page w.emptied ≡ times page u.emptied = ap (λ (x : View). times page x.emptied) a.view in omega arith
emptied_once k u hint Declined w page a = let e : times page w.emptied ≡ times page u.emptied = ap (λ (x : View). times page x.emptied) a.view in omega arith

-- no page is owed after an answer that wasn't before it
less_once : (k : Key) (u : View) (hint : ℕ) (answer : Answer) (w : View) → IsAnswer k u hint answer w → OwesNoMore u w
less_once k u hint (Discarded p) w a page = let same = ap (λ (x : View). times page x.owed) a.view in omega arith
less_once k u hint (Evicted p) w a page = a.less page
less_once k u hint Declined w a page = let same = ap (λ (x : View). times page x.owed) a.view in omega arith

-- what was served so far, with nothing claimed since the last answer
pub record ServedSoFar (k : Key) (shared : Option Sharing) (told more_told : Option (List Notice)) (given more_given : Option (List View)) (old new : KeptAnswers) (v w : View) : Type 0 where
  pub notices : List Notice
  pub answers : List Answer
  pub views : List View
  pub taken : more_told ≡ told_with told notices
  pub given_at : more_given ≡ told_with given views
  pub kept : new ≡ record old { list = old.list ++ answers; numbers = old.numbers ++ numbers_of notices }
  pub since : AreAnsweredSince k (hints_of notices) answers views v w
  pub claims : ClaimedSoFarFor k shared notices answers v w
  pub left : (page : ℕ) → times page w.left ≡ times page v.left + total (says_evicted page) answers
  pub emptied : (page : ℕ) → times page w.emptied ≡ times page v.emptied + total (says_discarded page) answers
  pub less : OwesNoMore v w

-- nothing was served yet
pub served-none : (k : Key) (shared : Option Sharing) (told : Option (List Notice)) (given : Option (List View)) (kept : KeptAnswers) (v : View) → ServedSoFar k shared told told given given kept kept v v
served-none k shared told given kept v = record {
  notices = [];
  answers = [];
  views = [];
  taken = told-none told;
  given_at = told-none given;
  kept = ap (λ (l : List Answer). record kept { list = l }) (sym (append-nil kept.list)) ∙ ap (λ (l : List ℕ). record kept { list = kept.list ++ []; numbers = l }) (sym (append-nil kept.numbers));
  since = refl;
  claims = claims-none k shared v;
  left = λ page. omega arith;
  emptied = λ page. omega arith;
  less = λ page. omega arith;
}

-- one notice more was served
pub served-more : (k : Key) (shared : Option Sharing) (told then more : Option (List Notice)) (given then_given more_given : Option (List View)) (old middle new : KeptAnswers) (v u g w : View) (notice : Notice) (answer : Answer)
    → ServedSoFar k shared told then given then_given old middle v u → more ≡ told_with then (notice ∷ []) → more_given ≡ told_with then_given (g ∷ []) → ClaimsNotice shared (Some notice) u g
    → new ≡ record middle { list = middle.list ++ answer ∷ []; numbers = middle.numbers ++ notice.number ∷ [] } → IsAnswer k g notice.hint answer w
    → ServedSoFar k shared told more given more_given old new v w
served-more k shared told then more given then_given more_given old middle new v u g w notice answer s told_one given_one claim kept a =
    let but = claims-but shared (Some notice) u g claim in
    let hints : hints_of (s.notices ++ notice ∷ []) ≡ hints_of s.notices ++ notice.hint ∷ [] = map-append (λ (n : Notice). n.hint) s.notices (notice ∷ []) in
    let numbers : numbers_of (s.notices ++ notice ∷ []) ≡ numbers_of s.notices ++ notice.number ∷ [] = map-append (λ (n : Notice). n.number) s.notices (notice ∷ []) in
    record {
      notices = s.notices ++ notice ∷ [];
      answers = s.answers ++ answer ∷ [];
      views = s.views ++ g ∷ [];
      taken = told_one ∙ ap (λ (o : Option (List Notice)). told_with o (notice ∷ [])) s.taken ∙ told-more told s.notices (notice ∷ []);
      given_at = given_one ∙ ap (λ (o : Option (List View)). told_with o (g ∷ [])) s.given_at ∙ told-more given s.views (g ∷ []);
      kept = kept
          ∙ ap (λ (m : KeptAnswers). record m { list = m.list ++ answer ∷ []; numbers = m.numbers ++ notice.number ∷ [] }) s.kept
          ∙ ap (λ (l : List Answer). record old { list = l; numbers = (old.numbers ++ numbers_of s.notices) ++ notice.number ∷ [] }) (append_assoc old.list s.answers (answer ∷ []))
          ∙ ap (λ (l : List ℕ). record old { list = old.list ++ (s.answers ++ answer ∷ []); numbers = l }) (append_assoc old.numbers (numbers_of s.notices) (notice.number ∷ []) ∙ ap (λ (l : List ℕ). old.numbers ++ l) (sym numbers));
      since = subst (λ (hs : List ℕ). AreAnsweredSince k hs (s.answers ++ answer ∷ []) (s.views ++ g ∷ []) v w) (sym hints) (answered-more k (hints_of s.notices) s.answers s.views v u g notice.hint answer w s.since but a);
      claims = claims-more k shared s.notices s.answers v u g w notice answer s.claims claim a;
      left = λ page.
          let same = ap (λ (x : View). times page x.left) but in
          let one = left_once k g notice.hint answer w page a in
          let was = s.left page in
          let sum = total_append (says_evicted page) s.answers (answer ∷ []) in
          omega arith;
      emptied = λ page.
          let same = ap (λ (x : View). times page x.emptied) but in
          let one = emptied_once k g notice.hint answer w page a in
          let was = s.emptied page in
          let sum = total_append (says_discarded page) s.answers (answer ∷ []) in
          omega arith;
      less = λ page.
          let same = ap (λ (x : View). times page x.owed) but in
          let one = less_once k g notice.hint answer w a page in
          let was = s.less page in
          omega arith;
    }

-- that was all, since there was no room
pub served-now : (k : Key) (shared : Option Sharing) (told more : Option (List Notice)) (given more_given : Option (List View)) (old new : KeptAnswers) (v w : View)
    → ServedSoFar k shared told more given more_given old new v w → HasServed k shared told more given more_given old new v w
served-now k shared told more given more_given old new v w s = record {
  notices = s.notices;
  answers = s.answers;
  views = s.views;
  taken = s.taken;
  given_at = s.given_at;
  kept = s.kept;
  each = since-answered k (hints_of s.notices) s.answers s.views v w s.since;
  since = s.since;
  claims = claims-now k shared s.notices s.answers v w s.claims;
  left = s.left;
  emptied = s.emptied;
  less = s.less;
}

-- that was all, since there was no notice
pub served-last : (k : Key) (shared : Option Sharing) (told then more : Option (List Notice)) (given then_given more_given : Option (List View)) (old new : KeptAnswers) (v u w : View)
    → ServedSoFar k shared told then given then_given old new v u → more ≡ then → more_given ≡ then_given → ClaimsNotice shared None u w → HasServed k shared told more given more_given old new v w
served-last k shared told then more given then_given more_given old new v u w s told_same given_same claim =
    let but = claims-but shared None u w claim in
    let since = answered-then k (hints_of s.notices) s.answers s.views v u w s.since but in
    record {
      notices = s.notices;
      answers = s.answers;
      views = s.views;
      taken = told_same ∙ s.taken;
      given_at = given_same ∙ s.given_at;
      kept = s.kept;
      each = since-answered k (hints_of s.notices) s.answers s.views v w since;
      since = since;
      claims = claims-past k shared s.notices s.answers v u w s.claims claim;
      left = λ page. let same = ap (λ (x : View). times page x.left) but in let was = s.left page in omega arith;
      emptied = λ page. let same = ap (λ (x : View). times page x.emptied) but in let was = s.emptied page in omega arith;
      less = λ page. let same = ap (λ (x : View). times page x.owed) but in let was = s.less page in omega arith;
    }
