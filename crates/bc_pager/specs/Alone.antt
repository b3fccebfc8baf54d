-- Answers to notices where nobody works beside: each is what was done for it, by the spaces before and after.
use Rattle.std.specs.Prelude.{◌≡◌, ◌⊎◌, ℕ, ◌*◌, ◌<◌, List, [], ◌∷◌, ◌++◌}
use Rattle.bc_bookmarks.specs.Changes.{Discarded, Evicted}
use Rattle.bc_bookmarks.specs.Choices.{GivenUp, IsFirstFrom, IsNone, NoneLeaves}
use Rattle.bc_bookmarks.specs.Kinds.{IsEligible, IsSpare}
use Rattle.bc_pager.specs.Leaving.{LeavesNamed}
use Rattle.bc_pager.specs.declared.answers.Answer.{Answer}
use Rattle.bc_pager.specs.declared.answers.Answer.TheVariants as answer
use Rattle.bc_superpages.specs.Layout.{Layout, superpages}

-- a page was given up for the hint, or nothing changed where no page can leave
abbrev pub GivesUpFor : Layout → ℕ → Layout → Type 0
GivesUpFor s hint t = ((page : ℕ) × (page < 4 * superpages s) × GivenUp s hint page t) ⊎ (NoneLeaves s × (t ≡ s))

-- an answer where nobody works beside: the first page without cells was given up and is Absent, going round from the hint, or else the
-- first that can leave, which is Gone; or none can leave, and nothing changed
abbrev pub IsPlainAnswer : Layout → ℕ → Answer → Layout → Type 0
IsPlainAnswer s hint (answer.Discarded page) t =
    (page < 4 * superpages s) × IsFirstFrom (IsSpare s) (4 * superpages s) hint page × Discarded s page t
IsPlainAnswer s hint (answer.Evicted page) t =
    (page < 4 * superpages s) × IsNone (IsSpare s) (4 * superpages s) × IsFirstFrom (IsEligible s) (4 * superpages s) hint page × Evicted s page t
IsPlainAnswer s hint answer.Declined t = NoneLeaves s × (t ≡ s)

-- each notice has one such answer, in order, and each begins with the space that the one before it left
abbrev pub ArePlainAnswers : Layout → List ℕ → List Answer → Layout → Type 0
ArePlainAnswers s [] [] t = t ≡ s
ArePlainAnswers s [] (told ∷ answers) t = ⊥
ArePlainAnswers s (hint ∷ hints) [] t = ⊥
ArePlainAnswers s (hint ∷ hints) (told ∷ answers) t = (u : Layout) × IsPlainAnswer s hint told u × ArePlainAnswers u hints answers t

-- the notices with these hints were answered so, after the answers that were kept before
abbrev pub AnsweredAlone : Layout → List ℕ → List Answer → List Answer → Layout → Type 0
AnsweredAlone s hints before after t = (told : List Answer) × (after ≡ before ++ told) × ArePlainAnswers s hints told t

-- and the pages that these answers name left, and no other
abbrev pub AnsweredLeaving : Layout → List ℕ → List Answer → List Answer → Layout → Type 0
AnsweredLeaving s hints before after t = (told : List Answer) × (after ≡ before ++ told) × ArePlainAnswers s hints told t × LeavesNamed s told t
