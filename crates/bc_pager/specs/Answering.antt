-- What an answer to a notice is, by what the pager did and read from the notice to the answer. The views are the pager's, which has
-- no page in hand before and after.
use Rattle.std.specs.Prelude.{◌≡◌, ℕ, ◌<◌, ◌==◌, true, List, [], ◌∷◌, ◌++◌}
use Rattle.bc_bits.specs.Counting.{one_if}
use Rattle.bc_bookmarks.specs.Targets.{HasCell}
use Rattle.bc_pins.specs.declared.views.View.{View}
use Rattle.bc_pins.specs.Key.{Key, pages_of, page_at}
use Rattle.bc_pins.specs.Contents.{IsBarePage}
use Rattle.bc_pins.specs.Owing.{OwesNoMore}
use Rattle.bc_pins.specs.Views.{reads_at}
use Rattle.bc_pager.specs.declared.answers.Answer.{Answer}
use Rattle.bc_pager.specs.declared.answers.Answer.TheVariants.{Discarded, Evicted, Declined}
use Rattle.bc_evict.specs.Looking.{MayStay, MayStayBare, MayStayFilled, TookNone, IsAccountedFor, all_pages, ComesBefore}

-- of page words first the looks were made, with no page in hand, and then this page was taken from Home; after that none was read
pub record TookAfter (k : Key) (v : View) (looks : List (ℕ × ℕ)) (page : ℕ) (w : View) : Type 0 where
  pub later : List (ℕ × ℕ)
  pub read : w.read ≡ later ++ (page_at page, 1) ∷ looks ++ v.read
  pub none : TookNone k looks
  pub else_none : (other : ℕ) → other < pages_of k → reads_at other later ≡ []

-- the page had no allocated cell, and it was taken from Home and made Absent
pub record HasDiscarded (k : Key) (v : View) (page : ℕ) (w : View) : Type 0 where
  pub looks : List (ℕ × ℕ)
  pub inside : page < pages_of k
  pub bare : IsBarePage k.opening page
  pub took : TookAfter k v looks page w
  pub view : w ≡ record v { emptied = page ∷ v.emptied; read = w.read; seen = w.seen; gone = w.gone; busy = w.busy }

-- the page had an allocated cell, and it was taken from Home and made Gone. Each page without an allocated cell was looked at before and
-- was Absent, Held or Remembered. Each page with one that comes before it, going round from the hint, was looked at and was Held,
-- Remembered or Gone. No page is owed that wasn't
pub record HasEvicted (k : Key) (v : View) (hint page : ℕ) (w : View) : Type 0 where
  pub looks : List (ℕ × ℕ)
  pub inside : page < pages_of k
  pub there : HasCell k.opening page
  pub spare : (q : ℕ) → q < all_pages k → IsBarePage k.opening q → IsAccountedFor k looks q MayStayBare
  pub before : (q : ℕ) → q < all_pages k → HasCell k.opening q → ComesBefore k hint q page → IsAccountedFor k looks q MayStayFilled
  pub took : TookAfter k v looks page w
  pub view : w ≡ record v { left = page ∷ v.left; bookmarked = w.bookmarked; known = w.known; won = w.won; owed = w.owed; read = w.read; seen = w.seen; gone = w.gone; busy = w.busy }
  pub less : OwesNoMore v w
  -- in a turn of lanes marks are as they were
  pub unmarked : k.lanes ≡ true → (w.known ≡ v.known) × (w.won ≡ v.won) × (w.owed ≡ v.owed)

-- each page was looked at and was Absent, Held, Remembered or Gone. Nothing was taken
pub record HasDeclined (k : Key) (v w : View) : Type 0 where
  pub looks : List (ℕ × ℕ)
  pub each : (q : ℕ) → q < all_pages k → IsAccountedFor k looks q MayStay
  pub none : TookNone k looks
  pub view : w ≡ record v { read = looks ++ v.read; seen = w.seen; gone = w.gone; busy = w.busy }

-- what an answer to a notice with this hint says
abbrev pub IsAnswer : Key → View → ℕ → Answer → View → Type 0
IsAnswer k v hint (Discarded page) w = HasDiscarded k v page w
IsAnswer k v hint (Evicted page) w = HasEvicted k v hint page w
IsAnswer k v hint Declined w = HasDeclined k v w

-- the view may have claimed notices since, and did nothing else
abbrev pub ButClaims : View → View → Type 0
ButClaims v w = w ≡ record v { notices = w.notices }

-- each notice has one answer, in order, and each begins where the one before it ended, but for claims of notices
abbrev pub AreAnswered : Key → List ℕ → List Answer → View → View → Type 0
AreAnswered k [] [] v w = ButClaims v w
AreAnswered k [] (answer ∷ answers) v w = ⊥
AreAnswered k (hint ∷ hints) [] v w = ⊥
AreAnswered k (hint ∷ hints) (answer ∷ answers) v w =
    (given u : View) × ButClaims v given × IsAnswer k given hint answer u × AreAnswered k hints answers u w

-- each answer begins at the view at which its notice was given, where the one before it ended, but for claims of notices
abbrev pub AreAnsweredSince : Key → List ℕ → List Answer → List View → View → View → Type 0
AreAnsweredSince k [] [] [] v w = ButClaims v w
AreAnsweredSince k [] [] (given ∷ views) v w = ⊥
AreAnsweredSince k [] (answer ∷ answers) views v w = ⊥
AreAnsweredSince k (hint ∷ hints) [] views v w = ⊥
AreAnsweredSince k (hint ∷ hints) (answer ∷ answers) [] v w = ⊥
AreAnsweredSince k (hint ∷ hints) (answer ∷ answers) (given ∷ views) v w =
    ButClaims v given × (u : View) × IsAnswer k given hint answer u × AreAnsweredSince k hints answers views u w

-- the answer says that the page was made Gone: 1 if it does, else 0
abbrev pub says_evicted : ℕ → Answer → ℕ
says_evicted page (Discarded other) = 0
says_evicted page (Evicted other) = one_if (other == page)
says_evicted page Declined = 0

-- the answer says that the page was made Absent: 1 if it does, else 0
abbrev pub says_discarded : ℕ → Answer → ℕ
says_discarded page (Discarded other) = one_if (other == page)
says_discarded page (Evicted other) = 0
says_discarded page Declined = 0

-- the answer says that no page could be taken: 1 if it does, else 0
abbrev pub says_declined : Answer → ℕ
says_declined (Discarded other) = 0
says_declined (Evicted other) = 0
says_declined Declined = 1
