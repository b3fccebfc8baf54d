-- Which pages were looked at, by what was read of their words, and in which order they are gone round.
use Rattle.std.specs.Prelude.{◌≡◌, ℕ, ◌+◌, ◌-◌, ◌*◌, ◌%◌, ◌<◌, ◌≤◌, ◌⊎◌, if◌then◌else◌, nat_lt, List}
use Rattle.bc_superpages.specs.declared.headers.PageState.{PageState}
use Rattle.bc_superpages.specs.declared.headers.PageState.TheVariants as state
use Rattle.bc_superpages.specs.Layout.{superpages}
use Rattle.bc_pins.specs.Key.{Key, pages_of}
use Rattle.bc_pins.specs.Totals.{times}
use Rattle.bc_pins.specs.Views.{reads_at, state_word, opened_state}

-- where a page without an allocated cell may be that a pager can't take
abbrev pub MayStayBare : PageState → Type 0
MayStayBare state.Absent = Unit {0}
MayStayBare state.Home = ⊥
MayStayBare state.Remembered = Unit {0}
MayStayBare state.Held = Unit {0}
MayStayBare state.Gone = ⊥

-- where a page with an allocated cell may be that a pager can't take
abbrev pub MayStayFilled : PageState → Type 0
MayStayFilled state.Absent = ⊥
MayStayFilled state.Home = ⊥
MayStayFilled state.Remembered = Unit {0}
MayStayFilled state.Held = Unit {0}
MayStayFilled state.Gone = Unit {0}

-- where a page may be that a pager can't take, whatever lies on it
abbrev pub MayStay : PageState → Type 0
MayStay state.Absent = Unit {0}
MayStay state.Home = ⊥
MayStay state.Remembered = Unit {0}
MayStay state.Held = Unit {0}
MayStay state.Gone = Unit {0}

-- no page was read as Home. A pager gets a page into its hands only by a step that reads its word as Home; so where nothing was in
-- its hands before these words were read, nothing was while they were
abbrev pub TookNone : Key → List (ℕ × ℕ) → Type 0
TookNone k looks = (page : ℕ) → page < pages_of k → times 1 (reads_at page looks) ≡ 0

-- the page's word was read, and it was one of these states
pub record WasFound (looks : List (ℕ × ℕ)) (page : ℕ) (Where : PageState → Type 0) : Type 0 where
  pub place : PageState
  pub among : Where place
  pub read : 0 < times (state_word place) (reads_at page looks)

-- the page was looked at and found so; or it lies past the table, where every page is Absent from the opening to the close, and
-- to look at it is to see where the table ends
abbrev pub IsAccountedFor : Key → List (ℕ × ℕ) → ℕ → (PageState → Type 0) → Type 0
IsAccountedFor k looks page Where =
    ((page < pages_of k) × WasFound looks page Where) ⊎ ((pages_of k ≤ page) × (opened_state k page ≡ state.Absent) × Where state.Absent)

-- the number of the heap's pages
abbrev pub all_pages : Key → ℕ
all_pages k = 4 * superpages k.opening

-- how many steps a page, or a word, comes after a start, where so many are gone round
abbrev pub steps_behind : ℕ → ℕ → ℕ → ℕ
steps_behind pages start page = if nat_lt page start then pages + page - start else page - start

-- one page comes before another, where the heap's pages are gone round from a hint on
abbrev pub ComesBefore : Key → ℕ → ℕ → ℕ → Type 0
ComesBefore k hint one other = steps_behind (all_pages k) (hint % all_pages k) one < steps_behind (all_pages k) (hint % all_pages k) other
