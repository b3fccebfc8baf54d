-- What one view says: what it has in hand, which content it records of a page, which roles it has.
use Rattle.std.specs.Prelude.{ℕ, ◌+◌, ◌==◌, ◌&&◌, Bool, if◌then◌else◌, List, [], ◌∷◌, true, false, Option, Some, None}
use Rattle.std.specs.Int.{bit_at}
use Rattle.bc_bits.specs.Counting.{one_if}
use Rattle.bc_superpages.specs.declared.headers.PageState.{PageState}
use Rattle.bc_superpages.specs.declared.headers.PageState.TheVariants as state
use Rattle.bc_superpages.specs.Layout.{content_at}
use Rattle.bc_superpages.specs.LayoutAt.{state_at}
use Rattle.bc_pins.specs.declared.views.Hand.{Hand}
use Rattle.bc_pins.specs.declared.views.View.{View}
use Rattle.bc_pins.specs.Key.{Key, owner, page_at}
use Rattle.bc_pins.specs.Totals.{times}

-- 1 if the view has the page in hand, else 0
abbrev pub grips : ℕ → Option Hand → ℕ
grips page None = 0
grips page (Some h) = one_if (h.page == page)

-- 1 if the view has the page in hand and it is remembered, else 0
abbrev pub grips_remembered : ℕ → Option Hand → ℕ
grips_remembered page None = 0
grips_remembered page (Some h) = if h.remembered then one_if (h.page == page) else 0

-- is the frame that of the page in hand?
abbrev pub frame_in_hand : ℕ → Option Hand → ℕ
frame_in_hand frame None = 0
frame_in_hand frame (Some h) = one_if (h.frame == frame)

-- how often the superpage is counted for the page, if it is in hand
abbrev pub counted_for : ℕ → ℕ → Option Hand → ℕ
counted_for page superpage None = 0
counted_for page superpage (Some h) = if h.page == page then times superpage h.counted else 0

-- how often this bit of a bookmark word was set, by the page, word and bits of each step
abbrev pub sets_bit : ℕ → ℕ → List (ℕ × ℕ × ℕ) → ℕ
sets_bit word bit [] = 0
sets_bit word bit (e ∷ es) = (if e.1 == word then bit_at e.2 bit else 0) + sets_bit word bit es

-- how often this bit of a bookmark word was set for this page
abbrev pub sets_for : ℕ → ℕ → ℕ → List (ℕ × ℕ × ℕ) → ℕ
sets_for page word bit [] = 0
sets_for page word bit (e ∷ es) = (if (e.0 == page) && (e.1 == word) then bit_at e.2 bit else 0) + sets_for page word bit es

-- how often bits were set for the page
abbrev pub marked_for : ℕ → List (ℕ × ℕ × ℕ) → ℕ
marked_for page [] = 0
marked_for page (e ∷ es) = one_if (e.0 == page) + marked_for page es

-- has the view this role, by its number?
abbrev pub has_role : View → ℕ → ℕ
has_role v role = times role v.roles

-- is nothing in hand?
abbrev pub is_empty_handed : Option Hand → Bool
is_empty_handed None = true
is_empty_handed (Some h) = false

-- how often the view has the page in hand and isn't that of its lane
abbrev pub grips_foreign : Key → ℕ → View → ℕ
grips_foreign k page v = if has_role v (owner k page) == 0 then grips page v.hand else 0

-- how often the view keeps the page from its lane in memory, or kept it: it has it in hand so, or put it back so
abbrev pub withholds : Key → ℕ → View → ℕ
withholds k page v = grips_foreign k page v + times page v.returned

-- what was read of a word, the last first
abbrev pub reads_of : ℕ → List (ℕ × ℕ) → List ℕ
reads_of i [] = []
reads_of i (e ∷ es) = if e.0 == i then e.1 ∷ reads_of i es else reads_of i es

-- what was read of a page's word
abbrev pub reads_at : ℕ → List (ℕ × ℕ) → List ℕ
reads_at page reads = reads_of (page_at page) reads

-- how often the view read the page's word as this
abbrev pub reads_as : ℕ → ℕ → View → ℕ
reads_as page n v = times n (reads_at page v.read)

-- how many entries of the list are of the page
abbrev pub entries : ℕ → List (ℕ × List ℕ) → ℕ
entries page [] = 0
entries page (e ∷ es) = one_if (e.0 == page) + entries page es

-- the content that the first entry of the page has, or another if there is none
abbrev pub look_up : ℕ → List (ℕ × List ℕ) → List ℕ → List ℕ
look_up page [] first = first
look_up page (e ∷ es) first = if e.0 == page then e.1 else look_up page es first

-- the page's content at the opening
abbrev pub opened_content : Key → ℕ → List ℕ
opened_content k page = content_at k.opening.pages page

-- the page's state at the opening
abbrev pub opened_state : Key → ℕ → PageState
opened_state k page = state_at k.opening.states page

-- the content that the view records of the page: what it put back last, or else the opening's
abbrev pub record_of : View → ℕ → List ℕ
record_of v page = look_up page v.changed (opened_content v.about page)

-- the word of a page in this state
abbrev pub state_word : PageState → ℕ
state_word state.Absent = 0
state_word state.Home = 1
state_word state.Remembered = 2
state_word state.Held = 3
state_word state.Gone = 4

-- the word of a page at the opening
abbrev pub opened_word : Key → ℕ → ℕ
opened_word k page = state_word (opened_state k page)

-- the word of a page that is in memory, remembered or not
abbrev pub home_word : Bool → ℕ
home_word remembered = if remembered then 2 else 1
