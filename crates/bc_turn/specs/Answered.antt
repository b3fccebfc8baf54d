-- Notices that pagers answered beside the lanes of a turn, and pages that lanes reloaded, said of the space before the turn and
-- after it.
use Rattle.std.specs.Prelude.{◌≡◌, ◌⊎◌, ℕ, ◌+◌, ◌-◌, ◌^◌, ◌<◌, ◌≤◌, ◌==◌, true, false, List, [], ◌∷◌, ◌++◌, length, min}
use Rattle.bc_bits.specs.Bits.{has}
use Rattle.bc_bits.specs.Counting.{one_if}
use Rattle.bc_bookmarks.specs.Summarised.{gone_in}
use Rattle.bc_bookmarks.specs.Targets.{has_target_at}
use Rattle.bc_pager.specs.Answering.{AreAnswered, says_declined, says_discarded, says_evicted}
use Rattle.bc_pager.specs.Claiming.{hints_of}
use Rattle.bc_pager.specs.Feeding.{live_room}
use Rattle.bc_pager.specs.Placing.{AnsweredByPagers, Paged}
use Rattle.bc_pager.specs.declared.answers.Answer.{Answer}
use Rattle.bc_pager.specs.declared.notices.Notice.{Notice}
use Rattle.bc_pins.specs.Contents.{has_target_with}
use Rattle.bc_pins.specs.Key.{Key, role_number}
use Rattle.bc_pins.specs.Steps.{fresh}
use Rattle.bc_pins.specs.Totals.{times, total}
use Rattle.bc_pins.specs.Views.{state_word}
use Rattle.bc_pins.specs.declared.key.Role.TheVariants.{Pager}
use Rattle.bc_pins.specs.declared.views.View.{View}
use Rattle.bc_superpages.specs.declared.headers.PageState.{PageState}
use Rattle.bc_superpages.specs.declared.headers.PageState.TheVariants.{Absent, Gone, Home}
use Rattle.bc_superpages.specs.Layout.{Layout, content_at, set_of}
use Rattle.bc_superpages.specs.LayoutAt.{state_at}

-- a page was made Gone in the turn, by an answer or a lane, and cell b of superpage q was a target of it then: by a content that it had before
-- the turn or in it. Where no lane reloaded it, the page wasn't Gone before, is Gone, and has the target
pub record IsTargetLeft (Had : ℕ → List ℕ → Type 0) (s t : Layout) (told : List Answer) (left fetched : List ℕ) (q b : ℕ) : Type 0 where
  pub page : ℕ
  pub left_is : 0 < total (says_evicted page) told + times page left
  pub content : List ℕ
  pub had : (content_at s.pages page ≡ content) ⊎ Had page content
  pub target : has_target_with s page content q b ≡ true
  pub still : times page fetched ≡ 0 → (gone_in s page ≡ false) × (gone_in t page ≡ true) × (has_target_at t page q b ≡ true)

-- bookmark bits stay, and each that came is that of a target of a page that was made Gone in the turn
pub record BookmarksBeside (Had : ℕ → List ℕ → Type 0) (s t : Layout) (told : List Answer) (left fetched : List ℕ) : Type 0 where
  pub stay : (q b : ℕ) → has (set_of s.bookmarks q) b ≡ true → has (set_of t.bookmarks q) b ≡ true
  pub only : (q b : ℕ) → has (set_of t.bookmarks q) b ≡ true → (has (set_of s.bookmarks q) b ≡ true) ⊎ IsTargetLeft Had s t told left fetched q b

-- once, where the page is in this state, and else not
abbrev pub is_in : PageState → Layout → ℕ → ℕ
is_in state s page = one_if (state_word (state_at s.states page) == state_word state)

-- what the live pager, which has this number, took and answered, by its view at the end; nothing where there is none
pub record AnsweredLive (k : Key) (number : ℕ) (fed : List Notice) (told : List Answer) : Type 0 where
  pub end : View
  pub each : AreAnswered k (hints_of fed) told (fresh k (role_number (Pager number) ∷ [])) end
  pub unclaimed : end.notices ≡ []
  pub few : length fed ≤ live_room

-- the notices with these hints were answered by pagers that worked beside the lanes at a table that was opened over a space, and closed
-- to another one. There are as many pagers as notices, at most four. Each notice was claimed by one of them and has one answer, by what
-- that pager did and read since; the answers stand in the order of the notices, after those that were kept before. Where more notices
-- come during the turn, one pager more took them, the live one: each of `fed` has one answer, in order, by what it did and read since
-- the answer before; these stand in a list of their own, after those that were kept there. Besides, lanes
-- reloaded pages, each one that is looked at in the turn, and at most `most` times in all, and for their frames made pages Gone or Absent, no
-- more than they reloaded.
-- By these lists and all answers each page is accounted for: how often it is Gone or Absent afterwards. A notice was declined only where
-- each page that is Home afterwards is looked at in the turn. Pages were read as often as lanes reloaded one. A page had other contents
-- in the turn than before it only by its lane's operations
pub record AnsweredBeside (IsLooked : ℕ → Type 0) (Had : ℕ → List ℕ → Type 0) (most : ℕ) (s : Layout) (hints : List ℕ) (before after : List Answer) (t : Layout) (lived : List Answer) (fed : List Notice) (live : List Answer) : Type 0 where
  pub key : Key
  pub opening : key.opening ≡ s
  -- no more pages may be in memory than the space has frames for them (`law_frames_in_use`)
  pub frames : key.frames ≡ s.frames
  pub unused : length key.nursery ≡ s.nursery
  -- what each pager claimed, answered and read
  pub pagers : List Paged
  pub told : List Answer
  pub kept : after ≡ before ++ told
  pub shared : AnsweredByPagers key hints pagers told
  -- what the live pager took, answered and read; its number comes after those of the others
  pub live_told : List Answer
  pub live_kept : live ≡ lived ++ live_told
  pub live_pager : AnsweredLive key (length pagers) fed live_told
  -- the pages that lanes reloaded, made Gone, and made Absent
  pub fetched : List ℕ
  pub left : List ℕ
  pub emptied : List ℕ
  pub once : length fetched ≤ most
  pub few : length left + length emptied ≤ length fetched
  pub own : (p : ℕ) → 0 < times p fetched → IsLooked p
  pub gone : (p : ℕ) → is_in Gone t p + times p fetched ≡ is_in Gone s p + (total (says_evicted p) (told ++ live_told) + times p left)
  pub absent : (p : ℕ) → is_in Absent t p ≡ is_in Absent s p + (total (says_discarded p) (told ++ live_told) + times p emptied)
  pub declined : 0 < total says_declined (told ++ live_told) → (p : ℕ) → state_at t.states p ≡ Home → IsLooked p
  pub bookmarks : BookmarksBeside Had s t (told ++ live_told) left fetched
  pub reads : t.reads ≡ min (s.reads + length fetched) (2 ^ 64 - 1)
