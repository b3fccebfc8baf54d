-- In the theorem.
-- The listing that is being read, as plain lists.
use Rattle.std.specs.Prelude.{◌≡◌, ℕ, ◌/◌, ◌%◌, ◌==◌, nat_eq, Bool, false, if◌then◌else◌, List, [], ◌∷◌, ◌++◌, length, Option, Some, None}
use Rattle.std.specs.List.{list_any}
use Rattle.bc_word.specs.Heads.{head_of_bits}
use Rattle.bc_word.specs.declared.heads.Head.{Head}
use Rattle.bc_image.specs.Cells.{CellList}
use Rattle.bc_image.specs.Memories.{no_head}
use Rattle.bc_image.specs.Items.{passes, cause_of, advanced, first_progress, IsProgress}
use Rattle.bc_image.specs.declared.draft.Draft.{Draft}
use Rattle.bc_image.specs.declared.fault.ImageCause.{ImageCause}
use Rattle.bc_image.specs.declared.fault.ImageCause.TheVariants as causes
use Rattle.bc_model.specs.declared.values.Holder.{Holder}
use Rattle.bc_model.specs.declared.values.Holder.TheVariants.{Lane, Frozen}
use Rattle.bc_image.specs.declared.progress.Progress.{Progress}
use Rattle.bc_image.specs.declared.progress.Stage.{Stage}
use Rattle.bc_image.specs.declared.progress.Stage.TheVariants as stages

-- what was read of an image so far. `born` has the births of all objects that were begun, as their heads have them, and `fields`
-- those that were read of the last of them
pub record ImageDraft : Type 0 where
  pub progress : Progress
  pub holders : List Holder
  pub births : List ℕ
  pub roots : List ℕ
  pub born : List ℕ
  pub cells : List CellList
  pub head : Head
  pub fields : List ℕ

-- the draft before the first item
abbrev pub empty_draft : ImageDraft
empty_draft = record { progress = first_progress; holders = []; births = []; roots = []; born = []; cells = []; head = no_head; fields = [] }

-- lane and serial of a head, as one number
abbrev pub birth_bits : ℕ → ℕ
birth_bits bits = bits / 8192

-- the holder that a number stands for: a lane, or Frozen where it is the number of lanes
abbrev pub numbered_holder : ℕ → ℕ → Holder
numbered_holder lanes n = if n == lanes then Frozen else Lane n

-- the draft after the last item of an object
abbrev pub finished_object : ImageDraft → ImageDraft
finished_object d = record d { cells = d.cells ++ record { address = d.progress.address; head = d.head; fields = d.fields } ∷ []; fields = [] }

-- the draft with what an item of this stage adds, its progress as before
abbrev pub put_at : Stage → ImageDraft → ℕ → ImageDraft
put_at stages.Holder d n = record d { holders = d.holders ++ numbered_holder d.progress.setup.lanes n ∷ [] }
put_at stages.Birth d n = record d { births = d.births ++ n ∷ [] }
put_at stages.Root d n = record d { roots = d.roots ++ n ∷ [] }
put_at stages.Head d n =
    let e : ImageDraft = record d { born = d.born ++ birth_bits n ∷ []; head = head_of_bits n } in
    if n % 128 == 0 then finished_object e else e
put_at stages.Field d n =
    let e : ImageDraft = record d { fields = d.fields ++ n ∷ [] } in
    if d.progress.fields == 1 then finished_object e else e
put_at _ d n = d

-- the draft with this progress
abbrev pub with_progress : ImageDraft → Progress → ImageDraft
with_progress d p = record d { progress = p }

-- the draft with one item more, which passed
unfoldable pub put : ImageDraft → ℕ → ImageDraft
put d n = with_progress (put_at d.progress.stage d n) (advanced d.progress n)

-- the item is a head, and its birth is one of these
abbrev pub is_born_at : Stage → List ℕ → ℕ → Bool
is_born_at stages.Head born n = list_any (nat_eq (birth_bits n)) born
is_born_at _ born n = false

-- the item is the head of an object of a birth that was read before
abbrev pub is_twice_at : Stage → ImageDraft → ℕ → Bool
is_twice_at st d n = is_born_at st d.born n

-- the births of all objects that were begun, with the item
abbrev pub born_with : Stage → List ℕ → ℕ → List ℕ
born_with stages.Head born n = born ++ birth_bits n ∷ []
born_with _ born n = born

-- the first test that an item fails: that of its own place, or that no earlier object has the birth
unfoldable pub judged : ImageDraft → ℕ → Option ImageCause
judged d n =
    if passes d.progress d.births n then (if is_twice_at d.progress.stage d n then Some causes.Twice else None) else Some (cause_of d.progress.stage)

-- the draft of the code shows these lists, but for the births of objects, which it doesn't keep
pub record ShowsLists (x : Draft) (d : ImageDraft) : Type 0 where
  pub progress : x.progress ≡ d.progress
  pub holders : x.holders.items ≡ d.holders
  pub births : x.births.items ≡ d.births
  pub roots : x.roots.items ≡ d.roots
  pub cells : x.cells.items ≡ d.cells
  pub head : x.head ≡ d.head
  pub fields : x.fields.items ≡ d.fields

-- how many births there are
abbrev pub HasBirths : Stage → Progress → List ℕ → Type 0
HasBirths stages.Birth p births = length births ≡ p.stood
HasBirths stages.Root p births = length births ≡ p.setup.lanes
HasBirths stages.Pair p births = length births ≡ p.setup.lanes
HasBirths stages.Count p births = length births ≡ p.setup.lanes
HasBirths stages.Address p births = length births ≡ p.setup.lanes
HasBirths stages.Head p births = length births ≡ p.setup.lanes
HasBirths stages.Field p births = length births ≡ p.setup.lanes
HasBirths stages.Finished p births = Unit {0}
HasBirths _ p births = births ≡ []

-- what is true of it
pub record IsDraft (d : ImageDraft) : Type 0 where
  pub progress : IsProgress d.progress
  pub births : HasBirths d.progress.stage d.progress d.births
