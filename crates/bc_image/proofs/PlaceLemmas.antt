-- Words by the numbers of their items: those of the items are those that the draft has.
use Rattle.std.proofs.Common.{◌≡◌, ℕ, ◌+◌, ◌-◌, ◌*◌, ◌/◌, ◌%◌, ◌<◌, ◌≤◌, ◌==◌, ◌&&◌, Bool, true, false, if◌then◌else◌, List, [], ◌∷◌, ◌++◌, length, get_or, Option, Some, None, refl, sym, ◌∙◌, ap, ap₂, subst, inl, inr, arith, eq-eqb, ne_eqb}
use Prim.Native.Nat.{zero, suc}
use Rattle.std.proofs.lemmas.Bool.{cases_Bool, eqb-true}
use Rattle.std.proofs.lemmas.List.{get_or_append_left, get_or_push}
use Rattle.bc_word.specs.Words.{word_of_bits}
use Rattle.bc_word.specs.Heads.{head_of_bits}
use Rattle.bc_image.specs.Bytes.{item_at}
use Rattle.bc_image.specs.Cells.{CellList}
use Rattle.bc_image.specs.Drafts.{ImageDraft, empty_draft, birth_bits, numbered_holder, put, put_at, finished_object}
use Rattle.bc_image.specs.Faults.{is_word, leads_nowhere, linking}
use Rattle.bc_image.specs.Items.{advanced, advanced_at, superpage_ended, object_ended, HasObjectLeft}
use Rattle.bc_image.specs.Memories.{cell_at}
use Rattle.bc_image.specs.Numbered.{numbered, word_at, words_from, words_below, draft_words, first_lost}
use Rattle.bc_image.specs.declared.progress.Progress.{Progress}
use Rattle.bc_image.specs.declared.progress.Stage.{Stage}
use Rattle.bc_image.specs.declared.progress.Stage.TheVariants as stages

abbrev Words : Type 0
Words = List (ℕ × ℕ)

-- ---- words of the items

words-zero : (bytes : List ℕ) (p : Progress) (number : ℕ) → words_from bytes p number 0 ≡ []
unfolding words_from
words-zero bytes p number = refl

words-suc : (bytes : List ℕ) (p : Progress) (number left : ℕ) → words_from bytes p number (suc left) ≡ word_at p.stage number (item_at bytes number) ++ words_from bytes (advanced p (item_at bytes number)) (number + 1) left
unfolding words_from
words-suc bytes p number left = refl

lost-step : (cells : List CellList) (st : Stage) (number n : ℕ) (rest : Words) → (if is_word st && leads_nowhere cells (word_of_bits n) then Some number else first_lost cells rest) ≡ first_lost cells (word_at st number n ++ rest)
lost-step cells stages.Root number n rest = refl
lost-step cells stages.Field number n rest = refl
lost-step cells stages.Magic number n rest = refl
lost-step cells stages.Version number n rest = refl
lost-step cells stages.Lanes number n rest = refl
lost-step cells stages.Domains number n rest = refl
lost-step cells stages.Slots number n rest = refl
lost-step cells stages.Superpages number n rest = refl
lost-step cells stages.Nursery number n rest = refl
lost-step cells stages.Buffer number n rest = refl
lost-step cells stages.Frames number n rest = refl
lost-step cells stages.Phases number n rest = refl
lost-step cells stages.Holder number n rest = refl
lost-step cells stages.Birth number n rest = refl
lost-step cells stages.Pair number n rest = refl
lost-step cells stages.Count number n rest = refl
lost-step cells stages.Address number n rest = refl
lost-step cells stages.Head number n rest = refl
lost-step cells stages.Finished number n rest = refl

linking-zero : (bytes : List ℕ) (cells : List CellList) (p : Progress) (number : ℕ) → linking bytes cells p number 0 ≡ None
unfolding linking
linking-zero bytes cells p number = refl

linking-suc : (bytes : List ℕ) (cells : List CellList) (p : Progress) (number left : ℕ) → linking bytes cells p number (suc left) ≡ (if is_word p.stage && leads_nowhere cells (word_of_bits (item_at bytes number)) then Some number else linking bytes cells (advanced p (item_at bytes number)) (number + 1) left)
unfolding linking
linking-suc bytes cells p number left = refl

-- the first word that leads nowhere, looked for over the words alone
pub linking-words : (bytes : List ℕ) (cells : List CellList) (left : ℕ) (p : Progress) (number : ℕ) → linking bytes cells p number left ≡ first_lost cells (words_from bytes p number left)
linking-words bytes cells zero p number = linking-zero bytes cells p number ∙ ap (first_lost cells) (sym (words-zero bytes p number))
linking-words bytes cells (suc left) p number =
    let n : ℕ = item_at bytes number in
    linking-suc bytes cells p number left
    ∙ ap (λ (o : Option ℕ). if is_word p.stage && leads_nowhere cells (word_of_bits n) then Some number else o) (linking-words bytes cells left (advanced p n) (number + 1))
    ∙ lost-step cells p.stage number n (words_from bytes (advanced p n) (number + 1) left)
    ∙ ap (first_lost cells) (sym (words-suc bytes p number left))

-- ---- lists of words

pub joined-words : (xs ys zs : Words) → (xs ++ ys) ++ zs ≡ xs ++ (ys ++ zs)
joined-words [] ys zs = refl
joined-words (x ∷ xs) ys zs = ap (λ (ws : Words). x ∷ ws) (joined-words xs ys zs)

pub no-words : (xs : Words) → xs ++ [] ≡ xs
no-words [] = refl
no-words (x ∷ xs) = ap (λ (ws : Words). x ∷ ws) (no-words xs)

numbered-push : (k : ℕ) (ws : List ℕ) (w : ℕ) → numbered k (ws ++ w ∷ []) ≡ numbered k ws ++ (k + length ws, w) ∷ []
numbered-push k [] w = ap (λ (n : ℕ). let x : ℕ × ℕ = (n, w) in x ∷ []) (let e : k ≡ k + 0 = omega arith in e)
numbered-push k (x ∷ ws) w = ap (λ (zs : Words). (k, x) ∷ zs) (numbered-push (k + 1) ws w ∙ ap (λ (n : ℕ). let y : ℕ × ℕ = (n, w) in numbered (k + 1) ws ++ y ∷ []) (let e : k + 1 + length ws ≡ k + suc (length ws) = omega arith in e))

numbered-at : (k : ℕ) (ws : List ℕ) (w number : ℕ) → number ≡ k + length ws → numbered k (ws ++ w ∷ []) ≡ numbered k ws ++ (number, w) ∷ []
numbered-at k ws w number is = numbered-push k ws w ∙ ap (λ (n : ℕ). let y : ℕ × ℕ = (n, w) in numbered k ws ++ y ∷ []) (sym is)

cell-front : (cells : List CellList) (c : CellList) (k : ℕ) → k < length cells → cell_at (cells ++ c ∷ []) k ≡ cell_at cells k
cell-front [] c k lt = absurd (omega arith)
cell-front (x ∷ cells) c zero lt = refl
cell-front (x ∷ cells) c (suc k) lt = cell-front cells c k (omega arith)

cell-last : (cells : List CellList) (c : CellList) → cell_at (cells ++ c ∷ []) (length cells) ≡ c
cell-last [] c = refl
cell-last (x ∷ cells) c = cell-last cells c

longer : (cells : List CellList) (c : CellList) → length (cells ++ c ∷ []) ≡ suc (length cells)
longer [] c = refl
longer (x ∷ cells) c = ap suc (longer cells c)

-- a head more, or an object more, leaves the words of the objects before
words-heads : (heads : List ℕ) (h : ℕ) (cells : List CellList) (k : ℕ) → k ≤ length heads → words_below (heads ++ h ∷ []) cells k ≡ words_below heads cells k
words-heads heads h cells zero le = refl
words-heads heads h cells (suc k) le =
    ap₂ (λ (ws : Words) (n : ℕ). ws ++ numbered (n + 1) (cell_at cells k).fields) (words-heads heads h cells k (omega arith)) (get_or_append_left heads (h ∷ []) 0 k (omega arith))

words-cells : (heads : List ℕ) (cells : List CellList) (c : CellList) (k : ℕ) → k ≤ length cells → words_below heads (cells ++ c ∷ []) k ≡ words_below heads cells k
words-cells heads cells c zero le = refl
words-cells heads cells c (suc k) le =
    ap₂ (λ (ws : Words) (x : CellList). ws ++ numbered (get_or heads k 0 + 1) x.fields) (words-cells heads cells c k (omega arith)) (cell-front cells c k (omega arith))

words-one : (heads : List ℕ) (cells : List CellList) (c : CellList) → words_below heads (cells ++ c ∷ []) (length (cells ++ c ∷ [])) ≡ words_below heads cells (length cells) ++ numbered (get_or heads (length cells) 0 + 1) c.fields
words-one heads cells c =
    ap (words_below heads (cells ++ c ∷ [])) (longer cells c)
    ∙ ap₂ (λ (ws : Words) (x : CellList). ws ++ numbered (get_or heads (length cells) 0 + 1) x.fields) (words-cells heads cells c (length cells) (omega arith)) (cell-last cells c)

-- ---- where the reader is, by what it has

abbrev pub base : Stage → ℕ
base stages.Magic = 0
base stages.Version = 1
base stages.Lanes = 2
base stages.Domains = 3
base stages.Slots = 4
base stages.Superpages = 5
base stages.Nursery = 6
base stages.Buffer = 7
base stages.Frames = 8
base stages.Phases = 9
base _ = 10

abbrev pub total : ImageDraft → ℕ
total d = length d.holders + length d.births + length d.roots

-- up to the root words the number of an item is how many came before
abbrev pub RootPlace : Stage → ℕ → ImageDraft → Type 0
RootPlace stages.Root number d = (number ≡ 10 + total d) × (d.cells ≡ [])
RootPlace stages.Pair number d = 10 + total d ≤ number
RootPlace stages.Count number d = 10 + total d ≤ number
RootPlace stages.Address number d = 10 + total d ≤ number
RootPlace stages.Head number d = 10 + total d ≤ number
RootPlace stages.Field number d = 10 + total d ≤ number
RootPlace stages.Finished number d = 10 + total d ≤ number
RootPlace st number d = (number ≡ base st + total d) × (d.cells ≡ []) × (d.roots ≡ [])

-- the number of a field is that of its head and how many fields came before
abbrev pub FieldPlace : Stage → ℕ → List ℕ → ImageDraft → Type 0
FieldPlace stages.Field number heads d = (length heads ≡ length d.cells + 1) × (number ≡ get_or heads (length d.cells) 0 + 1 + length d.fields)
FieldPlace _ number heads d = (length heads ≡ length d.cells) × (d.fields ≡ [])

abbrev pub heads_with : Stage → List ℕ → ℕ → List ℕ
heads_with stages.Head heads number = heads ++ number ∷ []
heads_with _ heads number = heads

pub record IsPlaced (st : Stage) (number : ℕ) (heads : List ℕ) (d : ImageDraft) : Type 0 where
  pub root : RootPlace st number d
  pub field : FieldPlace st number heads d

-- one of two stages
placed-if : (t : Bool) (x y : Progress) (number : ℕ) (heads : List ℕ) (d : ImageDraft) → (t ≡ true → IsPlaced x.stage number heads d) → (t ≡ false → IsPlaced y.stage number heads d) → (let q : Progress = if t then x else y in IsPlaced q.stage number heads d)
placed-if true x y number heads d h k = h refl
placed-if false x y number heads d h k = k refl

record IsBetween (number : ℕ) (heads : List ℕ) (d : ImageDraft) : Type 0 where
  root : 10 + total d ≤ number
  count : length heads ≡ length d.cells
  none : d.fields ≡ []

placed-ended : (p : Progress) (t : Bool) (number : ℕ) (heads : List ℕ) (d : ImageDraft) → IsBetween number heads d → (let q : Progress = record p { superpage = p.superpage + 1; stage = if t then stages.Finished else stages.Pair } in IsPlaced q.stage number heads d)
placed-ended p true number heads d b = record { root = b.root; field = (b.count, b.none) }
placed-ended p false number heads d b = record { root = b.root; field = (b.count, b.none) }

placed-object : (p : Progress) (number : ℕ) (heads : List ℕ) (d : ImageDraft) → IsBetween number heads d → IsPlaced (object_ended p).stage number heads d
placed-object p number heads d b =
    let q : Progress = record p { left = p.left - 1; least = p.address + p.class; stage = stages.Address } in
    placed-if (p.left - 1 == 0) (superpage_ended q) q number heads d (λ t. placed-ended q (q.superpage + 1 == q.setup.superpages) number heads d b) (λ t. record { root = b.root; field = (b.count, b.none) })

-- ---- an item more

record Step (st : Stage) (p : Progress) (number : ℕ) (heads : List ℕ) (d : ImageDraft) (n : ℕ) : Type 0 where
  placed : IsPlaced (advanced_at st p n).stage (number + 1) (heads_with st heads number) (put_at st d n)
  words : draft_words (heads_with st heads number) (put_at st d n) ≡ draft_words heads d ++ word_at st number n

-- a number of the header
header : (st next : Stage) (number : ℕ) (heads : List ℕ) (d : ImageDraft) → (number ≡ base st + total d) × (d.cells ≡ []) × (d.roots ≡ []) → (length heads ≡ length d.cells) × (d.fields ≡ []) → base next ≡ base st + 1 → (number + 1 ≡ base next + total d) × (d.cells ≡ []) × (d.roots ≡ [])
header st next number heads d r f is = (let e = r.0 in omega arith, r.1, r.2)

plain : (st : Stage) (d : ImageDraft) (heads : List ℕ) → draft_words heads d ≡ draft_words heads d ++ []
plain st d heads = sym (no-words (draft_words heads d))

-- the words where no root word stood yet
unrooted : (heads : List ℕ) (d e : ImageDraft) → d.roots ≡ [] → e.roots ≡ [] → e.cells ≡ d.cells → e.fields ≡ d.fields → draft_words heads e ≡ draft_words heads d ++ []
unrooted heads d e r s c f =
    ap (λ (ws : List ℕ). numbered (10 + length e.holders + length e.births) ws ++ (words_below heads e.cells (length e.cells) ++ numbered (get_or heads (length e.cells) 0 + 1) e.fields)) s
    ∙ ap (λ (cs : List CellList). words_below heads cs (length cs) ++ numbered (get_or heads (length cs) 0 + 1) e.fields) c
    ∙ ap (λ (ws : List ℕ). words_below heads d.cells (length d.cells) ++ numbered (get_or heads (length d.cells) 0 + 1) ws) f
    ∙ ap (λ (ws : List ℕ). numbered (10 + length d.holders + length d.births) ws ++ (words_below heads d.cells (length d.cells) ++ numbered (get_or heads (length d.cells) 0 + 1) d.fields)) (sym r)
    ∙ sym (no-words (draft_words heads d))

pushed : {X : Type 0} (xs : List X) (x : X) → length (xs ++ x ∷ []) ≡ length xs + 1
pushed [] x = refl
pushed (y ∷ xs) x = (let h = pushed xs x in omega arith)

end-word : (rs bs ns ws : Words) → rs ++ (bs ++ (ns ++ ws)) ≡ (rs ++ (bs ++ ns)) ++ ws
end-word rs bs ns ws = sym (joined-words rs (bs ++ ns) ws ∙ ap (λ (xs : Words). rs ++ xs) (joined-words bs ns ws))

module _ (p : Progress) (number : ℕ) (heads : List ℕ) (d : ImageDraft) (n : ℕ) where
  step-root : p.stage ≡ stages.Root → IsPlaced stages.Root number heads d → Step stages.Root p number heads d n
  step-root e h =
      let e2 : ImageDraft = record d { roots = d.roots ++ n ∷ [] } in
      let more = pushed d.roots n in
      let at = h.root.0 in
      let rest : words_below heads d.cells (length d.cells) ++ numbered (get_or heads (length d.cells) 0 + 1) d.fields ≡ [] =
      ap (λ (cs : List CellList). words_below heads cs (length cs) ++ numbered (get_or heads (length cs) 0 + 1) d.fields) h.root.1 ∙ ap (λ (ws : List ℕ). numbered (get_or heads 0 0 + 1) ws) h.field.1 in
      record {
        placed = placed-if (p.stood + 1 == p.setup.domains * p.setup.slots) (record p { stood = 0; stage = stages.Pair }) (record p { stood = p.stood + 1 }) (number + 1) heads e2
            (λ t. record { root = omega arith; field = h.field })
            (λ t. subst (λ (s : Stage). IsPlaced s (number + 1) heads e2) (sym e) (record { root = (omega arith, h.root.1); field = h.field }));
        words =
            ap (λ (ws : Words). ws ++ (words_below heads d.cells (length d.cells) ++ numbered (get_or heads (length d.cells) 0 + 1) d.fields)) (numbered-at (10 + length d.holders + length d.births) d.roots n number (omega arith))
            ∙ ap (λ (ws : Words). (numbered (10 + length d.holders + length d.births) d.roots ++ (number, n) ∷ []) ++ ws) rest
            ∙ no-words (numbered (10 + length d.holders + length d.births) d.roots ++ (number, n) ∷ [])
            ∙ ap (λ (ws : Words). ws ++ (number, n) ∷ []) (sym (ap (λ (ws : Words). numbered (10 + length d.holders + length d.births) d.roots ++ ws) rest ∙ no-words (numbered (10 + length d.holders + length d.births) d.roots)));
      }

  abbrev head-draft : ImageDraft
  head-draft = record d { born = d.born ++ birth_bits n ∷ []; head = head_of_bits n }

  abbrev head-progress : Progress
  head-progress = record p { fields = n % 128; stage = stages.Field }

  step-head-by : (t : Bool) → IsPlaced stages.Head number heads d
      → IsPlaced (let x : Progress = if t then object_ended head-progress else head-progress in x.stage) (number + 1) (heads ++ number ∷ []) (let y : ImageDraft = if t then finished_object head-draft else head-draft in y)
      × (draft_words (heads ++ number ∷ []) (let y : ImageDraft = if t then finished_object head-draft else head-draft in y) ≡ draft_words heads d ++ [])
  step-head-by true h =
      let c : CellList = record { address = d.progress.address; head = head_of_bits n; fields = d.fields } in
      let long = longer d.cells c in
      let more = pushed heads number in
      let count = h.field.0 in
      let at = h.root in (
        placed-object head-progress (number + 1) (heads ++ number ∷ []) (finished_object head-draft) (record { root = omega arith; count = omega arith; none = refl }),
        ap (λ (ws : Words). numbered (10 + length d.holders + length d.births) d.roots ++ (ws ++ [])) (words-one (heads ++ number ∷ []) d.cells c
            ∙ ap₂ (λ (ws : Words) (fs : List ℕ). ws ++ numbered (get_or (heads ++ number ∷ []) (length d.cells) 0 + 1) fs) (words-heads heads number d.cells (length d.cells) (omega arith)) h.field.1)
            ∙ ap (λ (ws : Words). numbered (10 + length d.holders + length d.births) d.roots ++ ws) (no-words (words_below heads d.cells (length d.cells) ++ []))
            ∙ ap (λ (fs : List ℕ). numbered (10 + length d.holders + length d.births) d.roots ++ (words_below heads d.cells (length d.cells) ++ numbered (get_or heads (length d.cells) 0 + 1) fs)) (sym h.field.1)
            ∙ sym (no-words (draft_words heads d)),
      )
  step-head-by false h =
      let more = pushed heads number in
      let count = h.field.0 in
      let at = h.root in
      let none = ap length h.field.1 in
      let here = get_or_push heads number 0 (length d.cells) h.field.0 in (
        record { root = omega arith; field = (omega arith, omega arith) },
        ap₂ (λ (ws : Words) (fs : List ℕ). numbered (10 + length d.holders + length d.births) d.roots ++ (ws ++ numbered (get_or (heads ++ number ∷ []) (length d.cells) 0 + 1) fs)) (words-heads heads number d.cells (length d.cells) (omega arith)) h.field.1
            ∙ ap (λ (fs : List ℕ). numbered (10 + length d.holders + length d.births) d.roots ++ (words_below heads d.cells (length d.cells) ++ numbered (get_or heads (length d.cells) 0 + 1) fs)) (sym h.field.1)
            ∙ sym (no-words (draft_words heads d)),
      )

  step-head : IsPlaced stages.Head number heads d → Step stages.Head p number heads d n
  step-head h = (let r = step-head-by (n % 128 == 0) h in record { placed = r.0; words = r.1 })

  abbrev field-draft : ImageDraft
  field-draft = record d { fields = d.fields ++ n ∷ [] }

  abbrev field-progress : Progress
  field-progress = record p { fields = p.fields - 1 }

  step-field-by : (t : Bool) → p.stage ≡ stages.Field → IsPlaced stages.Field number heads d
      → IsPlaced (let x : Progress = if t then object_ended field-progress else field-progress in x.stage) (number + 1) heads (let y : ImageDraft = if t then finished_object field-draft else field-draft in y)
      × (draft_words heads (let y : ImageDraft = if t then finished_object field-draft else field-draft in y) ≡ draft_words heads d ++ (number, n) ∷ [])
  step-field-by true e h =
      let c : CellList = record { address = d.progress.address; head = d.head; fields = d.fields ++ n ∷ [] } in
      let long = longer d.cells c in
      let count = h.field.0 in
      let at = h.root in (
        placed-object field-progress (number + 1) heads (finished_object field-draft) (record { root = omega arith; count = omega arith; none = refl }),
        ap (λ (ws : Words). numbered (10 + length d.holders + length d.births) d.roots ++ ws) (no-words (words_below heads (d.cells ++ c ∷ []) (length (d.cells ++ c ∷ []))) ∙ words-one heads d.cells c
            ∙ ap (λ (ws : Words). words_below heads d.cells (length d.cells) ++ ws) (numbered-at (get_or heads (length d.cells) 0 + 1) d.fields n number h.field.1))
            ∙ end-word (numbered (10 + length d.holders + length d.births) d.roots) (words_below heads d.cells (length d.cells)) (numbered (get_or heads (length d.cells) 0 + 1) d.fields) ((number, n) ∷ []),
      )
  step-field-by false e h =
      let more = pushed d.fields n in
      let at = h.root in
      let here = h.field.1 in (
        subst (λ (s : Stage). IsPlaced s (number + 1) heads field-draft) (sym e) (record { root = omega arith; field = (h.field.0, omega arith) }),
        ap (λ (ws : Words). numbered (10 + length d.holders + length d.births) d.roots ++ (words_below heads d.cells (length d.cells) ++ ws)) (numbered-at (get_or heads (length d.cells) 0 + 1) d.fields n number h.field.1)
            ∙ end-word (numbered (10 + length d.holders + length d.births) d.roots) (words_below heads d.cells (length d.cells)) (numbered (get_or heads (length d.cells) 0 + 1) d.fields) ((number, n) ∷ []),
      )

  last-field : p.fields ≡ d.progress.fields → 0 < p.fields → (p.fields - 1 == 0) ≡ (d.progress.fields == 1)
  last-field same some = elim (cases_Bool (d.progress.fields == 1)) [
    | inl is ↦ (let one = eqb-true d.progress.fields 1 is in eq-eqb (p.fields - 1) 0 (omega arith) ∙ sym is)
    | inr isnt ↦ (ne_eqb (p.fields - 1) 0 (λ e. absurd (let one : d.progress.fields ≡ 1 = omega arith in let c : true ≡ false = sym (eq-eqb d.progress.fields 1 one) ∙ isnt in cc)) ∙ sym isnt)
  ]

  step-field : p.stage ≡ stages.Field → p.fields ≡ d.progress.fields → 0 < p.fields → IsPlaced stages.Field number heads d → Step stages.Field p number heads d n
  step-field e same some h =
      let r = step-field-by (p.fields - 1 == 0) e h in
      let test = last-field same some in
      record {
        placed = subst (λ (t : Bool). IsPlaced (advanced_at stages.Field p n).stage (number + 1) heads (let y : ImageDraft = if t then finished_object field-draft else field-draft in y)) test r.0;
        words = subst (λ (t : Bool). draft_words heads (let y : ImageDraft = if t then finished_object field-draft else field-draft in y) ≡ draft_words heads d ++ (number, n) ∷ []) test r.1;
      }

  step-holder : p.stage ≡ stages.Holder → IsPlaced stages.Holder number heads d → Step stages.Holder p number heads d n
  step-holder e h =
      let e2 : ImageDraft = record d { holders = d.holders ++ numbered_holder d.progress.setup.lanes n ∷ [] } in
      let more = pushed d.holders (numbered_holder d.progress.setup.lanes n) in
      let at = h.root.0 in
      record {
        placed = placed-if (p.stood + 1 == p.setup.domains) (record p { stood = 0; stage = stages.Birth }) (record p { stood = p.stood + 1 }) (number + 1) heads e2
            (λ t. record { root = (omega arith, h.root.1, h.root.2); field = h.field })
            (λ t. subst (λ (s : Stage). IsPlaced s (number + 1) heads e2) (sym e) (record { root = (omega arith, h.root.1, h.root.2); field = h.field }));
        words = unrooted heads d e2 h.root.2 h.root.2 refl refl;
      }

  step-birth : p.stage ≡ stages.Birth → IsPlaced stages.Birth number heads d → Step stages.Birth p number heads d n
  step-birth e h =
      let e2 : ImageDraft = record d { births = d.births ++ n ∷ [] } in
      let more = pushed d.births n in
      let at = h.root.0 in
      record {
        placed = placed-if (p.stood + 1 == p.setup.lanes) (record p { stood = 0; stage = stages.Root }) (record p { stood = p.stood + 1 }) (number + 1) heads e2
            (λ t. record { root = (omega arith, h.root.1); field = h.field })
            (λ t. subst (λ (s : Stage). IsPlaced s (number + 1) heads e2) (sym e) (record { root = (omega arith, h.root.1, h.root.2); field = h.field }));
        words = unrooted heads d e2 h.root.2 h.root.2 refl refl;
      }

  step-pair : IsPlaced stages.Pair number heads d → Step stages.Pair p number heads d n
  step-pair h =
      let at = h.root in
      record {
        placed = placed-if (n == 0) (superpage_ended p) (record p { class = n % 256; domain = n / 256; stage = stages.Count }) (number + 1) heads d
            (λ t. placed-ended p (p.superpage + 1 == p.setup.superpages) (number + 1) heads d (record { root = omega arith; count = h.field.0; none = h.field.1 }))
            (λ t. record { root = omega arith; field = h.field });
        words = plain stages.Pair d heads;
      }

  step : (st : Stage) → p.stage ≡ st → p.fields ≡ d.progress.fields → HasObjectLeft st p → IsPlaced st number heads d → Step st p number heads d n
  step stages.Magic e same left h = record { placed = record { root = header stages.Magic stages.Version number heads d h.root h.field refl; field = h.field }; words = plain stages.Magic d heads }
  step stages.Version e same left h = record { placed = record { root = header stages.Version stages.Lanes number heads d h.root h.field refl; field = h.field }; words = plain stages.Version d heads }
  step stages.Lanes e same left h = record { placed = record { root = header stages.Lanes stages.Domains number heads d h.root h.field refl; field = h.field }; words = plain stages.Lanes d heads }
  step stages.Domains e same left h = record { placed = record { root = header stages.Domains stages.Slots number heads d h.root h.field refl; field = h.field }; words = plain stages.Domains d heads }
  step stages.Slots e same left h = record { placed = record { root = header stages.Slots stages.Superpages number heads d h.root h.field refl; field = h.field }; words = plain stages.Slots d heads }
  step stages.Superpages e same left h = record { placed = record { root = header stages.Superpages stages.Nursery number heads d h.root h.field refl; field = h.field }; words = plain stages.Superpages d heads }
  step stages.Nursery e same left h = record { placed = record { root = header stages.Nursery stages.Buffer number heads d h.root h.field refl; field = h.field }; words = plain stages.Nursery d heads }
  step stages.Buffer e same left h = record { placed = record { root = header stages.Buffer stages.Frames number heads d h.root h.field refl; field = h.field }; words = plain stages.Buffer d heads }
  step stages.Frames e same left h = record { placed = record { root = header stages.Frames stages.Phases number heads d h.root h.field refl; field = h.field }; words = plain stages.Frames d heads }
  step stages.Phases e same left h = record { placed = record { root = header stages.Phases stages.Holder number heads d h.root h.field refl; field = h.field }; words = plain stages.Phases d heads }
  step stages.Holder e same left h = step-holder e h
  step stages.Birth e same left h = step-birth e h
  step stages.Root e same left h = step-root e h
  step stages.Pair e same left h = step-pair h
  step stages.Count e same left h = record { placed = record { root = (let at = h.root in omega arith); field = h.field }; words = plain stages.Count d heads }
  step stages.Address e same left h = record { placed = record { root = (let at = h.root in omega arith); field = h.field }; words = plain stages.Address d heads }
  step stages.Head e same left h = step-head h
  step stages.Field e same left h = step-field e same left.1 h
  step stages.Finished e same left h = record { placed = subst (λ (s : Stage). IsPlaced s (number + 1) heads d) (sym e) (record { root = (let at = h.root in omega arith); field = h.field }); words = plain stages.Finished d heads }

-- the step of the reader
pub record Stepped (number : ℕ) (heads : List ℕ) (d : ImageDraft) (n : ℕ) : Type 0 where
  pub placed : IsPlaced (put d n).progress.stage (number + 1) (heads_with d.progress.stage heads number) (put d n)
  pub words : draft_words (heads_with d.progress.stage heads number) (put d n) ≡ draft_words heads d ++ word_at d.progress.stage number n

placed-with : (st : Stage) (number : ℕ) (heads : List ℕ) (d : ImageDraft) (q : Progress) → IsPlaced st number heads d → IsPlaced st number heads (record d { progress = q })
placed-with stages.Magic number heads d q h = record { root = h.root; field = h.field }
placed-with stages.Version number heads d q h = record { root = h.root; field = h.field }
placed-with stages.Lanes number heads d q h = record { root = h.root; field = h.field }
placed-with stages.Domains number heads d q h = record { root = h.root; field = h.field }
placed-with stages.Slots number heads d q h = record { root = h.root; field = h.field }
placed-with stages.Superpages number heads d q h = record { root = h.root; field = h.field }
placed-with stages.Nursery number heads d q h = record { root = h.root; field = h.field }
placed-with stages.Buffer number heads d q h = record { root = h.root; field = h.field }
placed-with stages.Frames number heads d q h = record { root = h.root; field = h.field }
placed-with stages.Phases number heads d q h = record { root = h.root; field = h.field }
placed-with stages.Holder number heads d q h = record { root = h.root; field = h.field }
placed-with stages.Birth number heads d q h = record { root = h.root; field = h.field }
placed-with stages.Root number heads d q h = record { root = h.root; field = h.field }
placed-with stages.Pair number heads d q h = record { root = h.root; field = h.field }
placed-with stages.Count number heads d q h = record { root = h.root; field = h.field }
placed-with stages.Address number heads d q h = record { root = h.root; field = h.field }
placed-with stages.Head number heads d q h = record { root = h.root; field = h.field }
placed-with stages.Field number heads d q h = record { root = h.root; field = h.field }
placed-with stages.Finished number heads d q h = record { root = h.root; field = h.field }

pub put-step : (number : ℕ) (heads : List ℕ) (d : ImageDraft) (n : ℕ) → HasObjectLeft d.progress.stage d.progress → IsPlaced d.progress.stage number heads d → Stepped number heads d n
unfolding put advanced
put-step number heads d n left h =
    let s = step d.progress number heads d n d.progress.stage refl refl left h in
    record {
      placed = placed-with (advanced_at d.progress.stage d.progress n).stage (number + 1) (heads_with d.progress.stage heads number) (put_at d.progress.stage d n) (advanced_at d.progress.stage d.progress n) s.placed;
      words = s.words;
    }

pub empty-placed : IsPlaced stages.Magic 0 [] empty_draft
empty-placed = record { root = (refl, refl, refl); field = (refl, refl) }

-- at the end all numbers before the root words were read
pub placed-few : (number : ℕ) (heads : List ℕ) (d : ImageDraft) → IsPlaced stages.Finished number heads d → 10 + length d.holders + length d.births ≤ number
placed-few number heads d h = (let r = h.root in omega arith)
