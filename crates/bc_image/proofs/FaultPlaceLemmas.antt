-- Where a fault lies.
use Rattle.std.proofs.Common.{◌≡◌, ◌⊎◌, ℕ, ◌+◌, ◌*◌, ◌/◌, ◌<◌, ◌≤◌, Bool, true, false, if◌then◌else◌, List, [], ◌∷◌, ◌++◌, length, get_or, take, Option, Some, None, Result, Ok, Err, refl, sym, ◌∙◌, ap, subst, inl, inr, arith}
use Prim.Native.Nat.{zero, suc}
use Rattle.std.specs.List.{AllByRecursion}
use Rattle.std.proofs.lemmas.Bool.{cases_Bool}
use Rattle.std.proofs.lemmas.List.{get_or-take, get_or_append_left, length-append, length-take-le}
use Rattle.bc_word.specs.Words.{word_of_bits}
use Rattle.bc_image.specs.Bytes.{item_at}
use Rattle.bc_image.specs.Cells.{CellList}
use Rattle.bc_image.specs.Drafts.{ImageDraft, empty_draft, judged, put, is_twice_at}
use Rattle.bc_image.specs.FaultPlaces.{LiesAtItem, LeadsNowhere}
use Rattle.bc_image.specs.Faults.{leads_nowhere, linking, fault_of, IsFault}
use Rattle.bc_image.specs.Images.{IsLinked}
use Rattle.bc_image.specs.Items.{is_finished, passes, cause_of, advanced, first_progress}
use Rattle.bc_image.specs.Numbered.{word_at, words_from, first_lost}
use Rattle.bc_image.specs.Reading.{fault_at, go_on, reading, items_of_all}
use Rattle.bc_image.specs.declared.fault.ImageCause.{ImageCause}
use Rattle.bc_image.specs.declared.fault.ImageCause.TheVariants as causes
use Rattle.bc_image.specs.declared.fault.ImageFault.{ImageFault}
use Rattle.bc_image.specs.declared.progress.Progress.{Progress}
use Rattle.bc_image.specs.declared.progress.Stage.{Stage}
use Rattle.bc_image.specs.declared.progress.Stage.TheVariants as stages
use Rattle.bc_image.proofs.Grammar.{linked-from, linked-leads}
use Rattle.bc_image.proofs.PlaceLemmas.{linking-words}
use Rattle.bc_image.proofs.ReadLemmas.{reading-finished, reading-next, reading-short}

abbrev Outcome : Type 0
Outcome = Result (ImageDraft × ℕ) ImageFault

err-same : (f g : ImageFault) → (let x : Outcome = Err f in x) ≡ Err g → f ≡ g
err-same f g h = ap pick h
  where
    pick : Outcome → ImageFault
    pick (Ok x) = f
    pick (Err e) = e

-- ---- what an item may be judged

abbrev IsOfItem : ImageCause → Type 0
IsOfItem c = (c ≡ causes.Short → ⊥) × (c ≡ causes.Link → ⊥)

range-is : IsOfItem causes.Range
range-is = (λ e. absurd (cc), λ e. absurd (cc))

cause-is : (st : Stage) → IsOfItem (cause_of st)
cause-is stages.Magic = (λ e. absurd (cc), λ e. absurd (cc))
cause-is stages.Address = (λ e. absurd (cc), λ e. absurd (cc))
cause-is stages.Head = (λ e. absurd (cc), λ e. absurd (cc))
cause-is stages.Version = range-is
cause-is stages.Lanes = range-is
cause-is stages.Domains = range-is
cause-is stages.Slots = range-is
cause-is stages.Superpages = range-is
cause-is stages.Nursery = range-is
cause-is stages.Buffer = range-is
cause-is stages.Frames = range-is
cause-is stages.Phases = range-is
cause-is stages.Holder = range-is
cause-is stages.Birth = range-is
cause-is stages.Root = range-is
cause-is stages.Pair = range-is
cause-is stages.Count = range-is
cause-is stages.Field = range-is
cause-is stages.Finished = range-is

judged-is : (d : ImageDraft) (n : ℕ) (c : ImageCause) → judged d n ≡ Some c → IsOfItem c
unfolding judged
judged-is d n c h = by (passes d.progress d.births n) (is_twice_at d.progress.stage d n) h
  where
    by : (t u : Bool) → (if t then (if u then Some causes.Twice else None) else Some (cause_of d.progress.stage)) ≡ Some c → IsOfItem c
    by true true e = (let same : causes.Twice ≡ c = cc in subst IsOfItem same (λ q. absurd (cc), λ q. absurd (cc)))
    by true false e = absurd (let k : None ≡ Some c = e in cc)
    by false u e = (let same : cause_of d.progress.stage ≡ c = cc in subst IsOfItem same (cause-is d.progress.stage))

-- ---- where a reading ends

-- the place is that of an item from this one on, and it is the last one's end just where the cause is Short
pub record Faulty (number left : ℕ) (f : ImageFault) : Type 0 where
  pub item : ℕ
  pub at : f.at ≡ 8 * item
  pub from : number ≤ item
  pub not_link : f.cause ≡ causes.Link → ⊥
  pub place : ((item ≡ number + left) × (f.cause ≡ causes.Short)) ⊎ ((item < number + left) × (f.cause ≡ causes.Short → ⊥))

abbrev Ends : ℕ → ℕ → Outcome → Type 0
Ends number left (Ok x) = x.1 ≤ number + left
Ends number left (Err f) = Faulty number left f

ends-later : (number left : ℕ) (r : Outcome) → Ends (number + 1) left r → Ends number (suc left) r
ends-later number left (Ok x) h = omega arith
ends-later number left (Err f) h = record {
  item = h.item;
  at = h.at;
  from = (let q = h.from in omega arith);
  not_link = h.not_link;
  place = elim h.place [
    | inl p ↦ inl (let q = p.0 in omega arith, p.1)
    | inr p ↦ inr (let q = p.0 in omega arith, p.1)
  ];
}

ends-on : (number left : ℕ) (o : Option ImageCause) (r : Outcome) → ((c : ImageCause) → o ≡ Some c → IsOfItem c) → Ends (number + 1) left r → Ends number (suc left) (go_on number o r)
ends-on number left None r of_item h = ends-later number left r h
ends-on number left (Some c) r of_item h = record { item = number; at = refl; from = omega arith; not_link = (of_item c refl).1; place = inr (omega arith, (of_item c refl).0) }

reading-ends : (bytes : List ℕ) (left : ℕ) (d : ImageDraft) (number : ℕ) → Ends number left (reading bytes d number left)
reading-ends bytes zero d number = elim (cases_Bool (is_finished d.progress.stage)) [
  | inl is ↦ subst (Ends number zero) (sym (reading-finished bytes d number zero is)) (omega arith)
  | inr isnt ↦ subst (Ends number zero) (sym (reading-short bytes d number isnt)) (record { item = number; at = refl; from = omega arith; not_link = λ e. absurd (cc); place = inl (omega arith, refl) })
]
reading-ends bytes (suc left) d number = elim (cases_Bool (is_finished d.progress.stage)) [
  | inl is ↦ subst (Ends number (suc left)) (sym (reading-finished bytes d number (suc left) is)) (omega arith)
  | inr isnt ↦
      let n : ℕ = item_at bytes number in
      subst (Ends number (suc left)) (sym (reading-next bytes d number left isnt))
      (ends-on number left (judged d n) (reading bytes (put d n) (number + 1) left) (judged-is d n) (reading-ends bytes left (put d n) (number + 1)))
]

-- ---- the items before a place alone

-- the reading came as far as the item of this number
abbrev Reaches : Outcome → ℕ → Type 0
Reaches (Ok x) n = n < x.1
Reaches (Err f) n = 8 * n ≤ f.at

-- the items below a number are the same
abbrev AreAlike : List ℕ → List ℕ → ℕ → Type 0
AreAlike bytes others end = (k : ℕ) → k < end → item_at others k ≡ item_at bytes k

reading-short-there : (bytes others : List ℕ) (ahead left : ℕ) (d : ImageDraft) (number : ℕ) → AreAlike bytes others (number + ahead) → Reaches (reading bytes d number left) (number + ahead) → reading others d number ahead ≡ Err (fault_at (number + ahead) causes.Short)
reading-short-there bytes others zero left d number alike far = elim (cases_Bool (is_finished d.progress.stage)) [
  | inl is ↦ absurd (let q : number + zero < number = subst (λ r. Reaches r (number + zero)) (reading-finished bytes d number left is) far in omega arith)
  | inr isnt ↦ reading-short others d number isnt ∙ ap (λ (k : ℕ). Err (fault_at k causes.Short)) (let e : number ≡ number + zero = omega arith in e)
]
reading-short-there bytes others (suc ahead) zero d number alike far = elim (cases_Bool (is_finished d.progress.stage)) [
  | inl is ↦ absurd (let q : number + suc ahead < number = subst (λ r. Reaches r (number + suc ahead)) (reading-finished bytes d number zero is) far in omega arith)
  | inr isnt ↦ absurd (let q : 8 * (number + suc ahead) ≤ 8 * number = subst (λ r. Reaches r (number + suc ahead)) (reading-short bytes d number isnt) far in omega arith)
]
reading-short-there bytes others (suc ahead) (suc left) d number alike far = elim (cases_Bool (is_finished d.progress.stage)) [
  | inl is ↦ absurd (let q : number + suc ahead < number = subst (λ r. Reaches r (number + suc ahead)) (reading-finished bytes d number (suc left) is) far in omega arith)
  | inr isnt ↦
      let n : ℕ = item_at bytes number in
      let same : item_at others number ≡ n = alike number (omega arith) in
      let sum : number + 1 + ahead ≡ number + suc ahead = omega arith in
      let on = by (judged d n) (reading bytes (put d n) (number + 1) left) (subst (λ r. Reaches r (number + suc ahead)) (reading-next bytes d number left isnt) far) in
      let rest = reading-short-there bytes others ahead left (put d n) (number + 1) (λ k lt. alike k (omega arith)) (subst (Reaches (reading bytes (put d n) (number + 1) left)) (sym sum) on.1) in
      reading-next others d number ahead isnt
      ∙ ap (λ (m : ℕ). go_on number (judged d m) (reading others (put d m) (number + 1) ahead)) same
      ∙ ap (λ (o : Option ImageCause). go_on number o (reading others (put d n) (number + 1) ahead)) on.0
      ∙ rest ∙ ap (λ (k : ℕ). Err (fault_at k causes.Short)) sum
]
  where
    by : (o : Option ImageCause) (r : Outcome) → Reaches (go_on number o r) (number + suc ahead) → (o ≡ None) × Reaches r (number + suc ahead)
    by None r h = (refl, h)
    by (Some c) r h = absurd (let q : 8 * (number + suc ahead) ≤ 8 * number = h in omega arith)

-- ---- the fault stays whatever follows it

reading-stays : (bytes others : List ℕ) (f : ImageFault) → (f.cause ≡ causes.Short → ⊥) → ((k : ℕ) → 8 * k ≤ f.at → item_at others k ≡ item_at bytes k)
    → (more left : ℕ) (d : ImageDraft) (number : ℕ) → f.at < 8 * (number + more) → reading bytes d number left ≡ Err f → reading others d number more ≡ Err f
reading-stays bytes others f long alike zero left d number lt h =
    let is : Faulty number left f = subst (Ends number left) h (reading-ends bytes left d number) in
    absurd (let a = is.at in let b = is.from in omega arith)
reading-stays bytes others f long alike (suc more) zero d number lt h = elim (cases_Bool (is_finished d.progress.stage)) [
  | inl is ↦ absurd (let k : Ok (d, number) ≡ Err f = sym (reading-finished bytes d number zero is) ∙ h in cc)
  | inr isnt ↦ absurd (long (sym (ap (λ (x : ImageFault). x.cause) (err-same (fault_at number causes.Short) f (sym (reading-short bytes d number isnt) ∙ h)))))
]
reading-stays bytes others f long alike (suc more) (suc left) d number lt h = elim (cases_Bool (is_finished d.progress.stage)) [
  | inl is ↦ absurd (let k : Ok (d, number) ≡ Err f = sym (reading-finished bytes d number (suc left) is) ∙ h in cc)
  | inr isnt ↦
      let whole : Faulty number (suc left) f = subst (Ends number (suc left)) h (reading-ends bytes (suc left) d number) in
      let n : ℕ = item_at bytes number in
      let same : item_at others number ≡ n = alike number (let a = whole.at in let b = whole.from in omega arith) in
      reading-next others d number more isnt
      ∙ ap (λ (m : ℕ). go_on number (judged d m) (reading others (put d m) (number + 1) more)) same
      ∙ by (judged d n) (reading bytes (put d n) (number + 1) left) (reading others (put d n) (number + 1) more) (sym (reading-next bytes d number left isnt) ∙ h) (reading-stays bytes others f long alike more left (put d n) (number + 1) (omega arith))
]
  where
    by : (o : Option ImageCause) (r s : Outcome) → go_on number o r ≡ Err f → (r ≡ Err f → s ≡ Err f) → go_on number o s ≡ Err f
    by None r s e go = go e
    by (Some c) r s e go = e

-- ---- words that lead nowhere

record Split (cells : List CellList) (ws : List (ℕ × ℕ)) (n : ℕ) : Type 0 where
  word : ℕ
  front : List (ℕ × ℕ)
  behind : List (ℕ × ℕ)
  words : ws ≡ front ++ (n, word) ∷ behind
  lost : leads_nowhere cells (word_of_bits word) ≡ true
  earlier : AllByRecursion (λ (w : ℕ × ℕ). IsLinked cells (word_of_bits w.1)) front

split : (cells : List CellList) (ws : List (ℕ × ℕ)) (n : ℕ) → first_lost cells ws ≡ Some n → Split cells ws n
split cells [] n h = absurd (let k : None ≡ Some n = h in cc)
split cells (w ∷ ws) n h = elim (cases_Bool (leads_nowhere cells (word_of_bits w.1))) [
  | inl is ↦
      let same : w.0 ≡ n = (let k : Some w.0 ≡ Some n = sym (ap (λ (t : Bool). if t then Some w.0 else first_lost cells ws) is) ∙ h in cc) in
      record { word = w.1; front = []; behind = ws; words = ap (λ (k : ℕ). (k, w.1) ∷ ws) same; lost = is; earlier = tt }
  | inr isnt ↦
      let r = split cells ws n (sym (ap (λ (t : Bool). if t then Some w.0 else first_lost cells ws) isnt) ∙ h) in
      record { word = r.word; front = w ∷ r.front; behind = r.behind; words = ap (λ (xs : List (ℕ × ℕ)). w ∷ xs) r.words; lost = r.lost; earlier = (linked-from cells (word_of_bits w.1) isnt, r.earlier) }
]

-- each word is an item of those that were read
abbrev IsItemBelow : List ℕ → ℕ → ℕ × ℕ → Type 0
IsItemBelow bytes end w = (w.1 ≡ item_at bytes w.0) × (w.0 < end)

words-items : (bytes : List ℕ) (end left : ℕ) (p : Progress) (number : ℕ) → number + left ≤ end → AllByRecursion (IsItemBelow bytes end) (words_from bytes p number left)
unfolding words_from
words-items bytes end zero p number le = tt
words-items bytes end (suc left) p number le = by p.stage (words-items bytes end left (advanced p n) (number + 1) (omega arith))
  where
    n : ℕ
    n = item_at bytes number

    rest : List (ℕ × ℕ)
    rest = words_from bytes (advanced p n) (number + 1) left

    by : (st : Stage) → AllByRecursion (IsItemBelow bytes end) rest → AllByRecursion (IsItemBelow bytes end) (word_at st number n ++ rest)
    by stages.Root h = ((refl, omega arith), h)
    by stages.Field h = ((refl, omega arith), h)
    by stages.Magic h = h
    by stages.Version h = h
    by stages.Lanes h = h
    by stages.Domains h = h
    by stages.Slots h = h
    by stages.Superpages h = h
    by stages.Nursery h = h
    by stages.Buffer h = h
    by stages.Frames h = h
    by stages.Phases h = h
    by stages.Holder h = h
    by stages.Birth h = h
    by stages.Pair h = h
    by stages.Count h = h
    by stages.Address h = h
    by stages.Head h = h
    by stages.Finished h = h

all-middle : (P : ℕ × ℕ → Type 0) (front : List (ℕ × ℕ)) (w : ℕ × ℕ) (behind : List (ℕ × ℕ)) → AllByRecursion P (front ++ w ∷ behind) → P w
all-middle P [] w behind h = h.0
all-middle P (x ∷ xs) w behind h = all-middle P xs w behind h.1

-- ---- the fault

record HasLink (bytes : List ℕ) (f : ImageFault) : Type 0 where
  draft : ImageDraft
  count : ℕ
  passed : items_of_all bytes ≡ Ok (draft, count)
  number : ℕ
  is : f ≡ fault_at number causes.Link
  below : number < count
  within : count ≤ length bytes / 8
  parts : Split draft.cells (words_from bytes first_progress 0 count) number
  word : parts.word ≡ item_at bytes number

has-link : (bytes : List ℕ) (f : ImageFault) (d : ImageDraft) (count number : ℕ) → items_of_all bytes ≡ Ok (d, count) → f ≡ fault_at number causes.Link → linking bytes d.cells first_progress 0 count ≡ Some number → HasLink bytes f
has-link bytes f d count number e is links =
    let ws : List (ℕ × ℕ) = words_from bytes first_progress 0 count in
    let parts : Split d.cells ws number = split d.cells ws number (sym (linking-words bytes d.cells count first_progress 0) ∙ links) in
    let item : IsItemBelow bytes count (number, parts.word) =
    all-middle (IsItemBelow bytes count) parts.front (number, parts.word) parts.behind (subst (AllByRecursion (IsItemBelow bytes count)) parts.words (words-items bytes count count first_progress 0 (omega arith))) in
    let end : count ≤ 0 + length bytes / 8 = subst (Ends 0 (length bytes / 8)) e (reading-ends bytes (length bytes / 8) empty_draft 0) in
    record { draft = d; count = count; passed = e; number = number; is = is; below = item.1; within = omega arith; parts = parts; word = item.0 }

-- a fault is that of the first item that fails, or that of a word
which-fault : (bytes : List ℕ) (f : ImageFault) → IsFault bytes f → (items_of_all bytes ≡ Err f) ⊎ HasLink bytes f
which-fault bytes f is = by (items_of_all bytes) refl
  where
    by : (r : Outcome) → items_of_all bytes ≡ r → (items_of_all bytes ≡ Err f) ⊎ HasLink bytes f
    by (Err g) e =
        let same : g ≡ f = (let k : Some g ≡ Some f = sym (ap (fault_of bytes) e) ∙ is in cc) in
        inl (e ∙ ap (λ (x : ImageFault). Err x) same)
    by (Ok x) e = found (linking bytes x.0.cells first_progress 0 x.1) refl
      where
        found : (o : Option ℕ) → linking bytes x.0.cells first_progress 0 x.1 ≡ o → (items_of_all bytes ≡ Err f) ⊎ HasLink bytes f
        found None links = absurd (let none : fault_of bytes (items_of_all bytes) ≡ None = rw (e) (rw (links) refl) in let k : None ≡ Some f = sym none ∙ is in cc)
        found (Some n) links =
            let some : fault_of bytes (items_of_all bytes) ≡ Some (fault_at n causes.Link) = rw (e) (rw (links) refl) in
            let same : f ≡ fault_at n causes.Link = (let k : Some f ≡ Some (fault_at n causes.Link) = sym is ∙ some in cc) in
            inr (has-link bytes f x.0 x.1 n e same links)

err-ends : (bytes : List ℕ) (f : ImageFault) → items_of_all bytes ≡ Err f → Faulty 0 (length bytes / 8) f
err-ends bytes f e = subst (Ends 0 (length bytes / 8)) e (reading-ends bytes (length bytes / 8) empty_draft 0)

pub lies-at : (bytes : List ℕ) (f : ImageFault) → IsFault bytes f → LiesAtItem bytes f
lies-at bytes f is = elim (which-fault bytes f is) [
  | inl e ↦ (let h = err-ends bytes f e in of h.item h.at h.place)
  | inr h ↦
      let at : f.at ≡ 8 * h.number = ap (λ (x : ImageFault). x.at) h.is in
      let cause : f.cause ≡ causes.Link = ap (λ (x : ImageFault). x.cause) h.is in
      let lt = h.below in
      let le = h.within in
      record { number = h.number; at = at; within = omega arith; short = λ e. absurd (let k : causes.Link ≡ causes.Short = sym cause ∙ e in cc); whole = λ _. omega arith }
]
  where
    of : (item : ℕ) → f.at ≡ 8 * item → ((item ≡ 0 + length bytes / 8) × (f.cause ≡ causes.Short)) ⊎ ((item < 0 + length bytes / 8) × (f.cause ≡ causes.Short → ⊥)) → LiesAtItem bytes f
    of item at (inl p) = (let q = p.0 in record { number = item; at = at; within = omega arith; short = λ _. omega arith; whole = λ long. absurd (long p.1) })
    of item at (inr p) = (let q = p.0 in record { number = item; at = at; within = omega arith; short = λ e. absurd (p.1 e); whole = λ _. omega arith })

-- items are alike where their bytes are
items-alike : (bytes others : List ℕ) (end k : ℕ) → ((i : ℕ) → i < end → get_or others i 0 ≡ get_or bytes i 0) → 8 * k + 8 ≤ end → item_at others k ≡ item_at bytes k
unfolding item_at
items-alike bytes others end k same le =
    let at : ℕ = 8 * k in
    rw (same at (omega arith), same (at + 1) (omega arith), same (at + 2) (omega arith), same (at + 3) (omega arith), same (at + 4) (omega arith), same (at + 5) (omega arith), same (at + 6) (omega arith), same (at + 7) (omega arith)) refl

reaches : (bytes : List ℕ) (f : ImageFault) (n : ℕ) → f.at ≡ 8 * n → IsFault bytes f → Reaches (items_of_all bytes) n
reaches bytes f n at is = elim (which-fault bytes f is) [
  | inl e ↦ subst (λ r. Reaches r n) (sym e) (let le : 8 * n ≤ f.at = omega arith in le)
  | inr h ↦ (let here : f.at ≡ 8 * h.number = ap (λ (x : ImageFault). x.at) h.is in let b = h.below in subst (λ r. Reaches r n) (sym h.passed) (let lt : n < h.count = omega arith in lt))
]

pub only-short : (bytes : List ℕ) (f : ImageFault) → IsFault bytes f → IsFault (take f.at bytes) (record { at = f.at; cause = causes.Short })
only-short bytes f is =
    let place = lies-at bytes f is in
    let n : ℕ = place.number in
    let at : f.at ≡ 8 * n = place.at in
    let others : List ℕ = take f.at bytes in
    let long : length others ≡ f.at = length-take-le f.at bytes place.within in
    let count : length others / 8 ≡ n = omega arith in
    let alike : AreAlike bytes others (0 + n) = λ k lt. items-alike bytes others f.at k (λ i below. get_or-take f.at bytes i 0 below) (omega arith) in
    let read : reading others empty_draft 0 n ≡ Err (fault_at (0 + n) causes.Short) = reading-short-there bytes others n (length bytes / 8) empty_draft 0 alike (subst (Reaches (items_of_all bytes)) (let none : n ≡ 0 + n = omega arith in none) (reaches bytes f n at is)) in
    let all : items_of_all others ≡ Err (fault_at (0 + n) causes.Short) = ap (λ (k : ℕ). reading others empty_draft 0 k) count ∙ read in
    let here : 8 * (0 + n) ≡ f.at = omega arith in
    ap (fault_of others) all ∙ ap (λ (k : ℕ). let x : ImageFault = record { at = k; cause = causes.Short } in Some x) here

pub fault-stays : (bytes more : List ℕ) (f : ImageFault) → IsFault bytes f → (f.cause ≡ causes.Short → ⊥) → (f.cause ≡ causes.Link → ⊥) → IsFault (take (f.at + 8) bytes ++ more) f
fault-stays bytes more f is long no_link = elim (which-fault bytes f is) [
  | inr h ↦ absurd (no_link (ap (λ (x : ImageFault). x.cause) h.is))
  | inl e ↦
      let place = lies-at bytes f is in
      let at : f.at ≡ 8 * place.number = place.at in
      let whole : f.at + 8 ≤ length bytes = place.whole long in
      let front : List ℕ = take (f.at + 8) bytes in
      let others : List ℕ = front ++ more in
      let size : length front ≡ f.at + 8 = length-take-le (f.at + 8) bytes whole in
      let sum : length others ≡ length front + length more = length-append front more in
      let same : (i : ℕ) → i < f.at + 8 → get_or others i 0 ≡ get_or bytes i 0 = λ i lt. get_or_append_left front more 0 i (omega arith) ∙ get_or-take (f.at + 8) bytes i 0 lt in
      let alike : (k : ℕ) → 8 * k ≤ f.at → item_at others k ≡ item_at bytes k = λ k le. items-alike bytes others (f.at + 8) k same (omega arith) in
      ap (fault_of others) (reading-stays bytes others f long alike (length others / 8) (length bytes / 8) empty_draft 0 (omega arith) e)
]

pub leads-nowhere : (bytes : List ℕ) (f : ImageFault) → IsFault bytes f → f.cause ≡ causes.Link → LeadsNowhere bytes f
leads-nowhere bytes f is link = elim (which-fault bytes f is) [
  | inl e ↦ absurd ((err-ends bytes f e).not_link link)
  | inr h ↦ record {
    draft = h.draft;
    count = h.count;
    passed = h.passed;
    number = h.number;
    at = ap (λ (x : ImageFault). x.at) h.is;
    front = h.parts.front;
    behind = h.parts.behind;
    words = h.parts.words ∙ ap (λ (w : ℕ). h.parts.front ++ (h.number, w) ∷ h.parts.behind) h.word;
    lost = λ linked. (
        let yes : leads_nowhere h.draft.cells (word_of_bits (item_at bytes h.number)) ≡ true = ap (λ (w : ℕ). leads_nowhere h.draft.cells (word_of_bits w)) (sym h.word) ∙ h.parts.lost in
        let k : true ≡ false = sym yes ∙ linked-leads h.draft.cells (word_of_bits (item_at bytes h.number)) linked in
        absurd cc
        );
    earlier = h.parts.earlier;
  }
]
