-- Runs of the reader over lists of items.
use Rattle.std.proofs.Common.{◌≡◌, ℕ, ◌+◌, ◌*◌, ◌^◌, ◌<◌, ◌≤◌, ◌&&◌, Bool, true, false, if◌then◌else◌, List, [], ◌∷◌, ◌++◌, length, w64, get_or, take, drop, length-drop, get_or-drop, ap₂, Option, Some, None, Result, Ok, Err, refl, sym, ◌∙◌, ap, subst, inl, inr, arith}
use Prim.Native.Nat.{zero, suc}
use Rattle.std.specs.Int.{bytes_high_first, from_be_bytes}
use Rattle.std.specs.List.{flat_map, AllByRecursion}
use Rattle.std.proofs.lemmas.Bool.{cases_Bool}
use Rattle.std.proofs.lemmas.List.{take-append-drop, drop-drop, append_assoc, length-append}
use Rattle.std.proofs.lemmas.Nat.{be_bytes_8, from_be_bytes-to_be_bytes_8}
use Rattle.bc_word.specs.Words.{word_of_bits}
use Rattle.bc_image.specs.Bytes.{item_at, number_from}
use Rattle.bc_image.specs.Cells.{CellList}
use Rattle.bc_image.specs.Drafts.{ImageDraft, judged, put}
use Rattle.bc_image.specs.Faults.{is_word, leads_nowhere, linking}
use Rattle.bc_image.specs.Items.{is_finished, advanced}
use Rattle.bc_image.specs.Reading.{fault_at, go_on, reading}
use Rattle.bc_image.specs.declared.fault.ImageCause.{ImageCause}
use Rattle.bc_image.specs.declared.fault.ImageCause.TheVariants as causes
use Rattle.bc_image.specs.declared.fault.ImageFault.{ImageFault}
use Rattle.bc_image.specs.declared.progress.Progress.{Progress}
use Rattle.bc_image.specs.declared.progress.Stage.{Stage}
use Rattle.bc_image.proofs.ReadLemmas.{reading-finished, reading-next}

-- an item of 64 bits that leads nowhere
pub record FitsLinked (cells : List CellList) (st : Stage) (n : ℕ) : Type 0 where
  pub small : n < 2 ^ 64
  pub leads : (is_word st && leads_nowhere cells (word_of_bits n)) ≡ false

-- the draft takes these items up, one by one, and becomes the other
abbrev pub Runs : (cells : List CellList) → ImageDraft → List ℕ → ImageDraft → Type 0
Runs cells d [] e = d ≡ e
Runs cells d (n ∷ ns) e = (is_finished d.progress.stage ≡ false) × (judged d n ≡ None) × FitsLinked cells d.progress.stage n × Runs cells (put d n) ns e

pub runs-then : (cells : List CellList) (d e f : ImageDraft) (ms ns : List ℕ) → Runs cells d ms e → Runs cells e ns f → Runs cells d (ms ++ ns) f
runs-then cells d e f [] ns g h = subst (λ x. Runs cells x ns f) (sym g) h
runs-then cells d e f (m ∷ ms) ns g h = (g.0, g.1, g.2, runs-then cells (put d m) e f ms ns g.3 h)

-- a run that goes on to the end has a next item
pub record Next (cells : List CellList) (d : ImageDraft) (items : List ℕ) (e : ImageDraft) : Type 0 where
  pub item : ℕ
  pub more : List ℕ
  pub is : items ≡ item ∷ more
  pub judgement : judged d item ≡ None
  pub fits : FitsLinked cells d.progress.stage item
  pub runs : Runs cells (put d item) more e

pub next-item : (cells : List CellList) (d : ImageDraft) (items : List ℕ) (e : ImageDraft) → is_finished d.progress.stage ≡ false → is_finished e.progress.stage ≡ true → Runs cells d items e → Next cells d items e
next-item cells d [] e isnt is run = absurd (let k : true ≡ false = sym is ∙ sym (ap (λ (x : ImageDraft). is_finished x.progress.stage) run) ∙ isnt in cc)
next-item cells d (n ∷ ns) e isnt is run = record { item = n; more = ns; is = refl; judgement = run.1; fits = run.2; runs = run.3 }

-- ---- items of bytes

abbrev pub items_from : List ℕ → ℕ → ℕ → List ℕ
items_from bytes number zero = []
items_from bytes number (suc j) = item_at bytes number ∷ items_from bytes (number + 1) j

pub items-length : (bytes : List ℕ) (number j : ℕ) → length (items_from bytes number j) ≡ j
items-length bytes number zero = refl
items-length bytes number (suc j) = ap suc (items-length bytes (number + 1) j)

-- ---- from reading to runs

pub record HasRead (bytes : List ℕ) (cells : List CellList) (d : ImageDraft) (number left : ℕ) (e : ImageDraft) (end : ℕ) : Type 0 where
  pub count : ℕ
  pub end_is : end ≡ number + count
  pub within : count ≤ left
  pub finished : is_finished e.progress.stage ≡ true
  pub runs : linking bytes cells d.progress number count ≡ None → Runs cells d (items_from bytes number count) e

pub ok-parts : (d e : ImageDraft) (j k : ℕ) → (let x : Result (ImageDraft × ℕ) ImageFault = Ok (d, j) in x) ≡ Ok (e, k) → (d ≡ e) × (j ≡ k)
ok-parts d e j k h =
    let first : Result (ImageDraft × ℕ) ImageFault → ImageDraft = λ r. pick r in
    (ap pick h, ap count h)
  where
    pick : Result (ImageDraft × ℕ) ImageFault → ImageDraft
    pick (Ok x) = x.0
    pick (Err f) = d

    count : Result (ImageDraft × ℕ) ImageFault → ℕ
    count (Ok x) = x.1
    count (Err f) = j

pub linking-first : (bytes : List ℕ) (cells : List CellList) (p : Progress) (number left : ℕ) → linking bytes cells p number (suc left) ≡ None → ((is_word p.stage && leads_nowhere cells (word_of_bits (item_at bytes number))) ≡ false) × (linking bytes cells (advanced p (item_at bytes number)) (number + 1) left ≡ None)
unfolding linking
linking-first bytes cells p number left h = by (is_word p.stage && leads_nowhere cells (word_of_bits (item_at bytes number))) (linking bytes cells (advanced p (item_at bytes number)) (number + 1) left) h
  where
    by : (t : Bool) (o : Option ℕ) → (if t then Some number else o) ≡ None → (t ≡ false) × (o ≡ None)
    by true o k = absurd (let c : Some number ≡ None = k in cc)
    by false o k = (refl, k)

pub linking-back : (bytes : List ℕ) (cells : List CellList) (p : Progress) (number left : ℕ) → (is_word p.stage && leads_nowhere cells (word_of_bits (item_at bytes number))) ≡ false → linking bytes cells (advanced p (item_at bytes number)) (number + 1) left ≡ None → linking bytes cells p number (suc left) ≡ None
unfolding linking
linking-back bytes cells p number left h k = rw h k

pub linking-none : (bytes : List ℕ) (cells : List CellList) (p : Progress) (number : ℕ) → linking bytes cells p number zero ≡ None
unfolding linking
linking-none bytes cells p number = refl

pub put-progress : (d : ImageDraft) (n : ℕ) → (put d n).progress ≡ advanced d.progress n
unfolding put
put-progress d n = refl

pub reading-zero : (bytes : List ℕ) (d : ImageDraft) (number : ℕ) → is_finished d.progress.stage ≡ false → reading bytes d number zero ≡ Err (fault_at number causes.Short)
unfolding reading
reading-zero bytes d number isnt = rw isnt refl

pub ended : (bytes : List ℕ) (cells : List CellList) (d : ImageDraft) (number left : ℕ) (e : ImageDraft) (end : ℕ) → is_finished d.progress.stage ≡ true → reading bytes d number left ≡ Ok (e, end) → HasRead bytes cells d number left e end
ended bytes cells d number left e end is h =
    let parts = ok-parts d e number end (sym (reading-finished bytes d number left is) ∙ h) in
    record { count = 0; end_is = (let q : number ≡ end = parts.1 in omega arith); within = omega arith; finished = ap (λ (x : ImageDraft). is_finished x.progress.stage) (sym parts.0) ∙ is; runs = λ _. parts.0 }

pub went-on : (number : ℕ) (o : Option ImageCause) (next : Result (ImageDraft × ℕ) ImageFault) (e : ImageDraft) (end : ℕ) → go_on number o next ≡ Ok (e, end) → (o ≡ None) × (next ≡ Ok (e, end))
went-on number None next e end h = (refl, h)
went-on number (Some c) next e end h = absurd (let k : Err (fault_at number c) ≡ Ok (e, end) = h in cc)

pub reading-runs : (bytes : List ℕ) (cells : List CellList) → ((i : ℕ) → item_at bytes i < 2 ^ 64) → (left : ℕ) (d : ImageDraft) (number : ℕ) (e : ImageDraft) (end : ℕ) → reading bytes d number left ≡ Ok (e, end) → HasRead bytes cells d number left e end
reading-runs bytes cells small zero d number e end h = elim (cases_Bool (is_finished d.progress.stage)) [
  | inl is ↦ ended bytes cells d number zero e end is h
  | inr isnt ↦ absurd (let c : Err (fault_at number causes.Short) ≡ Ok (e, end) = sym (reading-zero bytes d number isnt) ∙ h in cc)
]
reading-runs bytes cells small (suc left) d number e end h = elim (cases_Bool (is_finished d.progress.stage)) [
  | inl is ↦ ended bytes cells d number (suc left) e end is h
  | inr isnt ↦
      let n : ℕ = item_at bytes number in
      let on = went-on number (judged d n) (reading bytes (put d n) (number + 1) left) e end (sym (reading-next bytes d number left isnt) ∙ h) in
      let r = reading-runs bytes cells small left (put d n) (number + 1) e end on.1 in
      record {
        count = suc r.count;
        end_is = (let q = r.end_is in omega arith);
        within = (let q = r.within in omega arith);
        finished = r.finished;
        runs = λ none.
            let first = linking-first bytes cells d.progress number r.count none in
            (isnt, on.0, record { small = small number; leads = first.0 }, r.runs (ap (λ (p : Progress). linking bytes cells p (number + 1) r.count) (put-progress d n) ∙ first.1));
      }
]

-- and back
pub runs-reading : (bytes : List ℕ) (cells : List CellList) (count left : ℕ) (d : ImageDraft) (number : ℕ) (e : ImageDraft) → Runs cells d (items_from bytes number count) e → is_finished e.progress.stage ≡ true → count ≤ left → (reading bytes d number left ≡ Ok (e, number + count)) × (linking bytes cells d.progress number count ≡ None)
runs-reading bytes cells zero left d number e run is le =
    let off : is_finished d.progress.stage ≡ true = ap (λ (x : ImageDraft). is_finished x.progress.stage) run ∙ is in
    let same : number ≡ number + 0 = omega arith in
    (reading-finished bytes d number left off ∙ ap (λ (x : ImageDraft). Ok (x, number)) run ∙ ap (λ (k : ℕ). Ok (e, k)) same, linking-none bytes cells d.progress number)
runs-reading bytes cells (suc count) zero d number e run is le = absurd (omega arith)
runs-reading bytes cells (suc count) (suc left) d number e run is le =
    let n : ℕ = item_at bytes number in
    let r = runs-reading bytes cells count left (put d n) (number + 1) e run.3 is (omega arith) in
    let same : number + 1 + count ≡ number + suc count = omega arith in (
      reading-next bytes d number left run.0 ∙ ap (λ (o : Option ImageCause). go_on number o (reading bytes (put d n) (number + 1) left)) run.1 ∙ r.0 ∙ ap (λ (k : ℕ). Ok (e, k)) same,
      linking-back bytes cells d.progress number count run.2.leads (ap (λ (p : Progress). linking bytes cells p (number + 1) count) (sym (put-progress d n)) ∙ r.1),
    )

-- ---- bytes of items

abbrev pub bytes_of : List ℕ → List ℕ
bytes_of items = flat_map (bytes_high_first 8) items

pub bytes_of-append : (ms ns : List ℕ) → bytes_of (ms ++ ns) ≡ bytes_of ms ++ bytes_of ns
bytes_of-append [] ns = refl
bytes_of-append (m ∷ ms) ns = ap (λ (xs : List ℕ). bytes_high_first 8 m ++ xs) (bytes_of-append ms ns) ∙ sym (append_assoc (bytes_high_first 8 m) (bytes_of ms) (bytes_of ns))

pub bytes_of-length : (ms : List ℕ) → length (bytes_of ms) ≡ 8 * length ms
bytes_of-length [] = refl
bytes_of-length (m ∷ ms) = length-append (bytes_high_first 8 m) (bytes_of ms) ∙ (let e = bytes_of-length ms in omega arith)

sum-eight : (a b c d e f g h : ℕ) → a * 256 ^ 7 + b * 256 ^ 6 + c * 256 ^ 5 + d * 256 ^ 4 + e * 256 ^ 3 + f * 256 ^ 2 + g * 256 ^ 1 + h ≡ 2 ^ 56 * a + 2 ^ 48 * b + 2 ^ 40 * c + 2 ^ 32 * d + 2 ^ 24 * e + 2 ^ 16 * f + 2 ^ 8 * g + h
sum-eight a b c d e f g h = omega arith

number-is : (bytes : List ℕ) (at : ℕ) → from_be_bytes w64 (drop at bytes) ≡ number_from bytes at
number-is bytes at =
    let first : get_or bytes (at + 0) 0 ≡ get_or bytes at 0 = ap (λ (k : ℕ). get_or bytes k 0) (omega arith) in
    simp (get_or-drop, first) (sum-eight (get_or bytes at 0) (get_or bytes (at + 1) 0) (get_or bytes (at + 2) 0) (get_or bytes (at + 3) 0) (get_or bytes (at + 4) 0) (get_or bytes (at + 5) 0) (get_or bytes (at + 6) 0) (get_or bytes (at + 7) 0))

first-eight : (xs : List ℕ) → 8 ≤ length xs → ((i : ℕ) → get_or xs i 0 < 256) → bytes_high_first 8 (from_be_bytes w64 xs) ≡ take 8 xs
first-eight (a ∷ b ∷ c ∷ d ∷ e ∷ f ∷ g ∷ h ∷ xs) le small = be_bytes_8 (a ∷ b ∷ c ∷ d ∷ e ∷ f ∷ g ∷ h ∷ []) (from_be_bytes w64 (a ∷ b ∷ c ∷ d ∷ e ∷ f ∷ g ∷ h ∷ xs)) refl (eight-small a b c d e f g h (small 0) (small 1) (small 2) (small 3) (small 4) (small 5) (small 6) (small 7)) refl
  where
    eight-small : (a b c d e f g h : ℕ) → a < 256 → b < 256 → c < 256 → d < 256 → e < 256 → f < 256 → g < 256 → h < 256 → (i : ℕ) → get_or (a ∷ b ∷ c ∷ d ∷ e ∷ f ∷ g ∷ h ∷ []) i 0 < 256
    eight-small a b c d e f g h la lb lc ld le lf lg lh zero = la
    eight-small a b c d e f g h la lb lc ld le lf lg lh (suc zero) = lb
    eight-small a b c d e f g h la lb lc ld le lf lg lh (suc (suc zero)) = lc
    eight-small a b c d e f g h la lb lc ld le lf lg lh (suc (suc (suc zero))) = ld
    eight-small a b c d e f g h la lb lc ld le lf lg lh (suc (suc (suc (suc zero)))) = le
    eight-small a b c d e f g h la lb lc ld le lf lg lh (suc (suc (suc (suc (suc zero))))) = lf
    eight-small a b c d e f g h la lb lc ld le lf lg lh (suc (suc (suc (suc (suc (suc zero)))))) = lg
    eight-small a b c d e f g h la lb lc ld le lf lg lh (suc (suc (suc (suc (suc (suc (suc zero))))))) = lh
    eight-small a b c d e f g h la lb lc ld le lf lg lh (suc (suc (suc (suc (suc (suc (suc (suc i)))))))) = omega arith
first-eight [] le small = absurd (omega arith)
first-eight (a ∷ []) le small = absurd (omega arith)
first-eight (a ∷ b ∷ []) le small = absurd (omega arith)
first-eight (a ∷ b ∷ c ∷ []) le small = absurd (omega arith)
first-eight (a ∷ b ∷ c ∷ d ∷ []) le small = absurd (omega arith)
first-eight (a ∷ b ∷ c ∷ d ∷ e ∷ []) le small = absurd (omega arith)
first-eight (a ∷ b ∷ c ∷ d ∷ e ∷ f ∷ []) le small = absurd (omega arith)
first-eight (a ∷ b ∷ c ∷ d ∷ e ∷ f ∷ g ∷ []) le small = absurd (omega arith)

-- so many items from one on are spelled by the bytes from there on
pub bytes-spelled : (bytes : List ℕ) → ((i : ℕ) → get_or bytes i 0 < 256) → (count number : ℕ) → 8 * (number + count) ≤ length bytes → drop (8 * number) bytes ≡ bytes_of (items_from bytes number count) ++ drop (8 * (number + count)) bytes
unfolding item_at
bytes-spelled bytes small zero number le = ap (λ (k : ℕ). drop (8 * k) bytes) (let e : number ≡ number + 0 = omega arith in e)
bytes-spelled bytes small (suc count) number le =
    let at : ℕ = 8 * number in
    let eight : bytes_high_first 8 (number_from bytes at) ≡ take 8 (drop at bytes) =
    ap (bytes_high_first 8) (sym (number-is bytes at)) ∙ first-eight (drop at bytes) (rw (length-drop) (omega arith)) (λ i. rw (get_or-drop) (small (at + i))) in
    let rest = bytes-spelled bytes small count (number + 1) (omega arith) in
    let on : drop 8 (drop at bytes) ≡ drop (8 * (number + 1)) bytes = drop-drop 8 at bytes ∙ ap (λ (k : ℕ). drop k bytes) (omega arith) in
    let end : drop (8 * (number + 1 + count)) bytes ≡ drop (8 * (number + suc count)) bytes = ap (λ (k : ℕ). drop k bytes) (omega arith) in
    sym (take-append-drop 8 (drop at bytes)) ∙ ap (λ (xs : List ℕ). xs ++ drop 8 (drop at bytes)) (sym eight)
    ∙ ap (λ (xs : List ℕ). bytes_high_first 8 (number_from bytes at) ++ xs) (on ∙ rest ∙ ap (λ (xs : List ℕ). bytes_of (items_from bytes (number + 1) count) ++ xs) end)
    ∙ sym (append_assoc (bytes_high_first 8 (number_from bytes at)) (bytes_of (items_from bytes (number + 1) count)) (drop (8 * (number + suc count)) bytes))

pub item-small : (bytes : List ℕ) → ((i : ℕ) → get_or bytes i 0 < 256) → (number : ℕ) → item_at bytes number < 2 ^ 64
unfolding item_at
item-small bytes small number =
    let at : ℕ = 8 * number in
    omega (arith, small at, small (at + 1), small (at + 2), small (at + 3), small (at + 4), small (at + 5), small (at + 6), small (at + 7))

-- and where the bytes from there on spell items, they are these
pub items-spelled : (bytes : List ℕ) (items : List ℕ) (rest : List ℕ) (number : ℕ) → AllByRecursion (λ n. n < 2 ^ 64) items → drop (8 * number) bytes ≡ bytes_of items ++ rest → items_from bytes number (length items) ≡ items
unfolding item_at
items-spelled bytes [] rest number small e = refl
items-spelled bytes (n ∷ ns) rest number small e =
    let at : ℕ = 8 * number in
    let shape : drop at bytes ≡ bytes_high_first 8 n ++ (bytes_of ns ++ rest) = e ∙ append_assoc (bytes_high_first 8 n) (bytes_of ns) rest in
    let item : number_from bytes at ≡ n = sym (number-is bytes at) ∙ ap (from_be_bytes w64) shape ∙ from_be_bytes-to_be_bytes_8 n small.0 in
    let on : drop (8 * (number + 1)) bytes ≡ bytes_of ns ++ rest = ap (λ (k : ℕ). drop k bytes) (let q : 8 * (number + 1) ≡ at + 8 = omega arith in q) ∙ sym (drop-drop 8 at bytes) ∙ ap (drop 8) shape in
    ap₂ (λ (k : ℕ) (ks : List ℕ). k ∷ ks) item (items-spelled bytes ns rest (number + 1) small.1 on)
