-- Looking for references to nowhere.
use Rattle.std.proofs.Common.{◌≡◌, ℕ, ◌+◌, ◌*◌, ◌/◌, ◌<◌, ◌≤◌, ◌==◌, ◌||◌, Bool, true, false, if◌then◌else◌, List, [], ◌∷◌, ◌++◌, length, get_or, replicate, take, drop, option_map, Option, Some, None, refl, sym, ◌∙◌, ap, inl, inr, arith}
use Prim.Native.Nat.{zero, suc}
use Rattle.std.specs.Option.{is_some}
use Rattle.std.proofs.lemmas.Bool.{cases_eq, eq-eqb, ne_eqb}
use Rattle.std.proofs.lemmas.List.{get_or_read, take_more}
use Rattle.bc_bits.specs.Bits.{has}
use Rattle.bc_bits.specs.BitChanges.{with_bit}
use Rattle.bc_bits.proofs.BitLemmas.{has-zeros, has-with_bit_same, has-with_bit_other}
use Rattle.bc_word.specs.Words.{word_of_bits}
use Rattle.bc_image.specs.Cells.{CellList}
use Rattle.bc_image.specs.Faults.{leads_nowhere}
use Rattle.bc_image.specs.Homes.{HasHomes, LieBelow}
use Rattle.bc_image.specs.Memories.{number_at, no_cell, cell_at}
use Rattle.bc_image.specs.Numbered.{numbered, words_below, first_lost}

-- ---- where objects lie

number-push : (cells : List CellList) (c : CellList) (a : ℕ) → is_some (number_at (cells ++ c ∷ []) a) ≡ (is_some (number_at cells a) || (c.address == a))
number-push [] c a = alone (c.address == a)
  where
    alone : (b : Bool) → is_some (let o : Option ℕ = if b then Some 0 else None in o) ≡ (false || b)
    alone true = refl
    alone false = refl
number-push (x ∷ xs) c a = at (x.address == a) (number_at (xs ++ c ∷ []) a) (number_at xs a) (number-push xs c a)
  where
    kept : (o : Option ℕ) → is_some (option_map (λ (n : ℕ). n + 1) o) ≡ is_some o
    kept (Some n) = refl
    kept None = refl

    at : (b : Bool) (o p : Option ℕ) → is_some o ≡ (is_some p || (c.address == a)) → is_some (if b then Some 0 else option_map (λ (n : ℕ). n + 1) o) ≡ (is_some (if b then Some 0 else option_map (λ (n : ℕ). n + 1) p) || (c.address == a))
    at true o p e = refl
    at false o p e = kept o ∙ e ∙ ap (λ (t : Bool). t || (c.address == a)) (sym (kept p))

pub homes-begin : (words : ℕ) → HasHomes [] (replicate words 0)
homes-begin words a = has-zeros words a

or-true : (t : Bool) → true ≡ (t || true)
or-true true = refl
or-true false = refl

or-false : (t : Bool) → t ≡ (t || false)
or-false true = refl
or-false false = refl

-- a step of the loop over the objects
module _ (cells : List CellList) (i : ℕ) (c : CellList) (at : ℕ) (lt : i < length cells) (item : c ≡ get_or cells i c) (at_is : at ≡ c.address) where
  pub home-below : (words : ℕ) → LieBelow cells (64 * words) → at < 64 * words
  home-below words below =
      let h = below i lt in
      let same : (cell_at cells i).address ≡ c.address = ap (λ (x : CellList). x.address) (sym (get_or_read cells i c lt item no_cell)) in
      omega arith

  pub homes-more : (there : List ℕ) → at < 64 * length there → HasHomes (take i cells) there → HasHomes (take (i + 1) cells) (with_bit there at)
  homes-more there inside h a =
      let more : take (i + 1) cells ≡ take i cells ++ c ∷ [] = take_more cells i c lt ∙ ap (λ (x : CellList). take i cells ++ x ∷ []) (sym item) in
      let now : is_some (number_at (take (i + 1) cells) a) ≡ (is_some (number_at (take i cells) a) || (c.address == a)) = ap (λ (xs : List CellList). is_some (number_at xs a)) more ∙ number-push (take i cells) c a in
      (elim (cases_eq a at) [
        | inl same ↦ ap (has (with_bit there at)) same ∙ has-with_bit_same there at inside ∙ or-true (is_some (number_at (take i cells) a)) ∙ ap (λ (t : Bool). is_some (number_at (take i cells) a) || t) (sym (eq-eqb c.address a (sym at_is ∙ sym same))) ∙ sym now
        | inr ne ↦ has-with_bit_other there at a ne ∙ h a ∙ or-false (is_some (number_at (take i cells) a)) ∙ ap (λ (t : Bool). is_some (number_at (take i cells) a) || t) (sym (ne_eqb c.address a (λ q. ne (sym q ∙ sym at_is)))) ∙ sym now
      ])

pub below-more : (cells : List CellList) (i at end more : ℕ) (c : CellList) → c ≡ cell_at cells i → at ≡ c.address → at < more → end ≤ more → ((k : ℕ) → k < i → (cell_at cells k).address < end) → (k : ℕ) → k < i + 1 → (cell_at cells k).address < more
below-more cells i at end more c is e lt le h k less = elim (cases_eq k i) [
  | inl same ↦ (let f : (cell_at cells k).address ≡ at = ap (λ (n : ℕ). (cell_at cells n).address) same ∙ ap (λ (x : CellList). x.address) (sym is) ∙ sym e in omega arith)
  | inr ne ↦ (let f = h k (omega arith) in omega arith)
]

pub below-words : (cells : List CellList) (end : ℕ) → LieBelow cells end → LieBelow cells (64 * (end / 64 + 1))
below-words cells end below k lt = let h = below k lt in omega arith

-- ---- the first word that leads nowhere

lost-front : (cells : List CellList) (xs ys : List (ℕ × ℕ)) (n : ℕ) → first_lost cells xs ≡ Some n → first_lost cells (xs ++ ys) ≡ Some n
lost-front cells [] ys n e = absurd (let bad : None ≡ Some n = e in cc)
lost-front cells (x ∷ xs) ys n e = by (leads_nowhere cells (word_of_bits x.1)) e (lost-front cells xs ys n)
  where
    by : (t : Bool) → (if t then Some x.0 else first_lost cells xs) ≡ Some n → (first_lost cells xs ≡ Some n → first_lost cells (xs ++ ys) ≡ Some n) → (if t then Some x.0 else first_lost cells (xs ++ ys)) ≡ Some n
    by true h rest = h
    by false h rest = rest h

pub lost-behind : (cells : List CellList) (xs ys : List (ℕ × ℕ)) → first_lost cells xs ≡ None → first_lost cells (xs ++ ys) ≡ first_lost cells ys
lost-behind cells [] ys e = refl
lost-behind cells (x ∷ xs) ys e = by (leads_nowhere cells (word_of_bits x.1)) e (lost-behind cells xs ys)
  where
    by : (t : Bool) → (if t then Some x.0 else first_lost cells xs) ≡ None → (first_lost cells xs ≡ None → first_lost cells (xs ++ ys) ≡ first_lost cells ys) → (if t then Some x.0 else first_lost cells (xs ++ ys)) ≡ first_lost cells ys
    by true h rest = absurd (let bad : Some x.0 ≡ None = h in cc)
    by false h rest = rest h

pub lost-first : (cells : List CellList) (xs ys : List (ℕ × ℕ)) (n : ℕ) → Some n ≡ first_lost cells xs → Some n ≡ first_lost cells (xs ++ ys)
lost-first cells xs ys n e = sym (lost-front cells xs ys n (sym e))

drop-one : (ws : List ℕ) (i : ℕ) → i < length ws → drop i ws ≡ get_or ws i 0 ∷ drop (i + 1) ws
drop-one [] i lt = absurd (omega arith)
drop-one (w ∷ ws) zero lt = refl
drop-one (w ∷ ws) (suc i) lt = drop-one ws i (omega arith) ∙ ap (λ (n : ℕ). get_or ws i 0 ∷ drop n (w ∷ ws)) (let e : suc (i + 1) ≡ suc i + 1 = omega arith in e)

drop-end : (ws : List ℕ) (i : ℕ) → length ws ≤ i → drop i ws ≡ []
drop-end [] zero le = refl
drop-end [] (suc i) le = refl
drop-end (w ∷ ws) zero le = absurd (omega arith)
drop-end (w ∷ ws) (suc i) le = drop-end ws i (omega arith)

-- the words from a place on
abbrev pub IsLooking : List CellList → ℕ → List ℕ → ℕ → Type 0
IsLooking cells number words place = first_lost cells (numbered number words) ≡ first_lost cells (numbered (number + place) (drop place words))

pub looking-begin : (cells : List CellList) (number : ℕ) (words : List ℕ) → IsLooking cells number words 0
looking-begin cells number words = ap (λ (n : ℕ). first_lost cells (numbered n words)) (let e : number ≡ number + 0 = omega arith in e)

looking-here : (cells : List CellList) (number : ℕ) (words : List ℕ) (place : ℕ) → place < length words → IsLooking cells number words place
    → first_lost cells (numbered number words) ≡ (if leads_nowhere cells (word_of_bits (get_or words place 0)) then Some (number + place) else first_lost cells (numbered (number + place + 1) (drop (place + 1) words)))
looking-here cells number words place lt h = h ∙ ap (λ (ws : List ℕ). first_lost cells (numbered (number + place) ws)) (drop-one words place lt)

pub looking-found : (cells : List CellList) (number : ℕ) (words : List ℕ) (place : ℕ) → place < length words → IsLooking cells number words place → leads_nowhere cells (word_of_bits (get_or words place 0)) ≡ true → Some (number + place) ≡ first_lost cells (numbered number words)
looking-found cells number words place lt h lost = sym (looking-here cells number words place lt h ∙ ap (λ (t : Bool). if t then Some (number + place) else first_lost cells (numbered (number + place + 1) (drop (place + 1) words))) lost)

pub looking-more : (cells : List CellList) (number : ℕ) (words : List ℕ) (place : ℕ) → place < length words → IsLooking cells number words place → leads_nowhere cells (word_of_bits (get_or words place 0)) ≡ false → IsLooking cells number words (place + 1)
looking-more cells number words place lt h kept =
    looking-here cells number words place lt h ∙ ap (λ (t : Bool). if t then Some (number + place) else first_lost cells (numbered (number + place + 1) (drop (place + 1) words))) kept
    ∙ ap (λ (n : ℕ). first_lost cells (numbered n (drop (place + 1) words))) (let e : number + place + 1 ≡ number + (place + 1) = omega arith in e)

pub looking-end : (cells : List CellList) (number : ℕ) (words : List ℕ) (place : ℕ) → length words ≤ place → IsLooking cells number words place → None ≡ first_lost cells (numbered number words)
looking-end cells number words place le h = sym (h ∙ ap (λ (ws : List ℕ). first_lost cells (numbered (number + place) ws)) (drop-end words place le))

-- the fields of the first so many objects lead somewhere
pub fields-more : (all : List CellList) (heads : List ℕ) (cells : List CellList) (k : ℕ) (fields : List ℕ) (first : ℕ) → fields ≡ (cell_at cells k).fields → first ≡ get_or heads k 0 + 1 → first_lost all (words_below heads cells k) ≡ None → None ≡ first_lost all (numbered first fields) → first_lost all (words_below heads cells (k + 1)) ≡ None
fields-more all heads cells k fields first fields_are first_is so_far none =
    ap (λ (n : ℕ). first_lost all (words_below heads cells n)) (let e : k + 1 ≡ suc k = omega arith in e)
    ∙ lost-behind all (words_below heads cells k) (numbered (get_or heads k 0 + 1) (cell_at cells k).fields) so_far
    ∙ ap (λ (n : ℕ). first_lost all (numbered n (cell_at cells k).fields)) (sym first_is) ∙ ap (λ (ws : List ℕ). first_lost all (numbered first ws)) (sym fields_are) ∙ sym none

fields-stay : (all : List CellList) (heads : List ℕ) (cells : List CellList) (k m n : ℕ) → k ≤ m → first_lost all (words_below heads cells k) ≡ Some n → first_lost all (words_below heads cells m) ≡ Some n
fields-stay all heads cells k zero n le e = ap (λ (i : ℕ). first_lost all (words_below heads cells i)) (let f : zero ≡ k = omega arith in f) ∙ e
fields-stay all heads cells k (suc m) n le e = elim (cases_eq k (suc m)) [
  | inl same ↦ ap (λ (i : ℕ). first_lost all (words_below heads cells i)) (sym same) ∙ e
  | inr ne ↦ lost-front all (words_below heads cells m) (numbered (get_or heads m 0 + 1) (cell_at cells m).fields) n (fields-stay all heads cells k m n (lower k m ne le) e)
]
  where
    lower : (x y : ℕ) → (x ≡ suc y → ⊥) → x ≤ suc y → x ≤ y
    lower zero y ne le = omega arith
    lower (suc zero) zero ne le = absurd (ne refl)
    lower (suc (suc x)) zero ne le = absurd (omega arith)
    lower (suc x) (suc y) ne le = let r = lower x y (λ q. ne (ap suc q)) (omega arith) in omega arith

pub fields-found : (all : List CellList) (heads : List ℕ) (cells : List CellList) (k : ℕ) (fields : List ℕ) (first number : ℕ) → k < length cells → fields ≡ (cell_at cells k).fields → first ≡ get_or heads k 0 + 1 → first_lost all (words_below heads cells k) ≡ None → Some number ≡ first_lost all (numbered first fields) → Some number ≡ first_lost all (words_below heads cells (length cells))
fields-found all heads cells k fields first number lt fields_are first_is so_far found =
    sym (fields-stay all heads cells (suc k) (length cells) number (omega arith)
    (lost-behind all (words_below heads cells k) (numbered (get_or heads k 0 + 1) (cell_at cells k).fields) so_far
    ∙ ap (λ (n : ℕ). first_lost all (numbered n (cell_at cells k).fields)) (sym first_is) ∙ ap (λ (ws : List ℕ). first_lost all (numbered first ws)) (sym fields_are) ∙ sym found))

pub fields-end : (all : List CellList) (heads : List ℕ) (cells : List CellList) (k : ℕ) → length cells ≤ k → k ≤ length cells → first_lost all (words_below heads cells k) ≡ None → None ≡ first_lost all (words_below heads cells (length cells))
fields-end all heads cells k ge le none = sym (ap (λ (n : ℕ). first_lost all (words_below heads cells n)) (let e : length cells ≡ k = omega arith in e) ∙ none)

-- ---- an item of a list

pub item-here : (cells : List CellList) (i : ℕ) (c : CellList) → i < length cells → c ≡ get_or cells i c → c ≡ cell_at cells i
item-here cells i c lt e = e ∙ get_or_default cells i c no_cell lt
  where
    get_or_default : (xs : List CellList) (k : ℕ) (x y : CellList) → k < length xs → get_or xs k x ≡ get_or xs k y
    get_or_default [] k x y h = absurd (omega arith)
    get_or_default (z ∷ zs) zero x y h = refl
    get_or_default (z ∷ zs) (suc k) x y h = get_or_default zs k x y (omega arith)
