-- Ways through a listing are ways through a state that it pictures.
use Rattle.std.proofs.Common.{◌≡◌, ◌≢◌, ◌⊎◌, ℕ, ◌+◌, ◌*◌, ◌/◌, ◌%◌, ◌<◌, ◌≤◌, ◌==◌, if◌then◌else◌, true, false, Bool, List, [], ◌∷◌, length, map, get_or, Option, Some, None, option_map, refl, sym, ◌∙◌, ap, subst, inl, inr, arith}
use Prim.Native.Nat.{zero, suc}
use Rattle.std.proofs.lemmas.Bool.{cases_eq, eqb-true}
use Rattle.std.proofs.Math.ListN.{get_or-map}
use Rattle.bc_word.specs.Words.{word_of_bits}
use Rattle.bc_word.specs.declared.words.Word.{Word}
use Rattle.bc_word.specs.declared.words.Word.TheVariants as word
use Rattle.bc_word.proofs.WordLemmas.{word_of_bits-nil}
use Rattle.bc_memory.specs.Memory.{Cell, Memory}
use Rattle.bc_reach.specs.Reach.{Reach, begin, onward}
use Rattle.bc_model.specs.Paths.{value_along, HasPath}
use Rattle.bc_model.specs.Reached.{Reached}
use Rattle.bc_model.specs.State.{State, Object, object_of}
use Rattle.bc_model.specs.declared.values.Birth.{Birth}
use Rattle.bc_model.specs.declared.values.Value.{Value}
use Rattle.bc_model.specs.declared.values.Value.TheVariants.{Nil, Num, Obj}
use Rattle.bc_model.proofs.Needs.{HasPath-reached}
use Rattle.bc_standing.specs.Standing.{birth_of, births, read, ReadAs, IsHome, Stands}
use Rattle.bc_standing.proofs.Homes.{births-there, home_in, one_home}
use Rattle.bc_standing.proofs.Reading.{ReadAs-at}
use Rattle.bc_image.specs.Cells.{CellList}
use Rattle.bc_image.specs.Memories.{number_at, cell_at, cell_of, memory_of}
use Rattle.bc_heapview.specs.Answers.{TellBirths}
use Rattle.bc_heapview.specs.Backs.{birth_at, go_on, WayLeadsTo, AreSteps}
use Rattle.bc_heapview.specs.Targets.{target_of, word_target, field_target, leads}
use Rattle.bc_heapview.specs.Ways.{Way, from_slot, by_field}
use Rattle.bc_heapview.specs.declared.steps.Step.{Step}
use Rattle.bc_heapview.proofs.OrderLemmas.{along}

-- what a field of a value holds, and where a way leads to in a state
abbrev pub field_value : List (List Object) → Value → ℕ → Value
field_value made (Obj b) i = get_or (object_of made b).fields i Nil
field_value made Nil i = Nil
field_value made (Num n) i = Nil

abbrev pub value_by : List Value → List (List Object) → Way → Value
value_by slots made (from_slot r) = get_or slots r Nil
value_by slots made (by_field w i) = field_value made (value_by slots made w) i

value_along-nil : (made : List (List Object)) (fs : List ℕ) → value_along made Nil fs ≡ Nil
value_along-nil made [] = refl
value_along-nil made (i ∷ fs) = refl

value_along-field : (made : List (List Object)) (v : Value) (i : ℕ) (fs : List ℕ) → value_along made v (i ∷ fs) ≡ value_along made (field_value made v i) fs
value_along-field made (Obj b) i fs = refl
value_along-field made Nil i fs = sym (value_along-nil made fs)
value_along-field made (Num n) i fs = sym (value_along-nil made fs)

pub value_by-along : (slots : List Value) (made : List (List Object)) (w : Way) (fs : List ℕ) → value_by slots made (along w fs) ≡ value_along made (value_by slots made w) fs
value_by-along slots made w [] = refl
value_by-along slots made w (i ∷ fs) = value_by-along slots made (by_field w i) fs ∙ sym (value_along-field made (value_by slots made w) i fs)

pub by-reached : (slots : List Value) (made : List (List Object)) (w : Way) (b : Birth) → value_by slots made w ≡ Obj b → Reached slots made b
by-reached slots made (from_slot r) b e = begin b (r, e)
by-reached slots made (by_field w i) b e = by-field slots made (value_by slots made w) i b (λ a h. by-reached slots made w a h) e
  where
    by-field : (slots : List Value) (made : List (List Object)) (v : Value) (i : ℕ) (b : Birth) → ((a : Birth) → v ≡ Obj a → Reached slots made a) → field_value made v i ≡ Obj b → Reached slots made b
    by-field slots made (Obj a) i b before e = onward a b (before a refl) (i, e)
    by-field slots made Nil i b before e = absurd (let k : Nil ≡ Obj b = e in cc)
    by-field slots made (Num n) i b before e = absurd (let k : Nil ≡ Obj b = e in cc)

-- an object of the list, or none, is what a value refers to
abbrev pub Agrees : List CellList → Option ℕ → Value → Type 0
Agrees cells None v = (b : Birth) → v ≡ Obj b → ⊥
Agrees cells (Some k) v = v ≡ Obj (birth_at cells k)

ref-agrees : (cells : List CellList) (o : Option ℕ) (v : Value) → option_map Obj (option_map (λ (c : Cell). birth_of c.head) (option_map (λ (k : ℕ). cell_of (cell_at cells k)) o)) ≡ Some v → Agrees cells o v
ref-agrees cells None v e = absurd (let k : None ≡ Some v = e in cc)
ref-agrees cells (Some n) v e = (let k : Some (Obj (birth_at cells n)) ≡ Some v = e in let h : Obj (birth_at cells n) ≡ v = cc in sym h)

word-agrees : (cells : List CellList) (w : Word) (v : Value) → read (births (memory_of cells)) w ≡ Some v → Agrees cells (word_target cells w) v
word-agrees cells word.Nil v e = λ b is. let k : Some Nil ≡ Some v = e in cc
word-agrees cells (word.Num n) v e = λ b is. let k : Some (Num n) ≡ Some v = e in cc
word-agrees cells (word.Ref a) v e = ref-agrees cells (number_at cells a.0) v e

word-at : (bits : List ℕ) (i : ℕ) → get_or (map word_of_bits bits) i word.Nil ≡ word_of_bits (get_or bits i 0)
word-at bits i = ap (get_or (map word_of_bits bits) i) (sym word_of_bits-nil) ∙ get_or-map word_of_bits bits i 0

bits-agree : (cells : List CellList) (bits : List ℕ) (values : List Value) (i : ℕ) → ReadAs (births (memory_of cells)) (map word_of_bits bits) values → Agrees cells (target_of cells (get_or bits i 0)) (get_or values i Nil)
bits-agree cells bits values i h =
    word-agrees cells (word_of_bits (get_or bits i 0)) (get_or values i Nil) (ap (read (births (memory_of cells))) (sym (word-at bits i)) ∙ ReadAs-at (births (memory_of cells)) (map word_of_bits bits) values i h)

-- an object lies where its number is found
number-shifted : (c : CellList) (cs : List CellList) (a k : ℕ) (o : Option ℕ) → ((n : ℕ) → o ≡ Some n → (cell_at cs n).address ≡ a) → option_map (λ (n : ℕ). n + 1) o ≡ Some k → (cell_at (c ∷ cs) k).address ≡ a
number-shifted c cs a k None rest h = absurd (let g : None ≡ Some k = h in cc)
number-shifted c cs a k (Some n) rest h =
    let e : n + 1 ≡ k = (let g : Some (n + 1) ≡ Some k = h in cc) in
    let s : suc n ≡ k = omega arith in
    subst (λ (i : ℕ). (cell_at (c ∷ cs) i).address ≡ a) s (rest n refl)

number-either : (c : CellList) (cs : List CellList) (a k : ℕ) (b : Bool) (o : Option ℕ) → (b ≡ true → c.address ≡ a) → ((n : ℕ) → o ≡ Some n → (cell_at cs n).address ≡ a) → (if b then Some 0 else option_map (λ (n : ℕ). n + 1) o) ≡ Some k → (cell_at (c ∷ cs) k).address ≡ a
number-either c cs a k true o here rest h =
    let e : 0 ≡ k = (let g : Some 0 ≡ Some k = h in cc) in
    subst (λ (i : ℕ). (cell_at (c ∷ cs) i).address ≡ a) e (here refl)
number-either c cs a k false o here rest h = number-shifted c cs a k o rest h

pub number-address : (cells : List CellList) (a k : ℕ) → number_at cells a ≡ Some k → (cell_at cells k).address ≡ a
number-address [] a k e = absurd (let h : None ≡ Some k = e in cc)
number-address (c ∷ cs) a k e = number-either c cs a k (c.address == a) (number_at cs a) (λ h. eqb-true c.address a h) (λ n h. number-address cs a n h) e

-- the number of an object leads back to it
number-back : (cells : List CellList) (a k : ℕ) → number_at cells a ≡ Some k → number_at cells (cell_at cells k).address ≡ Some k
number-back cells a k e = subst (λ (x : ℕ). number_at cells x ≡ Some k) (sym (number-address cells a k e)) e

word-back : (cells : List CellList) (w : Word) (k : ℕ) → word_target cells w ≡ Some k → number_at cells (cell_at cells k).address ≡ Some k
word-back cells word.Nil k e = absurd (let h : None ≡ Some k = e in cc)
word-back cells (word.Num n) k e = absurd (let h : None ≡ Some k = e in cc)
word-back cells (word.Ref a) k e = number-back cells a.0 k e

field-back : (cells : List CellList) (o : Option ℕ) (i k : ℕ) → field_target cells o i ≡ Some k → number_at cells (cell_at cells k).address ≡ Some k
field-back cells None i k e = absurd (let h : None ≡ Some k = e in cc)
field-back cells (Some n) i k e = word-back cells (word_of_bits (get_or (cell_at cells n).fields i 0)) k e

pub leads-back : (roots : List ℕ) (cells : List CellList) (w : Way) (k : ℕ) → leads roots cells w ≡ Some k → number_at cells (cell_at cells k).address ≡ Some k
leads-back roots cells (from_slot r) k e = word-back cells (word_of_bits (get_or roots r 0)) k e
leads-back roots cells (by_field w i) k e = field-back cells (leads roots cells w) i k e

pub there-at : (cells : List CellList) (k : ℕ) → number_at cells (cell_at cells k).address ≡ Some k → memory_of cells (cell_at cells k).address ≡ Some (cell_of (cell_at cells k))
there-at cells k e = ap (option_map (λ (n : ℕ). cell_of (cell_at cells n))) e

module _ (roots : List ℕ) (cells : List CellList) (slots : List Value) (made : List (List Object)) (stands : Stands (memory_of cells) (map word_of_bits roots) slots made) where
  field-agrees : (o : Option ℕ) (v : Value) (i : ℕ) → Agrees cells o v → ((b : Birth) → v ≡ Obj b → Reached slots made b) → ((k : ℕ) → o ≡ Some k → number_at cells (cell_at cells k).address ≡ Some k) → Agrees cells (field_target cells o i) (field_value made v i)
  field-agrees None Nil i a reached back = λ b e. let k : Nil ≡ Obj b = e in cc
  field-agrees None (Num n) i a reached back = λ b e. let k : Nil ≡ Obj b = e in cc
  field-agrees None (Obj b) i a reached back = absurd (a b refl)
  field-agrees (Some k) v i a reached back =
      let b : Birth = birth_at cells k in
      let there = there-at cells k (back k refl) in
      let home : IsHome (memory_of cells) b (object_of made b) (cell_at cells k).address (cell_of (cell_at cells k)) = home_in (memory_of cells) (map word_of_bits roots) slots made (cell_at cells k).address (cell_of (cell_at cells k)) stands (reached b a) there in
      let h = bits-agree cells (cell_at cells k).fields (object_of made b).fields i home.fields in
      subst (λ (x : Value). Agrees cells (target_of cells (get_or (cell_at cells k).fields i 0)) (field_value made x i)) (sym a) h

  pub agrees : (w : Way) → Agrees cells (leads roots cells w) (value_by slots made w)
  agrees (from_slot r) = bits-agree cells roots slots r stands.values
  agrees (by_field w i) = field-agrees (leads roots cells w) (value_by slots made w) i (agrees w) (λ b e. by-reached slots made w b e) (λ k e. leads-back roots cells w k e)

  -- a way to an object leads to its number
  pub way-leads : (w : Way) (b : Birth) → value_by slots made w ≡ Obj b → WayLeadsTo roots cells w b
  way-leads w b e = at (leads roots cells w) refl (agrees w)
    where
      at : (o : Option ℕ) → leads roots cells w ≡ o → Agrees cells o (value_by slots made w) → WayLeadsTo roots cells w b
      at None is a = absurd (a b e)
      at (Some k) is a = (k, is, (let h : Obj (birth_at cells k) ≡ Obj b = sym a ∙ e in cc))

  pub leads-way : (w : Way) (b : Birth) → WayLeadsTo roots cells w b → value_by slots made w ≡ Obj b
  leads-way w b to = subst (λ (o : Option ℕ). Agrees cells o (value_by slots made w)) to.1 (agrees w) ∙ ap Obj to.2

  -- which is one number
  pub one-number : (w v : Way) (b : Birth) (k n : ℕ) → leads roots cells w ≡ Some k → birth_at cells k ≡ b → leads roots cells v ≡ Some n → birth_at cells n ≡ b → k ≡ n
  one-number w v b k n to is to2 is2 =
      let m : Memory = memory_of cells in
      let back = leads-back roots cells w k to in
      let back2 = leads-back roots cells v n to2 in
      let reached = by-reached slots made w b (leads-way w b (k, to, is)) in
      let here : births m (cell_at cells k).address ≡ Some b = births-there m (cell_at cells k).address (cell_of (cell_at cells k)) (there-at cells k back) ∙ ap Some is in
      let here2 : births m (cell_at cells n).address ≡ Some b = births-there m (cell_at cells n).address (cell_of (cell_at cells n)) (there-at cells n back2) ∙ ap Some is2 in
      let same : (cell_at cells k).address ≡ (cell_at cells n).address = one_home m (map word_of_bits roots) slots made b (cell_at cells k).address (cell_at cells n).address stands reached here here2 in
      let e : Some k ≡ Some n = sym back ∙ ap (number_at cells) same ∙ back2 in
      cc

  pub tell-births : (w : Way) (prev : Birth) (steps : List Step) → value_by slots made w ≡ Obj prev → AreSteps roots cells w steps → TellBirths made (Obj prev) steps
  tell-births w prev [] at h = tt
  tell-births w prev (s ∷ steps) at h =
      let next : value_by slots made (by_field w s.field) ≡ Obj s.birth = leads-way (by_field w s.field) s.birth h.0 in
      (ap (λ (v : Value). field_value made v s.field) (sym at) ∙ next, tell-births (by_field w s.field) s.birth steps next h.1)
