-- A closed memory in which births are apart stands for a state.
use Rattle.std.proofs.Common.{◌≡◌, ◌≢◌, ◌⊎◌, ℕ, ◌+◌, ◌-◌, ◌*◌, ◌<◌, ◌≤◌, ◌==◌, ◌&&◌, Bool, true, false, if◌then◌else◌, List, [], ◌∷◌, length, map, get_or, Option, Some, None, refl, sym, ◌∙◌, ap, subst, inl, inr, arith}
use Prim.Native.Nat.{zero, suc}
use Rattle.std.proofs.lemmas.Bool.{cases_lt, cases_Bool, eqb-true, eq-eqb, and_parts}
use Rattle.std.proofs.lemmas.List.{get_or_append_left, get_or_push, length_push, length-map}
use Rattle.std.proofs.Math.ListN.{get_or-map}
use Rattle.bc_word.specs.declared.words.Word.{Word}
use Rattle.bc_word.specs.declared.words.Word.TheVariants as word
use Rattle.bc_memory.specs.Memory.{Cell, Memory}
use Rattle.bc_reach.proofs.Reaching.{Reach-least}
use Rattle.bc_model.specs.Consistent.{IsHolder, IsState, IsMadeObject, IsValue, AreValues}
use Rattle.bc_model.specs.WellFormed.{IsNumber}
use Rattle.bc_model.specs.Reached.{Reached, Holds, FieldHolds}
use Rattle.bc_model.specs.State.{Object, IsBorn, holder_of, object_of, made_by, no_object, numbers_below}
use Rattle.bc_model.specs.declared.values.Birth.{Birth}
use Rattle.bc_model.specs.declared.values.Holder.{Holder}
use Rattle.bc_model.specs.declared.values.Value.{Value}
use Rattle.bc_model.specs.declared.values.Value.TheVariants.{Nil, Num, Obj}
use Rattle.bc_standing.specs.Standing.{births, read, ReadAs, IsHome, Stands, AllBorn}
use Rattle.bc_standing.proofs.Reading.{ReadAs-from}
use Rattle.bc_standing.proofs.Homes.{births-cell}

-- a word names nothing, or an object that is there
abbrev pub IsClosedWord : Memory → Word → Type 0
IsClosedWord m word.Nil = Unit {0}
IsClosedWord m (word.Num n) = Unit {0}
IsClosedWord m (word.Ref a) = (b : Birth) × (births m a.0 ≡ Some b)

abbrev pub AreClosed : Memory → List Word → Type 0
AreClosed m ws = (i : ℕ) → IsClosedWord m (get_or ws i word.Nil)

-- what is asked of parts that are to be a heap: references lead to objects, births are apart, and each is one of its lane's
pub record IsWhole (m : Memory) (roots : List Word) (lanes end : ℕ) (counts : List ℕ) : Type 0 where
  pub roots_closed : AreClosed m roots
  pub fields_closed : (a : ℕ) → (c : Cell) → m a ≡ Some c → AreClosed m c.fields
  pub fields_counted : (a : ℕ) → (c : Cell) → m a ≡ Some c → c.head.fields ≡ length c.fields
  pub once : (a x : ℕ) → (b : Birth) → births m a ≡ Some b → births m x ≡ Some b → a ≡ x
  pub below : (a : ℕ) → (b : Birth) → births m a ≡ Some b → a < end
  pub lane : (a : ℕ) → (b : Birth) → births m a ≡ Some b → b.lane < lanes
  pub serial : (a : ℕ) → (b : Birth) → births m a ≡ Some b → (0 < b.serial) × (b.serial ≤ get_or counts b.lane 0)

-- numbers below 2 ^ 63
abbrev pub IsNumberWord : Word → Type 0
IsNumberWord word.Nil = Unit {0}
IsNumberWord (word.Num n) = IsNumber n
IsNumberWord (word.Ref a) = Unit {0}

abbrev pub AreNumberWords : List Word → Type 0
AreNumberWords ws = (i : ℕ) → IsNumberWord (get_or ws i word.Nil)

-- what is asked of numbers and sizes
pub record AreInRange (m : Memory) (root_words : List Word) (in_use : ℕ) : Type 0 where
  pub roots : AreNumberWords root_words
  pub numbers : (a : ℕ) → (c : Cell) → m a ≡ Some c → AreNumberWords c.fields
  pub domains : (a : ℕ) → (c : Cell) → m a ≡ Some c → c.head.domain < in_use
  pub fields : (a : ℕ) → (c : Cell) → m a ≡ Some c → length c.fields ≤ 127

-- a word as a value
abbrev pub value_at : Option Birth → Value
value_at None = Nil
value_at (Some b) = Obj b

abbrev pub value_of : Memory → Word → Value
value_of m word.Nil = Nil
value_of m (word.Num n) = Num n
value_of m (word.Ref a) = value_at (births m a.0)

abbrev pub object_in : Memory → Option Cell → Object
object_in m None = no_object
object_in m (Some c) = record { domain = c.head.domain; fields = map (value_of m) c.fields }

-- whether the object of the birth lies there
abbrev pub is_birth : Birth → Option Birth → Bool
is_birth b None = false
is_birth b (Some x) = (x.lane == b.lane) && (x.serial == b.serial)

-- the object of a birth, looked for below the end
unfoldable pub found_below : Memory → Birth → ℕ → Object
found_below m b zero = no_object
found_below m b (suc n) = if is_birth b (births m n) then object_in m (m n) else found_below m b n

abbrev pub birth_on : ℕ → ℕ → Birth
birth_on j s = record { lane = j; serial = s + 1 }

-- all objects of each lane
abbrev pub made_in : Memory → ℕ → ℕ → List ℕ → List (List Object)
made_in m end lanes counts = map (λ j. map (λ s. found_below m (birth_on j s) end) (numbers_below (get_or counts j 0))) (numbers_below lanes)

-- ---- lists of numbers

pub numbers-length : (n : ℕ) → length (numbers_below n) ≡ n
numbers-length zero = refl
numbers-length (suc n) = length_push (numbers_below n) n ∙ (let e = numbers-length n in omega arith)

numbers-at : (n i : ℕ) → i < n → get_or (numbers_below n) i 0 ≡ i
numbers-at zero i lt = absurd (omega arith)
numbers-at (suc n) i lt =
    elim (cases_lt i n) [
      | inl l ↦ get_or_append_left (numbers_below n) (n ∷ []) 0 i (let e = numbers-length n in omega arith) ∙ numbers-at n i l
      | inr ge ↦ let same : i ≡ n = omega arith in get_or_push (numbers_below n) n 0 i (numbers-length n ∙ sym same) ∙ sym same
    ]

pub mapped-at : {X : Type 0} (f : ℕ → X) (n i : ℕ) (d : X) → i < n → get_or (map f (numbers_below n)) i d ≡ f i
mapped-at f n i d lt =
    get_or-map_at f (numbers_below n) i d (let e = numbers-length n in omega arith) ∙ ap f (numbers-at n i lt)
  where
    get_or-map_at : {X : Type 0} (g : ℕ → X) (xs : List ℕ) (k : ℕ) (e : X) → k < length xs → get_or (map g xs) k e ≡ g (get_or xs k 0)
    get_or-map_at g [] k e less = absurd (omega arith)
    get_or-map_at g (x ∷ xs) zero e less = refl
    get_or-map_at g (x ∷ xs) (suc k) e less = get_or-map_at g xs k e (omega arith)

-- ---- the object of a birth is found

is_birth-same : (b x : Birth) → is_birth b (Some x) ≡ true → x ≡ b
is_birth-same b x h =
    let parts = and_parts (x.lane == b.lane) (x.serial == b.serial) h in
    let l : x.lane ≡ b.lane = eqb-true x.lane b.lane parts.0 in
    let s : x.serial ≡ b.serial = eqb-true x.serial b.serial parts.1 in
    let on_lane : ℕ → Birth = λ n. record { lane = n; serial = x.serial } in
    let on_serial : ℕ → Birth = λ n. record { lane = b.lane; serial = n } in
    ap on_lane l ∙ ap on_serial s

is_birth-itself : (b : Birth) → is_birth b (Some b) ≡ true
is_birth-itself b = rw (eq-eqb b.lane b.lane refl) (eq-eqb b.serial b.serial refl)

is_birth-from : (b : Birth) (o : Option Birth) → is_birth b o ≡ true → o ≡ Some b
is_birth-from b None h = absurd (let k : false ≡ true = h in cc)
is_birth-from b (Some x) h = ap Some (is_birth-same b x h)

found-at : (m : Memory) (b : Birth) (a n : ℕ) → ((x : ℕ) → births m x ≡ Some b → x ≡ a) → births m a ≡ Some b → a < n → found_below m b n ≡ object_in m (m a)
unfolding found_below
found-at m b a zero only is lt = absurd (omega arith)
found-at m b a (suc n) only is lt =
    elim (cases_Bool (is_birth b (births m n))) [
      | inl hit ↦ rw hit (let e : n ≡ a = only n (is_birth-from b (births m n) hit) in ap (λ (x : ℕ). object_in m (m x)) e)
      | inr miss ↦
          let ne : n ≢ a = λ e. (let h : is_birth b (births m n) ≡ true = ap (λ (x : ℕ). is_birth b (births m x)) e ∙ ap (is_birth b) is ∙ is_birth-itself b in let k : true ≡ false = sym h ∙ miss in cc) in
          rw miss (found-at m b a n only is (omega arith))
    ]

module _ (m : Memory) (roots : List Word) (lanes end : ℕ) (counts : List ℕ) (whole : IsWhole m roots lanes end counts) where
  made : List (List Object)
  made = made_in m end lanes counts

  object-there : (a : ℕ) (b : Birth) → births m a ≡ Some b → object_of (made_in m end lanes counts) b ≡ object_in m (m a)
  object-there a b is =
      let lane_in = whole.lane a b is in
      let serial_in = whole.serial a b is in
      let row = mapped-at (λ j. map (λ s. found_below m (birth_on j s) end) (numbers_below (get_or counts j 0))) lanes b.lane [] lane_in in
      let at = mapped-at (λ s. found_below m (birth_on b.lane s) end) (get_or counts b.lane 0) (b.serial - 1) no_object (let p = serial_in.0 in let q = serial_in.1 in omega arith) in
      let same : birth_on b.lane (b.serial - 1) ≡ b = (let p = serial_in.0 in let e : b.serial - 1 + 1 ≡ b.serial = omega arith in ap (λ (s : ℕ). let x : Birth = record { lane = b.lane; serial = s } in x) e) in
      ap (λ (xs : List Object). get_or xs (b.serial - 1) no_object) row ∙ at ∙ ap (λ (x : Birth). found_below m x end) same ∙ found-at m b a end (λ x h. whole.once x a b h is) is (whole.below a b is)

  word-read : (w : Word) → IsClosedWord m w → read (births m) w ≡ Some (value_of m w)
  word-read word.Nil h = refl
  word-read (word.Num n) h = refl
  word-read (word.Ref a) h = rw h.1 refl

  words-read : (ws : List Word) → AreClosed m ws → ReadAs (births m) ws (map (value_of m) ws)
  words-read ws closed = ReadAs-from (births m) ws (map (value_of m) ws) (sym (length-map ws (value_of m))) (λ i. word-read (get_or ws i word.Nil) (closed i) ∙ ap Some (sym (get_or-map (value_of m) ws i word.Nil)))

  value-there : (w : Word) (b : Birth) → value_of m w ≡ Obj b → (a : ℕ) × (births m a ≡ Some b)
  value-there word.Nil b e = absurd (let h : Nil ≡ Obj b = e in cc)
  value-there (word.Num n) b e = absurd (let h : Num n ≡ Obj b = e in cc)
  value-there (word.Ref a) b e = (a.0, by-option (births m a.0) e)
    where
      by-option : (o : Option Birth) → value_at o ≡ Obj b → o ≡ Some b
      by-option None h = absurd (let k : Nil ≡ Obj b = h in cc)
      by-option (Some x) h = (let k : Obj x ≡ Obj b = h in cc)

  values-there : (ws : List Word) (i : ℕ) (b : Birth) → get_or (map (value_of m) ws) i Nil ≡ Obj b → (a : ℕ) × (births m a ≡ Some b)
  values-there ws i b e = value-there (get_or ws i word.Nil) b (sym (get_or-map (value_of m) ws i word.Nil) ∙ e)

  reached-there : (b : Birth) → Reached (map (value_of m) roots) (made_in m end lanes counts) b → (a : ℕ) × (births m a ≡ Some b)
  reached-there b h =
      Reach-least (Holds (map (value_of m) roots)) (FieldHolds (made_in m end lanes counts)) (λ (x : Birth). (a : ℕ) × (births m a ≡ Some x))
      (λ x held. values-there roots held.0 x held.1)
      (λ x y _ at held.
      let cell = births-cell m at.0 x at.1 in
      let fields : object_of (made_in m end lanes counts) x ≡ object_in m (Some cell.0) = object-there at.0 x at.1 ∙ ap (object_in m) cell.1 in
      values-there cell.0.fields held.0 y (ap (λ (o : Object). get_or o.fields held.0 Nil) (sym fields) ∙ held.1))
      b h

  pub stands-for : Stands m roots (map (value_of m) roots) (made_in m end lanes counts)
  stands-for = record {
    values = words-read roots whole.roots_closed;
    home = λ b reached.
        let at = reached-there b reached in
        let cell = births-cell m at.0 b at.1 in
        let object : object_of (made_in m end lanes counts) b ≡ object_in m (Some cell.0) = object-there at.0 b at.1 ∙ ap (object_in m) cell.1 in (
          at.0,
          cell.0,
          subst (λ (o : Object). IsHome m b o at.0 cell.0) (sym object) (record {
            there = cell.1;
            birth = cell.2;
            domain = refl;
            count = whole.fields_counted at.0 cell.0 cell.1 ∙ sym (length-map cell.0.fields (value_of m));
            fields = words-read cell.0.fields (whole.fields_closed at.0 cell.0 cell.1);
            only = λ x h. whole.once x at.0 b h at.1;
          }),
        );
  }

  pub all-born : AllBorn m (made_in m end lanes counts)
  all-born a b is =
      let lane_in = whole.lane a b is in
      let serial_in = whole.serial a b is in
      let row = mapped-at (λ j. map (λ s. found_below m (birth_on j s) end) (numbers_below (get_or counts j 0))) lanes b.lane [] lane_in in
      let long : length (made_by (made_in m end lanes counts) b.lane) ≡ get_or counts b.lane 0 = ap length row ∙ length-map (numbers_below (get_or counts b.lane 0)) (λ s. found_below m (birth_on b.lane s) end) ∙ numbers-length (get_or counts b.lane 0) in
      record {
        lane = omega (arith, lane_in, length-map (numbers_below lanes) (λ j. map (λ s. found_below m (birth_on j s) end) (numbers_below (get_or counts j 0))), numbers-length lanes);
        positive = serial_in.0;
        serial = (let p = serial_in.1 in omega (arith, long));
      }

  -- ---- the state is one

  word-value : (domains : ℕ) (w : Word) → IsClosedWord m w → IsNumberWord w → IsValue (made_in m end lanes counts) (value_of m w)
  word-value domains word.Nil closed number = tt
  word-value domains (word.Num n) closed number = number
  word-value domains (word.Ref a) closed number = subst (λ (o : Option Birth). IsValue (made_in m end lanes counts) (value_at o)) (sym closed.1) (all-born a.0 closed.0 closed.1)

  words-values : (domains : ℕ) (ws : List Word) → AreClosed m ws → AreNumberWords ws → AreValues (made_in m end lanes counts) (map (value_of m) ws)
  words-values domains ws closed numbers i = subst (IsValue (made_in m end lanes counts)) (sym (get_or-map (value_of m) ws i word.Nil)) (word-value domains (get_or ws i word.Nil) (closed i) (numbers i))

  abbrev IsFound : Object → Type 0
  IsFound o = (o ≡ no_object) ⊎ ((a : ℕ) × (c : Cell) × (m a ≡ Some c) × (o ≡ object_in m (Some c)))

  found-is : (b : Birth) (n : ℕ) → IsFound (found_below m b n)
  unfolding found_below
  found-is b zero = inl refl
  found-is b (suc n) = elim (cases_Bool (is_birth b (births m n))) [
    | inl hit ↦
        let cell = births-cell m n b (is_birth-from b (births m n) hit) in
        rw hit (inr (n, cell.0, cell.1, ap (object_in m) cell.1))
    | inr miss ↦ rw miss (found-is b n)
  ]

  object-found : (b : Birth) → IsBorn (made_in m end lanes counts) b → IsFound (object_of (made_in m end lanes counts) b)
  object-found b born =
      let lane_in : b.lane < lanes = (let l = born.lane in omega (arith, l, length-map (numbers_below lanes) (λ j. map (λ s. found_below m (birth_on j s) end) (numbers_below (get_or counts j 0))), numbers-length lanes)) in
      let row = mapped-at (λ j. map (λ s. found_below m (birth_on j s) end) (numbers_below (get_or counts j 0))) lanes b.lane [] lane_in in
      let long : length (made_by (made_in m end lanes counts) b.lane) ≡ get_or counts b.lane 0 = ap length row ∙ length-map (numbers_below (get_or counts b.lane 0)) (λ s. found_below m (birth_on b.lane s) end) ∙ numbers-length (get_or counts b.lane 0) in
      let at = mapped-at (λ s. found_below m (birth_on b.lane s) end) (get_or counts b.lane 0) (b.serial - 1) no_object (let p = born.positive in let q = born.serial in omega (arith, long)) in
      let is : object_of (made_in m end lanes counts) b ≡ found_below m (birth_on b.lane (b.serial - 1)) end = ap (λ (xs : List Object). get_or xs (b.serial - 1) no_object) row ∙ at in
      subst IsFound (sym is) (found-is (birth_on b.lane (b.serial - 1)) end)

  pub made-state : (width : ℕ) (holders : List Holder) → lanes ≤ 16 → length holders ≤ 64 → 0 < length holders → width ≤ 256 → length roots ≡ width * length holders → AreInRange m roots (length holders)
      → ((d : ℕ) → d < length holders → IsHolder lanes (holder_of holders d))
      → IsState (record { width = width; made = made_in m end lanes counts; slots = map (value_of m) roots; holders = holders })
  made-state width holders few domains some narrow slots range held =
      let count : length (made_in m end lanes counts) ≡ lanes = length-map (numbers_below lanes) (λ j. map (λ s. found_below m (birth_on j s) end) (numbers_below (get_or counts j 0))) ∙ numbers-length lanes in
      record {
        lanes = omega (arith, count);
        domains = domains;
        width = narrow;
        slots = length-map roots (value_of m) ∙ slots;
        values = words-values (length holders) roots whole.roots_closed range.roots;
        objects = λ b born. elim (object-found b born) [
          | inl none ↦ subst (IsMadeObject (made_in m end lanes counts) (length holders)) (sym none) (record { domain = some; fields = omega arith; values = λ i. tt })
          | inr found ↦
              let c : Cell = found.1 in
              subst (IsMadeObject (made_in m end lanes counts) (length holders)) (sym found.3) (record {
                domain = range.domains found.0 c found.2;
                fields = (let n = range.fields found.0 c found.2 in omega (arith, length-map c.fields (value_of m)));
                values = words-values (length holders) c.fields (whole.fields_closed found.0 c found.2) (range.numbers found.0 c found.2);
              })
        ];
        holders = λ d lt. subst (λ (n : ℕ). IsHolder n (holder_of holders d)) (sym count) (held d lt);
      }
