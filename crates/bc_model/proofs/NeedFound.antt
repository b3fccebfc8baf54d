-- Every state has a need: what it reaches is found one object after another.
use Rattle.std.proofs.Common.{◌≡◌, ◌⊎◌, ℕ, ◌+◌, ◌<◌, List, [], ◌∷◌, length, get_or, refl, sym, ap, subst, inl, inr, arith}
use Prim.Native.Nat.{zero, suc}
use Rattle.std.proofs.lemmas.Bool.{cases_eq}
use Rattle.bc_reach.specs.Distinct.{Has, Distinct}
use Rattle.bc_reach.specs.Reach.{begin, onward}
use Rattle.bc_reach.proofs.Reaching.{Reach-least}
use Rattle.bc_model.specs.Consistent.{IsState, IsValue}
use Rattle.bc_model.specs.Need.{IsNeed, need_of, count_of}
use Rattle.bc_model.specs.Reached.{Holds, FieldHolds, Reached}
use Rattle.bc_model.specs.State.{State, Object, IsBorn, object_of, made_by}
use Rattle.bc_model.specs.declared.values.Birth.{Birth}
use Rattle.bc_model.specs.declared.values.Value.{Value}
use Rattle.bc_model.specs.declared.values.Value.TheVariants.{Nil, Num, Obj}
use Rattle.bc_model.proofs.Objects.{cases_birth, same_birth}

-- a birth stands in a list or it doesn't
has-or : (xs : List Birth) (b : Birth) → Has xs b ⊎ (Has xs b → ⊥)
has-or [] b = inr (λ h. h)
has-or (x ∷ xs) b = elim (cases_birth x b) [
  | inl e ↦ inl (inl e)
  | inr ne ↦ elim (has-or xs b) [
    | inl h ↦ inl (inr h)
    | inr absent ↦ inr (λ h. neither ne absent h)
  ]
]
  where
    neither : (x ≡ b → ⊥) → (Has xs b → ⊥) → Has (x ∷ xs) b → ⊥
    neither ne absent (inl e) = ne e
    neither ne absent (inr h) = absent h

-- a value refers to an object or it doesn't
abbrev birth_of : Value → Birth
birth_of Nil = record { lane = 0; serial = 0 }
birth_of (Num n) = record { lane = 0; serial = 0 }
birth_of (Obj b) = b

nil_no : (b : Birth) → Nil ≡ Obj b → ⊥
nil_no b e = cc

num_no : (n : ℕ) (b : Birth) → Num n ≡ Obj b → ⊥
num_no n b e = cc

value-or : (v : Value) (b : Birth) → (v ≡ Obj b) ⊎ (v ≡ Obj b → ⊥)
value-or Nil b = inr (nil_no b)
value-or (Num n) b = inr (num_no n b)
value-or (Obj c) b = elim (cases_birth c b) [
  | inl e ↦ inl (ap Obj e)
  | inr ne ↦ inr (λ e. ne (ap birth_of e))
]

holds-or : (vs : List Value) (b : Birth) → Holds vs b ⊎ (Holds vs b → ⊥)
holds-or [] b = inr (λ h. nil_no b h.1)
holds-or (v ∷ vs) b = elim (value-or v b) [
  | inl e ↦ inl (0, e)
  | inr ne ↦ elim (holds-or vs b) [
    | inl h ↦ inl (suc h.0, h.1)
    | inr absent ↦ inr (λ h. neither ne absent h.0 h.1)
  ]
]
  where
    neither : (v ≡ Obj b → ⊥) → (Holds vs b → ⊥) → (i : ℕ) → get_or (v ∷ vs) i Nil ≡ Obj b → ⊥
    neither ne absent zero e = ne e
    neither ne absent (suc i) e = absent (i, e)

-- a slot leads to the object, or a field of one of these objects
abbrev Led : List Value → List (List Object) → List Birth → Birth → Type 0
Led slots made [] b = Holds slots b
Led slots made (x ∷ xs) b = FieldHolds made x b ⊎ Led slots made xs b

led-or : (slots : List Value) (made : List (List Object)) (xs : List Birth) (b : Birth) → Led slots made xs b ⊎ (Led slots made xs b → ⊥)
led-or slots made [] b = holds-or slots b
led-or slots made (x ∷ xs) b = elim (holds-or (object_of made x).fields b) [
  | inl h ↦ inl (inl h)
  | inr ne ↦ elim (led-or slots made xs b) [
    | inl h ↦ inl (inr h)
    | inr absent ↦ inr (λ h. neither ne absent h)
  ]
]
  where
    neither : (FieldHolds made x b → ⊥) → (Led slots made xs b → ⊥) → Led slots made (x ∷ xs) b → ⊥
    neither ne absent (inl h) = ne h
    neither ne absent (inr h) = absent h

led-slot : (slots : List Value) (made : List (List Object)) (xs : List Birth) (b : Birth) → Holds slots b → Led slots made xs b
led-slot slots made [] b h = h
led-slot slots made (x ∷ xs) b h = inr (led-slot slots made xs b h)

led-field : (slots : List Value) (made : List (List Object)) (xs : List Birth) (a b : Birth) → Has xs a → FieldHolds made a b → Led slots made xs b
led-field slots made [] a b has h = absurd has
led-field slots made (x ∷ xs) a b (inl e) h = inl (subst (λ (y : Birth). FieldHolds made y b) (sym e) h)
led-field slots made (x ∷ xs) a b (inr has) h = inr (led-field slots made xs a b has h)

led-reached : (slots : List Value) (made : List (List Object)) (xs : List Birth) (b : Birth) → ((a : Birth) → Has xs a → Reached slots made a) → Led slots made xs b → Reached slots made b
led-reached slots made [] b reached h = begin b h
led-reached slots made (x ∷ xs) b reached (inl h) = onward x b (reached x (inl refl)) h
led-reached slots made (x ∷ xs) b reached (inr h) = led-reached slots made xs b (λ a has. reached a (inr has)) h

-- an object that is led to and wasn't found yet, and the objects beside it
record IsNext (slots : List Value) (made : List (List Object)) (xs rest : List Birth) : Type 0 where
  birth : Birth
  others : List Birth
  less : length rest ≡ length others + 1
  new : Has xs birth → ⊥
  led : Led slots made xs birth
  covers : (c : Birth) → Has rest c → Has (birth ∷ others) c

next : (slots : List Value) (made : List (List Object)) (xs rest : List Birth) → IsNext slots made xs rest ⊎ ((c : Birth) → Has rest c → Led slots made xs c → Has xs c)
next slots made xs [] = inr (λ c h. absurd h)
next slots made xs (u ∷ rest) = elim (has-or xs u) [
  | inl there ↦ skip (λ led. there) (next slots made xs rest)
  | inr absent ↦ elim (led-or slots made xs u) [
    | inl led ↦ inl (record { birth = u; others = rest; less = omega arith; new = absent; led = led; covers = λ c h. h })
    | inr ne ↦ skip (λ led. absurd (ne led)) (next slots made xs rest)
  ]
]
  where
    swap : (y c : Birth) (zs : List Birth) → Has rest c ⊎ (u ≡ c) → ((d : Birth) → Has rest d → Has (y ∷ zs) d) → Has (y ∷ u ∷ zs) c
    swap y c zs (inr e) covers = inr (inl e)
    swap y c zs (inl h) covers = elim (covers c h) [
      | inl e ↦ inl e
      | inr k ↦ inr (inr k)
    ]

    turn : (c : Birth) → Has (u ∷ rest) c → Has rest c ⊎ (u ≡ c)
    turn c (inl e) = inr e
    turn c (inr h) = inl h

    known : (Led slots made xs u → Has xs u) → ((c : Birth) → Has rest c → Led slots made xs c → Has xs c) → (c : Birth) → Has (u ∷ rest) c → Led slots made xs c → Has xs c
    known here none c (inl e) led = subst (λ (d : Birth). Has xs d) e (here (subst (λ (d : Birth). Led slots made xs d) (sym e) led))
    known here none c (inr h) led = none c h led

    skip : (Led slots made xs u → Has xs u) → IsNext slots made xs rest ⊎ ((c : Birth) → Has rest c → Led slots made xs c → Has xs c) → IsNext slots made xs (u ∷ rest) ⊎ ((c : Birth) → Has (u ∷ rest) c → Led slots made xs c → Has xs c)
    skip here (inl n) = inl (record {
      birth = n.birth;
      others = u ∷ n.others;
      less = omega (arith, n.less);
      new = n.new;
      led = n.led;
      covers = λ c h. swap n.birth c n.others (turn c h) n.covers;
    })
    skip here (inr none) = inr (known here none)

-- all that is reached, each once
record AreReached (slots : List Value) (made : List (List Object)) : Type 0 where
  births : List Birth
  distinct : Distinct births
  reached : (b : Birth) → Has births b → Reached slots made b
  all : (b : Birth) → Reached slots made b → Has births b

found : (slots : List Value) (made : List (List Object)) (n : ℕ) (xs rest : List Birth) → length rest < n → Distinct xs → ((b : Birth) → Has xs b → Reached slots made b) → ((b : Birth) → Reached slots made b → Has xs b ⊎ Has rest b) → AreReached slots made
found slots made zero xs rest few distinct reached cover = absurd (omega (arith, few))
found slots made (suc n) xs rest few distinct reached cover = elim (next slots made xs rest) [
  | inl x ↦ found slots made n (x.birth ∷ xs) x.others (omega (arith, few, x.less)) (x.new, distinct) (more x) (cover_less x)
  | inr none ↦ record {
    births = xs;
    distinct = distinct;
    reached = reached;
    all = λ b h. Reach-least (Holds slots) (FieldHolds made) (Has xs)
        (λ a k. closed none a (begin a k) (led-slot slots made xs a k))
        (λ a c r has k. closed none c (onward a c r k) (led-field slots made xs a c has k)) b h;
  }
]
  where
    more : (x : IsNext slots made xs rest) → (b : Birth) → Has (x.birth ∷ xs) b → Reached slots made b
    more x b (inl e) = subst (λ (c : Birth). Reached slots made c) e (led-reached slots made xs x.birth reached x.led)
    more x b (inr h) = reached b h

    split : (x : IsNext slots made xs rest) (b : Birth) → Has xs b ⊎ Has rest b → Has (x.birth ∷ xs) b ⊎ Has x.others b
    split x b (inl h) = inl (inr h)
    split x b (inr h) = elim (x.covers b h) [
      | inl e ↦ inl (inl e)
      | inr k ↦ inr k
    ]

    cover_less : (x : IsNext slots made xs rest) (b : Birth) → Reached slots made b → Has (x.birth ∷ xs) b ⊎ Has x.others b
    cover_less x b r = split x b (cover b r)

    closed : ((c : Birth) → Has rest c → Led slots made xs c → Has xs c) → (b : Birth) → Reached slots made b → Led slots made xs b → Has xs b
    closed none b r led = elim (cover b r) [
      | inl h ↦ h
      | inr k ↦ none b k led
    ]

-- the objects that were born, of a lane before others
births_of : ℕ → ℕ → List Birth → List Birth
births_of lane zero others = others
births_of lane (suc n) others = record { lane = lane; serial = suc n } ∷ births_of lane n others

of-lane : (lane n : ℕ) (others : List Birth) (b : Birth) → b.lane ≡ lane → 0 < b.serial → b.serial < n + 1 → Has (births_of lane n others) b
unfolding births_of
of-lane lane zero others b e positive small = absurd (omega (arith, positive, small))
of-lane lane (suc n) others b e positive small = elim (cases_eq b.serial (suc n)) [
  | inl same ↦ inl (same_birth (record { lane = lane; serial = suc n }) b (sym e) (sym same))
  | inr ne ↦ inr (of-lane lane n others b e positive (omega (arith, small, ne)))
]

of-others : (lane n : ℕ) (others : List Birth) (b : Birth) → Has others b → Has (births_of lane n others) b
unfolding births_of
of-others lane zero others b h = h
of-others lane (suc n) others b h = inr (of-others lane n others b h)

births_below : List (List Object) → ℕ → List Birth
births_below made zero = []
births_below made (suc j) = births_of j (length (made_by made j)) (births_below made j)

born-below : (made : List (List Object)) (j : ℕ) (b : Birth) → b.lane < j → 0 < b.serial → b.serial < length (made_by made b.lane) + 1 → Has (births_below made j) b
unfolding births_below
born-below made zero b lane positive small = absurd (omega (arith, lane))
born-below made (suc j) b lane positive small = elim (cases_eq b.lane j) [
  | inl e ↦ of-lane j (length (made_by made j)) (births_below made j) b e positive (omega (arith, small, ap (λ (l : ℕ). length (made_by made l)) e))
  | inr ne ↦ of-others j (length (made_by made j)) (births_below made j) b (born-below made j b (omega (arith, lane, ne)) positive small)
]

-- what is reached was born
held-born : (made : List (List Object)) (v : Value) (b : Birth) → IsValue made v → v ≡ Obj b → IsBorn made b
held-born made v b h e = subst (IsValue made) e h

pub reached-born : (s : State) (b : Birth) → IsState s → Reached s.slots s.made b → IsBorn s.made b
reached-born s b st h =
    Reach-least (Holds s.slots) (FieldHolds s.made) (IsBorn s.made)
    (λ a k. held-born s.made (get_or s.slots k.0 Nil) a (st.values k.0) k.1)
    (λ a c _ born k. held-born s.made (get_or (object_of s.made a).fields k.0 Nil) c ((st.objects a born).values k.0) k.1)
    b h

pub need-found : (s : State) → IsState s → (n : ℕ) × IsNeed s n
need-found s st =
    let born = births_below s.made (length s.made) in
    let all = found s.slots s.made (length born + 1) [] born (omega arith) tt (λ b h. absurd h)
    (λ b r. (let is = reached-born s b st r in inr (born-below s.made (length s.made) b is.lane is.positive is.serial))) in (
      need_of (length s.holders) (count_of s.made all.births),
      record {
        births = all.births;
        distinct = all.distinct;
        members = λ b. (all.reached b, all.all b);
        need = refl;
      },
    )
