-- What an object is after a write to it, to another, or after a new one.
use Rattle.std.proofs.Common.{◌≡◌, ◌≢◌, ℕ, ◌+◌, ◌-◌, ◌<◌, ◌⊎◌, List, [], ◌∷◌, ◌++◌, length, get_or, set, sym, ap, subst, ◌∙◌, inl, inr, arith, get_or-set_same, get_or-set_other, length-set}
use Rattle.std.proofs.lemmas.Bool.{cases_eq}
use Rattle.std.proofs.lemmas.List.{get_or_append_left, get_or_push, length_push}
use Rattle.bc_model.specs.State.{Object, IsBorn, made_by, object_of, no_object, with_born, with_made, next_birth}
use Rattle.bc_model.specs.declared.values.Birth.{Birth}

-- a birth is its lane and its serial
pub same_birth : (b c : Birth) → b.lane ≡ c.lane → b.serial ≡ c.serial → b ≡ c
same_birth b c p q =
    let lanes : b ≡ record { lane = c.lane; serial = b.serial } = ap (λ (l : ℕ). let r : Birth = record { lane = l; serial = b.serial } in r) p in
    let serials : record { lane = c.lane; serial = b.serial } ≡ c = ap (λ (n : ℕ). let r : Birth = record { lane = c.lane; serial = n } in r) q in
    lanes ∙ serials

-- what a lane has made, after a list of a lane is replaced
pub made_by-set_same : (made : List (List Object)) (j : ℕ) (xs : List Object) → j < length made → made_by (set made j xs) j ≡ xs
made_by-set_same made j xs h = get_or-set_same made j xs [] h

pub made_by-set_other : (made : List (List Object)) (j k : ℕ) (xs : List Object) → k ≢ j → made_by (set made j xs) k ≡ made_by made k
made_by-set_other made j k xs ne = get_or-set_other made j k xs [] ne

-- a write to an object leaves how many each lane has made
pub length-made_by-with_object : (made : List (List Object)) (c : Birth) (o : Object) (j : ℕ) → IsBorn made c → length (made_by (with_born made c o) j) ≡ length (made_by made j)
length-made_by-with_object made c o j h =
    elim (cases_eq j c.lane) [
      | inl e ↦ subst (λ (k : ℕ). length (made_by (with_born made c o) k) ≡ length (made_by made k)) (sym e)
          (ap length (made_by-set_same made c.lane _ h.lane) ∙ length-set (made_by made c.lane) (c.serial - 1) o)
      | inr ne ↦ ap length (made_by-set_other made c.lane j _ ne)
    ]

pub IsBorn-with_object : (made : List (List Object)) (c : Birth) (o : Object) (b : Birth) → IsBorn made c → IsBorn made b → IsBorn (with_born made c o) b
IsBorn-with_object made c o b h k = record {
  lane = omega (arith, k.lane, length-set made c.lane (set (made_by made c.lane) (c.serial - 1) o));
  positive = k.positive;
  serial = omega (arith, k.serial, length-made_by-with_object made c o b.lane h);
}

pub IsBorn-from_with_object : (made : List (List Object)) (c : Birth) (o : Object) (b : Birth) → IsBorn made c → IsBorn (with_born made c o) b → IsBorn made b
IsBorn-from_with_object made c o b h k = record {
  lane = omega (arith, k.lane, length-set made c.lane (set (made_by made c.lane) (c.serial - 1) o));
  positive = k.positive;
  serial = omega (arith, k.serial, length-made_by-with_object made c o b.lane h);
}

pub object_of-with_object_same : (made : List (List Object)) (c : Birth) (o : Object) → IsBorn made c → object_of (with_born made c o) c ≡ o
object_of-with_object_same made c o h =
    ap (λ (xs : List Object). get_or xs (c.serial - 1) no_object) (made_by-set_same made c.lane (set (made_by made c.lane) (c.serial - 1) o) h.lane)
    ∙ get_or-set_same (made_by made c.lane) (c.serial - 1) o no_object (omega (arith, h.serial, h.positive))

pub object_of-with_object_other : (made : List (List Object)) (c : Birth) (o : Object) (b : Birth) → IsBorn made c → IsBorn made b → (b ≡ c → ⊥) → object_of (with_born made c o) b ≡ object_of made b
object_of-with_object_other made c o b h k ne =
    elim (cases_eq b.lane c.lane) [
      | inl e ↦
          let apart : b.serial - 1 ≡ c.serial - 1 → ⊥ = λ f. ne (same_birth b c e (omega (arith, f, h.positive, k.positive))) in
          ap (λ (l : ℕ). get_or (made_by (with_born made c o) l) (b.serial - 1) no_object) e
          ∙ ap (λ (xs : List Object). get_or xs (b.serial - 1) no_object) (made_by-set_same made c.lane (set (made_by made c.lane) (c.serial - 1) o) h.lane)
          ∙ get_or-set_other (made_by made c.lane) (c.serial - 1) (b.serial - 1) o no_object apart
          ∙ ap (λ (l : ℕ). get_or (made_by made l) (b.serial - 1) no_object) (sym e)
      | inr f ↦ ap (λ (xs : List Object). get_or xs (b.serial - 1) no_object) (made_by-set_other made c.lane b.lane (set (made_by made c.lane) (c.serial - 1) o) f)
    ]

-- two births are one or not
pub cases_birth : (b c : Birth) → (b ≡ c) ⊎ (b ≡ c → ⊥)
cases_birth b c =
    elim (cases_eq b.lane c.lane) [
      | inl e ↦ elim (cases_eq b.serial c.serial) [
        | inl f ↦ inl (same_birth b c e f)
        | inr f ↦ inr (λ g. f (ap (λ (x : Birth). x.serial) g))
      ]
      | inr e ↦ inr (λ g. e (ap (λ (x : Birth). x.lane) g))
    ]

-- a new object: its lane has made one more, the others as many as before
pub made_by-with_made_same : (made : List (List Object)) (j : ℕ) (o : Object) → j < length made → made_by (with_made made j o) j ≡ made_by made j ++ o ∷ []
made_by-with_made_same made j o h = made_by-set_same made j (made_by made j ++ o ∷ []) h

pub made_by-with_made_other : (made : List (List Object)) (j k : ℕ) (o : Object) → k ≢ j → made_by (with_made made j o) k ≡ made_by made k
made_by-with_made_other made j k o ne = made_by-set_other made j k (made_by made j ++ o ∷ []) ne

pub length-with_made : (made : List (List Object)) (j : ℕ) (o : Object) → length (with_made made j o) ≡ length made
length-with_made made j o = length-set made j (made_by made j ++ o ∷ [])

pub IsBorn-with_made : (made : List (List Object)) (j : ℕ) (o : Object) (b : Birth) → j < length made → IsBorn made b → IsBorn (with_made made j o) b
IsBorn-with_made made j o b h k = record {
  lane = omega (arith, k.lane, length-with_made made j o);
  positive = k.positive;
  serial = elim (cases_eq b.lane j) [
    | inl e ↦ subst (λ (l : ℕ). b.serial < length (made_by (with_made made j o) l) + 1) (sym e)
        (let same : b.serial < length (made_by made j) + 1 = subst (λ (l : ℕ). b.serial < length (made_by made l) + 1) e k.serial in
        omega (arith, same, ap length (made_by-with_made_same made j o h), length_push (made_by made j) o))
    | inr ne ↦ omega (arith, k.serial, ap length (made_by-with_made_other made j b.lane o ne))
  ];
}

pub IsBorn-next_birth : (made : List (List Object)) (j : ℕ) (o : Object) → j < length made → IsBorn (with_made made j o) (next_birth made j)
IsBorn-next_birth made j o h = record {
  lane = omega (arith, length-with_made made j o);
  positive = omega arith;
  serial = omega (arith, ap length (made_by-with_made_same made j o h), length_push (made_by made j) o);
}

-- what is born after a new object was born before it, or is that object
pub IsBorn-from_with_made : (made : List (List Object)) (j : ℕ) (o : Object) (b : Birth) → j < length made → IsBorn (with_made made j o) b → IsBorn made b ⊎ (b ≡ next_birth made j)
IsBorn-from_with_made made j o b h k =
    let lane : b.lane < length made = omega (arith, k.lane, length-with_made made j o) in
    elim (cases_eq b.lane j) [
      | inl e ↦
          let below : b.serial < length (made_by made j) + 1 + 1 =
          (let at : b.serial < length (made_by (with_made made j o) j) + 1 = subst (λ (l : ℕ). b.serial < length (made_by (with_made made j o) l) + 1) e k.serial in
          omega (arith, at, ap length (made_by-with_made_same made j o h), length_push (made_by made j) o)) in
          elim (cases_eq b.serial (length (made_by made j) + 1)) [
            | inl f ↦ inr (same_birth b (next_birth made j) e f)
            | inr f ↦ inl (record {
              lane = lane;
              positive = k.positive;
              serial = subst (λ (l : ℕ). b.serial < length (made_by made l) + 1) (sym e) (omega (arith, below, f));
            })
          ]
      | inr ne ↦ inl (record {
        lane = lane;
        positive = k.positive;
        serial = omega (arith, k.serial, ap length (made_by-with_made_other made j b.lane o ne));
      })
    ]

pub object_of-with_made_same : (made : List (List Object)) (j : ℕ) (o : Object) → j < length made → object_of (with_made made j o) (next_birth made j) ≡ o
object_of-with_made_same made j o h =
    ap (λ (xs : List Object). get_or xs (length (made_by made j) + 1 - 1) no_object) (made_by-with_made_same made j o h)
    ∙ get_or_push (made_by made j) o no_object (length (made_by made j) + 1 - 1) (omega arith)

pub object_of-with_made_other : (made : List (List Object)) (j : ℕ) (o : Object) (b : Birth) → j < length made → IsBorn made b → object_of (with_made made j o) b ≡ object_of made b
object_of-with_made_other made j o b h k =
    elim (cases_eq b.lane j) [
      | inl e ↦
          let within : b.serial - 1 < length (made_by made j) =
          (let at : b.serial < length (made_by made j) + 1 = subst (λ (l : ℕ). b.serial < length (made_by made l) + 1) e k.serial in
          omega (arith, at, k.positive)) in
          ap (λ (l : ℕ). get_or (made_by (with_made made j o) l) (b.serial - 1) no_object) e
          ∙ ap (λ (xs : List Object). get_or xs (b.serial - 1) no_object) (made_by-with_made_same made j o h)
          ∙ get_or_append_left (made_by made j) (o ∷ []) no_object (b.serial - 1) within
          ∙ ap (λ (l : ℕ). get_or (made_by made l) (b.serial - 1) no_object) (sym e)
      | inr ne ↦ ap (λ (xs : List Object). get_or xs (b.serial - 1) no_object) (made_by-with_made_other made j b.lane o ne)
    ]
