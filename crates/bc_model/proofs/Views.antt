-- Lists of lists behind a view: what is read at a place, and what a write leaves.
use Rattle.std.proofs.Common.{add-one, ◌≡◌, ℕ, ◌+◌, ◌-◌, ◌<◌, List, [], ◌∷◌, ◌++◌, length, get_or, set, map, Result, OnErr, Ok, Err, sym, ap, ◌∙◌, arith}
use Rattle.std.proofs.lemmas.List.{map-set, length-map, get_or-map, get_or_read, set-get_or, map_push}
use Rattle.bc_model.specs.State.{Object, IsBorn, made_by, object_of, no_object, numbers_below}
use Rattle.bc_model.specs.declared.values.Birth.{Birth}

pub on_err : {T E : Type 0} {P : Type 0} (r : Result T E) → P → OnErr r P
on_err (Ok x) h = tt
on_err (Err e) h = h

-- the element of vs at j is seen as the list at j
pub view-at : {V : Type 0} (f : V → List Object) (vs : List V) (made : List (List Object)) (j : ℕ) (v : V) → map f vs ≡ made → j < length made → v ≡ get_or vs j v → f v ≡ made_by made j
view-at f vs made j v e h read =
    let within : j < length vs = omega (arith, h, ap length e, length-map vs f) in
    ap f read ∙ sym (get_or-map f vs j v [] within) ∙ ap (λ (xs : List (List Object)). get_or xs j []) e

-- and what a write there is seen as
pub view-set : {V : Type 0} (f : V → List Object) (vs : List V) (made : List (List Object)) (j : ℕ) (w : V) (xs : List Object) → map f vs ≡ made → f w ≡ xs → map f (set vs j w) ≡ set made j xs
view-set f vs made j w xs e g =
    map-set f vs j w ∙ ap (λ (ls : List (List Object)). set ls j (f w)) e ∙ ap (λ (x : List Object). set made j x) g

pub view-set_same : {V : Type 0} (f : V → List Object) (vs : List V) (made : List (List Object)) (j : ℕ) (w : V) → map f vs ≡ made → f w ≡ made_by made j → map f (set vs j w) ≡ made
view-set_same f vs made j w e g = view-set f vs made j w (made_by made j) e g ∙ set-get_or made j []

-- the object at a birth, read from its lane's list
pub object-at : (made : List (List Object)) (b : Birth) (xs : List Object) (o : Object) → xs ≡ made_by made b.lane → IsBorn made b → o ≡ get_or xs (b.serial - 1) o → o ≡ object_of made b
object-at made b xs o e h read =
    let within : b.serial - 1 < length xs = omega (arith, h.serial, h.positive, ap length e) in
    get_or_read xs (b.serial - 1) o within read no_object ∙ ap (λ (ys : List Object). get_or ys (b.serial - 1) no_object) e

-- the first n numbers, and one more
pub map-numbers_below-more : {X : Type 0} (f : ℕ → X) (n : ℕ) → map f (numbers_below (n + 1)) ≡ map f (numbers_below n) ++ f n ∷ []
map-numbers_below-more f n = rw add-one (map_push f (numbers_below n) n)
