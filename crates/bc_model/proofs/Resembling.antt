-- A step from two states that are alike as far as slots lead has one reply, and they are alike again.
use Rattle.std.proofs.Common.{◌≡◌, ◌⊎◌, ℕ, ◌+◌, ◌<◌, nat_lt, Bool, true, false, if◌then◌else◌, List, [], ◌∷◌, length, get_or, set, replicate, slice_index_or, refl, sym, ap, subst, ◌∙◌, inl, inr, arith}
use Prim.Native.Nat.{zero, suc}
use Rattle.std.specs.List.{list_all}
use Rattle.std.proofs.lemmas.List.{length-set, length_push}
use Rattle.std.proofs.lemmas.Bool.{cases_eq}
use Rattle.bc_reach.specs.Reach.{begin, onward}
use Rattle.bc_reach.proofs.Reaching.{Reach-least}
use Rattle.bc_model.specs.Consistent.{IsState}
use Rattle.bc_model.specs.Reached.{Reached, Holds, FieldHolds}
use Rattle.bc_model.specs.Resembles.{AreLike, Resembles}
use Rattle.bc_model.specs.State.{State, Object, IsBorn, made_by, object_of, next_birth, slot_of, field_of, with_born, with_made, with_value, with_slot, with_born_field, place_of, reads, writes}
use Rattle.bc_model.specs.Step.{step, act, domains_of, target_writes, on_object, on_field, on_own_field, told, loaded, is_same, with_new}
use Rattle.bc_model.specs.declared.operations.Op.{Op}
use Rattle.bc_model.specs.declared.operations.Op.TheVariants as op
use Rattle.bc_model.specs.declared.operations.Reply.{Reply}
use Rattle.bc_model.specs.declared.operations.Reply.TheVariants as reply
use Rattle.bc_model.specs.declared.values.Birth.{Birth}
use Rattle.bc_model.specs.declared.values.Holder.{Holder}
use Rattle.bc_model.specs.declared.values.Slot.{Slot}
use Rattle.bc_model.specs.declared.values.Value.{Value}
use Rattle.bc_model.specs.declared.values.Value.TheVariants.{Nil, Num, Obj}
use Rattle.bc_model.proofs.NeedFound.{reached-born}
use Rattle.bc_model.proofs.Objects.{cases_birth, length-made_by-with_object, object_of-with_object_same, object_of-with_object_other, made_by-with_made_same, made_by-with_made_other, length-with_made, object_of-with_made_same, object_of-with_made_other}

-- a list that changes at one place has there the new value or the old one
set-either : (xs : List Value) (i j : ℕ) (v : Value) → (get_or (set xs i v) j Nil ≡ v) ⊎ (get_or (set xs i v) j Nil ≡ get_or xs j Nil)
set-either [] i j v = inr refl
set-either (x ∷ xs) zero zero v = inl refl
set-either (x ∷ xs) zero (suc j) v = inr refl
set-either (x ∷ xs) (suc i) zero v = inr refl
set-either (x ∷ xs) (suc i) (suc j) v = set-either xs i j v

nil-held : (n i : ℕ) (b : Birth) → get_or (replicate n Nil) i Nil ≡ Obj b → ⊥
nil-held zero i b h = absurd (let c : Nil ≡ Obj b = h in cc)
nil-held (suc n) zero b h = absurd (let c : Nil ≡ Obj b = h in cc)
nil-held (suc n) (suc i) b h = nil-held n i b h

obj-same : (b c : Birth) → Obj b ≡ Obj c → b ≡ c
obj-same b c h = (let k : Obj b ≡ Obj c = h in cc)

-- a value that leads to nothing new
abbrev IsKnown : State → Value → Type 0
IsKnown s v = (b : Birth) → v ≡ Obj b → Reached s.slots s.made b

-- from the two states the steps come to states that are alike again, with one reply
record Both (x y : State × Reply) : Type 0 where
  pub made : List (List Object)
  pub state : y.0 ≡ record (x.0) { made = made }
  pub like : AreLike x.0 made
  pub answer : y.1 ≡ x.1

module _ (s : State) (more : List (List Object)) (k : ℕ) (lane : k < length s.made) (is : IsState s) (like : AreLike s more) where
  other : State
  other = record s { made = more }

  born-more : (b : Birth) → IsBorn s.made b → IsBorn more b
  born-more b h = record { lane = (let e = like.lanes in let l = h.lane in omega arith); positive = h.positive; serial = (let e = like.next b.lane in let l = h.serial in omega arith) }

  slot-known : (p : Slot) → IsKnown s (slot_of s p)
  slot-known p b e = begin b (place_of s.width p, e)

  field-known : (b : Birth) (i : ℕ) → Reached s.slots s.made b → IsKnown s (field_of s b i)
  field-known b i h c e = onward b c h (i, e)

  keep-both : (r q : Reply) → q ≡ r → Both (s, r) (record s { made = more }, q)
  keep-both r q e = record { made = more; state = refl; like = like; answer = e }

  -- a slot
  reached-put : (i : ℕ) (v : Value) → IsKnown s v → (b : Birth) → Reached (set s.slots i v) s.made b → Reached s.slots s.made b
  reached-put i v known b h =
      Reach-least (Holds (set s.slots i v)) (FieldHolds s.made) (Reached s.slots s.made)
      (λ x held. elim (set-either s.slots i held.0 v) [ inl new ↦ known x (sym new ∙ held.1) | inr old ↦ begin x (held.0, sym old ∙ held.1) ])
      (λ x y _ rx held. onward x y rx held)
      b h

  put-both : (p : Slot) (v : Value) (r : Reply) → IsKnown s v → Both (with_slot s p v, r) (with_slot (record s { made = more }) p v, r)
  put-both p v r known = record {
    made = more;
    state = refl;
    like = record { lanes = like.lanes; next = like.next; object = λ b h. like.object b (reached-put (place_of s.width p) v known b h) };
    answer = refl;
  }

  -- a field
  reached-write : (c : Birth) (i : ℕ) (v : Value) → Reached s.slots s.made c → IsKnown s v → (b : Birth) → Reached s.slots (with_born s.made c (with_value (object_of s.made c) i v)) b → Reached s.slots s.made b
  reached-write c i v rc known b h =
      let o : Object = with_value (object_of s.made c) i v in
      let born = reached-born s c is rc in
      Reach-least (Holds s.slots) (FieldHolds (with_born s.made c o)) (Reached s.slots s.made)
      (λ x held. begin x held)
      (λ x y _ rx held.
      elim (cases_birth x c) [
        | inl e ↦
            let fields : object_of (with_born s.made c o) x ≡ o = ap (object_of (with_born s.made c o)) e ∙ object_of-with_object_same s.made c o born in
            let at : get_or (set (object_of s.made c).fields i v) held.0 Nil ≡ Obj y = ap (λ (z : Object). get_or z.fields held.0 Nil) (sym fields) ∙ held.1 in
            (elim (set-either (object_of s.made c).fields i held.0 v) [ inl new ↦ known y (sym new ∙ at) | inr old ↦ onward c y rc (held.0, sym old ∙ at) ])
        | inr ne ↦ onward x y rx (held.0, ap (λ (z : Object). get_or z.fields held.0 Nil) (sym (object_of-with_object_other s.made c o x born (reached-born s x is rx) ne)) ∙ held.1)
      ])
      b h

  write-both : (c : Birth) (i : ℕ) (v : Value) (r : Reply) → Reached s.slots s.made c → IsKnown s v → Both (with_born_field s c i v, r) (with_born_field (record s { made = more }) c i v, r)
  write-both c i v r rc known =
      let o : Object = with_value (object_of s.made c) i v in
      let p : Object = with_value (object_of more c) i v in
      let born = reached-born s c is rc in
      let born' = born-more c born in
      let same : p ≡ o = ap (λ (x : Object). with_value x i v) (like.object c rc) in
      record {
        made = with_born more c p;
        state = refl;
        like = record {
          lanes = length-set more c.lane _ ∙ like.lanes ∙ sym (length-set s.made c.lane _);
          next = λ j. length-made_by-with_object more c p j born' ∙ like.next j ∙ sym (length-made_by-with_object s.made c o j born);
          object = λ b h.
              let rb = reached-write c i v rc known b h in
              let bb = reached-born s b is rb in
              elim (cases_birth b c) [
                | inl e ↦ ap (object_of (with_born more c p)) e ∙ object_of-with_object_same more c p born' ∙ same ∙ sym (ap (object_of (with_born s.made c o)) e ∙ object_of-with_object_same s.made c o born)
                | inr ne ↦ object_of-with_object_other more c p b born' (born-more b bb) ne ∙ like.object b rb ∙ sym (object_of-with_object_other s.made c o b born bb ne)
              ];
        };
        answer = refl;
      }

  -- an object
  reached-make : (o : Object) (i n : ℕ) → o.fields ≡ replicate n Nil → (b : Birth) → Reached (set s.slots i (Obj (next_birth s.made k))) (with_made s.made k o) b → Reached s.slots s.made b ⊎ (b ≡ next_birth s.made k)
  reached-make o i n empty b h =
      let next : Birth = next_birth s.made k in
      Reach-least (Holds (set s.slots i (Obj next))) (FieldHolds (with_made s.made k o)) (λ (x : Birth). Reached s.slots s.made x ⊎ (x ≡ next))
      (λ x held. elim (set-either s.slots i held.0 (Obj next)) [ inl new ↦ inr (obj-same x next (sym held.1 ∙ new)) | inr old ↦ inl (begin x (held.0, sym old ∙ held.1)) ])
      (λ x y _ rx held.
      elim rx [
        | inl old ↦ inl (onward x y old (held.0, ap (λ (z : Object). get_or z.fields held.0 Nil) (sym (object_of-with_made_other s.made k o x lane (reached-born s x is old))) ∙ held.1))
        | inr e ↦
            let fields : object_of (with_made s.made k o) x ≡ o = ap (object_of (with_made s.made k o)) e ∙ object_of-with_made_same s.made k o lane in
            absurd (nil-held n held.0 y (ap (λ (zs : List Value). get_or zs held.0 Nil) (sym (ap (λ (z : Object). z.fields) fields ∙ empty)) ∙ held.1))
      ])
      b h

  make-both : (p : Slot) (n : ℕ) → Both (with_new s k p n, reply.Obj (next_birth s.made k)) (with_new (record s { made = more }) k p n, reply.Obj (next_birth more k))
  make-both p n =
      let o : Object = record { domain = p.domain; fields = replicate n Nil } in
      let lane' : k < length more = (let e = like.lanes in omega arith) in
      let next : next_birth more k ≡ next_birth s.made k = ap (λ (m : ℕ). let b : Birth = record { lane = k; serial = m + 1 } in b) (like.next k) in
      record {
        made = with_made more k o;
        state = ap (λ (b : Birth). with_slot (record s { made = with_made more k o }) p (Obj b)) next;
        like = record {
          lanes = length-with_made more k o ∙ like.lanes ∙ sym (length-with_made s.made k o);
          next = λ j. elim (cases_eq j k) [
            | inl e ↦
                subst (λ (i : ℕ). length (made_by (with_made more k o) i) ≡ length (made_by (with_made s.made k o) i)) (sym e)
                (ap length (made_by-with_made_same more k o lane') ∙ length_push (made_by more k) o ∙ ap (λ (m : ℕ). m + 1) (like.next k) ∙ sym (ap length (made_by-with_made_same s.made k o lane) ∙ length_push (made_by s.made k) o))
            | inr ne ↦ ap length (made_by-with_made_other more k j o ne) ∙ like.next j ∙ sym (ap length (made_by-with_made_other s.made k j o ne))
          ];
          object = λ b h. elim (reached-make o (place_of s.width p) n refl b h) [
            | inl old ↦
                let bb = reached-born s b is old in
                object_of-with_made_other more k o b lane' (born-more b bb) ∙ like.object b old ∙ sym (object_of-with_made_other s.made k o b lane bb)
            | inr e ↦ ap (object_of (with_made more k o)) (e ∙ sym next) ∙ object_of-with_made_same more k o lane' ∙ sym (ap (object_of (with_made s.made k o)) e ∙ object_of-with_made_same s.made k o lane)
          ];
        };
        answer = ap reply.Obj next;
      }

  -- ---- the operations

  if-both : (b : Bool) (r : Reply) (x y : State × Reply) → Both x y → Both (if b then x else (s, r)) (if b then y else (record s { made = more }, r))
  if-both true r x y h = h
  if-both false r x y h = keep-both r r refl

  object-both : (v : Value) (f g : Birth → State × Reply) → IsKnown s v → ((b : Birth) → Reached s.slots s.made b → Both (f b) (g b)) → Both (on_object s k v f) (on_object (record s { made = more }) k v g)
  object-both Nil f g known h = keep-both reply.NotObj reply.NotObj refl
  object-both (Num n) f g known h = keep-both reply.NotObj reply.NotObj refl
  object-both (Obj b) f g known h =
      let rb = known b refl in
      subst (λ (o : Object). Both (on_object s k (Obj b) f) (if reads s k o.domain then g b else (record s { made = more }, reply.Foreign))) (sym (like.object b rb))
      (if-both (reads s k (object_of s.made b).domain) reply.Foreign (f b) (g b) (h b rb))

  field-both : (v : Value) (i : ℕ) (f g : Birth → State × Reply) → IsKnown s v → ((b : Birth) → Reached s.slots s.made b → Both (f b) (g b)) → Both (on_field s k v i f) (on_field (record s { made = more }) k v i g)
  field-both v i f g known h =
      object-both v (λ b. if nat_lt i (length (object_of s.made b).fields) then f b else (s, reply.Range)) (λ b. if nat_lt i (length (object_of more b).fields) then g b else (record s { made = more }, reply.Range)) known
      (λ b rb.
      subst (λ (o : Object). Both (if nat_lt i (length (object_of s.made b).fields) then f b else (s, reply.Range)) (if nat_lt i (length o.fields) then g b else (record s { made = more }, reply.Range))) (sym (like.object b rb))
      (if-both (nat_lt i (length (object_of s.made b).fields)) reply.Range (f b) (g b) (h b rb)))

  own-both : (v : Value) (i : ℕ) (f g : Birth → State × Reply) → IsKnown s v → ((b : Birth) → Reached s.slots s.made b → Both (f b) (g b)) → Both (on_own_field s k v i f) (on_own_field (record s { made = more }) k v i g)
  own-both v i f g known h =
      object-both v
      (λ b. if writes s k (object_of s.made b).domain then (if nat_lt i (length (object_of s.made b).fields) then f b else (s, reply.Range)) else (s, reply.Frozen))
      (λ b. if writes s k (object_of more b).domain then (if nat_lt i (length (object_of more b).fields) then g b else (record s { made = more }, reply.Range)) else (record s { made = more }, reply.Frozen))
      known
      (λ b rb.
      subst (λ (o : Object). Both (if writes s k (object_of s.made b).domain then (if nat_lt i (length (object_of s.made b).fields) then f b else (s, reply.Range)) else (s, reply.Frozen)) (if writes s k o.domain then (if nat_lt i (length o.fields) then g b else (record s { made = more }, reply.Range)) else (record s { made = more }, reply.Frozen))) (sym (like.object b rb))
      (if-both (writes s k (object_of s.made b).domain) reply.Frozen (if nat_lt i (length (object_of s.made b).fields) then f b else (s, reply.Range)) (if nat_lt i (length (object_of s.made b).fields) then g b else (record s { made = more }, reply.Range))
      (if-both (nat_lt i (length (object_of s.made b).fields)) reply.Range (f b) (g b) (h b rb))))

  told-both : (v : Value) → IsKnown s v → told (record s { made = more }) k v ≡ told s k v
  told-both Nil known = refl
  told-both (Num n) known = refl
  told-both (Obj b) known = ap (λ (o : Object). if reads s k o.domain then reply.Obj b else reply.Foreign) (like.object b (known b refl))

  act-both : (o : Op) → Both (act s k o) (act (record s { made = more }) k o)
  act-both (op.New p n) = make-both p n
  act-both (op.Who p) = keep-both (told s k (slot_of s p)) (told (record s { made = more }) k (slot_of s p)) (told-both (slot_of s p) (slot-known p))
  act-both (op.Len p) = object-both (slot_of s p) (λ b. (s, reply.Len (length (object_of s.made b).fields))) (λ b. (record s { made = more }, reply.Len (length (object_of more b).fields))) (slot-known p) (λ b rb. keep-both (reply.Len (length (object_of s.made b).fields)) (reply.Len (length (object_of more b).fields)) (ap (λ (o : Object). reply.Len (length o.fields)) (like.object b rb)))
  act-both (op.Set p i v) = own-both (slot_of s p) i (λ b. (with_born_field s b i (Num v), reply.Done)) (λ b. (with_born_field (record s { made = more }) b i (Num v), reply.Done)) (slot-known p) (λ b rb. write-both b i (Num v) reply.Done rb (λ c e. absurd (let h : Num v ≡ Obj c = e in cc)))
  act-both (op.Cut p i) = own-both (slot_of s p) i (λ b. (with_born_field s b i Nil, reply.Done)) (λ b. (with_born_field (record s { made = more }) b i Nil, reply.Done)) (slot-known p) (λ b rb. write-both b i Nil reply.Done rb (λ c e. absurd (let h : Nil ≡ Obj c = e in cc)))
  act-both (op.Link p i q) = own-both (slot_of s p) i (λ b. (with_born_field s b i (slot_of s q), reply.Done)) (λ b. (with_born_field (record s { made = more }) b i (slot_of s q), reply.Done)) (slot-known p) (λ b rb. write-both b i (slot_of s q) reply.Done rb (slot-known q))
  act-both (op.Load p i q) = field-both (slot_of s p) i (λ b. (with_slot s q (field_of s b i), loaded (field_of s b i))) (λ b. (with_slot (record s { made = more }) q (field_of (record s { made = more }) b i), loaded (field_of (record s { made = more }) b i))) (slot-known p)
      (λ b rb.
      subst (λ (o : Object). Both (with_slot s q (field_of s b i), loaded (field_of s b i)) (with_slot (record s { made = more }) q (slice_index_or o.fields i Nil), loaded (slice_index_or o.fields i Nil))) (sym (like.object b rb))
      (put-both q (field_of s b i) (loaded (field_of s b i)) (field-known b i rb)))
  act-both (op.Copy p q) = put-both q (slot_of s p) reply.Done (slot-known p)
  act-both (op.Clear p) = put-both p Nil reply.Done (λ c e. absurd (let h : Nil ≡ Obj c = e in cc))
  act-both (op.Same p q) = keep-both (if is_same (slot_of s p) (slot_of s q) then reply.Yes else reply.No) (if is_same (slot_of s p) (slot_of s q) then reply.Yes else reply.No) refl

  step-both : (o : Op) → Both (step s k o) (step (record s { made = more }) k o)
  step-both o =
      if-both (list_all (reads s k) (domains_of o)) reply.Foreign (if target_writes s k o then act s k o else (s, reply.Frozen)) (if target_writes s k o then act (record s { made = more }) k o else (record s { made = more }, reply.Frozen))
      (if-both (target_writes s k o) reply.Frozen (act s k o) (act (record s { made = more }) k o) (act-both o))

-- the law: one reply, and states that are alike again
pub law-resembling : (s t : State) (k : ℕ) (o : Op) → k < length s.made → IsState s → Resembles s t → Resembles (step s k o).0 (step t k o).0 × ((step t k o).1 ≡ (step s k o).1)
law-resembling s t k o lane is r =
    let same : t ≡ record s { made = t.made } = rebuilt t s.width s.slots s.holders r.width r.slots r.holders in
    let b = step-both s t.made k lane is r.objects o in
    subst (λ (x : State). Resembles (step s k o).0 (step x k o).0 × ((step x k o).1 ≡ (step s k o).1)) (sym same) (
      record {
        width = ap (λ (x : State). x.width) b.state;
        slots = ap (λ (x : State). x.slots) b.state;
        holders = ap (λ (x : State). x.holders) b.state;
        objects = subst (AreLike (step s k o).0) (sym (ap (λ (x : State). x.made) b.state)) b.like;
      },
      b.answer,
    )
  where
    rebuilt : (t : State) (w : ℕ) (vs : List Value) (hs : List Holder) → t.width ≡ w → t.slots ≡ vs → t.holders ≡ hs → t ≡ record { width = w; made = t.made; slots = vs; holders = hs }
    rebuilt t w vs hs e f g = rw (sym e, sym f, sym g) refl
