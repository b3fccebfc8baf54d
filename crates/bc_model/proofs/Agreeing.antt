-- Lane k's part stays the same when other lanes work, and changes alike where lane k does the same in both states.
use Rattle.std.proofs.Common.{◌≡◌, ◌≢◌, ℕ, ◌+◌, ◌*◌, ◌<◌, true, List, length, get_or, set, replicate, refl, sym, ap, ap₂, subst, ◌∙◌, inl, inr, arith, get_or-set_same, get_or-set_other, mul_comm}
use Rattle.std.proofs.lemmas.Bool.{cases_eq}
use Rattle.std.proofs.lemmas.List.{length_push}
use Rattle.std.proofs.lemmas.Nat.{mul-add-lt, same_from_place}
use Rattle.bc_model.specs.Consistent.{IsState}
use Rattle.bc_model.specs.StateSizes.{sizes_of}
use Rattle.bc_model.specs.State.{State, Object, IsBorn, made_by, object_of, next_birth, with_born, with_made, with_value, with_slot, with_born_field, place_of, holder_of, lets_read, reads, writes}
use Rattle.bc_model.specs.WellFormed.{IsSlot}
use Rattle.bc_model.specs.declared.values.Holder.{Holder}
use Rattle.bc_model.specs.declared.values.Birth.{Birth}
use Rattle.bc_model.specs.declared.values.Slot.{Slot}
use Rattle.bc_model.specs.declared.values.Value.{Value}
use Rattle.bc_model.specs.declared.values.Value.TheVariants.{Nil, Obj}
use Rattle.bc_model.proofs.Holders.{alone_reads, writer-reads}
use Rattle.bc_model.proofs.Objects.{cases_birth, length-made_by-with_object, IsBorn-from_with_object, object_of-with_object_same, object_of-with_object_other, made_by-with_made_same, made_by-with_made_other, length-with_made, IsBorn-with_made, IsBorn-next_birth, IsBorn-from_with_made, object_of-with_made_same, object_of-with_made_other}
use Rattle.bc_model.proofs.Steps.{Grows-after_write}
use Rattle.bc_model.proofs.Effects.{Effect, Keep, Put, Write, Make, after_effect, IsOwn, Agrees, Agrees-itself}

-- who may write a domain alone may read it
one_holder : (s : State) (j k d e : ℕ) → writes s j d ≡ true → reads s k e ≡ true → d ≡ e → j ≡ k
one_holder s j k d e h i same =
    alone_reads (holder_of s.holders e) j k (subst (λ (x : ℕ). writes s j x ≡ true) same h) i

-- who may write a domain may read it
pub writer_reads : (s : State) (j d : ℕ) → writes s j d ≡ true → reads s j d ≡ true
writer_reads s j d w = writer-reads (holder_of s.holders d) j w

-- a place is one slot's
pub same-place : (width : ℕ) (p q : Slot) → p.slot < width → q.slot < width → place_of width p ≡ place_of width q → p ≡ q
same-place width p q hp hq e =
    let both = same_from_place p.domain p.slot q.domain q.slot width hp hq (ap (λ (x : ℕ). x + p.slot) (mul_comm p.domain width) ∙ e ∙ ap (λ (x : ℕ). x + q.slot) (mul_comm width q.domain)) in
    ap₂ (λ (d k : ℕ). let r : Slot = record { domain = d; slot = k } in r) both.0 both.1

-- slots of two domains stand apart
apart : (width : ℕ) (p q : Slot) → p.slot < width → q.slot < width → (p.domain ≡ q.domain → ⊥) → place_of width p ≡ place_of width q → ⊥
apart width p q hp hq ne e = ne (ap (λ (x : Slot). x.domain) (same-place width p q hp hq e))

-- the same holders hold the same
reads-same : (s t : State) (k d : ℕ) → t.holders ≡ s.holders → reads s k d ≡ true → reads t k d ≡ true
reads-same s t k d e h = subst (λ (hs : List Holder). lets_read (holder_of hs d) k ≡ true) (sym e) h

-- where a slot of the sizes stands
pub place-within : (s : State) (p : Slot) → length s.slots ≡ s.width * length s.holders → IsSlot (sizes_of s) p → place_of s.width p < length s.slots
place-within s p slots h =
    omega (arith, slots, mul-add-lt p.domain s.width p.slot (length s.holders) h.0 h.1, mul_comm p.domain s.width)

-- a reads as b to lane k, and b as c
pub Agrees-then : (k : ℕ) (a b c : State) → Agrees k a b → Agrees k b c → Agrees k a c
Agrees-then k a b c g h = record {
  width = h.width ∙ g.width;
  holders = h.holders ∙ g.holders;
  lanes = h.lanes ∙ g.lanes;
  next = h.next ∙ g.next;
  born = λ x m. h.born x (g.born x m);
  domain = λ x m. h.domain x (g.born x m) ∙ g.domain x m;
  object = λ x m held.
      h.object x (g.born x m) (reads-same a b k _ g.holders (subst (λ (d : ℕ). reads a k d ≡ true) (sym (g.domain x m)) held)) ∙ g.object x m held;
  mine = λ x m held.
      let before : IsBorn b.made x = h.mine x m (reads-same a b k _ g.holders held) in
      g.mine x before (subst (λ (d : ℕ). reads a k d ≡ true) (h.domain x before) held);
  slot = λ p fits held.
      h.slot p (omega (arith, fits.0, ap length g.holders), omega (arith, fits.1, g.width)) (reads-same a b k _ g.holders held) ∙ g.slot p fits held;
}

-- another lane writes a slot
other-put : (k j : ℕ) (s : State) (p : Slot) (v : Value) → j ≢ k → p.slot < s.width → writes s j p.domain ≡ true → Agrees k s (with_slot s p v)
other-put k j s p v ne fits own = record {
  width = refl;
  holders = refl;
  lanes = refl;
  next = refl;
  born = λ x m. m;
  domain = λ x m. refl;
  object = λ x m held. refl;
  mine = λ x m held. m;
  slot = λ q fits' held.
      get_or-set_other s.slots (place_of s.width p) (place_of s.width q) v Nil
      (apart s.width q p fits'.1 fits (λ e. ne (one_holder s j k p.domain q.domain own held (sym e))));
}

-- it writes a field
other-write : (k j : ℕ) (s : State) (c : Birth) (i : ℕ) (v : Value) → j ≢ k → IsBorn s.made c → writes s j (object_of s.made c).domain ≡ true → Agrees k s (with_born_field s c i v)
other-write k j s c i v ne born own =
    let o : Object = with_value (object_of s.made c) i v in
    let grows = Grows-after_write s c i v born in
    record {
      width = refl;
      holders = refl;
      lanes = grows.lanes;
      next = length-made_by-with_object s.made c o k born;
      born = grows.born;
      domain = grows.domain;
      object = λ x m held.
          object_of-with_object_other s.made c o x born m
          (λ e. ne (one_holder s j k _ _ own held (sym (ap (λ (y : Birth). (object_of s.made y).domain) e))));
      mine = λ x m held. IsBorn-from_with_object s.made c o x born m;
      slot = λ q fits held. refl;
    }

-- it makes an object
other-made : (k j : ℕ) (s : State) (o : Object) → j ≢ k → j < length s.made → writes s j o.domain ≡ true → Agrees k s (record s { made = with_made s.made j o })
other-made k j s o ne lane own = record {
  width = refl;
  holders = refl;
  lanes = length-with_made s.made j o;
  next = ap length (made_by-with_made_other s.made j k o (λ e. ne (sym e)));
  born = λ x m. IsBorn-with_made s.made j o x lane m;
  domain = λ x m. ap (λ (y : Object). y.domain) (object_of-with_made_other s.made j o x lane m);
  object = λ x m held. object_of-with_made_other s.made j o x lane m;
  mine = λ x m held.
      elim (IsBorn-from_with_made s.made j o x lane m) [
        | inl before ↦ before
        | inr e ↦
            let domain = ap (λ (y : Birth). (object_of (with_made s.made j o) y).domain) e ∙ ap (λ (y : Object). y.domain) (object_of-with_made_same s.made j o lane) in
            absurd (ne (one_holder s j k _ _ own held (sym domain)))
      ];
  slot = λ q fits held. refl;
}

pub other-effect : (k j : ℕ) (s : State) (e : Effect) → j ≢ k → j < length s.made → IsOwn s j e → Agrees k s (after_effect s j e)
other-effect k j s Keep ne lane own = Agrees-itself k s
other-effect k j s (Put p v) ne lane own = other-put k j s p v ne own.0.1 own.1
other-effect k j s (Write c i v) ne lane own = other-write k j s c i v ne own.0 own.1
other-effect k j s (Make p n) ne lane own =
    let o : Object = record { domain = p.domain; fields = replicate n Nil } in
    let more : State = record s { made = with_made s.made j o } in
    Agrees-then k s more (with_slot more p (Obj (next_birth s.made j))) (other-made k j s o ne lane own.1)
    (other-put k j more p (Obj (next_birth s.made j)) ne own.0.1 own.1)

-- lane k writes a slot in both
own-put : (k : ℕ) (s t : State) (p : Slot) (v : Value) → Agrees k s t → length s.slots ≡ s.width * length s.holders → length t.slots ≡ t.width * length t.holders → IsSlot (sizes_of s) p → Agrees k (with_slot s p v) (with_slot t p v)
own-put k s t p v a hs ht fits =
    let fits' : IsSlot (sizes_of t) p = (omega (arith, fits.0, ap length a.holders), omega (arith, fits.1, a.width)) in
    record {
      width = a.width;
      holders = a.holders;
      lanes = a.lanes;
      next = a.next;
      born = a.born;
      domain = a.domain;
      object = a.object;
      mine = a.mine;
      slot = λ q at held.
          elim (cases_eq (place_of s.width q) (place_of s.width p)) [
            | inl e ↦
                let e' : place_of t.width q ≡ place_of t.width p = subst (λ (w : ℕ). place_of w q ≡ place_of w p) (sym a.width) e in
                ap (λ (x : ℕ). get_or (set t.slots (place_of t.width p) v) x Nil) e' ∙ get_or-set_same t.slots (place_of t.width p) v Nil (place-within t p ht fits')
                ∙ sym (ap (λ (x : ℕ). get_or (set s.slots (place_of s.width p) v) x Nil) e ∙ get_or-set_same s.slots (place_of s.width p) v Nil (place-within s p hs fits))
            | inr ne ↦
                let ne' : place_of t.width q ≡ place_of t.width p → ⊥ = subst (λ (w : ℕ). place_of w q ≡ place_of w p → ⊥) (sym a.width) ne in
                get_or-set_other t.slots (place_of t.width p) (place_of t.width q) v Nil ne' ∙ a.slot q at held
                ∙ sym (get_or-set_other s.slots (place_of s.width p) (place_of s.width q) v Nil ne)
          ];
    }

-- a field
own-write : (k : ℕ) (s t : State) (c : Birth) (i : ℕ) (v : Value) → Agrees k s t → IsBorn s.made c → writes s k (object_of s.made c).domain ≡ true → Agrees k (with_born_field s c i v) (with_born_field t c i v)
own-write k s t c i v a born own =
    let os : Object = with_value (object_of s.made c) i v in
    let ot : Object = with_value (object_of t.made c) i v in
    let born' = a.born c born in
    let gs = Grows-after_write s c i v born in
    let gt = Grows-after_write t c i v born' in
    record {
      width = a.width;
      holders = a.holders;
      lanes = gt.lanes ∙ a.lanes ∙ sym gs.lanes;
      next = length-made_by-with_object t.made c ot k born' ∙ a.next ∙ sym (length-made_by-with_object s.made c os k born);
      born = λ x m. gt.born x (a.born x (IsBorn-from_with_object s.made c os x born m));
      domain = λ x m.
          let before = IsBorn-from_with_object s.made c os x born m in
          gt.domain x (a.born x before) ∙ a.domain x before ∙ sym (gs.domain x before);
      object = λ x m held.
          let before = IsBorn-from_with_object s.made c os x born m in
          elim (cases_birth x c) [
            | inl e ↦
                ap (λ (y : Birth). object_of (with_born t.made c ot) y) e ∙ object_of-with_object_same t.made c ot born'
                ∙ ap (λ (y : Object). with_value y i v) (a.object c born (writer_reads s k _ own))
                ∙ sym (ap (λ (y : Birth). object_of (with_born s.made c os) y) e ∙ object_of-with_object_same s.made c os born)
            | inr ne ↦
                object_of-with_object_other t.made c ot x born' (a.born x before) ne
                ∙ a.object x before (subst (λ (d : ℕ). reads s k d ≡ true) (gs.domain x before) held)
                ∙ sym (object_of-with_object_other s.made c os x born before ne)
          ];
      mine = λ x m held.
          let before = IsBorn-from_with_object t.made c ot x born' m in
          gs.born x (a.mine x before (subst (λ (d : ℕ). reads s k d ≡ true) (gt.domain x before) held));
      slot = a.slot;
    }

-- an object
own-made : (k : ℕ) (s t : State) (o : Object) → Agrees k s t → k < length s.made → Agrees k (record s { made = with_made s.made k o }) (record t { made = with_made t.made k o })
own-made k s t o a lane =
    let lane' : k < length t.made = omega (arith, lane, a.lanes) in
    let next : next_birth t.made k ≡ next_birth s.made k = ap (λ (n : ℕ). let b : Birth = record { lane = k; serial = n + 1 } in b) a.next in
    record {
      width = a.width;
      holders = a.holders;
      lanes = length-with_made t.made k o ∙ a.lanes ∙ sym (length-with_made s.made k o);
      next = omega (arith, ap length (made_by-with_made_same t.made k o lane'), ap length (made_by-with_made_same s.made k o lane), length_push (made_by t.made k) o, length_push (made_by s.made k) o, a.next);
      born = λ x m.
          elim (IsBorn-from_with_made s.made k o x lane m) [
            | inl before ↦ IsBorn-with_made t.made k o x lane' (a.born x before)
            | inr e ↦ subst (λ (y : Birth). IsBorn (with_made t.made k o) y) (next ∙ sym e) (IsBorn-next_birth t.made k o lane')
          ];
      domain = λ x m.
          elim (IsBorn-from_with_made s.made k o x lane m) [
            | inl before ↦ ap (λ (y : Object). y.domain) (object_of-with_made_other t.made k o x lane' (a.born x before)) ∙ a.domain x before ∙ sym (ap (λ (y : Object). y.domain) (object_of-with_made_other s.made k o x lane before))
            | inr e ↦ ap (λ (y : Object). y.domain) (new_in s t o a lane x e)
          ];
      object = λ x m held.
          elim (IsBorn-from_with_made s.made k o x lane m) [
            | inl before ↦
                object_of-with_made_other t.made k o x lane' (a.born x before)
                ∙ a.object x before (subst (λ (y : Object). reads s k y.domain ≡ true) (object_of-with_made_other s.made k o x lane before) held)
                ∙ sym (object_of-with_made_other s.made k o x lane before)
            | inr e ↦ new_in s t o a lane x e
          ];
      mine = λ x m held.
          elim (IsBorn-from_with_made t.made k o x lane' m) [
            | inl before ↦ IsBorn-with_made s.made k o x lane (a.mine x before (subst (λ (y : Object). reads s k y.domain ≡ true) (object_of-with_made_other t.made k o x lane' before) held))
            | inr e ↦ subst (λ (y : Birth). IsBorn (with_made s.made k o) y) (sym (e ∙ next)) (IsBorn-next_birth s.made k o lane)
          ];
      slot = a.slot;
    }
  where
    -- the new object is the same in both
    new_in : (s t : State) (o : Object) → Agrees k s t → k < length s.made → (x : Birth) → x ≡ next_birth s.made k → object_of (with_made t.made k o) x ≡ object_of (with_made s.made k o) x
    new_in s t o a lane x e =
        let next : next_birth t.made k ≡ next_birth s.made k = ap (λ (n : ℕ). let b : Birth = record { lane = k; serial = n + 1 } in b) a.next in
        ap (λ (y : Birth). object_of (with_made t.made k o) y) (e ∙ sym next) ∙ object_of-with_made_same t.made k o (omega (arith, lane, a.lanes))
        ∙ sym (ap (λ (y : Birth). object_of (with_made s.made k o) y) e ∙ object_of-with_made_same s.made k o lane)

pub own-effect : (k : ℕ) (s t : State) (e : Effect) → Agrees k s t → IsState s → IsState t → k < length s.made → IsOwn s k e → Agrees k (after_effect s k e) (after_effect t k e)
own-effect k s t Keep a hs ht lane own = a
own-effect k s t (Put p v) a hs ht lane own = own-put k s t p v a hs.slots ht.slots own.0
own-effect k s t (Write c i v) a hs ht lane own = own-write k s t c i v a own.0 own.1
own-effect k s t (Make p n) a hs ht lane own =
    let o : Object = record { domain = p.domain; fields = replicate n Nil } in
    let ms : State = record s { made = with_made s.made k o } in
    let mt : State = record t { made = with_made t.made k o } in
    let next : next_birth t.made k ≡ next_birth s.made k = ap (λ (n : ℕ). let b : Birth = record { lane = k; serial = n + 1 } in b) a.next in
    subst (λ (b : Birth). Agrees k (with_slot ms p (Obj (next_birth s.made k))) (with_slot mt p (Obj b))) (sym next)
    (own-put k ms mt p (Obj (next_birth s.made k)) (own-made k s t o a lane) hs.slots ht.slots own.0)
