-- The table of kinds, and the names of replies.
use Rattle.std.proofs.Common.{◌≡◌, ℕ, ◌+◌, ◌<◌, ◌↔◌, List, [], ◌∷◌, ◌++◌, suc, length, get_or, slice_index_or, refl, sym, ap, subst, ◌∙◌, inl, inr, arith}
use Rattle.std.specs.Prelude.{codes}
use Rattle.std.specs.Fmt.{decimal}
use Rattle.std.proofs.lemmas.Bool.{cases_lt}
use Rattle.bc_model.specs.WellFormed.{IsWithin}
use Rattle.bc_model.specs.declared.operations.Op.{Op}
use Rattle.bc_model.specs.declared.operations.Op.TheVariants as ops
use Rattle.bc_model.specs.declared.operations.Reply.{Reply}
use Rattle.bc_model.specs.declared.operations.Reply.TheVariants as replies
use Rattle.bc_model.specs.declared.values.Slot.{Slot}
use Rattle.bc_trace.specs.declared.words.Verb.{Verb}
use Rattle.bc_trace.specs.declared.words.Verb.TheVariants as verbs
use Rattle.bc_churn.specs.Counts.{kind_names, kind_of_reply}
use Rattle.bc_churn.specs.KindNames.{IsNamed}
use Rattle.bc_churn.specs.Draws.{draw, draws, drawn_op, drawn_verb, drawn_with, limits_of, next_number, number_after, number_after_op, verb_of_kind}
use Rattle.bc_churn.specs.DrawnKinds.{first_kind, IsDrawn, last_kind}
use Rattle.bc_trace.specs.Lines.{verb_of_op, operands_of_op}
use Rattle.bc_trace.specs.Replies.{reply_word}
use Rattle.bc_churn.proofs.Formed.{draw-below}

-- from its first kind to its last it is this operation
verb-within : (v : Verb) (k : ℕ) → IsWithin (first_kind v) (last_kind v) k → verb_of_kind k ≡ v
unfolding verb_of_kind
verb-within verbs.New k h = grind (arith, h)
verb-within verbs.Who k h = grind (arith, h)
verb-within verbs.Len k h = grind (arith, h)
verb-within verbs.Set k h = grind (arith, h)
verb-within verbs.Cut k h = grind (arith, h)
verb-within verbs.Link k h = grind (arith, h)
verb-within verbs.Load k h = grind (arith, h)
verb-within verbs.Copy k h = grind (arith, h)
verb-within verbs.Clear k h = grind (arith, h)
verb-within verbs.Same k h = grind (arith, h)

-- each kind is within those of some operation
record HasVerb (k : ℕ) : Type 0 where
  verb : Verb
  within : IsWithin (first_kind verb) (last_kind verb) k

verb-of : (k : ℕ) → k < 20 → HasVerb k
verb-of k h =
    elim (cases_lt k 6) [
      | inl a ↦ record { verb = verbs.New; within = (omega arith, omega (arith, a)) }
      | inr a ↦ elim (cases_lt k 7) [
        | inl b ↦ record { verb = verbs.Who; within = (a, omega (arith, b)) }
        | inr b ↦ elim (cases_lt k 8) [
          | inl c ↦ record { verb = verbs.Len; within = (b, omega (arith, c)) }
          | inr c ↦ elim (cases_lt k 10) [
            | inl d ↦ record { verb = verbs.Set; within = (c, omega (arith, d)) }
            | inr d ↦ elim (cases_lt k 11) [
              | inl e ↦ record { verb = verbs.Cut; within = (d, omega (arith, e)) }
              | inr e ↦ elim (cases_lt k 14) [
                | inl f ↦ record { verb = verbs.Link; within = (e, omega (arith, f)) }
                | inr f ↦ elim (cases_lt k 17) [
                  | inl g ↦ record { verb = verbs.Load; within = (f, omega (arith, g)) }
                  | inr g ↦ elim (cases_lt k 18) [
                    | inl i ↦ record { verb = verbs.Copy; within = (g, omega (arith, i)) }
                    | inr i ↦ elim (cases_lt k 19) [
                      | inl j ↦ record { verb = verbs.Clear; within = (i, omega (arith, j)) }
                      | inr j ↦ record { verb = verbs.Same; within = (j, omega (arith, h)) }
                    ]
                  ]
                ]
              ]
            ]
          ]
        ]
      ]
    ]

kind-within : (k : ℕ) → k < 20 → IsWithin (first_kind (verb_of_kind k)) (last_kind (verb_of_kind k)) k
kind-within k h =
    let v = verb-of k h in
    subst (λ (w : Verb). IsWithin (first_kind w) (last_kind w) k) (sym (verb-within v.verb k v.within)) v.within

pub kinds-are : (k : ℕ) (v : Verb) → k < 20 → (verb_of_kind k ≡ v) ↔ IsWithin (first_kind v) (last_kind v) k
kinds-are k v h = ((λ e. subst (λ (w : Verb). IsWithin (first_kind w) (last_kind w) k) e (kind-within k h)), verb-within v k)

-- ---- a drawn operation

verb-is : (v : Verb) (x : ℕ) → verb_of_op (drawn_with v x) ≡ v
unfolding drawn_with
verb-is verbs.New x = refl
verb-is verbs.Who x = refl
verb-is verbs.Len x = refl
verb-is verbs.Set x = refl
verb-is verbs.Cut x = refl
verb-is verbs.Link x = refl
verb-is verbs.Load x = refl
verb-is verbs.Copy x = refl
verb-is verbs.Clear x = refl
verb-is verbs.Same x = refl

operands-are : (v : Verb) (x : ℕ) → operands_of_op (drawn_with v x) ≡ draws x (limits_of v)
unfolding drawn_with limits_of
operands-are verbs.New x = refl
operands-are verbs.Who x = refl
operands-are verbs.Len x = refl
operands-are verbs.Set x = refl
operands-are verbs.Cut x = refl
operands-are verbs.Link x = refl
operands-are verbs.Load x = refl
operands-are verbs.Copy x = refl
operands-are verbs.Clear x = refl
operands-are verbs.Same x = refl

draws-length : (x : ℕ) (ms : List ℕ) → length (draws x ms) ≡ length ms
draws-length x [] = refl
draws-length x (m ∷ ms) = ap suc (draws-length (next_number x) ms)

one-more : (n x : ℕ) → number_after (1 + n) x ≡ number_after n (next_number x)
one-more n x = let e : 1 + n ≡ suc n = omega arith in rw e refl

pub is-drawn : (x : ℕ) → IsDrawn x (drawn_op x) (number_after_op x)
unfolding number_after_op
is-drawn x =
    let v = drawn_verb x in
    let verb = verb-is v (next_number x) in
    let operands = operands-are v (next_number x) in
    record {
      kind = subst (λ (w : Verb). IsWithin (first_kind w) (last_kind w) (draw x 20)) (sym verb) (kind-within (draw x 20) (draw-below x 20 (omega arith)));
      operands = operands ∙ ap (λ (w : Verb). draws (next_number x) (limits_of w)) (sym verb);
      after = sym (ap (λ (n : ℕ). number_after (1 + n) x) (ap length operands ∙ draws-length (next_number x) (limits_of v)) ∙ one-more (length (limits_of v)) x);
    }

-- an operation is what its word and its operands say
slot_from : List ℕ → ℕ → Slot
slot_from ns i = record { domain = get_or ns i 0; slot = get_or ns (i + 1) 0 }

op_from : Verb → List ℕ → Op
op_from verbs.New ns = ops.New (slot_from ns 0) (get_or ns 2 0)
op_from verbs.Who ns = ops.Who (slot_from ns 0)
op_from verbs.Len ns = ops.Len (slot_from ns 0)
op_from verbs.Set ns = ops.Set (slot_from ns 0) (get_or ns 2 0) (get_or ns 3 0)
op_from verbs.Cut ns = ops.Cut (slot_from ns 0) (get_or ns 2 0)
op_from verbs.Link ns = ops.Link (slot_from ns 0) (get_or ns 2 0) (slot_from ns 3)
op_from verbs.Load ns = ops.Load (slot_from ns 0) (get_or ns 2 0) (slot_from ns 3)
op_from verbs.Copy ns = ops.Copy (slot_from ns 0) (slot_from ns 2)
op_from verbs.Clear ns = ops.Clear (slot_from ns 0)
op_from verbs.Same ns = ops.Same (slot_from ns 0) (slot_from ns 2)

op_again : (o : Op) → op_from (verb_of_op o) (operands_of_op o) ≡ o
unfolding op_from slot_from
op_again (ops.New p n) = refl
op_again (ops.Who p) = refl
op_again (ops.Len p) = refl
op_again (ops.Set p i v) = refl
op_again (ops.Cut p i) = refl
op_again (ops.Link p i q) = refl
op_again (ops.Load p i q) = refl
op_again (ops.Copy p q) = refl
op_again (ops.Clear p) = refl
op_again (ops.Same p q) = refl

same-op : (o p : Op) → verb_of_op o ≡ verb_of_op p → operands_of_op o ≡ operands_of_op p → o ≡ p
same-op o p e f =
    sym (op_again o) ∙ ap (λ (v : Verb). op_from v (operands_of_op o)) e ∙ ap (op_from (verb_of_op p)) f ∙ op_again p

pub drawn-alone : (x y : ℕ) (o : Op) → IsDrawn x o y → (o ≡ drawn_op x) × (y ≡ number_after_op x)
drawn-alone x y o h =
    let d = is-drawn x in
    let low = draw-below x 20 (omega arith) in
    let verb : verb_of_op o ≡ verb_of_op (drawn_op x) = sym ((kinds-are (draw x 20) (verb_of_op o) low).1 h.kind) ∙ (kinds-are (draw x 20) (verb_of_op (drawn_op x)) low).1 d.kind in
    let operands = h.operands ∙ ap (λ (w : Verb). draws (next_number x) (limits_of w)) verb ∙ sym d.operands in
    (same-op o (drawn_op x) verb operands, h.after ∙ ap (λ (ns : List ℕ). number_after (1 + length ns) x) operands ∙ sym d.after)

-- ---- the names of replies

pub reply-begins : (r : Reply) → IsNamed (reply_word r) (slice_index_or kind_names (kind_of_reply r) (codes "frozen"))
unfolding reply_word kind_of_reply
reply-begins (replies.Obj b) = inr (decimal b.lane ++ codes "." ++ decimal b.serial, refl)
reply-begins replies.Done = inl refl
reply-begins replies.Nil = inl refl
reply-begins (replies.Num v) = inr (decimal v, refl)
reply-begins replies.Ref = inl refl
reply-begins (replies.Len n) = inr (decimal n, refl)
reply-begins replies.Yes = inl refl
reply-begins replies.No = inl refl
reply-begins replies.NotObj = inl refl
reply-begins replies.Range = inl refl
reply-begins replies.Foreign = inl refl
reply-begins replies.Frozen = inl refl
