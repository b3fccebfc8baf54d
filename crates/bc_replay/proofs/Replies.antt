-- How long the lines of replies are.
use Rattle.std.proofs.Common.{ℕ, ◌*◌, ◌≤◌, List, [], ◌∷◌, length, arith, length-append}
use Rattle.std.specs.List.{AllByRecursion, flat_map}
use Rattle.std.proofs.lemmas.Fmt.{length-decimal-le}
use Rattle.bc_model.specs.Run.{replies_to}
use Rattle.bc_model.specs.State.{State}
use Rattle.bc_model.specs.Step.{step}
use Rattle.bc_model.specs.declared.operations.Op.{Op}
use Rattle.bc_model.specs.declared.operations.Reply.{Reply}
use Rattle.bc_model.specs.declared.operations.Reply.TheVariants as reply
use Rattle.bc_trace.specs.Replies.{reply_word, reply_text}
use Rattle.bc_trace.proofs.Fitting.{IsShort}

short_reply : (r : Reply) → IsShort r → length (reply_text r) ≤ 32
unfolding reply_word
short_reply (reply.Obj b) h =
    let l = length-decimal-le 10 b.lane (omega arith) (omega (arith, h.0)) (omega (arith, h.0)) in
    let s = length-decimal-le 10 b.serial (omega arith) (omega (arith, h.1)) (omega (arith, h.1)) in
    simp length-append (omega (arith, l, s))
short_reply (reply.Num v) h =
    let l = length-decimal-le 20 v (omega arith) (omega (arith, h)) (omega (arith, h)) in
    simp length-append (omega (arith, l))
short_reply (reply.Len n) h =
    let l = length-decimal-le 10 n (omega arith) (omega (arith, h)) (omega (arith, h)) in
    simp length-append (omega (arith, l))
short_reply reply.Done h = omega arith
short_reply reply.Nil h = omega arith
short_reply reply.Ref h = omega arith
short_reply reply.Yes h = omega arith
short_reply reply.No h = omega arith
short_reply reply.NotObj h = omega arith
short_reply reply.Range h = omega arith
short_reply reply.Foreign h = omega arith
short_reply reply.Frozen h = omega arith

-- of one reply to each operation
pub length-replies_text : (s : State) (j : ℕ) (ops : List Op) → AllByRecursion IsShort (replies_to s j ops) → length (flat_map reply_text (replies_to s j ops)) ≤ 32 * length ops
unfolding replies_to
length-replies_text s j [] short = omega arith
length-replies_text s j (o ∷ ops) short =
    let next = (step s j o).0 in
    omega (arith, short_reply (step s j o).1 short.0, length-replies_text next j ops short.1, length-append (reply_text (step s j o).1) (flat_map reply_text (replies_to next j ops)))
