use Rattle.std.proofs.Common.{◌≡◌, ℕ, ◌+◌, ◌*◌, ◌^◌, ◌<◌, ◌≤◌, List, [], ◌∷◌, ◌++◌, length, get_or, ap, sym, subst, inl, inr, ◌∙◌, arith, rules}
use Rattle.std.proofs.lemmas.Bool.{cases_lt}
use Rattle.std.proofs.lemmas.List.{get_or_append_left, get_or_push, length_push}
use Rattle.bc_heapview.proofs.IndexLemmas.{count-more, count-small, count-nothing, push-ranks}
use Rattle.bc_heapview.proofs.indexes.ranks.Goals as goal

pub loop-word-init : goal.loop-word-init
loop-word-init c = record {
  total = count-nothing c.args.there.now;
  sized = ap length c.new-before.ensures.items;
  at = λ w lt. absurd (omega arith);
}

pub overflow_add-total : goal.overflow_add-total
overflow_add-total c =
    let fits : get_or c.args.there.now c.loop-word.word 0 < 2 ^ 64 = search rules in
    let more = count-more c.args.there.now c.loop-word.word c.loop-word.total fits c.loop-word.invariant.total in
    let small = count-small c.args.there.now c.loop-word.word _ _ c.loop-word-test.true c.requires more in
    omega (arith, small)

pub loop-word-preserved : goal.loop-word-preserved
loop-word-preserved c = record {
  total = count-more c.args.there.now c.loop-word.word c.loop-word.total (search rules) c.loop-word.invariant.total;
  sized = rw c.in_ok-push.ensures.items (length_push c.loop-word.before.items c.loop-word.total ∙ ap (λ (n : ℕ). n + 1) c.loop-word.invariant.sized);
  at = rw c.in_ok-push.ensures.items (push-ranks c.args.there.now c.loop-word.before.items c.loop-word.word c.loop-word.total c.loop-word.invariant.sized c.loop-word.invariant.total c.loop-word.invariant.at);
}
