use Rattle.std.proofs.Common.{◌≡◌, ℕ, ◌/◌, ◌%◌, ◌==◌, true, List, ap, sym, ◌∙◌, arith}
use Rattle.std.specs.Int.{bit_at}
use Rattle.std.proofs.lemmas.Grind.{get_or_default_zero}
use Rattle.bc_bits.specs.Bits.{has}
use Rattle.bc_bits.specs.Counting.{count_below}
use Rattle.bc_heapview.proofs.IndexLemmas.{set-within, rank-small, rank-number}
use Rattle.bc_heapview.proofs.indexes.Index.number.Goals as goal

pub index-before-requires : goal.index-before-requires
index-before-requires c =
    let on : has c.args.self.now.there.items c.args.at ≡ true = ap (λ (ws : List ℕ). has ws c.args.at) (sym c.deref.ensures.value) ∙ ap (has c.deref.result.now) (sym c.from.ensures) ∙ sym c.is_there.ensures ∙ c.if-not-is_there.false in
    let within = set-within c.args.self.now.there.items c.args.at on in
    let sized = c.requires.1.ranks.sized in
    let long = c.args.self.now.before.ok.0 in
    omega (arith, within, sized, long)

pub index-requires : goal.index-requires
index-requires c =
    let on : has c.args.self.now.there.items c.args.at ≡ true = ap (λ (ws : List ℕ). has ws c.args.at) (sym c.deref.ensures.value) ∙ ap (has c.deref.result.now) (sym c.from.ensures) ∙ sym c.is_there.ensures ∙ c.if-not-is_there.false in
    let within = set-within c.args.self.now.there.items c.args.at on in
    let long = c.args.self.now.there.ok.0 in
    omega (arith, within, long)

pub overflow_add-result : goal.overflow_add-result
overflow_add-result c =
    let on : has c.args.self.now.there.items c.args.at ≡ true = ap (λ (ws : List ℕ). has ws c.args.at) (sym c.deref.ensures.value) ∙ ap (has c.deref.result.now) (sym c.from.ensures) ∙ sym c.is_there.ensures ∙ c.if-not-is_there.false in
    let within = set-within c.args.self.now.there.items c.args.at on in
    let is = c.requires.1 in
    let sized = is.ranks.sized in
    let before = c.index-before.ensures ∙ get_or_default_zero c.args.self.now.before.items (c.args.at / 64) c.index-before.result.now (omega (arith, within, sized)) in
    let word = c.index.ensures ∙ get_or_default_zero c.args.self.now.there.items (c.args.at / 64) c.index.result.now within in
    let below = c.set_below-below.ensures ∙ ap (λ (w : ℕ). count_below (λ j. bit_at w j == 1) (c.args.at % 64)) word in
    let small = rank-small c.requires.0 c.args.self.now is c.args.at c.index-before.result.now c.set_below-below.result on before below in
    omega (arith, small)

pub returns : goal.returns
returns c cells is =
    let on : has c.args.self.now.there.items c.args.at ≡ true = ap (λ (ws : List ℕ). has ws c.args.at) (sym c.deref.ensures.value) ∙ ap (has c.deref.result.now) (sym c.from.ensures) ∙ sym c.is_there.ensures ∙ c.if-not-is_there.false in
    let within = set-within c.args.self.now.there.items c.args.at on in
    let sized = is.ranks.sized in
    let before = c.index-before.ensures ∙ get_or_default_zero c.args.self.now.before.items (c.args.at / 64) c.index-before.result.now (omega (arith, within, sized)) in
    let word = c.index.ensures ∙ get_or_default_zero c.args.self.now.there.items (c.args.at / 64) c.index.result.now within in
    let below = c.set_below-below.ensures ∙ ap (λ (w : ℕ). count_below (λ j. bit_at w j == 1) (c.args.at % 64)) word in
    rank-number cells c.args.self.now is c.args.at c.index-before.result.now c.set_below-below.result on before below
