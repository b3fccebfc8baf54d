use Rattle.std.proofs.Common.{◌≡◌, ◌<◌, ◌^◌, ◌∙◌, rules, arith, Ok}
use Rattle.std.specs.Fmt.{decimal}
use Rattle.std.proofs.lemmas.Fmt.{parse-decimal}
use Rattle.bc_words.proofs.Numerals.{not_plain, parsed_plain}
use Rattle.bc_words.proofs.numbers.number.Goals as goal

pub returns-then-not-begins_plainly-clause-the_one :
    goal.returns-then-not-begins_plainly-clause-the_one
returns-then-not-begins_plainly-clause-the_one c = λ n e low high.
    let text : c.as_bytes.result.now ≡ decimal n = c.as_bytes.ensures.value ∙ e in
    absurd (not_plain _ n (omega (arith, high, c.ranges.most.fits)) text (c.begins_plainly.ensures.signed (search rules)))

pub returns-in-Ok-clause-number : goal.returns-in-Ok-clause-number
returns-in-Ok-clause-number c =
    let plain = c.begins_plainly.ensures.plain (search rules) in
    let text : c.as_bytes.result.now ≡ c.args.word.now = c.as_bytes.ensures.value in
    let here = rw text at plain in
    (parsed_plain c.args.word.now c.parse.result c.in-Ok.value c.parse.ensures.value.0 here.0 here.1 c.in-Ok.is, c.if-least-value.true, c.if-value-most.true)

pub returns-in-Ok-clause-the_one : goal.returns-in-Ok-clause-the_one
returns-in-Ok-clause-the_one c = λ n e low high.
    let small : n < 2 ^ 64 = omega (arith, high, c.ranges.most.fits) in
    let parsed : c.parse.result ≡ Ok n = parse-decimal 64 n c.args.word.now c.parse.result small small e c.parse.ensures.value.0 in
    let is = c.in-Ok.is in
    cc

pub returns-in_default-clause-the_one : goal.returns-in_default-clause-the_one
returns-in_default-clause-the_one c = λ n e low high.
    let small : n < 2 ^ 64 = omega (arith, high, c.ranges.most.fits) in
    let parsed : c.parse.result ≡ Ok n = parse-decimal 64 n c.args.word.now c.parse.result small small e c.parse.ensures.value.0 in
    let is = c.in-Ok.is in
    let same : c.in-Ok.value ≡ n = cc in
    absurd (omega (arith, same, high, c.if-value-most.false))

pub returns-in_default-2-clause-the_one : goal.returns-in_default-2-clause-the_one
returns-in_default-2-clause-the_one c = λ n e low high.
    let small : n < 2 ^ 64 = omega (arith, high, c.ranges.most.fits) in
    let parsed : c.parse.result ≡ Ok n = parse-decimal 64 n c.args.word.now c.parse.result small small e c.parse.ensures.value.0 in
    let is = c.in-Ok.is in
    let same : c.in-Ok.value ≡ n = cc in
    absurd (omega (arith, same, low, c.if-least-value.false))

pub returns-in_default-3-clause-the_one : goal.returns-in_default-3-clause-the_one
returns-in_default-3-clause-the_one c = λ n e low high.
    let small : n < 2 ^ 64 = omega (arith, high, c.ranges.most.fits) in
    let parsed : c.parse.result ≡ Ok n = parse-decimal 64 n c.args.word.now c.parse.result small small e c.parse.ensures.value.0 in
    let is = c.in_default.is in
    absurd cc
