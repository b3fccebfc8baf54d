-- Words that are numbers: what `clap` reads of them, and that what it reads without skipping any is they themselves.
use Rattle.std.proofs.Common.{◌≡◌, ◌∙◌, ap, sym, subst, refl, ⊎_elim, ℕ, ◌+◌, ◌^◌, ◌<◌, ◌≤◌, true, List, [], ◌∷◌, Option, Some, None, Bor, map, drop, get_or, length, option_map, option_to_list, arith}
use Prim.Native.Nat.{suc}
use Rattle.std.specs.Prelude.{unwrap_or}
use Rattle.std.proofs.lemmas.List.{length-map}
use Rattle.std.specs.List.{AllByRecursion}
use Rattle.std.specs.Fmt.{decimal}
use Rattle.clap.specs.Walk.{Row, Text, rows_of}
use Rattle.clap.specs.Simple.{App, is_simple}
use Rattle.clap.specs.Kinds.{HasKind}
use Rattle.clap.specs.Matches.{found_of, matched_of, raw_values}
use Rattle.clap.specs.Values.{kind_of}
use Rattle.clap.specs.Faults.{fault_of, is_simple_and_free}
use Rattle.clap.specs.declared.error.Error.{Error}
use Rattle.clap.specs.declared.error.kind.ErrorKind.TheVariants.{OutOfMemory}
use Rattle.clap.specs.declared.parser.matches.ArgMatches.{ArgMatches}
use Rattle.bc_words.specs.Commands.{Parts, Word, ended, dashes, apart, joined, bare}
use Rattle.bc_words.proofs.App.{app, values_id}
use Rattle.bc_words.proofs.Lists.{texts}
use Rattle.bc_words.proofs.Numerals.{decimal-begins}
use Rattle.bc_words.proofs.Parsing.{err_parse, listed_values, opening, values_got}
use Rattle.bc_words.proofs.Reading.{IsBare, IsDone, reads, rest_fault, rest_rows}
use Rattle.bc_words.proofs.Telling.{tells}
use Rattle.bc_words.proofs.Rows.{Kept}
use Rattle.bc_words.proofs.Walking.{idle-rests}
use Rattle.bc_live.specs.Words.{IsLiveWords}
use Rattle.bc_live.specs.declared.words.LiveWords.{LiveWords}

-- numbers begin with no hyphen
decimal_bare : (n : ℕ) → n < 2 ^ 64 → IsBare (decimal n)
decimal_bare n lt (rest, e) =
    let first = (decimal-begins n lt).0 in
    let is : get_or (decimal n) 0 0 ≡ 45 = ap (λ t. get_or t 0 0) e in
    omega (arith, first, is)

tail_of : (x y : Word) (xs ys : List Word) → x ∷ xs ≡ y ∷ ys → xs ≡ ys
tail_of x y xs ys e = cc

asked_bare : (first : Word) (values : List Word) (w : LiveWords) → IsLiveWords (first ∷ values) w → AllByRecursion IsBare values
asked_bare first values w a =
    let count = decimal_bare w.count (omega (arith, a.count)) in
    let workers = decimal_bare w.workers (omega (arith, a.workers.1)) in
    ⊎_elim (λ (two : (first ∷ values ≡ decimal w.start ∷ decimal w.count ∷ []) × (w.workers ≡ 1)). subst (AllByRecursion IsBare) (sym (tail_of first (decimal w.start) values (decimal w.count ∷ []) two.0)) (count, tt))
    (λ three. subst (AllByRecursion IsBare) (sym (tail_of first (decimal w.start) values (decimal w.count ∷ decimal w.workers ∷ []) three)) (count, (workers, tt))) a.spelled

bare_parts : (values : List Word) → AllByRecursion IsBare values → Parts values [] values
bare_parts [] h = ended
bare_parts (v ∷ vs) h = bare v h.0 (bare_parts vs h.1)

-- plain values are no more than the words, and where they are as many they are the words
few_parts : {rest values plain : List Word} → Parts rest values plain → length plain ≤ length rest
few_parts ended = omega arith
few_parts (dashes words) = omega arith
few_parts (apart {rest = rest} {workers = ws} {plain = qs} v p) = omega (arith, few_parts p)
few_parts (joined {rest = rest} {workers = ws} {plain = qs} v p) = omega (arith, few_parts p)
few_parts (bare {rest = rest} {workers = ws} {plain = qs} word h p) = omega (arith, few_parts p)

all_parts : {rest values plain : List Word} → Parts rest values plain → length rest ≤ length plain → rest ≡ plain
all_parts ended le = refl
all_parts (dashes words) le = absurd (omega (arith, le))
all_parts (apart {rest = rest} {workers = ws} {plain = qs} v p) le = absurd (omega (arith, le, few_parts p))
all_parts (joined {rest = rest} {workers = ws} {plain = qs} v p) le = absurd (omega (arith, le, few_parts p))
all_parts (bare {rest = rest} {workers = ws} {plain = qs} word h p) le = ap (λ ws. word ∷ ws) (all_parts p (omega (arith, le)))

empty_kept : Kept [] None []
empty_kept = record { workers = refl; listed = refl }

-- values that are no words with a hyphen are read without a fault, and kept
values_done : (first : Text) (values : List Word) → AllByRecursion IsBare values → IsDone first opening values None values
values_done first values h = reads first (bare_parts values h) [] None _ None None [] idle-rests empty_kept refl refl tt

-- ---- both directions

module _ (words : List Text) (name : Text) (begins : words ≡ name ∷ drop 1 words) where
  listed_words : (w : LiveWords) → IsLiveWords words w → IsLiveWords (name ∷ drop 1 words) w
  listed_words w is = subst (λ ws. IsLiveWords ws w) begins is

  -- where the words give something, a parse fails out of memory alone
  pub err_words : (a : App) (error : Error) → a ≡ app name → (is_simple_and_free a ≡ true → HasKind (fault_of a words) error) → (w : LiveWords) → IsLiveWords words w → kind_of error ≡ OutOfMemory
  err_words a error e kinds w is = err_parse a error words name e kinds (values_done name (drop 1 words) (asked_bare name (drop 1 words) w (listed_words w is))).no_fault

  -- what the getter gives of a parse
  module _ (m : ArgMatches) (none : rest_fault name opening (drop 1 words) ≡ []) (rows : rows_of (found_of m) ≡ rest_rows opening (drop 1 words))
      (o : Option (Bor (List (Bor Text)))) (d : Bor (List (Bor Text))) (o_is : option_map (λ s. map (λ v. v.now) s.now) o ≡ option_map raw_values (matched_of (found_of m) values_id)) (empty : d.now ≡ [])
      (u : Bor (List (Bor Text))) (u_is : u ≡ unwrap_or o d) where
    -- where they give something, the values are the words after the first
    pub read_words : (w : LiveWords) → IsLiveWords words w → texts u.now ≡ drop 1 words
    read_words w is =
        let done = values_done name (drop 1 words) (asked_bare name (drop 1 words) w (listed_words w is)) in
        ap (λ b. texts b.now) u_is ∙ listed_values o d (drop 1 words) (o_is ∙ values_got m (drop 1 words) None (drop 1 words) rows done.kept) empty

    pub ask_words : (w : LiveWords) → IsLiveWords words w → IsLiveWords (name ∷ texts u.now) w
    ask_words w is = subst (λ vs. IsLiveWords (name ∷ vs) w) (sym (read_words w is)) (listed_words w is)

    -- what the values give is what the words do, where no word was skipped
    pub told_words : (w : LiveWords) → IsLiveWords (name ∷ texts u.now) w → length words ≤ length u.now + 1 → IsLiveWords words w
    told_words w asked all =
        let rest = drop 1 words in
        let told = tells name rest [] None _ None [] idle-rests empty_kept refl none in
        let got : texts u.now ≡ told.more = ap (λ b. texts b.now) u_is ∙ listed_values o d told.more (o_is ∙ values_got m rest told.new told.more rows told.kept) empty in
        let bares : AllByRecursion IsBare told.more = subst (λ vs. AllByRecursion IsBare vs) got (asked_bare name (texts u.now) w asked) in
        let more : length words ≡ suc (length rest) = ap length begins in
        let long : length words ≡ length rest + 1 = omega (arith, more) in
        let same : rest ≡ told.more = all_parts (told.parts bares) (omega (arith, long, all, ap length got, length-map u.now (λ (w : Bor Text). w.now))) in
        subst (λ ws. IsLiveWords ws w) (sym begins) (subst (λ vs. IsLiveWords (name ∷ vs) w) (got ∙ sym same) asked)
