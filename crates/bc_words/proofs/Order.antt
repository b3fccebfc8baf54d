-- Where `--workers` stands among plain values makes no difference.
use Rattle.std.proofs.Common.{◌≡◌, ap, sym, subst, refl, List, [], ◌∷◌, ◌++◌, codes}
use Rattle.std.specs.List.{AllByRecursion}
use Rattle.bc_words.specs.Commands.{IsCommandOf, IsHyphened, Parts, Word, ended, dashes, apart, joined, bare}
use Rattle.bc_words.specs.declared.command.Command.{Command}

abbrev IsBare : Word → Type 0
IsBare word = ¬ IsHyphened word

-- ---- what the first word says

apart_first : {ws vs ps : List Word} → Parts ws vs ps → (value : Word) (rest : List Word) → ws ≡ codes "--workers" ∷ value ∷ rest
    → (more : List Word) × (vs ≡ value ∷ more) × Parts rest more ps
apart_first ended value rest e = absurd cc
apart_first (dashes plain) value rest e = absurd cc
apart_first (apart {rest = tail} {workers = more} {plain = ps} v p) value rest e =
    let value_is : v ≡ value = cc in
    let rest_is : tail ≡ rest = cc in
    (more, ap (λ x. x ∷ more) value_is, subst (λ r. Parts r more ps) rest_is p)
apart_first (joined v p) value rest e = absurd cc
apart_first (bare word h p) value rest e =
    let is : word ≡ codes "--workers" = cc in
    absurd (h (_, is))

joined_first : {ws vs ps : List Word} → Parts ws vs ps → (value : Word) (rest : List Word) → ws ≡ (codes "--workers=" ++ value) ∷ rest
    → (more : List Word) × (vs ≡ value ∷ more) × Parts rest more ps
joined_first ended value rest e = absurd cc
joined_first (dashes plain) value rest e = absurd cc
joined_first (apart v p) value rest e = absurd cc
joined_first (joined {rest = tail} {workers = more} {plain = ps} v p) value rest e =
    let value_is : v ≡ value = cc in
    let rest_is : tail ≡ rest = cc in
    (more, ap (λ x. x ∷ more) value_is, subst (λ r. Parts r more ps) rest_is p)
joined_first (bare word h p) value rest e =
    let is : word ≡ codes "--workers=" ++ value = cc in
    absurd (h (_, is))

bare_first : {ws vs ps : List Word} → Parts ws vs ps → (word : Word) (rest : List Word) → IsBare word → ws ≡ word ∷ rest
    → (more : List Word) × (ps ≡ word ∷ more) × Parts rest vs more
bare_first ended word rest plain e = absurd cc
bare_first (dashes words) word rest plain e =
    let is : word ≡ codes "--" = cc in
    absurd (plain (_, is))
bare_first (apart v p) word rest plain e =
    let is : word ≡ codes "--workers" = cc in
    absurd (plain (_, is))
bare_first (joined v p) word rest plain e =
    let is : word ≡ codes "--workers=" ++ v = cc in
    absurd (plain (_, is))
bare_first (bare {rest = tail} {workers = vs} {plain = more} w h p) word rest plain e =
    let word_is : w ≡ word = cc in
    let rest_is : tail ≡ rest = cc in
    (more, ap (λ x. x ∷ more) word_is, subst (λ r. Parts r vs more) rest_is p)

-- ---- a value after plain words

with_bare : {rest vs ps : List Word} (word : Word) → IsBare word → (more : List Word) → ps ≡ word ∷ more → Parts rest vs more → Parts (word ∷ rest) vs ps
with_bare {rest = rest} {vs = vs} word h more e p = subst (λ xs. Parts (word ∷ rest) vs xs) (sym e) (bare word h p)

-- from the place after the plain words, by what takes it off there, and to there, by what puts it on
taken : (front behind back : List Word) (value : Word) → AllByRecursion IsBare front
    → ((vs ps : List Word) → Parts behind vs ps → (more : List Word) × (vs ≡ value ∷ more) × Parts back more ps)
    → (vs ps : List Word) → Parts (front ++ behind) vs ps → (more : List Word) × (vs ≡ value ∷ more) × Parts (front ++ back) more ps
taken [] behind back value all off vs ps p = off vs ps p
taken (word ∷ front) behind back value all off vs ps p =
    let first = bare_first p word (front ++ behind) all.0 refl in
    let rest = taken front behind back value all.1 off vs first.0 first.2 in
    (rest.0, rest.1, with_bare word all.0 first.0 first.1 rest.2)

put : (front behind back : List Word) (value : Word) → AllByRecursion IsBare front
    → ((vs ps : List Word) → Parts back vs ps → Parts behind (value ∷ vs) ps)
    → (vs ps : List Word) → Parts (front ++ back) vs ps → Parts (front ++ behind) (value ∷ vs) ps
put [] behind back value all on vs ps p = on vs ps p
put (word ∷ front) behind back value all on vs ps p =
    let first = bare_first p word (front ++ back) all.0 refl in
    with_bare word all.0 first.0 first.1 (put front behind back value all.1 on vs first.0 first.2)

-- ---- the same parts, the same command

same_parts : (first : Word) (from to : List Word) (c : Command) → ((vs ps : List Word) → Parts from vs ps → Parts to vs ps)
    → IsCommandOf (first ∷ from) c → IsCommandOf (first ∷ to) c
same_parts first from to c step is =
    let spelled = is.spelled in
    let first_is : first ≡ is.first = cc in
    let rest_is : is.rest ≡ from = cc in
    record {
      first = is.first;
      rest = to;
      values = is.values;
      plain = is.plain;
      spelled = ap (λ f. f ∷ to) first_is;
      parts = step is.values is.plain (subst (λ r. Parts r is.values is.plain) rest_is is.parts);
      asked = is.asked;
    }

forward : (value : Word) (front behind back : List Word) → AllByRecursion IsBare front
    → ((vs ps : List Word) → Parts behind vs ps → (more : List Word) × (vs ≡ value ∷ more) × Parts back more ps)
    → (vs ps : List Word) → Parts (front ++ behind) vs ps → Parts (codes "--workers" ∷ value ∷ (front ++ back)) vs ps
forward value front behind back all off vs ps p =
    let rest = taken front behind back value all off vs ps p in
    subst (λ xs. Parts (codes "--workers" ∷ value ∷ (front ++ back)) xs ps) (sym rest.1) (apart value rest.2)

backward : (value : Word) (front behind back : List Word) → AllByRecursion IsBare front
    → ((vs ps : List Word) → Parts back vs ps → Parts behind (value ∷ vs) ps)
    → (vs ps : List Word) → Parts (codes "--workers" ∷ value ∷ (front ++ back)) vs ps → Parts (front ++ behind) vs ps
backward value front behind back all on vs ps p =
    let first = apart_first p value (front ++ back) refl in
    subst (λ xs. Parts (front ++ behind) xs ps) (sym first.1) (put front behind back value all on first.0 ps first.2)

pub two_words_anywhere : (first value : Word) (front back : List Word) (c : Command) → AllByRecursion IsBare front
    → (IsCommandOf (first ∷ (front ++ codes "--workers" ∷ value ∷ back)) c → IsCommandOf (first ∷ codes "--workers" ∷ value ∷ (front ++ back)) c)
    × (IsCommandOf (first ∷ codes "--workers" ∷ value ∷ (front ++ back)) c → IsCommandOf (first ∷ (front ++ codes "--workers" ∷ value ∷ back)) c)
two_words_anywhere first value front back c all = (
  same_parts first _ _ c (forward value front (codes "--workers" ∷ value ∷ back) back all (λ vs ps p. apart_first p value back refl)),
  same_parts first _ _ c (backward value front (codes "--workers" ∷ value ∷ back) back all (λ vs ps p. apart value p)),
)

pub one_word_anywhere : (first value : Word) (front back : List Word) (c : Command) → AllByRecursion IsBare front
    → (IsCommandOf (first ∷ (front ++ (codes "--workers=" ++ value) ∷ back)) c → IsCommandOf (first ∷ codes "--workers" ∷ value ∷ (front ++ back)) c)
    × (IsCommandOf (first ∷ codes "--workers" ∷ value ∷ (front ++ back)) c → IsCommandOf (first ∷ (front ++ (codes "--workers=" ++ value) ∷ back)) c)
one_word_anywhere first value front back c all = (
  same_parts first _ _ c (forward value front ((codes "--workers=" ++ value) ∷ back) back all (λ vs ps p. joined_first p value back refl)),
  same_parts first _ _ c (backward value front ((codes "--workers=" ++ value) ∷ back) back all (λ vs ps p. joined value p)),
)
