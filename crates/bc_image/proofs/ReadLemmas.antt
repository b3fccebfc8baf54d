-- Reading, item by item.
use Rattle.std.proofs.Common.{◌≡◌, ℕ, ◌+◌, ◌-◌, ◌*◌, ◌/◌, ◌%◌, ◌^◌, ◌==◌, [], ◌∷◌, ◌++◌, ◌<◌, ◌≤◌, Bool, true, false, if◌then◌else◌, List, length, get_or, map, Option, Some, None, Ok, Err, refl, sym, ◌∙◌, ap, subst, arith}
use Prim.Native.Nat.{zero, suc}
use Rattle.bc_image.specs.Bytes.{item_at}
use Rattle.std.proofs.lemmas.Bool.{eqb-true}
use Rattle.std.proofs.lemmas.List.{length_push, length-map}
use Rattle.bc_word.specs.Heads.{head_of_bits}
use Rattle.bc_image.specs.Drafts.{ImageDraft, empty_draft, judged, put, put_at, finished_object, birth_bits, is_twice_at, born_with, ShowsLists, IsDraft, HasBirths}
use Rattle.bc_image.specs.Items.{is_finished, IsBoundedProgress, IsSmallItem, passes, passes_at, cause_of, advanced, advanced_at, first_progress, superpage_ended, object_ended, field_stood}
use Rattle.bc_image.specs.declared.progress.Progress.{Progress}
use Rattle.bc_image.specs.declared.progress.Stage.{Stage}
use Rattle.bc_image.proofs.ItemLemmas.{progress-kept, passed-small}
use Rattle.bc_image.specs.Numbered.{numbered, word_at, words_from, words_below, draft_words, HasWords}
use Rattle.bc_image.proofs.PlaceLemmas.{IsPlaced, Stepped, heads_with, put-step, empty-placed, placed-few, joined-words, no-words}
use Rattle.bc_image.specs.Births.{placed, passing, all_passing, head_at, heads_from, outcome_of, ShowsHeads, HasPassed}
use Rattle.bc_image.specs.Reading.{fault_at, go_on, reading}
use Rattle.bc_image.specs.declared.draft.Draft.{Draft}
use Rattle.bc_image.specs.declared.fault.ImageCause.{ImageCause}
use Rattle.bc_image.specs.declared.fault.ImageCause.TheVariants as causes
use Rattle.bc_image.specs.declared.progress.Stage.TheVariants as stages

-- an address owes a head
abbrev pub owed : Stage → ℕ
owed stages.Head = 1
owed _ = 0

-- so many of the items were read
pub record IsReading (bytes : List ℕ) (draft : Draft) (number count : ℕ) : Type 0 where
  pub now : ImageDraft
  pub shows : ShowsLists draft now
  pub draft_is : IsDraft now
  pub so_far : passing bytes now number (count - number) ≡ all_passing bytes
  pub hs : List (ℕ × ℕ)
  pub heads : ShowsHeads draft hs
  pub all : (left : ℕ) → hs ++ heads_from bytes now.progress number left ≡ heads_from bytes first_progress 0 (number + left)
  pub few : 2 * length hs + owed now.progress.stage ≤ number
  pub placed : IsPlaced now.progress.stage number (map (λ (h : ℕ × ℕ). h.0) hs) now
  pub words : (left : ℕ) → draft_words (map (λ (h : ℕ × ℕ). h.0) hs) now ++ words_from bytes now.progress number left ≡ words_from bytes first_progress 0 (number + left)

pub reading-finished : (bytes : List ℕ) (d : ImageDraft) (number left : ℕ) → is_finished d.progress.stage ≡ true → reading bytes d number left ≡ Ok (d, number)
unfolding reading
reading-finished bytes d number zero is = rw is refl
reading-finished bytes d number (suc left) is = rw is refl

pub reading-next : (bytes : List ℕ) (d : ImageDraft) (number left : ℕ) → is_finished d.progress.stage ≡ false → reading bytes d number (suc left) ≡ go_on number (judged d (item_at bytes number)) (reading bytes (put d (item_at bytes number)) (number + 1) left)
unfolding reading
reading-next bytes d number left isnt = rw isnt refl

pub passing-finished : (bytes : List ℕ) (d : ImageDraft) (number left : ℕ) → is_finished d.progress.stage ≡ true → passing bytes d number left ≡ Ok (d, number)
unfolding passing
passing-finished bytes d number zero is = rw is refl
passing-finished bytes d number (suc left) is = rw is refl

pub passing-next : (bytes : List ℕ) (d : ImageDraft) (number left : ℕ) → is_finished d.progress.stage ≡ false → passing bytes d number (suc left) ≡ go_on number (placed d (item_at bytes number)) (passing bytes (put d (item_at bytes number)) (number + 1) left)
unfolding passing
passing-next bytes d number left isnt = rw isnt refl

pub passing-short : (bytes : List ℕ) (d : ImageDraft) (number : ℕ) → is_finished d.progress.stage ≡ false → passing bytes d number zero ≡ Err (fault_at number causes.Short)
unfolding passing
passing-short bytes d number isnt = rw isnt refl

pub reading-short : (bytes : List ℕ) (d : ImageDraft) (number : ℕ) → is_finished d.progress.stage ≡ false → reading bytes d number zero ≡ Err (fault_at number causes.Short)
unfolding reading
reading-short bytes d number isnt = rw isnt refl

left-suc : (count number : ℕ) → number < count → count - number ≡ suc (count - (number + 1))
left-suc count number lt = omega arith

-- what is true of a draft stays so with an item more that passed
births-if : (t : Bool) (x y : Progress) (bs : List ℕ) → HasBirths x.stage x bs → HasBirths y.stage y bs → (let q : Progress = if t then x else y in HasBirths q.stage q bs)
births-if true x y bs h k = h
births-if false x y bs h k = k

births-if_at : (t : Bool) (x y : Progress) (bs : List ℕ) → (t ≡ true → HasBirths x.stage x bs) → (t ≡ false → HasBirths y.stage y bs) → (let q : Progress = if t then x else y in HasBirths q.stage q bs)
births-if_at true x y bs h k = h refl
births-if_at false x y bs h k = k refl

births-ended : (p : Progress) (bs : List ℕ) (t : Bool) → length bs ≡ p.setup.lanes → (let q : Progress = record p { superpage = p.superpage + 1; stage = if t then stages.Finished else stages.Pair } in HasBirths q.stage q bs)
births-ended p bs true h = tt
births-ended p bs false h = h

births-object : (p : Progress) (bs : List ℕ) → length bs ≡ p.setup.lanes → HasBirths (object_ended p).stage (object_ended p) bs
births-object p bs h =
    let q : Progress = record p { left = p.left - 1; least = p.address + p.class; stage = stages.Address } in
    births-if (p.left - 1 == 0) (superpage_ended q) q bs (births-ended q bs (q.superpage + 1 == q.setup.superpages) h) h

births-field : (p : Progress) (bs : List ℕ) → p.stage ≡ stages.Field → length bs ≡ p.setup.lanes → HasBirths (field_stood p).stage (field_stood p) bs
births-field p bs e h = births-if (p.fields == 0) (object_ended p) p bs (births-object p bs h) (subst (λ s. HasBirths s p bs) (sym e) h)

abbrev put_births : Stage → List ℕ → ℕ → List ℕ
put_births stages.Birth bs n = bs ++ n ∷ []
put_births _ bs n = bs

births-kept : (st : Stage) (p : Progress) (bs : List ℕ) (n : ℕ) → p.stage ≡ st → HasBirths st p bs → HasBirths (advanced_at st p n).stage (advanced_at st p n) (put_births st bs n)
births-kept stages.Magic p bs n e h = h
births-kept stages.Version p bs n e h = h
births-kept stages.Lanes p bs n e h = h
births-kept stages.Domains p bs n e h = h
births-kept stages.Slots p bs n e h = h
births-kept stages.Superpages p bs n e h = h
births-kept stages.Nursery p bs n e h = h
births-kept stages.Buffer p bs n e h = h
births-kept stages.Frames p bs n e h = h
births-kept stages.Phases p bs n e h = h
births-kept stages.Holder p bs n e h = births-if (p.stood + 1 == p.setup.domains) (record p { stood = 0; stage = stages.Birth }) (record p { stood = p.stood + 1 }) bs (ap length h) (subst (λ s. HasBirths s (record p { stood = p.stood + 1 }) bs) (sym e) h)
births-kept stages.Birth p bs n e h =
    let more : length (bs ++ n ∷ []) ≡ p.stood + 1 = length_push bs n ∙ ap (λ (k : ℕ). k + 1) h in
    births-if_at (p.stood + 1 == p.setup.lanes) (record p { stood = 0; stage = stages.Root }) (record p { stood = p.stood + 1 }) (bs ++ n ∷ []) (λ t. more ∙ eqb-true (p.stood + 1) p.setup.lanes t) (λ t. subst (λ s. HasBirths s (record p { stood = p.stood + 1 }) (bs ++ n ∷ [])) (sym e) more)
births-kept stages.Root p bs n e h = births-if (p.stood + 1 == p.setup.domains * p.setup.slots) (record p { stood = 0; stage = stages.Pair }) (record p { stood = p.stood + 1 }) bs h (subst (λ s. HasBirths s (record p { stood = p.stood + 1 }) bs) (sym e) h)
births-kept stages.Pair p bs n e h = births-if (n == 0) (superpage_ended p) (record p { class = n % 256; domain = n / 256; stage = stages.Count }) bs (births-ended p bs (p.superpage + 1 == p.setup.superpages) h) h
births-kept stages.Count p bs n e h = h
births-kept stages.Address p bs n e h = h
births-kept stages.Head p bs n e h = births-field (record p { fields = n % 128; stage = stages.Field }) bs refl h
births-kept stages.Field p bs n e h = births-field (record p { fields = p.fields - 1 }) bs e h
births-kept stages.Finished p bs n e h = subst (λ s. HasBirths s p bs) (sym e) tt

put-births-if : (t : Bool) (e : ImageDraft) → (let x : ImageDraft = if t then finished_object e else e in x.births) ≡ e.births
put-births-if true e = refl
put-births-if false e = refl

put-births : (st : Stage) (d : ImageDraft) (n : ℕ) → (put_at st d n).births ≡ put_births st d.births n
put-births stages.Magic d n = refl
put-births stages.Version d n = refl
put-births stages.Lanes d n = refl
put-births stages.Domains d n = refl
put-births stages.Slots d n = refl
put-births stages.Superpages d n = refl
put-births stages.Nursery d n = refl
put-births stages.Buffer d n = refl
put-births stages.Frames d n = refl
put-births stages.Phases d n = refl
put-births stages.Holder d n = refl
put-births stages.Birth d n = refl
put-births stages.Root d n = refl
put-births stages.Pair d n = refl
put-births stages.Count d n = refl
put-births stages.Address d n = refl
put-births stages.Finished d n = refl
put-births stages.Head d n = put-births-if (n % 128 == 0) (record d { born = d.born ++ birth_bits n ∷ []; head = head_of_bits n })
put-births stages.Field d n = put-births-if (d.progress.fields == 1) (record d { fields = d.fields ++ n ∷ [] })

by-test : (t : Bool) (o : Option ImageCause) (c : ImageCause) → (if t then o else Some c) ≡ None → t ≡ true
by-test true o c h = refl
by-test false o c h = absurd (let k : Some c ≡ None = h in cc)

pub judged-passed : (d : ImageDraft) (n : ℕ) → judged d n ≡ None → passes_at d.progress.stage d.progress d.births n ≡ true
unfolding judged passes
judged-passed d n h = by-test (passes_at d.progress.stage d.progress d.births n) (if is_twice_at d.progress.stage d n then Some causes.Twice else None) (cause_of d.progress.stage) h

draft-passed : (d : ImageDraft) (n : ℕ) → IsDraft d → passes_at d.progress.stage d.progress d.births n ≡ true → IsDraft (put d n)
unfolding put advanced
draft-passed d n is passed = record {
  progress = progress-kept d.progress.stage d.progress d.births n refl is.progress.bounded is.progress.place is.progress.classed is.progress.object passed;
  births = rw (put-births d.progress.stage d n) (births-kept d.progress.stage d.progress d.births n refl is.births);
}

pub draft-kept : (d : ImageDraft) (n : ℕ) → IsDraft d → judged d n ≡ None → IsDraft (put d n)
draft-kept d n is passed = draft-passed d n is (judged-passed d n passed)

pub placed-passed : (d : ImageDraft) (n : ℕ) → placed d n ≡ None → passes_at d.progress.stage d.progress d.births n ≡ true
unfolding placed passes
placed-passed d n h = by-test (passes_at d.progress.stage d.progress d.births n) None (cause_of d.progress.stage) h

pub draft-placed : (d : ImageDraft) (n : ℕ) → IsDraft d → placed d n ≡ None → IsDraft (put d n)
draft-placed d n is passed = draft-passed d n is (placed-passed d n passed)

pub empty-is : IsDraft empty_draft
empty-is = record {
  progress = record { bounded = record { some_lanes = omega arith; lanes = omega arith; some_domains = omega arith; domains = omega arith; some_slots = omega arith; slots = omega arith; some_superpages = omega arith; superpages = omega arith; nursery = omega arith; stood = omega arith; superpage = omega arith; address = omega arith; class = omega arith }; place = (refl, refl); object = tt; classed = tt };
  births = refl;
}

-- ---- heads are at most half of the items

owed-le : (st : Stage) → owed st ≤ 1
owed-le stages.Head = omega arith
owed-le stages.Magic = omega arith
owed-le stages.Version = omega arith
owed-le stages.Lanes = omega arith
owed-le stages.Domains = omega arith
owed-le stages.Slots = omega arith
owed-le stages.Superpages = omega arith
owed-le stages.Nursery = omega arith
owed-le stages.Buffer = omega arith
owed-le stages.Frames = omega arith
owed-le stages.Phases = omega arith
owed-le stages.Holder = omega arith
owed-le stages.Birth = omega arith
owed-le stages.Root = omega arith
owed-le stages.Pair = omega arith
owed-le stages.Count = omega arith
owed-le stages.Address = omega arith
owed-le stages.Field = omega arith
owed-le stages.Finished = omega arith

owed-if : (t : Bool) (x y : Progress) → owed x.stage ≡ 0 → owed y.stage ≡ 0 → (let q : Progress = if t then x else y in owed q.stage) ≡ 0
owed-if true x y h k = h
owed-if false x y h k = k

owed-ended : (p : Progress) (t : Bool) → (let q : Progress = record p { superpage = p.superpage + 1; stage = if t then stages.Finished else stages.Pair } in owed q.stage) ≡ 0
owed-ended p true = refl
owed-ended p false = refl

owed-object : (p : Progress) → owed (object_ended p).stage ≡ 0
owed-object p =
    let q : Progress = record p { left = p.left - 1; least = p.address + p.class; stage = stages.Address } in
    owed-if (p.left - 1 == 0) (superpage_ended q) q (owed-ended q (q.superpage + 1 == q.setup.superpages)) refl

owed-head : (p : Progress) (n : ℕ) → owed (advanced_at stages.Head p n).stage ≡ 0
owed-head p n =
    let q : Progress = record p { fields = n % 128; stage = stages.Field } in
    owed-if (n % 128 == 0) (object_ended q) q (owed-object q) refl

owed-more : (st : Stage) (p : Progress) (number n : ℕ) → 2 * length (head_at st number n) + owed (advanced_at st p n).stage ≤ owed st + 1
owed-more stages.Head p number n = (let h = owed-head p n in omega arith)
owed-more stages.Magic p number n = (let h = owed-le (advanced_at stages.Magic p n).stage in omega arith)
owed-more stages.Version p number n = (let h = owed-le (advanced_at stages.Version p n).stage in omega arith)
owed-more stages.Lanes p number n = (let h = owed-le (advanced_at stages.Lanes p n).stage in omega arith)
owed-more stages.Domains p number n = (let h = owed-le (advanced_at stages.Domains p n).stage in omega arith)
owed-more stages.Slots p number n = (let h = owed-le (advanced_at stages.Slots p n).stage in omega arith)
owed-more stages.Superpages p number n = (let h = owed-le (advanced_at stages.Superpages p n).stage in omega arith)
owed-more stages.Nursery p number n = (let h = owed-le (advanced_at stages.Nursery p n).stage in omega arith)
owed-more stages.Buffer p number n = (let h = owed-le (advanced_at stages.Buffer p n).stage in omega arith)
owed-more stages.Frames p number n = (let h = owed-le (advanced_at stages.Frames p n).stage in omega arith)
owed-more stages.Phases p number n = (let h = owed-le (advanced_at stages.Phases p n).stage in omega arith)
owed-more stages.Holder p number n = (let h = owed-le (advanced_at stages.Holder p n).stage in omega arith)
owed-more stages.Birth p number n = (let h = owed-le (advanced_at stages.Birth p n).stage in omega arith)
owed-more stages.Root p number n = (let h = owed-le (advanced_at stages.Root p n).stage in omega arith)
owed-more stages.Pair p number n = (let h = owed-le (advanced_at stages.Pair p n).stage in omega arith)
owed-more stages.Count p number n = (let h = owed-le (advanced_at stages.Count p n).stage in omega arith)
owed-more stages.Address p number n = (let h = owed-le (advanced_at stages.Address p n).stage in omega arith)
owed-more stages.Field p number n = (let h = owed-le (advanced_at stages.Field p n).stage in omega arith)
owed-more stages.Finished p number n = (let h = owed-le (advanced_at stages.Finished p n).stage in omega arith)

put-owed : (d : ImageDraft) (number n : ℕ) → 2 * length (head_at d.progress.stage number n) + owed (put d n).progress.stage ≤ owed d.progress.stage + 1
unfolding put advanced
put-owed d number n = owed-more d.progress.stage d.progress number n

joined : {X : Type 0} (xs ys : List X) → length (xs ++ ys) ≡ length xs + length ys
joined [] ys = (let e : length ys ≡ 0 + length ys = omega arith in e)
joined (x ∷ xs) ys = (let h = joined xs ys in omega arith)

heads-joined : (xs ys zs : List (ℕ × ℕ)) → (xs ++ ys) ++ zs ≡ xs ++ (ys ++ zs)
heads-joined [] ys zs = refl
heads-joined (x ∷ xs) ys zs = ap (λ (hs : List (ℕ × ℕ)). x ∷ hs) (heads-joined xs ys zs)

heads-nil : (xs : List (ℕ × ℕ)) → xs ++ [] ≡ xs
heads-nil [] = refl
heads-nil (x ∷ xs) = ap (λ (hs : List (ℕ × ℕ)). x ∷ hs) (heads-nil xs)

heads-none : (bytes : List ℕ) (p : Progress) (number : ℕ) → heads_from bytes p number 0 ≡ []
unfolding heads_from
heads-none bytes p number = refl

heads-next : (bytes : List ℕ) (d : ImageDraft) (number left : ℕ) → head_at d.progress.stage number (item_at bytes number) ++ heads_from bytes (put d (item_at bytes number)).progress (number + 1) left ≡ heads_from bytes d.progress number (suc left)
unfolding heads_from put
heads-next bytes d number left = refl

heads-map : (hs : List (ℕ × ℕ)) (h : ℕ × ℕ) → map (λ (x : ℕ × ℕ). x.0) hs ++ h.0 ∷ [] ≡ map (λ (x : ℕ × ℕ). x.0) (hs ++ h ∷ [])
heads-map [] h = refl
heads-map (x ∷ hs) h = ap (λ (ns : List ℕ). x.0 ∷ ns) (heads-map hs h)

none-map : (hs : List (ℕ × ℕ)) → map (λ (x : ℕ × ℕ). x.0) hs ≡ map (λ (x : ℕ × ℕ). x.0) (hs ++ [])
none-map hs = ap (map (λ (x : ℕ × ℕ). x.0)) (sym (heads-nil hs))

-- the numbers of the heads, with an item that may be one
with-head : (st : Stage) (hs : List (ℕ × ℕ)) (number n : ℕ) → heads_with st (map (λ (x : ℕ × ℕ). x.0) hs) number ≡ map (λ (x : ℕ × ℕ). x.0) (hs ++ head_at st number n)
with-head stages.Head hs number n = heads-map hs (number, birth_bits n)
with-head stages.Magic hs number n = none-map hs
with-head stages.Version hs number n = none-map hs
with-head stages.Lanes hs number n = none-map hs
with-head stages.Domains hs number n = none-map hs
with-head stages.Slots hs number n = none-map hs
with-head stages.Superpages hs number n = none-map hs
with-head stages.Nursery hs number n = none-map hs
with-head stages.Buffer hs number n = none-map hs
with-head stages.Frames hs number n = none-map hs
with-head stages.Phases hs number n = none-map hs
with-head stages.Holder hs number n = none-map hs
with-head stages.Birth hs number n = none-map hs
with-head stages.Root hs number n = none-map hs
with-head stages.Pair hs number n = none-map hs
with-head stages.Count hs number n = none-map hs
with-head stages.Address hs number n = none-map hs
with-head stages.Field hs number n = none-map hs
with-head stages.Finished hs number n = none-map hs

words-next : (bytes : List ℕ) (d : ImageDraft) (number left : ℕ) → word_at d.progress.stage number (item_at bytes number) ++ words_from bytes (put d (item_at bytes number)).progress (number + 1) left ≡ words_from bytes d.progress number (suc left)
unfolding words_from put
words-next bytes d number left = refl

words-none : (bytes : List ℕ) (p : Progress) (number : ℕ) → words_from bytes p number 0 ≡ []
unfolding words_from
words-none bytes p number = refl

placed-finished : (st : Stage) (number : ℕ) (heads : List ℕ) (d : ImageDraft) → is_finished st ≡ true → IsPlaced st number heads d → IsPlaced stages.Finished number heads d
placed-finished stages.Finished number heads d is h = h
placed-finished stages.Magic number heads d is h = absurd (let bad : false ≡ true = is in cc)
placed-finished stages.Version number heads d is h = absurd (let bad : false ≡ true = is in cc)
placed-finished stages.Lanes number heads d is h = absurd (let bad : false ≡ true = is in cc)
placed-finished stages.Domains number heads d is h = absurd (let bad : false ≡ true = is in cc)
placed-finished stages.Slots number heads d is h = absurd (let bad : false ≡ true = is in cc)
placed-finished stages.Superpages number heads d is h = absurd (let bad : false ≡ true = is in cc)
placed-finished stages.Nursery number heads d is h = absurd (let bad : false ≡ true = is in cc)
placed-finished stages.Buffer number heads d is h = absurd (let bad : false ≡ true = is in cc)
placed-finished stages.Frames number heads d is h = absurd (let bad : false ≡ true = is in cc)
placed-finished stages.Phases number heads d is h = absurd (let bad : false ≡ true = is in cc)
placed-finished stages.Holder number heads d is h = absurd (let bad : false ≡ true = is in cc)
placed-finished stages.Birth number heads d is h = absurd (let bad : false ≡ true = is in cc)
placed-finished stages.Root number heads d is h = absurd (let bad : false ≡ true = is in cc)
placed-finished stages.Pair number heads d is h = absurd (let bad : false ≡ true = is in cc)
placed-finished stages.Count number heads d is h = absurd (let bad : false ≡ true = is in cc)
placed-finished stages.Address number heads d is h = absurd (let bad : false ≡ true = is in cc)
placed-finished stages.Head number heads d is h = absurd (let bad : false ≡ true = is in cc)
placed-finished stages.Field number heads d is h = absurd (let bad : false ≡ true = is in cc)

-- the words of a draft that is whole
whole-words : (heads : List ℕ) (d : ImageDraft) → d.fields ≡ [] → draft_words heads d ≡ numbered (10 + length d.holders + length d.births) d.roots ++ words_below heads d.cells (length d.cells)
whole-words heads d none =
    ap (λ (fs : List ℕ). numbered (10 + length d.holders + length d.births) d.roots ++ (words_below heads d.cells (length d.cells) ++ numbered (get_or heads (length d.cells) 0 + 1) fs)) none
    ∙ ap (λ (ws : List (ℕ × ℕ)). numbered (10 + length d.holders + length d.births) d.roots ++ ws) (no-words (words_below heads d.cells (length d.cells)))

-- ---- the pass over the items

pub read-begin : (bytes : List ℕ) (draft : Draft) → ShowsLists draft empty_draft → ShowsHeads draft [] → IsReading bytes draft 0 (length bytes / 8)
read-begin bytes draft shows heads = record {
  now = empty_draft;
  shows = shows;
  draft_is = empty-is;
  so_far = ap (λ (n : ℕ). passing bytes empty_draft 0 n) (omega arith);
  hs = [];
  heads = heads;
  all = λ left. ap (heads_from bytes first_progress 0) (let e : left ≡ 0 + left = omega arith in e);
  few = omega arith;
  placed = empty-placed;
  words = λ left. ap (words_from bytes first_progress 0) (let e : left ≡ 0 + left = omega arith in e);
}

module _ (bytes : List ℕ) (draft : Draft) (number count : ℕ) (r : IsReading bytes draft number count) (few : length bytes < 2 ^ 32) where
  stepped : (n : ℕ) → Stepped number (map (λ (h : ℕ × ℕ). h.0) r.hs) r.now n
  stepped n = put-step number (map (λ (h : ℕ × ℕ). h.0) r.hs) r.now n r.draft_is.progress.object r.placed

  -- there is room for another key
  pub read-room : number < count → count ≤ length bytes / 8 → length draft.heads.items < 2 ^ 28
  read-room lt le =
      let h = r.few in
      let long = ap length r.heads.heads ∙ length-map r.hs (λ (x : ℕ × ℕ). x.0) in
      omega arith

  pub read-more : (after : Draft) → number < count → is_finished draft.progress.stage ≡ false → None ≡ placed r.now (item_at bytes number) → ShowsLists after (put r.now (item_at bytes number)) → ShowsHeads after (r.hs ++ head_at draft.progress.stage number (item_at bytes number)) → IsReading bytes after (number + 1) count
  read-more after lt isnt told shows heads =
      let off = ap (λ p. is_finished p.stage) (sym r.shows.progress) ∙ isnt in
      let n : ℕ = item_at bytes number in
      let step = ap (passing bytes r.now number) (left-suc count number lt) ∙ passing-next bytes r.now number (count - (number + 1)) off ∙ ap (λ (o : Option ImageCause). go_on number o (passing bytes (put r.now (item_at bytes number)) (number + 1) (count - (number + 1)))) (sym told) in
      let more : List (ℕ × ℕ) = head_at r.now.progress.stage number n in
      record {
        now = put r.now n;
        shows = shows;
        draft_is = draft-placed r.now n r.draft_is (sym told);
        so_far = sym step ∙ r.so_far;
        hs = r.hs ++ more;
        heads = subst (λ (p : Progress). ShowsHeads after (r.hs ++ head_at p.stage number n)) r.shows.progress heads;
        all = λ left. heads-joined r.hs more (heads_from bytes (put r.now n).progress (number + 1) left) ∙ ap (λ (hs : List (ℕ × ℕ)). r.hs ++ hs) (heads-next bytes r.now number left) ∙ r.all (suc left)
            ∙ ap (heads_from bytes first_progress 0) (let e : number + suc left ≡ number + 1 + left = omega arith in e);
        few = (let h = r.few in let o = put-owed r.now number n in let long = joined r.hs more in omega arith);
        placed = subst (λ (ns : List ℕ). IsPlaced (put r.now n).progress.stage (number + 1) ns (put r.now n)) (with-head r.now.progress.stage r.hs number n) (stepped n).placed;
        words = λ left.
            ap (λ (ns : List ℕ). draft_words ns (put r.now n) ++ words_from bytes (put r.now n).progress (number + 1) left) (sym (with-head r.now.progress.stage r.hs number n))
            ∙ ap (λ (ws : List (ℕ × ℕ)). ws ++ words_from bytes (put r.now n).progress (number + 1) left) (stepped n).words
            ∙ joined-words (draft_words (map (λ (h : ℕ × ℕ). h.0) r.hs) r.now) (word_at r.now.progress.stage number n) (words_from bytes (put r.now n).progress (number + 1) left)
            ∙ ap (λ (ws : List (ℕ × ℕ)). draft_words (map (λ (h : ℕ × ℕ). h.0) r.hs) r.now ++ ws) (words-next bytes r.now number left)
            ∙ r.words (suc left)
            ∙ ap (words_from bytes first_progress 0) (let e : number + suc left ≡ number + 1 + left = omega arith in e);
      }

  -- the heads so far are the first items' heads
  all-heads : r.hs ≡ heads_from bytes first_progress 0 number
  all-heads = sym (heads-nil r.hs) ∙ ap (λ (hs : List (ℕ × ℕ)). r.hs ++ hs) (sym (heads-none bytes r.now.progress number)) ∙ r.all 0 ∙ ap (heads_from bytes first_progress 0) (let e : number + 0 ≡ number = omega arith in e)

  finished-words : is_finished r.now.progress.stage ≡ true → HasWords bytes draft number
  finished-words is =
      let h = placed-finished r.now.progress.stage number (map (λ (x : ℕ × ℕ). x.0) r.hs) r.now is r.placed in
      let heads = r.heads.heads in
      let all : draft_words (map (λ (x : ℕ × ℕ). x.0) r.hs) r.now ≡ words_from bytes first_progress 0 number =
      sym (no-words (draft_words (map (λ (x : ℕ × ℕ). x.0) r.hs) r.now)) ∙ ap (λ (ws : List (ℕ × ℕ)). draft_words (map (λ (x : ℕ × ℕ). x.0) r.hs) r.now ++ ws) (sym (words-none bytes r.now.progress number)) ∙ r.words 0
      ∙ ap (words_from bytes first_progress 0) (let e : number + 0 ≡ number = omega arith in e) in
      let few = placed-few number (map (λ (x : ℕ × ℕ). x.0) r.hs) r.now h in
      let s = r.shows in
      record {
        few = rw (s.holders, s.births) few;
        heads = rw (s.cells, heads) (let e = h.field.0 in omega arith);
        words = rw (s.holders, s.births, s.roots, s.cells, heads) (sym (whole-words (map (λ (x : ℕ × ℕ). x.0) r.hs) r.now h.field.1) ∙ all);
      }

  passed : (fault : Option ImageCause) → number ≤ length bytes / 8 → all_passing bytes ≡ outcome_of fault r.now number → (fault ≡ None → HasWords bytes draft number) → HasPassed bytes (record { draft = draft; count = number; fault = fault })
  passed fault le is words = record {
    lists = r.now;
    shows = r.shows;
    heads = subst (ShowsHeads draft) all-heads r.heads;
    few = (let h = r.few in let long = ap length (sym all-heads) in omega arith);
    within = omega arith;
    outcome = is;
    words = words;
  }

  pub read-end : number ≤ length bytes / 8 → is_finished draft.progress.stage ≡ true → HasPassed bytes (record { draft = draft; count = number; fault = None })
  read-end le is = passed None le (sym r.so_far ∙ passing-finished bytes r.now number (count - number) (ap (λ p. is_finished p.stage) (sym r.shows.progress) ∙ is)) (λ _. finished-words (ap (λ p. is_finished p.stage) (sym r.shows.progress) ∙ is))

  pub read-fault : (cause : ImageCause) → number < count → count ≤ length bytes / 8 → is_finished draft.progress.stage ≡ false → Some cause ≡ placed r.now (item_at bytes number) → HasPassed bytes (record { draft = draft; count = number; fault = Some cause })
  read-fault cause lt le isnt told =
      let off = ap (λ p. is_finished p.stage) (sym r.shows.progress) ∙ isnt in
      passed (Some cause) (omega arith)
      (sym r.so_far ∙ ap (passing bytes r.now number) (left-suc count number lt) ∙ passing-next bytes r.now number (count - (number + 1)) off ∙ ap (λ (o : Option ImageCause). go_on number o (passing bytes (put r.now (item_at bytes number)) (number + 1) (count - (number + 1)))) (sym told))
      (λ e. absurd (let bad : Some cause ≡ None = e in cc))

  pub read-short : number ≡ length bytes / 8 → count ≤ number → is_finished draft.progress.stage ≡ false → HasPassed bytes (record { draft = draft; count = number; fault = Some causes.Short })
  read-short is ge isnt =
      let off = ap (λ p. is_finished p.stage) (sym r.shows.progress) ∙ isnt in
      let none : count - number ≡ 0 = omega arith in
      passed (Some causes.Short) (omega arith) (sym r.so_far ∙ ap (passing bytes r.now number) none ∙ passing-short bytes r.now number off) (λ e. absurd (let bad : Some causes.Short ≡ None = e in cc))

-- ---- the judgement of an item

pub judged-not : (d : ImageDraft) (n : ℕ) → passes d.progress d.births n ≡ false → judged d n ≡ Some (cause_of d.progress.stage)
unfolding judged
judged-not d n h = rw h refl

pub placed-not : (d : ImageDraft) (n : ℕ) → passes d.progress d.births n ≡ false → placed d n ≡ Some (cause_of d.progress.stage)
unfolding placed
placed-not d n h = rw h refl

pub placed-ok : (d : ImageDraft) (n : ℕ) → passes d.progress d.births n ≡ true → placed d n ≡ None
unfolding placed
placed-ok d n h = rw h refl

pub judged-twice : (d : ImageDraft) (n : ℕ) → passes d.progress d.births n ≡ true → is_twice_at d.progress.stage d n ≡ true → judged d n ≡ Some causes.Twice
unfolding judged
judged-twice d n h k = rw (h, k) refl

pub judged-ok : (d : ImageDraft) (n : ℕ) → passes d.progress d.births n ≡ true → is_twice_at d.progress.stage d n ≡ false → judged d n ≡ None
unfolding judged
judged-ok d n h k = rw (h, k) refl

pub passes-shown : (x : Draft) (d : ImageDraft) (n : ℕ) (bs : List ℕ) (r t : Bool) → ShowsLists x d → bs ≡ x.births.items → r ≡ passes x.progress bs n → r ≡ t → passes d.progress d.births n ≡ t
passes-shown x d n bs r t s b told is =
    ap (λ (p : Progress). passes p d.births n) (sym s.progress) ∙ ap (λ (xs : List ℕ). passes x.progress xs n) (sym (b ∙ s.births)) ∙ sym told ∙ is

pub passes-back : (x : Draft) (d : ImageDraft) (n : ℕ) → ShowsLists x d → passes d.progress d.births n ≡ true → passes x.progress x.births.items n ≡ true
passes-back x d n s h = ap (λ (p : Progress). passes p x.births.items n) s.progress ∙ ap (λ (xs : List ℕ). passes d.progress xs n) s.births ∙ h

pub passes-small : (d : ImageDraft) (n : ℕ) → IsBoundedProgress d.progress → passes d.progress d.births n ≡ true → IsSmallItem d.progress.stage n
unfolding passes
passes-small d n b h = passed-small d.progress.stage d.progress d.births n b h

put-progress-if : (t : Bool) (e : ImageDraft) → (let x : ImageDraft = if t then finished_object e else e in x.progress) ≡ e.progress
put-progress-if true e = refl
put-progress-if false e = refl

pub put-progress : (st : Stage) (d : ImageDraft) (n : ℕ) → (put_at st d n).progress ≡ d.progress
put-progress stages.Magic d n = refl
put-progress stages.Version d n = refl
put-progress stages.Lanes d n = refl
put-progress stages.Domains d n = refl
put-progress stages.Slots d n = refl
put-progress stages.Superpages d n = refl
put-progress stages.Nursery d n = refl
put-progress stages.Buffer d n = refl
put-progress stages.Frames d n = refl
put-progress stages.Phases d n = refl
put-progress stages.Holder d n = refl
put-progress stages.Birth d n = refl
put-progress stages.Root d n = refl
put-progress stages.Pair d n = refl
put-progress stages.Count d n = refl
put-progress stages.Address d n = refl
put-progress stages.Finished d n = refl
put-progress stages.Head d n = put-progress-if (n % 128 == 0) (record d { born = d.born ++ birth_bits n ∷ []; head = head_of_bits n })
put-progress stages.Field d n = put-progress-if (d.progress.fields == 1) (record d { fields = d.fields ++ n ∷ [] })

put-born-if : (t : Bool) (e : ImageDraft) → (let x : ImageDraft = if t then finished_object e else e in x.born) ≡ e.born
put-born-if true e = refl
put-born-if false e = refl

pub put-born : (st : Stage) (d : ImageDraft) (n : ℕ) → (put_at st d n).born ≡ born_with st d.born n
put-born stages.Magic d n = refl
put-born stages.Version d n = refl
put-born stages.Lanes d n = refl
put-born stages.Domains d n = refl
put-born stages.Slots d n = refl
put-born stages.Superpages d n = refl
put-born stages.Nursery d n = refl
put-born stages.Buffer d n = refl
put-born stages.Frames d n = refl
put-born stages.Phases d n = refl
put-born stages.Holder d n = refl
put-born stages.Birth d n = refl
put-born stages.Root d n = refl
put-born stages.Pair d n = refl
put-born stages.Count d n = refl
put-born stages.Address d n = refl
put-born stages.Finished d n = refl
put-born stages.Head d n = put-born-if (n % 128 == 0) (record d { born = d.born ++ birth_bits n ∷ []; head = head_of_bits n })
put-born stages.Field d n = put-born-if (d.progress.fields == 1) (record d { fields = d.fields ++ n ∷ [] })
