-- The reader takes whole just the images.
use Rattle.std.proofs.Common.{◌≡◌, ℕ, ◌+◌, ◌*◌, ◌/◌, ◌^◌, ◌<◌, ◌≤◌, nat_le, true, List, [], ◌∷◌, ◌++◌, length, map, get_or, drop, None, Ok, refl, sym, ◌∙◌, ap, ap₂, subst, arith}
use Prim.Native.Nat.{zero, suc}
use Rattle.std.specs.List.{AllByRecursion, flat_map}
use Rattle.std.proofs.lemmas.Bool.Decides.{nat_tests}
use Rattle.std.proofs.lemmas.List.{append_assoc, length-map, length-append}
use Rattle.std.proofs.Math.Nat.{mul-le-mul_left}
use Rattle.bc_model.specs.State.{numbers_below}
use Rattle.bc_model.specs.WellFormed.{IsWithin, IsSetup}
use Rattle.bc_model.specs.declared.traces.Setup.{Setup}
use Rattle.bc_model.specs.declared.values.Holder.{Holder}
use Rattle.bc_word.specs.HeadBits.{FitsHead}
use Rattle.bc_word.specs.Words.{word_of_bits}
use Rattle.bc_image.specs.Cells.{CellList}
use Rattle.bc_image.specs.Drafts.{ImageDraft, empty_draft, numbered_holder}
use Rattle.bc_image.specs.Faults.{linking, listing_of}
use Rattle.bc_image.specs.Images.{holder_number, image_items, image_bytes, superpage_items, IsImageHolder, IsLinked, IsListed, IsImageListing, ImageOf}
use Rattle.bc_image.specs.Items.{magic, is_finished, first_progress}
use Rattle.bc_image.specs.Listings.{ListingLists}
use Rattle.bc_image.specs.Memories.{no_head, cell_at}
use Rattle.bc_image.specs.Reading.{items_of_all}
use Rattle.bc_image.specs.declared.progress.Stage.TheVariants as stages
use Rattle.bc_image.proofs.ItemLemmas.{le_true}
use Rattle.bc_image.proofs.Running.{FitsLinked, Runs, runs-then, reading-runs, runs-reading, items_from, bytes_of, bytes-spelled, bytes_of-length, item-small, items-spelled}
use Rattle.bc_image.proofs.Beginnings.{head_draft, holders-in, holders-out, births-in, births-out, roots-in, roots-out, numbers-in, numbers-out, HolderTest, BirthTest, RootTest}
use Rattle.bc_image.proofs.Groups.{page_draft, stage_at}
use Rattle.bc_image.proofs.Chains.{Chain, IsGood, pages-in, pages-out, numbers_from, numbers-from}
use Rattle.bc_image.proofs.Grammar.{all-weaker, all-map, map-same, numbers-holders, holders-numbers, holder-good, holder-tests, holder-small, words-linked, linked-leads, number-below, root-true, chain-good, chain-rising, chain-alike, chain-apart, numbers-births, listed-from, chain-of}
use Rattle.bc_image.proofs.Grammar as grammar
use Rattle.bc_image.proofs.Chains as chains

at-least : (n : ℕ) → 1 ≤ n → (m : ℕ) × (n ≡ suc m)
at-least zero h = absurd (omega arith)
at-least (suc m) h = (m, refl)

slots-some : (s : Setup) → IsSetup s → 1 ≤ s.domains * s.slots
slots-some s is =
    let rows : s.domains * 1 ≤ s.domains * s.slots = mul-le-mul_left s.domains is.slots.0 in
    let some = is.domains.0 in
    omega arith

-- what its items are
pub record Taken (items : List ℕ) (e : ImageDraft) : Type 0 where
  pub listing : IsImageListing (listing_of e)
  pub is : items ≡ image_items (listing_of e)

listing-from : (l : ListingLists) → IsWithin 1 3 l.version → IsSetup l.setup → l.phases < 2 ^ 32 → length l.holders ≡ l.setup.domains → AllByRecursion (IsImageHolder l.version l.setup.lanes) l.holders → length l.births ≡ l.setup.lanes → AllByRecursion (λ n. n ≤ 4000000000) l.births
    → length l.roots ≡ l.setup.domains * l.setup.slots → AllByRecursion (FitsLinked l.cells stages.Root) l.roots → Chain l.cells l 0 [] l.cells → IsImageListing l
listing-from l version setup phases domains holders lanes births slots roots chain =
    let good = chain-good l.cells l 0 [] l.cells chain in
    let heads : AllByRecursion (λ x. FitsHead x.head) l.cells = all-weaker (IsGood l.cells l) (λ x. FitsHead x.head) l.cells (λ x g. g.head) good in
    record {
      version = version;
      setup = setup;
      phases = phases;
      domains = domains;
      holders = holders;
      lanes = lanes;
      births = births;
      slots = slots;
      roots = words-linked l.cells stages.Root l.roots (λ n f. f.leads) roots;
      cells = all-weaker (IsGood l.cells l) (IsListed l) l.cells (listed-from l) good;
      rising = chain-rising l.cells l l.cells 0 [] chain;
      alike = chain-alike l.cells l l.cells 0 [] chain;
      apart = λ j k in_j in_k e. chain-apart l.cells l l.cells 0 [] chain j k in_j in_k (numbers-births (cell_at l.cells j) (cell_at l.cells k) (grammar.all-at (λ x. FitsHead x.head) l.cells j in_j heads) (grammar.all-at (λ x. FitsHead x.head) l.cells k in_k heads) e);
    }

-- the items of an image, part by part
items-are : (head hn bs rs ps items r0 r1 r2 : List ℕ) (hn' bs' rs' ps' : List ℕ) → items ≡ head ++ r0 → r0 ≡ hn' ++ r1 → r1 ≡ bs' ++ r2 → r2 ≡ rs' ++ ps' → hn ≡ hn' → bs ≡ bs' → rs ≡ rs' → ps ≡ ps' → items ≡ head ++ (hn ++ bs ++ rs ++ ps)
items-are head hn bs rs ps items r0 r1 r2 hn' bs' rs' ps' e0 e1 e2 e3 h0 h1 h2 h3 =
    let left : hn' ++ (bs' ++ (rs' ++ ps')) ≡ hn' ++ bs' ++ rs' ++ ps' = sym (append_assoc hn' bs' (rs' ++ ps')) ∙ sym (append_assoc (hn' ++ bs') rs' ps') in
    e0 ∙ ap (λ (xs : List ℕ). head ++ xs) (e1 ∙ ap (λ (xs : List ℕ). hn' ++ xs) (e2 ∙ ap (λ (xs : List ℕ). bs' ++ xs) e3) ∙ left ∙ same)
  where
    same : hn' ++ bs' ++ rs' ++ ps' ≡ hn ++ bs ++ rs ++ ps
    same = rw (h0, h1, h2, h3) refl

pub taken : (items : List ℕ) (e : ImageDraft) → is_finished e.progress.stage ≡ true → Runs e.cells empty_draft items e → Taken items e
taken items e is run =
    let cells : List CellList = e.cells in
    let nb = numbers-in cells items e is run in
    let v : ℕ = nb.version in
    let s : Setup = nb.setup in
    let ph : ℕ = nb.phases in
    let md = at-least s.domains nb.setup_is.domains.0 in
    let ho = holders-in cells v s ph md.0 nb.rest e is (let q = md.1 in omega arith) nb.runs in
    let hs : List Holder = map (numbered_holder s.lanes) ho.front in
    let ml = at-least s.lanes nb.setup_is.lanes.0 in
    let bi = births-in cells v s ph hs ml.0 ho.rest e is (let q = ml.1 in omega arith) ho.runs in
    let bs : List ℕ = map (λ n. n) bi.front in
    let mr = at-least (s.domains * s.slots) (slots-some s nb.setup_is) in
    let ro = roots-in cells v s ph hs bs mr.0 bi.rest e is (let q = mr.1 in omega arith) bi.runs in
    let rs : List ℕ = map (λ n. n) ro.front in
    let l : ListingLists = record { version = v; setup = s; phases = ph; holders = hs; births = bs; roots = rs; cells = cells } in
    let some = nb.setup_is.superpages.0 in
    let begun : Runs cells (page_draft l (stage_at l 0) 0 0 0 0 0 0 0 [] [] no_head []) ro.rest e =
    subst (λ st. Runs cells (page_draft l st 0 0 0 0 0 0 0 [] [] no_head []) ro.rest e) (sym (chains.stage-more cells l 0 (λ q. absurd (omega arith)))) ro.runs in
    let pg = pages-in cells l s.superpages 0 0 0 0 0 0 0 [] [] no_head ro.rest e is (omega arith) begun in
    let w = pg.ends in
    let cells_are : cells ≡ pg.all = ap (λ (d : ImageDraft). d.cells) w.is in
    let whole : listing_of e ≡ l = ap listing_of w.is ∙ ap (λ (ys : List CellList). let x : ListingLists = record { version = v; setup = s; phases = ph; holders = hs; births = bs; roots = rs; cells = ys } in x) (sym cells_are) in
    let chain : Chain cells l 0 [] cells = subst (λ (ys : List CellList). Chain cells l 0 [] ys) (sym cells_are) pg.chain in
    let listing : IsImageListing l = listing-from l nb.version_within nb.setup_is nb.phases_below (length-map ho.front (numbered_holder s.lanes) ∙ ho.counted ∙ sym md.1)
    (all-map (numbered_holder s.lanes) (HolderTest cells v s ph) (IsImageHolder v s.lanes) ho.front (λ n h. holder-good v s.lanes n h) ho.tests)
    (length-map bi.front (λ n. n) ∙ bi.counted ∙ sym ml.1)
    (all-map (λ n. n) (BirthTest cells v s ph hs) (λ n. n ≤ 4000000000) bi.front (λ n h. le_true n 4000000000 h) bi.tests)
    (length-map ro.front (λ n. n) ∙ ro.counted ∙ sym mr.1)
    (subst (AllByRecursion (FitsLinked cells stages.Root)) (sym (map-same ro.front)) ro.fits)
    chain in
    let spelled : items ≡ image_items l = items-are (magic ∷ v ∷ s.lanes ∷ s.domains ∷ s.slots ∷ s.superpages ∷ s.nursery ∷ s.buffer ∷ s.frames ∷ ph ∷ []) (map (holder_number s.lanes) hs) bs rs (flat_map (superpage_items cells) (numbers_below s.superpages)) items nb.rest ho.rest bi.rest ho.front bi.front ro.front ro.rest
    nb.is ho.is bi.is ro.is (numbers-holders s.lanes ho.front) (map-same bi.front) (map-same ro.front)
    (ap (flat_map (superpage_items cells)) (numbers-from s.superpages) ∙ ap (λ (ys : List CellList). flat_map (superpage_items ys) (numbers_from 0 s.superpages)) cells_are ∙ sym pg.is) in
    record { listing = subst IsImageListing (sym whole) listing; is = spelled ∙ ap image_items (sym whole) }

-- a listing's image is taken
pub record Takes (l : ListingLists) : Type 0 where
  pub draft : ImageDraft
  pub finished : is_finished draft.progress.stage ≡ true
  pub lists : listing_of draft ≡ l
  pub runs : Runs l.cells empty_draft (image_items l) draft

pub takes : (l : ListingLists) → IsImageListing l → Takes l
takes l is =
    let cells : List CellList = l.cells in
    let v : ℕ = l.version in
    let s : Setup = l.setup in
    let ph : ℕ = l.phases in
    let hs : List Holder = l.holders in
    let hn : List ℕ = map (holder_number s.lanes) hs in
    let chain = chain-of l is in
    let good = chain-good cells l 0 [] cells chain in
    let r0 = numbers-out cells v s ph is.version is.setup is.phases in
    let md = at-least s.domains is.setup.domains.0 in
    let r1 = holders-out cells v s ph hn md.0 (length-map hs (holder_number s.lanes) ∙ is.domains ∙ md.1) (let q = md.1 in omega arith)
    (all-map (holder_number s.lanes) (IsImageHolder v s.lanes) (HolderTest cells v s ph) hs (holder-tests v s.lanes) is.holders)
    (all-map (holder_number s.lanes) (IsImageHolder v s.lanes) (FitsLinked cells stages.Holder) hs (λ h k. record { small = holder-small v s.lanes h is.setup.lanes.1 k; leads = refl }) is.holders) in
    let hs' : List Holder = map (numbered_holder s.lanes) hn in
    let back : hs' ≡ hs = holders-numbers v s.lanes hs is.holders in
    let ml = at-least s.lanes is.setup.lanes.0 in
    let r2 = births-out cells v s ph hs' l.births ml.0 (is.lanes ∙ ml.1) (let q = ml.1 in omega arith)
    (all-weaker (λ n. n ≤ 4000000000) (BirthTest cells v s ph hs') l.births (λ n h. birth-true n h) is.births)
    (all-weaker (λ n. n ≤ 4000000000) (FitsLinked cells stages.Birth) l.births (λ n h. record { small = omega arith; leads = refl }) is.births) in
    let bs' : List ℕ = map (λ n. n) l.births in
    let mr = at-least (s.domains * s.slots) (slots-some s is.setup) in
    let r3 = roots-out cells v s ph hs' bs' l.roots mr.0 (is.slots ∙ mr.1) (let q = mr.1 in omega arith)
    (all-weaker (λ n. (n < 2 ^ 64) × IsLinked cells (word_of_bits n)) (RootTest cells v s ph hs' bs') l.roots (λ n f. root-true cells (2048 * s.superpages) n (λ k a h. number-below cells cells l a k good h) f.1) is.roots)
    (all-weaker (λ n. (n < 2 ^ 64) × IsLinked cells (word_of_bits n)) (FitsLinked cells stages.Root) l.roots (λ n f. record { small = f.0; leads = linked-leads cells (word_of_bits n) f.1 }) is.roots) in
    let rs' : List ℕ = map (λ n. n) l.roots in
    let some = is.setup.superpages.0 in
    let r4 = pages-out cells l s.superpages cells 0 0 0 0 0 0 0 [] [] no_head (omega arith) is.setup.superpages.1 is.setup.domains.1 chain in
    let w = r4.ends in
    let items4 : List ℕ = flat_map (superpage_items cells) (numbers_from 0 s.superpages) in
    let start : head_draft v s ph stages.Pair 0 hs' bs' rs' ≡ page_draft l (stage_at l 0) 0 0 0 0 0 0 0 [] [] no_head [] =
    heads-same v s ph hs' hs bs' l.births rs' l.roots back (map-same l.births) (map-same l.roots) ∙ ap (λ st. page_draft l st 0 0 0 0 0 0 0 [] [] no_head []) (sym (chains.stage-more cells l 0 (λ q. absurd (omega arith)))) in
    let runs4 : Runs cells (head_draft v s ph stages.Pair 0 hs' bs' rs') items4 r4.now = subst (λ d. Runs cells d items4 r4.now) (sym start) r4.runs in
    let front : List ℕ = magic ∷ v ∷ s.lanes ∷ s.domains ∷ s.slots ∷ s.superpages ∷ s.nursery ∷ s.buffer ∷ s.frames ∷ ph ∷ [] in
    let runs3 = runs-then cells (head_draft v s ph stages.Root 0 hs' bs' []) (head_draft v s ph stages.Pair 0 hs' bs' rs') r4.now l.roots items4 r3 runs4 in
    let runs2 = runs-then cells (head_draft v s ph stages.Birth 0 hs' [] []) (head_draft v s ph stages.Root 0 hs' bs' []) r4.now l.births (l.roots ++ items4) r2 runs3 in
    let runs1 = runs-then cells (head_draft v s ph stages.Holder 0 [] [] []) (head_draft v s ph stages.Birth 0 hs' [] []) r4.now hn (l.births ++ (l.roots ++ items4)) r1 runs2 in
    let runs0 = runs-then cells empty_draft (head_draft v s ph stages.Holder 0 [] [] []) r4.now front (hn ++ (l.births ++ (l.roots ++ items4))) r0 runs1 in
    let named : front ++ (hn ++ (l.births ++ (l.roots ++ items4))) ≡ image_items l = items-are front hn l.births l.roots (flat_map (superpage_items cells) (numbers_below s.superpages)) (front ++ (hn ++ (l.births ++ (l.roots ++ items4)))) (hn ++ (l.births ++ (l.roots ++ items4))) (l.births ++ (l.roots ++ items4)) (l.roots ++ items4) hn l.births l.roots items4
    refl refl refl refl refl refl refl (ap (flat_map (superpage_items cells)) (numbers-from s.superpages)) in
    record {
      draft = r4.now;
      finished = ap (λ (d : ImageDraft). is_finished d.progress.stage) w.is ∙ ap is_finished (chains.stage-end cells l (0 + s.superpages) (omega arith));
      lists = ap listing_of w.is;
      runs = subst (λ (ns : List ℕ). Runs cells empty_draft ns r4.now) named runs0;
    }
  where
    birth-true : (n : ℕ) → n ≤ 4000000000 → nat_le n 4000000000 ≡ true
    birth-true n h = grind (arith, nat_tests)

    heads-same : (v : ℕ) (s : Setup) (ph : ℕ) (hs hs' : List Holder) (bs bs' rs rs' : List ℕ) → hs ≡ hs' → bs ≡ bs' → rs ≡ rs' → head_draft v s ph stages.Pair 0 hs bs rs ≡ head_draft v s ph stages.Pair 0 hs' bs' rs'
    heads-same v s ph hs hs' bs bs' rs rs' h0 h1 h2 = rw (h0, h1, h2) refl

runs-small : (cells : List CellList) (items : List ℕ) (d e : ImageDraft) → Runs cells d items e → AllByRecursion (λ n. n < 2 ^ 64) items
runs-small cells [] d e run = tt
runs-small cells (n ∷ ns) d e run = (run.2.small, runs-small cells ns _ e run.3)

-- ---- the law, both ways

pub law-read : (bytes : List ℕ) → ((i : ℕ) → get_or bytes i 0 < 256) → (d : ImageDraft) (k : ℕ) → items_of_all bytes ≡ Ok (d, k) → linking bytes d.cells first_progress 0 k ≡ None → (8 * k ≤ length bytes) × ImageOf bytes (listing_of d) (drop (8 * k) bytes)
unfolding image_bytes
law-read bytes small d k read none =
    let r = reading-runs bytes d.cells (item-small bytes small) (length bytes / 8) empty_draft 0 d k read in
    let same : k ≡ r.count = (let e = r.end_is in omega arith) in
    let run = r.runs (ap (linking bytes d.cells first_progress 0) (sym same) ∙ none) in
    let t = taken (items_from bytes 0 r.count) d r.finished run in
    let le : 8 * r.count ≤ length bytes = (let w = r.within in omega arith) in
    let spelled = bytes-spelled bytes small r.count 0 (omega arith) in
    let end : 8 * (0 + r.count) ≡ 8 * k = omega arith in
    (omega arith, record { listing = t.listing; spelled = spelled ∙ ap₂ (λ (ns : List ℕ) (j : ℕ). bytes_of ns ++ drop j bytes) t.is end })

pub record IsRead (bytes : List ℕ) (l : ListingLists) : Type 0 where
  pub draft : ImageDraft
  pub lists : listing_of draft ≡ l
  pub read : items_of_all bytes ≡ Ok (draft, length (image_items l))
  pub links : linking bytes draft.cells first_progress 0 (length (image_items l)) ≡ None

pub law-image : (bytes : List ℕ) (l : ListingLists) (rest : List ℕ) → ImageOf bytes l rest → IsRead bytes l
unfolding image_bytes
law-image bytes l rest is =
    let t = takes l is.listing in
    let items : List ℕ = image_items l in
    let n : ℕ = length items in
    let small = runs-small l.cells items empty_draft t.draft t.runs in
    let named : items_from bytes 0 n ≡ items = items-spelled bytes items rest 0 small is.spelled in
    let long : length bytes ≡ 8 * n + length rest = ap length is.spelled ∙ length-append (bytes_of items) rest ∙ ap (λ (k : ℕ). k + length rest) (bytes_of-length items) in
    let run : Runs l.cells empty_draft (items_from bytes 0 n) t.draft = subst (λ (ns : List ℕ). Runs l.cells empty_draft ns t.draft) (sym named) t.runs in
    let r = runs-reading bytes l.cells n (length bytes / 8) empty_draft 0 t.draft run t.finished (omega (arith, long)) in
    let same : 0 + n ≡ n = omega arith in
    record {
      draft = t.draft;
      lists = t.lists;
      read = r.0 ∙ ap (λ (k : ℕ). Ok (t.draft, k)) same;
      links = ap (λ (x : ListingLists). linking bytes x.cells first_progress 0 n) t.lists ∙ r.1;
    }

pub image-length : (l : ListingLists) → length (image_bytes l) ≡ 8 * length (image_items l)
unfolding image_bytes
image-length l = bytes_of-length (image_items l)
