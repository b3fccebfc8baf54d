-- What an image begins with: its numbers, holders, births and root words.
use Rattle.std.proofs.Common.{◌≡◌, ◌≢◌, ℕ, ◌+◌, ◌*◌, ◌^◌, ◌<◌, ◌≤◌, ◌==◌, ◌&&◌, ◌||◌, nat_lt, nat_le, Bool, true, false, if◌then◌else◌, List, [], ◌∷◌, ◌++◌, length, map, None, refl, sym, ◌∙◌, ap, subst, arith}
use Prim.Native.Nat.{zero, suc}
use Rattle.std.specs.List.{AllByRecursion}
use Rattle.std.proofs.lemmas.Bool.{eq-eqb, ne_eqb, eqb-true}
use Rattle.std.proofs.lemmas.Bool.Decides.{nat_tests}
use Rattle.std.proofs.lemmas.List.{append_assoc}
use Rattle.std.proofs.Math.Nat.{mul-le-mul_left}
use Rattle.bc_model.specs.WellFormed.{IsWithin, IsSetup}
use Rattle.bc_model.specs.declared.traces.Setup.{Setup}
use Rattle.bc_model.specs.declared.values.Holder.{Holder}
use Rattle.bc_image.specs.Cells.{CellList}
use Rattle.bc_image.specs.Drafts.{ImageDraft, empty_draft, judged, put, numbered_holder, with_progress}
use Rattle.bc_image.specs.Items.{is_finished, is_within, magic, passes, advanced, is_root}
use Rattle.bc_image.specs.Memories.{no_head}
use Rattle.bc_image.specs.declared.progress.Progress.{Progress}
use Rattle.bc_image.specs.declared.progress.Stage.{Stage}
use Rattle.bc_image.specs.declared.progress.Stage.TheVariants as stages
use Rattle.bc_image.proofs.ItemLemmas.{at_most, at_least, le_true}
use Rattle.bc_image.proofs.ReadLemmas.{judged-passed, judged-ok}
use Rattle.bc_image.proofs.Running.{FitsLinked, Runs, next-item}

abbrev pub head_progress : ℕ → Setup → ℕ → Stage → ℕ → Progress
head_progress v s ph st k = record { stage = st; version = v; setup = s; phases = ph; stood = k; superpage = 0; class = 0; domain = 0; left = 0; least = 0; address = 0; fields = 0 }

-- after the numbers
abbrev pub head_draft : ℕ → Setup → ℕ → Stage → ℕ → List Holder → List ℕ → List ℕ → ImageDraft
head_draft v s ph st k hs bs rs = record { progress = head_progress v s ph st k; holders = hs; births = bs; roots = rs; born = []; cells = []; head = no_head; fields = [] }

-- ---- so many items of one kind

pub record Many (cells : List CellList) (st : Stage) (T : ℕ → Type 0) (after : List ℕ → ImageDraft) (count : ℕ) (items : List ℕ) (e : ImageDraft) : Type 0 where
  pub front : List ℕ
  pub rest : List ℕ
  pub is : items ≡ front ++ rest
  pub counted : length front ≡ count
  pub tests : AllByRecursion T front
  pub fits : AllByRecursion (FitsLinked cells st) front
  pub runs : Runs cells (after front) rest e

module _ (cells : List CellList) (X : Type 0) (st : Stage) (all : ℕ) (f : ℕ → X) (T : ℕ → Type 0) (D : ℕ → List X → ImageDraft) (E : List X → ImageDraft)
    (place : (k : ℕ) (xs : List X) → (D k xs).progress.stage ≡ st)
    (more_wanted : is_finished st ≡ false)
    (step : (k : ℕ) (xs : List X) (n : ℕ) → put (D k xs) n ≡ (if k + 1 == all then E (xs ++ f n ∷ []) else D (k + 1) (xs ++ f n ∷ [])))
    (tests : (k : ℕ) (xs : List X) (n : ℕ) → judged (D k xs) n ≡ None → T n)
    (back : (k : ℕ) (xs : List X) (n : ℕ) → T n → judged (D k xs) n ≡ None) where
  step-last : (k : ℕ) (xs : List X) (n : ℕ) → k + 1 ≡ all → put (D k xs) n ≡ E (xs ++ f n ∷ [])
  step-last k xs n e = step k xs n ∙ rw (eq-eqb (k + 1) all e) refl

  step-more : (k : ℕ) (xs : List X) (n : ℕ) → k + 1 ≢ all → put (D k xs) n ≡ D (k + 1) (xs ++ f n ∷ [])
  step-more k xs n e = step k xs n ∙ rw (ne_eqb (k + 1) all e) refl

  wanted : (k : ℕ) (xs : List X) → is_finished (D k xs).progress.stage ≡ false
  wanted k xs = ap is_finished (place k xs) ∙ more_wanted

  pub many-in : (left k : ℕ) (xs : List X) (items : List ℕ) (e : ImageDraft) → is_finished e.progress.stage ≡ true → k + suc left ≡ all → Runs cells (D k xs) items e → Many cells st T (λ ns. E (xs ++ map f ns)) (suc left) items e
  many-in zero k xs items e is total run =
      let r = next-item cells (D k xs) items e (wanted k xs) is run in
      record {
        front = r.item ∷ [];
        rest = r.more;
        is = r.is;
        counted = refl;
        tests = (tests k xs r.item r.judgement, tt);
        fits = (subst (λ s. FitsLinked cells s r.item) (place k xs) r.fits, tt);
        runs = subst (λ d. Runs cells d r.more e) (step-last k xs r.item (omega arith)) r.runs;
      }
  many-in (suc left) k xs items e is total run =
      let r = next-item cells (D k xs) items e (wanted k xs) is run in
      let m = many-in left (k + 1) (xs ++ f r.item ∷ []) r.more e is (omega arith) (subst (λ d. Runs cells d r.more e) (step-more k xs r.item (λ q. absurd (omega arith))) r.runs) in
      record {
        front = r.item ∷ m.front;
        rest = m.rest;
        is = r.is ∙ ap (λ (ns : List ℕ). r.item ∷ ns) m.is;
        counted = ap suc m.counted;
        tests = (tests k xs r.item r.judgement, m.tests);
        fits = (subst (λ s. FitsLinked cells s r.item) (place k xs) r.fits, m.fits);
        runs = subst (λ (ys : List X). Runs cells (E ys) m.rest e) (append_assoc xs (f r.item ∷ []) (map f m.front)) m.runs;
      }

  pub many-out : (ns : List ℕ) (left k : ℕ) (xs : List X) → length ns ≡ suc left → k + suc left ≡ all → AllByRecursion T ns → AllByRecursion (FitsLinked cells st) ns → Runs cells (D k xs) ns (E (xs ++ map f ns))
  many-out [] left k xs len total ts fs = absurd (omega (arith, len))
  many-out (n ∷ []) left k xs len total ts fs =
      (wanted k xs, back k xs n ts.0, subst (λ s. FitsLinked cells s n) (sym (place k xs)) fs.0, step-last k xs n (omega (arith, len)))
  many-out (n ∷ m ∷ ns) zero k xs len total ts fs = absurd (omega (arith, len))
  many-out (n ∷ m ∷ ns) (suc left) k xs len total ts fs =
      let rest = many-out (m ∷ ns) left (k + 1) (xs ++ f n ∷ []) (let q : length (m ∷ ns) ≡ suc left = omega (arith, len) in q) (omega arith) ts.1 fs.1 in
      let moved : Runs cells (D (k + 1) (xs ++ f n ∷ [])) (m ∷ ns) (E (xs ++ map f (n ∷ m ∷ ns))) = subst (λ (ys : List X). Runs cells (D (k + 1) (xs ++ f n ∷ [])) (m ∷ ns) (E ys)) (append_assoc xs (f n ∷ []) (map f (m ∷ ns))) rest in
      (wanted k xs, back k xs n ts.0, subst (λ s. FitsLinked cells s n) (sym (place k xs)) fs.0, subst (λ d. Runs cells d (m ∷ ns) (E (xs ++ map f (n ∷ m ∷ ns)))) (sym (step-more k xs n (λ q. absurd (omega arith)))) moved)

-- ---- holders, births and roots are such

progress-if : (t : Bool) (d : ImageDraft) (p q : Progress) → with_progress d (if t then p else q) ≡ (if t then with_progress d p else with_progress d q)
progress-if true d p q = refl
progress-if false d p q = refl

module _ (cells : List CellList) (v : ℕ) (s : Setup) (ph : ℕ) where
  abbrev pub HolderTest : ℕ → Type 0
  HolderTest n = (nat_lt n s.lanes || ((n == s.lanes) && nat_le 2 v)) ≡ true

  holder-step : (k : ℕ) (hs : List Holder) (n : ℕ) → put (head_draft v s ph stages.Holder k hs [] []) n ≡ (if k + 1 == s.domains then head_draft v s ph stages.Birth 0 (hs ++ numbered_holder s.lanes n ∷ []) [] [] else head_draft v s ph stages.Holder (k + 1) (hs ++ numbered_holder s.lanes n ∷ []) [] [])
  unfolding put advanced
  holder-step k hs n = progress-if (k + 1 == s.domains) (head_draft v s ph stages.Holder k (hs ++ numbered_holder s.lanes n ∷ []) [] []) (head_progress v s ph stages.Birth 0) (head_progress v s ph stages.Holder (k + 1))

  holder-test : (k : ℕ) (hs : List Holder) (n : ℕ) → judged (head_draft v s ph stages.Holder k hs [] []) n ≡ None → HolderTest n
  holder-test k hs n h = judged-passed (head_draft v s ph stages.Holder k hs [] []) n h

  holder-back : (k : ℕ) (hs : List Holder) (n : ℕ) → HolderTest n → judged (head_draft v s ph stages.Holder k hs [] []) n ≡ None
  unfolding passes
  holder-back k hs n h = judged-ok (head_draft v s ph stages.Holder k hs [] []) n h refl

  pub holders-in : (left : ℕ) (items : List ℕ) (e : ImageDraft) → is_finished e.progress.stage ≡ true → 0 + suc left ≡ s.domains → Runs cells (head_draft v s ph stages.Holder 0 [] [] []) items e → Many cells stages.Holder HolderTest (λ ns. head_draft v s ph stages.Birth 0 (map (numbered_holder s.lanes) ns) [] []) (suc left) items e
  holders-in left items e is total run = many-in cells Holder stages.Holder s.domains (numbered_holder s.lanes) HolderTest (λ k hs. head_draft v s ph stages.Holder k hs [] []) (λ hs. head_draft v s ph stages.Birth 0 hs [] []) (λ k xs. refl) refl holder-step holder-test holder-back left 0 [] items e is total run

  pub holders-out : (ns : List ℕ) (left : ℕ) → length ns ≡ suc left → 0 + suc left ≡ s.domains → AllByRecursion HolderTest ns → AllByRecursion (FitsLinked cells stages.Holder) ns → Runs cells (head_draft v s ph stages.Holder 0 [] [] []) ns (head_draft v s ph stages.Birth 0 (map (numbered_holder s.lanes) ns) [] [])
  holders-out ns left len total ts fs = many-out cells Holder stages.Holder s.domains (numbered_holder s.lanes) HolderTest (λ k hs. head_draft v s ph stages.Holder k hs [] []) (λ hs. head_draft v s ph stages.Birth 0 hs [] []) (λ k xs. refl) refl holder-step holder-test holder-back ns left 0 [] len total ts fs

  module _ (hs : List Holder) where
    abbrev pub BirthTest : ℕ → Type 0
    BirthTest n = nat_le n 4000000000 ≡ true

    birth-step : (k : ℕ) (bs : List ℕ) (n : ℕ) → put (head_draft v s ph stages.Birth k hs bs []) n ≡ (if k + 1 == s.lanes then head_draft v s ph stages.Root 0 hs (bs ++ n ∷ []) [] else head_draft v s ph stages.Birth (k + 1) hs (bs ++ n ∷ []) [])
    unfolding put advanced
    birth-step k bs n = progress-if (k + 1 == s.lanes) (head_draft v s ph stages.Birth k hs (bs ++ n ∷ []) []) (head_progress v s ph stages.Root 0) (head_progress v s ph stages.Birth (k + 1))

    birth-test : (k : ℕ) (bs : List ℕ) (n : ℕ) → judged (head_draft v s ph stages.Birth k hs bs []) n ≡ None → BirthTest n
    birth-test k bs n h = judged-passed (head_draft v s ph stages.Birth k hs bs []) n h

    birth-back : (k : ℕ) (bs : List ℕ) (n : ℕ) → BirthTest n → judged (head_draft v s ph stages.Birth k hs bs []) n ≡ None
    unfolding passes
    birth-back k bs n h = judged-ok (head_draft v s ph stages.Birth k hs bs []) n h refl

    pub births-in : (left : ℕ) (items : List ℕ) (e : ImageDraft) → is_finished e.progress.stage ≡ true → 0 + suc left ≡ s.lanes → Runs cells (head_draft v s ph stages.Birth 0 hs [] []) items e → Many cells stages.Birth BirthTest (λ ns. head_draft v s ph stages.Root 0 hs (map (λ n. n) ns) []) (suc left) items e
    births-in left items e is total run = many-in cells ℕ stages.Birth s.lanes (λ n. n) BirthTest (λ k bs. head_draft v s ph stages.Birth k hs bs []) (λ bs. head_draft v s ph stages.Root 0 hs bs []) (λ k xs. refl) refl birth-step birth-test birth-back left 0 [] items e is total run

    pub births-out : (ns : List ℕ) (left : ℕ) → length ns ≡ suc left → 0 + suc left ≡ s.lanes → AllByRecursion BirthTest ns → AllByRecursion (FitsLinked cells stages.Birth) ns → Runs cells (head_draft v s ph stages.Birth 0 hs [] []) ns (head_draft v s ph stages.Root 0 hs (map (λ n. n) ns) [])
    births-out ns left len total ts fs = many-out cells ℕ stages.Birth s.lanes (λ n. n) BirthTest (λ k bs. head_draft v s ph stages.Birth k hs bs []) (λ bs. head_draft v s ph stages.Root 0 hs bs []) (λ k xs. refl) refl birth-step birth-test birth-back ns left 0 [] len total ts fs

    module _ (bs : List ℕ) where
      abbrev pub RootTest : ℕ → Type 0
      RootTest n = is_root (2048 * s.superpages) n ≡ true

      root-step : (k : ℕ) (rs : List ℕ) (n : ℕ) → put (head_draft v s ph stages.Root k hs bs rs) n ≡ (if k + 1 == s.domains * s.slots then head_draft v s ph stages.Pair 0 hs bs (rs ++ n ∷ []) else head_draft v s ph stages.Root (k + 1) hs bs (rs ++ n ∷ []))
      unfolding put advanced
      root-step k rs n = progress-if (k + 1 == s.domains * s.slots) (head_draft v s ph stages.Root k hs bs (rs ++ n ∷ [])) (head_progress v s ph stages.Pair 0) (head_progress v s ph stages.Root (k + 1))

      root-test : (k : ℕ) (rs : List ℕ) (n : ℕ) → judged (head_draft v s ph stages.Root k hs bs rs) n ≡ None → RootTest n
      root-test k rs n h = judged-passed (head_draft v s ph stages.Root k hs bs rs) n h

      root-back : (k : ℕ) (rs : List ℕ) (n : ℕ) → RootTest n → judged (head_draft v s ph stages.Root k hs bs rs) n ≡ None
      unfolding passes
      root-back k rs n h = judged-ok (head_draft v s ph stages.Root k hs bs rs) n h refl

      pub roots-in : (left : ℕ) (items : List ℕ) (e : ImageDraft) → is_finished e.progress.stage ≡ true → 0 + suc left ≡ s.domains * s.slots → Runs cells (head_draft v s ph stages.Root 0 hs bs []) items e → Many cells stages.Root RootTest (λ ns. head_draft v s ph stages.Pair 0 hs bs (map (λ n. n) ns)) (suc left) items e
      roots-in left items e is total run = many-in cells ℕ stages.Root (s.domains * s.slots) (λ n. n) RootTest (λ k rs. head_draft v s ph stages.Root k hs bs rs) (λ rs. head_draft v s ph stages.Pair 0 hs bs rs) (λ k xs. refl) refl root-step root-test root-back left 0 [] items e is total run

      pub roots-out : (ns : List ℕ) (left : ℕ) → length ns ≡ suc left → 0 + suc left ≡ s.domains * s.slots → AllByRecursion RootTest ns → AllByRecursion (FitsLinked cells stages.Root) ns → Runs cells (head_draft v s ph stages.Root 0 hs bs []) ns (head_draft v s ph stages.Pair 0 hs bs (map (λ n. n) ns))
      roots-out ns left len total ts fs = many-out cells ℕ stages.Root (s.domains * s.slots) (λ n. n) RootTest (λ k rs. head_draft v s ph stages.Root k hs bs rs) (λ rs. head_draft v s ph stages.Pair 0 hs bs rs) (λ k xs. refl) refl root-step root-test root-back ns left 0 [] len total ts fs

-- ---- the numbers

pub record Numbers (cells : List CellList) (items : List ℕ) (e : ImageDraft) : Type 0 where
  pub version : ℕ
  pub setup : Setup
  pub phases : ℕ
  pub rest : List ℕ
  pub is : items ≡ magic ∷ version ∷ setup.lanes ∷ setup.domains ∷ setup.slots ∷ setup.superpages ∷ setup.nursery ∷ setup.buffer ∷ setup.frames ∷ phases ∷ rest
  pub version_within : IsWithin 1 3 version
  pub setup_is : IsSetup setup
  pub phases_below : phases < 2 ^ 32
  pub runs : Runs cells (head_draft version setup phases stages.Holder 0 [] [] []) rest e

within : (least most n : ℕ) → is_within least most n ≡ true → IsWithin least most n
within least most n h = (at_least least most n h, at_most least most n h)

within-true : (least most n : ℕ) → IsWithin least most n → is_within least most n ≡ true
within-true least most n h = let a = h.0 in let b = h.1 in grind (arith, nat_tests)

below-32 : (n : ℕ) → nat_le n 4294967295 ≡ true → n < 2 ^ 32
below-32 n h = let m = le_true n 4294967295 h in omega arith

ten-items : (items : List ℕ) (i0 : ℕ) (m0 : List ℕ) (i1 : ℕ) (m1 : List ℕ) (i2 : ℕ) (m2 : List ℕ) (i3 : ℕ) (m3 : List ℕ) (i4 : ℕ) (m4 : List ℕ) (i5 : ℕ) (m5 : List ℕ) (i6 : ℕ) (m6 : List ℕ) (i7 : ℕ) (m7 : List ℕ) (i8 : ℕ) (m8 : List ℕ) (i9 : ℕ) (m9 : List ℕ) → items ≡ i0 ∷ m0 → m0 ≡ i1 ∷ m1 → m1 ≡ i2 ∷ m2 → m2 ≡ i3 ∷ m3 → m3 ≡ i4 ∷ m4 → m4 ≡ i5 ∷ m5 → m5 ≡ i6 ∷ m6 → m6 ≡ i7 ∷ m7 → m7 ≡ i8 ∷ m8 → m8 ≡ i9 ∷ m9 → i0 ≡ magic → items ≡ magic ∷ i1 ∷ i2 ∷ i3 ∷ i4 ∷ i5 ∷ i6 ∷ i7 ∷ i8 ∷ i9 ∷ m9
ten-items items i0 m0 i1 m1 i2 m2 i3 m3 i4 m4 i5 m5 i6 m6 i7 m7 i8 m8 i9 m9 e0 e1 e2 e3 e4 e5 e6 e7 e8 e9 h = rw (e0, h, e1, e2, e3, e4, e5, e6, e7, e8, e9) refl

pub numbers-in : (cells : List CellList) (items : List ℕ) (e : ImageDraft) → is_finished e.progress.stage ≡ true → Runs cells empty_draft items e → Numbers cells items e
unfolding put advanced
numbers-in cells items e is run =
    let r0 = next-item cells empty_draft items e refl is run in
    let d0 : ImageDraft = put empty_draft r0.item in
    let r1 = next-item cells d0 r0.more e refl is r0.runs in
    let d1 : ImageDraft = put d0 r1.item in
    let r2 = next-item cells d1 r1.more e refl is r1.runs in
    let d2 : ImageDraft = put d1 r2.item in
    let r3 = next-item cells d2 r2.more e refl is r2.runs in
    let d3 : ImageDraft = put d2 r3.item in
    let r4 = next-item cells d3 r3.more e refl is r3.runs in
    let d4 : ImageDraft = put d3 r4.item in
    let r5 = next-item cells d4 r4.more e refl is r4.runs in
    let d5 : ImageDraft = put d4 r5.item in
    let r6 = next-item cells d5 r5.more e refl is r5.runs in
    let d6 : ImageDraft = put d5 r6.item in
    let r7 = next-item cells d6 r6.more e refl is r6.runs in
    let d7 : ImageDraft = put d6 r7.item in
    let r8 = next-item cells d7 r7.more e refl is r7.runs in
    let d8 : ImageDraft = put d7 r8.item in
    let r9 = next-item cells d8 r8.more e refl is r8.runs in
    let first : r0.item ≡ magic = eqb-true r0.item magic (judged-passed empty_draft r0.item r0.judgement) in
    record {
      version = r1.item;
      setup = record { lanes = r2.item; domains = r3.item; slots = r4.item; superpages = r5.item; nursery = r6.item; buffer = r7.item; frames = r8.item };
      phases = r9.item;
      rest = r9.more;
      is = ten-items items r0.item r0.more r1.item r1.more r2.item r2.more r3.item r3.more r4.item r4.more r5.item r5.more r6.item r6.more r7.item r7.more r8.item r8.more r9.item r9.more r0.is r1.is r2.is r3.is r4.is r5.is r6.is r7.is r8.is r9.is first;
      version_within = within 1 3 r1.item (judged-passed d0 r1.item r1.judgement);
      setup_is = record {
        lanes = within 1 16 r2.item (judged-passed d1 r2.item r2.judgement);
        domains = within 1 64 r3.item (judged-passed d2 r3.item r3.judgement);
        slots = within 1 256 r4.item (judged-passed d3 r4.item r4.judgement);
        superpages = within 1 4096 r5.item (judged-passed d4 r5.item r5.judgement);
        nursery = within 1 16 r6.item (judged-passed d5 r6.item r6.judgement);
        buffer = within 1 4096 r7.item (judged-passed d6 r7.item r7.judgement);
        frames = within (r2.item * r6.item + 2) (r2.item * r6.item + 4 * r5.item) r8.item (judged-passed d7 r8.item r8.judgement);
      };
      phases_below = below-32 r9.item (judged-passed d8 r9.item r9.judgement);
      runs = r9.runs;
    }

pub numbers-out : (cells : List CellList) (v : ℕ) (s : Setup) (ph : ℕ) → IsWithin 1 3 v → IsSetup s → ph < 2 ^ 32 → Runs cells empty_draft (magic ∷ v ∷ s.lanes ∷ s.domains ∷ s.slots ∷ s.superpages ∷ s.nursery ∷ s.buffer ∷ s.frames ∷ ph ∷ []) (head_draft v s ph stages.Holder 0 [] [] [])
unfolding put advanced passes
numbers-out cells v s ph wv ws lt =
    let d0 : ImageDraft = put empty_draft magic in
    let d1 : ImageDraft = put d0 v in
    let d2 : ImageDraft = put d1 s.lanes in
    let d3 : ImageDraft = put d2 s.domains in
    let d4 : ImageDraft = put d3 s.slots in
    let d5 : ImageDraft = put d4 s.superpages in
    let d6 : ImageDraft = put d5 s.nursery in
    let d7 : ImageDraft = put d6 s.buffer in
    let d8 : ImageDraft = put d7 s.frames in
    let small : (n most : ℕ) → n ≤ most → most < 2 ^ 33 → n < 2 ^ 64 = λ n most a b. omega arith in
    let rows : s.lanes * s.nursery ≤ s.lanes * 16 = mul-le-mul_left s.lanes ws.nursery.1 in
    let frames : s.frames < 2 ^ 64 = omega (arith, rows, ws.lanes.1, ws.superpages.1, ws.frames.1) in (
      refl,
      judged-ok empty_draft magic refl refl,
      record { small = omega arith; leads = refl },
      (
        refl,
        judged-ok d0 v (within-true 1 3 v wv) refl,
        record { small = small v 3 wv.1 (omega arith); leads = refl },
        (
          refl,
          judged-ok d1 s.lanes (within-true 1 16 s.lanes ws.lanes) refl,
          record { small = small s.lanes 16 ws.lanes.1 (omega arith); leads = refl },
          (
            refl,
            judged-ok d2 s.domains (within-true 1 64 s.domains ws.domains) refl,
            record { small = small s.domains 64 ws.domains.1 (omega arith); leads = refl },
            (
              refl,
              judged-ok d3 s.slots (within-true 1 256 s.slots ws.slots) refl,
              record { small = small s.slots 256 ws.slots.1 (omega arith); leads = refl },
              (
                refl,
                judged-ok d4 s.superpages (within-true 1 4096 s.superpages ws.superpages) refl,
                record { small = small s.superpages 4096 ws.superpages.1 (omega arith); leads = refl },
                (
                  refl,
                  judged-ok d5 s.nursery (within-true 1 16 s.nursery ws.nursery) refl,
                  record { small = small s.nursery 16 ws.nursery.1 (omega arith); leads = refl },
                  (
                    refl,
                    judged-ok d6 s.buffer (within-true 1 4096 s.buffer ws.buffer) refl,
                    record { small = small s.buffer 4096 ws.buffer.1 (omega arith); leads = refl },
                    (
                      refl,
                      judged-ok d7 s.frames (within-true (s.lanes * s.nursery + 2) (s.lanes * s.nursery + 4 * s.superpages) s.frames ws.frames) refl,
                      record { small = frames; leads = refl },
                      (refl, judged-ok d8 ph (grind (arith, nat_tests)) refl, record { small = omega arith; leads = refl }, refl),
                    ),
                  ),
                ),
              ),
            ),
          ),
        ),
      ),
    )
