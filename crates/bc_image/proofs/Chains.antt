-- All objects of an image: their list, and their items.
use Rattle.std.proofs.Common.{◌≡◌, ◌≢◌, ℕ, ◌+◌, ◌*◌, ◌/◌, ◌%◌, ◌<◌, ◌≤◌, ◌==◌, nat_eq, Bool, true, false, List, [], ◌∷◌, ◌++◌, length, map, filter, slice_index, refl, sym, ◌∙◌, ap, ap₂, subst, inl, inr, arith}
use Prim.Native.Nat.{zero, suc}
use Rattle.std.specs.List.{AllByRecursion, list_any, flat_map}
use Rattle.std.proofs.lemmas.Bool.{eq-eqb, ne_eqb, cases_eq}
use Rattle.std.proofs.lemmas.List.{append_assoc, append-nil}
use Rattle.std.proofs.lemmas.List.Elements.{filter-append}
use Rattle.bc_classes.specs.Classes.{class_of}
use Rattle.bc_classes.specs.ClassNumbers.{IsClass}
use Rattle.bc_classes.proofs.ClassLemmas.{class_of-class, class-positive}
use Rattle.bc_model.specs.State.{numbers_below}
use Rattle.bc_word.specs.HeadBits.{FitsHead}
use Rattle.bc_word.specs.declared.heads.Head.{Head}
use Rattle.bc_image.specs.Cells.{CellList}
use Rattle.bc_image.specs.Drafts.{ImageDraft}
use Rattle.bc_image.specs.Images.{group_items, superpage_items}
use Rattle.bc_image.specs.Items.{is_finished}
use Rattle.bc_image.specs.Listings.{ListingLists}
use Rattle.bc_image.specs.declared.progress.Stage.TheVariants as stages
use Rattle.bc_image.proofs.Running.{FitsLinked, Runs, runs-then}
use Rattle.bc_image.proofs.Groups.{page_draft, stage_at, IsObject}
use Rattle.bc_image.proofs.Superpages.{number_of, AreObjects, Ends, IsGroup, Leads, superpage-in, superpage-out, cell-ends}

abbrev pub numbers_from : ℕ → ℕ → List ℕ
numbers_from q zero = []
numbers_from q (suc n) = q ∷ numbers_from (q + 1) n

numbers-push : (n q : ℕ) → numbers_from q (suc n) ≡ numbers_from q n ++ (q + n) ∷ []
numbers-push zero q = ap (λ (k : ℕ). k ∷ []) (let e : q ≡ q + 0 = omega arith in e)
numbers-push (suc n) q = ap (λ (ns : List ℕ). q ∷ ns) (numbers-push n (q + 1) ∙ ap (λ (k : ℕ). numbers_from (q + 1) n ++ k ∷ []) (let e : q + 1 + n ≡ q + suc n = omega arith in e))

pub numbers-from : (n : ℕ) → numbers_below n ≡ numbers_from 0 n
numbers-from zero = refl
numbers-from (suc n) = ap (λ (ns : List ℕ). ns ++ n ∷ []) (numbers-from n) ∙ ap (λ (k : ℕ). numbers_from 0 n ++ k ∷ []) (let e : n ≡ 0 + n = omega arith in e) ∙ sym (numbers-push n 0)

pub map-both : (xs ys : List CellList) → map number_of (xs ++ ys) ≡ map number_of xs ++ map number_of ys
map-both [] ys = refl
map-both (x ∷ xs) ys = ap (λ (ns : List ℕ). number_of x ∷ ns) (map-both xs ys)

-- two objects of one superpage are of one kind
abbrev pub Alike : CellList → CellList → Type 0
Alike x y = x.address / 2048 ≡ y.address / 2048 → (x.head.domain ≡ y.head.domain) × (class_of x.head.fields ≡ class_of y.head.fields)

all-both : (P : CellList → Type 0) (xs ys : List CellList) → AllByRecursion P xs → AllByRecursion P ys → AllByRecursion P (xs ++ ys)
all-both P [] ys a b = b
all-both P (x ∷ xs) ys a b = (a.0, all-both P xs ys a.1 b)

all-weaker : (P Q : CellList → Type 0) (xs : List CellList) → ((x : CellList) → P x → Q x) → AllByRecursion P xs → AllByRecursion Q xs
all-weaker P Q [] f a = tt
all-weaker P Q (x ∷ xs) f a = (f x a.0, all-weaker P Q xs f a.1)

filter-all : (p : CellList → Bool) (xs : List CellList) → AllByRecursion (λ x. p x ≡ true) xs → filter p xs ≡ xs
filter-all p [] a = refl
filter-all p (x ∷ xs) a = rw (a.0) (ap (λ (ys : List CellList). x ∷ ys) (filter-all p xs a.1))

filter-none : (p : CellList → Bool) (xs : List CellList) → AllByRecursion (λ x. p x ≡ false) xs → filter p xs ≡ []
filter-none p [] a = refl
filter-none p (x ∷ xs) a = rw (a.0) (filter-none p xs a.1)

module _ (cells : List CellList) (l : ListingLists) where
  pub record IsGood (x : CellList) : Type 0 where
    pub superpage : x.address / 2048 < l.setup.superpages
    pub start : x.address % class_of x.head.fields ≡ 0
    pub head : FitsHead x.head
    pub lane : x.head.lane < l.setup.lanes
    pub positive : 0 < x.head.serial
    pub serial : x.head.serial ≤ slice_index l.births x.head.lane
    pub domain : x.head.domain < l.setup.domains
    pub count : length x.fields ≡ x.head.fields
    pub fields : AllByRecursion (FitsLinked cells stages.Field) x.fields

  -- objects by ascending addresses, from a least one on, with births apart
  abbrev pub Chain : ℕ → List ℕ → List CellList → Type 0
  Chain least born [] = Unit {0}
  Chain least born (x ∷ xs) = IsGood x × (least ≤ x.address) × (list_any (nat_eq (number_of x)) born ≡ false) × AllByRecursion (Alike x) xs × Chain (x.address + 1) (born ++ number_of x ∷ []) xs

  chain-lower : (low least : ℕ) (born : List ℕ) (xs : List CellList) → low ≤ least → Chain least born xs → Chain low born xs
  chain-lower low least born [] le c = tt
  chain-lower low least born (x ∷ xs) le c = (c.0, (let h = c.1 in omega arith), c.2, c.3, c.4)

  pub chain-above : (least : ℕ) (born : List ℕ) (xs : List CellList) → Chain least born xs → AllByRecursion (λ y. least ≤ y.address) xs
  chain-above least born [] c = tt
  chain-above least born (x ∷ xs) c = (c.1, chain-above least (born ++ number_of x ∷ []) xs (chain-lower least (x.address + 1) (born ++ number_of x ∷ []) xs (let h = c.1 in omega arith) c.4))

  -- ---- from superpages to the list

  good-from : (q c dom least : ℕ) (x : CellList) → IsObject cells l q c dom least x → q < l.setup.superpages → dom < l.setup.domains → IsGood x
  good-from q c dom least x o lt few = record {
    superpage = subst (λ (k : ℕ). k < l.setup.superpages) (sym o.page) lt;
    start = subst (λ (k : ℕ). x.address % k ≡ 0) (sym o.class) o.start;
    head = o.head;
    lane = o.lane;
    positive = o.positive;
    serial = o.serial;
    domain = subst (λ (k : ℕ). k < l.setup.domains) (sym o.domain) few;
    count = o.count;
    fields = o.fields;
  }

  kinds : (q c dom least : ℕ) (born : List ℕ) (xs : List CellList) → AreObjects cells l q c dom least born xs → AllByRecursion (λ y. (y.address / 2048 ≡ q) × (y.head.domain ≡ dom) × (class_of y.head.fields ≡ c)) xs
  kinds q c dom least born [] ok = tt
  kinds q c dom least born (x ∷ xs) ok = ((ok.0.page, ok.0.domain, ok.0.class), kinds q c dom (x.address + c) (born ++ number_of x ∷ []) xs ok.2)

  chain-group : (group rest : List CellList) (q c dom least : ℕ) (born : List ℕ) → IsClass c → q < l.setup.superpages → dom < l.setup.domains → least ≤ 2048 * (q + 1) → AreObjects cells l q c dom least born group → Chain (2048 * (q + 1)) (born ++ map number_of group) rest → Chain least born (group ++ rest)
  chain-group [] rest q c dom least born cl lt few le ok more = chain-lower least (2048 * (q + 1)) born rest le (subst (λ (bs : List ℕ). Chain (2048 * (q + 1)) bs rest) (append-nil born) more)
  chain-group (x ∷ xs) rest q c dom least born cl lt few le ok more =
      let on = chain-group xs rest q c dom (x.address + c) (born ++ number_of x ∷ []) cl lt few (cell-ends cells l x.address c q cl ok.0.page ok.0.start) ok.2 (subst (λ (bs : List ℕ). Chain (2048 * (q + 1)) bs rest) (sym (append_assoc born (number_of x ∷ []) (map number_of xs))) more) in
      let some = class-positive c cl in (
        good-from q c dom least x ok.0 lt few,
        ok.0.least_is,
        ok.1,
        all-both (Alike x) xs rest
            (all-weaker (λ y. (y.address / 2048 ≡ q) × (y.head.domain ≡ dom) × (class_of y.head.fields ≡ c)) (Alike x) xs (λ y k same. (ok.0.domain ∙ sym k.1, ok.0.class ∙ sym k.2)) (kinds q c dom (x.address + c) (born ++ number_of x ∷ []) xs ok.2))
            (all-weaker (λ y. 2048 * (q + 1) ≤ y.address) (Alike x) rest (λ y high same. absurd (let p : x.address / 2048 ≡ q = ok.0.page in omega arith)) (chain-above (2048 * (q + 1)) (born ++ map number_of (x ∷ xs)) rest more)),
        chain-lower (x.address + 1) (x.address + c) (born ++ number_of x ∷ []) (xs ++ rest) (omega arith) on,
      )

  chain-superpage : (group rest : List CellList) (q : ℕ) (born : List ℕ) → q < l.setup.superpages → IsGroup cells l q born group → Chain (2048 * (q + 1)) (born ++ map number_of group) rest → Chain (2048 * q) born (group ++ rest)
  chain-superpage [] rest q born lt ok more = chain-lower (2048 * q) (2048 * (q + 1)) born rest (omega arith) (subst (λ (bs : List ℕ). Chain (2048 * (q + 1)) bs rest) (append-nil born) more)
  chain-superpage (x ∷ xs) rest q born lt ok more = chain-group (x ∷ xs) rest q (class_of x.head.fields) x.head.domain (2048 * q) born (class_of-class x.head.fields) lt ok.0 (omega arith) ok.1 more

  group-page : (group : List CellList) (q : ℕ) (born : List ℕ) → IsGroup cells l q born group → AllByRecursion (λ y. y.address / 2048 ≡ q) group
  group-page [] q born ok = tt
  group-page (x ∷ xs) q born ok = all-weaker (λ y. (y.address / 2048 ≡ q) × (y.head.domain ≡ x.head.domain) × (class_of y.head.fields ≡ class_of x.head.fields)) (λ y. y.address / 2048 ≡ q) (x ∷ xs) (λ y k. k.0) (kinds q (class_of x.head.fields) x.head.domain (2048 * q) born (x ∷ xs) ok.1)

  -- ---- the items of superpages

  items-page : (group rest : List CellList) (q : ℕ) → AllByRecursion (λ y. y.address / 2048 ≡ q) group → AllByRecursion (λ y. 2048 * (q + 1) ≤ y.address) rest → superpage_items (group ++ rest) q ≡ group_items group
  items-page group rest q here above =
      let p : CellList → Bool = λ y. y.address / 2048 == q in
      let one : filter p group ≡ group = filter-all p group (all-weaker (λ y. y.address / 2048 ≡ q) (λ y. p y ≡ true) group (λ y e. eq-eqb (y.address / 2048) q e) here) in
      let none : filter p rest ≡ [] = filter-none p rest (all-weaker (λ y. 2048 * (q + 1) ≤ y.address) (λ y. p y ≡ false) rest (λ y h. ne_eqb (y.address / 2048) q (λ e. absurd (omega arith))) above) in
      ap group_items (filter-append p group rest ∙ ap₂ (λ (xs ys : List CellList). xs ++ ys) one none ∙ append-nil group)

  items-later : (group rest : List CellList) (q j : ℕ) → AllByRecursion (λ y. y.address / 2048 ≡ q) group → q < j → superpage_items (group ++ rest) j ≡ superpage_items rest j
  items-later group rest q j here lt =
      let p : CellList → Bool = λ y. y.address / 2048 == j in
      let none : filter p group ≡ [] = filter-none p group (all-weaker (λ y. y.address / 2048 ≡ q) (λ y. p y ≡ false) group (λ y e. ne_eqb (y.address / 2048) j (λ k. absurd (omega arith))) here) in
      ap group_items (filter-append p group rest ∙ ap (λ (xs : List CellList). xs ++ filter p rest) none)

  flat-later : (n j : ℕ) (group rest : List CellList) (q : ℕ) → AllByRecursion (λ y. y.address / 2048 ≡ q) group → q < j → flat_map (superpage_items (group ++ rest)) (numbers_from j n) ≡ flat_map (superpage_items rest) (numbers_from j n)
  flat-later zero j group rest q here lt = refl
  flat-later (suc n) j group rest q here lt = ap₂ (λ (xs ys : List ℕ). xs ++ ys) (items-later group rest q j here lt) (flat-later n (j + 1) group rest q here (omega arith))

  pub flat-page : (n q : ℕ) (group rest : List CellList) (born : List ℕ) → IsGroup cells l q born group → Chain (2048 * (q + 1)) (born ++ map number_of group) rest → flat_map (superpage_items (group ++ rest)) (numbers_from q (suc n)) ≡ group_items group ++ flat_map (superpage_items rest) (numbers_from (q + 1) n)
  flat-page n q group rest born ok more =
      let here = group-page group q born ok in
      ap₂ (λ (xs ys : List ℕ). xs ++ ys) (items-page group rest q here (chain-above (2048 * (q + 1)) (born ++ map number_of group) rest more)) (flat-later n (q + 1) group rest q here (omega arith))

  -- ---- reading them

  pub stage-end : (q : ℕ) → q ≡ l.setup.superpages → stage_at l q ≡ stages.Finished
  stage-end q e = rw (eq-eqb q l.setup.superpages e) refl

  pub stage-more : (q : ℕ) → q ≢ l.setup.superpages → stage_at l q ≡ stages.Pair
  stage-more q e = rw (ne_eqb q l.setup.superpages e) refl

  pub record Pages (n q : ℕ) (born : List ℕ) (cs : List CellList) (items : List ℕ) (e : ImageDraft) : Type 0 where
    pub all : List CellList
    pub is : items ≡ flat_map (superpage_items all) (numbers_from q n)
    pub chain : Chain (2048 * q) born all
    pub ends : Ends cells l (q + n) (born ++ map number_of all) (cs ++ all) e

  pages-end : (q c dom left least a f : ℕ) (born : List ℕ) (cs : List CellList) (h : Head) (items : List ℕ) (e : ImageDraft) → q ≡ l.setup.superpages → Runs cells (page_draft l (stage_at l q) q c dom left least a f born cs h []) items e → Pages 0 q born cs items e
  pages-end q c dom left least a f born cs h [] e end run =
      let same : q ≡ q + 0 = omega arith in
      record {
        all = [];
        is = refl;
        chain = tt;
        ends = record { class = c; domain = dom; left = left; least = least; address = a; fields = f; head = h; is = sym run ∙ ap₂ (λ (bs : List ℕ) (ys : List CellList). page_draft l (stage_at l q) q c dom left least a f bs ys h []) (sym (append-nil born)) (sym (append-nil cs)) ∙ ap (λ (k : ℕ). page_draft l (stage_at l k) k c dom left least a f (born ++ []) (cs ++ []) h []) same };
      }
  pages-end q c dom left least a f born cs h (n ∷ ns) e end run = absurd (let k : true ≡ false = sym (ap is_finished (stage-end q end)) ∙ run.0 in cc)

  pub pages-in : (n q c dom left least a f : ℕ) (born : List ℕ) (cs : List CellList) (h : Head) (items : List ℕ) (e : ImageDraft) → is_finished e.progress.stage ≡ true → q + n ≡ l.setup.superpages → Runs cells (page_draft l (stage_at l q) q c dom left least a f born cs h []) items e → Pages n q born cs items e
  pages-in zero q c dom left least a f born cs h items e is total run = pages-end q c dom left least a f born cs h items e (omega arith) run
  pages-in (suc n) q c dom left least a f born cs h items e is total run =
      let p = superpage-in cells l q c dom left least a f born cs h items e is (subst (λ s. Runs cells (page_draft l s q c dom left least a f born cs h []) items e) (stage-more q (λ k. absurd (omega arith))) run) in
      let w = p.ends in
      let r = pages-in n (q + 1) w.class w.domain w.left w.least w.address w.fields (born ++ map number_of p.group) (cs ++ p.group) w.head p.rest e is (omega arith) (subst (λ d. Runs cells d p.rest e) w.is p.runs) in
      record {
        all = p.group ++ r.all;
        is = p.is ∙ ap (λ (ns : List ℕ). group_items p.group ++ ns) r.is ∙ sym (flat-page n q p.group r.all born p.ok r.chain);
        chain = chain-superpage p.group r.all q born (omega arith) p.ok r.chain;
        ends = ends-moved (q + 1 + n) (q + suc n) ((born ++ map number_of p.group) ++ map number_of r.all) (born ++ map number_of (p.group ++ r.all)) ((cs ++ p.group) ++ r.all) (cs ++ (p.group ++ r.all)) e (omega arith) (append_assoc born (map number_of p.group) (map number_of r.all) ∙ ap (λ (xs : List ℕ). born ++ xs) (sym (map-both p.group r.all))) (append_assoc cs p.group r.all) r.ends;
      }
    where
      ends-moved : (q r : ℕ) (bs bs' : List ℕ) (cs cs' : List CellList) (e : ImageDraft) → q ≡ r → bs ≡ bs' → cs ≡ cs' → Ends cells l q bs cs e → Ends cells l r bs' cs' e
      ends-moved q r bs bs' cs cs' e h0 h1 h2 w = subst (λ (k : ℕ). Ends cells l k bs' cs' e) h0 (subst (λ (xs : List ℕ). Ends cells l q xs cs' e) h1 (subst (λ (ys : List CellList). Ends cells l q bs ys e) h2 w))

  -- ---- and back: a list falls apart into superpages

  apart-by : (a b c : ℕ) → IsClass c → a % c ≡ 0 → b % c ≡ 0 → a < b → a + c ≤ b
  apart-by a b c k x y lt = elim k [
    | inl e ↦ (let u : a % 2 ≡ 0 = subst (λ (z : ℕ). a % z ≡ 0) e x in let v : b % 2 ≡ 0 = subst (λ (z : ℕ). b % z ≡ 0) e y in omega arith)
    | inr k4 ↦ elim k4 [
      | inl e ↦ (let u : a % 4 ≡ 0 = subst (λ (z : ℕ). a % z ≡ 0) e x in let v : b % 4 ≡ 0 = subst (λ (z : ℕ). b % z ≡ 0) e y in omega arith)
      | inr k8 ↦ elim k8 [
        | inl e ↦ (let u : a % 8 ≡ 0 = subst (λ (z : ℕ). a % z ≡ 0) e x in let v : b % 8 ≡ 0 = subst (λ (z : ℕ). b % z ≡ 0) e y in omega arith)
        | inr k16 ↦ elim k16 [
          | inl e ↦ (let u : a % 16 ≡ 0 = subst (λ (z : ℕ). a % z ≡ 0) e x in let v : b % 16 ≡ 0 = subst (λ (z : ℕ). b % z ≡ 0) e y in omega arith)
          | inr k32 ↦ elim k32 [
            | inl e ↦ (let u : a % 32 ≡ 0 = subst (λ (z : ℕ). a % z ≡ 0) e x in let v : b % 32 ≡ 0 = subst (λ (z : ℕ). b % z ≡ 0) e y in omega arith)
            | inr k64 ↦ elim k64 [
              | inl e ↦ (let u : a % 64 ≡ 0 = subst (λ (z : ℕ). a % z ≡ 0) e x in let v : b % 64 ≡ 0 = subst (λ (z : ℕ). b % z ≡ 0) e y in omega arith)
              | inr e ↦ (let u : a % 128 ≡ 0 = subst (λ (z : ℕ). a % z ≡ 0) e x in let v : b % 128 ≡ 0 = subst (λ (z : ℕ). b % z ≡ 0) e y in omega arith)
            ]
          ]
        ]
      ]
    ]
  ]

  record SplitOn (q c dom low : ℕ) (born : List ℕ) (all : List CellList) : Type 0 where
    pub group : List CellList
    pub rest : List CellList
    pub is : all ≡ group ++ rest
    pub ok : AreObjects cells l q c dom low born group
    pub more : Chain (2048 * (q + 1)) (born ++ map number_of group) rest

  none-more : (all : List CellList) (q least : ℕ) (born : List ℕ) → AllByRecursion (λ y. 2048 * (q + 1) ≤ y.address) all → Chain least born all → Chain (2048 * (q + 1)) (born ++ []) all
  none-more all q least born high chain = subst (λ (bs : List ℕ). Chain (2048 * (q + 1)) bs all) (sym (append-nil born)) (higher all high chain)
    where
      higher : (xs : List CellList) → AllByRecursion (λ y. 2048 * (q + 1) ≤ y.address) xs → Chain least born xs → Chain (2048 * (q + 1)) born xs
      higher [] a ch = tt
      higher (x ∷ xs) a ch = (ch.0, a.0, ch.2, ch.3, ch.4)

  split-none : (all : List CellList) (q c dom low least : ℕ) (born : List ℕ) → AllByRecursion (λ y. 2048 * (q + 1) ≤ y.address) all → Chain least born all → SplitOn q c dom low born all
  split-none all q c dom low least born high chain = record { group = []; rest = all; is = refl; ok = tt; more = none-more all q least born high chain }

  past : (x : CellList) (xs : List CellList) (q least : ℕ) (born : List ℕ) → 2048 * q ≤ least → x.address / 2048 ≢ q → Chain least born (x ∷ xs) → AllByRecursion (λ y. 2048 * (q + 1) ≤ y.address) (x ∷ xs)
  past x xs q least born from ne chain =
      let low : least ≤ x.address = chain.1 in
      let high : 2048 * (q + 1) ≤ x.address = past-at x.address q (omega arith) ne in
      (high, all-weaker (λ y. x.address + 1 ≤ y.address) (λ y. 2048 * (q + 1) ≤ y.address) xs (λ y h. omega arith) (chain-above (x.address + 1) (born ++ number_of x ∷ []) xs chain.4))
    where
      past-at : (a q : ℕ) → 2048 * q ≤ a → a / 2048 ≢ q → 2048 * (q + 1) ≤ a
      past-at a q h n = elim (cases_eq (a / 2048) q) [ inl e ↦ absurd (n e) | inr _ ↦ omega arith ]

  object-from : (q c dom low : ℕ) (x : CellList) → IsGood x → x.address / 2048 ≡ q → x.head.domain ≡ dom → class_of x.head.fields ≡ c → low ≤ x.address → IsObject cells l q c dom low x
  object-from q c dom low x g page d k le = record {
    page = page;
    start = subst (λ (z : ℕ). x.address % z ≡ 0) k g.start;
    least_is = le;
    head = g.head;
    lane = g.lane;
    positive = g.positive;
    serial = g.serial;
    domain = d;
    class = k;
    count = g.count;
    fields = g.fields;
  }

  split-on : (all : List CellList) (q c dom low least : ℕ) (born : List ℕ) → IsClass c → 2048 * q ≤ least
      → ((y : ℕ) → least ≤ y → y % c ≡ 0 → low ≤ y)
      → AllByRecursion (λ y. y.address / 2048 ≡ q → (y.head.domain ≡ dom) × (class_of y.head.fields ≡ c)) all → Chain least born all → SplitOn q c dom low born all
  split-on [] q c dom low least born cl from lows kind chain = split-none [] q c dom low least born tt chain
  split-on (x ∷ xs) q c dom low least born cl from lows kind chain = elim (cases_eq (x.address / 2048) q) [
    | inr ne ↦ split-none (x ∷ xs) q c dom low least born (past x xs q least born from ne chain) chain
    | inl page ↦
        let k = kind.0 page in
        let start : x.address % c ≡ 0 = subst (λ (z : ℕ). x.address % z ≡ 0) k.1 chain.0.start in
        let low_is : low ≤ x.address = lows x.address chain.1 start in
        let r = split-on xs q c dom (x.address + c) (x.address + 1) (born ++ number_of x ∷ []) cl (let h = chain.1 in omega arith) (λ y h z. apart-by x.address y c cl start z (omega arith)) kind.1 chain.4 in
        record {
          group = x ∷ r.group;
          rest = r.rest;
          is = ap (λ (ys : List CellList). x ∷ ys) r.is;
          ok = (object-from q c dom low x chain.0 page k.0 k.1 low_is, chain.2, r.ok);
          more = subst (λ (bs : List ℕ). Chain (2048 * (q + 1)) bs r.rest) (append_assoc born (number_of x ∷ []) (map number_of r.group)) r.more;
        }
  ]

  pub record Split (q : ℕ) (born : List ℕ) (all : List CellList) : Type 0 where
    pub group : List CellList
    pub rest : List CellList
    pub is : all ≡ group ++ rest
    pub ok : IsGroup cells l q born group
    pub more : Chain (2048 * (q + 1)) (born ++ map number_of group) rest

  pub split : (all : List CellList) (q : ℕ) (born : List ℕ) → Chain (2048 * q) born all → Split q born all
  split [] q born chain = record { group = []; rest = []; is = refl; ok = tt; more = tt }
  split (x ∷ xs) q born chain = elim (cases_eq (x.address / 2048) q) [
    | inr ne ↦
        record { group = []; rest = x ∷ xs; is = refl; ok = tt; more = none-more (x ∷ xs) q (2048 * q) born (past x xs q (2048 * q) born (omega arith) ne chain) chain }
    | inl page ↦
        let c : ℕ = class_of x.head.fields in
        let dom : ℕ = x.head.domain in
        let cl = class_of-class x.head.fields in
        let kind = all-weaker (Alike x) (λ y. y.address / 2048 ≡ q → (y.head.domain ≡ dom) × (class_of y.head.fields ≡ c)) xs (λ y same e. (let b = same (page ∙ sym e) in (sym b.0, sym b.1))) chain.3 in
        let r = split-on xs q c dom (x.address + c) (x.address + 1) (born ++ number_of x ∷ []) cl (let h = chain.1 in omega arith) (λ y h z. apart-by x.address y c cl chain.0.start z (omega arith)) kind chain.4 in
        record {
          group = x ∷ r.group;
          rest = r.rest;
          is = ap (λ (ys : List CellList). x ∷ ys) r.is;
          ok = (chain.0.domain, (object-from q c dom (2048 * q) x chain.0 page refl refl chain.1, chain.2, r.ok));
          more = subst (λ (bs : List ℕ). Chain (2048 * (q + 1)) bs r.rest) (append_assoc born (number_of x ∷ []) (map number_of r.group)) r.more;
        }
  ]

  leads-end : (all : List CellList) (q c dom left least a f : ℕ) (born : List ℕ) (cs : List CellList) (h : Head) → q ≡ l.setup.superpages → Chain (2048 * q) born all → Leads cells l (q + 0) (born ++ map number_of all) (cs ++ all) (page_draft l (stage_at l q) q c dom left least a f born cs h []) []
  leads-end [] q c dom left least a f born cs h end chain =
      let same : q ≡ q + 0 = omega arith in
      record {
        now = page_draft l (stage_at l q) q c dom left least a f born cs h [];
        ends = record { class = c; domain = dom; left = left; least = least; address = a; fields = f; head = h; is = ap₂ (λ (bs : List ℕ) (ys : List CellList). page_draft l (stage_at l q) q c dom left least a f bs ys h []) (sym (append-nil born)) (sym (append-nil cs)) ∙ ap (λ (k : ℕ). page_draft l (stage_at l k) k c dom left least a f (born ++ []) (cs ++ []) h []) same };
        runs = refl;
      }
  leads-end (x ∷ xs) q c dom left least a f born cs h end chain = absurd (let lt = chain.0.superpage in let ge = chain.1 in omega arith)

  pub pages-out : (n : ℕ) (all : List CellList) (q c dom left least a f : ℕ) (born : List ℕ) (cs : List CellList) (h : Head) → q + n ≡ l.setup.superpages → l.setup.superpages ≤ 4096 → l.setup.domains ≤ 64 → Chain (2048 * q) born all → Leads cells l (q + n) (born ++ map number_of all) (cs ++ all) (page_draft l (stage_at l q) q c dom left least a f born cs h []) (flat_map (superpage_items all) (numbers_from q n))
  pages-out zero all q c dom left least a f born cs h total few domains chain = leads-end all q c dom left least a f born cs h (omega arith) chain
  pages-out (suc n) all q c dom left least a f born cs h total few domains chain =
      let s = split all q born chain in
      let d0 : ImageDraft = page_draft l stages.Pair q c dom left least a f born cs h [] in
      let p = superpage-out cells l s.group q c dom left least a f born cs h (omega arith) domains s.ok in
      let w = p.ends in
      let r = pages-out n s.rest (q + 1) w.class w.domain w.left w.least w.address w.fields (born ++ map number_of s.group) (cs ++ s.group) w.head (omega arith) few domains s.more in
      let both : Runs cells d0 (group_items s.group ++ flat_map (superpage_items s.rest) (numbers_from (q + 1) n)) r.now =
      runs-then cells d0 p.now r.now (group_items s.group) (flat_map (superpage_items s.rest) (numbers_from (q + 1) n)) p.runs (subst (λ d. Runs cells d (flat_map (superpage_items s.rest) (numbers_from (q + 1) n)) r.now) (sym w.is) r.runs) in
      let named : Runs cells d0 (flat_map (superpage_items all) (numbers_from q (suc n))) r.now =
      subst (λ (ns : List ℕ). Runs cells d0 ns r.now) (sym (ap (λ (ys : List CellList). flat_map (superpage_items ys) (numbers_from q (suc n))) s.is ∙ flat-page n q s.group s.rest born s.ok s.more)) both in
      record {
        now = r.now;
        ends = ends-moved (q + 1 + n) (q + suc n) ((born ++ map number_of s.group) ++ map number_of s.rest) (born ++ map number_of all) ((cs ++ s.group) ++ s.rest) (cs ++ all) r.now (omega arith) (append_assoc born (map number_of s.group) (map number_of s.rest) ∙ ap (λ (xs : List ℕ). born ++ xs) (sym (map-both s.group s.rest) ∙ ap (map number_of) (sym s.is))) (append_assoc cs s.group s.rest ∙ ap (λ (ys : List CellList). cs ++ ys) (sym s.is)) r.ends;
        runs = subst (λ st. Runs cells (page_draft l st q c dom left least a f born cs h []) (flat_map (superpage_items all) (numbers_from q (suc n))) r.now) (sym (stage-more q (λ k. absurd (omega arith)))) named;
      }
    where
      ends-moved : (q r : ℕ) (bs bs' : List ℕ) (cs cs' : List CellList) (e : ImageDraft) → q ≡ r → bs ≡ bs' → cs ≡ cs' → Ends cells l q bs cs e → Ends cells l r bs' cs' e
      ends-moved q r bs bs' cs cs' e h0 h1 h2 w = subst (λ (k : ℕ). Ends cells l k bs' cs' e) h0 (subst (λ (xs : List ℕ). Ends cells l q xs cs' e) h1 (subst (λ (ys : List CellList). Ends cells l q bs ys e) h2 w))
