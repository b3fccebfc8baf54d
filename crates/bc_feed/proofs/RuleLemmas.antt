-- Each step keeps the rule of the queue.
use Rattle.std.proofs.Common.{◌≡◌, ◌≢◌, ℕ, zero, suc, ◌+◌, ◌≤◌, true, false, true≢false, List, [], ◌∷◌, ◌++◌, length, set, sym, refl, ap, ◌∙◌, subst, ⊎_elim, append_assoc, append-nil, arith}
use Rattle.std.proofs.lemmas.List.{length-append}
use mathlib.Core.Option.{some, some-ne-none}
use mathlib.Core.List.{IsPrefix}
use lib.ListN.{get_elem?}
use Rattle.crossbeam_queue.specs.Fifo.{Pushes, Pops, Forks, Merges, Learns}
use Rattle.crossbeam_queue.proofs.Lists.{at_set, at_snoc}
use Rattle.bc_feed.specs.declared.rule.Account.{Account}
use Rattle.bc_feed.specs.Accounts.{HasPoppedHint, HasPushedHint, FitsRoles, PassesInOrder, ShowsHints, feeder_account, spent_account, taker_account, untold_account, whole_account, with_got, with_sent}

-- ---- each pass of a list

abbrev Each : (ℕ → Account → Type 0) → List Account → Type 0
Each P views = (port : ℕ) (v : Account) → get_elem? views port ≡ some v → P port v

-- a pass has changed, and what holds of the others is known of them before
each_set : (P : ℕ → Account → Type 0) (views : List Account) (port : ℕ) (w : Account) → P port w → ((i : ℕ) (u : Account) → i ≢ port → get_elem? views i ≡ some u → P i u) → Each P (set views port w)
each_set P views port w mine others i u e =
    ⊎_elim (λ (x : (i ≡ port) × (w ≡ u)). subst (λ (y : ℕ × Account). P y.0 y.1) (λ t. (sym x.0 t, x.1 t)) mine)
    (λ (x : (i ≢ port) × (get_elem? views i ≡ some u)). others i u x.0 x.1) (at_set views port i w u e)

at_end : (views : List Account) (a b : Account) (i : ℕ) → get_elem? views i ≢ some b → get_elem? (views ++ a ∷ []) i ≡ some b → i ≡ length views
at_end [] a b zero n e = refl
at_end [] a b (suc i) n e = absurd (some-ne-none b (sym e))
at_end (x ∷ xs) a b zero n e = absurd (n e)
at_end (x ∷ xs) a b (suc i) n e = ap suc (at_end xs a b i n e)

never : {A : Type 0} → false ≡ true → A
never e = absurd (true≢false (sym e))

-- ---- beginnings

whole_prefix : (xs : List ℕ) → IsPrefix xs xs
whole_prefix xs = ([], append-nil xs)

longer_prefix : (xs ys more : List ℕ) → IsPrefix xs ys → IsPrefix xs (ys ++ more)
longer_prefix xs ys more p = (p.0 ++ more, sym (append_assoc xs p.0 more) ∙ ap (λ l. l ++ more) p.1)

-- ---- passes by their roles

spent : (most feeder taker : ℕ) (sent got : List ℕ) (port : ℕ) → FitsRoles most feeder taker sent got port spent_account
spent most feeder taker sent got port = record { feeds = λ p. never p; takes = λ p. never p; knows = λ p. never p }

-- a pass that is neither of the two
idle : (most feeder taker : ℕ) (sent got : List ℕ) (port : ℕ) (v : Account) → (v.pushes ≡ true → ⊥) → (v.pops ≡ true → ⊥) → FitsRoles most feeder taker sent got port v
idle most feeder taker sent got port v a b = record { feeds = λ p. absurd (a p); takes = λ p. absurd (b p); knows = λ p. absurd (b p) }

-- ---- the steps

pub begins : PassesInOrder [] (untold_account ∷ [])
begins = record {
  most = 0;
  feeder = 0;
  taker = 0;
  sent = [];
  got = [];
  order = refl;
  few = omega arith;
  each = each_set (FitsRoles 0 0 0 [] []) (untold_account ∷ []) 0 untold_account
      (record { feeds = λ _. (refl, refl, refl); takes = λ _. (refl, refl, refl); knows = λ _. whole_prefix [] })
      (λ i u other e. absurd (other (at_end [] _ u i (λ x. some-ne-none u (sym x)) e)));
}

pub tells : (port : ℕ) (v : Account) (most : ℕ) → v ≡ untold_account → Forks PassesInOrder port v (whole_account most [] []) spent_account
tells port v most new items views r at =
    let w : Account = whole_account most [] [] in
    let mine = r.each port v at in
    let feeds = mine.feeds (ap (λ (u : Account). u.pushes) new) in
    let takes = mine.takes (ap (λ (u : Account). u.pops) new) in
    let sent : r.sent ≡ [] = sym feeds.2 ∙ ap (λ (u : Account). u.sent) new in
    let got : r.got ≡ [] = sym takes.2 ∙ ap (λ (u : Account). u.got) new in
    let vs : List Account = set views port w in
    let P : ℕ → Account → Type 0 = FitsRoles most r.feeder r.taker [] [] in
    let old : Each P vs = each_set P views port w
    (record { feeds = λ _. (feeds.0, refl, refl); takes = λ _. (takes.0, refl, refl); knows = λ _. whole_prefix [] })
    (λ i u other e. idle most r.feeder r.taker [] [] i u (λ p. other (((r.each i u e).feeds p).0 ∙ sym feeds.0)) (λ p. other (((r.each i u e).takes p).0 ∙ sym takes.0))) in
    record {
      most = most;
      feeder = r.feeder;
      taker = r.taker;
      sent = [];
      got = [];
      order = sym sent ∙ r.order ∙ ap (λ l. l ++ items) got;
      few = omega arith;
      each = λ i u e. ⊎_elim (λ x. old i u x) (λ (is : spent_account ≡ u). subst (P i) is (spent most r.feeder r.taker [] [] i)) (at_snoc vs spent_account u i e);
    }

pub parts : (port : ℕ) (v : Account) → v.pushes ≡ true → v.pops ≡ true → Forks PassesInOrder port v (feeder_account v.most v.sent) (taker_account v.most v.sent v.got)
parts port v a b items views r at =
    let left : Account = feeder_account v.most v.sent in
    let right : Account = taker_account v.most v.sent v.got in
    let mine = r.each port v at in
    let feeds = mine.feeds a in
    let takes = mine.takes b in
    let vs : List Account = set views port left in
    let Old : ℕ → Account → Type 0 = λ i u. (u.pushes ≡ true → (i ≡ r.feeder) × (u.most ≡ r.most) × (u.sent ≡ r.sent)) × (u.pops ≡ true → ⊥) in
    let old : Each Old vs = each_set Old views port left ((λ _. feeds), λ p. never p)
    (λ i u other e. ((r.each i u e).feeds, λ p. other (((r.each i u e).takes p).0 ∙ sym takes.0))) in
    let P : ℕ → Account → Type 0 = FitsRoles r.most r.feeder (length vs) r.sent r.got in
    record {
      most = r.most;
      feeder = r.feeder;
      taker = length vs;
      sent = r.sent;
      got = r.got;
      order = r.order;
      few = r.few;
      each = λ i u e. ⊎_elim (λ x. record { feeds = (old i u x).0; takes = λ p. absurd ((old i u x).1 p); knows = λ p. absurd ((old i u x).1 p) })
          (λ (is : right ≡ u). subst (P i) is (record {
            feeds = λ p. never p;
            takes = λ _. (at_end vs right u i (λ x. (old i u x).1 (ap (λ (y : Account). y.pops) (sym is))) e, takes.1, takes.2);
            knows = λ _. mine.knows b;
          })) (at_snoc vs right u i e);
    }

pub unites : (port : ℕ) (v : Account) (other : ℕ) (u : Account) → v.pushes ≡ true → u.pops ≡ true → Merges PassesInOrder port v other u (whole_account v.most v.sent u.got) spent_account
unites port v other u a b items views r at apart at2 =
    let both : Account = whole_account v.most v.sent u.got in
    let vs : List Account = set views port both in
    let was : get_elem? views other ≡ some u = ⊎_elim (λ x. absurd (apart x.0)) (λ x. x.1) (at_set views port other both u at2) in
    let feeds = (r.each port v at).feeds a in
    let takes = (r.each other u was).takes b in
    let P : ℕ → Account → Type 0 = FitsRoles r.most r.feeder port r.sent r.got in
    let Now : ℕ → Account → Type 0 = λ i y. i ≢ other → P i y in
    let now : Each Now vs = each_set Now views port both
    (λ _. record { feeds = λ _. feeds; takes = λ _. (refl, feeds.1, takes.2); knows = λ _. subst (λ l. IsPrefix l r.sent) (sym feeds.2) (whole_prefix r.sent) })
    (λ i y _ e away. record {
      feeds = (r.each i y e).feeds;
      takes = λ p. absurd (away (((r.each i y e).takes p).0 ∙ sym takes.0));
      knows = λ p. absurd (away (((r.each i y e).takes p).0 ∙ sym takes.0));
    }) in
    record {
      most = r.most;
      feeder = r.feeder;
      taker = port;
      sent = r.sent;
      got = r.got;
      order = r.order;
      few = r.few;
      each = each_set P vs other spent_account (spent r.most r.feeder port r.sent r.got other) (λ i y away e. now i y e away);
    }

pub sends : (n port : ℕ) (v : Account) (hint : ℕ) → v.pushes ≡ true → length v.sent + 1 ≤ v.most → Pushes PassesInOrder n port v hint (HasPushedHint v hint)
sends n port v hint a room items views _ r at =
    let w : Account = with_sent v hint in
    let mine = r.each port v at in
    let feeds = mine.feeds a in
    let sent : List ℕ = r.sent ++ hint ∷ [] in
    let same : w.sent ≡ sent = ap (λ l. l ++ hint ∷ []) feeds.2 in
    let old_long : length v.sent ≡ length r.sent = ap length feeds.2 in
    let long = length-append r.sent (hint ∷ []) in
    let most = feeds.1 in
    let P : ℕ → Account → Type 0 = FitsRoles r.most r.feeder r.taker sent r.got in (
      w,
      record {
        most = r.most;
        feeder = r.feeder;
        taker = r.taker;
        sent = sent;
        got = r.got;
        order = ap (λ l. l ++ hint ∷ []) r.order ∙ append_assoc r.got items (hint ∷ []);
        few = omega arith;
        each = each_set P views port w
            (record {
              feeds = λ _. (feeds.0, feeds.1, same);
              takes = mine.takes;
              knows = λ _. subst (λ l. IsPrefix l sent) (sym same) (whole_prefix sent);
            })
            (λ i u other e. record {
              feeds = λ p. absurd (other (((r.each i u e).feeds p).0 ∙ sym feeds.0));
              takes = (r.each i u e).takes;
              knows = λ p. longer_prefix u.sent r.sent (hint ∷ []) ((r.each i u e).knows p);
            });
      },
      record { account = refl },
    )

pub gets : (port : ℕ) (v : Account) → v.pops ≡ true → Pops PassesInOrder port v (HasPoppedHint v)
gets port v b hint items views r at =
    let w : Account = with_got v hint in
    let mine = r.each port v at in
    let takes = mine.takes b in
    let got : List ℕ = r.got ++ hint ∷ [] in
    let same : w.got ≡ got = ap (λ l. l ++ hint ∷ []) takes.2 in
    let long : length w.got ≡ length got = ap length same in
    let one_longer = length-append r.got (hint ∷ []) in
    let all : length r.sent ≡ length (r.got ++ hint ∷ items) = ap length r.order in
    let all_long = length-append r.got (hint ∷ items) in
    let few = r.few in
    let most = takes.1 in
    let P : ℕ → Account → Type 0 = FitsRoles r.most r.feeder r.taker r.sent got in (
      w,
      record {
        most = r.most;
        feeder = r.feeder;
        taker = r.taker;
        sent = r.sent;
        got = got;
        order = r.order ∙ sym (append_assoc r.got (hint ∷ []) items);
        few = r.few;
        each = each_set P views port w
            (record { feeds = mine.feeds; takes = λ _. (takes.0, takes.1, same); knows = mine.knows })
            (λ i u other e. record {
              feeds = (r.each i u e).feeds;
              takes = λ p. absurd (other (((r.each i u e).takes p).0 ∙ sym takes.0));
              knows = λ p. absurd (other (((r.each i u e).takes p).0 ∙ sym takes.0));
            });
      },
      record { account = refl; few = omega arith },
    )

pub shows : (port : ℕ) (v : Account) → Learns PassesInOrder port v (ShowsHints v)
shows port v items views r at =
    let mine = r.each port v at in
    record {
      known = λ b. subst (IsPrefix v.sent) (r.order ∙ ap (λ l. l ++ items) (sym (mine.takes b).2)) (mine.knows b);
      all = λ a b. (mine.feeds a).2 ∙ r.order ∙ ap (λ l. l ++ items) (sym (mine.takes b).2);
    }
