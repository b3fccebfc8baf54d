-- What is bookmarked in a table stays so where bits stay set, and so a page stays summarised.
use Rattle.std.proofs.Common.{◌≡◌, ℕ, ◌+◌, ◌*◌, ◌/◌, ◌%◌, ◌<◌, ◌≤◌, List, set, ap, subst, arith}
use mathlib.Core.Option.{some}
use mathlib.Core.Option as maybe
use lib.ListN.{get_elem?}
use Rattle.bc_word.specs.Addresses.{superpage_of, cell_number}
use Rattle.bc_superpages.specs.Calls.{class_at}
use Rattle.bc_pins.specs.declared.views.Lodged.{Lodged}
use Rattle.bc_pins.specs.declared.views.View.{View}
use Rattle.bc_pins.specs.Key.{Key}
use Rattle.bc_pins.specs.Totals.{times}
use Rattle.bc_pins.specs.Views.{sets_for}
use Rattle.bc_pins.specs.Facts.{Table, fetched_ever, had_with, puts_with, bookmark_bit, HasBookmarkBit, Summary, MarksTargets}
use Rattle.bc_pins.proofs.TotalLemmas.{total_set, total_at}

abbrev pub KeepsBits : Key → List ℕ → List ℕ → Type 0
KeepsBits k words more = (w b : ℕ) → w < 16 * k.supers → bookmark_bit k words w b ≡ 1 → bookmark_bit k more w b ≡ 1

pub marked_more : (k : Key) (words more : List ℕ) (a : ℕ) → KeepsBits k words more → HasBookmarkBit k words a → HasBookmarkBit k more a
marked_more k words more a keeps m = record {
  within = m.within;
  few = m.few;
  starts = m.starts;
  bit = keeps (16 * superpage_of a + cell_number (class_at k.opening a) a / 64) (cell_number (class_at k.opening a) a % 64) (let lt = m.within in let few = m.few in omega arith) m.bit;
}

pub summary_more : (k : Key) (words more : List ℕ) (page : ℕ) (c : List ℕ) → KeepsBits k words more → Summary k words page c → Summary k more page c
summary_more k words more page c keeps old = record { there = old.there; targets = λ a target. marked_more k words more a keeps (old.targets a target) }

-- what a seat bookmarked for a page is that of its targets through a step by which it bookmarks nothing more
pub targets_more : (k : Key) (s t : Table) (rec : ℕ → List ℕ) (v w : View) → ((q : ℕ) → fetched_ever s q ≤ fetched_ever t q) → ((q i b : ℕ) → had_with k s q i b ≤ had_with k t q i b) → w.bookmarked ≡ v.bookmarked → MarksTargets k s rec v → MarksTargets k t rec w
targets_more k s t rec v w grows more same old = record {
  each = λ p i b few on.
      let was = old.each p i b few (subst (λ (l : List (ℕ × ℕ × ℕ)). 0 < sets_for p i b l) same on) in
      (was.0, λ z. was.1 (let a = grows p in omega arith));
  had = λ p i b few on. let was = old.had p i b few (subst (λ (l : List (ℕ × ℕ × ℕ)). 0 < sets_for p i b l) same on) in let a = more p i b in omega arith;
}

pub targets_kept : (k : Key) (s : Table) (rec : ℕ → List ℕ) (words : List ℕ) (homes : List (maybe.Option Lodged)) (id : ℕ) (v w : View) → get_elem? s.views id ≡ some v
    → ((q : ℕ) → times q v.fetched ≤ times q w.fetched) → w.changed ≡ v.changed → w.bookmarked ≡ v.bookmarked → MarksTargets k s rec v → MarksTargets k (record { words = words; homes = homes; views = set s.views id w }) rec w
targets_kept k s rec words homes id v w at more put same old = targets_more k s (record { words = words; homes = homes; views = set s.views id w }) rec v w
    (λ q. let a = total_set (λ (u : View). times q u.fetched) s.views id v w at in let b = more q in let c = total_at (λ (u : View). times q u.fetched) s.views id v at in omega arith)
    (λ q i b.
    let a = total_set (λ (u : View). puts_with k q i b u.changed) s.views id v w at in
    let c : puts_with k q i b w.changed ≡ puts_with k q i b v.changed = ap (puts_with k q i b) put in
    omega arith) same old
