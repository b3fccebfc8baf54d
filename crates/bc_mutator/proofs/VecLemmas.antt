-- A Vec in which an element is written back as it was is the same Vec.
use Rattle.std.proofs.Common.{◌≡◌, ℕ, ◌≤◌, List, length, set, ap, ap₂, subst}
use Rattle.std.specs.Vec.{with_item}
use Rattle.std.specs.Global.{Vec}
use Rattle.std.proofs.Math.Bridge.{le_prop}
use Rattle.std.proofs.Math.Nat.{ℕ_set}

pub with_item-same : {X : Type 0} (v : Vec X) (i : ℕ) (x : X) → set v.items i x ≡ v.items → with_item v i x ≡ v
with_item-same {X} v i x e =
    subst (λ (ys : List X). (ok : (v.len ≡ length ys) × (v.len ≤ v.cap)) → with_item v i x ≡ record v { items = ys; ok = ok }) e
    (λ ok. ap (λ (p : (v.len ≡ length (set v.items i x)) × (v.len ≤ v.cap)). record v { items = set v.items i x; ok = p })
    (let both : (with_item v i x).ok ≡ ok =
    ap₂ (λ (a : v.len ≡ length (set v.items i x)) (b : v.len ≤ v.cap). (a, b)) (ℕ_set v.len (length (set v.items i x)) (with_item v i x).ok.0 ok.0) (le_prop v.ok.1 ok.1) in both))
    v.ok
