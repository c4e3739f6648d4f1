-- What follows from how pairs compare: when they tie, and which part decides.
use Rattle.multihash.proofs.Common.{◌≡◌, IsTrue, ◌↔◌, Bool, subst, rules, Pair}
use Rattle.std.specs.Cmp.Rules.{comparing}
use Rattle.std.specs.Ordering.{is_eq}
use Rattle.multihash.specs.Comparing.{equal_pairs, compare_pairs}

-- ---- equality

pub equal_exactly : (p q : Pair) → IsTrue (equal_pairs p q) ↔ (p ≡ q)
equal_exactly p q = search (comparing, rules) depth 9

-- ---- order

-- pairs tie exactly if they are the same
pub tie_exactly : (p q : Pair) → IsTrue (is_eq (compare_pairs p q)) ↔ (p ≡ q)
tie_exactly p q =
    let ties : equal_pairs p q ≡ is_eq (compare_pairs p q) = search (comparing, rules) depth 9 in
    subst (λ (b : Bool). IsTrue b ↔ (p ≡ q)) ties (equal_exactly p q)
