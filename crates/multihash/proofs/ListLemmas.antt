-- Lists of multihashes.
use Rattle.multihash.proofs.Common.{◌≡◌, ℕ, List, Bool, list_any, Fields, pair_of}
use Rattle.std.specs.Prelude.{◌↔◌, IsTrue, Any}
use Rattle.std.proofs.lemmas.List.Folds.{Any-from_list_any, list_any-from_Any}
use Rattle.multihash.specs.Comparing.{equal_pairs}
use Rattle.multihash.proofs.ComparingLemmas.{equal_exactly}

-- `contains` finds a multihash exactly if one of the items is the same multihash
pub has_item_exactly : {S : ℕ} (items : List (Fields S)) (m : Fields S)
    → IsTrue (list_any (λ item. equal_pairs (pair_of item) (pair_of m)) items) ↔ Any (λ item. pair_of item ≡ pair_of m) items
has_item_exactly {S = S} items m =
    let test : Fields S → Bool = λ item. equal_pairs (pair_of item) (pair_of m) in (
      λ has.
          let (i, item, below, at, equal) = Any-from_list_any test items has in
          (i, item, below, at, (equal_exactly (pair_of item) (pair_of m)).0 equal),
      λ (i, item, below, at, is).
          list_any-from_Any test items (i, item, below, at, (equal_exactly (pair_of item) (pair_of m)).1 is),
    )
