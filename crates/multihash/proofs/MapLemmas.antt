-- Maps whose keys are multihashes.
use Rattle.multihash.proofs.Common.{◌≡◌, ℕ, Bool, sym, ◌∙◌, list_any, Fields, pair_of}
use Rattle.std.specs.Prelude.{◌↔◌, IsTrue, Any, is_some}
use Rattle.std.specs.Ordering.{is_eq, on}
use Rattle.std.specs.BTreeMap.{BTreeMap, get, keys}
use Rattle.std.proofs.lemmas.List.Folds.{Any-from_list_any, list_any-from_Any}
use Rattle.std.proofs.lemmas.Map.Made.{is_some-lookup}
use Rattle.multihash.specs.Comparing.{compare_pairs}
use Rattle.multihash.proofs.ComparingLemmas.{tie_exactly}

-- a map has a value for a multihash exactly if one of its keys is the same multihash
pub has_key_exactly : {S : ℕ} {V : Type 0} (map : BTreeMap (Fields S) V) (m : Fields S)
    → IsTrue (is_some (get (on pair_of compare_pairs) map m)) ↔ Any (λ key. pair_of key ≡ pair_of m) (keys map)
has_key_exactly {S = S} map m =
    let test : Fields S → Bool = λ key. is_eq (compare_pairs (pair_of m) (pair_of key)) in
    let found : is_some (get (on pair_of compare_pairs) map m) ≡ list_any test (keys map) = is_some-lookup test map.entries in (
      λ has.
          let (i, key, below, at, ties) = Any-from_list_any test (keys map) (sym found ∙ has) in
          (i, key, below, at, sym ((tie_exactly (pair_of m) (pair_of key)).0 ties)),
      λ (i, key, below, at, is).
          found ∙ list_any-from_Any test (keys map) (i, key, below, at, (tie_exactly (pair_of m) (pair_of key)).1 (sym is)),
    )
