-- The encodings of the values so far, and the rest, are the bytes.
use Rattle.form.proofs.Common.{◌≡◌, ◌++◌, ℕ, List, length, AreParts}
use Rattle.form.proofs.all.all_from_bytes.Given as goal

abbrev pub invariant-loop-rest : goal.invariant-loop-rest
invariant-loop-rest g l =
    (front : List ℕ) × AreParts g.T.Form.is_form l.items.items front × (l.bytes ≡ front ++ l.rest)

abbrev pub decreases-loop-rest : goal.decreases-loop-rest
decreases-loop-rest g l = length l.rest
