-- The encodings of the values so far, and the rest, are the bytes.
use Rattle.form.proofs.Common.{◌≡◌, ◌≤◌, ◌++◌, ℕ, List, length, AreParts}
use Rattle.form.proofs.located.first_error.Given as goal

abbrev pub invariant-loop-rest : goal.invariant-loop-rest
invariant-loop-rest g l = record {
  items : List _;
  front : List ℕ;
  are_items : AreParts g.T.Form.is_form items front;
  parts : l.bytes ≡ front ++ l.rest;
  count : l.item ≡ length items;
  few : length items ≤ length front;
}

abbrev pub decreases-loop-rest : goal.decreases-loop-rest
decreases-loop-rest g l = length l.rest
