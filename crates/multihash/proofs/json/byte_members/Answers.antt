-- The test tells which case holds: the members are all bytes, so the value is their array (`byte_array`), or one is not, so the
-- value is no byte array (`no_byte_array`).
use Rattle.multihash.proofs.Common.{arith, ◌≡◌, Some, true, sym, ap, ◌∙◌, list_all, is_byte}
use Rattle.serde_json.specs.View.{view, items_view}
use Rattle.multihash.proofs.JsonLemmas.{byte_array, no_byte_array}
use Rattle.multihash.proofs.json.byte_members.Goals as goal

pub returns-then-are_bytes : goal.returns-then-are_bytes
returns-then-are_bytes c =
    let items = c.as_slice.result.now in
    let same = c.as_slice.ensures.value in
    let all : list_all is_byte items ≡ true = ap (list_all is_byte) (same ∙ sym c.deref.ensures.value) ∙ sym c.if-are_bytes.ensures in
    (all, byte_array (view c.args.value.now) items (sym c.in_ok-members.ensures ∙ ap (λ l. Some (items_view l)) (sym same)) all)

pub returns-else-are_bytes : goal.returns-else-are_bytes
returns-else-are_bytes c bytes = grind (arith, no_byte_array)
