-- If fewer members are left than the buffer has bytes, nothing is read; otherwise the members' bytes are split where the
-- members are (`bytes_split`).
use Rattle.multihash.proofs.Common.{◌∙◌, ◌++◌, length, drop, Some, ap, sym, arith, rules, member_bytes}
use Rattle.multihash.proofs.JsonLemmas.{bytes_split, length-member_bytes}
use Rattle.multihash.proofs.json.ByteMembersRead.read_exact.Goals as goal

pub returns-then-self-buf : goal.returns-then-self-buf
returns-then-self-buf c = grind (arith, length-member_bytes)

pub returns : goal.returns
returns c =
    let members = c.args.self.now.left.now in
    let n = length c.args.buf.now in
    let consumes = ap Some (bytes_split n members c.args.self.now.are_bytes
    ∙ ap (λ l. member_bytes l ++ member_bytes (drop n members)) (sym c.split_at.ensures.front)
    ∙ ap (λ l. member_bytes c.split_at.result.0.now ++ member_bytes l) (sym c.split_at.ensures.back)
    ∙ ap (λ l. l ++ member_bytes c.split_at.result.1.now) (sym c.put_bytes.ensures)) in
    search rules
