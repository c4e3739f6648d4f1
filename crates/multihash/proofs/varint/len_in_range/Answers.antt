-- A number below 128 is its own varint; the varint of any other exists, and its length is computed from the number's bits
-- (`length_by_bits`).
use Rattle.std.proofs.Common.{[], ◌∷◌, refl, sym, arith}
use Rattle.multihash.proofs.VarintWriteLemmas.{one_byte, varint_exists}
use Rattle.multihash.proofs.VarintLemmas.{varint_longest, length_by_bits}
use Rattle.multihash.proofs.varint.len_in_range.Goals as goal

pub returns-then-n-lt128-clause-varint : goal.returns-then-n-lt128-clause-varint
returns-then-n-lt128-clause-varint c = (c.args.n ∷ [], one_byte c.args.n c.if-n-lt128.true, refl)

pub returns-clause-varint : goal.returns-clause-varint
returns-clause-varint c =
    let v = varint_exists c.args.n c.requires in
    (v.0, v.1, sym (length_by_bits c.args.n v.0 v.1 (omega (arith, c.if-n-lt128.false))))

pub returns-clause-short : goal.returns-clause-short
returns-clause-short c =
    let v = varint_exists c.args.n c.requires in
    omega (arith, length_by_bits c.args.n v.0 v.1 (omega (arith, c.if-n-lt128.false)), varint_longest c.args.n v.0 v.1)
