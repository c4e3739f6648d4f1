use Rattle.multihash.proofs.VarintLemmas.{varint_longest}
use Rattle.multihash.proofs.varint.write_in_range.Goals as goal

pub returns-clause-short : goal.returns-clause-short
returns-clause-short g c = varint_longest _ _ c.encode-varint.ensures
