-- The encoding is made of two varints, whose lengths were added, and the digest (`encoding_of_parts`); it is short since each
-- part is (`encoding_length`).
use Rattle.multihash.proofs.Common.{◌++◌, refl, ◌∙◌, arith, pair_of}
use Rattle.multihash.proofs.EncodingLemmas.{encoding_of_parts, length-parts, encoding_length}
use Rattle.multihash.proofs.multihash.Multihash.encoded_len.Goals as goal

pub returns-clause-encoding : goal.returns-clause-encoding
returns-clause-encoding g c =
    let p = pair_of c.args.self.now in
    let a = c.len_in_range-code.ensures.varint in
    let b = c.len_in_range-size.ensures.varint in (
      a.0 ++ (b.0 ++ p.digest),
      encoding_of_parts p a.0 b.0 c.code.ensures.code (c.from.ensures ∙ c.size.ensures.size) refl a.1 b.1,
      omega (arith, a.2, b.2, c.from-2.ensures, c.size-2.ensures.size, length-parts a.0 b.0 p.digest),
    )

pub returns-clause-short : goal.returns-clause-short
returns-clause-short g c =
    let encoded = returns-clause-encoding g c in
    omega (arith, encoded.2, encoding_length (pair_of c.args.self.now) encoded.0 encoded.1 (omega (arith, c.size.ensures.fits)))
