-- The value lists the bytes of the encoding, so `from_value` has the verdict of that encoding, which is the multihash.
use Rattle.std.proofs.Common.{Ok, Err, arith}
use Rattle.multihash.specs.Multihash.{pair_of}
use Rattle.multihash.proofs.CallingLemmas.{from_bytes_of_encoding}
use Rattle.multihash.proofs.JsonLemmas.{json_bytes}
use Rattle.multihash.proofs.OutcomeLemmas.{passed_error}
use Rattle.multihash.proofs.EncodingLemmas.{digest_fits}
use Rattle.examples.proofs.encodings.json.Goals as goal

pub returns-in_err-back : goal.returns-in_err-back
returns-in_err-back c =
    let m = c.args.multihash.now in
    let array = c.in_ok-value.ensures.array in
    let v = c.in_err-back.ensures.verdict array.0 array.1 in
    rw (passed_error c.from_residual-in_err-back.result _ c.from_residual-in_err-back.ensures.1)
    (from_bytes_of_encoding 64 (pair_of m) array.0 (Err c.in_err-back.field-0.0) v.0 v.1 v.2
    (json_bytes (pair_of m) _ array.0 c.in_ok-value.ensures.ok array.1) (omega (arith, digest_fits m)))

pub returns : goal.returns
returns c =
    let m = c.args.multihash.now in
    let listed = c.in_ok-value.ensures.ok in
    let array = c.in_ok-value.ensures.array in
    let v = c.in_ok-back.ensures.verdict array.0 array.1 in (
      listed,
      from_bytes_of_encoding 64 (pair_of m) array.0 (Ok c.in_ok-back.back) v.0 v.1 v.2 (json_bytes (pair_of m) _ array.0 listed array.1)
          (omega (arith, digest_fits m)),
    )
