-- What is decoded is the SCALE encoding and nothing after it, and no other pair has it (`scale_pair`), so decoding returns the same
-- pair.
use Rattle.std.proofs.Common.{◌≡◌, [], ◌++◌, refl, sym, ◌∙◌, subst, arith, append-nil, rules}
use Rattle.multihash.specs.Scale.{IsScale}
use Rattle.multihash.specs.Multihash.{pair_of}
use Rattle.multihash.proofs.CallingLemmas.{scale_pair, scale_taken}
use Rattle.multihash.proofs.EncodingLemmas.{digest_fits}
use Rattle.examples.proofs.encodings.scale.Goals as goal

pub returns-in_err-back : goal.returns-in_err-back
returns-in_err-back c =
    let m = c.args.multihash.now in
    let form = c.in_ok-scale_encode.ensures.ok in
    let input : c.as_slice.result.now ≡ form.0 = search rules in
    let found = c.in_err-back.ensures.verdict refl in
    absurd (scale_taken 64 (pair_of m) _ form.0 [] found.0 _ (input ∙ sym (append-nil form.0)) form.1
    (omega (arith, digest_fits m)) found.1 found.2)

pub returns : goal.returns
returns c =
    let m = c.args.multihash.now in
    let form = c.in_ok-scale_encode.ensures.ok in
    let input : c.as_slice.result.now ≡ form.0 = search rules in
    let items : c.scale_encode.new.w.items ≡ form.0 = search rules in
    let found = c.in_ok-back.ensures.verdict refl in
    let read = c.in_ok-back.ensures.ok in
    let cut : c.as_slice.result.now ≡ read.0 ++ c.scale_decode.new.r.now = cc (read.2) in (
      subst (IsScale (pair_of m)) (sym items) form.1,
      (scale_pair 64 (pair_of m) (pair_of c.in_ok-back.back) _ form.0 read.0 [] _ found.0 (input ∙ sym (append-nil form.0)) form.1
          (omega (arith, digest_fits m)) found.1 found.2 read.1 cut).0,
    )
