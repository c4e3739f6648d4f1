use Rattle.std.proofs.Common.{◌≡◌, inl, Ok, Err, sym, ◌∙◌, subst}
use Rattle.multihash.specs.Encoding.{IsEncoding}
use Rattle.multihash.specs.Multihash.{pair_of}
use Rattle.multihash.proofs.EncodingLemmas.{digest_fits}
use Rattle.multihash.proofs.CallingLemmas.{from_bytes_of_encoding}
use Rattle.multihash.proofs.OutcomeLemmas.{passed_error}
use Rattle.examples.proofs.encodings.there_and_back.Goals as goal

pub returns-in_err-back : goal.returns-in_err-back
returns-in_err-back c =
    let v = c.in_err-back.ensures in
    let m = c.in_ok-multihash.multihash in
    let encodes = subst (IsEncoding (pair_of m)) (sym c.deref.ensures.value) c.in_ok-bytes.ensures.ok in
    rw (passed_error c.from_residual-in_err-back.result _ c.from_residual-in_err-back.ensures.1)
    (inl (from_bytes_of_encoding 64 (pair_of m) _ (Err c.in_err-back.field-0.0) v.0 v.1 v.2 encodes (digest_fits m)))

pub returns : goal.returns
returns c =
    let v = c.in_ok-back.ensures in
    let m = c.in_ok-multihash.multihash in
    let own = c.in_ok-bytes.ensures.ok in
    let encodes = subst (IsEncoding (pair_of m)) (sym c.deref.ensures.value) own in
    let same : pair_of c.in_ok-back.back ≡ pair_of m = from_bytes_of_encoding 64 (pair_of m) _ (Ok c.in_ok-back.back) v.0 v.1 v.2 encodes
    (digest_fits m) in
    (subst (λ p. IsEncoding p c.in_ok-bytes.bytes.items) (sym same) own, same ∙ c.in_ok-multihash.ensures.ok)
