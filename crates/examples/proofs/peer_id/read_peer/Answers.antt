use Rattle.std.proofs.Common.{inl, inr, arith}
use Rattle.multihash.specs.Pair.{FitsBuffer}
use Rattle.multihash.specs.Verdict.{malformed}
use Rattle.multihash.proofs.CallingLemmas.{rejected_no_encoding}
use Rattle.multihash.proofs.OutcomeLemmas.{passed_error}
use Rattle.examples.proofs.peer_id.read_peer.Goals as goal

pub returns-in_err-head-clause-found : goal.returns-in_err-head-clause-found
returns-in_err-head-clause-found c p is encodes =
    let (error, named, verdict) = c.in_err-head.ensures.err in
    let fits : FitsBuffer 42 p = elim is [ inl identity ↦ omega (arith, identity.1) | inr hash ↦ omega (arith, hash.1) ] in
    rw (passed_error c.from_residual.result _ c.from_residual.ensures.1)
    (absurd (rejected_no_encoding 42 (malformed error, verdict 42, named) p encodes fits))
