use Rattle.std.proofs.Common.{subst}
use Rattle.multihash.specs.Encoding.{IsEncoding}
use Rattle.multihash.specs.Multihash.{pair_of}
use Rattle.multihash.proofs.CallingLemmas.{accepted_encoding, rejected_no_encoding}
use Rattle.multihash.proofs.EncodingLemmas.{digest_fits}
use Rattle.examples.proofs.peer_id.is_peer.Goals as goal

pub returns-in-Ok : goal.returns-in-Ok
returns-in-Ok g c =
    let p = pair_of c.args.peer.now in
    let q = pair_of c.in-Ok.other in
    let (own, only) = accepted_encoding g.row.S {q = q} c.in-Ok.ensures in (
      (λ is_true. subst (λ r. IsEncoding r c.args.bytes.now) (c.same_as.ensures.0 is_true) own),
      λ encodes. c.same_as.ensures.1 (only p encodes),
    )

pub returns-in-Err : goal.returns-in-Err
returns-in-Err g c = (
  (λ is_false. cc),
  λ encodes. absurd (rejected_no_encoding g.row.S c.in-Err.ensures (pair_of c.args.peer.now) encodes (digest_fits c.args.peer.now)),
)
