-- The verdict that `from_bytes` returns is the only one (`one_verdict`), so the result states it, and is a pair exactly if the
-- bytes are its encoding and it fits (`returns_pair`).
use Rattle.std.proofs.Common.{◌≡◌}
use Rattle.multihash.specs.Verdict.{Verdict, HasWholeVerdict}
use Rattle.theorems.proofs.ResultLemmas.{verdict_stated, returns_pair}
use Rattle.theorems.proofs.verdict.Goals as goal

pub returns : goal.returns
returns g c =
    let v = c.from_bytes.ensures in
    let only : (w : Verdict) → HasWholeVerdict g.row.S c.args.bytes.now w → w ≡ v.0 =
    λ w has. c.one_verdict.ensures.whole_unique g.row.S c.args.bytes.now w v.0 has v.1 in record {
      one = (record { value = v.0; holds = v.1; only = only }, verdict_stated c.from_bytes.result v.0 v.2);
      canonical = returns_pair (HasWholeVerdict g.row.S c.args.bytes.now) c.from_bytes.result v.0 v.1 v.2 only;
    }
