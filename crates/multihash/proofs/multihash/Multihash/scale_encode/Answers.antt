-- The form is the code's eight bytes, the size and the digest (`form`): two calls that succeed append it, and one that fails
-- has appended a strict prefix of it.
use Rattle.multihash.proofs.Common.{◌++◌, length, ap, arith, append_assoc, refl, IsScale, pair_of, passed_error}
use Rattle.multihash.proofs.ScaleLemmas.{scale_length}
use Rattle.multihash.proofs.WritingLemmas.{appends_both, stops_in_front, stops_in_back}
use Rattle.multihash.proofs.multihash.Multihash.scale_encode.Given as given
use Rattle.multihash.proofs.multihash.Multihash.scale_encode.Goals as goal
use Rattle.multihash.proofs.multihash.Multihash.scale_encode.Goals.{After-scale_head}

-- what is written is the form
form : (g : given.Over) (c : After-scale_head g) → IsScale (pair_of c.args.self.now) (c.scale_head.result ++ c.digest-digest.result.now)
form g c = grind (arith, append_assoc)

pub returns-in_err-write_all-clause-err : goal.returns-in_err-write_all-clause-err
returns-in_err-write_all-clause-err g c =
    let written = form g (goal.at.returns-in_err-write_all-clause-err g c).After-scale_head in
    stops_in_front g.W.Write.appended g.met.W.Write.appends_concatenated (IsScale (pair_of c.args.self.now)) _
    c.digest-digest.result.now written _ c.in_err-write_all.ensures.laws.err

pub returns-in_err-write_all-2-clause-err : goal.returns-in_err-write_all-2-clause-err
returns-in_err-write_all-2-clause-err g c =
    let written = form g (goal.at.returns-in_err-write_all-2-clause-err g c).After-scale_head in
    stops_in_back g.W.Write.appended g.met.W.Write.appends_concatenated (IsScale (pair_of c.args.self.now)) _
    c.digest-digest.result.now written _ c.in_ok-write_all.ensures.laws.ok c.in_err-write_all-2.ensures.laws.err

pub returns-in_err-write_all-2-clause-faults : goal.returns-in_err-write_all-2-clause-faults
returns-in_err-write_all-2-clause-faults g c =
    rw (passed_error c.from_residual-in_err-write_all-2.result _ c.from_residual-in_err-write_all-2.ensures.1)
    (_, refl, rw c.in_ok-write_all.ensures.laws.faults at c.in_err-write_all-2.ensures.laws.faults)

pub returns-clause-ok : goal.returns-clause-ok
returns-clause-ok g c =
    let written = form g (goal.at.returns-clause-ok g c).After-scale_head in (
      _,
      written,
      omega (arith, scale_length (pair_of c.args.self.now) _ written, ap length c.digest-digest.ensures.digest),
      appends_both g.W.Write.appended g.met.W.Write.appends_concatenated c.in_ok-write_all.ensures.laws.ok
          c.in_ok-write_all-2.ensures.laws.ok,
    )
