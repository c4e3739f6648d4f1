-- `from_value` reads the members of the array as `read` reads bytes, so the verdict of `read` on these, and whether members are
-- left, is the verdict on the whole.
use Rattle.multihash.proofs.Common.{arith, common_steps, ◌<◌, length, refl, sym, ◌∙◌, inr, rules, member_bytes, accepted, invalid_size, IsEncoding, pair_of, passed_error}
use Rattle.multihash.proofs.JsonLemmas.{array_unique, length-member_bytes}
use Rattle.multihash.proofs.VerdictLemmas.{whole_rejected}
use Rattle.multihash.proofs.EncodingLemmas.{digest_fits}
use Rattle.multihash.proofs.multihash.Multihash.from_value.Given as given
use Rattle.multihash.proofs.multihash.Multihash.from_value.Goals as goal

pub returns-in_err-multihash-clause-verdict : goal.returns-in_err-multihash-clause-verdict
returns-in_err-multihash-clause-verdict g c bytes h =
    let found = c.in_err-multihash.ensures.verdict refl in
    let listed = member_bytes c.in-Some.members.now in
    rw (array_unique bytes listed (sym h.array ∙ c.in-Some.ensures.1.array))
    (rw (passed_error c.from_residual.result _ c.from_residual.ensures.1)
    (whole_rejected g.row.S _ _ found.0 found.1 found.2))

pub returns-then-not-is_empty-clause-verdict : goal.returns-then-not-is_empty-clause-verdict
returns-then-not-is_empty-clause-verdict g c bytes h =
    let m = c.in_ok-multihash.multihash in
    let met = c.in_ok-multihash.ensures.ok in
    let left = c.read.new.r.left.now in
    let some : 0 < length left = search rules in
    let count = length-member_bytes left (search rules) in
    rw (array_unique bytes _ (sym h.array ∙ c.in-Some.ensures.1.array)) (
      invalid_size (length left),
      inr (pair_of m, member_bytes left, record { encoding = met.0; encodes = met.1; cut = cc (met.2) }, digest_fits m, count, some),
      c.from_size.ensures,
    )

-- the members' bytes are an encoding of the pair, and nothing follows it
listed : (g : given.Over) (c : goal.Else-not-is_empty g)
    → IsEncoding (pair_of c.in_ok-multihash.multihash) (member_bytes c.in-Some.members.now)
listed g c = grind (arith, common_steps)

pub returns-clause-verdict : goal.returns-clause-verdict
returns-clause-verdict g c bytes h =
    rw (array_unique bytes _ (sym h.array ∙ c.in-Some.ensures.1.array))
    (accepted _, (listed g c, digest_fits c.in_ok-multihash.multihash), refl)

pub returns-clause-ok : goal.returns-clause-ok
returns-clause-ok g c = (_, c.in-Some.ensures.1, listed g c)
