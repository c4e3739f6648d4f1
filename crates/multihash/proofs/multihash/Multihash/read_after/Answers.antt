-- After the code, reading stops in the size's varint, at a size above the capacity or in the digest, or returns the pair; for
-- each there is a lemma that the bytes consumed so far meet the contract of `read`.
use Rattle.multihash.proofs.Common.{common_steps, ◌≡◌, ◌<◌, ◌≤◌, ◌++◌, ◌⊎◌, ℕ, List, Option, Result, Ok, length, take, refl, sym, ap, ◌∙◌, arith, length-take-le, digest_limit, Consumes, HasFewerThan, ConsumesFewerThan, ConsumesVarint, ReadMeets, Refusal, of_io, Fault, IsUnexpectedEof, IsOwnFault, Fields, pair_of, passed_error}
use Rattle.std.specs.Result.{IsErrAnd}
use Rattle.multihash.proofs.EncodingLemmas.{encoding_of_parts}
use Rattle.multihash.proofs.ReadingLemmas.{Consumes-concatenated}
use Rattle.multihash.proofs.ReadConsumingLemmas.{stops_in_size, stops_at_size, stops_in_digest, read_returned}
use Rattle.multihash.proofs.multihash.Multihash.read_after.Goals as goal

pub returns-in_err-len : goal.returns-in_err-len
returns-in_err-len g c a is =
    let t = c.in_err-len.ensures in
    rw (passed_error c.from_residual.result _ c.from_residual.ensures.1)
    (stops_in_size g.row.S _ t.err t.faults a is refl)

pub returns-then-not-is_valid_size : goal.returns-then-not-is_valid_size
returns-then-not-is_valid_size g c a is =
    let len = c.in_ok-len.ensures in
    stops_at_size g.row.S is len.ok.1 _ _ len.faults (c.is_valid_size.ensures.over c.if-not-is_valid_size.true) c.from_size.ensures
    (Consumes-concatenated _ a len.ok.0 refl refl len.ok.2)

-- the varints of the code and of the size, which fits, were consumed
module _ (S : ℕ) {n size : ℕ} {old : Option (List ℕ)} (one : Option (List ℕ)) {two : Option (List ℕ)} (new : Option (List ℕ))
    {before between : ℕ} (code : ConsumesVarint n old one) (len : ConsumesVarint size one two) (fits : size ≤ digest_limit S)
    (unrisen : between ≡ before) where
  consumed : (digest : List ℕ) → Consumes two digest new → Consumes old (code.0 ++ (len.0 ++ digest)) new
  consumed digest last = grind (arith, common_steps)

  -- the digest was not read
  stopped : {after : ℕ} (r : Result (Fields S) Refusal) (error : Fault) → IsErrAnd r (λ e. e ≡ of_io error)
      → (IsUnexpectedEof error → HasFewerThan size two) → ConsumesFewerThan size two new → ((between < after) × IsOwnFault error)
      ⊎ ((after ≡ between) × IsUnexpectedEof error)
      → ReadMeets S old new before after r
  stopped r error passed few t how =
      rw (passed_error r _ passed)
      (stops_in_digest S code.1 len.1 new fits error t.consumed t.fewer t.consumes few (rw unrisen at how)
      (consumed t.consumed t.consumes))

  -- the digest was read into the buffer
  filled : {after : ℕ} (m : Fields S) (buffer : List ℕ) → pair_of m ≡ record { code = n; digest = take size buffer } → length buffer ≡ S
      → Consumes two (take size buffer) new → after ≡ between → ReadMeets S old new before after (Ok m)
  filled m buffer is full last risen =
      let digest : (pair_of m).digest ≡ take size buffer = ap (λ p. p.digest) is in
      let long : length (take size buffer) ≡ size = length-take-le size buffer (omega (arith, fits, full)) in
      read_returned S new m (risen ∙ unrisen)
      (encoding_of_parts (pair_of m) code.0 len.0 (sym (ap (λ p. p.code) is)) (sym (ap length digest ∙ long)) (sym digest) code.1 len.1)
      (consumed (take size buffer) last)

pub returns-in_err-read_digest : goal.returns-in_err-read_digest
returns-in_err-read_digest g c a is =
    let len = c.in_ok-len.ensures in
    let digest = c.in_err-read_digest.ensures in
    stopped g.row.S _ _ (a, is, refl) len.ok (c.is_valid_size.ensures.fits c.if-not-is_valid_size.false) len.faults
    c.from_residual-in_err-read_digest.result c.in_err-read_digest.field-0.0 c.from_residual-in_err-read_digest.ensures.1
    digest.eof digest.err digest.faults

pub returns : goal.returns
returns g c a is =
    let len = c.in_ok-len.ensures in
    let digest = c.in_ok-read_digest.ensures in
    let fits = c.is_valid_size.ensures.fits c.if-not-is_valid_size.false in
    filled g.row.S _ _ (a, is, refl) len.ok fits len.faults c.in_buffer.result c.read_digest.new.buffer
    (rw c.from.ensures at c.in_buffer.ensures) digest.full digest.ok digest.faults
