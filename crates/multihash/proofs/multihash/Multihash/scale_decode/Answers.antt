-- Decoding stops in the code, at a code out of range, in the size, at a size above the capacity or in the digest, or returns
-- the pair; for each `ScaleLemmas` has that the bytes consumed so far decide it.
use Rattle.multihash.proofs.Common.{◌≡◌, ◌<◌, [], ◌∷◌, ◌++◌, length, take, refl, sym, ap, ◌∙◌, arith, rules, append_assoc, length-take-le, IsScaleCode, Consumes, passed_error}
use Rattle.multihash.proofs.ReadingLemmas.{Consumes-concatenated}
use Rattle.multihash.proofs.ScaleLemmas.{code_read, one_item, code_rejected, no_size, size_rejected, cut_scale_digest}
use Rattle.multihash.proofs.ScaleLemmas.{inside_rejected, scale_returned}
use Rattle.multihash.proofs.multihash.Multihash.scale_decode.Given as given
use Rattle.multihash.proofs.multihash.Multihash.scale_decode.Goals as goal
use Rattle.multihash.proofs.multihash.Multihash.scale_decode.Goals.{After-from_le_bytes-code, After-from-size}

is_code : (g : given.Over) (c : After-from_le_bytes-code g) → IsScaleCode c.from_le_bytes-code.result c.in_ok-code_bytes.code_bytes
is_code g c = code_read _ _ (search rules) (search rules) (omega (arith, c.from_le_bytes-code.type_inv)) c.from_le_bytes-code.ensures

-- the bytes of the code and the byte of the size have been consumed
consumes : (g : given.Over) (c : After-from-size g)
    → Consumes (g.R.Read.rest c.args.r.now) (c.in_ok-code_bytes.code_bytes ++ c.from-size.result ∷ []) (g.R.Read.rest c.read_array-2.new.r)
consumes g c =
    let byte = one_item c.in_ok-size_byte.size_byte (search rules) ∙ ap (λ n. n ∷ []) (sym c.from-size.ensures) in
    Consumes-concatenated _ _ (c.from-size.result ∷ []) refl c.in_ok-code_bytes.ensures.consumes
    (rw byte at c.in_ok-size_byte.ensures.consumes)

pub returns-then-code-gt-MAX : goal.returns-then-code-gt-MAX
returns-then-code-gt-MAX g c =
    let code = is_code g (goal.at.returns-then-code-gt-MAX g c).After-from_le_bytes-code in
    code_rejected g.row.S _ code _ (omega (arith, c.if-code-gt-MAX.true))
    c.in_ok-code_bytes.ensures.faults c.from_code.ensures c.in_ok-code_bytes.ensures.consumes

pub returns-in_err-size_byte : goal.returns-in_err-size_byte
returns-in_err-size_byte g c =
    let S = g.row.S in
    let code = is_code g (goal.at.returns-in_err-size_byte g c).After-from_le_bytes-code in
    let t = c.in_err-size_byte.ensures.err in
    let unrisen = c.in_ok-code_bytes.ensures.faults in
    rw (passed_error c.from_residual-in_err-size_byte.result _ c.from_residual-in_err-size_byte.ensures.1)
    (inside_rejected S _ c.in_ok-code_bytes.code_bytes 1 (no_size S code (omega (arith, c.if-code-gt-MAX.false))) _ t.consumed t.fewer
    c.in_ok-code_bytes.ensures.consumes t.consumes c.in_err-size_byte.ensures.eof (rw unrisen at c.in_err-size_byte.ensures.faults))

pub returns-then-size : goal.returns-then-size
returns-then-size g c =
    let code = is_code g (goal.at.returns-then-size g c).After-from_le_bytes-code in
    size_rejected g.row.S _ code c.from-size.result (omega (arith, c.if-code-gt-MAX.false)) _ c.if-size.true
    (c.in_ok-size_byte.ensures.faults ∙ c.in_ok-code_bytes.ensures.faults) c.from_size.ensures
    (consumes g (goal.at.returns-then-size g c).After-from-size)

pub returns-in_err-read_digest : goal.returns-in_err-read_digest
returns-in_err-read_digest g c =
    let S = g.row.S in
    let size = c.from-size.result in
    let code = is_code g (goal.at.returns-in_err-read_digest g c).After-from_le_bytes-code in
    let t = c.in_err-read_digest.ensures.err in
    let unrisen = c.in_ok-size_byte.ensures.faults ∙ c.in_ok-code_bytes.ensures.faults in
    rw (passed_error c.from_residual-in_err-read_digest.result _ c.from_residual-in_err-read_digest.ensures.1)
    (inside_rejected S _ (c.in_ok-code_bytes.code_bytes ++ size ∷ []) size
    (cut_scale_digest S code size (omega (arith, c.if-code-gt-MAX.false)) c.if-size.false) _ t.consumed
    (omega (arith, t.fewer, c.from-size.ensures)) (consumes g (goal.at.returns-in_err-read_digest g c).After-from-size) t.consumes
    (rw (← c.from-size.ensures) at c.in_err-read_digest.ensures.eof) (rw unrisen at c.in_err-read_digest.ensures.faults))

pub returns : goal.returns
returns g c =
    let size = c.from-size.result in
    let code = is_code g (goal.at.returns g c).After-from_le_bytes-code in
    let read = c.in_ok-read_digest.ensures in
    let d = take size c.read_digest.new.buffer in
    let long : length d ≡ size = length-take-le size c.read_digest.new.buffer (omega (arith, read.full, c.if-size.false)) in
    let byte : size < 256 = search rules in
    scale_returned g.row.S _ code size (omega (arith, c.if-code-gt-MAX.false)) d c.in_buffer.result c.if-size.false byte long
    (read.faults ∙ (c.in_ok-size_byte.ensures.faults ∙ c.in_ok-code_bytes.ensures.faults)) c.in_buffer.ensures
    (Consumes-concatenated _ _ d (sym (append_assoc _ (size ∷ []) d)) (consumes g (goal.at.returns g c).After-from-size)
    (rw (← c.from-size.ensures) at read.ok))
