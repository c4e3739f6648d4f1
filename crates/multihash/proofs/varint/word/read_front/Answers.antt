-- The word shows where the continuation bytes end, and what the byte there makes of them (`WordFrontLemmas`).
use Rattle.multihash.proofs.Common.{ap, arith, sym, Some, take, take-append-drop, take_more, length, ◌<◌, ◌≤◌, insufficient, overflow, not_minimal, ℕ, get_or, ◌+◌}
use Rattle.multihash.proofs.VarintWriteLemmas.{one_byte}
use Rattle.multihash.proofs.WordLemmas.{stop_at}
use Rattle.multihash.proofs.WordFrontLemmas.{past_first, overflows, ends_short, stops_at_zero, stops_at_number}
use Rattle.multihash.proofs.varint.word.read_front.Goals as goal
use Rattle.multihash.proofs.varint.word.read_front.Goals.{else-bytes-ge1-via-then-bytes-ge1+else-bytes-lt128, else-bytes-ge1-via-else-bytes-ge1}

pub returns-then-bytes-lt128-clause-ok : goal.returns-then-bytes-lt128-clause-ok
returns-then-bytes-lt128-clause-ok c =
    let bytes = c.args.bytes.now in
    let some : 0 < length bytes = omega (arith, c.if-bytes-ge1.true) in (
      take 1 bytes,
      rw (c.from.ensures, take_more bytes 0 0 some) (one_byte _ c.if-bytes-lt128.true),
      ap Some (sym (take-append-drop 1 bytes)),
    )

pub returns-then-last-gt-MAX_CONTINUATION-clause-err : goal.returns-then-last-gt-MAX_CONTINUATION-clause-err
returns-then-last-gt-MAX_CONTINUATION-clause-err c = (
  overflow,
  c.overflow.ensures,
  overflows c.args.bytes.now c.first_word-word.ensures (λ i. omega (arith, c.type_inv.bytes i)) c.if-last-gt-MAX_CONTINUATION.true,
)

pub returns-then-last-bytes-clause-err : goal.returns-then-last-bytes-clause-err
returns-then-last-bytes-clause-err c = (
  insufficient,
  c.insufficient.ensures,
  ends_short c.args.bytes.now c.first_word-word.ensures (λ i. omega (arith, c.type_inv.bytes i)) c.if-last-gt-MAX_CONTINUATION.false
      c.if-last-bytes.true,
)

pub returns-then-bytes-last-eq0-clause-err : goal.returns-then-bytes-last-eq0-clause-err
returns-then-bytes-last-eq0-clause-err c =
    let bytes = c.args.bytes.now in
    let each : (i : ℕ) → get_or bytes i 0 < 256 = λ i. omega (arith, c.type_inv.bytes i) in
    let large : 128 ≤ get_or bytes 0 0 = elim c.else-bytes-ge1.branch [
      | else-bytes-ge1-via-then-bytes-ge1+else-bytes-lt128 w ↦ w.if-bytes-lt128.false
      | else-bytes-ge1-via-else-bytes-ge1 w ↦ absurd (omega (arith, w.if-bytes-ge1.false, c.if-last-bytes.false))
    ] in (
      not_minimal,
      c.not_minimal.ensures,
      stops_at_zero bytes c.first_word-word.ensures each c.if-last-gt-MAX_CONTINUATION.false c.if-last-bytes.false
          c.if-bytes-last-eq0.true (past_first bytes c.first_word-word.ensures each large),
    )

pub returns-clause-ok : goal.returns-clause-ok
returns-clause-ok c =
    let bytes = c.args.bytes.now in
    let len = stop_at c.first_word-word.result + 1 in
    let number = stops_at_number bytes c.first_word-word.ensures (λ i. omega (arith, c.type_inv.bytes i))
    c.if-last-gt-MAX_CONTINUATION.false c.if-last-bytes.false c.if-bytes-last-eq0.false in
    (take len bytes, rw c.join_digits.ensures number, ap Some (sym (take-append-drop len bytes)))
