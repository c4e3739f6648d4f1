-- The names that most proofs cite, passed on from one place. Declares nothing.
pub use Rattle.multihash.proofs.OutcomeLemmas.{OnErr-always, passed_error}
pub use Rattle.multihash.specs.Bytes.{IsBytes, ExactlyOne, IsStrictPrefix, IsPrefix}
unfoldable pub use Rattle.multihash.specs.Bytes.{place_value}
pub use Rattle.multihash.specs.Consuming.{ExactFails, ReadMeets, ReadMayFailWith, ConsumesShortestSettling, ConsumesNothingSettling, EndsOrFails, ConsumesAtVarintError, ConsumesVarint, ReadFails}
pub use Rattle.multihash.specs.Encoding.{IsEncoding, varint_within}
unfoldable pub use Rattle.multihash.specs.Encoding.{encoding_of, varint_of}
pub use Rattle.multihash.specs.Fault.{Fault, IsOwnFault, IsUnexpectedEof, Other, UnexpectedEof, WriteZero, OutOfMemory}
pub use Rattle.multihash.specs.Multihash.{Fields, pair_of}
pub use Rattle.multihash.specs.Outcome.{IsErrorOf, IsResultOf}
pub use Rattle.multihash.specs.Pair.{Pair, FitsBuffer, digest_limit, IsPair}
pub use Rattle.multihash.specs.Private.{byte_of_data, member_bytes, is_byte}
unfoldable pub use Rattle.multihash.specs.Private.{digits_low}
pub use Rattle.multihash.specs.Reading.{Consumes, ConsumesFewerThan, HasFewerThan, ReadLaws, ReadExactLaws, CountsReaderFailures}
pub use Rattle.multihash.specs.Refusal.{Refusal, of_io, of_varint, IsIo, IsOutOfMemory, IsInvalidSize, IsFrontError, of_size, of_code, IsEof, IsReaderError, IsVarintError, IsAnyVarintError, IsInvalidCode}
pub use Rattle.multihash.specs.Scale.{IsScale, HasScaleVerdict, ConsumesAtScaleError, IsScaleCode, HasScaleSize, ScaleMayFailWith}
pub use Rattle.multihash.specs.Streams.{AreConcatenated, ConsumesPairs, StopsAfterPairs, AreParts}
pub use Rattle.multihash.specs.Varint.{VarintError, IsContinuation, continuation_bytes, IsVarint, max_continuation, varint_limit, insufficient, overflow, not_minimal, BeginsMalformed, IsInsufficient, IsNotMinimal, last_byte_limit, IsOverflow}
pub use Rattle.multihash.specs.Verdict.{Verdict, accepted, invalid_size, malformed, BeginsWithSize, HasHead, HasVerdict, HasWholeVerdict, unexpected_eof, IsIncomplete, invalid_code, BeginsWithCode, BeginsWith}
pub use Rattle.multihash.specs.Writing.{AppendsPrefix, CountsWriterFailures, IsWriterFault, WriteLaws, WriteAllLaws, AppendsAtEnd, IsWriterFaultOrFull}
pub use Rattle.std.proofs.Common.{Vec, Global, length-append, ◌≡◌, ℕ, ◌<◌, ◌≤◌, ◌⊎◌, IfOk, IfErr, OnErr, IsOk, inl, inr, List, [], ◌++◌, length, map, false, Option, Some, Result, Ok, Err, MatchResult, refl, sym, ap, ◌∙◌, subst, arith, ◌+◌, drop, length-drop, IsTrue, ◌↔◌, Bool, rules, zero, suc, ◌*◌, ◌^◌, ◌∷◌, ◌%◌, bit_or, take, append_assoc, get_or, true, set, is_some, None, ◌≢◌, ltb, IfSome, append-nil, length-take-le, ◌/◌, cond, ◌-◌, replicate, bit_and, add-one, take-append-drop, vec_len, vec_capacity}
pub use Rattle.std.proofs.Math.Nat.{pow-suc, pow-zero, mul_assoc, mul-suc, mul-zero, mul-le-mul_left, mod-eq_of_lt, div-add-mod, div-div-eq-div-mul, div-one, lt_of_not-le, mul-le-mul_right, pow-le-pow_right, div-add-mod'}
pub use Rattle.std.proofs.lemmas.Bool.{false≢true, and_parts, lt-ltb, ltb-true, cases_lt, le-ltb}
pub use Rattle.std.proofs.lemmas.Grind.{common_steps}
pub use Rattle.std.proofs.lemmas.List.{length-map, get_or_append_left, get_or-append-add, map-append, take_at, append_cancel_left, append_cancel_right, drop-replicate, length-take, take-append-le, length-replicate, map_push, nil_from_length, length_push, same_from_push, drop_at, drop-drop, take_all, get_or_past, get_or-take, take_more, take-take, drop_more, get_or-replicate, take_rest, drop_all, take_more_set}
pub use Rattle.std.proofs.lemmas.List.Elements.{All-head, All-tail, All-map, All-append, All-push, All-same, All-nil, All-cons, All-replicate, All-from_get_or, All-take, All-more}
pub use Rattle.std.proofs.lemmas.Nat.{same_from_place, pow-add, mod_below, or_comm, or_shifted, div_below, le_bytes_8, leading_top, and_mask, and_le_r, shr-shr, shr_high, mod_low, pow_pos, and_assoc, and-not, and_comm, and_le_l, and_mod, and_shr, field_of, mod-pow-add, shr_le, shr_split}
pub use Rattle.std.specs.Io.KnownBytes.{IsAtEnd, prepend_known}
pub use Rattle.std.specs.List.{All, sum_by, enumerate_from, list_all, list_any}
