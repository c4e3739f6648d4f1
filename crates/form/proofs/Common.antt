-- The names that most proofs cite, passed on from one place. Declares nothing.
pub use Rattle.form.specs.Form.{Then, AppendsSome, AppendsPrefixOfSome, IsBlock, AreSame}
pub use Rattle.form.specs.FormError.{IsFailed, IsTruncated, form_error_text}
pub use Rattle.form.specs.Lemmas.Parts.{Determine, Exclude, number_unique, items_exist}
pub use Rattle.form.specs.Rejecting.{RejectsCase, RejectsNoCase, ShowsMalformed, IsUndecided, StopsAt, ReadStops, IsReadError, IsWholeError, RejectsNumber, RejectsMultihash, RejectsInTurn, RejectsNumberThen, AreItems, RejectsItem, RejectsTooLong, IsCase}
pub use Rattle.form.specs.declared.error.FormError.{FormError}
pub use Rattle.multihash.specs.Consuming.{ConsumesSome, FailsBy, ExactFails, ReadFails, ConsumesAtVarintError}
pub use Rattle.multihash.specs.Reading.{HasFewerThan, ConsumesFewerThan, Consumes}
pub use Rattle.multihash.specs.Refusal.{of_varint, Refusal, of_io, IsAnyVarintError, IsVarintError, IsOutOfMemory}
pub use Rattle.multihash.specs.Streams.{AreParts}
pub use Rattle.multihash.specs.Varint.{IsVarint, insufficient, overflow, not_minimal, VarintError, IsInsufficient}
pub use Rattle.std.proofs.Common.{◌≡◌, ℕ, List, ◌++◌, Option, refl, sym, subst, [], ◌∷◌, length, length-append, Some, inl, inr, ap, ◌∙◌, arith, ◌<◌, ◌⊎◌, append-nil, ◌≢◌, ◌+◌, ◌-◌, zero, suc, append_assoc, Bool, true, rules, ◌≤◌, drop, ◌%◌, ◌^◌, false, take}
pub use Rattle.std.proofs.lemmas.List.{nil_from_length, length-replicate, drop_more, drop_all}
pub use Rattle.std.specs.Prelude.{⊤, codes, None, IfSome, ◌==◌, Result, Ok, Err, IfOk, IfErr, IsErrAnd, replicate}
