-- The byte that was read ahead is the first of what is left: it is put at the front of the buffer, and nothing else is read.
use Rattle.std.proofs.Common.{◌≡◌, ◌<◌, ℕ, List, [], ◌∷◌, length, take, drop, slice_set, refl, sym, ap, ◌∙◌, arith}
use Rattle.std.specs.Io.KnownBytes.{prepend_known}
use Rattle.form.specs.Stream.{rest_from}
use Rattle.form.proofs.WholeLemmas.{not_empty}
use Rattle.form.proofs.stream.StreamRead.read.Goals as goal

-- a byte was put at the front of a buffer
byte_put : (buf : List ℕ) (byte : ℕ) → (buf ≡ [] → ⊥)
    → (0 < length buf) × (take 1 (slice_set buf 0 byte) ≡ byte ∷ []) × (drop 1 (slice_set buf 0 byte) ≡ drop 1 buf)
byte_put [] byte some = absurd (some refl)
byte_put (x ∷ buf) byte some = (omega arith, refl, refl)

pub returns : goal.returns
returns g c =
    let put = byte_put c.args.buf.now c.in-Some.byte (not_empty c.args.buf.now _ c.is_empty.ensures c.if-is_empty.false) in
    let rest = g.R.Read.rest c.args.self.now.inner in
    record {
      laws = record {
        count = put.0;
        beyond = put.2;
        faults = refl;
        consumes = ap (λ o. rest_from o rest) c.in-Some.is ∙ ap (λ (l : List ℕ). prepend_known l rest) (sym put.1);
        at_end = λ none. absurd (omega (arith, none));
        err = tt;
      };
    }
