-- What has been appended after several writes; a writer to a slice fails only if its capacity is too small.
use Rattle.multihash.proofs.Common.{common_steps, ◌≡◌, ◌≢◌, ◌<◌, [], ◌∷◌, refl, ℕ, ◌-◌, List, ◌++◌, length, take, drop, Result, OnErr, sym, ap, ◌∙◌, arith, append_assoc, take-append-drop, length-append, length-drop, ◌≤◌, false, IsOk, ◌+◌, take_rest, length-take-le, drop-drop, IsStrictPrefix, AppendsPrefix, IsWriterFaultOrFull, CountsWriterFailures, OnErr-always, Fault, Refusal, IsIo}
use Rattle.std.proofs.Math.Seq.{drop-append_seam, take-append_seam}
use Rattle.multihash.specs.Filling.{FillsSlice, Fills, IsFilled}
use Rattle.multihash.specs.declared.no_std_io.slice_writer.SliceWriter.{SliceWriter}

-- a list that is not empty has a length
pub length_of_not_nil : (xs : List ℕ) → xs ≢ [] → 0 < length xs
length_of_not_nil [] some = absurd (some refl)
length_of_not_nil (x ∷ xs) some = omega arith

-- the first n of the remaining bytes follow those done so far
pub concatenated-take-drop : {whole : List ℕ} (done left : List ℕ) (n : ℕ) → whole ≡ done ++ left
    → whole ≡ (done ++ take n left) ++ drop n left
concatenated-take-drop done left n e = grind (arith, take-append-drop, append_assoc)

-- the first n of the remaining bytes follow those done so far, the others are `left[n..]`
pub concatenated-take-range : {whole : List ℕ} (done left : List ℕ) (n : ℕ) → whole ≡ done ++ left
    → whole ≡ (done ++ take n left) ++ take (length left - n) (drop n left)
concatenated-take-range done left n e = grind (arith, concatenated-take-drop, take_rest)

-- a strict prefix of the first of two lists is a prefix of both
pub IsStrictPrefix-append : (x y z : List ℕ) → IsStrictPrefix x y → IsStrictPrefix x (y ++ z)
IsStrictPrefix-append x y z h = (
  h.0 ++ z,
  (λ none. omega (arith, ap length none, length-append h.0 z, length_of_not_nil h.0 h.1)),
  ap (λ l. l ++ z) h.2 ∙ append_assoc x h.0 z,
)

-- the first of two lists and a strict prefix of the second are a strict prefix of both
pub IsStrictPrefix-prepend : (x y z : List ℕ) → IsStrictPrefix x y → IsStrictPrefix (z ++ x) (z ++ y)
IsStrictPrefix-prepend x y z h = (h.0, h.1, ap (λ l. z ++ l) h.2 ∙ sym (append_assoc z x h.0))

module _ {W : Type 0} (appended : W → List ℕ → W → Type 0) where
  -- what has been appended is a strict prefix, since some bytes remain
  pub AppendsPrefix-take : {a b : W} {whole : List ℕ} (done left : List ℕ) (n : ℕ) → whole ≡ done ++ left → n < length left
      → appended a (done ++ take n left) b
      → AppendsPrefix appended a whole b
  AppendsPrefix-take done left n e less appends = record {
    part = done ++ take n left;
    strict = (drop n left, (λ none. omega (arith, ap length none, length-drop n left)), concatenated-take-drop done left n e);
    appends = appends;
  }

  -- a strict prefix of the first of two lists has been appended, so a strict prefix of both
  pub AppendsPrefix-append : {a b : W} {x : List ℕ} (y : List ℕ) → AppendsPrefix appended a x b → AppendsPrefix appended a (x ++ y) b
  AppendsPrefix-append {x = x} y h = record { part = h.part; strict = IsStrictPrefix-append h.part x y h.strict; appends = h.appends }

-- what two calls append is both lists: the law `appends_concatenated` of each writer
abbrev pub AppendsBoth : {W : Type 0} → (W → List ℕ → W → Type 0) → Type 0
AppendsBoth {W = W} appended =
    (a b c : W) (x y : List ℕ) → appended a x b → appended b y c → appended a (x ++ y) c

-- `rt lemma` finds no lemma in a module whose first line goes on in another one, so these are nested
module _ {W : Type 0} (appended : W → List ℕ → W → Type 0) (join : AppendsBoth appended) where
  -- two lists have been appended, one after the other
  pub appends_both : {a b c : W} {x y : List ℕ} → appended a x b → appended b y c → appended a (x ++ y) c
  appends_both {a = a} {b = b} {c = c} {x = x} {y = y} first second = join a b c x y first second

  -- the first of two lists has been appended, and a strict prefix of the second: one of both
  pub AppendsPrefix-concatenated : {a b c : W} {x y : List ℕ} → appended a x b → AppendsPrefix appended b y c
      → AppendsPrefix appended a (x ++ y) c
  AppendsPrefix-concatenated {a = a} {b = b} {c = c} {x = x} {y = y} first h = record {
    part = x ++ h.part;
    strict = IsStrictPrefix-prepend h.part y x h.strict;
    appends = join a b c x h.part first h.appends;
  }

  -- a form of two parts, each written by itself
  module _ (IsForm : List ℕ → Type 0) (a b : List ℕ) (form : IsForm (a ++ b)) where
    -- of two parts, writing the first failed: a strict prefix of both has been appended
    pub stops_in_front : {T E : Type 0} (r : Result T E) {u v : W} → AppendsPrefix appended u a v
        → OnErr r ((bytes : List ℕ) × IsForm bytes × AppendsPrefix appended u bytes v)
    stops_in_front r part = OnErr-always r (a ++ b, form, AppendsPrefix-append appended b part)

    -- of two parts, writing the second failed: a strict prefix of both has been appended
    pub stops_in_back : {T E : Type 0} (r : Result T E) {u w v : W} → appended u a w
        → AppendsPrefix appended w b v
        → OnErr r ((bytes : List ℕ) × IsForm bytes × AppendsPrefix appended u bytes v)
    stops_in_back r first part = OnErr-always r (a ++ b, form, AppendsPrefix-concatenated first part)

  -- a form of three parts
  module _ (IsForm : List ℕ → Type 0) (a b d : List ℕ) (form : IsForm (a ++ (b ++ d))) where
    -- of three parts, writing the first failed: a strict prefix of all has been appended
    pub stops_in_first : {T E : Type 0} (r : Result T E) {u v : W} → AppendsPrefix appended u a v
        → OnErr r ((bytes : List ℕ) × IsForm bytes × AppendsPrefix appended u bytes v)
    stops_in_first = stops_in_front IsForm a (b ++ d) form

    -- of three parts, writing the second failed: a strict prefix of all has been appended
    pub stops_in_second : {T E : Type 0} (r : Result T E) {u w v : W} → appended u a w
        → AppendsPrefix appended w b v
        → OnErr r ((bytes : List ℕ) × IsForm bytes × AppendsPrefix appended u bytes v)
    stops_in_second r first part = stops_in_back IsForm a (b ++ d) form r first (AppendsPrefix-append appended d part)

    -- of three parts, writing the third failed: a strict prefix of all has been appended
    pub stops_in_third : {T E : Type 0} (r : Result T E) {u w x v : W} → appended u a w → appended w b x
        → AppendsPrefix appended x d v
        → OnErr r ((bytes : List ℕ) × IsForm bytes × AppendsPrefix appended u bytes v)
    stops_in_third r first second part =
        stops_in_back IsForm a (b ++ d) form r first (AppendsPrefix-concatenated second part)

-- a writer that doesn't allocate and counted no failure returned an error because it was full
pub full_of_errors : (n : ℕ) (is_full : Type 0) (e : Fault) → IsWriterFaultOrFull false n n is_full e → is_full
full_of_errors n is_full e errors = grind arith

-- a slice with the bytes after its first `n` has been filled with them
pub fills_slice : {old bytes new : List ℕ} {n m : ℕ} → n + length bytes ≤ length old → m ≡ n + length bytes
    → new ≡ take n old ++ (bytes ++ drop (n + length bytes) old) → FillsSlice old n bytes new m
fills_slice {old = old} {bytes = bytes} {new = new} {n = n} {m = m} room count puts =
    let front : List ℕ = take n old ++ bytes in
    let rest : List ℕ = drop (n + length bytes) old in
    let parts : new ≡ front ++ rest = puts ∙ sym (append_assoc (take n old) bytes rest) in
    let long : m ≡ length front = omega (arith, count, length-append (take n old) bytes, length-take-le n old (omega (arith, room))) in
    record {
      appends = rw (long, parts) (take-append_seam front rest);
      advances = record {
        room = omega (arith, room, length-drop n old);
        left = rw (long, parts) (drop-append_seam front rest) ∙ sym (drop-drop (length bytes) n old);
      };
      count = count;
    }

-- filling keeps the length of the slice
pub filled_length : {old bytes new : List ℕ} {n m : ℕ} → FillsSlice old n bytes new m → length new ≡ length old
filled_length {old = old} {bytes = bytes} {new = new} {n = n} {m = m} h =
    omega (
      arith,
      ap length (take-append-drop m new),
      length-append (take m new) (drop m new),
      ap length h.appends,
      length-append (take n old) bytes,
      ap length h.advances.left,
      length-drop (length bytes) (drop n old),
      h.advances.room,
      ap length (take-append-drop n old),
      length-append (take n old) (drop n old),
    )

-- The two facts are the clauses `err` and `faults` of `write`, `scale_encode` and `write_list`.
-- A call that writes to a `SliceWriter` succeeds if the remaining capacity suffices
pub slice_writer_has_room : {T : Type 0} (old new : SliceWriter) (IsForm : List ℕ → Type 0) (r : Result T Refusal)
    → OnErr r ((bytes : List ℕ) × IsForm bytes × AppendsPrefix Fills old bytes new) → CountsWriterFailures IsIo false 0 0 (IsFilled new) r
    → ((bytes : List ℕ) → IsForm bytes → old.filled + length bytes ≤ length old.buffer.now) → IsOk r
slice_writer_has_room old new IsForm r stopped errors enough = grind (arith, common_steps)
