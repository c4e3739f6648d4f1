-- Reading and writing two parts: for `Both`, `Counted`, `Choice`, `write_two`, `write_three`, and `storage`.
use Rattle.form.proofs.Common.{◌≡◌, ℕ, List, ◌++◌, Option, refl, sym, subst, IsVarint, ConsumesSome, Then, AppendsSome, AppendsPrefixOfSome}
use Rattle.multihash.proofs.ReadingLemmas.{Consumes-concatenated}
use Rattle.multihash.proofs.WritingLemmas.{AppendsBoth, AppendsPrefix-append, AppendsPrefix-concatenated}

-- the parts make the whole
make : (P Q : List ℕ → Type 0) (a b : List ℕ) → P a → Q b → Then P Q (a ++ b)
make P Q a b is_a is_b = record { first = a; second = b; is_first = is_a; is_second = is_b; parts = refl }

-- the varint of a number that is another
pub number_is : {n m : ℕ} {old : Option (List ℕ)} (new : Option (List ℕ)) → m ≡ n → ConsumesSome (IsVarint n) old new
    → ConsumesSome (IsVarint m) old new
number_is new is (bytes, varint, consumes) = (bytes, subst (λ k. IsVarint k bytes) (sym is) varint, consumes)

-- both parts were read
pub then_read : {P Q : List ℕ → Type 0} {old mid : Option (List ℕ)} (new : Option (List ℕ)) → ConsumesSome P old mid
    → ConsumesSome Q mid new → ConsumesSome (Then P Q) old new
then_read {P = P} {Q = Q} new (a, is_a, first) (b, is_b, second) =
    (a ++ b, make P Q a b is_a is_b, Consumes-concatenated new a b refl first second)

module _ {W : Type 0} (appended : W → List ℕ → W → Type 0) {P Q : List ℕ → Type 0} where
  -- the first part was not written
  pub then_stops_first : {u v : W} → AppendsPrefixOfSome appended P u v → (b : List ℕ) × Q b
      → AppendsPrefixOfSome appended (Then P Q) u v
  then_stops_first (a, is_a, stopped) (b, is_b) = (a ++ b, make P Q a b is_a is_b, AppendsPrefix-append appended b stopped)

  -- the first part was written, and the second was not
  pub then_stops_second : AppendsBoth appended → {u w v : W} → AppendsSome appended P u w → AppendsPrefixOfSome appended Q w v
      → AppendsPrefixOfSome appended (Then P Q) u v
  then_stops_second join (a, is_a, first) (b, is_b, stopped) =
      (a ++ b, make P Q a b is_a is_b, AppendsPrefix-concatenated appended join first stopped)

  -- both parts were written
  pub then_written : AppendsBoth appended → {u w v : W} → AppendsSome appended P u w → AppendsSome appended Q w v
      → AppendsSome appended (Then P Q) u v
  then_written join {u = u} {w = w} {v = v} (a, is_a, first) (b, is_b, second) =
      (a ++ b, make P Q a b is_a is_b, join u w v a b first second)
