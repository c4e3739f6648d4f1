-- `read` decides at the first byte that can: each clause is one of its contract with what is proved of all inputs, that
-- they have one verdict and at most one shortest prefix that settles it (`one_verdict`, `settles`).
use Rattle.std.proofs.Common.{◌≡◌, ◌≢◌, ◌↔◌, ◌⊎◌, ◌<◌, ◌++◌, ℕ, List, Option, Some, None, Result, IfSome, IsErrAnd, IsOkAnd, inl, inr, ap, ◌∙◌, subst, [], IfErr, arith}
use Rattle.std.specs.Io.KnownBytes.{IsAtEnd}
use Rattle.std.proofs.lemmas.Option.{IfSome_then}
use Rattle.multihash.specs.Bytes.{ExactlyOne, IsPrefix}
use Rattle.multihash.specs.Varint.{insufficient}
use Rattle.multihash.specs.Pair.{Pair, FitsBuffer}
use Rattle.multihash.specs.Verdict.{Verdict, malformed, unexpected_eof, BeginsWith, HasVerdict, IsIncomplete}
use Rattle.multihash.specs.Settling.{Settles, IsShortestSettling}
use Rattle.multihash.specs.Consuming.{ReadMayFailWith, ConsumesAtError, ConsumesShortestSettling, ConsumesNothingSettling}
use Rattle.multihash.specs.Reading.{Consumes, CountsReaderFailures}
use Rattle.multihash.specs.Refusal.{Refusal, IsReaderError}
use Rattle.multihash.specs.Outcome.{IsErrorOf, IsResultOf}
use Rattle.multihash.specs.Multihash.{Fields, pair_of}
use Rattle.multihash.proofs.ReadingLemmas.{Consumes-known}
use Rattle.theorems.specs.Results.{verdict_of, IsOwnError}
use Rattle.theorems.proofs.ResultLemmas.{verdict_stated, own_error, is_complete, returns_pair}
use Rattle.theorems.proofs.read_verdict.Goals as goal

-- `r` is the result of a verdict, and an input has one verdict
module _ (S before after : ℕ) (old : Option (List ℕ)) (r : Result (Fields S) Refusal)
    (unique : (S : ℕ) (input : List ℕ) (v w : Verdict) → HasVerdict S input v → HasVerdict S input w → v ≡ w)
    (verdict : IfSome old (λ rest. after ≡ before → (v : Verdict) × HasVerdict S rest v × IsResultOf r v)) where
  -- that verdict is the only one
  one_found : after ≡ before → IfSome old (λ rest. (one : ExactlyOne (HasVerdict S rest)) × (verdict_of r ≡ Some one.value))
  one_found same = IfSome_then old verdict (λ rest found. let v = found same in
      (record { value = v.0; holds = v.1; only = λ w has. unique S rest w v.0 has v.1 }, verdict_stated r v.0 v.2))

  -- a pair is the result exactly if its encoding is at the front and it fits
  pair_returned : IfSome old (λ rest. after ≡ before → (p : Pair)
      → ((left : List ℕ) × BeginsWith p rest left × FitsBuffer S p) ↔ IsOkAnd r (λ m. pair_of m ≡ p))
  pair_returned = IfSome_then old verdict (λ rest found same p. let v = found same in
      returns_pair (HasVerdict S rest) r v.0 v.1 v.2 (λ w has. unique S rest w v.0 has v.1) p)

-- the reader failed, or what holds if it did not holds
failed_or : {S : ℕ} {P : Type 0} (before after : ℕ) (r : Result (Fields S) Refusal)
    → CountsReaderFailures IsReaderError (ReadMayFailWith S) before after r → (after ≡ before → P)
    → ((before < after) × IsErrAnd r IsOwnError) ⊎ ((after ≡ before) × P)
failed_or before after r counts met = grind (arith, own_error)

-- what was consumed is the one shortest prefix that settles
one_taken : (S before after : ℕ) (old new : Option (List ℕ))
    → ((S : ℕ) (input : List ℕ) (v : Verdict) → HasVerdict S input v → ¬ (IsIncomplete v) → ExactlyOne (IsShortestSettling S input))
    → IfSome old (λ rest. after ≡ before → (v : Verdict) → HasVerdict S rest v → ¬ (IsIncomplete v) → ConsumesShortestSettling S rest new)
    → IfSome old (λ rest. after ≡ before → (v : Verdict) → HasVerdict S rest v → v ≢ malformed insufficient → v ≢ unexpected_eof →
    (front : ExactlyOne (IsShortestSettling S rest)) × ((left : List ℕ) × (new ≡ Some left) × (rest ≡ front.value ++ left)))
one_taken S before after old new shortest settled = IfSome_then old settled
    (λ rest settles same v has short eof.
    let late = is_complete v short eof in
    let took = settles same v has late in
    let one = shortest S rest v has late in (
      one,
      Consumes-known rest one.value new
          (subst (λ front. Consumes (Some rest) front new) (one.only took.front took.shortest) took.consumes),
    ))

-- the two verdicts of a truncated input are incomplete
truncated_incomplete : (S : ℕ) (rest : List ℕ) → HasVerdict S rest (malformed insufficient) ⊎ HasVerdict S rest unexpected_eof
    → (v : Verdict) × HasVerdict S rest v × IsIncomplete v
truncated_incomplete S rest (inl short) = (malformed insufficient, short, tt)
truncated_incomplete S rest (inr eof) = (unexpected_eof, eof, tt)

failed_or_incomplete : (S before after : ℕ) (rest : List ℕ)
    → (before < after) ⊎ HasVerdict S rest (malformed insufficient) ⊎ HasVerdict S rest unexpected_eof
    → (before < after) ⊎ ((v : Verdict) × HasVerdict S rest v × IsIncomplete v)
failed_or_incomplete S before after rest (inl failed) = inl failed
failed_or_incomplete S before after rest (inr truncated) = inr (truncated_incomplete S rest truncated)

-- nothing that was consumed settles
none_settles : (S before after : ℕ) (old new : Option (List ℕ))
    → IfSome old (λ rest. (before < after) ⊎ ((v : Verdict) × HasVerdict S rest v × IsIncomplete v) →
    ConsumesNothingSettling S rest new)
    → IfSome old (λ rest. (before < after) ⊎ HasVerdict S rest (malformed insufficient) ⊎ HasVerdict S rest unexpected_eof →
    (consumed left : List ℕ) × (new ≡ Some left) × (rest ≡ consumed ++ left)
    × ((front : List ℕ) → IsPrefix front consumed → ¬ (Settles S front)))
none_settles S before after old new unsettled = IfSome_then old unsettled
    (λ rest took either. let taken = took (failed_or_incomplete S before after rest either) in
    let (left, is, cut) = Consumes-known rest taken.consumed new taken.consumes in
    (taken.consumed, left, is, cut, taken.unsettled))

-- a result that a verdict has is an error if the verdict is incomplete
incomplete_error : {S : ℕ} (P : Refusal → Type 0) (r : Result (Fields S) Refusal) (v : Verdict) → IsResultOf r v → IsIncomplete v → IfErr r P
    → (e : Refusal) × IsErrorOf e v × P e
incomplete_error P r v is incomplete at = grind arith

-- what was consumed of a truncated input
truncated_consumed : (S before after : ℕ) (old new : Option (List ℕ)) (r : Result (Fields S) Refusal)
    → ((S : ℕ) (input : List ℕ) (v w : Verdict) → HasVerdict S input v → HasVerdict S input w → v ≡ w)
    → IfSome old (λ rest. after ≡ before → (v : Verdict) × HasVerdict S rest v × IsResultOf r v) → IfErr r (λ e. ConsumesAtError S e old new)
    → IfSome old (λ rest. after ≡ before → (HasVerdict S rest (malformed insufficient) → new ≡ Some [])
    × (HasVerdict S rest unexpected_eof → (consumed left : List ℕ) × (new ≡ Some left) × (rest ≡ consumed ++ left)
    × HasVerdict S consumed unexpected_eof))
truncated_consumed S before after None new r unique verdict err = tt
truncated_consumed S before after (Some rest) new r unique verdict err = λ same. (
  (λ short. let (e, named, t) = ended same (malformed insufficient) short tt in
      let (left, is, cut) = Consumes-known rest t.consumed new t.consumes in
      is ∙ ap Some (subst IsAtEnd is (t.insufficient named).1)),
  λ eof. let (e, named, t) = ended same unexpected_eof eof tt in
      let (left, is, cut) = Consumes-known rest t.consumed new t.consumes in
      (t.consumed, left, is, cut, t.eof named),
)
  where
    ended : after ≡ before → (w : Verdict) → HasVerdict S rest w → IsIncomplete w
        → (e : Refusal) × IsErrorOf e w × ConsumesAtError S e (Some rest) new
    ended same w has incomplete = grind (arith, incomplete_error)

-- no prefix of a truncated input settles
truncated_unsettled : (S : ℕ) (old : Option (List ℕ))
    → ((S : ℕ) (input : List ℕ) (v : Verdict) → HasVerdict S input v → IsIncomplete v
    → (front : List ℕ) → IsPrefix front input → ¬ (Settles S front))
    → IfSome old (λ rest. HasVerdict S rest (malformed insufficient) ⊎ HasVerdict S rest unexpected_eof →
    (front : List ℕ) → IsPrefix front rest → ¬ (Settles S front))
truncated_unsettled S None none = tt
truncated_unsettled S (Some rest) none = λ truncated front prefix.
    let v = truncated_incomplete S rest truncated in none S rest v.0 v.1 v.2 front prefix

pub returns : goal.returns
returns g c =
    let S = g.row.S in
    let read = c.read.ensures in
    let before = g.R.Read.failures c.args.r.now in
    let after = g.R.Read.failures c.read.new.r in
    let old = g.R.Read.rest c.args.r.now in
    let new = g.R.Read.rest c.read.new.r in record {
      one = failed_or before after c.read.result read.faults
          (one_found S before after old c.read.result c.one_verdict.ensures.read_unique read.verdict);
      canonical = pair_returned S before after old c.read.result c.one_verdict.ensures.read_unique read.verdict;
      settled = one_taken S before after old new c.settles.ensures.one_shortest read.settled;
      unsettled = none_settles S before after old new read.unsettled;
      ended = truncated_consumed S before after old new c.read.result c.one_verdict.ensures.read_unique read.verdict read.err;
      truncated = truncated_unsettled S old c.settles.ensures.none;
    }
