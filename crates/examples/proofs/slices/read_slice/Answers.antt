-- What `read` leaves of a slice is what follows the bytes that it consumed. If the size is too large these are the two varints, as no
-- shorter prefix settles the verdict.
use Rattle.std.proofs.Common.{refl, ◌≡◌, ℕ, List, Some, sym, ◌∙◌, ◌<◌, ◌++◌, length, ap, append_assoc}
use Rattle.std.proofs.lemmas.Result.{IfOk-weaker}
use Rattle.multihash.specs.Verdict.{invalid_size, BeginsWithSize}
use Rattle.multihash.specs.Pair.{digest_limit}
use Rattle.multihash.specs.Consuming.{ConsumesShortestSettling}
use Rattle.multihash.proofs.CallingLemmas.{rejected_size}
use Rattle.multihash.proofs.ReadingLemmas.{Consumes-cut}
use Rattle.multihash.proofs.SettlingLemmas.{shortest_size, shortest_unique}
use Rattle.multihash.proofs.EncodingLemmas.{same_cut}
use Rattle.examples.proofs.slices.read_slice.Goals as goal

-- what follows the two varints of a size that is too large is left
left_after : (S size : ℕ) (input rest left : List ℕ) → BeginsWithSize size input rest → digest_limit S < size
    → ConsumesShortestSettling S input (Some left) → left ≡ rest
left_after S size input rest left h over took =
    let front = h.code_bytes ++ h.size_bytes in
    let same : took.front ≡ front = shortest_unique S input took.front front took.shortest (shortest_size S size input rest h over) in
    let cut = Consumes-cut input took.front left took.consumes in
    (same_cut took.front front left rest (ap length same) (sym cut ∙ (h.cut ∙ sym (append_assoc h.code_bytes h.size_bytes rest)))).1

pub returns-clause-ok : goal.returns-clause-ok
returns-clause-ok g c =
    let read = c.read-outcome in
    IfOk-weaker read.result _ _ (λ m ok. (ok.0, ok.1, Consumes-cut c.args.stream.now ok.0 read.new.r.now ok.2)) read.ensures.ok

pub returns-clause-long : goal.returns-clause-long
returns-clause-long g c size rest h over = (
  rejected_size g.row.S size _ rest c.read-outcome.result h over (c.read-outcome.ensures.verdict refl),
  left_after g.row.S size _ rest _ h over
      (c.read-outcome.ensures.settled refl (invalid_size size) (rest, h, over) (λ incomplete. incomplete)),
)
