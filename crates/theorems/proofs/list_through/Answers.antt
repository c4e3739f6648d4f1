-- What was written is a concatenation of encodings, and reading a concatenation of encodings returns their pairs, unless an
-- allocation or the reader itself fails (`unless_failed`).
use Rattle.std.proofs.Common.{map, ◌≡◌, ◌⊎◌, ◌<◌, ℕ, Result, MatchResult, arith}
use Rattle.std.proofs.lemmas.List.{length-map}
use Rattle.multihash.specs.Multihash.{pair_of}
use Rattle.multihash.specs.Fault.{OutOfMemory}
use Rattle.multihash.specs.Consuming.{ReadMayFailWith}
use Rattle.multihash.specs.Reading.{CountsReaderFailures}
use Rattle.multihash.specs.Refusal.{Refusal, of_io, IsOutOfMemory, IsReaderError}
use Rattle.multihash.proofs.CallingLemmas.{read_list_of_encodings}
use Rattle.theorems.specs.Results.{IsOwnError}
use Rattle.theorems.proofs.ResultLemmas.{memory_error, own_error}
use Rattle.theorems.proofs.list_through.Goals as goal

-- what holds if the reader does not fail holds, or memory ran out, or the reader failed
unless_failed : {A : Type 0} (P : A → Type 0) (Writer IsListed : Refusal → Type 0) {before after : ℕ} (r : Result A Refusal)
    → CountsReaderFailures IsReaderError IsListed before after r → (after ≡ before → MatchResult r P IsOutOfMemory)
    → MatchResult r P (λ e. (e ≡ of_io OutOfMemory) ⊎ Writer e ⊎ ((before < after) × IsOwnError e))
unless_failed P Writer IsListed r counts met = grind (arith, own_error, memory_error)

pub returns-in_err-write_list-clause-written : goal.returns-in_err-write_list-clause-written
returns-in_err-write_list-clause-written g c = grind (arith)

pub returns-in_err-write_list-clause-back : goal.returns-in_err-write_list-clause-back
returns-in_err-write_list-clause-back g c more pipe fit = grind (arith)

pub returns-clause-back : goal.returns-clause-back
returns-clause-back g c more pipe fit =
    let wrote = c.in_ok-write_list.ensures in
    let items = c.args.items.now in
    unless_failed _ _ (λ e. ReadMayFailWith g.row.T e ⊎ IsOutOfMemory e) c.read_list.result c.read_list.ensures.faults (λ unfailed.
    read_list_of_encodings g.row.T _ (map pair_of items) wrote.ok.0 more c.read_list.result wrote.ok.1 fit (length-map items pair_of)
    (pipe wrote.ok.0 wrote.ok.1) unfailed c.read_list.ensures.ok c.read_list.ensures.err)
