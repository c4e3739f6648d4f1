-- The multihashes that libp2p allows as peer identifiers.
use Rattle.std.specs.Prelude.{◌≡◌, ◌≤◌, ◌⊎◌, ℕ, List, ◌++◌, length, drop, codes}
use Rattle.std.specs.Fmt.{decimal}
use Rattle.multihash.specs.Pair.{Pair}
use Rattle.multihash.specs.Verdict.{malformed, HasVerdict, HasHead}
use Rattle.multihash.specs.Varint.{VarintError}
use Rattle.multihash.specs.Refusal.{IsVarintError, refusal_text}
use Rattle.examples.specs.declared.peer_id.PeerError.{PeerError}
use Rattle.examples.specs.declared.peer_id.PeerError.TheVariants.{Malformed, NotAllowed, OtherLength}

-- identity with at most 42 bytes, or SHA2-256 with 32
abbrev pub IsAllowed : ℕ → ℕ → Type 0
IsAllowed code size = ((code ≡ 0) × (size ≤ 42)) ⊎ ((code ≡ 0x12) × (size ≡ 32))

abbrev pub IsPeer : Pair → Type 0
IsPeer p = IsAllowed p.code (length p.digest)

-- the text of an error
abbrev pub peer_error_text : PeerError → List ℕ
peer_error_text (Malformed error) = refusal_text error
peer_error_text (NotAllowed code size) =
    codes "no peer has a hash of code " ++ decimal code ++ codes " and " ++ decimal size ++ codes " bytes"
peer_error_text (OtherLength n) = decimal n ++ codes " bytes in place of the digest"

-- the error states why the bytes are no peer identifier
abbrev pub PeerFails : List ℕ → PeerError → Type 0
PeerFails bytes (Malformed error) =
    (f : VarintError) × IsVarintError f error × ((S : ℕ) → HasVerdict S bytes (malformed f))
PeerFails bytes (NotAllowed code size) = (len : ℕ) × HasHead code size len bytes × ¬ (IsAllowed code size)
PeerFails bytes (OtherLength n) =
    (code size len : ℕ) × HasHead code size len bytes × IsAllowed code size
    × (n ≡ length (drop len bytes)) × ¬ (n ≡ size)
