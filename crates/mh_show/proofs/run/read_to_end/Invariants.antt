use Rattle.std.proofs.Common.{◌≡◌, ◌-◌, ◌≤◌, length, take}
use Rattle.std.specs.Io.KnownBytes.{Consumes as ReadsKnown}
use Rattle.mh_show.proofs.run.read_to_end.Given as goal

abbrev pub invariant-loop-length : goal.invariant-loop-length
invariant-loop-length g l =
    (length l.room ≡ length l.initial.room) × (l.length ≤ length l.room)
    × ReadsKnown (g.I.Read.remaining l.initial.input) (g.I.Read.remaining l.input) (take l.length l.room)

abbrev pub decreases-loop-length : goal.decreases-loop-length
decreases-loop-length g l = length l.initial.room - l.length
