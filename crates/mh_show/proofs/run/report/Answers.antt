use Rattle.std.proofs.Common.{ℕ, List, Option, Result, OnOk, OnErr, inr, arith}
use Rattle.std.specs.Io.KnownBytes.{Appends}
use Rattle.mh_show.specs.Run.{AppendsPrefixOf, TriesToAppend}
use Rattle.mh_show.proofs.run.report.Goals as goal

-- a write appended a prefix of its bytes, whatever it returned
tried : {T E : Type 0} (r : Result T E) (old new : Option (List ℕ)) (bytes : List ℕ)
    → OnOk r (Appends old new bytes) → OnErr r (AppendsPrefixOf old new bytes) → TriesToAppend old new bytes
tried r old new bytes whole part = grind arith

pub returns-in-Err : goal.returns-in-Err
returns-in-Err g c =
    let wrote = c.write_whole-in-Err.ensures in
    inr (tried c.write_whole-in-Err.result (g.E.Write.contents c.args.err.now) _ _ wrote.ok wrote.part)
