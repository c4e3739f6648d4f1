-- Each write moves bytes from the rest to those that are done (`moves_front`), so done and rest stay all bytes.
use Rattle.std.proofs.Common.{◌≡◌, ℕ, ◌-◌, List, ◌++◌, length, take, drop, append_assoc, take-append-drop, arith}
use Rattle.std.proofs.lemmas.List.{take_rest}
use Rattle.std.proofs.KnownBytes.{Appends-trans}
use Rattle.mh_show.proofs.run.write_whole.Goals as goal

-- the first n of the remaining bytes are written
moves_front : (all done rest : List ℕ) (n : ℕ) → all ≡ done ++ rest → all ≡ (done ++ take n rest) ++ take (length rest - n) (drop n rest)
moves_front all done rest n e = grind (arith, take-append-drop, append_assoc, take_rest)

pub loop-rest-preserved : goal.loop-rest-preserved
loop-rest-preserved g c =
    let (done, split, appended) = c.loop-rest.invariant in
    let rest = c.loop-rest.rest.now in
    let old = g.W.Write.contents c.args.out.now in
    let now = g.W.Write.contents c.loop-rest.out in
    let n = c.in-Ok.count in (
      done ++ take n rest,
      moves_front _ done rest n split,
      Appends-trans old now _ done _ appended c.in-Ok.ensures.bytes,
    )
