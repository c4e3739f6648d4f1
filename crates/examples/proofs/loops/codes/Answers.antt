-- The loop keeps that the bytes consumed so far are the encodings of the pairs whose codes it has; an encoding is not empty, so
-- as many turns as there are bytes are enough.
use Rattle.std.proofs.Common.{◌≡◌, [], ◌∷◌, ◌++◌, sym, ap, ◌∙◌, arith, rules, append_assoc, length-append}
use Rattle.std.proofs.lemmas.List.{map_push}
use Rattle.multihash.specs.Pair.{Pair}
use Rattle.multihash.specs.Encoding.{IsEncoding}
use Rattle.multihash.specs.Multihash.{pair_of}
use Rattle.multihash.proofs.ReadingLemmas.{Consumes-cut}
use Rattle.multihash.proofs.StreamLemmas.{parts_push, encoding_some}
use Rattle.examples.proofs.loops.codes.Goals as goal

pub loop-preserved : goal.loop-preserved
loop-preserved c =
    let (pairs, front, concatenated, codes, cut, count) = c.loop.invariant in
    let (encoding, encodes, consumes) = (rw c.in-Some.is at c.in_ok-multihash.ensures.read).ok in
    let pair = pair_of c.in-Some.multihash in
    let split = Consumes-cut _ encoding c.read_next.new.r.now consumes in
    let items : c.push.new.self.items ≡ c.loop.codes.items ++ pair.code ∷ [] = search rules in (
      pairs ++ pair ∷ [],
      front ++ encoding,
      parts_push IsEncoding pairs pair front encoding concatenated encodes,
      items
          ∙ (ap (λ z. z ++ pair.code ∷ []) codes
          ∙ sym (map_push (λ (p : Pair). p.code) pairs pair)),
      cut ∙ (ap (λ z. front ++ z) split ∙ sym (append_assoc front encoding c.read_next.new.r.now)),
      omega (arith, count, length-append front encoding, encoding_some pair encoding encodes),
    )
