use Rattle.multihash.proofs.Common.{arith, ◌∙◌, ◌≤◌, length}
use Rattle.multihash.proofs.WordFrontLemmas.{full_word, padded_word}
use Rattle.multihash.proofs.varint.word.first_word.Goals as goal

pub returns-in-Some : goal.returns-in-Some
returns-in-Some c = grind (arith, full_word)

pub returns : goal.returns
returns c =
    let few : length c.args.bytes.now ≤ 16 = grind arith in
    c.from_le_bytes-2.ensures ∙ padded_word c.args.bytes.now c.copy_from_slice.new.self c.copy_from_slice.ensures.after few
