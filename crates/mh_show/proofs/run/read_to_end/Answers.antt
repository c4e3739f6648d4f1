-- Each read appends its bytes to those at the front of the buffer (`take_split`), so these stay the bytes that were consumed.
use Rattle.std.proofs.Common.{◌≡◌, ℕ, ◌+◌, ◌-◌, ◌≤◌, List, ◌++◌, rules, length, take, slice_range, sym, ap, ◌∙◌, subst, le_refl, drop_at, length-take-le, arith}
use Rattle.std.proofs.lemmas.Slice.{take-put_mid_below}
use Rattle.std.specs.Io.KnownBytes.{Consumes as ReadsKnown}
use Rattle.std.proofs.KnownBytes.{Consumes-trans}
use borrow.Rule.Slice.PartMut.{put_mid}
use lib.Seq.{take-add, take-append-le}
use Rattle.mh_show.proofs.run.read_to_end.Goals as goal

-- the first bytes are unchanged, and those after them up to b are new
take_split : (a b : ℕ) (old new : List ℕ) → a ≤ b → take a new ≡ take a old → take a old ++ slice_range new a b ≡ take b new
take_split a b old new h front =
    let same : a + (b - a) ≡ b = omega arith in
    ap (λ l. l ++ slice_range new a b) (sym front) ∙ sym (take-add a (b - a) new) ∙ ap (λ n. take n new) same

-- the first n bytes of what was written at a
slice_range-put_mid : (a k n : ℕ) (xs ys : List ℕ) → a ≤ length xs → n ≤ length ys → slice_range (put_mid a k xs ys) a (a + n) ≡ take n ys
slice_range-put_mid a k n xs ys within fits = grind (arith, drop_at, length-take-le, take-append-le)

pub loop-length-preserved : goal.loop-length-preserved
loop-length-preserved g c =
    let from = c.loop-length.length in
    let room = length c.loop-length.room - from in
    let old = g.I.Read.remaining c.args.input.now in
    let now = g.I.Read.remaining c.loop-length.input in
    let within = c.loop-length.invariant.1 in
    let part = slice_range-put_mid from room c.in-Ok.count c.loop-length.room c.read.new.buf within c.in-Ok.ensures.bound.0 in
    let concatenated = take_split from (from + c.in-Ok.count) c.loop-length.room (put_mid from room c.loop-length.room c.read.new.buf)
    (omega arith) (take-put_mid_below from room c.loop-length.room c.read.new.buf from (le_refl _) within) in (
      search rules,
      search rules,
      subst (ReadsKnown _ _) (ap (λ l. take from c.loop-length.room ++ l) (sym part) ∙ concatenated)
          (Consumes-trans old now _ (take from c.loop-length.room) _ c.loop-length.invariant.2 c.in-Ok.ensures.bytes.0),
    )
