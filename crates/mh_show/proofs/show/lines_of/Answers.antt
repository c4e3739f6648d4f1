-- The digits are those of the digest, and a dash stands for none (`digest_text`), so the format writes the three lines
-- (`three_lines`).
use Rattle.std.proofs.Common.{◌≡◌, ◌<◌, ℕ, List, [], ◌∷◌, ◌++◌, length, codes, Result, IfOk, String, Global, string_bytes, ap, ◌∙◌, append_assoc, rules, arith}
use Rattle.std.specs.Fmt.{decimal}
use Rattle.hex.specs.Hex.{encode_lower, encode_with}
use Rattle.multihash.specs.Pair.{Pair}
use Rattle.multihash.specs.Multihash.{pair_of}
use Rattle.mh_show.specs.Shown.{newline, shown_digest, shown}
use Rattle.mh_show.proofs.show.lines_of.Goals as goal
use Rattle.mh_show.proofs.show.lines_of.Goals.{then-is_empty, else-is_empty}

-- equal texts
same_text : {E : Type 0} (r : Result (String Global) E) (a b : List ℕ) → IfOk r (λ s. string_bytes s ≡ a) → a ≡ b
    → IfOk r (λ s. string_bytes s ≡ b)
same_text r a b h e = grind arith

-- the digits of a digest, or a dash
digest_text : (digest digits text : List ℕ) → digits ≡ encode_lower digest → (length digits ≡ 0 → text ≡ codes "-")
    → (0 < length digits → text ≡ digits) → text ≡ shown_digest digest
unfolding encode_with
digest_text [] digits text same none some = none (ap length same)
digest_text (b ∷ digest) digits text same none some = some (omega (arith, ap length same)) ∙ same

-- what the format writes
three_lines : (p : Pair) {code size : ℕ} {digest : List ℕ} → code ≡ p.code → size ≡ length p.digest → digest ≡ shown_digest p.digest
    → codes "code " ++ (decimal code ++ (codes "\nsize " ++ (decimal size ++ (codes "\ndigest " ++ (digest ++ newline))))) ≡ shown p
three_lines p c s d = rw (c, s, d) (simp append_assoc)

pub returns : goal.returns
returns c =
    let p = pair_of c.args.multihash.now in
    let digits = string_bytes c.in_ok-digits.digits in
    let same : digits ≡ encode_lower p.digest = c.in_ok-digits.ensures ∙ ap encode_lower c.digest.ensures.digest in
    let none : length digits ≡ 0 → c.if-is_empty.digest.now ≡ codes "-" =
    λ empty. elim c.if-is_empty.branch [ then-is_empty w ↦ search rules | else-is_empty w ↦ search rules ] in
    let some : 0 < length digits → c.if-is_empty.digest.now ≡ digits =
    λ long. elim c.if-is_empty.branch [ then-is_empty w ↦ search rules | else-is_empty w ↦ search rules ] in
    same_text c.format.result _ _ c.format.ensures.ok
    (three_lines p c.code-code.ensures.code c.size-size.ensures.size (digest_text p.digest digits _ same none some))
