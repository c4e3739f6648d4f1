-- What two calls, one after the other, consumed, and what is at the front of a buffer after them.
use Rattle.multihash.proofs.Common.{arith, ◌≡◌, ℕ, ◌+◌, ◌≤◌, List, [], ◌++◌, Option, None, Some, IfSome, subst, length, take, refl, sym, ap, ◌∙◌, append_assoc, append-nil, length-take-le, take-append-le, prepend_known, IsAtEnd, Consumes}
use Rattle.std.proofs.Math.Seq.{take-append-add}
use borrow.Rule.Slice.PartMut.{put_mid}

-- two lists before a rest, prepended one after the other
pub prepend_known-append : (xs ys : List ℕ) (rest : Option (List ℕ))
    → prepend_known xs (prepend_known ys rest) ≡ prepend_known (xs ++ ys) rest
prepend_known-append xs ys None = refl
prepend_known-append xs ys (Some rest) = ap Some (sym (append_assoc xs ys rest))

-- two calls, one after the other, consumed both lists
pub Consumes-concatenated : {a b : Option (List ℕ)} (c : Option (List ℕ)) (xs ys : List ℕ) {whole : List ℕ} → whole ≡ xs ++ ys
    → Consumes a xs b → Consumes b ys c → Consumes a whole c
Consumes-concatenated c xs ys concatenated first second =
    first ∙ ap (prepend_known xs) second ∙ prepend_known-append xs ys c ∙ ap (λ l. prepend_known l c) (sym concatenated)

-- If a call changed the bytes of a buffer from `at` on:
-- the buffer starts with its old bytes before `at` and the first new ones
pub take-put_mid_more : (at k n : ℕ) (xs ys : List ℕ) → at ≤ length xs → n ≤ length ys
    → take (at + n) (put_mid at k xs ys) ≡ take at xs ++ take n ys
take-put_mid_more at k n xs ys within fits = grind (arith, length-take-le, take-append-add, take-append-le)

-- a known input is what was consumed, and then what remains
pub Consumes-cut : (whole consumed left : List ℕ) → Consumes (Some whole) consumed (Some left) → whole ≡ consumed ++ left
Consumes-cut whole consumed left consumes = cc

-- an input that is known stays known: the rest, and how the input is split
pub Consumes-known : (whole consumed : List ℕ) (new : Option (List ℕ)) → Consumes (Some whole) consumed new
    → (left : List ℕ) × (new ≡ Some left) × (whole ≡ consumed ++ left)
Consumes-known whole consumed None consumes = cc
Consumes-known whole consumed (Some left) consumes = (left, refl, Consumes-cut whole consumed left consumes)

-- at the end of a known input, all of it was consumed
pub all_read : (whole consumed : List ℕ) (new : Option (List ℕ)) → Consumes (Some whole) consumed new → IsAtEnd new → whole ≡ consumed
all_read whole consumed new consumes end = grind (arith, append-nil)

-- what holds of the consumed bytes with any rest holds of the rest at entry, if the input is known
pub IfSome-consumed : (old new : Option (List ℕ)) (consumed : List ℕ) (P : List ℕ → Type 0) → Consumes old consumed new
    → ((left : List ℕ) → new ≡ Some left → P (consumed ++ left)) → IfSome old P
IfSome-consumed None new consumed P consumes h = tt
IfSome-consumed (Some xs) new consumed P consumes h = let (left, is, cut) = Consumes-known xs consumed new consumes in
    subst P (sym cut) (h left is)

-- a call that consumed nothing
pub Consumes-none : (a : Option (List ℕ)) → Consumes a [] a
Consumes-none None = refl
Consumes-none (Some rest) = refl
