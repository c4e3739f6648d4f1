-- What a writer that counts has appended.
use Rattle.std.specs.Prelude.{◌≡◌, ◌+◌, ◌-◌, ◌^◌, ℕ, List, [], ◌++◌, length, min}
use Rattle.std.proofs.Common.{arith, length-append, subst}
use Rattle.form.specs.declared.byte_count.ByteCount.{ByteCount}

-- that many bytes were counted, as far as the count can hold their number
abbrev pub HasCounted : ByteCount → ℕ → Type 0
HasCounted w n = w.count ≡ min n (2 ^ 64 - 1)

-- the bytes were counted after whatever was counted before
abbrev pub AddsCount : ByteCount → List ℕ → ByteCount → Type 0
AddsCount old bytes new = (n : ℕ) → HasCounted old n → HasCounted new (n + length bytes)

-- no bytes were counted
pub AddsCount-none : (w : ByteCount) → AddsCount w [] w
AddsCount-none w n counted = subst (HasCounted w) (omega arith) counted

-- the bytes of two calls were counted
pub AddsCount-concatenated : (a b c : ByteCount) (x y : List ℕ)
    → AddsCount a x b → AddsCount b y c → AddsCount a (x ++ y) c
AddsCount-concatenated a b c x y first second n counted =
    subst (HasCounted c) (omega (arith, length-append x y)) (second (n + length x) (first n counted))
