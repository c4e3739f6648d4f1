use Rattle.std.proofs.Common.{◌≡◌, ◌-◌, ◌^◌, ℕ, min, subst, arith}
use Rattle.form.proofs.whole.encoded_len.Goals as goal

pub returns : goal.returns
returns g c =
    let (bytes, is, counted) = rw c.unwrap.ensures at c.write.ensures.ok in (
      bytes,
      is,
      subst (λ (n : ℕ). c.write.new.w.count ≡ min n (2 ^ 64 - 1)) (omega arith) (counted 0 (omega arith)),
    )
