-- What holds of the result if a `?` passes an error on.
use Rattle.std.proofs.Common.{◌≡◌, Result, Ok, Err, MatchResult, OnErr, ap}
use Rattle.std.specs.Result.{IsErrAnd}

-- the result of a `?` that passes an error on is that error: `rw (passed_error r _ given) h` takes what holds of it
pub passed_error : {T E : Type 0} (r : Result T E) (e : E) → IsErrAnd r (λ x. x ≡ e) → r ≡ Err e
passed_error (Ok t) e given = absurd given
passed_error (Err x) e given = ap Err given

-- a fact that holds in any case holds on an Err
pub OnErr-always : {T E P : Type 0} (r : Result T E) → P → OnErr r P
OnErr-always (Ok x) p = tt
OnErr-always (Err e) p = p

-- what follows from the property that `from_gives` states holds of the error that a `?` returns
pub if_given : {T E : Type 0} (Given : E → Type 0) (Q : T → Type 0) (P : E → Type 0) (r : Result T E) → IsErrAnd r Given
    → ((e : E) → Given e → P e) → MatchResult r Q P
if_given Given Q P (Ok t) given weaker = absurd given
if_given Given Q P (Err e) given weaker = weaker e given
