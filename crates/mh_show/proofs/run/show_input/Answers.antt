-- A run ends with the error of reading, of `show` or of writing: the first two are those of the call, and at the third a
-- prefix of the lines that `show` returned has been appended.
use Rattle.std.proofs.Common.{◌≡◌, ℕ, List, Option, Err, refl, ap}
use Rattle.multihash.specs.Refusal.{Refusal}
use Rattle.multihash.proofs.OutcomeLemmas.{passed_error}
use Rattle.mh_show.specs.declared.run.RunError.TheVariants.{NotShown}
use Rattle.mh_show.specs.declared.show.ShowError.{ShowError}
use Rattle.mh_show.specs.declared.show.ShowError.TheVariants.{NotHex, Refused, Memory}
use Rattle.mh_show.specs.Shown.{IsLine, NamesBytes, IsRejectedAs}
use Rattle.mh_show.specs.Run.{ReadsWhole, EndsRun}
use Rattle.mh_show.proofs.run.show_input.Goals as goal

-- how a run ends at each error of `show`
show_ends : (kept : Type 0) (old new out after : Option (List ℕ)) (text : List ℕ) (e : ShowError) → kept
    → ReadsWhole old new text
    → ((line bytes : List ℕ) → e ≡ NotHex → IsLine line text → ¬ (NamesBytes line bytes))
    → ((r : Refusal) → e ≡ Refused r → IsRejectedAs text r) → EndsRun kept old new out after (NotShown e)
show_ends kept old new out after text NotHex same reads none rejected = (same, text, reads, λ line bytes. none line bytes refl)
show_ends kept old new out after text (Refused r) same reads none rejected = (same, text, reads, rejected r refl)
show_ends kept old new out after text Memory same reads none rejected = same

pub returns-in_err-lines-clause-err : goal.returns-in_err-lines-clause-err
returns-in_err-lines-clause-err g c =
    let met = c.in_err-lines.ensures in
    let old = g.I.Read.remaining c.args.input.now in
    let new = g.I.Read.remaining c.read_input.new.input in
    let out = g.O.Write.contents c.args.out.now in
    rw (passed_error c.from_residual-in_err-lines.result _ c.from_residual-in_err-lines.ensures.1)
    (show_ends (c.args.out.now ≡ c.args.out.now) old new out out c.as_slice.result.now c.in_err-lines.field-0.0 refl
    (rw c.as_slice.ensures.value c.in_ok-text.ensures.ok)
    (λ line bytes same. met.not_hex line bytes (ap Err same))
    (λ r same. met.rejected r (ap Err same)))
