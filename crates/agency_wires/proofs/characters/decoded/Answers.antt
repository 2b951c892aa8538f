use Rattle.std.proofs.Common.{◌≡◌, ℕ, List, cond, map, ap, sym, ◌∙◌, inl, inr}
use Rattle.std.proofs.lemmas.Bool.{cases_Bool}
use Rattle.std.proofs.lemmas.Result.{IfOk-weaker}
use Rattle.std.proofs.lemmas.Str.{is_utf8-from_IsUtf8, IsUtf8-from_is_utf8}
use Rattle.std.specs.Str.{IsUtf8, is_utf8, chars}
use Rattle.agency_wires.specs.Characters.{windows_1252, cleaned, decoded}
use Rattle.agency_wires.proofs.characters.decoded.Goals as goal

as_utf8 : (bytes : List ℕ) → IsUtf8 bytes → cleaned (chars bytes) ≡ decoded bytes
as_utf8 bytes u = sym (ap (λ t. cleaned (cond t (chars bytes) (map windows_1252 bytes))) (is_utf8-from_IsUtf8 bytes u))

as_windows : (bytes : List ℕ) → ¬ (IsUtf8 bytes) → cleaned (map windows_1252 bytes) ≡ decoded bytes
as_windows bytes n =
    elim (cases_Bool (is_utf8 bytes)) [
      | inl u ↦ absurd (n (IsUtf8-from_is_utf8 bytes u))
      | inr f ↦ sym (ap (λ t. cleaned (cond t (chars bytes) (map windows_1252 bytes))) f)
    ]

pub returns-in-Ok : goal.returns-in-Ok
returns-in-Ok c =
    let h = c.in-Ok.ensures.cases in
    IfOk-weaker c.cleaned_text.result _ _ (λ told e. e ∙ ap (λ z. cleaned (chars z)) h.0 ∙ as_utf8 c.args.bytes.now h.1) c.cleaned_text.ensures

pub returns-in-Err : goal.returns-in-Err
returns-in-Err c = IfOk-weaker c.cleaned_windows_1252.result _ _ (λ told e. e ∙ as_windows c.args.bytes.now c.in-Err.ensures.cases.0) c.cleaned_windows_1252.ensures
