use Rattle.std.specs.Prelude.{◌≡◌, ◌↔◌, Bool, true, false, map, IsTrue}
use Rattle.std.proofs.Common.{refl, sym, ap, ◌∙◌}
use Rattle.std.specs.Char.{to_ascii_lowercase}
use Rattle.std.specs.Str.{bytes_eq}
use Rattle.std.specs.Bool.{Decides}
use Rattle.std.proofs.lemmas.Slice.Eq.{bytes_eq-Decides}
use Rattle.http_wire.proofs.fields.is_named.Goals as goal

same_test : {P : Type 0} (r s : Bool) → (IsTrue r ↔ P) → Decides s P → r ≡ s
same_test true true h d = refl
same_test false false h d = refl
same_test true false h d = sym (d.1 (h.0 refl))
same_test false true h d = h.1 (d.0 refl)

pub returns : goal.returns
returns c =
    same_test c.eq_ignore_ascii_case.result _ c.eq_ignore_ascii_case.ensures.test (bytes_eq-Decides _ _)
    ∙ ap (λ bytes. bytes_eq (map to_ascii_lowercase bytes) (map to_ascii_lowercase c.args.name.now)) c.of.ensures
