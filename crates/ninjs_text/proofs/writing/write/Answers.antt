use Rattle.std.specs.Prelude.{ℕ, List}
use Rattle.std.proofs.Common.{◌≡◌, ◌≤◌, length, sym, ap, ◌∙◌, subst, arith, Ok, Some}
use Rattle.std.proofs.lemmas.Result.{IfOk-weaker}
use Rattle.serde_json.specs.Data.{object, depth}
use Rattle.serde_json.specs.Written.{compact_text}
use Rattle.ninjs_text.specs.Writing.{item_bytes}
use Rattle.ninjs_text.specs.Item.{ninjs}
use Rattle.ninjs_text.specs.Told.{told}
use Rattle.ninjs_text.proofs.Sizes.{item_most}
use Rattle.ninjs_text.proofs.Told.{item_flat, bytes_told, with_both}
use Rattle.ninjs_text.proofs.writing.write.Goals as goal

pub returns-clause-size : goal.returns-clause-size
returns-clause-size c fits short =
    let same : (bytes : List ℕ) → bytes ≡ compact_text (object _) → bytes ≡ item_bytes c.args.publication.now c.args.uri.now =
    λ bytes is. is ∙ ap (λ ms. compact_text (object ms)) c.in_ok-members.ensures.members in
    IfOk-weaker c.written.result _ (λ bytes. length bytes ≤ 4_194_240) (λ bytes is. subst (λ b. length b ≤ 4_194_240) (sym (same bytes is))
    (item_most c.args.publication.now c.args.uri.now fits short c.in_ok-members.ensures.version)) c.written.ensures.value

pub returns-clause-read_again : goal.returns-clause-read_again
returns-clause-read_again c fits some short =
    let is = c.in_ok-members.ensures in
    let p = c.args.publication.now in
    let named = c.args.uri.now in
    let flat = ap (λ ms. depth (object ms)) is.members ∙ item_flat p named in
    with_both c.written.result (λ bytes. length bytes ≤ 4_194_240) _ (λ bytes. ninjs bytes ≡ Ok (told p named))
    (λ bytes few json. bytes_told p named bytes fits some short is.release few (json ∙ ap (λ ms. Some (object ms)) is.members))
    (returns-clause-size c fits short) (c.written.ensures.read_again (omega (arith, flat)))
