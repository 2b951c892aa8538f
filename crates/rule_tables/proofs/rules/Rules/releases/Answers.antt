use Rattle.std.proofs.Common.{ℕ, List, [], ◌∷◌, ◌++◌, ap, ◌∙◌, arith}
use Rattle.std.proofs.lemmas.List.{map-append}
use Rattle.news_types.specs.declared.query.Due.{Due}
use Rattle.news_types.specs.Names.{Bytes}
use Rattle.news_types.specs.Due.{due_at}
use Rattle.rule_tables.specs.Releases.{subscriber_in, subscribers_in}
use Rattle.rule_tables.proofs.Releases.{take_one, map_one}
use Rattle.rule_tables.proofs.rules.Rules.releases.Goals as goal

abbrev with_one : List Due → Bytes → ℕ → List Due
with_one due s release = due ++ record { subscriber = s; release = release } ∷ []

pub loop-name-preserved : goal.loop-name-preserved
loop-name-preserved c =
    let k = c.loop-name.name-index in
    let s = c.name-item.result in (
      λ h ps i keeps latest.
          let front = c.loop-name.invariant.0 h ps i keeps latest in
          let here = c.release_for.ensures h ps i keeps latest in
          c.in_ok-push.ensures.items ∙ (λ j. with_one (front j) s (here j)) ∙ map_one (due_at h ps c.args.kind i c.args.release) c.args.names.now k s (omega arith) c.name-item.is,
      ap subscribers_in c.in_ok-push.ensures.items ∙ map-append subscriber_in _ _ ∙ ap (λ (l : List Bytes). l ++ s ∷ []) c.loop-name.invariant.1 ∙ take_one c.args.names.now k s (omega arith) c.name-item.is,
    )
