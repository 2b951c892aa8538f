-- To whom a publication is due, where this is computed from names.
use Rattle.std.proofs.Common.{◌≡◌, ℕ, cond, List, map, Some, None, sym, ap, ◌∙◌}
use Rattle.news_types.specs.declared.words.Kind.{Kind}
use Rattle.news_types.specs.declared.query.Due.{Due}
use Rattle.news_types.specs.declared.story.Story.{Story}
use Rattle.news_types.specs.Names.{Bytes, is_in}
use Rattle.news_types.specs.History.{History}
use Rattle.news_types.specs.Due.{Pub, release_to, release_for, due_names, due_at, due_list}
use Rattle.news_types.proofs.Dues.{listed_due}

pub due_to_each : (h : History) (ps : List Pub) (kind : Kind) (i : ℕ) (story : Story) (release : ℕ) (targets names : List Bytes) (due : List Due) → due ≡ map (due_at h ps kind i release) names
    → ((s : Bytes) → is_in s names ≡ is_in s (due_names h ps kind i story release targets)) → (s : Bytes) → release_to s due ≡ release_to s (due_list h ps kind i story release targets)
due_to_each h ps kind i story release targets names due are each s =
    let f : Bytes → ℕ = release_for h ps kind i release in
    ap (release_to s) are
    ∙ listed_due f s names
    ∙ ap (λ b. cond b (Some (f s)) None) (each s)
    ∙ sym (listed_due f s (due_names h ps kind i story release targets))
