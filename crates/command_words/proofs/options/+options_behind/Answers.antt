use Rattle.std.proofs.Common.{◌≡◌, ◌∙◌, codes}
use Rattle.command_words.proofs.Choices.{no_more}
use Rattle.command_words.proofs.options.+options_behind.Goals as goal

pub returns-in_default-as_str : goal.returns-in_default-as_str
returns-in_default-as_str t c =
    let is = c.as_str.ensures in
    no_more c.args.found c.args.words.now c.word-item.result c.in-len1-up.len_at_least c.word-item.is
    (λ (same : c.word-item.result ≡ codes "--wait"). c.in_default-as_str.not-text (is ∙ same))
    (λ (same : c.word-item.result ≡ codes "--beside"). c.in_default-as_str.not-text-2 (is ∙ same))
    (λ (same : c.word-item.result ≡ codes "--key"). c.in_default-as_str.not-text-3 (is ∙ same))
    (λ (same : c.word-item.result ≡ codes "--every"). c.in_default-as_str.not-text-4 (is ∙ same))
