use Rattle.std.proofs.Common.{◌∙◌, ap}
use Rattle.command_words.specs.Words.{long_job, wide_job}
use Rattle.command_words.proofs.Identifiers.{by_one, by_two}
use Rattle.command_words.proofs.words.job_by.Goals as goal

pub returns-in-len1 : goal.returns-in-len1
returns-in-len1 c =
    c.long_job.ensures ∙ ap (long_job c.args.verb.now) c.as_str.ensures
    ∙ by_one c.args.verb.now c.args.words.now c.in-len1.len_at_least c.in-len1.len_below c.word-item.result c.word-item.is

pub returns-in-len2 : goal.returns-in-len2
returns-in-len2 c =
    c.wide_job.ensures ∙ ap (λ f. wide_job c.args.verb.now f c.second-item.result) c.as_str-in-len2.ensures
    ∙ by_two c.args.verb.now c.args.words.now c.in-len2.len_at_least c.in-len2.len_below c.first-item.result c.second-item.result c.first-item.is c.second-item.is
