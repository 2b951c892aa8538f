-- What a text is compared with.
use Rattle.std.specs.Prelude.{[]}
use Rattle.news_types.specs.Names.{Bytes}
use Rattle.news_types.specs.Conditions.{folded}
use Rattle.archive_query.specs.declared.words.TextOperator.{TextOperator}
use Rattle.archive_query.specs.declared.words.TextOperator.TheVariants.{Is, Has, Starts}

-- the value without its case, where the operator compares so
abbrev pub folded_value : TextOperator → Bytes → Bytes
folded_value Is value = []
folded_value Has value = folded value
folded_value Starts value = folded value
