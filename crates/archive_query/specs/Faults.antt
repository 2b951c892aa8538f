-- Why a text is no query.
use Rattle.std.specs.Prelude.{◌≡◌, ◌<◌, length}
use Rattle.news_types.specs.Names.{Bytes}
use Rattle.archive_query.specs.declared.parsing.QueryFault.{QueryFault}
use Rattle.archive_query.specs.declared.parsing.QueryFault.TheVariants.{TooLong, At, TooDeep, Memory}
use Rattle.archive_query.specs.Grammar.{IsBadAt, IsDeepAt}

abbrev pub IsFaultOf : Bytes → QueryFault → Type 0
IsFaultOf text (TooLong n) = (n ≡ length text) × (65536 < length text)
IsFaultOf text (At at) = IsBadAt text at
IsFaultOf text (TooDeep at) = IsDeepAt text at
IsFaultOf text Memory = Unit {0}
