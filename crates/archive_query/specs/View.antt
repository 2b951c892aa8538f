-- What the program's own values stand for.
use Rattle.std.specs.Prelude.{List, map}
use Rattle.archive_query.specs.declared.test.Test as code
use Rattle.archive_query.specs.declared.test.Test.TheVariants as test
use Rattle.archive_query.specs.declared.ask.Ask.{Ask}
use Rattle.archive_query.specs.declared.ask.Ask.TheVariants as ask
use Rattle.archive_query.specs.Query.{Test, Text, Number, Act, Query, Tested, Not, And, Or}

abbrev pub test_of : code.Test → Test
test_of (test.Text t) = Text t.field t.operator t.value
test_of (test.Number f o value) = Number f o value
test_of (test.Act kind) = Act kind

-- the query that the program's own value is
abbrev pub query_of : Ask → Query
query_of (ask.Test t) = Tested (test_of t)
query_of (ask.Not' p q) = Not (query_of q)
query_of (ask.And' p q o r) = And (query_of q) (query_of r)
query_of (ask.Or' p q o r) = Or (query_of q) (query_of r)

abbrev pub queries_of : List Ask → List Query
queries_of asks = map query_of asks
