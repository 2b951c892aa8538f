-- What reading the tokens of a text says. For private clauses.
use Rattle.std.specs.Prelude.{◌≡◌, ℕ, ◌+◌, List, length, Result, Ok, Err}
use Rattle.news_types.specs.Names.{Bytes}
use Rattle.archive_query.specs.declared.ask.Ask.{Ask}
use Rattle.archive_query.specs.declared.reader.Stop.{Stop}
use Rattle.archive_query.specs.declared.reader.Stop.TheVariants as stop
use Rattle.archive_query.specs.declared.parsing.QueryFault.{QueryFault}
use Rattle.archive_query.specs.declared.parsing.QueryFault.TheVariants as fault
use Rattle.archive_query.specs.Query.{Query}
use Rattle.archive_query.specs.Tokens.{tokens, joined}
use Rattle.archive_query.specs.View.{query_of}
use Rattle.archive_query.specs.Reading.{Refusal, Misplaced, TooDeep, Refused, run, start}

abbrev pub read_text : Bytes → Result Query Refused
read_text text = run 32 start (tokens text)

abbrev pub fault_of : Stop → ℕ → QueryFault
fault_of stop.Misplaced at = fault.At at
fault_of stop.TooDeep at = fault.TooDeep at
fault_of stop.Memory at = fault.Memory

-- the tokens are refused for this reason, from this place on
abbrev pub RefusesAt : Bytes → Refusal → ℕ → Result Query Refused → Type 0
RefusesAt text why at said = (rest : List Bytes) × (said ≡ Err (record { why = why; rest = rest })) × (at + length (joined rest) ≡ length text)

-- the query that is said, or why and where the tokens are refused, or want of memory
abbrev pub IsReadAs : Bytes → Result Ask QueryFault → Result Query Refused → Type 0
IsReadAs text (Ok ask) said = said ≡ Ok (query_of ask)
IsReadAs text (Err (fault.At at)) said = RefusesAt text Misplaced at said
IsReadAs text (Err (fault.TooDeep at)) said = RefusesAt text TooDeep at said
IsReadAs text (Err (fault.TooLong n)) said = ⊥
IsReadAs text (Err fault.Memory) said = Unit {0}
