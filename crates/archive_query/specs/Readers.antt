-- What the reader's own values stand for, and what its calls say.
use Rattle.std.specs.Prelude.{◌≡◌, List, [], ◌∷◌, map, reverse, Bool, true, false, Result, Ok, Err}
use Rattle.archive_query.specs.declared.ask.Ask.{Ask}
use Rattle.archive_query.specs.declared.reader.Chain.{Chain}
use Rattle.archive_query.specs.declared.reader.Level.{Level}
use Rattle.archive_query.specs.declared.reader.Level.TheVariants as level
use Rattle.archive_query.specs.declared.reader.Next.{Next}
use Rattle.archive_query.specs.declared.reader.Next.TheVariants as next
use Rattle.archive_query.specs.declared.reader.Reader.{Reader}
use Rattle.archive_query.specs.declared.reader.Stop.{Stop}
use Rattle.archive_query.specs.declared.reader.Stop.TheVariants as stop
use Rattle.archive_query.specs.Query.{Query}
use Rattle.archive_query.specs.View.{query_of, queries_of}
use Rattle.archive_query.specs.Reading.{Waits, Opened, Negation, Group, Wants, AUnit, ATextOperator, AText, ANumberOperator, ANumber, AnActOperator, AnAct, AJoint, State, Refusal, Misplaced, TooDeep, Refused}

abbrev pub waits_of : Chain → Waits
waits_of chain = record { any = queries_of chain.any.items; all = queries_of chain.all.items }

abbrev pub level_of : Level → Opened
level_of level.Negation = Negation
level_of (level.Group chain) = Group (waits_of chain)

-- the innermost first
abbrev pub levels_of : List Level → List Opened
levels_of levels = reverse (map level_of levels)

abbrev pub wants_of : Next → Wants
wants_of next.Unit = AUnit
wants_of (next.TextOperator f) = ATextOperator f
wants_of (next.Text f o) = AText f o
wants_of (next.NumberOperator f) = ANumberOperator f
wants_of (next.Number f o) = ANumber f o
wants_of next.ActOperator = AnActOperator
wants_of next.Act = AnAct
wants_of (next.Joint ask) = AJoint (query_of ask)

abbrev pub state_of : Reader → State
state_of reader = record { levels = levels_of reader.levels.items; waits = waits_of reader.chain; wants = wants_of reader.next }

-- the state that is said, or why the token is refused, or want of memory
abbrev pub Steps : Result (Unit {0}) Stop → State → Result State Refusal → Type 0
Steps (Ok u) new said = said ≡ Ok new
Steps (Err stop.Misplaced) new said = said ≡ Err Misplaced
Steps (Err stop.TooDeep) new said = said ≡ Err TooDeep
Steps (Err stop.Memory) new said = Unit {0}

-- the innermost level is a negation, and is taken off; or it is none
abbrev pub TakesNegation : List Opened → List Opened → Bool → Type 0
TakesNegation old new true = old ≡ Negation ∷ new
TakesNegation old new false = (new ≡ old) × ((levels : List Opened) → old ≡ Negation ∷ levels → ⊥)

-- the query that is said, or that the tokens end too soon, or want of memory
abbrev pub Ends : Result Ask Stop → Result Query Refused → Type 0
Ends (Ok ask) said = said ≡ Ok (query_of ask)
Ends (Err stop.Misplaced) said = said ≡ Err (record { why = Misplaced; rest = [] })
Ends (Err stop.TooDeep) said = ⊥
Ends (Err stop.Memory) said = Unit {0}
