-- Lists in which a caller's numbers are used.
use Rattle.std.specs.Prelude.{[], ◌∷◌}
use Rattle.news_types.specs.declared.command.Command.TheVariants.{AddUser, SetUser, Stop}
use Rattle.news_types.specs.History.{History}
use Rattle.news_types.specs.Outcome.{request}
use Rattle.news_types.specs.Calls.{more}
use Rattle.worked_rows.specs.Examples.{ana, asked, behind_all}

-- ana, who has every privilege, has six accepted requests
abbrev pub six_of_ana : History
six_of_ana = behind_all ana 1000 (Stop ∷ Stop ∷ Stop ∷ Stop ∷ Stop ∷ Stop ∷ []) (asked 1000 (AddUser ana (record { bits = 1023 }) ∷ []) [])

-- and the seventh
abbrev pub seven_of_ana : History
seven_of_ana = behind_all ana 1000 (Stop ∷ []) six_of_ana

-- and the same once more, which leaves the list as it is
abbrev pub sent_again : History
sent_again = more ((request seven_of_ana ana 7 Stop 1000).more) seven_of_ana

-- ana loses every privilege
abbrev pub without_privileges : History
without_privileges = asked 1000 (SetUser ana (record { bits = 0 }) ∷ []) seven_of_ana
