use Rattle.subscriber_import.proofs.Imports.{added_is_imported, second_adds_nothing}
use Rattle.subscriber_import.proofs.Records.{rows_are_records}
use Rattle.subscriber_import.proofs.laws.import_law.Goals as goal

pub returns-clause-rows : goal.returns-clause-rows
returns-clause-rows c = rows_are_records

pub returns-clause-added : goal.returns-clause-added
returns-clause-added c = added_is_imported

pub returns-clause-again : goal.returns-clause-again
returns-clause-again c = second_adds_nothing
