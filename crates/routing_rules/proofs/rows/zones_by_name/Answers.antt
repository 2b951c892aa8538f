-- The zones' texts are read, and their clocks computed.
use Rattle.std.proofs.Common.{refl}
use Rattle.jiff_tz.proofs.OnLiterals.{jiff_tz_on_literals, jiff_tz_rules_on_literals}
use Rattle.jiff_core.specs.Calendar.{weekday_number}
use Rattle.routing_rules.proofs.rows.zones_by_name.Goals as goal

pub returns-clause-none : goal.returns-clause-none
unfolding jiff_tz_on_literals jiff_tz_rules_on_literals weekday_number
returns-clause-none c = refl

pub returns-clause-two : goal.returns-clause-two
unfolding jiff_tz_on_literals jiff_tz_rules_on_literals weekday_number
returns-clause-two c = refl

pub returns-clause-three : goal.returns-clause-three
unfolding jiff_tz_on_literals jiff_tz_rules_on_literals weekday_number
returns-clause-three c = refl

pub returns-clause-fifteen : goal.returns-clause-fifteen
unfolding jiff_tz_on_literals jiff_tz_rules_on_literals weekday_number
returns-clause-fifteen c = refl

pub returns-clause-sixteen : goal.returns-clause-sixteen
unfolding jiff_tz_on_literals jiff_tz_rules_on_literals weekday_number
returns-clause-sixteen c = refl

pub returns-clause-without_offset : goal.returns-clause-without_offset
unfolding jiff_tz_on_literals jiff_tz_rules_on_literals weekday_number
returns-clause-without_offset c = refl
