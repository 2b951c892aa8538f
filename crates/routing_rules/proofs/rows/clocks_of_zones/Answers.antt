-- The zones' texts are read, and their clocks computed.
use Rattle.std.proofs.Common.{refl}
use Rattle.jiff_tz.proofs.OnLiterals.{jiff_tz_on_literals, jiff_tz_rules_on_literals}
use Rattle.jiff_core.specs.Calendar.{weekday_number}
use Rattle.routing_rules.proofs.rows.clocks_of_zones.Goals as goal

pub returns-clause-thursday : goal.returns-clause-thursday
unfolding jiff_tz_on_literals jiff_tz_rules_on_literals weekday_number
returns-clause-thursday c = refl

pub returns-clause-monday : goal.returns-clause-monday
unfolding jiff_tz_on_literals jiff_tz_rules_on_literals weekday_number
returns-clause-monday c = refl

pub returns-clause-sunday : goal.returns-clause-sunday
unfolding jiff_tz_on_literals jiff_tz_rules_on_literals weekday_number
returns-clause-sunday c = refl

pub returns-clause-ahead : goal.returns-clause-ahead
unfolding jiff_tz_on_literals jiff_tz_rules_on_literals weekday_number
returns-clause-ahead c = refl

pub returns-clause-behind : goal.returns-clause-behind
unfolding jiff_tz_on_literals jiff_tz_rules_on_literals weekday_number
returns-clause-behind c = refl

pub returns-clause-day_before : goal.returns-clause-day_before
unfolding jiff_tz_on_literals jiff_tz_rules_on_literals weekday_number
returns-clause-day_before c = refl

pub returns-clause-posix_ahead : goal.returns-clause-posix_ahead
unfolding jiff_tz_on_literals jiff_tz_rules_on_literals weekday_number
returns-clause-posix_ahead c = refl

pub returns-clause-posix_behind : goal.returns-clause-posix_behind
unfolding jiff_tz_on_literals jiff_tz_rules_on_literals weekday_number
returns-clause-posix_behind c = refl
