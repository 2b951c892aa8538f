-- The zone's text is read, and the local time of each moment is computed.
use Rattle.std.proofs.Common.{refl}
use Rattle.jiff_tz.proofs.OnLiterals.{jiff_tz_on_literals, jiff_tz_rules_on_literals}
use Rattle.jiff_core.specs.Calendar.{weekday_number}
use Rattle.worked_rows.proofs.routing.scheme_publishes_by_night.Goals as goal

pub returns-clause-accepted : goal.returns-clause-accepted
unfolding jiff_tz_on_literals jiff_tz_rules_on_literals weekday_number
returns-clause-accepted c = refl

pub returns-clause-reply : goal.returns-clause-reply
unfolding jiff_tz_on_literals jiff_tz_rules_on_literals weekday_number
returns-clause-reply c = refl

pub returns-clause-night_state : goal.returns-clause-night_state
unfolding jiff_tz_on_literals jiff_tz_rules_on_literals weekday_number
returns-clause-night_state c = refl

pub returns-clause-night_place : goal.returns-clause-night_place
unfolding jiff_tz_on_literals jiff_tz_rules_on_literals weekday_number
returns-clause-night_place c = refl

pub returns-clause-night_feed : goal.returns-clause-night_feed
unfolding jiff_tz_on_literals jiff_tz_rules_on_literals weekday_number
returns-clause-night_feed c = refl

pub returns-clause-day_state : goal.returns-clause-day_state
unfolding jiff_tz_on_literals jiff_tz_rules_on_literals weekday_number
returns-clause-day_state c = refl

pub returns-clause-day_place : goal.returns-clause-day_place
unfolding jiff_tz_on_literals jiff_tz_rules_on_literals weekday_number
returns-clause-day_place c = refl

pub returns-clause-day_feed : goal.returns-clause-day_feed
unfolding jiff_tz_on_literals jiff_tz_rules_on_literals weekday_number
returns-clause-day_feed c = refl
