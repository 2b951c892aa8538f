-- What was read of a record, as the definitions have it.
use Rattle.std.specs.Prelude.{◌≤◌, length}
use Rattle.news_types.specs.Fits.{FitsLag}
use Rattle.subscriber_import.specs.Fields.{Wanted}
use Rattle.subscriber_import.specs.declared.wanted.Wanted.{Wanted as Read}

abbrev pub seen : Read → Wanted
seen w = record { subscriber = w.subscriber; format = w.format; products = w.products; lag = w.lag }

-- within the limits on a command that adds it
pub record FitsWanted (w : Read) : Type 0 where
  pub products : length w.products ≤ 64
  pub lag : FitsLag w.lag
