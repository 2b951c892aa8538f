-- What a wire gives lies within the limits.
use Rattle.news_types.specs.Fits.{FitsIncoming}
use Rattle.text7901.specs.declared.found.Found.{Found}
use Rattle.text7901.specs.declared.found.Found.TheVariants as found

abbrev pub FitsFound : Found → Type 0
FitsFound (found.Story told) = FitsIncoming told
FitsFound (found.Fault at what) = Unit {0}
