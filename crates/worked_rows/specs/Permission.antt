-- Lists with conditions on text, which is compared without its case.
use Rattle.std.specs.Prelude.{[], ◌∷◌, codes, None, List}
use Rattle.news_types.specs.declared.command.Command.{Command}
use Rattle.news_types.specs.declared.command.Command.TheVariants.{AddCondition, AddProduct, AddSubscriber, Flash}
use Rattle.news_types.specs.declared.words.Format.TheVariants.{Ninjs}
use Rattle.news_types.specs.declared.words.How.TheVariants.{Blocking}
use Rattle.news_types.specs.declared.words.Field.TheVariants.{Headline}
use Rattle.news_types.specs.declared.words.Op.TheVariants.{Like, StartsWith}
use Rattle.news_types.specs.declared.story.Story.{Story}
use Rattle.news_types.specs.Names.{Bytes}
use Rattle.news_types.specs.History.{History}
use Rattle.worked_rows.specs.Examples.{alpha, fire, story, asked}

abbrev pub like_fire : Bytes
like_fire = codes "like-fire"

abbrev pub starts_strasse : Bytes
starts_strasse = codes "starts-strasse"

abbrev headline_conditions : List Command
headline_conditions =
    AddCondition like_fire Headline Like (codes "FIRE" ∷ []) ∷
    AddCondition starts_strasse Headline StartsWith (codes "STRASSE" ∷ []) ∷ []

-- two conditions on headlines, whose values are in upper case
abbrev pub on_headlines : History
on_headlines = asked 1000 headline_conditions []

abbrev pub fire_in_strasse : Story
fire_in_strasse = story (codes "fire in Strasse") 0

-- `straße` in UTF-8
abbrev pub sharp : Story
sharp = story (115 ∷ 116 ∷ 114 ∷ 97 ∷ 195 ∷ 159 ∷ 101 ∷ []) 0

-- alpha has one product, which blocks and has no filter
abbrev pub blocking_without_filter : History
blocking_without_filter =
    asked 1000 (AddProduct (codes "p1") Blocking None ∷ AddSubscriber alpha Ninjs (codes "p1" ∷ []) 0 ∷ Flash (fire 3) [] ∷ []) []
