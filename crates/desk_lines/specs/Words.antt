-- The words of commands and questions.
use Rattle.std.specs.Prelude.{ℕ, List, [], ◌∷◌}
use Rattle.news_types.specs.declared.words.Media.{Media}
use Rattle.news_types.specs.declared.words.Media.TheVariants as media
use Rattle.news_types.specs.declared.words.State.{State}
use Rattle.news_types.specs.declared.words.State.TheVariants as state
use Rattle.news_types.specs.declared.words.Format.{Format}
use Rattle.news_types.specs.declared.words.Format.TheVariants as format
use Rattle.news_types.specs.declared.words.How.{How}
use Rattle.news_types.specs.declared.words.How.TheVariants as how
use Rattle.news_types.specs.declared.words.Field.{Field}
use Rattle.news_types.specs.declared.words.Field.TheVariants as field
use Rattle.news_types.specs.declared.words.Op.{Op}
use Rattle.news_types.specs.declared.words.Op.TheVariants as op
use Rattle.news_types.specs.Names.{Bytes}
use Rattle.desk_views.specs.declared.question.Register.{Register}
use Rattle.desk_views.specs.declared.question.Register.TheVariants as register
use Rattle.desk_lines.specs.Forms.{◌means◌}

-- what a story is
abbrev pub media_words : List (Bytes × Media)
media_words =
    ("text" means media.Text) ∷ ("audio" means media.Audio) ∷ ("video" means media.Video) ∷
    ("picture" means media.Picture) ∷ ("graphic" means media.Graphic) ∷ ("composite" means media.Composite) ∷ []

-- where an item is on its way
abbrev pub state_words : List (Bytes × State)
state_words =
    ("draft" means state.Draft) ∷ ("ingested" means state.Ingested) ∷ ("routed" means state.Routed) ∷
    ("fetched" means state.Fetched) ∷ ("submitted" means state.Submitted) ∷ ("in_progress" means state.InProgress) ∷
    ("spiked" means state.Spiked) ∷ ("scheduled" means state.Scheduled) ∷ ("published" means state.Published) ∷
    ("corrected" means state.Corrected) ∷ ("killed" means state.Killed) ∷ ("recalled" means state.Recalled) ∷ []

-- the kinds of things that have names
abbrev pub register_words : List (Bytes × Register)
register_words =
    ("users" means register.Users) ∷ ("desks" means register.Desks) ∷ ("conditions" means register.Conditions) ∷
    ("filters" means register.Filters) ∷ ("products" means register.Products) ∷ ("subscribers" means register.Subscribers) ∷
    ("schemes" means register.Schemes) ∷ ("providers" means register.Providers) ∷ []

-- the form of a subscriber's feed
abbrev pub format_words : List (Bytes × Format)
format_words = ("ninjs" means format.Ninjs) ∷ ("7901" means format.Text7901) ∷ []

abbrev pub how_words : List (Bytes × How)
how_words = ("permitting" means how.Permitting) ∷ ("blocking" means how.Blocking) ∷ []

-- what a condition reads
abbrev pub field_words : List (Bytes × Field)
field_words =
    ("slugline" means field.Slugline) ∷ ("headline" means field.Headline) ∷ ("byline" means field.Byline) ∷
    ("language" means field.Language) ∷ ("category" means field.Category) ∷ ("body" means field.Body) ∷
    ("urgency" means field.Urgency) ∷ ("kind" means field.Kind) ∷ []

-- how it compares
abbrev pub op_words : List (Bytes × Op)
op_words =
    ("eq" means op.Eq) ∷ ("ne" means op.Ne) ∷ ("in" means op.Within) ∷ ("nin" means op.Nin) ∷
    ("like" means op.Like) ∷ ("notlike" means op.NotLike) ∷ ("startswith" means op.StartsWith) ∷ ("endswith" means op.EndsWith) ∷
    ("lt" means op.Lt) ∷ ("lte" means op.Lte) ∷ ("gt" means op.Gt) ∷ ("gte" means op.Gte) ∷ []

-- what a user may do, each with its bit
abbrev pub privilege_bits : List (Bytes × ℕ)
privilege_bits =
    ("users" means 1) ∷ ("desks" means 2) ∷ ("filters" means 4) ∷ ("subscribers" means 8) ∷ ("ingest" means 16) ∷
    ("write" means 32) ∷ ("publish" means 64) ∷ ("kill" means 128) ∷ ("unlock" means 256) ∷ ("stop" means 512) ∷ []

-- Monday to Sunday, each with its bit
abbrev pub day_bits : List (Bytes × ℕ)
day_bits =
    ("mon" means 1) ∷ ("tue" means 2) ∷ ("wed" means 4) ∷ ("thu" means 8) ∷ ("fri" means 16) ∷ ("sat" means 32) ∷ ("sun" means 64) ∷ []
