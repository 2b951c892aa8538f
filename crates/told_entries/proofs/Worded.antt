-- Each word means what it is the word of.
use Rattle.std.specs.Prelude.{◌≡◌, Some}
use Rattle.std.proofs.Common.{refl}
use Rattle.news_types.specs.Conditions.{media_word}
use Rattle.news_types.specs.declared.words.Media.{Media}
use Rattle.news_types.specs.declared.words.Media.TheVariants as media
use Rattle.news_types.specs.declared.words.Field.{Field}
use Rattle.news_types.specs.declared.words.Field.TheVariants as field
use Rattle.news_types.specs.declared.words.Op.{Op}
use Rattle.news_types.specs.declared.words.Op.TheVariants as op
use Rattle.news_types.specs.declared.words.Format.{Format}
use Rattle.news_types.specs.declared.words.Format.TheVariants as format
use Rattle.news_types.specs.declared.words.How.{How}
use Rattle.news_types.specs.declared.words.How.TheVariants as how
use Rattle.desk_lines.specs.Forms.{among}
use Rattle.desk_lines.specs.Words.{media_words, field_words, op_words, format_words, how_words}
use Rattle.told_entries.specs.Words.{field_word, op_word, format_word, how_word}

pub media_back : (x : Media) → among media_words (media_word x) ≡ Some x
media_back media.Text = refl
media_back media.Audio = refl
media_back media.Video = refl
media_back media.Picture = refl
media_back media.Graphic = refl
media_back media.Composite = refl

pub field_back : (x : Field) → among field_words (field_word x) ≡ Some x
field_back field.Slugline = refl
field_back field.Headline = refl
field_back field.Byline = refl
field_back field.Language = refl
field_back field.Category = refl
field_back field.Body = refl
field_back field.Urgency = refl
field_back field.Kind = refl

pub op_back : (x : Op) → among op_words (op_word x) ≡ Some x
op_back op.Eq = refl
op_back op.Ne = refl
op_back op.Within = refl
op_back op.Nin = refl
op_back op.Like = refl
op_back op.NotLike = refl
op_back op.StartsWith = refl
op_back op.EndsWith = refl
op_back op.Lt = refl
op_back op.Lte = refl
op_back op.Gt = refl
op_back op.Gte = refl

pub format_back : (x : Format) → among format_words (format_word x) ≡ Some x
format_back format.Ninjs = refl
format_back format.Text7901 = refl

pub how_back : (x : How) → among how_words (how_word x) ≡ Some x
how_back how.Permitting = refl
how_back how.Blocking = refl
