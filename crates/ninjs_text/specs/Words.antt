-- The words of an item.
use Rattle.std.specs.Prelude.{codes, if◌then◌else◌}
use Rattle.news_types.specs.declared.words.Media.{Media}
use Rattle.news_types.specs.declared.words.Media.TheVariants as media
use Rattle.news_types.specs.declared.words.PubStatus.{PubStatus}
use Rattle.news_types.specs.declared.words.PubStatus.TheVariants as status
use Rattle.news_types.specs.declared.words.Kind.{Kind}
use Rattle.news_types.specs.declared.words.Kind.TheVariants as kind
use Rattle.news_types.specs.Names.{Bytes, same}
use Rattle.news_types.specs.Conditions.{media_word}

-- the kind by its word; any other word is a text
abbrev pub media_of : Bytes → Media
media_of word =
    if same word (media_word media.Audio) then media.Audio
    else (if same word (media_word media.Video) then media.Video
    else (if same word (media_word media.Picture) then media.Picture
    else (if same word (media_word media.Graphic) then media.Graphic
    else (if same word (media_word media.Composite) then media.Composite
    else media.Text))))

-- the status by its word, of which withheld has two; any other word is usable
abbrev pub status_of : Bytes → PubStatus
status_of word =
    if same word (codes "withheld") then status.Withheld
    else (if same word (codes "withhelded") then status.Withheld
    else (if same word (codes "canceled") then status.Canceled
    else status.Usable))

-- what a subscriber is told of a publication's item
abbrev pub status_word : Kind → Bytes
status_word kind.First = codes "usable"
status_word kind.Correct = codes "usable"
status_word kind.Kill = codes "canceled"
status_word kind.Recall = codes "canceled"
