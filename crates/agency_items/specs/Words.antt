-- The words and the number of an item that stand for its kind, its status and its urgency.
use Rattle.std.specs.Prelude.{ℕ, Bool, ◌&&◌, ◌||◌, ◌-◌, nat_le, pos, Float, if◌then◌else◌, List, [], ◌∷◌, codes, Option, Some, None, option_and_then, option_map, Result, Ok, Err}
use Rattle.std.specs.Float.{binary64, float_to_unsigned}
use Rattle.std.specs.Float.Ieee.{of_int, eq}
use Rattle.std.specs.Int.{w8}
use Rattle.serde_json.specs.Data.{Data}
use Rattle.serde_json.specs.Find.{as_number, as_u64, as_str, to_float}
use Rattle.news_types.specs.declared.words.Media.{Media}
use Rattle.news_types.specs.declared.words.Media.TheVariants as media
use Rattle.news_types.specs.declared.words.PubStatus.{PubStatus}
use Rattle.news_types.specs.declared.words.PubStatus.TheVariants as status_is
use Rattle.news_types.specs.Names.{Bytes, same}
use Rattle.news_types.specs.Conditions.{media_word}
use Rattle.agency_items.specs.declared.fault.Property.TheVariants as property_is
use Rattle.agency_items.specs.declared.fault.ItemFault.{ItemFault}
use Rattle.agency_items.specs.declared.fault.ItemFault.TheVariants.{WrongType, WrongKind}
use Rattle.agency_items.specs.Names.{property}
use Rattle.agency_items.specs.Texts.{same_word, behind_colon}

-- ---- the kind

-- The six words for a medium, in lower case. Every other word, as `planning`, `event` and `component`, and the empty text are a
-- fault, so that nothing goes out as a story that is none.
abbrev pub kind_by : Bytes → Result Media ItemFault
kind_by word =
    if same word (media_word media.Text) then Ok media.Text
    else (if same word (media_word media.Audio) then Ok media.Audio
    else (if same word (media_word media.Video) then Ok media.Video
    else (if same word (media_word media.Picture) then Ok media.Picture
    else (if same word (media_word media.Graphic) then Ok media.Graphic
    else (if same word (media_word media.Composite) then Ok media.Composite
    else Err WrongKind)))))

abbrev pub kind_in : Option Bytes → Result Media ItemFault
kind_in None = Err (WrongType property_is.MediaType)
kind_in (Some word) = kind_by word

abbrev pub kind_of : Option Data → Result Media ItemFault
kind_of None = Ok media.Text
kind_of (Some d) = kind_in (as_str d)

-- a text where it is missing
abbrev pub kind : Data → Result Media ItemFault
kind d = kind_of (property property_is.MediaType d)

-- ---- the status

abbrev pub is_canceled : Bytes → Bool
is_canceled word =
    same_word word (codes "canceled") || same_word word (codes "cancelled") || same_word word (codes "killed") || same_word word (codes "recalled")

-- Usable and four words for canceled, whatever the case of their letters. A word that is not known withholds the item, so that
-- nothing sends it on before a person has seen it.
abbrev pub status_by : Bytes → PubStatus
status_by word =
    if same_word word (codes "usable") then status_is.Usable
    else (if is_canceled word then status_is.Canceled else status_is.Withheld)

abbrev pub status_in : Option Bytes → Result PubStatus ItemFault
status_in None = Err (WrongType property_is.PubStatus)
status_in (Some bytes) = Ok (status_by (behind_colon bytes))

abbrev pub status_of : Option Data → Result PubStatus ItemFault
status_of None = Ok status_is.Usable
status_of (Some d) = status_in (as_str d)

-- usable where it is missing
abbrev pub status : Data → Result PubStatus ItemFault
status d = status_of (property property_is.PubStatus d)

-- ---- the urgency

-- at most 9, else none
abbrev pub digit_level : ℕ → ℕ
digit_level n = if nat_le n 9 then n else 0

-- the whole part of a number with a point, where nothing stands behind the point and it is at most 9
abbrev pub float_level : Float → ℕ
float_level x =
    if nat_le (float_to_unsigned w8 x) 9 && eq (of_int binary64 (pos (float_to_unsigned w8 x))) x
    then float_to_unsigned w8 x
    else 0

-- a text of one digit
abbrev pub text_level : List ℕ → ℕ
text_level (b ∷ []) = if nat_le 48 b && nat_le b 57 then b - 48 else 0
text_level _ = 0

abbrev pub level_by : Option ℕ → Option Float → Option Bytes → ℕ
level_by (Some n) float text = digit_level n
level_by None (Some x) text = float_level x
level_by None None (Some text) = text_level text
level_by None None None = 0

abbrev pub level : Data → ℕ
level d = level_by (option_and_then as_u64 (as_number d)) (option_map to_float (as_number d)) (as_str d)

abbrev pub level_of : Option Data → ℕ
level_of None = 0
level_of (Some d) = level d

-- 0 to 9 from a whole number, a number with a point or a text, and 0 from everything else
abbrev pub urgency : Data → ℕ
urgency d = level_of (property property_is.Urgency d)
