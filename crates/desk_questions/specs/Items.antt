-- What is told of the items that a desk asks for.
use Rattle.std.specs.Prelude.{ℕ, Bool, true, codes, if◌then◌else◌, Option, Some, None}
use Rattle.serde_json.specs.Data.{Items, Members, no_members, put, array}
use Rattle.news_types.specs.declared.words.State.{State}
use Rattle.news_types.specs.declared.rules.Place.{Place}
use Rattle.news_types.specs.declared.query.Holder.{Holder}
use Rattle.news_types.specs.Names.{Bytes}
use Rattle.news_types.specs.History.{History, moment}
use Rattle.news_types.specs.Items.{Item}
use Rattle.news_types.specs.Publications.{item, state}
use Rattle.desk_answers.specs.Words.{state_word}
use Rattle.told_objects.specs.Members.{◌with◌, text, number, list, answering, written}
use Rattle.desk_views.specs.declared.wire.Wire.{Wire}
use Rattle.desk_views.specs.Items.{Wanted, is_wanted_item, items_below}
use Rattle.desk_views.specs.Wires.{last_wire}
use Rattle.desk_questions.specs.declared.line.ItemLine.{ItemLine}
use Rattle.desk_questions.specs.declared.items.Wanted as code
use Rattle.desk_questions.specs.Words.{status_word}

-- what is asked for, as the definitions have it
abbrev pub wanted_of : code.Wanted → Wanted
wanted_of w = record { desk = w.desk; state = w.state; user = w.user }

-- what is named is there, or nothing is named
abbrev pub is_there_if_given : (Bytes → Bool) → Option Bytes → Bool
is_there_if_given is_there None = true
is_there_if_given is_there (Some name) = is_there name

-- ---- what is told of an item

-- in this state, at this place, with this holder and this of its provider
abbrev pub line_given : ℕ → State → Option Place → Option Holder → Option Wire → Item → ItemLine
line_given i now place holder wire it = record {
  item = i;
  state = now;
  version = it.version;
  headline = it.story.headline;
  slugline = it.story.slugline;
  urgency = it.story.urgency;
  place = place;
  holder = holder;
  wire = wire;
}

abbrev pub line_by : ℕ → Option Wire → Option Item → Option State → Option ItemLine
line_by i wire (Some it) (Some now) = Some (line_given i now it.place it.holder wire it)
line_by i wire it now = None

-- item i as it is at the moment of the list, if it is there
abbrev pub line_at : History → ℕ → Option ItemLine
line_at h i = line_by i (last_wire h i) (item h i) (state h i (moment h))

abbrev pub wanted_by : Wanted → ℕ → Option Wire → Option Item → Option State → Option ItemLine
wanted_by w i wire it now = if is_wanted_item w it now then line_by i wire it now else None

-- item i, if it is asked for
abbrev pub line_wanted : History → Wanted → ℕ → Option ItemLine
line_wanted h w i = wanted_by w i (last_wire h i) (item h i) (state h i (moment h))

-- ---- as an object, with keys in byte order

-- where it stands, if it stands on a desk
unfoldable pub placed : Option Place → Members → Members
placed None members = members
placed (Some place) members = members with text "desk" place.desk with text "stage" place.stage

-- who holds it, if somebody does
unfoldable pub held : Option Holder → Members → Members
held None members = members
held (Some holder) members = members with text "session" holder.session with text "user" holder.user

-- what its provider last sent with it, if a provider sent it
unfoldable pub wired : Option Wire → Members → Members
wired None members = members
wired (Some wire) members = members with number "embargo" wire.embargo with text "status" (status_word wire.status)

-- an item, without its place, its holder and its provider's
unfoldable pub texts : ItemLine → Members
texts line =
    no_members with text "headline" line.headline with number "item" line.item with text "slugline" line.slugline
    with text "state" (state_word line.state) with number "urgency" line.urgency with number "version" line.version

abbrev pub line_members : ItemLine → Members
line_members line = texts line with placed line.place with held line.holder with wired line.wire

-- one that is not there has no members
abbrev pub members_of : Option ItemLine → Members
members_of None = no_members
members_of (Some line) = line_members line

-- item i, as it is at the moment of the list
abbrev pub item_row : History → ℕ → Members
item_row h i = members_of (line_at h i)

-- the answer with these rows
abbrev pub rows_bytes : Items → Bytes
rows_bytes rows = written (put (codes "rows") (array rows) (answering "items"))

-- the newest hundred of the items below a number that are asked for
abbrev pub items_bytes : History → Wanted → ℕ → Bytes
items_bytes h w below = written (answering "items" with list "rows" (item_row h) (items_below h w below))
