-- A told object, seen as its members.
use Rattle.serde_json.specs.Data.{Members}
use Rattle.serde_json.specs.View.{members_view}
use Rattle.told_objects.specs.declared.object.Object.{Object}

abbrev pub seen : Object → Members
seen told = members_view told.members.entries
