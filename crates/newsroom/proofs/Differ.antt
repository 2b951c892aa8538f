-- Names in byte order differ.
use Rattle.std.proofs.Common.{List, [], ◌∷◌}
use Rattle.std.specs.List.Sorted.{IsStrictlySortedBy}
use Rattle.news_types.specs.Names.{Bytes, AreInOrder}
use Rattle.publish_queue.specs.Order.{Differ}
use Rattle.publish_queue.proofs.Ascending.{none_behind}
use Rattle.publish_queue.proofs.ByName.{names_order}

pub ordered_differ : (ns : List Bytes) → AreInOrder ns → Differ ns
unfolding IsStrictlySortedBy
ordered_differ [] order = tt
ordered_differ (n ∷ ns) order = (none_behind names_order n ns order.0, ordered_differ ns order.1)
