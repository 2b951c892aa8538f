use Rattle.std.proofs.Common.{◌≡◌, ◌∙◌, ◌≤◌, ◌<◌, ◌+◌, length, [], true, false, List, ap, sym, arith}
use Rattle.news_types.specs.Names.{Bytes}
use Rattle.entry_segments.specs.Packing.{names_size}
use Rattle.entry_segments.proofs.NameOrder.{searchable}
use Rattle.entry_segments.proofs.Fronts.{admits_same, admits_none, admits_more}
use Rattle.entry_segments.proofs.names.admit_name.Goals as goal

pub returns-in-Ok : goal.returns-in-Ok
returns-in-Ok c =
    let items = c.args.names.now.items in
    let at = c.in-Ok.field-0 in
    let ok = rw c.deref.ensures.value at c.in-Ok.ensures.ok in
    let within : at < length items = rw c.deref.ensures.value at c.in-Ok.ensures.bound in
    let room = rw c.as_slice.ensures.value at c.room_for.ensures in
    admits_same c.args.size c.args.name.now items at c.room_for.result c.requires.up within (ok []) room

pub returns-then-not-has_room : goal.returns-then-not-has_room
returns-then-not-has_room c =
    let items = c.args.names.now.items in
    let point = (rw c.deref.ensures.value at c.in-Err.ensures.position) (searchable items c.args.name.now c.requires.up) in
    let within : c.in-Err.at ≤ length items = rw c.deref.ensures.value at c.in-Err.ensures.bound in
    let count : length items + 1 ≡ c.len.result + 1 = omega (arith, c.len.ensures, c.deref.ensures.len, ap length c.deref.ensures.value) in
    let room = λ (names : List Bytes) (named : c.args.named + 1 + c.name_len.result ≡ names_size names) (long : length items + 1 ≡ length names). c.has_room.ensures names named (sym count ∙ long) in
    let answer : c.has_room.result ≡ false = cc in
    admits_none c.args.size c.args.named c.args.name.now items c.in-Err.at c.name_len.result within point.0 point.1 c.requires.named c.name_len.ensures.len c.has_room.result room answer

pub returns-in_ok-insert-in-Err : goal.returns-in_ok-insert-in-Err
returns-in_ok-insert-in-Err c =
    let items = c.args.names.now.items in
    let point = (rw c.deref.ensures.value at c.in-Err.ensures.position) (searchable items c.args.name.now c.requires.up) in
    let within : c.in-Err.at ≤ length items = rw c.deref.ensures.value at c.in-Err.ensures.bound in
    let count : length items + 1 ≡ c.len.result + 1 = omega (arith, c.len.ensures, c.deref.ensures.len, ap length c.deref.ensures.value) in
    let room = λ (names : List Bytes) (named : c.args.named + 1 + c.name_len.result ≡ names_size names) (long : length items + 1 ≡ length names). c.has_room.ensures names named (sym count ∙ long) in
    let answer : c.has_room.result ≡ true = cc in
    admits_more c.args.size c.args.named c.args.name.now items c.in-Err.at c.name_len.result within point.0 point.1 c.requires.named c.name_len.ensures.len c.has_room.result c.insert.new.self.items room answer c.in_ok-insert-in-Err.ensures.items
