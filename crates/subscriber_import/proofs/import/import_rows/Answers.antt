use Rattle.std.proofs.Common.{◌≡◌, ◌<◌, ℕ, ◌+◌, ◌∙◌, List, [], ◌∷◌, ◌++◌, Some, take, drop, length, map, sym, subst, append_assoc, arith}
use Rattle.std.proofs.lemmas.List.{take_all}
use Rattle.csv.specs.Records.{fields_of}
use Rattle.csv.specs.declared.record.ByteRecord.{ByteRecord}
use Rattle.news_types.specs.Books.{onto}
use Rattle.subscriber_import.specs.declared.import.Imported.{Imported}
use Rattle.subscriber_import.specs.declared.line.Line.{Line}
use Rattle.subscriber_import.specs.Table.{Row}
use Rattle.subscriber_import.specs.Steps.{Imports, stopped_by}
use Rattle.subscriber_import.proofs.Importing.{Gone, none_gone, gone_next, gone_unsaid, gone_all, gone_stopped, rows_are, rows_next}
use Rattle.subscriber_import.proofs.import.import_rows.Goals as goal

pub loop-row-init : goal.loop-row-init
loop-row-init g c = (
  [],
  λ b stands. none_gone g.K.Keeper.keeper c.args.caller c.args.now c.args.room.now b c.new-lines.result.items stands c.new-lines.ensures.items,
)

pub returns-in-Err : goal.returns-in-Err
returns-in-Err g c =
    let keeper = g.K.Keeper.keeper in
    let old = c.args.room.now in
    let new = c.import_row.new.room in
    let inv = c.loop-row.invariant in
    let rows : List ByteRecord = c.args.rows.now in
    let i : ℕ = c.loop-row.row-index in
    let within : i < length rows = c.loop-row-test.true in
    let before : List Row = map fields_of (take i rows) in
    let rest : List Row = map fields_of (drop (i + 1) rows) in
    let found = c.in-Err.ensures in (
      inv.0 ++ found.0,
      λ b stands.
          let gone = inv.1 b stands in
          let next = found.1 (onto inv.0 b) gone.after.stands in
          subst (λ (r : Imported). Imports keeper old new b c.args.caller c.args.now (Some (map fields_of rows)) (inv.0 ++ found.0) r) (sym c.stopped.ensures)
          (subst (λ (rs : List Row). Imports keeper old new b c.args.caller c.args.now (Some rs) (inv.0 ++ found.0) (stopped_by c.in-Err.stop)) (rows_are fields_of rows i c.row-item.result within c.row-item.is)
          (gone_stopped keeper c.args.caller c.args.now old c.loop-row.room new b before inv.0 c.loop-row.lines.items gone (fields_of c.row-item.result) found.0 rest c.in-Err.stop next)),
    )

pub returns-in-Err-push : goal.returns-in-Err-push
returns-in-Err-push g c =
    let keeper = g.K.Keeper.keeper in
    let old = c.args.room.now in
    let new = c.import_row.new.room in
    let inv = c.loop-row.invariant in
    let rows : List ByteRecord = c.args.rows.now in
    let i : ℕ = c.loop-row.row-index in
    let within : i < length rows = c.loop-row-test.true in
    let before : List Row = map fields_of (take i rows) in
    let row : Row = fields_of c.row-item.result in
    let rest : List Row = map fields_of (drop (i + 1) rows) in
    let lines : List Line = c.loop-row.lines.items in
    let found = c.in-Ok.ensures in (
      inv.0 ++ found.0,
      λ b stands.
          let gone = inv.1 b stands in
          let next = found.1 (onto inv.0 b) gone.after.stands in
          let then = gone_next keeper c.args.caller c.args.now old c.loop-row.room new b before inv.0 lines gone row found.0 c.in-Ok.line next in
          let are : (before ++ row ∷ []) ++ rest ≡ map fields_of rows =
          append_assoc before (row ∷ []) rest ∙ rows_are fields_of rows i c.row-item.result within c.row-item.is in
          subst (λ (rs : List Row). Imports keeper old new b c.args.caller c.args.now (Some rs) (inv.0 ++ found.0) Imported.Memory) are
          (gone_unsaid keeper c.args.caller c.args.now old new b (before ++ row ∷ []) rest (inv.0 ++ found.0) (lines ++ c.in-Ok.line ∷ []) then),
    )

pub loop-row-preserved : goal.loop-row-preserved
loop-row-preserved g c =
    let keeper = g.K.Keeper.keeper in
    let old = c.args.room.now in
    let new = c.import_row.new.room in
    let inv = c.loop-row.invariant in
    let rows : List ByteRecord = c.args.rows.now in
    let i : ℕ = c.loop-row.row-index in
    let within : i < length rows = c.loop-row-test.true in
    let before : List Row = map fields_of (take i rows) in
    let row : Row = fields_of c.row-item.result in
    let lines : List Line = c.loop-row.lines.items in
    let found = c.in-Ok.ensures in (
      inv.0 ++ found.0,
      λ b stands.
          let gone = inv.1 b stands in
          let next = found.1 (onto inv.0 b) gone.after.stands in
          let then = gone_next keeper c.args.caller c.args.now old c.loop-row.room new b before inv.0 lines gone row found.0 c.in-Ok.line next in
          subst (λ (told : List Line). Gone keeper c.args.caller c.args.now old new b (map fields_of (take (i + 1) rows)) (inv.0 ++ found.0) told) (sym {A = List Line} c.in-Ok-push.ensures.items)
          (subst (λ (rs : List Row). Gone keeper c.args.caller c.args.now old new b rs (inv.0 ++ found.0) (lines ++ c.in-Ok.line ∷ [])) (sym (rows_next fields_of rows i c.row-item.result within c.row-item.is)) then),
    )

pub returns : goal.returns
returns g c =
    let keeper = g.K.Keeper.keeper in
    let old = c.args.room.now in
    let new = c.loop-row.room in
    let inv = c.loop-row.invariant in
    let rows : List ByteRecord = c.args.rows.now in
    let i : ℕ = c.loop-row.row-index in
    let all : take i rows ≡ rows = take_all i rows (omega arith) in (
      inv.0,
      λ b stands.
          subst (λ (told : List Line). Imports keeper old new b c.args.caller c.args.now (Some (map fields_of rows)) inv.0 (Imported.Done told)) (sym c.of.ensures)
          (subst (λ (rs : List ByteRecord). Imports keeper old new b c.args.caller c.args.now (Some (map fields_of rs)) inv.0 (Imported.Done c.loop-row.lines.items)) all
          (gone_all keeper c.args.caller c.args.now old new b (map fields_of (take i rows)) inv.0 c.loop-row.lines.items (inv.1 b stands))),
    )
