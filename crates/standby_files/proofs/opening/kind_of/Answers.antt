use Rattle.std.proofs.Common.{ℕ, List, subst, ◌∙◌, sym}
use Rattle.std.specs.Prelude.{IfOk}
use Rattle.standby_files.specs.Kinds.{ByHeader}
use Rattle.standby_files.proofs.HeaderKinds.{kind_empty, kind_header}
use Rattle.standby_files.proofs.opening.kind_of.Goals as goal

pub returns-in-Ok-true-clause-kind : goal.returns-in-Ok-true-clause-kind
returns-in-Ok-true-clause-kind g c told told' =
    let d = g.D.Disk.disk in
    kind_empty c.args.store.now (d.seen c.args.log.now) (d.seen c.args.side.now) ((c.in-Ok-true.ensures.empty told).0 c.in-Ok-true.field-0-test) c.empty_kind.result (c.empty_kind.ensures.kind told')

pub returns-in-Ok-false-clause-kind : goal.returns-in-Ok-false-clause-kind
returns-in-Ok-false-clause-kind g c told told' =
    let d = g.D.Disk.disk in
    let still = c.is_empty.ensures.still in
    kind_header c.args.store.now (d.seen c.args.log.now) (d.seen c.args.side.now) (λ none. absurd (cc (sym c.in-Ok-false.field-0-test ∙ (c.in-Ok-false.ensures.empty told).1 none))) c.header_kind.result
    (subst (λ (l : List ℕ). IfOk c.header_kind.result (ByHeader c.args.store.now l)) still.seen_same (c.header_kind.ensures.kind (still.told told)))
