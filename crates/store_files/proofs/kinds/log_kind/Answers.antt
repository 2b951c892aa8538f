use Rattle.std.proofs.Common.{List, ℕ, subst}
use Rattle.std.specs.Prelude.{IfOk}
use Rattle.store_files.specs.Kinds.{IsKind}
use Rattle.store_files.proofs.Headers.{some_bytes}
use Rattle.store_files.proofs.kinds.log_kind.Goals as goal

pub returns-clause-kind : goal.returns-clause-kind
returns-clause-kind g c told =
    let still = c.is_empty.ensures.still in
    subst (λ (l : List ℕ). IfOk c.header_kind.result (IsKind l)) still.seen_same
    (c.header_kind.ensures.kind (still.told told) (some_bytes (g.D.Disk.disk.seen c.is_empty.new.file) (g.D.Disk.disk.seen c.args.log.now) c.in_ok-is_empty.field-0 still.seen_same c.if-branch.false (c.in_ok-is_empty.ensures.empty told)))
