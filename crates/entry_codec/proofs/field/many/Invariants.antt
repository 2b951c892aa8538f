use Rattle.std.proofs.Common.{◌≡◌, ◌-◌}
use Rattle.byte_formats.specs.Format.{many_at}
use Rattle.byte_formats.proofs.Scans.{with_items}
use Rattle.entry_codec.proofs.field.many.Given as goal

abbrev pub invariant-loop : goal.invariant-loop
invariant-loop g l = with_items l.items.items (many_at g.T.Field.format (l.count - l.counter) l.input) ≡ many_at g.T.Field.format l.count l.fn.input
