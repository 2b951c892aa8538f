use Rattle.std.proofs.Common.{arith, ◌≡◌, ap, sym, subst, length}
use Rattle.std.specs.Prelude.{All}
use Rattle.std.proofs.lemmas.List.Elements.{All-weaker, All-same}
use Rattle.entry_codec.specs.Fits.{Fits}
use Rattle.entry_codec.specs.Formed.{IsEntry}
use Rattle.entry_segments.specs.Segment.{InTime}
use Rattle.entries_tests.proofs.tests.segments.repack.Goals as goal

pub pack-requires-clause-each : goal.pack-requires-clause-each
pack-requires-clause-each c = subst (All Fits) (sym c.as_slice.ensures) (All-weaker IsEntry Fits (λ e h. h.fits) c.args.segment.now.entries c.requires.each)
