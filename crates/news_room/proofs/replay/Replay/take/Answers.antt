use Rattle.std.proofs.Common.{refl, arith}
use Rattle.byte_formats.specs.Faults.{IsFaultAt}
use Rattle.entry_codec.specs.Spelling.{entry_bytes}
use Rattle.entry_codec.specs.Formed.{IsEntry}
use Rattle.news_room.proofs.Openings.{no_entry_told, entry_told}
use Rattle.news_room.proofs.replay.Replay.take.Goals as goal

pub keep-kept-requires : goal.keep-kept-requires
keep-kept-requires c = record { stands = c.requires.stands; early = c.in-Ok.ensures.found.0.fits.moment }

pub no_entry-requires-clause-at : goal.no_entry-requires-clause-at
no_entry-requires-clause-at c = c.requires.place

pub no_entry-requires-clause-place : goal.no_entry-requires-clause-place
no_entry-requires-clause-place c =
    let wrong : IsFaultAt entry_bytes IsEntry c.as_slice.result.now c.in-Err-At.at = rw c.in-Err-At.field-0-is at c.in-Err-At.ensures.fault c.in-Err-At.at refl in
    omega (arith, wrong.within, c.as_slice.type_inv.1)

pub returns-in-Ok-clause-takes : goal.returns-in-Ok-clause-takes
returns-in-Ok-clause-takes c =
    λ h is before. entry_told _ h c.args.here.now c.as_slice.result.now c.in-Ok.entry c.keep-kept.result c.as_slice.ensures c.in-Ok.ensures.found.0 c.in-Ok.ensures.found.1 before (c.keep-kept.ensures.keeps h is)

pub returns-in-Err-At-clause-takes : goal.returns-in-Err-At-clause-takes
returns-in-Err-At-clause-takes c =
    λ h is before. no_entry_told c.args.self.now.machine h c.args.here.now c.as_slice.result.now c.in-Err-At.at c.no_entry.result c.as_slice.ensures (rw c.in-Err-At.field-0-is at c.in-Err-At.ensures.fault c.in-Err-At.at refl) c.no_entry.ensures
