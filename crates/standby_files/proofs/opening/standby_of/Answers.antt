use Rattle.std.proofs.Common.{◌∙◌, ap}
use Rattle.news_pair.specs.Stands.{log_disk, side_disk}
use Rattle.standby_files.proofs.HeaderKinds.{only_memory}
use Rattle.standby_files.proofs.opening.standby_of.Goals as goal

pub returns-in-Err-clause-refused : goal.returns-in-Err-clause-refused
returns-in-Err-clause-refused g c =
    let given = c.in-Err.ensures.refused in (
      ap (λ both. both.0) c.into_disks-log.ensures ∙ ap log_disk given.0,
      ap (λ both. both.1) c.into_disks-log.ensures ∙ ap side_disk given.0,
      c.trouble_of.ensures ∙ only_memory c.args.records.now c.requires.entries.0 c.in-Err.fault c.requires.entries.1 given.1,
    )
