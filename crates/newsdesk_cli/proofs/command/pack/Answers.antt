use Rattle.std.proofs.Common.{◌∙◌, ◌+◌, inl, inr, sym, ap, subst}
use Rattle.news_pair.specs.Keeper.{pair_of}
use Rattle.newsdesk_cli.specs.Telling.{IsStopped}
use Rattle.store_files.specs.Files.{FilesHold}
use Rattle.newsdesk_cli.proofs.Packing.{faults_are, counted, packs, packed_holds, packs_not, unpacked_keeps, pack_counts}
use Rattle.newsdesk_cli.proofs.command.pack.Goals as goal

pub returns-in-Err : goal.returns-in-Err
returns-in-Err g c = inl (record { why = c.in-Err.trouble; refused = c.in-Err.ensures.refused; stopped = c.tell_trouble.ensures })

pub pack-requires : goal.pack-requires
pack-requires g c = record { quiet = ap (pair_of g.D.Disk.disk).most_calls c.into_keeper.ensures ∙ c.in-Ok.ensures.opened.quiet }

pub returns-in-Ok-pack : goal.returns-in-Ok-pack
returns-in-Ok-pack g c =
    let d = g.D.Disk.disk in
    let opened = c.in-Ok.ensures.opened in
    let k = c.into_keeper.result in
    let done = c.in-Ok-pack.ensures in
    let same = ap (λ both. both.0) c.into_disks-log.ensures in
    let same_side = ap (λ both. both.1) c.into_disks-log.ensures in
    inr (inl (record {
      room = c.in-Ok.room;
      opened = opened;
      pair = c.in-Ok-pack.pair;
      same = same;
      same_side = same_side;
      packs = packs d c.args.log c.args.side c.in-Ok.room opened k c.into_keeper.ensures c.in-Ok-pack.pair done.list done.emptied done.crash done.whole done.room;
      files = λ told told'.
          subst (λ x. FilesHold d x c.into_disks-log.result.1 opened.store opened.history) (sym same)
          (subst (λ x. FilesHold d c.in-Ok-pack.pair.log.disk x opened.store opened.history) (sym same_side)
          (packed_holds d c.args.log c.args.side c.in-Ok.room opened k c.into_keeper.ensures c.in-Ok-pack.pair done.store done.quiet done.list told told'));
      calm = ap (λ x. d.faults x + d.faults c.into_disks-log.result.1) same ∙ ap (λ x. d.faults c.in-Ok-pack.pair.log.disk + d.faults x) same_side ∙ done.calm ∙ faults_are d c.args.log c.args.side c.in-Ok.room opened k c.into_keeper.ensures;
      count = c.in-Ok-pack.count;
      counted = counted d c.args.log c.args.side c.in-Ok.room opened k c.into_keeper.ensures c.in-Ok-pack.count done.count;
      told = c.tell_packed-status.ensures;
    }))

pub returns-in-Err-pack : goal.returns-in-Err-pack
returns-in-Err-pack g c =
    let d = g.D.Disk.disk in
    let opened = c.in-Ok.ensures.opened in
    let k = c.into_keeper.result in
    let log' = c.in-Err-pack.log in
    let side' = c.in-Err-pack.side in
    let why = c.in-Err-pack.fault in
    let failed = c.in-Err-pack.ensures in
    inr (inr (record {
      room = c.in-Ok.room;
      opened = opened;
      why = why;
      packs_not = packs_not d c.args.log c.args.side c.in-Ok.room opened k c.into_keeper.ensures log' side' why failed.crash_err failed.damage failed.full;
      files = unpacked_keeps d c.args.log c.args.side c.in-Ok.room opened k c.into_keeper.ensures log' side' failed.crash_err;
      counts = pack_counts d c.args.log c.args.side c.in-Ok.room opened k c.into_keeper.ensures (d.faults log' + d.faults side') why failed.fault;
      stopped = subst (λ t. IsStopped g.O.Sink.sink t c.args.output.now c.tell_trouble-in-Err-pack.new.output c.tell_trouble-in-Err-pack.result) c.from.ensures c.tell_trouble-in-Err-pack.ensures;
    }))
