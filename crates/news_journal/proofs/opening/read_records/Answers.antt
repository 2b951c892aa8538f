use Rattle.std.proofs.Common.{◌+◌, ◌<◌, ◌^◌, [], ◌∷◌, ℕ, List, Err, false, length, drop, refl, sym, ◌∙◌, ap, subst, arith, length-append}
use Rattle.std.specs.Prelude.{All}
use Rattle.std.proofs.lemmas.List.Elements.{All-push}
use Rattle.std.proofs.lemmas.Result.{err_from_is_err_and}
use Rattle.news_io.specs.declared.record.Record.{Record}
use Rattle.news_journal.specs.Opened.{ReadsAs, IsOfLog}
use Rattle.news_journal.specs.Window.{Shows}
use Rattle.news_journal.proofs.Pieces.{still_then}
use Rattle.news_journal.proofs.Progress.{SoFar, ended, one_further, one_longer, fault_reads}
use Rattle.news_journal.proofs.opening.read_records.Goals as goal

pub returns-in_err-bytes-clause-reads : goal.returns-in_err-bytes-clause-reads
returns-in_err-bytes-clause-reads g c = λ told shows long.
    let inv = c.loop-records.invariant in
    let e = err_from_is_err_and c.from_residual.result c.from_residual.ensures.1 in
    let shows_on = subst (Shows c.loop-records.window) (sym inv.still.seen_same) (inv.shows told shows) in
    let reads = c.in_err-bytes.ensures.reads (inv.still.told told) shows_on in
    rw (e.1, e.2) (fault_reads _ _ _ (inv.so_far told shows long) _ (subst (λ (l : List ℕ). ReadsAs c.loop-records.gate (drop c.loop-records.gate l) (Err c.in_err-bytes.field-0.0)) inv.still.seen_same reads))

pub loop-records-preserved : goal.loop-records-preserved
loop-records-preserved g c =
    let inv = c.loop-records.invariant in
    let room = rw c.in-Some.is at c.in_ok-bytes.ensures.small in
    record {
      place = one_longer c.loop-records.gate _ c.loop-records.records.items _ (record { at = c.loop-records.gate; side = false; bytes = c.in-Some.bytes }) _ c.in_ok-push.ensures.items inv.place refl (ap length c.as_slice.ensures);
      small = omega (arith, room, ap length c.as_slice.ensures);
      count = omega (arith, inv.count, ap length c.in_ok-push.ensures.items, length-append c.loop-records.records.items (record { at = c.loop-records.gate; side = false; bytes = c.in-Some.bytes } ∷ []));
      at = subst (All (λ (r : Record). r.at < 2 ^ 30)) (sym c.in_ok-push.ensures.items) (All-push (λ (r : Record). r.at < 2 ^ 30) c.loop-records.records.items (record { at = c.loop-records.gate; side = false; bytes = c.in-Some.bytes }) inv.at inv.small);
      of_log = subst (All IsOfLog) (sym c.in_ok-push.ensures.items) (All-push IsOfLog c.loop-records.records.items (record { at = c.loop-records.gate; side = false; bytes = c.in-Some.bytes }) inv.of_log refl);
      still = still_then _ _ _ _ inv.still c.read_record.ensures.still;
      calm = c.in_ok-bytes.ensures.calm ∙ inv.calm;
      shows = λ told shows.
          let shows_on = subst (Shows c.loop-records.window) (sym inv.still.seen_same) (inv.shows told shows) in
          subst (Shows c.read_record.new.window) inv.still.seen_same (c.in_ok-bytes.ensures.shows (inv.still.told told) shows_on);
      so_far = λ told shows long.
          let shows_on = subst (Shows c.loop-records.window) (sym inv.still.seen_same) (inv.shows told shows) in
          let reads = rw inv.still.seen_same at (rw c.in-Some.is at (c.in_ok-bytes.ensures.reads (inv.still.told told) shows_on)) in
          subst (λ rs. SoFar (g.D.Disk.disk.seen c.args.disk.now) (c.loop-records.gate + (5 + length c.as_slice.result.now)) rs) (sym c.in_ok-push.ensures.items)
          (one_further _ c.loop-records.gate c.loop-records.records.items (inv.so_far told shows long) (record { at = c.loop-records.gate; side = false; bytes = c.in-Some.bytes }) reads.0 _ refl reads.1 reads.2 reads.3 reads.4 (omega (arith, ap length c.as_slice.ensures)));
    }

pub returns-clause-reads : goal.returns-clause-reads
returns-clause-reads g c = λ told shows long.
    let inv = c.loop-records.invariant in
    let shows_on = subst (Shows c.loop-records.window) (sym inv.still.seen_same) (inv.shows told shows) in
    let reads = rw inv.still.seen_same at (rw c.in_default.is at (c.in_ok-bytes.ensures.reads (inv.still.told told) shows_on)) in
    ended _ _ _ (inv.so_far told shows long) reads.0 reads.1 reads.2 reads.3
