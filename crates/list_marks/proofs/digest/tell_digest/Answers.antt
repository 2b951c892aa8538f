use Rattle.std.proofs.Common.{inl, inr, ap, subst, ◌∙◌, arith}
use Rattle.news_types.specs.Names.{Bytes}
use Rattle.room_reports.specs.Written.{IsWrittenOut}
use Rattle.list_marks.specs.Digest.{line_of}
use Rattle.list_marks.proofs.Hashing.{as_many, hashed_of, short_first}
use Rattle.list_marks.proofs.digest.tell_digest.Goals as goal

pub returns-then-records-entries : goal.returns-then-records-entries
returns-then-records-entries g c h opens = inl (record {
  fewer = omega (arith, as_many c.args.records.now h opens, c.if-records-entries.true);
  stopped = record { status_is = c.tell_status.ensures.number; line = c.tell_status.ensures.told };
})

pub digest_of-digest-requires : goal.digest_of-digest-requires
digest_of-digest-requires g c = short_first c.args.records.now c.args.entries c.requires.0 c.requires.1

pub returns : goal.returns
returns g c h opens =
    let digest = c.digest_of-digest.ensures ∙ hashed_of c.args.records.now c.args.entries h opens in
    let line = c.as_slice.ensures.value ∙ c.line_of.ensures ∙ ap (line_of c.args.entries) digest in
    inr (record {
      enough = omega (arith, as_many c.args.records.now h opens, c.if-records-entries.false);
      told = subst (λ (l : Bytes). IsWrittenOut g.O.Sink.sink l c.args.output.now c.write_out.new.output c.write_out.result) line c.write_out.ensures.written;
      memory = c.write_out.ensures.memory;
    })
