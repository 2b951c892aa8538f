use Rattle.std.proofs.Common.{◌≡◌, ◌⊎◌, inl, inr, refl, subst, ℕ, Result, Ok, Err}
use Rattle.news_types.specs.Names.{Bytes}
use Rattle.news_io.specs.Sink.{SinkMeaning}
use Rattle.run_status.specs.declared.status.Status.{Status}
use Rattle.room_reports.specs.Written.{IsStopped}
use Rattle.desk_lines.specs.declared.property.LineFault.{LineFault}
use Rattle.desk_lines.specs.declared.property.LineFault.TheVariants as fault
use Rattle.desk_lines.specs.declared.property.LineProperty.{LineProperty}
use Rattle.desk_lines.specs.Reading.{IsRead}
use Rattle.desk_answers.specs.Answers.{bad_bytes}
use Rattle.package_rules.specs.Composed.{Composed}
use Rattle.whole_runs.specs.Output.{IsTextTold}
use Rattle.whole_runs.specs.Packaging.{IsFaultTold, end_line, package_read}
use Rattle.whole_runs.proofs.package.package_input.Goals as goal

-- the first bad property is told, or want of memory
bad_told : {O : Type 0} (sink : SinkMeaning O) (said : Result Composed LineProperty) (f : LineFault) (o o' : O) (status : ℕ) → IsRead said (Err f) → IsFaultTold sink f o o' status
    → ((property : LineProperty) × (said ≡ Err property) × IsTextTold sink (end_line (bad_bytes property)) o o' status) ⊎ IsStopped sink Status.Memory o o' status
bad_told sink said (fault.Bad property) o o' status is told = inl (property, is, told)
bad_told sink said fault.Memory o o' status is told = inr told

pub returns-in-Ok-described : goal.returns-in-Ok-described
returns-in-Ok-described g c =
    inl (record {
      object = c.in-Ok.object.items;
      part = c.in-Ok.ensures;
      package_is = c.in-Ok-described.package;
      described = subst (λ (t : Bytes). package_read t ≡ Ok c.in-Ok-described.package) c.deref.ensures.value c.in-Ok-described.ensures;
      now = c.now-now.result;
      read = λ told. (c.now-now.ensures.told told, c.now-now.ensures.given told);
      packaged = c.publish_package-packaged.result;
      published = c.publish_package-packaged.ensures.published;
      done = c.publish_package-packaged.ensures.done;
      told = c.tell_packaged.ensures;
    })

pub returns : goal.returns
returns g c =
    inr (inl (record {
      object = c.in-Ok.object.items;
      part = c.in-Ok.ensures;
      same = refl;
      same_clock = refl;
      told =
          bad_told g.O.Sink.sink (package_read c.in-Ok.object.items) c.in-Err-described.fault c.args.output.now c.tell_fault.new.output c.tell_fault.result
          (subst (λ (t : Bytes). IsRead (package_read t) (Err c.in-Err-described.fault)) c.deref.ensures.value c.in-Err-described.ensures) c.tell_fault.ensures;
    }))
