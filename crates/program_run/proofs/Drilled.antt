-- What `drill` printed, by what was said of it before.
use Rattle.std.proofs.Common.{◌≡◌, ℕ, Bool, true, false, ◌||◌, List, [], ◌∷◌, ◌++◌, length, refl, ap, ◌∙◌, subst}
use Rattle.std.specs.List.{flat_map}
use Rattle.news_types.specs.declared.entry.Act.{Act}
use Rattle.news_types.specs.declared.entry.Act.TheVariants.{Advance, Attempt, Receipt, Halt, Ingest, Request}
use Rattle.news_types.specs.declared.entry.Entry.{Entry}
use Rattle.news_types.specs.Names.{Bytes, same, is_in}
use Rattle.news_types.specs.Members.{Each}
use Rattle.news_types.specs.History.{History}
use Rattle.news_types.specs.Feeds.{feed}
use Rattle.news_types.specs.Delivery.{acked}
use Rattle.news_types.proofs.Members.{same_self}
use Rattle.news_io.specs.Outside.{Meanings, Outside}
use Rattle.news_io.specs.Clock.{ClockMeaning}
use Rattle.news_io.specs.Sink.{AreFirst, SinkMeaning}
use Rattle.run_status.specs.declared.status.Status.{Status}
use Rattle.run_status.specs.declared.status.Status.TheVariants as status
use Rattle.feed_receiver.specs.Holds.{Received}
use Rattle.drill_plan.specs.Plan.{plan}
use Rattle.feed_drill.specs.Drill as drill
use Rattle.feed_drill.specs.Readings as readings
use Rattle.feed_drill.specs.Report as report
use Rattle.publish_workers.specs.Completeness as workers
use Rattle.publish_workers.specs.InMemory.{HoldsAll, received_by}
use Rattle.newsdesk_cli.specs.Command as old
use Rattle.room_reports.specs.Written.{IsWhole, IsCut}
use Rattle.program_run.specs.DrillReport.{feed_line, drill_report}
use Rattle.program_run.specs.Drilled.{Delivers, subscribers_of, IsDrill, IsRead, IsCount, Printed, IsDrilled}
use Rattle.program_run.specs.Inputs.{newsroom_formats}

-- ---- its list

delivers : (act : Act) → workers.Delivers act → Delivers act
delivers Advance d = tt
delivers (Attempt s k) d = tt
delivers (Receipt s n) d = tt
delivers Halt d = d
delivers (Ingest provider come) d = d
delivers (Request caller number command) d = d

each_delivers : (es : List Entry) → Each (λ (e : Entry). workers.Delivers e.act) es → Each (λ (e : Entry). Delivers e.act) es
each_delivers [] all = tt
each_delivers (e ∷ es) all = (delivers e.act all.0, each_delivers es all.1)

is_drill : (n seed : ℕ) (h : History) (held : List Received) → drill.IsDrill n seed h held → IsDrill newsroom_formats n seed h
is_drill n seed h held d = record {
  delivered = d.delivered;
  list = d.list;
  only = each_delivers d.delivered d.only;
  legal = d.legal;
  rests = record { next = d.rests.next; choice_is = d.rests.choice_is; none = d.rests.none; done = d.rests.done };
  whole = λ s there. let all = d.equal s there in all.acknowledged;
}

-- ---- its report

module _ (h : History) (names : List Bytes) (held : List Received) where
  abbrev old_line : Bytes → Bytes
  old_line s = report.feed_line s (length (feed h s)) (acked h s) (report.frame_count (received_by names held s))

  -- a receiver that holds a frame for each entry
  line_same : (s : Bytes) → HoldsAll h names held s → old_line s ≡ feed_line h s
  line_same s all = ap (λ (n : ℕ). report.feed_line s (length (feed h s)) (acked h s) n) (ap report.frame_count all.there ∙ all.all)

  lines_same : (these : List Bytes) → ((s : Bytes) → is_in s these ≡ true → HoldsAll h names held s) → flat_map old_line these ≡ flat_map (feed_line h) these
  lines_same [] each = refl
  lines_same (s ∷ these) each =
      ap (λ (l : Bytes). l ++ flat_map old_line these) (line_same s (each s (first s these)))
      ∙ ap (λ (l : Bytes). feed_line h s ++ l) (lines_same these (λ t there. each t (later t s these there)))
    where
      first : (t : Bytes) (ts : List Bytes) → is_in t (t ∷ ts) ≡ true
      first t ts = ap (λ (b : Bool). b || is_in t ts) (same_self t)

      later : (t u : Bytes) (ts : List Bytes) → is_in t ts ≡ true → is_in t (u ∷ ts) ≡ true
      later t u ts there = by (same t u)
        where
          by : (b : Bool) → (b || is_in t ts) ≡ true
          by true = refl
          by false = there

reports_same : (n seed : ℕ) (h : History) (held : List Received) → drill.IsDrill n seed h held → report.drill_report h held ≡ drill_report h
reports_same n seed h held d = ap (λ (l : Bytes). report.entries_line (length h) ++ l) (lines_same h (subscribers_of h) held (subscribers_of h) d.equal)

-- ---- the command

module _ {O : Type 0} (sink : SinkMeaning O) (o o' : O) where
  is_whole : (before now : Bytes) → before ≡ now → drill.Prints sink o o' before → IsWhole sink now o o'
  is_whole before now is p = record { wrote = record { told = p.told; bytes = λ tells. p.taken tells ∙ ap (λ (l : Bytes). sink.taken o ++ l) is }; passed = p.passed; calm = p.calm }

  is_cut : (before now : Bytes) → before ≡ now → drill.PrintsFirst sink o o' before → IsCut sink now o o'
  is_cut before now is p = record { front = p.front; first = subst (AreFirst p.front) is p.first; wrote = record { told = p.told; bytes = p.taken }; rose = p.rose }

module _ {C : Type 0} (clock : ClockMeaning C) (n seed : ℕ) (c c' : C) where
  abbrev HasRead : Status → Type 0
  HasRead why = (times : ℕ) × IsCount (length (plan n seed)) times why × IsRead clock times c c'

  is_read : (times : ℕ) → readings.IsRead clock times c c' → IsRead clock times c c'
  is_read times r = record { told = r.told; ahead = r.ahead }

  has_read : (why : Status) → readings.IsReadByDrill clock n seed c c' why → HasRead why
  has_read status.Done r = (length (plan n seed), refl, is_read (length (plan n seed)) r)
  has_read status.Output r = (length (plan n seed), refl, is_read (length (plan n seed)) r)
  has_read status.Memory r = (r.0, r.1, is_read r.0 r.2)
  has_read status.Full r = (r.0, r.1, is_read r.0 r.2)
  has_read why r = absurd r

module _ {D S O C L : Type 0} (m : Meanings D S O C L) (before after : Outside D S O C L) (number n seed : ℕ) where
  printed : (mid : O) (why : Status) → drill.Drills m.sink n seed before.output mid why → Printed newsroom_formats m before after number n seed mid why
  printed mid status.Done d = (d.0, is_drill n seed d.0 d.1 d.2, is_whole m.sink before.output mid (report.drill_report d.0 d.1) (drill_report d.0) (reports_same n seed d.0 d.1 d.2) d.3)
  printed mid status.Output d = (d.0, is_drill n seed d.0 d.1 d.2, is_cut m.sink before.output mid (report.drill_report d.0 d.1) (drill_report d.0) (reports_same n seed d.0 d.1 d.2) d.3)
  printed mid status.Memory d = d
  printed mid status.Full d = d
  printed mid why d = d

  pub is_drilled : after.input ≡ before.input → after.log ≡ before.log → after.side ≡ before.side → after.links ≡ before.links
      → old.IsDrilled m.sink m.clock n seed before.output after.output before.clock after.clock number → IsDrilled newsroom_formats m before after number n seed
  is_drilled input log side links did =
      let read = has_read m.clock n seed before.clock after.clock did.ended did.read in
      record {
        why = did.ended;
        number_is = did.status_is;
        mid = did.drilled;
        printed = printed did.drilled did.ended did.did;
        line = did.line;
        times = read.0;
        count = read.1;
        read = read.2;
        log = log;
        side = side;
        input = input;
        links = links;
      }
