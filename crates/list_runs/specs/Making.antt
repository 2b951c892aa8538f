-- How a publication was made.
use Rattle.std.specs.Prelude.{◌≡◌, ℕ, ◌<◌, ◌≤◌, List, ◌∷◌, ◌++◌, length, get_or, Some}
use Rattle.news_types.specs.declared.entry.Entry.{Entry}
use Rattle.news_types.specs.declared.entry.Act.{Act}
use Rattle.news_types.specs.Names.{Bytes}
use Rattle.news_types.specs.History.{History}
use Rattle.news_types.specs.Due.{Pub}
use Rattle.news_types.specs.Items.{Item}
use Rattle.news_types.specs.Publications.{Issue, made, pubs, issued_by, pub_of}
use Rattle.news_io.specs.declared.record.Record.{Record}
use Rattle.entry_codec.specs.Spelling.{entry_bytes}
use Rattle.entry_codec.specs.Formed.{IsEntry}
use Rattle.newsroom.specs.Stands.{StandsFor}
use Rattle.newsroom.specs.declared.newsroom.Newsroom.{Newsroom}
use Rattle.feed_reasons.specs.Reasons.{had_before}
use Rattle.feed_reasons.specs.Verdicts.{verdict}
use Rattle.list_runs.specs.Lists.{first_entries}
use Rattle.list_runs.specs.declared.terms.Terms.{Terms}
use Rattle.list_runs.specs.declared.reasons.Judged.{Judged}

-- the entry that made publication n of the list, behind these entries
pub record Makes (n : ℕ) (h g : History) (e : Entry) : Type 0 where
  pub later : List Entry
  pub is : h ≡ later ++ e ∷ g
  pub before : length (pubs g) < n
  pub made : n ≤ length (pubs (e ∷ g))

-- the record at a place, from 0 for the first, is that of the entry
pub record IsRecordAt (records : List Record) (place : ℕ) (e : Entry) : Type 0 where
  pub formed : IsEntry e
  pub is : (other : Record) → (get_or records place other).bytes ≡ entry_bytes e

-- the entry of the record at a place made publication n
pub record MakesAt (records : List Record) (n : ℕ) (h : History) (place : ℕ) : Type 0 where
  pub entry : Entry
  pub record_is : IsRecordAt records place entry
  pub makes : Makes n h (first_entries place h) entry

-- the act published this at the moment, behind the list
pub record IsMade (g : History) (m : ℕ) (act : Act) (p : Pub) : Type 0 where
  pub issue : Issue
  pub item : Item
  pub issued : issued_by g (made g) m act ≡ Some issue
  pub after : issue.after ≡ Some item
  pub is : p ≡ pub_of g (made g) issue item

-- the newsroom stands for the list behind which the entry made publication n
pub record IsMaking (n : ℕ) (h : History) (newsroom : Newsroom) (e : Entry) : Type 0 where
  pub list : History
  pub stands : StandsFor newsroom list
  pub makes : Makes n h list e

-- what the entry says of its publication, for a subscriber: the targets, and whether something of the item was due before
abbrev pub terms_of : History → Bytes → Pub → Terms
terms_of g s p = record { targets = p.targets; had = had_before g p.kind p.item p.release s }

-- what the rules said of the publication when it was made, and whether something of the item was due before
abbrev pub judged_of : History → Bytes → Pub → Judged
judged_of g s p = record { verdict = verdict g p.story p.targets s; had = had_before g p.kind p.item p.release s }
