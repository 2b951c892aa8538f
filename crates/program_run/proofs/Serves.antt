-- What a command answers on files that hold a list, or a receiver's frames, by what was said of it before.
use Rattle.std.proofs.Common.{◌≡◌, ℕ, ◌+◌, length, Option, Some, None}
use Rattle.news_types.specs.Names.{Bytes}
use Rattle.news_types.specs.History.{History}
use Rattle.news_io.specs.Outside.{Meanings, Outside, FilesTell, read}
use Rattle.command_words.specs.declared.words.Job.{Job}
use Rattle.command_words.specs.declared.words.Job.TheVariants.{Init, Batch, Ingest, Import, Package, Feed, Queue, Archive, Contents, Audit, Ask, Digest, Limits, Why, Drain, Receive, Ship, StandIn, Drill, Check, Pack}
use Rattle.newsdesk_cli.specs.Command as old
use Rattle.store_files.specs.Store as store
use Rattle.program_run.specs.Does.{IsServed, Serves, ReceiverServes, StandbyServes, UsesLinks}
use Rattle.program_run.specs.Opens.{OpenTo}
use Rattle.program_run.proofs.Alike.{old_opens}
use Rattle.program_run.proofs.StoodIn.{old_gives}

-- the commands that use links are the same
pub uses_links : (job : Option Job) → (UsesLinks job → ⊥) → old.UsesLinks job → ⊥
uses_links None other = λ uses. uses
uses_links (Some (Init owner)) other = λ uses. uses
uses_links (Some (Receive name)) other = λ uses. uses
uses_links (Some (Ship name)) other = other
uses_links (Some (Drill stories seed)) other = λ uses. uses
uses_links (Some Batch) other = λ uses. uses
uses_links (Some (Ingest format provider)) other = λ uses. uses
uses_links (Some (Import caller)) other = λ uses. uses
uses_links (Some (Package caller request)) other = λ uses. uses
uses_links (Some (Feed subscriber first)) other = λ uses. uses
uses_links (Some Queue) other = λ uses. uses
uses_links (Some (Archive page asked)) other = λ uses. uses
uses_links (Some (Contents publication)) other = λ uses. uses
uses_links (Some (Audit first)) other = λ uses. uses
uses_links (Some (Ask entries)) other = λ uses. uses
uses_links (Some (Digest entries)) other = λ uses. uses
uses_links (Some Limits) other = λ uses. uses
uses_links (Some (Why publication subscriber)) other = λ uses. uses
uses_links (Some Drain) other = other
uses_links (Some Check) other = λ uses. uses
uses_links (Some Pack) other = λ uses. uses
uses_links (Some (StandIn owner)) other = λ uses. uses

module _ {D S O C L : Type 0} (m : Meanings D S O C L) (before after : Outside D S O C L) where
  abbrev Was : History → Option Job → ℕ → Type 0
  Was list job number = old.Serves (m.disk.faults before.log + m.disk.faults before.side) (m.disk.faults after.log + m.disk.faults after.side) list job number

  abbrev WasFor : Option Job → ℕ → Type 0
  WasFor job number = m.disk.tells before.log → m.disk.tells before.side → (id : Bytes) (list : History) → length id ≡ 16 → store.Opens (m.disk.seen before.log) (m.disk.seen before.side) id list → Was list job number

  served : (was now number : ℕ) → old.IsServed was now number → IsServed was now number
  served was now number s = record { own = s.own; whole = s.whole; failed = s.failed }

  -- of a command that is to serve such files
  serves_it : (job : Job) (number : ℕ) → WasFor (Some job) number → ((list : History) → Was list (Some job) number → old.IsServed (m.disk.faults before.log + m.disk.faults before.side) (m.disk.faults after.log + m.disk.faults after.side) number)
      → FilesTell m before → (id : Bytes) (list : History) → length id ≡ 16 → OpenTo id (read m before) list → IsServed (m.disk.faults before.log + m.disk.faults before.side) (m.disk.faults after.log + m.disk.faults after.side) number
  serves_it job number for take tell id list long opens = served _ _ number (take list (for tell.log tell.side id list long (old_opens id long (read m before) list opens)))

  pub serves : (job : Option Job) (number : ℕ) → WasFor job number → Serves m before after job number
  serves None number for = tt
  serves (Some (Init owner)) number for = tt
  serves (Some (Receive name)) number for = tt
  serves (Some (StandIn owner)) number for = tt
  serves (Some (Drill stories seed)) number for = tt
  serves (Some Batch) number for = serves_it Batch number for (λ list was. was)
  serves (Some (Ingest format provider)) number for = serves_it (Ingest format provider) number for (λ list was. was)
  serves (Some (Import caller)) number for = serves_it (Import caller) number for (λ list was. was)
  serves (Some (Package caller request)) number for = serves_it (Package caller request) number for (λ list was. was)
  serves (Some (Feed subscriber first)) number for = serves_it (Feed subscriber first) number for (λ list was. was)
  serves (Some Queue) number for = serves_it Queue number for (λ list was. was)
  serves (Some (Archive page asked)) number for = serves_it (Archive page asked) number for (λ list was. was)
  serves (Some (Contents publication)) number for = serves_it (Contents publication) number for (λ list was. was)
  serves (Some (Audit first)) number for = serves_it (Audit first) number for (λ list was. was)
  serves (Some (Ask entries)) number for = λ tell id list long opens.
      let s = for tell.log tell.side id list long (old_opens id long (read m before) list opens) in
      record { own = s.own; whole = s.whole; failed = s.failed }
  serves (Some (Digest entries)) number for = λ tell id list long opens.
      let s = for tell.log tell.side id list long (old_opens id long (read m before) list opens) in
      record { own = s.own; whole = s.whole; failed = s.failed }
  serves (Some Limits) number for = serves_it Limits number for (λ list was. was)
  serves (Some (Why publication subscriber)) number for = serves_it (Why publication subscriber) number for (λ list was. was)
  serves (Some Drain) number for = serves_it Drain number for (λ list was. was)
  serves (Some (Ship name)) number for = serves_it (Ship name) number for (λ list was. was)
  serves (Some Check) number for = serves_it Check number for (λ list was. was)
  serves (Some Pack) number for = serves_it Pack number for (λ list was. was)

  abbrev ReceiverWas : Option Job → ℕ → Type 0
  ReceiverWas job number = m.disk.tells before.log → old.ReceiverServes (m.disk.seen before.log) (m.disk.faults before.log) (m.disk.faults after.log) job number

  pub receives : (job : Option Job) (number : ℕ) → ReceiverWas job number → ReceiverServes m before after job number
  receives None number was = tt
  receives (Some (Init owner)) number was = tt
  receives (Some (Receive name)) number was = λ tells frames gives. let s = was tells frames gives in record { own = s.own; whole = s.whole; failed = s.failed }
  receives (Some (Ship name)) number was = tt
  receives (Some (StandIn owner)) number was = tt
  receives (Some (Drill stories seed)) number was = tt
  receives (Some Batch) number was = tt
  receives (Some (Ingest format provider)) number was = tt
  receives (Some (Import caller)) number was = tt
  receives (Some (Package caller request)) number was = tt
  receives (Some (Feed subscriber first)) number was = tt
  receives (Some Queue) number was = tt
  receives (Some (Archive page asked)) number was = tt
  receives (Some (Contents publication)) number was = tt
  receives (Some (Audit first)) number was = tt
  receives (Some (Ask entries)) number was = tt
  receives (Some (Digest entries)) number was = tt
  receives (Some Limits) number was = tt
  receives (Some (Why publication subscriber)) number was = tt
  receives (Some Drain) number was = tt
  receives (Some Check) number was = tt
  receives (Some Pack) number was = tt

  abbrev StandbyWas : Option Job → ℕ → Type 0
  StandbyWas job number = m.disk.tells before.log → m.disk.tells before.side
      → old.StandbyServes (m.disk.seen before.log) (m.disk.seen before.side) (m.disk.faults before.log + m.disk.faults before.side) (m.disk.faults after.log + m.disk.faults after.side) job number

  pub stands_in : (job : Option Job) (number : ℕ) → StandbyWas job number → StandbyServes m before after job number
  stands_in (Some (StandIn owner)) number was = λ tell long held gives.
      let s = was tell.log tell.side held (old_gives owner long (read m before) held gives) in
      record { own = s.own; whole = s.whole; failed = s.failed }
  stands_in None number was = tt
  stands_in (Some (Init owner)) number was = tt
  stands_in (Some (Receive name)) number was = tt
  stands_in (Some (Ship name)) number was = tt
  stands_in (Some (Drill stories seed)) number was = tt
  stands_in (Some Batch) number was = tt
  stands_in (Some (Ingest format provider)) number was = tt
  stands_in (Some (Import caller)) number was = tt
  stands_in (Some (Package caller request)) number was = tt
  stands_in (Some (Feed subscriber first)) number was = tt
  stands_in (Some Queue) number was = tt
  stands_in (Some (Archive page asked)) number was = tt
  stands_in (Some (Contents publication)) number was = tt
  stands_in (Some (Audit first)) number was = tt
  stands_in (Some (Ask entries)) number was = tt
  stands_in (Some (Digest entries)) number was = tt
  stands_in (Some Limits) number was = tt
  stands_in (Some (Why publication subscriber)) number was = tt
  stands_in (Some Drain) number was = tt
  stands_in (Some Check) number was = tt
  stands_in (Some Pack) number was = tt
