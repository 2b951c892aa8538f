-- What `==` says of stories, of what comes in, of commands and of entries.
use Rattle.std.specs.Prelude.{◌≡◌, Bool, true}
use Rattle.news_types.specs.declared.story.Incoming.{Incoming}
use Rattle.news_types.specs.declared.entry.Act.{Act}
use Rattle.news_types.specs.declared.entry.Entry.{Entry}
use Rattle.news_types.specs.contracts.story.IncomingPartialEq.TheImpl as incoming_eq
use Rattle.news_types.specs.contracts.entry.ActPartialEq.TheImpl as act_eq
use Rattle.news_types.specs.contracts.entry.EntryPartialEq.TheImpl as entry_eq
use Rattle.news_types.specs.Items.{same_story}
use Rattle.news_types.specs.Denial.{same_command}

-- what `==` answers at two of what comes in
abbrev pub same_incoming : Incoming → Incoming → Bool
same_incoming = (incoming_eq.ghosts).eq

-- what `==` answers at two acts
abbrev pub same_act : Act → Act → Bool
same_act = (act_eq.ghosts).eq

-- what `==` answers at two entries
abbrev pub same_entry : Entry → Entry → Bool
same_entry = (entry_eq.ghosts).eq

-- a test of two values answers true exactly where they are one value
pub record IsEqualityOf {A : Type 0} (eq : A → A → Bool) : Type 0 where
  pub is : (a b : A) → eq a b ≡ true → a ≡ b
  pub itself : (a : A) → eq a a ≡ true

pub record EqualityIsOfFields : Type 0 where
  -- two stories are equal exactly where each field of the one is that of the other
  pub stories : IsEqualityOf same_story
  -- so are two of what comes in, with their stories
  pub incoming : IsEqualityOf same_incoming
  -- so are two commands: they ask for the same, with the same names, texts, lists and stories
  pub commands : IsEqualityOf same_command
  -- so are two acts, with their commands and what comes in
  pub acts : IsEqualityOf same_act
  -- and so are two entries: they have one moment and one act
  pub entries : IsEqualityOf same_entry
