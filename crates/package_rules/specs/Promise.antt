-- What is promised of a package.
use Rattle.std.specs.Prelude.{◌≡◌, ℕ, ◌+◌, ◌<◌, ◌&&◌, IsTrue, List, [], ◌∷◌, ◌++◌, length, Option, Some, None}
use Rattle.std.specs.List.{list_any}
use Rattle.news_types.specs.declared.entry.Entry.{Entry}
use Rattle.news_types.specs.declared.entry.Act.TheVariants.{Request}
use Rattle.news_types.specs.declared.command.Command.{Command}
use Rattle.news_types.specs.declared.command.Command.TheVariants.{Flash}
use Rattle.news_types.specs.declared.denial.Denial.TheVariants.{OutOfTurn, NumberUsed}
use Rattle.news_types.specs.declared.story.Story.{Story}
use Rattle.news_types.specs.Names.{Bytes, is_in}
use Rattle.news_types.specs.History.{History, last}
use Rattle.news_types.specs.Products.{permitted}
use Rattle.news_types.specs.Due.{Pub, is_due}
use Rattle.news_types.specs.Publications.{pubs}
use Rattle.news_types.specs.Feeds.{Dispatch, feed}
use Rattle.news_types.specs.Legal.{IsLegal}
use Rattle.news_types.specs.Members.{Each}
use Rattle.news_types.specs.Outcome.{Outcome, Answered, Repeat, Denied, request, last_reply}
use Rattle.package_members.specs.declared.member.Member.{Member}
use Rattle.story_tables.specs.Holding.{is_of}
use Rattle.package_rules.specs.Readers.{readers}

-- the entry flashes a package of these members behind the list: a story, to its readers, of whom there are some
pub record IsPackaging (g : History) (members : List Member) (story : Story) (e : Entry) : Type 0 where
  pub caller : Bytes
  pub number : ℕ
  pub act : e.act ≡ Request caller number (Flash story (readers g members))
  pub some : 0 < length (readers g members)

-- the number of what is published next
abbrev pub next_number : History → ℕ
next_number g = length (pubs g) + 1

-- the package has the next number, and is due exactly to those of its readers who are permitted its story
pub record IsDueToReaders (g : History) (members : List Member) (story : Story) (e : Entry) : Type 0 where
  pub published : Pub
  pub next : pubs (e ∷ g) ≡ published ∷ pubs g
  pub number : published.number ≡ next_number g
  pub due : (s : Bytes) → is_due s published ≡ (is_in s (readers g members) && permitted g story [] s)

abbrev pub GoesToReaders : Type 0
GoesToReaders = (g : History) (members : List Member) (story : Story) (e : Entry) → IsPackaging g members story e → IsDueToReaders g members story e

-- there is a publication of each member
abbrev pub HasEach : List Member → List Dispatch → Type 0
HasEach members ds = Each (λ (m : Member). IsTrue (list_any (is_of m.item) ds)) members

-- in every legal list that goes on from a package, each feed that has it has a publication of each member before it
abbrev pub MembersComeFirst : Type 0
MembersComeFirst = (g more : History) (members : List Member) (story : Story) (e : Entry) → IsPackaging g members story e → IsLegal (more ++ e ∷ g)
    → (s : Bytes) (before after : List Dispatch) (d : Dispatch) → feed (more ++ e ∷ g) s ≡ before ++ d ∷ after → d.shown.number ≡ next_number g → HasEach members before

-- the caller's last request was such a flash, under this number
abbrev pub WasLast : History → Bytes → ℕ → Story → List Bytes → Type 0
WasLast h caller number story targets = last h caller ≡ Some (record { number = number; command = Flash story targets })

-- the request again is a repeat where the readers are the same, and else its number is used: neither adds an entry
pub record IsNotTwice (h : History) (caller : Bytes) (number : ℕ) (story : Story) (targets : List Bytes) (now : ℕ) : Type 0 where
  pub same : request h caller number (Flash story targets) now ≡ record { answer = Repeat (last_reply h caller); more = None }
  pub other : (others : List Bytes) → (others ≡ targets → ⊥) → request h caller number (Flash story others) now ≡ record { answer = Denied (NumberUsed number); more = None }

abbrev pub RetriesAreNotTwice : Type 0
RetriesAreNotTwice = (h : History) (caller : Bytes) (number : ℕ) (story : Story) (targets : List Bytes) (now : ℕ) → 0 < number → WasLast h caller number story targets → IsNotTwice h caller number story targets now

-- an older one, whose number is below the last one's, is out of turn, and adds no entry either
abbrev pub OlderAreOutOfTurn : Type 0
OlderAreOutOfTurn = (h : History) (caller : Bytes) (number n : ℕ) (newest command : Command) (now : ℕ) → last h caller ≡ Some (record { number = number; command = newest }) → n < number
    → request h caller n command now ≡ record { answer = Denied (OutOfTurn (number + 1)); more = None }
