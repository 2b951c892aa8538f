-- `==` answers true exactly where two values are one.
use Rattle.std.proofs.Common.{◌≡◌, ℕ, Bool, true, false, ◌&&◌, ◌==◌, Option, Some, None, List, [], ◌∷◌, refl, ap, rules}
use denote.Enum.Bare.{same_true}
use Rattle.std.specs.Bool.{beq}
use Rattle.std.specs.Cmp.{booleans_Decides, unsigned_Decides}
use Rattle.std.specs.Cmp.Lexicographic.{pointwise}
use Rattle.std.specs.Option.{option_eq}
use Rattle.news_types.specs.declared.words.Media.{Media}
use Rattle.news_types.specs.declared.words.PubStatus.{PubStatus}
use Rattle.news_types.specs.declared.words.Field.{Field}
use Rattle.news_types.specs.declared.words.Op.{Op}
use Rattle.news_types.specs.declared.words.How.{How}
use Rattle.news_types.specs.declared.words.Format.{Format}
use Rattle.news_types.specs.declared.words.Privileges.{Privileges}
use Rattle.news_types.specs.declared.rules.Rule.{Rule}
use Rattle.news_types.specs.declared.rules.Place.{Place}
use Rattle.news_types.specs.declared.rules.Statement.{Statement}
use Rattle.news_types.specs.declared.story.Story.{Story}
use Rattle.news_types.specs.declared.story.Incoming.{Incoming}
use Rattle.news_types.specs.declared.command.Command.{Command}
use Rattle.news_types.specs.declared.command.Command.TheVariants.{AddUser, SetUser, AddDesk, AddStage, SetMember, AddCondition, AddFilter, SetFilter, SetBlock, AddProduct, SetProduct, AddSubscriber, SetSubscriber, Resume, AddScheme, AddProvider, Create, Flash, Lock, Unlock, BreakLock, Edit, MoveTo, Spike, Unspike, Fetch, Publish, Correct, Kill, Recall, Deschedule, Stop}
use Rattle.news_types.specs.declared.entry.Act.{Act}
use Rattle.news_types.specs.declared.entry.Act.TheVariants.{Advance, Attempt, Receipt, Halt, Ingest, Request}
use Rattle.news_types.specs.declared.entry.Entry.{Entry}
use Rattle.news_types.specs.contracts.words.MediaPartialEq.TheImpl as media_eq
use Rattle.news_types.specs.contracts.words.PrivilegesPartialEq.TheImpl as privileges_eq
use Rattle.news_types.specs.contracts.words.PubStatusPartialEq.TheImpl as status_eq
use Rattle.news_types.specs.contracts.words.FieldPartialEq.TheImpl as field_eq
use Rattle.news_types.specs.contracts.words.OpPartialEq.TheImpl as op_eq
use Rattle.news_types.specs.contracts.words.HowPartialEq.TheImpl as how_eq
use Rattle.news_types.specs.contracts.words.FormatPartialEq.TheImpl as format_eq
use Rattle.news_types.specs.contracts.words.Media.{the_type as media_type}
use Rattle.news_types.specs.contracts.words.PubStatus.{the_type as status_type}
use Rattle.news_types.specs.contracts.words.Field.{the_type as field_type}
use Rattle.news_types.specs.contracts.words.Op.{the_type as op_type}
use Rattle.news_types.specs.contracts.words.How.{the_type as how_type}
use Rattle.news_types.specs.contracts.words.Format.{the_type as format_type}
use Rattle.news_types.specs.contracts.rules.RulePartialEq.TheImpl as rule_eq
use Rattle.news_types.specs.contracts.rules.PlacePartialEq.TheImpl as place_eq
use Rattle.news_types.specs.contracts.rules.StatementPartialEq.TheImpl as statement_eq
use Rattle.news_types.specs.contracts.story.StoryEq.TheImpl.Laws.{laws-law as story_laws}
use Rattle.news_types.specs.contracts.story.IncomingEq.TheImpl.Laws.{laws-law as incoming_laws}
use Rattle.news_types.specs.contracts.command.CommandEq.TheImpl.Laws.{laws-law as command_laws}
use Rattle.news_types.specs.contracts.entry.ActEq.TheImpl.Laws.{laws-law as act_laws}
use Rattle.news_types.specs.contracts.entry.EntryEq.TheImpl.Laws.{laws-law as entry_laws}
use Rattle.news_types.specs.Denial.{same_command}
use Rattle.news_types.specs.Equality.{EqualityIsOfFields, same_incoming, same_act, same_entry}
use Rattle.news_types.specs.Names.{Bytes, same}
use Rattle.news_types.specs.Items.{same_story}
use Rattle.news_types.proofs.Members.{same_is}

-- ---- shapes

-- of two tests that both answer true, what each of them shows
both : {p q : Bool} {P Q : Type 0} → (p ≡ true → P) → (q ≡ true → Q) → (p && q) ≡ true → P × Q
both {p = true} {q = true} one two h = (one refl, two refl)
both {p = false} {q} one two h = cc
both {p = true} {q = false} one two h = cc

-- lists, where the test of an element shows that the two are one
list_is : {A : Type 0} {E : A → A → Bool} → ((x y : A) → E x y ≡ true → x ≡ y) → (xs ys : List A) → pointwise E xs ys ≡ true → xs ≡ ys
list_is e [] [] h = refl
list_is e [] (y ∷ ys) h = cc
list_is e (x ∷ xs) [] h = cc
list_is e (x ∷ xs) (y ∷ ys) h = let one = both (e x y) (list_is e xs ys) h in λ i. one.0 i ∷ one.1 i

-- options likewise
option_is : {A : Type 0} {E : A → A → Bool} → ((x y : A) → E x y ≡ true → x ≡ y) → (x y : Option A) → option_eq E x y ≡ true → x ≡ y
option_is e None None h = refl
option_is e None (Some y) h = cc
option_is e (Some x) None h = cc
option_is e (Some x) (Some y) h = ap Some (e x y h)

-- lists of names and lists of texts
names_is : (a b : List Bytes) → pointwise same a b ≡ true → a ≡ b
names_is a b h = list_is same_is a b h

number_is : (a b : ℕ) → (a == b) ≡ true → a ≡ b
number_is a b h = (unsigned_Decides a b).0 h

flag_is : (a b : Bool) → beq a b ≡ true → a ≡ b
flag_is a b h = (booleans_Decides a b).0 h

-- ---- statements and rules

statement_is : (a b : Statement) → (statement_eq.ghosts).eq a b ≡ true → a ≡ b
statement_is a b h =
    let one = both (names_is a.conditions b.conditions) (names_is a.filters b.filters) h in
    λ i. record { conditions = one.0 i; filters = one.1 i }

place_is : (a b : Place) → (place_eq.ghosts).eq a b ≡ true → a ≡ b
place_is a b h =
    let one = both (same_is a.desk b.desk) (same_is a.stage b.stage) h in
    λ i. record { desk = one.0 i; stage = one.1 i }

rule_is : (a b : Rule) → (rule_eq.ghosts).eq a b ≡ true → a ≡ b
rule_is a b h =
    let one =
    both (option_is same_is a.filter b.filter)
    (both (number_is a.days b.days)
    (both (number_is a.from b.from)
    (both (number_is a.to b.to)
    (both (same_is a.zone b.zone)
    (both (option_is place_is a.fetch b.fetch)
    (both (flag_is a.publish b.publish) (flag_is a.exit b.exit))))))) h in
    λ i. record {
      filter = one.0 i;
      days = one.1.0 i;
      from = one.1.1.0 i;
      to = one.1.1.1.0 i;
      zone = one.1.1.1.1.0 i;
      fetch = one.1.1.1.1.1.0 i;
      publish = one.1.1.1.1.1.1.0 i;
      exit = one.1.1.1.1.1.1.1 i;
    }

-- ---- words

media_is : (a b : Media) → (media_eq.ghosts).eq a b ≡ true → a ≡ b
media_is a b h = same_true media_type (search rules) a b h

field_is : (a b : Field) → (field_eq.ghosts).eq a b ≡ true → a ≡ b
field_is a b h = same_true field_type (search rules) a b h

op_is : (a b : Op) → (op_eq.ghosts).eq a b ≡ true → a ≡ b
op_is a b h = same_true op_type (search rules) a b h

how_is : (a b : How) → (how_eq.ghosts).eq a b ≡ true → a ≡ b
how_is a b h = same_true how_type (search rules) a b h

format_is : (a b : Format) → (format_eq.ghosts).eq a b ≡ true → a ≡ b
format_is a b h = same_true format_type (search rules) a b h

status_is : (a b : PubStatus) → (status_eq.ghosts).eq a b ≡ true → a ≡ b
status_is a b h = same_true status_type (search rules) a b h

privileges_is : (a b : Privileges) → (privileges_eq.ghosts).eq a b ≡ true → a ≡ b
privileges_is a b h = λ i. record { bits = number_is a.bits b.bits h i }

-- ---- stories

pub story_is : (a b : Story) → same_story a b ≡ true → a ≡ b
story_is a b h =
    let one =
    both (media_is a.kind b.kind)
    (both (number_is a.urgency b.urgency)
    (both (same_is a.slugline b.slugline)
    (both (same_is a.headline b.headline)
    (both (same_is a.byline b.byline)
    (both (same_is a.language b.language)
    (both (same_is a.category b.category)
    (both (same_is a.body b.body)
    (both (flag_is a.html b.html) (same_is a.copyright b.copyright))))))))) h in
    λ i. record {
      kind = one.0 i;
      urgency = one.1.0 i;
      slugline = one.1.1.0 i;
      headline = one.1.1.1.0 i;
      byline = one.1.1.1.1.0 i;
      language = one.1.1.1.1.1.0 i;
      category = one.1.1.1.1.1.1.0 i;
      body = one.1.1.1.1.1.1.1.0 i;
      html = one.1.1.1.1.1.1.1.1.0 i;
      copyright = one.1.1.1.1.1.1.1.1.1 i;
    }

pub story_self : (a : Story) → same_story a a ≡ true
story_self a = story_laws.refl a

pub incoming_is : (a b : Incoming) → same_incoming a b ≡ true → a ≡ b
incoming_is a b h =
    let one =
    both (same_is a.identity b.identity)
    (both (number_is a.created b.created)
    (both (number_is a.embargo b.embargo)
    (both (status_is a.status b.status) (story_is a.story b.story)))) h in
    λ i. record {
      identity = one.0 i;
      created = one.1.0 i;
      embargo = one.1.1.0 i;
      status = one.1.1.1.0 i;
      story = one.1.1.1.1 i;
    }

-- ---- commands and entries

pub command_is : (a b : Command) → same_command a b ≡ true → a ≡ b
command_is (AddUser user privileges) (AddUser user2 privileges2) h = let one = both (same_is user user2) (privileges_is privileges privileges2) h in λ i. AddUser (one.0 i) (one.1 i)
command_is (SetUser user privileges) (SetUser user2 privileges2) h = let one = both (same_is user user2) (privileges_is privileges privileges2) h in λ i. SetUser (one.0 i) (one.1 i)
command_is (AddDesk desk) (AddDesk desk2) h = ap AddDesk (same_is desk desk2 h)
command_is (AddStage desk stage) (AddStage desk2 stage2) h = let one = both (same_is desk desk2) (same_is stage stage2) h in λ i. AddStage (one.0 i) (one.1 i)
command_is (SetMember desk user member) (SetMember desk2 user2 member2) h = let one = both (same_is desk desk2) (both (same_is user user2) (flag_is member member2)) h in λ i. SetMember (one.0 i) (one.1.0 i) (one.1.1 i)
command_is (AddCondition condition field op values) (AddCondition condition2 field2 op2 values2) h = let one = both (same_is condition condition2) (both (field_is field field2) (both (op_is op op2) (names_is values values2))) h in λ i. AddCondition (one.0 i) (one.1.0 i) (one.1.1.0 i) (one.1.1.1 i)
command_is (AddFilter filter statements) (AddFilter filter2 statements2) h = let one = both (same_is filter filter2) (list_is statement_is statements statements2) h in λ i. AddFilter (one.0 i) (one.1 i)
command_is (SetFilter filter statements) (SetFilter filter2 statements2) h = let one = both (same_is filter filter2) (list_is statement_is statements statements2) h in λ i. SetFilter (one.0 i) (one.1 i)
command_is (SetBlock filter on) (SetBlock filter2 on2) h = let one = both (same_is filter filter2) (flag_is on on2) h in λ i. SetBlock (one.0 i) (one.1 i)
command_is (AddProduct product how filter) (AddProduct product2 how2 filter2) h = let one = both (same_is product product2) (both (how_is how how2) (option_is same_is filter filter2)) h in λ i. AddProduct (one.0 i) (one.1.0 i) (one.1.1 i)
command_is (SetProduct product how filter) (SetProduct product2 how2 filter2) h = let one = both (same_is product product2) (both (how_is how how2) (option_is same_is filter filter2)) h in λ i. SetProduct (one.0 i) (one.1.0 i) (one.1.1 i)
command_is (AddSubscriber subscriber format products lag) (AddSubscriber subscriber2 format2 products2 lag2) h = let one = both (same_is subscriber subscriber2) (both (format_is format format2) (both (names_is products products2) (number_is lag lag2))) h in λ i. AddSubscriber (one.0 i) (one.1.0 i) (one.1.1.0 i) (one.1.1.1 i)
command_is (SetSubscriber subscriber active products off lag) (SetSubscriber subscriber2 active2 products2 off2 lag2) h = let one = both (same_is subscriber subscriber2) (both (flag_is active active2) (both (names_is products products2) (both (names_is off off2) (option_is number_is lag lag2)))) h in λ i. SetSubscriber (one.0 i) (one.1.0 i) (one.1.1.0 i) (one.1.1.1.0 i) (one.1.1.1.1 i)
command_is (Resume subscriber) (Resume subscriber2) h = ap Resume (same_is subscriber subscriber2 h)
command_is (AddScheme scheme rules) (AddScheme scheme2 rules2) h = let one = both (same_is scheme scheme2) (list_is rule_is rules rules2) h in λ i. AddScheme (one.0 i) (one.1 i)
command_is (AddProvider provider scheme) (AddProvider provider2 scheme2) h = let one = both (same_is provider provider2) (option_is same_is scheme scheme2) h in λ i. AddProvider (one.0 i) (one.1 i)
command_is (Create desk story) (Create desk2 story2) h = let one = both (same_is desk desk2) (story_is story story2) h in λ i. Create (one.0 i) (one.1 i)
command_is (Flash story targets) (Flash story2 targets2) h = let one = both (story_is story story2) (names_is targets targets2) h in λ i. Flash (one.0 i) (one.1 i)
command_is (Lock item session) (Lock item2 session2) h = let one = both (number_is item item2) (same_is session session2) h in λ i. Lock (one.0 i) (one.1 i)
command_is (Unlock item session) (Unlock item2 session2) h = let one = both (number_is item item2) (same_is session session2) h in λ i. Unlock (one.0 i) (one.1 i)
command_is (BreakLock item) (BreakLock item2) h = ap BreakLock (number_is item item2 h)
command_is (Edit item session story) (Edit item2 session2 story2) h = let one = both (number_is item item2) (both (same_is session session2) (story_is story story2)) h in λ i. Edit (one.0 i) (one.1.0 i) (one.1.1 i)
command_is (MoveTo item desk stage) (MoveTo item2 desk2 stage2) h = let one = both (number_is item item2) (both (same_is desk desk2) (same_is stage stage2)) h in λ i. MoveTo (one.0 i) (one.1.0 i) (one.1.1 i)
command_is (Spike item) (Spike item2) h = ap Spike (number_is item item2 h)
command_is (Unspike item desk) (Unspike item2 desk2) h = let one = both (number_is item item2) (same_is desk desk2) h in λ i. Unspike (one.0 i) (one.1 i)
command_is (Fetch item desk) (Fetch item2 desk2) h = let one = both (number_is item item2) (same_is desk desk2) h in λ i. Fetch (one.0 i) (one.1 i)
command_is (Publish item session schedule embargo targets) (Publish item2 session2 schedule2 embargo2 targets2) h = let one = both (number_is item item2) (both (same_is session session2) (both (option_is number_is schedule schedule2) (both (option_is number_is embargo embargo2) (names_is targets targets2)))) h in λ i. Publish (one.0 i) (one.1.0 i) (one.1.1.0 i) (one.1.1.1.0 i) (one.1.1.1.1 i)
command_is (Correct item session story) (Correct item2 session2 story2) h = let one = both (number_is item item2) (both (same_is session session2) (story_is story story2)) h in λ i. Correct (one.0 i) (one.1.0 i) (one.1.1 i)
command_is (Kill item session note) (Kill item2 session2 note2) h = let one = both (number_is item item2) (both (same_is session session2) (same_is note note2)) h in λ i. Kill (one.0 i) (one.1.0 i) (one.1.1 i)
command_is (Recall item session note) (Recall item2 session2 note2) h = let one = both (number_is item item2) (both (same_is session session2) (same_is note note2)) h in λ i. Recall (one.0 i) (one.1.0 i) (one.1.1 i)
command_is (Deschedule item) (Deschedule item2) h = ap Deschedule (number_is item item2 h)
command_is Stop Stop h = refl
command_is _ _ h = cc

pub act_is : (a b : Act) → same_act a b ≡ true → a ≡ b
act_is Advance Advance h = refl
act_is (Attempt subscriber k) (Attempt subscriber2 k2) h = let one = both (same_is subscriber subscriber2) (number_is k k2) h in λ i. Attempt (one.0 i) (one.1 i)
act_is (Receipt subscriber n) (Receipt subscriber2 n2) h = let one = both (same_is subscriber subscriber2) (number_is n n2) h in λ i. Receipt (one.0 i) (one.1 i)
act_is Halt Halt h = refl
act_is (Ingest provider incoming) (Ingest provider2 incoming2) h = let one = both (same_is provider provider2) (incoming_is incoming incoming2) h in λ i. Ingest (one.0 i) (one.1 i)
act_is (Request caller number command) (Request caller2 number2 command2) h = let one = both (same_is caller caller2) (both (number_is number number2) (command_is command command2)) h in λ i. Request (one.0 i) (one.1.0 i) (one.1.1 i)
act_is _ _ h = cc

pub entry_is : (a b : Entry) → same_entry a b ≡ true → a ≡ b
entry_is a b h =
    let one = both (number_is a.moment b.moment) (act_is a.act b.act) h in
    λ i. record { moment = one.0 i; act = one.1 i }

-- ---- the law

pub equality_is_of_fields : EqualityIsOfFields
equality_is_of_fields = record {
  stories = record { is = story_is; itself = story_laws.refl };
  incoming = record { is = incoming_is; itself = incoming_laws.refl };
  commands = record { is = command_is; itself = command_laws.refl };
  acts = record { is = act_is; itself = act_laws.refl };
  entries = record { is = entry_is; itself = entry_laws.refl };
}
